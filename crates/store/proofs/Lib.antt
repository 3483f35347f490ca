pub mod Evidence
mod Fitting
pub mod Views
