pub mod Keeping
pub mod Naming
pub mod Numbering
pub mod Reading
pub mod Splitting
pub mod Telling
