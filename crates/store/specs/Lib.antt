pub mod Lent
pub mod Meaning
pub mod Sizes
pub mod Tables
pub mod View
pub mod Sizing
