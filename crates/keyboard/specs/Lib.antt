pub mod Answers
pub mod Buffers
pub mod Laws
pub mod Lines
pub mod Names
pub mod Splits
pub mod Worked
