pub mod Innermost
pub mod Summing
pub mod Passing
