pub mod Digits
pub mod Words
pub mod Runs
