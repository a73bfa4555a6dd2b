pub mod Ints
pub mod Parts
