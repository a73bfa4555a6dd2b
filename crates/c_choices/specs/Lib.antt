pub mod Parts
pub mod State
pub mod Held
