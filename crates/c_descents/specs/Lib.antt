pub mod Parts
pub mod Blocks
pub mod Heads
pub mod Loops
pub mod Lines
pub mod State
