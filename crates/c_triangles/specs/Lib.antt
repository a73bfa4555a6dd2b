pub mod Bounds
pub mod Blocks
pub mod Heads
pub mod Loops
pub mod Guards
pub mod State
