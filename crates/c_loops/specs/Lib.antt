pub mod Blocks
pub mod Limits
pub mod Growing
pub mod Heads
pub mod State
