pub mod Seen
pub mod Held
pub mod Ahead
pub mod Names
pub mod Lines
