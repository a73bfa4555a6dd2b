pub mod OneNext
pub mod Examples
