pub mod Innermost
pub mod Stepping
pub mod Passing
