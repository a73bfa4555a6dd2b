pub mod Updates
pub mod Statements
pub mod Simple
pub mod Loops
pub mod Blocks
pub mod Bodies
