pub mod Blocks
pub mod Found
pub mod Table
pub mod Change
pub mod Needed
pub mod Rows
