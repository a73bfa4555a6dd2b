pub mod Bare
pub mod Rows
pub mod Clashes
pub mod Apart
pub mod Touches
pub mod Built
