pub mod Blocks
pub mod Declarations
pub mod Puts
pub mod Indices
pub mod Scalars
pub mod Loops
pub mod Lines
pub mod Locals
