pub mod Macros
pub mod Definitions
pub mod Text
