pub mod Types
pub mod Values
pub mod Programs
pub mod Same
pub mod Worked
pub mod Constants
