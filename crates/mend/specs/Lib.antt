pub mod Bare
pub mod Mends
