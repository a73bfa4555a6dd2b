pub mod Witnesses
pub mod Shell
pub mod Texts
