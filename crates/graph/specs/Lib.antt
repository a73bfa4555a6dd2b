pub mod Escaped
pub mod Nexts
