pub mod Entries
pub mod Examples
pub mod Named
