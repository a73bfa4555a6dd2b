pub mod States
pub mod Found
pub mod Values
pub mod Places
