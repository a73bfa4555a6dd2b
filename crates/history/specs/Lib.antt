pub mod Places
pub mod Since
pub mod Moves
pub mod Items
