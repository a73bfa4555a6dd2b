pub mod Requests
pub mod Refusals
pub mod Misuses
pub mod Steps
pub mod Meanings
pub mod Refusing
