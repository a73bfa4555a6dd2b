pub mod Devices
pub mod Mapped
pub mod Roles
pub mod Turns
