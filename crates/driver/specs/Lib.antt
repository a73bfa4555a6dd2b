pub mod Statuses
pub mod Printed
pub mod Refused
pub mod Misused
pub mod Stepping
