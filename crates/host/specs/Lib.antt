pub mod Once
pub mod Origins
pub mod Threads
pub mod Stops
pub mod Idle
pub mod Handing
pub mod Sent
pub mod Looks
