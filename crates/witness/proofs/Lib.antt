pub mod Sources
pub mod Told
pub mod Ends
pub mod StopLines
pub mod Words
