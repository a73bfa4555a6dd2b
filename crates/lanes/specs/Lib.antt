pub mod Apart
pub mod Numbers
pub mod There
pub mod Turned
pub mod Sums
pub mod Moved
