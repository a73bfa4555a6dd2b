pub mod Bare
pub mod Captures
pub mod Regions
pub mod Counts
pub mod Parts
pub mod Shown
pub mod Outline
pub mod Walk
