pub mod Kept
pub mod Unfit
pub mod Verdicts
