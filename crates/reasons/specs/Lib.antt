pub mod Past
pub mod Stale
pub mod Conflicting
