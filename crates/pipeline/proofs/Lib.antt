pub mod FirstArrays
pub mod FineRuns
pub mod InC
pub mod Listings
pub mod Runs
pub mod Texts
