pub mod Listing
pub mod Refusals
pub mod Checked
pub mod Runs
pub mod Faults
