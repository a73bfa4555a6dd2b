pub mod Source
pub mod Fine
pub mod Checking
pub mod Listing
pub mod InC
pub mod Loading
