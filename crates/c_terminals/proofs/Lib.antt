pub mod Lists
pub mod Owning
pub mod Stacks
pub mod Among
pub mod Remarks
pub mod Placing
