pub mod Inside
pub mod Fitting
pub mod Found
