mod Parting
mod Lifting
pub mod Holding
