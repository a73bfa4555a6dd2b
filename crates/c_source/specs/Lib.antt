pub mod Source
pub mod Claims
