pub mod Reach
pub mod Rows
pub mod Views
pub mod Laws
