pub mod Board
pub mod Cover
pub mod Waiting
pub mod Laws
pub mod Marks
