pub mod Spans
pub mod Asked
