pub mod Rest
pub mod Weight
pub mod Begin
pub mod Strand
pub mod Acting
pub mod Control
pub mod Opening
