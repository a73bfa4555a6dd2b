pub mod Left
pub mod Action
pub mod Machine
pub mod Headline
