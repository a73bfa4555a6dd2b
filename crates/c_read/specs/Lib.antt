pub mod Globals
pub mod Boxes
pub mod Parts
pub mod Gathering
pub mod Read
pub mod Spells
pub mod Starts
