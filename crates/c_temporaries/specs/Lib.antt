pub mod Temporaries
pub mod Parts
pub mod States
