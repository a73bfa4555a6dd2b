pub mod Bits
pub mod Zeros
pub mod Words
pub mod Firsts
pub mod FromTo
