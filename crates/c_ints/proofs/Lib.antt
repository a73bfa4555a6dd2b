pub mod AsciiInts
pub mod BareInts
pub mod Keeping
pub mod Returning
pub mod SmallValues
