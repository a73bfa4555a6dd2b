pub mod AsciiTemporaries
pub mod AsciiTokens
pub mod BareTemporaries
pub mod Innermost
pub mod KnownStates
pub mod KnownValues
pub mod Staying
pub mod Putting
