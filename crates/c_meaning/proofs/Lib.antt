pub mod Operators
pub mod Expressions
pub mod Statements
pub mod SameRows
pub mod Signed
