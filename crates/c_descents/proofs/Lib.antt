pub mod Innermost
pub mod Wholes
pub mod Heading
