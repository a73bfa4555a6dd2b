pub mod Innermost
pub mod Heading
pub mod Wholes
