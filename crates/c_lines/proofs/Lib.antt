pub mod Feeds
pub mod Lengths
pub mod Others
