pub mod Spliced
