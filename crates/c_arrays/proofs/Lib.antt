mod Lifting
mod Lengths
