mod Innermost
mod Wholes
mod Passing
mod Turning
mod Parting
mod Unrolling
mod Counting
