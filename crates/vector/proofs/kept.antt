-- Directions that scaling leaves as they are: vectors of a largest size of at least 1/2 and below 2.
pub mod F32Sizes
pub mod DoubledSquares
pub mod DoubledRoots
pub mod KeptDirections
pub mod AboutOneKept
