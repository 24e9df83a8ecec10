-- The rounding errors of squared lengths, of lengths and their reciprocals, and of dot products.
pub mod SquaredLengthLaws
pub mod SquaredLengthBounds
pub mod SquaredLengthErrors
pub mod ReciprocalLaws
pub mod ReciprocalErrors
pub mod DotSums
pub mod DotErrorLaws
pub mod LengthErrorLaws
pub mod NearOneRoots
