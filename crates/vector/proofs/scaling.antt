-- Vectors scaled by a power of two: by their bits, what scaling comes to, law U, and which vectors have no direction.
pub mod LargestLaws
pub mod ScaledBits
pub mod ThreeZeros
pub mod ScaledComponents
pub mod BoundedSquares
pub mod ScaledLaws
pub mod NoDirectionLaws
pub mod UncheckedLaws
pub mod ScaledByLaws
