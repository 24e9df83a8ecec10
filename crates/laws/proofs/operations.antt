-- Sums, differences and products of floats, each rounded once, and the order that they keep.
pub mod SumLaws
pub mod SumSame
pub mod SumSigns
pub mod OperationLaws
pub mod DifferenceLaws
pub mod RoundedOperations
pub mod MonotoneLaws
pub mod ExactProducts
