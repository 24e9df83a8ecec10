-- The laws and proofs of crate vector, file by file.
pub mod meanings
pub mod values
pub mod errors
pub mod units
pub mod scaling
pub mod kept
pub mod pairs
pub mod rays
pub mod CornersLaws
pub mod ScaledCornersLaws
