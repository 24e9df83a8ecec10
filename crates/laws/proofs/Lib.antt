-- The laws and proofs of crate laws, file by file.
pub mod solvers
pub mod numbers
pub mod values
pub mod rounding
pub mod operations
pub mod Examples
