-- The laws and proofs of crate sheet, file by file.
pub mod words
mod ring
pub mod RunByLaws
pub mod LentStepLaws
pub mod LentLaws
mod RunLaws
mod FrontLaws
