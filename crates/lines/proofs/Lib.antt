-- The laws and proofs of crate lines, file by file.
pub mod numerals
pub mod columns
pub mod CornersLaws
