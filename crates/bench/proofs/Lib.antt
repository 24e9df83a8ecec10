-- The laws and proofs of crate bench, file by file.
pub mod SessionLaws
pub mod FeedingLaws
pub mod ReadLaws
pub mod ProgramLaws
