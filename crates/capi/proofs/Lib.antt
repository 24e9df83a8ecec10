-- The laws and proofs of crate capi, file by file.
pub mod FreshLaws
pub mod RootDigitLaws
