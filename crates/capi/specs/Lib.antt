-- The definitions of crate capi, file by file.
pub mod Fresh
