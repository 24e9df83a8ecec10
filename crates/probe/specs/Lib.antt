-- The definitions of crate probe, file by file.
pub mod Bounds
pub mod Shows
