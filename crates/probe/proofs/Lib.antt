-- The laws of crate probe, file by file.
pub mod NumberSigns
pub mod ZeroBits
