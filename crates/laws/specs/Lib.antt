-- The definitions of crate laws, file by file.
pub mod Within
pub mod Exact
pub mod Determines
pub mod RoundsTo
pub mod Sticky
pub mod WholeRoot
