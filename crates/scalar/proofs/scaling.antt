-- Products with powers of two, and the bits of sizes.
pub mod PowerLaws
pub mod PowerTwiceLaws
pub mod PowersMeaningLaws
pub mod SizeBitsLaws
