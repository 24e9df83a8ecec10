-- Fields: read, written, and read back.
pub mod ReadLaws
pub mod WriteLaws
pub mod NumeralLaws
pub mod NarrowLaws
pub mod PackedDigitLaws
pub mod TenDigitLaws
pub mod RoundTripLaws
pub mod FieldMeaningLaws
pub mod EightDigitLaws
