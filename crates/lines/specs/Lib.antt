-- The definitions of crate lines, file by file.
pub mod Field
pub mod FieldMeaning
pub mod Columns
pub mod ColumnParts
pub mod PackedDigits
pub mod CommandLine
pub mod AnswerLine
pub mod LineMeaning
pub mod Corners
