-- Fields at their columns: command lines and answer lines.
pub mod ColumnLaws
pub mod CommandLineLaws
pub mod AnswerLineLaws
pub mod LineMeaningLaws
