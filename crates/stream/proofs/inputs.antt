-- A whole input, by any way of doing one command: pieces, lines that are kept, answers, and lent words.
pub mod PieceLaws
pub mod KeptLineLaws
pub mod LineFeedLaws
pub mod InputLaws
pub mod LentFeedLaws
