-- What `feed`, `ended` and `respond` do: bytes that are consumed, lines that end, answer lines in lent bytes, a turn of the loop.
pub mod ConsumedLaws
pub mod HearLaws
pub mod EndLaws
pub mod AnswerLaws
pub mod FeedLaws
pub mod TurnLaws
pub mod ResponseLaws
pub mod FedLaws
