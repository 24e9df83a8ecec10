-- `trunc`, `floor` and `round`: a float made whole.
pub mod IntegralLaws
pub mod IntegralRules
pub mod IntegralSums
pub mod TruncLaws
pub mod IntegralBits
pub mod IntegralMeaningLaws
