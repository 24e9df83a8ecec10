-- The root: its digits, the rounded root, what it means, whether it is exact, its error and its order.
pub mod DigitLaws
pub mod RootLaws
pub mod RootPartsLaws
pub mod RootCases
pub mod ExactRootLaws
pub mod RootMeaningLaws
pub mod RootErrorLaws
pub mod RootOrderLaws
pub mod ExactMeaningLaws
pub mod RootMonotoneLaws
