-- Law P: the two directions orthogonal to a direction.
pub mod PairProducts
pub mod PairDotCertificates
pub mod UnitDotCertificates
pub mod PairNumbers
pub mod PairSigns
pub mod PairRoundings
pub mod PairDots
pub mod PairDirections
pub mod PairLaws
