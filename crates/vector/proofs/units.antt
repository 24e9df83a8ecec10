-- Directions: unit vectors, law N, the way back, vectors near length 1, and S, which rests on N.
pub mod UnitBounds
pub mod UnitLaws
pub mod NormalizedLaws
pub mod DirectionLaws
pub mod NearUnitLaws
pub mod NonZeroLaws
pub mod AssertedLaws
