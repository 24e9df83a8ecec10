-- What the definitions come to: masks, components, order, positions, clamps, signs, orthogonal vectors, where there is no direction, longer parts, and the marks of lengths.
pub mod MaskLaws
pub mod IndexedLaws
pub mod ClampLaws
pub mod PositionLaws
pub mod SignsLaws
pub mod NormalizingLaws
pub mod OrthogonalLaws
pub mod LongerPartsLaws
pub mod ExactLengthLaws
