-- Truth values and whole numbers; no float is named here.
pub mod BoolLaws
pub mod CompareLaws
pub mod LeadingLaws
pub mod SignedLaws
pub mod WholeRootLaws
