-- Rounding: to nearest, overflow, the sticky bit, and how far it goes.
pub mod ClosestLaws
pub mod CarryLaws
pub mod ClosestSticky
pub mod StickyLaws
pub mod KeptLaws
pub mod GridLaws
pub mod OverflowLaws
pub mod RoundNearest
pub mod RoundDetermined
pub mod RoundingError
pub mod ErrorLaws
pub mod GridErrorLaws
