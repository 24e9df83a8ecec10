-- The fused multiply-add: its factors, its sum and its one rounding.
pub mod FusedSum
pub mod FusedMeaningLaws
pub mod UlpLaws
pub mod WordLaws
pub mod RoundPackLaws
pub mod RoundStickyLaws
pub mod AlignLaws
pub mod FusedLaws
