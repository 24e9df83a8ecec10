-- Floats by their values: sign and size, order, which are finite and which are whole.
pub mod ValueLaws
pub mod SizeLaws
pub mod FiniteLaws
pub mod ValueOrderLaws
pub mod AscendingLaws
pub mod WholeLaws
