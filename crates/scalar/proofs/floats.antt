-- Floats by their bits, their parts and their signs.
pub mod BitsLaws
pub mod PackLaws
pub mod PartsLaws
pub mod SignLaws
pub mod BitSignLaws
pub mod FitsLaws
