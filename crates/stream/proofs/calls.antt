-- What calls come to, one after another, by their contracts alone.
pub mod CallLaws
pub mod RoomLaws
pub mod LifeLaws
