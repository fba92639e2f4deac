pub mod Crosses
pub mod Rising
pub mod Below
pub mod InPlace
pub mod Nested
pub mod Ends
pub mod Slots
