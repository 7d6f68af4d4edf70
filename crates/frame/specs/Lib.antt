pub mod Message
pub mod Encoding
pub mod Slots
pub mod Reading
