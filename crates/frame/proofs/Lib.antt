pub mod Encoding
pub mod Message
pub mod Reading
pub mod Slots
