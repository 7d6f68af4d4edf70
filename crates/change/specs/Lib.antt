pub mod Change
pub mod Heard
