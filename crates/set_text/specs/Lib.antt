pub mod Text
pub mod Taken
