pub mod Rest
pub mod Number
