pub mod ReadBack
pub mod Taken
pub mod Text
