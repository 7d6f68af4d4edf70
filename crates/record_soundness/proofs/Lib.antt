pub mod Each
pub mod Flat
