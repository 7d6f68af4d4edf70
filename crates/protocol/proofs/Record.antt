pub mod Announced
pub mod Laws
