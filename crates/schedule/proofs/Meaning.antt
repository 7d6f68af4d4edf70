pub mod Begins
pub mod Continues
pub mod Effects
pub mod Laws
pub mod Whole
