pub mod Abstraction
pub mod Header
