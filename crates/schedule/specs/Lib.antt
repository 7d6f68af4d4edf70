pub mod Header
pub mod Walk
pub mod Meaning
pub mod Report
pub mod Theorem
