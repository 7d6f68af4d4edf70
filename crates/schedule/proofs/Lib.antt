pub mod Meaning
pub mod ReadBack
pub mod Report
pub mod Simulation
pub mod Theorem
pub mod Walk
