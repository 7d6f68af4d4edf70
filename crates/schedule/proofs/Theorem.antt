pub mod Histories
pub mod Lines
pub mod Agrees
pub mod States
