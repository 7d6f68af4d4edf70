pub mod Changes
pub mod Idle
pub mod Kept
pub mod Laws
pub mod Running
