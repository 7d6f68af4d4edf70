pub mod Count
pub mod Pairs
pub mod Sets
pub mod Theorem
