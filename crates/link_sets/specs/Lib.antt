pub mod Pairs
pub mod Sets
pub mod Count
pub mod Statement
