pub mod Array
