pub mod Broadcasting
