pub mod ReadNumbers
