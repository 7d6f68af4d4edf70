pub mod TwoFrames
