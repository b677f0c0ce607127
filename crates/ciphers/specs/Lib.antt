pub mod Functions
pub mod Parts
pub mod Present
pub mod Speck
pub mod Vectors
