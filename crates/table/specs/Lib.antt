pub mod Model
pub mod Sound
pub mod Turns
