pub mod Digits
pub mod KeyRegister
pub mod Layers
pub mod PresentRounds
pub mod SpeckRounds
pub mod Tables
pub mod Vectors
