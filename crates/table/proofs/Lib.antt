pub mod Lent
pub mod LookUp
pub mod Masks
pub mod Reach
pub mod Search
