pub mod Chains
pub mod OneWay
