pub mod Accesses
pub mod Parameters
pub mod Refusals
