pub mod Kinds
pub mod Pages
