pub mod Model
pub mod Rows
pub mod Visits
