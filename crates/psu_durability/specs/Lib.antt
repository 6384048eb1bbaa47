pub mod Premise
pub mod Found
pub mod Served
