pub mod Measuring
pub mod Outputs
pub mod Trips
