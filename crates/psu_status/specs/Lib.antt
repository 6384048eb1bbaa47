pub mod Registers
pub mod Status
