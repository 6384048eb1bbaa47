pub mod Calling
pub mod Seating
