pub mod Turns
pub mod History
pub mod Seats
pub mod Sights
pub mod Rule
pub mod Steps
pub mod Takings
