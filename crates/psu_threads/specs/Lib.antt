pub mod Called
pub mod Seated
pub mod Rounds
