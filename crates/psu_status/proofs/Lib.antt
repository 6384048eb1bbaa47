pub mod FirstRequest
pub mod Fifteen
