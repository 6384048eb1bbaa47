pub mod Recording
pub mod Responses
