pub mod Image
pub mod Shown
pub mod Free
pub mod Writing
pub mod Spelling
pub mod Single
pub mod Finding
pub mod Outcome
