pub mod Examples
pub mod Held
pub mod Shown
