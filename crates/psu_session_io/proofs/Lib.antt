pub mod Discarding
pub mod Stopped
pub mod Reading
pub mod Extending
pub mod FirstBytes
