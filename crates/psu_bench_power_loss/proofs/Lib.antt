pub mod Lives
pub mod Threads
pub mod Keeping
