pub mod Kept
pub mod Recalling
pub mod Rising
pub mod Speaking
