mod Bytes
mod Resets
pub mod Apart
pub mod Blank
pub mod Pieces
pub mod Ranges
