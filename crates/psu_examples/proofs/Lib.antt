pub mod Coming
pub mod Judging
pub mod Lines
