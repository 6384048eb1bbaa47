pub mod Labels
pub mod Contents
pub mod Commands
pub mod Entries
pub mod Costs
pub mod Parts
pub mod Decoding
pub mod Views
