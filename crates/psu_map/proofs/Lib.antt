pub mod Lists
pub mod Keys
pub mod Maps
pub mod Sorted
pub mod Costs
pub mod Aiming
pub mod Keeping
pub mod FirstTarget
