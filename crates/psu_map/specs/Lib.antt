pub mod Map
pub mod Place
pub mod Batch
pub mod Plan
pub mod Target
pub mod Capacity
pub mod CapacityLaws
