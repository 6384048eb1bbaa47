pub mod Locks
pub mod Table
