pub mod Serving
pub mod ReceivedMessages
pub mod Executing
pub mod Stepping
pub mod Stopping
pub mod Interrupting
pub mod Rooms
