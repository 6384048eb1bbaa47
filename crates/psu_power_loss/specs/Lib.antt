pub mod World
pub mod Events
pub mod Lives
pub mod Headline
