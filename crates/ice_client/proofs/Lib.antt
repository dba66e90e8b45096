pub mod Messages
pub mod Reading
pub mod Rowed
pub mod Conversing
pub mod Delivering
pub mod Preparing
pub mod Counting
pub mod OneRow
