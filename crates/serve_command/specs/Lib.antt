pub mod ObjectWords
pub mod Words
pub mod Reading
pub mod Adapters
pub mod Served
pub mod Steps
pub mod Laws
