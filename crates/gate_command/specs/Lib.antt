pub mod Words
pub mod Decided
pub mod Gated
pub mod Steps
pub mod Laws
