pub mod Encoded
pub mod FirstUnknown
pub mod Sound
pub mod Writable
pub mod Read
pub mod Named
pub mod Written
