pub mod Formats
pub mod Ids
pub mod Sorts
pub mod Tabling
pub mod Pens
pub mod Writable
pub mod Opened
pub mod Remains
