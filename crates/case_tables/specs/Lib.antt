pub mod Tables
pub mod Protocol
pub mod Rows
pub mod BrokenRows
pub mod Broken
