pub mod Seen
pub mod Sorts
pub mod Heads
pub mod Fitting
