pub mod Slices
pub mod Reopened
pub mod Unfinished
pub mod Stacked
