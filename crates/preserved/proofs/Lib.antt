pub mod Marked
pub mod Unchanged
