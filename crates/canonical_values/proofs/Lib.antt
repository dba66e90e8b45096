pub mod Fronts
pub mod Leaves
pub mod Compared
pub mod Rows
pub mod Keyed
pub mod Joined
pub mod Passed
pub mod Kept
