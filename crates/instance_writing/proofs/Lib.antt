pub mod Tables
pub mod Ids
pub mod WrittenIds
pub mod Placed
pub mod Fronts
pub mod Steps
pub mod Stacks
