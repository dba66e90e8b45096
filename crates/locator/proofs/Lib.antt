pub mod Made
pub mod Bodies
pub mod Questions
pub mod Leading
pub mod Routes
pub mod Stepping
pub mod Legs
pub mod Delivering
