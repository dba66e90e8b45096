pub mod Lines
pub mod Dumps
pub mod Sources
pub mod Steps
