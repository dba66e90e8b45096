pub mod Taking
pub mod Tellings
pub mod Advancing
pub mod Decided
pub mod OneDump
pub mod Dumping
