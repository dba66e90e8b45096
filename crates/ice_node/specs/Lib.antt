pub mod Carrying
pub mod Promises
pub mod Through
