pub mod Hearing
pub mod Writing
pub mod Said
pub mod Ends
pub mod Told
