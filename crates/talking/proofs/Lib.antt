pub mod Adding
pub mod Readers
pub mod Said
pub mod Ends
pub mod Told
