pub mod Results
pub mod Growing
pub mod Sets
pub mod Turning
pub mod Messages
pub mod Calls
pub mod Bounds
pub mod Sessions
pub mod Shares
mod Rows
pub mod Working
