pub mod Rows
pub mod Steps
pub mod Asking
pub mod Attempted
pub mod Sending
pub mod ClientDid
pub mod Laws
