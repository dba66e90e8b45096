pub mod Lists
pub mod Clients
pub mod Servers
