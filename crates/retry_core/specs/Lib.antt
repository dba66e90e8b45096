pub mod Retries
pub mod ClientTable
pub mod Client
pub mod ClientRuns
pub mod Server
pub mod ServerRuns
