pub mod Places
pub mod Heads
pub mod Reopened
pub mod Stages
pub mod Stack
pub mod Wholes
