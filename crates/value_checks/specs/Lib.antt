pub mod First
pub mod Forms
pub mod References
pub mod Zeros
