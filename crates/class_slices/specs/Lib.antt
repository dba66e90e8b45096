pub mod Enclosing
pub mod Encoding
pub mod Unknown
pub mod ExceptionEncoding
pub mod ExceptionUnknown
pub mod Seen
