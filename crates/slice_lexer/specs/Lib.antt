pub mod Bytes
pub mod Pieces
pub mod Tokens
pub mod Lexing
