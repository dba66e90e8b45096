pub mod Answers
pub mod Walking
pub mod Held
pub mod Opening
pub mod Standing
