pub mod Arenas
pub mod TypeIds
pub mod Chains
