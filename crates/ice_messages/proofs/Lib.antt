mod Contexts
mod Entries
mod Sums
mod Putting
mod Called
pub mod Whole
pub mod Streams
pub mod Runs
pub mod Orderly
pub mod Writable
pub mod Puts
mod Cuts
mod Nexts
mod Running
pub mod Settled
pub mod Near
pub mod Faults
mod Breaking
mod Lacking
mod Headers
mod FirstFaults
mod Known
mod Inputs
