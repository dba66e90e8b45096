mod Cursors
mod Texts
mod Sets
mod Laws
mod Loops
mod Fitting
mod Fits
mod Nesting
pub mod Breaking
mod Series
mod Starts
mod Exits
mod Moves
mod Guards
mod Holding
mod Giving
mod Transfers
pub mod Orders
mod Tagless
pub mod RegularItems
