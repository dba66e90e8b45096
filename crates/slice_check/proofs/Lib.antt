mod Texts
mod Steps
mod Sets
mod Includes
mod Coming
mod Ranges
mod Faults
