pub mod Host
pub mod Lines
pub mod Memory
pub mod Outside
pub mod Place
pub mod Sound
pub mod Steps
pub mod Stores
