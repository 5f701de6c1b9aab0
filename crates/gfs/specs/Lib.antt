-- Definitions of the program.
pub mod Codes
