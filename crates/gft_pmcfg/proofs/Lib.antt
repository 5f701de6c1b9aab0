pub mod Firsts
pub mod Languages
pub mod Loops
pub mod Fitting
pub mod Indices
