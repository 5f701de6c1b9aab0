pub mod Nonterminals
pub mod Ranges
pub mod Layers
pub mod Dimensions
