pub mod ToldLemmas
pub mod RunLemmas
pub mod TurnLemmas
pub mod EndLemmas
pub mod WordLemmas
pub mod MakeLemmas
