pub mod Examples
pub mod SpacingLemmas
pub mod WordLemmas
