pub mod AnswerLemmas
pub mod CallerLemmas
pub mod ChunkLemmas
pub mod LineLemmas
pub mod PlaceLemmas
pub mod StoreLemmas
pub mod ToldLemmas
