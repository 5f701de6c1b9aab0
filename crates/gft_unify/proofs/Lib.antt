pub mod Equations
pub mod TreeLemmas
pub mod OccursLemmas
pub mod BindingLemmas
pub mod StoreLemmas
pub mod WorkLemmas
pub mod SearchLemmas
pub mod CountLemmas
pub mod UnifierLemmas
pub mod BuildLemmas
pub mod SubstLemmas
mod Examples
