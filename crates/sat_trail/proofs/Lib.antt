pub mod LitLemmas
pub mod TrailLemmas
pub mod CutLemmas
