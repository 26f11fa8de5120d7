pub mod FormLemmas
pub mod MoveLemmas
