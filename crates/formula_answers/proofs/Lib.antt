pub mod JudgedAgreement
pub mod SolvedLemmas
pub mod SolvedAgreement
