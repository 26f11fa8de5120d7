pub mod Numbers
pub mod TokenSplits
pub mod PlainLemmas
pub mod LineLemmas
pub mod WritingLemmas
pub mod SizeLemmas
