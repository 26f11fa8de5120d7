pub mod LogLineLaws
pub mod HeadLaws
pub mod ShownLaws
pub mod NameLemmas
pub mod SpacedLemmas
pub mod LogSteps
pub mod PlaceSteps
