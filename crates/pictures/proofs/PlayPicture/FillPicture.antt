pub mod StepLemmas
pub mod DrawLemmas
