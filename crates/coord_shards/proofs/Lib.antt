pub mod StepLemmas
pub mod CallLemmas
pub mod CloseLemmas
