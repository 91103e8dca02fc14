pub mod AnswerLemmas
pub mod IsolationLemmas
pub mod PlanLemmas
pub mod ServeLemmas
pub mod SoundLemmas
pub mod SystemRun
