-- What `serve` does (Served), by what the words and the texts decide and what comes of it
-- (Decisions, Outcomes, Judged, Answers, Codes), how texts are read (Readings, Names, Outside,
-- FaultPlans), how the answer is written (Sunk), what is shown of a play or a run (Shown,
-- SystemRun), and answers that show systems (Isolation).
pub mod Answers
pub mod Isolation
pub mod Outcomes
pub mod Served
pub mod Shown
pub mod Sure
pub mod SystemRun
