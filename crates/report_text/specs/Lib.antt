-- What the contracts of the printed texts say.
pub mod Answers
pub mod Journals
pub mod Layouts
pub mod Lines
pub mod Places
pub mod Reports
pub mod Runs
