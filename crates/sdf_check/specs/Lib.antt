-- The rules of plans (Rules, ClassRules) and what a valid plan is (Valid); what the rules take from
-- a plan (Names); the others say what the judge finds out and keeps.
pub mod ClassRules
pub mod Keys
pub mod Lookups
pub mod Meetings
pub mod Names
pub mod Priors
pub mod Rules
pub mod Sweeps
pub mod Uses
pub mod Valid
