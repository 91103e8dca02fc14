-- The definitions of a system at play: what it shows (Shows, Reports, Crews, Pools), what holds of
-- it (Lawful, BadOnes, Dropped), how it is built and played (Builds, Plays, PlanPlays), in which
-- classes all arrives (GivesBack), how it takes over what threads left (Adopting), what two of them
-- have to agree in (Isolation), and inside, what it keeps (Asking, States, Starts, Systems,
-- Inside).
pub mod Shows
pub mod Plays
pub mod Reports
pub mod BadOnes
pub mod PoolLines
pub mod Dropped
pub mod Lawful
pub mod Crews
pub mod Builds
pub mod GivesBack
pub mod PlanPlays
pub mod Isolation
pub mod Asking
pub mod States
pub mod Starts
pub mod Systems
pub mod Adopting
pub mod Inside
pub mod Pools
