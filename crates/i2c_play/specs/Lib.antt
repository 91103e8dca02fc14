-- What the play of a bus is: how many steps are enough for it (Bounds), the player and its report
-- (Plays), what the play promises of its report (Playing), and how that prints (Texts).
pub mod Bounds
pub mod Plays
pub mod Playing
pub mod Texts
