-- What the play of a switch is: how many steps are enough for it (Bounds), what it promises
-- (Playing), and how its report prints (Texts).
pub mod Bounds
pub mod Playing
pub mod Texts
pub mod SwitchSystem
