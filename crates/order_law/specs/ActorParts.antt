-- Actors apart, each with its ends over shared rings: what each stands for (Parting), and how they
-- begin (Opening).
pub mod Parting
pub mod Opening
pub mod Given
pub mod Opened
pub mod Ready
pub mod Going
pub mod Placing
pub mod Finished
pub mod Numbered
