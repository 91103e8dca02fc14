-- What the contracts of a switch's desk say: which frames go to which port (Frames), the order of
-- its ports (Orders), what it holds, and how that stands for what passed (Desks).
pub mod Frames
pub mod Orders
pub mod Desks
