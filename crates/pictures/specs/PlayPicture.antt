-- What the contracts of charts say: which put and which take belong together (Pairs), calls in
-- words and inks (Words), lanes and steps (Lanes), what the marks are (Legend), arrows (Arrows),
-- what is drawn of each step (Chart), and the whole (Pictures).
pub mod Pairs
pub mod Words
pub mod Lanes
pub mod Legend
pub mod Arrows
pub mod Chart
pub mod Pictures
pub mod FillPicture
pub mod PoolPicture
