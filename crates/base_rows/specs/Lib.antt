-- What the rows' helpers say: of calls by hand (Hands), and of a driver over rings (Seats).
pub mod Hands
pub mod Seats
