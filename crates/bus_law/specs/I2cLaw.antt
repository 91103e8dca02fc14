-- What the laws on the replies say: which requests and replies are a client's (Shares), how its
-- requests were judged (Judging), and what the actors' rows say of one moment (Moments).
pub mod Shares
pub mod Judging
pub mod Moments
