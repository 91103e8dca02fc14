-- The proofs on the replies.
pub mod Lookups
pub mod Owning
pub mod Walking
pub mod Serving
pub mod Combining
pub mod Requests
pub mod Saying
pub mod Answering
pub mod Meeting
