-- Which parts the actors of a plan play (Jobs), where they are seated (Seats), where its classes
-- with pools stand (Places), their pools (Pools) with the lines of a report (PoolLines) and each of
-- their buffers (Pages), and what runs over rings begin with (Runs) and leave (Gone); and casts that
-- are the same, whatever their hostile clients have yet to do (Restarting).
pub mod Jobs
pub mod Seats
pub mod Places
pub mod Pools
pub mod PoolLines
pub mod Pages
pub mod Runs
pub mod Gone
pub mod Restarting
