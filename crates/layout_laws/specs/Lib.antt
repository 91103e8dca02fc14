-- What the laws on the layouts of valid plans say: of its queues, pools and actors (Sound), of the
-- jobs of actors (Jobs), and of the queues at which these stand (Seats).
pub mod Sound
pub mod Jobs
pub mod Seats
pub mod RegionLaws
