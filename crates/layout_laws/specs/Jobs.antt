-- The jobs of a plan's actors (Jobs), and whose the layout's queues are by these (Queues).
pub mod Jobs
pub mod Queues
