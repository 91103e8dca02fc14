-- What ties the ends that an actor keeps to those that it wants: where lists and queues are as
-- history and journal show (Showing), and where ends are those that are wanted (Meeting).
pub mod Showing
pub mod Meeting
