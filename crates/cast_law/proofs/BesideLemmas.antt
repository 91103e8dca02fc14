-- What entries carry beside hostile clients.
pub mod Queues
pub mod Naming
pub mod Sending
pub mod Serving
pub mod Around
pub mod Hands
pub mod Rounds
pub mod Carrying
pub mod Asking
