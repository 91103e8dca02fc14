-- What the contracts on a client of the bus say: the buffers in its hand (Hands), its record of
-- replies (Replies), what it asks and what came of it (Asking), and what it must fit, what it
-- stands for and its row (Clients).
pub mod Hands
pub mod Replies
pub mod Asking
pub mod Clients
