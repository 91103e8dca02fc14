-- What the contracts on the kit of the bus say: what the bytes of a buffer say (Pages), which buffer
-- an item names (Entries), what devices do (Devices), who has an address (Grants), the replies of
-- each client (Replies), and how the bus does its requests (Serving).
pub mod Pages
pub mod Entries
pub mod Devices
pub mod Grants
pub mod Replies
pub mod Serving
