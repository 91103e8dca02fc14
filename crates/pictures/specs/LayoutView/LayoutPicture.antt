-- What the contracts of the picture of a layout say: names that are looked up (Names), columns and
-- rows (Grid), boxes (Cards), queues (Queues), channels (Channels), who owns pools (Owners),
-- regions and pools (Memory), the whole (Pictures), and the graph (Graph).
pub mod Names
pub mod Grid
pub mod Cards
pub mod Queues
pub mod Channels
pub mod Owners
pub mod Memory
pub mod Pictures
pub mod Graph
