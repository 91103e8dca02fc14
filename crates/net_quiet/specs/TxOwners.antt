-- The sending virtualiser among the owners of the network's buffers: what items name at its queues.
pub mod Shipping
