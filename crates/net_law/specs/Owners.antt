-- The owners of the network's buffers: what items name, queue by queue (Names), the ends of its
-- actors and what the laws ask of the names there (Ends), and the actor that lends (Lending).
pub mod Names
pub mod Ends
pub mod Lending
