-- The whole block class where nobody is runnable (Still), and at any moment: at the layout's queues
-- (Cast), and its pools (Pools).
pub mod Still
pub mod Cast
pub mod Pools
