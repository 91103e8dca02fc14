pub mod LaneLemmas
pub mod DrawLemmas
pub mod PairLemmas
pub mod PartnerLemmas
pub mod FillPicture
pub mod PoolPicture
