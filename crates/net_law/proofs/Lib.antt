-- The proofs of the laws of the network class.
pub mod Beginnings
pub mod Filled
pub mod Arriving
pub mod Answering
pub mod DeliveringLemmas
pub mod WireLemmas
pub mod OwnersLemmas
pub mod RxOwners
pub mod PartsLemmas
pub mod TxParts
pub mod RestsLemmas
pub mod TxRests
pub mod HopsLemmas
pub mod TxScene
pub mod DropsLemmas
