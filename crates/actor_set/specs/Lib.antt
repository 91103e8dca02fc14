-- What the contracts of actors of all kinds say (Actors, Parts, StartStates), what ties each to its
-- part (Laws), what holds once it forgets its last looks (Adopting), and what is said of a hostile
-- client (Rogues).
pub mod Parts
pub mod Actors
pub mod StartStates
pub mod Laws
pub mod Adopting
pub mod Rogues
