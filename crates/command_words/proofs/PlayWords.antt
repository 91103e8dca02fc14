pub mod CountLemmas
pub mod NameLemmas
pub mod OptionLemmas
pub mod SoFar
pub mod WordLemmas
