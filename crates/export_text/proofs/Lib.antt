mod ElementLemmas
mod NumberLemmas
mod NameLemmas
mod FieldLemmas
mod FileLemmas
pub mod ConfigText
