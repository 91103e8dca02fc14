mod QuoteLemmas
pub mod XmlText
