-- What actors leave that have gone apart over rings.
pub mod Gone
