-- Where the buffers of a cast at play are, one by one (Paging).
pub mod Paging
