-- How full queues are over the steps of a journal (Fills).
pub mod Fills
