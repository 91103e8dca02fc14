-- The words (Words), the status codes (Codes), the lines of refusals (Lines), what is decided
-- (Deciding), which texts are opened (Opening), and what becomes of the answer (Viewed).
pub mod Codes
pub mod Deciding
pub mod Lines
pub mod Opening
pub mod Viewed
pub mod Words
