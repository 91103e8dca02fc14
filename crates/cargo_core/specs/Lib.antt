-- What the contracts of items, bodies and pages say, and those of lists and of what actors record.
pub mod Blocks
pub mod Bodies
pub mod Capacities
pub mod Items
pub mod Lists
pub mod Loans
pub mod Pages
pub mod Ranges
pub mod Tapes
