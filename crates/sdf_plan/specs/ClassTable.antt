-- The rows of each element (Rows), the table of a plan (Table), the domains and regions that an
-- element names (Names), which elements stand before one (Order), the programs of a role (Roles),
-- what queues and pools take of their regions (Sizes), the texts of their names (Named), how many
-- clients there may be (Numbers), and what the program's rows show (Shown).
pub mod Named
pub mod Names
pub mod Numbers
pub mod Order
pub mod Roles
pub mod Rows
pub mod Shown
pub mod Sizes
pub mod Table
