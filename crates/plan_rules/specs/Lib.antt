-- Translation rows and tables, and the row that counts for a title.
pub mod FirstOf
pub mod Target
pub mod Rule
pub mod Rows
pub mod Order
pub mod Keys
pub mod Tables
