-- The definitions of a connection: what ends keep, its course, the next link, and its steps.
pub mod Notes
pub mod Course
pub mod Links
pub mod Steps
pub mod Answered
