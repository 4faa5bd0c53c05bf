-- The lemmas of this crate.
mod Worked
mod LinesTold
