-- Lemmas and worked examples.
mod Worked
mod Keys
mod Lists
mod Repeats
mod Runs
mod Apart
mod Chains
mod Stories
mod Come
mod Steps
mod Caches
mod Outcomes
