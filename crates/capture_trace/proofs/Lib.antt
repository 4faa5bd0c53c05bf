-- Lemmas and worked examples.
mod Worked
mod Turns
mod LastLines
mod Sound
mod Forms
mod ReadAgain
mod FileOctets
mod Numerals
mod Fitting
