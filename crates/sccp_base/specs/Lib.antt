-- The values that every layer names, and the forms of their texts and octets.
pub mod Answers
pub mod Bcd
pub mod Bits
pub mod DigitText
pub mod Digits
pub mod Marks
pub mod MarkOrder
pub mod Names
pub mod Selector
pub mod Text
