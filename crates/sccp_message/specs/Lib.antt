-- Messages: which octets they are, how they are read and how they are written.
pub mod Causes
pub mod Encoding
pub mod Fields
pub mod Reading
pub mod Kinds
pub mod Messages
pub mod Reads
pub mod Written
pub mod Survey
pub mod Unitdata
