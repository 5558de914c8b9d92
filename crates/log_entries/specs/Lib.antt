pub mod Checksums
pub mod Entries
