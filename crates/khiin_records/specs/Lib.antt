pub mod Syllable
pub mod Endings
pub mod Records
pub mod Keys
pub mod Stripped
pub mod RawBytes
pub mod Alignment
pub mod Prefixes
