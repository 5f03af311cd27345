pub mod Records
pub mod Spelling
pub mod RawBytes
pub mod Walking
pub mod Candidates
pub mod Stripping
pub mod Prefixes
