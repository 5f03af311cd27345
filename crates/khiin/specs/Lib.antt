pub mod Syllable
pub mod Compose
pub mod Converter
pub mod Telex
pub mod RawInput
