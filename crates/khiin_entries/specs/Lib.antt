pub mod KeySequence
pub mod Choices
pub mod Listing
pub mod Lines
