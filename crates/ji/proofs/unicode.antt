pub mod Laws
pub mod Reader
pub mod Checked
pub mod Ascii
pub mod Bytes
pub mod Replied
