pub mod Table
pub mod Full
pub mod Unicode16
pub mod Answer
