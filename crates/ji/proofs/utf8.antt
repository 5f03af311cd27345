pub mod Laws
pub mod Decoding
pub mod Encoding
pub mod RoundTrip
pub mod OneToOne
pub mod Last
