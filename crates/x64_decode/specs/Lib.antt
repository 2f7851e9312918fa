pub mod ByteReading
pub mod Decoding
pub mod InnerReading
