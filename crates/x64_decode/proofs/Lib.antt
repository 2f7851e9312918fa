pub mod ByteReaders
pub mod ByteCounts
pub mod PartsRead
pub mod FieldParts
pub mod DecodeExact
pub mod DecodeSizes
mod DecodeExamples
