pub mod BitParts
