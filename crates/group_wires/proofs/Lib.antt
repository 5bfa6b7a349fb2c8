pub mod WiresOf
