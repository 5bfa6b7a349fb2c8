pub mod AnyLine
