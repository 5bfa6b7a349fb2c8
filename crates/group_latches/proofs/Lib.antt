pub mod StateOf
