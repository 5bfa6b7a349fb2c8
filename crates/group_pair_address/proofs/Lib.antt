pub mod BitsOf
