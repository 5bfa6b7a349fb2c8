-- The bytes that the program prints, and what a call that prints them answers, in reading order. Nothing here imports a law.
pub mod Text
pub mod PrintCalls
