pub mod SelectClauses
