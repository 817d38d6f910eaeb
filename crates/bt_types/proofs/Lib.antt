pub mod LawfulNames
