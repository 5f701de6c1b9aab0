-- The definitions of the lexer.
pub mod Later
pub mod Lexemes
pub mod Sights
pub mod Spellings
pub mod Steps
pub mod Texts
