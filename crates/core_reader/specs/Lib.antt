-- a program: its tree and its size
pub mod Size
pub mod Tree
-- a text: its bytes, its tokens, its program and its rules
pub mod Bytes
pub mod TokensOf
pub mod Tokens
pub mod Grammar
pub mod WordsOf
pub mod Words
pub mod NamesOf
pub mod Names
pub mod ProgramsOf
pub mod Programs
pub mod RulesOf
pub mod Rules
pub mod Text
pub mod Different
pub mod Readable
-- laws
pub mod Laws
-- devices of the proofs
pub mod LookOf
pub mod ReadingOf
pub mod Machine
pub mod AroundOf
pub mod Declaring
pub mod HeaderOf
pub mod Parsed
pub mod LexedOf
pub mod Lexed
