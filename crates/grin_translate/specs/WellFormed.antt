-- Well-formed programs, as the meaning of Core has them.
pub use Rattle.core_meaning.specs.WellFormed.{InLocals, InGroup, AllOf, HasFields, HasParams, VarOk, FormOk, TermOk, BranchesOk, FunOk, WellFormed}
