-- Programs that are the same, the places and the numbers of the names aside.
use Rattle.std.specs.Prelude.{◌≡◌, ℕ, List, slice_get}
use Rattle.std.specs.List.{AllZip}
use Rattle.core_reader.specs.declared.syntax.Binder.{Binder}
use Rattle.core_reader.specs.declared.syntax.Pattern.{Pattern}
use Rattle.core_reader.specs.Tree.{Term, Terms, Application, Bind, Expr, Alts, Data, Function, Program}
use Rattle.core_print.specs.Renamed.{RenamedBinder, RenamedTerm, RenamedTerms, RenamedApp, RenamedBind, RenamedPattern, RenamedExpr, RenamedAlts, RenamedData, RenamedFunction}

-- of two programs with these names
module _ (names others : List (List ℕ)) where
  -- The numbers stand for one text.
  abbrev pub SameName : ℕ → ℕ → Type 0
  SameName n m = slice_get names n ≡ slice_get others m

  -- Scopes are of no account: every name goes with one of the same text.
  abbrev no_scope : List Binder → List Binder → Unit {0} → Unit {0}
  no_scope bs cs s = s

  abbrev SameUse : Unit {0} → ℕ → ℕ → Type 0
  SameUse s = SameName

  abbrev pub SameBinder : Binder → Binder → Type 0
  SameBinder = RenamedBinder no_scope SameName SameName SameUse

  abbrev pub SameTerm : Term → Term → Type 0
  SameTerm = RenamedTerm no_scope SameName SameName SameUse tt

  abbrev pub SameTerms : Terms → Terms → Type 0
  SameTerms = RenamedTerms no_scope SameName SameName SameUse tt

  abbrev pub SameApp : Application → Application → Type 0
  SameApp = RenamedApp no_scope SameName SameName SameUse tt

  abbrev pub SameBind : Bind → Bind → Type 0
  SameBind = RenamedBind no_scope SameName SameName SameUse tt

  abbrev pub SamePattern : Pattern → Pattern → Type 0
  SamePattern = RenamedPattern no_scope SameName SameName SameUse

  abbrev pub SameExpr : Expr → Expr → Type 0
  SameExpr = RenamedExpr no_scope SameName SameName SameUse tt

  abbrev pub SameAlts : Alts → Alts → Type 0
  SameAlts = RenamedAlts no_scope SameName SameName SameUse tt

  abbrev pub SameData : Data → Data → Type 0
  SameData = RenamedData no_scope SameName SameName SameUse

  abbrev pub SameFunction : Function → Function → Type 0
  SameFunction = RenamedFunction no_scope SameName SameName SameUse SameName tt

pub record SameProgram (p q : Program) : Type 0 where
  pub constructors : AllZip (SameData p.names q.names) p.constructors q.constructors
  pub functions : AllZip (SameFunction p.names q.names) p.functions q.functions
