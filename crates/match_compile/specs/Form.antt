-- The normal form of equations: patterns by the numbers of their constructors, and each body in the
-- normal form of programs, where the names of its patterns are the locals from 0 on.
use Rattle.std.specs.Prelude.{◌≡◌, ℕ, ℤ, List, [], ◌∷◌, ◌++◌, map, length, codes, Some, slice_get}
use Rattle.std.specs.List.{position, range_with_len}
use Rattle.core_reader.specs.declared.syntax.Binder.{Binder}
use Rattle.core_reader.specs.Tree.{Function, Program}
use Rattle.arity_check.specs.declared.normal.Con as constructors
use Rattle.arity_check.specs.Scope.{is_named, con_number, binds_all}
use Rattle.arity_check.specs.Program as normal
use Rattle.arity_check.specs.Normal.{Pairwise, IsNormal, IsConstructor}
use Rattle.match_compile.specs.Source.{Pat, Name, Int, Con, Pats, NoPats, AndPat, Equation, Source}
use Rattle.match_compile.specs.Parts.{count, names_of}
use Rattle.match_compile.specs.Sizes.{functions, rows}

mutual
  -- a pattern by the numbers of its constructors
  pub data Form : Type 0 where
    Any : Form
    Is : (number : ℤ) → Form
    Has : (con : ℕ) (fields : Forms) → Form

  pub data Forms : Type 0 where
    NoForms : Forms
    AndForm : (form : Form) (rest : Forms) → Forms

pub record Row : Type 0 where
  pub pats : Forms
  pub body : normal.Term

pub record Rows : Type 0 where
  pub name : List ℕ
  pub params : ℕ
  pub rows : List Row

pub record Equations : Type 0 where
  pub cons : List constructors.Con
  pub funs : List Rows
  pub main : ℕ

-- a function with as many parameters as patterns, of which the names are of no account
abbrev pub placeholder_function : Binder → Pats → List Binder
placeholder_function b NoPats = []
placeholder_function b (AndPat p ps) = b ∷ placeholder_function b ps

abbrev pub head_of : List Equation → List Function
head_of [] = []
head_of (e ∷ es) = record {
  name = e.name;
  at = e.at;
  params = placeholder_function (record { name = record { 0 = e.name }; at = e.at }) e.pats;
  body = e.body;
} ∷ []

abbrev pub heads : List (List Equation) → List Function
heads [] = []
heads (f ∷ fs) = head_of f ++ heads fs

-- the program that has each function once, whatever its body
abbrev pub program_of_heads : Source → Program
program_of_heads c = record {
  names = c.names;
  constructors = c.constructors;
  functions = heads (functions c.equations);
}

module _ (c : Source) where
  mutual
    pub data IsForm : Pat → Form → Type 0 where
      OfName : {b : Binder} → IsForm (Name b) Any
      OfInt : {k : ℤ} {at : ℕ} → IsForm (Int k at) (Is k)
      OfCon : {b : Binder} {ps : Pats} {fs : Forms} {n : ℕ}
          → con_number (program_of_heads c) b.name.0 ≡ Some n → AreForms ps fs
          → IsForm (Con b ps) (Has n fs)

    pub data AreForms : Pats → Forms → Type 0 where
      NoneOf : AreForms NoPats NoForms
      OneOf : {p : Pat} {ps : Pats} {f : Form} {fs : Forms} → IsForm p f → AreForms ps fs
          → AreForms (AndPat p ps) (AndForm f fs)

  pub record IsRow (e : Equation) (g : Row) : Type 0 where
    pub pats : AreForms e.pats g.pats
    pub after : ℕ
    pub body : IsNormal (program_of_heads c)
        (binds_all (program_of_heads c) (map (λ x. x.name.0) (names_of e.pats))
        (range_with_len 0 (length (names_of e.pats))) [])
        (length (names_of e.pats)) e.body g.body after

  -- the name and the number of patterns are those of the first equation
  abbrev pub HasHead : List Equation → Rows → Type 0
  HasHead [] f = ⊥
  HasHead (e ∷ es) f = (slice_get c.names e.name ≡ Some f.name) × (f.params ≡ count e.pats)

  pub record AreRows (es : List Equation) (f : Rows) : Type 0 where
    pub head : HasHead es f
    pub rows : Pairwise IsRow (rows es) f.rows

  -- the normal form of all equations
  pub record IsFormOf (q : Equations) : Type 0 where
    pub cons : Pairwise (IsConstructor (program_of_heads c)) c.constructors q.cons
    pub funs : Pairwise AreRows (functions c.equations) q.funs
    pub main : position (λ f. is_named (program_of_heads c) (codes "main") f.name)
        (program_of_heads c).functions
        ≡ Some q.main
