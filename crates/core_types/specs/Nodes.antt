-- What the terms in a vector stand for as types. Each variable of types stands once, with what it
-- is named by.
use Rattle.std.specs.Prelude.{◌≡◌, ℕ, ◌+◌, ◌*◌, ◌<◌, ◌≤◌, ◌==◌, Bool, true, false, List, [], ◌∷◌, length, Option, Some, None, slice_get, if◌then◌else◌}
use Rattle.std.specs.Ordering.{nat_cmp}
use Rattle.std.specs.BTreeMap.{get}
use Rattle.unification.specs.declared.term.Symbol as symbol-type
use Rattle.unification.specs.declared.term.Symbol.TheVariants as symbol
use Rattle.unification.specs.declared.term.Term.{Term}
use Rattle.unification.specs.declared.term.Term.TheVariants as term
use Rattle.seq.specs.Lists.{In}
use Rattle.unification.specs.Terms.{AreEarlier}
use Rattle.core_types.specs.declared.nodes.TypeVariableKey as code-key
use Rattle.core_types.specs.declared.nodes.TypeVariableKey.TheVariants as code
use Rattle.core_types.specs.declared.nodes.Nodes.{Nodes}
use Rattle.core_types.specs.Typing.{Constraint, TypeVariableKey, AtBinder, AtResult, AtBracket, AtScrutinee, AtUse, Typed, Types, Int, Open, Rigid, Named, Arrow, NoTypeds, AndTyped}

abbrev pub key_of : code-key.TypeVariableKey → TypeVariableKey
key_of (code.Binder at) = AtBinder at
key_of (code.Result at) = AtResult at
key_of (code.Bracket at) = AtBracket at
key_of (code.Scrutinee at) = AtScrutinee at
key_of (code.Use at variable) = AtUse at variable

-- the number of a key among the uses, or among the others
abbrev pub number_of : TypeVariableKey → ℕ
number_of (AtBinder at) = at * 4
number_of (AtResult at) = at * 4 + 1
number_of (AtBracket at) = at * 4 + 2
number_of (AtScrutinee at) = at * 4 + 3
number_of (AtUse at variable) = at * 4294967296 + variable

abbrev pub is_use : TypeVariableKey → Bool
is_use (AtBinder at) = false
is_use (AtResult at) = false
is_use (AtBracket at) = false
is_use (AtScrutinee at) = false
is_use (AtUse at variable) = true

-- the names in a key are numbers of 32 bits
abbrev pub IsInRange : TypeVariableKey → Type 0
IsInRange (AtBinder at) = Unit {0}
IsInRange (AtResult at) = Unit {0}
IsInRange (AtBracket at) = Unit {0}
IsInRange (AtScrutinee at) = Unit {0}
IsInRange (AtUse at variable) = variable < 4294967296

-- where a key of this number is found
abbrev pub entry_of : Nodes → Bool → ℕ → Option ℕ
entry_of n used number = if used then get nat_cmp n.uses number else get nat_cmp n.places number

abbrev pub index_of_key : Nodes → TypeVariableKey → Option ℕ
index_of_key n q = entry_of n (is_use q) (number_of q)

-- a key was entered at a place, and no other one
abbrev pub entered : Nodes → TypeVariableKey → ℕ → Bool → ℕ → Option ℕ
entered n q at used number =
    if is_use q then (if used then (if number == number_of q then Some at
    else get nat_cmp n.uses number) else get nat_cmp n.places number)
    else (if used then get nat_cmp n.uses number
    else (if number == number_of q then Some at else get nat_cmp n.places number))

abbrev pub named_by : Option (Option code-key.TypeVariableKey) → Option TypeVariableKey
named_by (Some (Some q)) = Some (key_of q)
named_by (Some None) = None
named_by None = None

-- the variable of a key stands at a place
abbrev pub IsVariableAt : Nodes → TypeVariableKey → ℕ → Type 0
IsVariableAt n q x =
    (slice_get n.terms.items x ≡ Some term.Variable)
    × (named_by (slice_get n.keys.items x) ≡ Some q)

-- how many arguments a symbol has in types
abbrev pub TakesArguments : symbol-type.Symbol → ℕ → Type 0
TakesArguments symbol.Integer n = n ≡ 0
TakesArguments symbol.Arrow n = n ≡ 2
TakesArguments (symbol.Rigid f v) n = n ≡ 0
TakesArguments (symbol.Named c) n = Unit {0}

abbrev pub HasItsArguments : Option Term → Type 0
HasItsArguments (Some (term.Made s xs)) = TakesArguments s (length xs)
HasItsArguments (Some term.Variable) = Unit {0}
HasItsArguments None = Unit {0}

-- each symbol has as many arguments as in types
abbrev pub HaveTheirArguments : List Term → Type 0
HaveTheirArguments terms = (i : ℕ) → HasItsArguments (slice_get terms i)

-- Each argument stands before its term, each symbol has as many as in types, and each variable is
-- found by its key.
pub record IsSound (n : Nodes) : Type 0 where
  pub same : length n.keys.items ≡ length n.terms.items
  pub earlier : AreEarlier n.terms.items
  pub formed : HaveTheirArguments n.terms.items
  pub ranged : (q : TypeVariableKey) (x : ℕ) → IsVariableAt n q x → IsInRange q
  pub listed : (q : TypeVariableKey) (x : ℕ) → IsVariableAt n q x → index_of_key n q ≡ Some x
  pub held : (q : TypeVariableKey) (x : ℕ) → IsInRange q
      → index_of_key n q ≡ Some x → IsVariableAt n q x

-- the symbol at a place, with its arguments
abbrev pub IsSymbolAt : Nodes → ℕ → symbol-type.Symbol → List ℕ → Type 0
IsSymbolAt n x s xs = slice_get n.terms.items x ≡ Some (term.Made s xs)

abbrev mutual
  -- the term at a place stands for a type
  pub Denotes : Nodes → Typed → ℕ → Type 0
  Denotes n Int x = IsSymbolAt n x symbol.Integer []
  Denotes n (Open q) x = IsVariableAt n q x
  Denotes n (Rigid f v) x = IsSymbolAt n x (symbol.Rigid f v) []
  Denotes n (Named name ts) x =
      (xs : List ℕ) × IsSymbolAt n x (symbol.Named name) xs × DenoteAll n ts xs
  Denotes n (Arrow t u) x =
      (y z : ℕ) × IsSymbolAt n x symbol.Arrow (y ∷ z ∷ []) × Denotes n t y × Denotes n u z

  pub DenoteAll : Nodes → Types → List ℕ → Type 0
  DenoteAll n NoTypeds xs = xs ≡ []
  DenoteAll n (AndTyped t ts) xs =
      (y : ℕ) × (ys : List ℕ) × (xs ≡ y ∷ ys) × Denotes n t y × DenoteAll n ts ys

abbrev pub AreBelow : Nodes → List ℕ → Type 0
AreBelow n xs = (x : ℕ) → In x xs → x < length n.terms.items

-- terms stand for types, in order
abbrev pub DenoteEach : Nodes → List Typed → List ℕ → Type 0
DenoteEach n [] xs = xs ≡ []
DenoteEach n (t ∷ ts) xs =
    (y : ℕ) × (ys : List ℕ) × (xs ≡ y ∷ ys) × Denotes n t y × DenoteEach n ts ys

-- Terms were added. What stood for types still does.
pub record ExtendsNodes (n n' : Nodes) : Type 0 where
  pub sound : IsSound n'
  pub longer : length n.terms.items ≤ length n'.terms.items
  pub one : (t : Typed) (x : ℕ) → Denotes n t x → Denotes n' t x
  pub all : (ts : Types) (xs : List ℕ) → DenoteAll n ts xs → DenoteAll n' ts xs

-- Terms were added, and the one at this place stands for a type.
pub record AddsTermForType (n n' : Nodes) (t : Typed) (x : ℕ) : Type 0 where
  pub grows : ExtendsNodes n n'
  pub denotes : Denotes n' t x

-- pairs of terms stand for constraints, in order
abbrev pub PairsDenote : Nodes → List Constraint → List (ℕ × ℕ) → Type 0
PairsDenote n [] ps = ps ≡ []
PairsDenote n (c ∷ cs) ps =
    (p : ℕ × ℕ) × (qs : List (ℕ × ℕ)) × (ps ≡ p ∷ qs) × Denotes n c.left p.0
    × Denotes n c.right p.1 × PairsDenote n cs qs
