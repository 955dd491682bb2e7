-- Terms that are alike up to the numbers of their locals.
use Rattle.std.specs.Prelude.{◌≡◌, ◌⊎◌, ℕ, ℤ, ◌<◌, List, [], ◌∷◌, length, Some, None}
use Rattle.arity_check.specs.declared.normal.Bound.{Bound}
use Rattle.arity_check.specs.declared.normal.Flat.{Flat}
use Rattle.arity_check.specs.declared.normal.Flat.TheVariants as flat
use Rattle.arity_check.specs.declared.normal.PrimOp.{PrimOp}
use Rattle.arity_check.specs.declared.normal.Var.{Var}
use Rattle.arity_check.specs.declared.normal.Var.TheVariants as var
use Rattle.arity_check.specs.Normal.{Pairwise}
use Rattle.arity_check.specs.Program.{Term, App, Let, Case, Branches, NoMore, OnCon, OnInt, OnAny}

-- locals of one term with those of the other, the innermost first
abbrev pub LocalPairs : Type 0
LocalPairs = List (ℕ × ℕ)

-- x stands where y does: neither is hidden
abbrev pub LocalsCorrespond : LocalPairs → ℕ → ℕ → Type 0
LocalsCorrespond [] x y = ⊥
LocalsCorrespond (p ∷ ps) x y =
    ((x ≡ p.0) × (y ≡ p.1)) ⊎ ((x ≡ p.0 → ⊥) × ((y ≡ p.1 → ⊥) × LocalsCorrespond ps x y))

abbrev pub linked_all : List ℕ → List ℕ → LocalPairs → LocalPairs
linked_all [] ys ps = ps
linked_all (x ∷ xs) [] ps = ps
linked_all (x ∷ xs) (y ∷ ys) ps = linked_all xs ys ((x, y) ∷ ps)

abbrev pub linked_group : List Bound → List Bound → LocalPairs → LocalPairs
linked_group [] cs ps = ps
linked_group (b ∷ bs) [] ps = ps
linked_group (b ∷ bs) (c ∷ cs) ps = linked_group bs cs ((b.local, c.local) ∷ ps)

-- Functions have so many parameters, constructors so many fields, and these are the functions of
-- both programs.
module _ (arity many : ℕ → ℕ) (IsFun : ℕ → Type 0) where
  pub data VarAlike (ps : LocalPairs) : Var → Var → Type 0 where
    AlikeLocal : {x y : ℕ} → LocalsCorrespond ps x y → VarAlike ps (var.Local x) (var.Local y)
    AlikeGlobal : {f : ℕ} → IsFun f → arity f ≡ 0 → VarAlike ps (var.Global f) (var.Global f)

  abbrev pub VarsAlike : LocalPairs → List Var → List Var → Type 0
  VarsAlike ps = Pairwise (VarAlike ps)

  pub data FlatAlike (ps : LocalPairs) : Flat → Flat → Type 0 where
    AlikeInt : {k : ℤ} → FlatAlike ps (flat.Int k) (flat.Int k)
    AlikeCon : {c : ℕ} {xs ys : List Var} → length xs ≡ many c → VarsAlike ps xs ys
        → FlatAlike ps (flat.Con c xs) (flat.Con c ys)
    AlikePart : {f : ℕ} {xs ys : List Var} → IsFun f → length xs < arity f → VarsAlike ps xs ys
        → FlatAlike ps (flat.Part f xs) (flat.Part f ys)
    AlikeCall : {f : ℕ} {xs ys : List Var} → IsFun f → length xs ≡ arity f → VarsAlike ps xs ys
        → FlatAlike ps (flat.Call f xs) (flat.Call f ys)
    AlikeApply : {x y : Var} {xs ys : List Var} → VarAlike ps x y → VarsAlike ps xs ys
        → FlatAlike ps (flat.Apply x xs) (flat.Apply y ys)
    AlikePrim : {op : PrimOp} {x y x' y' : Var} → VarAlike ps x x' → VarAlike ps y y'
        → FlatAlike ps (flat.Prim op x y) (flat.Prim op x' y')

  mutual
    pub data TermAlike : LocalPairs → Term → Term → Type 0 where
      AlikeApp : {ps : LocalPairs} {f g : Flat} → FlatAlike ps f g → TermAlike ps (App f) (App g)
      AlikeLet : {ps : LocalPairs} {bs cs : List Bound} {e e' : Term}
          → Pairwise (λ b c. FlatAlike (linked_group bs cs ps) b.flat c.flat) bs cs
          → TermAlike (linked_group bs cs ps) e e' → TermAlike ps (Let bs e) (Let cs e')
      AlikeCase : {ps : LocalPairs} {e e' : Term} {bs cs : Branches}
          → TermAlike ps e e' → BranchesAlike ps bs cs → TermAlike ps (Case e bs) (Case e' cs)

    pub data BranchesAlike : LocalPairs → Branches → Branches → Type 0 where
      AlikeNoMore : {ps : LocalPairs} → BranchesAlike ps NoMore NoMore
      AlikeOnCon : {ps : LocalPairs} {c : ℕ} {xs ys : List ℕ} {e e' : Term} {bs cs : Branches}
          → length xs ≡ many c → length ys ≡ many c → TermAlike (linked_all xs ys ps) e e'
          → BranchesAlike ps bs cs → BranchesAlike ps (OnCon c xs e bs) (OnCon c ys e' cs)
      AlikeOnInt : {ps : LocalPairs} {k : ℤ} {e e' : Term} {bs cs : Branches} → TermAlike ps e e'
          → BranchesAlike ps bs cs → BranchesAlike ps (OnInt k e bs) (OnInt k e' cs)
      AlikeOnAny : {ps : LocalPairs} {e e' : Term} {bs cs : Branches} → TermAlike ps e e'
          → BranchesAlike ps bs cs → BranchesAlike ps (OnAny None e bs) (OnAny None e' cs)
      AlikeOnName : {ps : LocalPairs} {x y : ℕ} {e e' : Term} {bs cs : Branches}
          → TermAlike ((x, y) ∷ ps) e e' → BranchesAlike ps bs cs
          → BranchesAlike ps (OnAny (Some x) e bs) (OnAny (Some y) e' cs)
