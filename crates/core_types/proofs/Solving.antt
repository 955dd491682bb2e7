-- The solutions of constraints are those of the equations between the terms that stand for their
-- sides.
use Rattle.std.proofs.Common.{◌≡◌, ℕ, zero, suc, Bool, true, false, List, [], ◌∷◌, refl, sym, ap, subst, ◌∙◌, arith, Option, Some, None}
use Rattle.std.specs.Prelude.{slice_get, take, nat_lt, if◌then◌else◌}
use Rattle.seq.proofs.Lists.{some_is}
use Rattle.unification.specs.declared.term.Symbol.{Symbol}
use Rattle.unification.specs.declared.term.Symbol.TheVariants as symbol
use Rattle.unification.specs.declared.term.Term.{Term}
use Rattle.unification.specs.Terms.{symbol_in, arguments_in, tree, equations}
use Rattle.unification.specs.Trees.{Tree, Trees, Made, NoTrees, AndTree, trees}
use Rattle.unification.specs.Trees as trees
use Rattle.unification.specs.Solutions as equal
use Rattle.unification.proofs.Values.{value_respects, value_open}
use Rattle.unification.proofs.Pairing.{arguments_same, head_same, rest_same}
use Rattle.core_types.specs.declared.nodes.Nodes.{Nodes}
use Rattle.core_types.proofs.Firsts.{lt_true}
use Rattle.core_types.specs.Typing.{TypeVariableKey, AtBinder, AtResult, AtBracket, AtScrutinee, AtUse, Typed, Types, Int, Open, Rigid, Named, Arrow, NoTypeds, AndTyped, Constraint, Substitution, under, under_all, Solves, IsMostGeneral, IsFirstUnsolved}
use Rattle.core_types.specs.Sides.{variable, back, back_all, typed_of, AreSides}
use Rattle.core_types.specs.Nodes.{IsInRange, index_of_key, named_by, IsVariableAt, IsSound, IsSymbolAt, Denotes, DenoteAll, PairsDenote}

-- ---- types as trees and back

-- a variable as a tree without variables, which no other type becomes
abbrev marked : TypeVariableKey → Tree
marked (AtBinder at) = Made symbol.Integer (AndTree (Made (symbol.Named at) NoTrees) NoTrees)
marked (AtResult at) = Made symbol.Integer
    (AndTree (Made (symbol.Named at) (AndTree (trees.Open 0) NoTrees)) NoTrees)
marked (AtBracket at) = Made symbol.Integer
    (AndTree (Made (symbol.Named at) (AndTree (trees.Open 0) (AndTree (trees.Open 0) NoTrees)))
    NoTrees)
marked (AtScrutinee at) = Made symbol.Integer
    (AndTree (Made (symbol.Named at)
    (AndTree (trees.Open 0) (AndTree (trees.Open 0) (AndTree (trees.Open 0) NoTrees)))) NoTrees)
marked (AtUse at v) = Made symbol.Integer (AndTree (Made (symbol.Rigid at v) NoTrees) NoTrees)

-- a variable as the integers
abbrev ground : TypeVariableKey → Tree
ground q = Made symbol.Integer NoTrees

abbrev mutual
  tree_with : (TypeVariableKey → Tree) → Typed → Tree
  tree_with o Int = Made symbol.Integer NoTrees
  tree_with o (Open q) = o q
  tree_with o (Rigid f v) = Made (symbol.Rigid f v) NoTrees
  tree_with o (Named c ts) = Made (symbol.Named c) (trees_with o ts)
  tree_with o (Arrow t u) = Made symbol.Arrow
      (AndTree (tree_with o t) (AndTree (tree_with o u) NoTrees))

  trees_with : (TypeVariableKey → Tree) → Types → Trees
  trees_with o NoTypeds = NoTrees
  trees_with o (AndTyped t ts) = AndTree (tree_with o t) (trees_with o ts)

mutual
  back_with : (f : ℕ → Typed) (t : Typed) → back f (tree_with marked t) ≡ t
  back_with f Int = refl
  back_with f (Open (AtBinder at)) = refl
  back_with f (Open (AtResult at)) = refl
  back_with f (Open (AtBracket at)) = refl
  back_with f (Open (AtScrutinee at)) = refl
  back_with f (Open (AtUse at v)) = refl
  back_with f (Rigid g v) = refl
  back_with f (Named c ts) = ap (Named c) (back_all_with f ts)
  back_with f (Arrow t u) = λ i. Arrow (back_with f t i) (back_with f u i)

  back_all_with : (f : ℕ → Typed) (ts : Types) → back_all f (trees_with marked ts) ≡ ts
  back_all_with f NoTypeds = refl
  back_all_with f (AndTyped t ts) = λ i. AndTyped (back_with f t i) (back_all_with f ts i)

-- a tree that begins as a type does
abbrev mutual
  IsFormed : Tree → Type 0
  IsFormed (trees.Open y) = Unit {0}
  IsFormed (Made symbol.Integer NoTrees) = Unit {0}
  IsFormed (Made symbol.Integer (AndTree t ts)) = ⊥
  IsFormed (Made (symbol.Rigid g v) ts) = Unit {0}
  IsFormed (Made (symbol.Named c) ts) = AllFormed ts
  IsFormed (Made symbol.Arrow NoTrees) = ⊥
  IsFormed (Made symbol.Arrow (AndTree t NoTrees)) = ⊥
  IsFormed (Made symbol.Arrow (AndTree t (AndTree u ts))) = IsFormed t × IsFormed u

  AllFormed : Trees → Type 0
  AllFormed NoTrees = Unit {0}
  AllFormed (AndTree t ts) = IsFormed t × AllFormed ts

mutual
  formed_by : (ρ : ℕ → Tree) (t : Tree) (u : Typed) → trees.substituted ρ t ≡ tree_with ground u
      → IsFormed t
  formed_by ρ (trees.Open y) u e = tt
  formed_by ρ (Made symbol.Integer NoTrees) u e = tt
  formed_by ρ (Made symbol.Integer (AndTree t ts)) Int e = absurd cc
  formed_by ρ (Made symbol.Integer (AndTree t ts)) (Open q) e = absurd cc
  formed_by ρ (Made symbol.Integer (AndTree t ts)) (Rigid f v) e = absurd cc
  formed_by ρ (Made symbol.Integer (AndTree t ts)) (Named c us) e = absurd cc
  formed_by ρ (Made symbol.Integer (AndTree t ts)) (Arrow a b) e = absurd cc
  formed_by ρ (Made (symbol.Rigid g w) ts) u e = tt
  formed_by ρ (Made (symbol.Named d) ts) Int e = absurd cc
  formed_by ρ (Made (symbol.Named d) ts) (Open q) e = absurd cc
  formed_by ρ (Made (symbol.Named d) ts) (Rigid f v) e = absurd cc
  formed_by ρ (Made (symbol.Named d) ts) (Named c us) e = all_formed_by ρ ts us (arguments_same e)
  formed_by ρ (Made (symbol.Named d) ts) (Arrow a b) e = absurd cc
  formed_by ρ (Made symbol.Arrow NoTrees) Int e = absurd cc
  formed_by ρ (Made symbol.Arrow NoTrees) (Open q) e = absurd cc
  formed_by ρ (Made symbol.Arrow NoTrees) (Rigid f v) e = absurd cc
  formed_by ρ (Made symbol.Arrow NoTrees) (Named c us) e = absurd cc
  formed_by ρ (Made symbol.Arrow NoTrees) (Arrow a b) e = absurd cc
  formed_by ρ (Made symbol.Arrow (AndTree t NoTrees)) Int e = absurd cc
  formed_by ρ (Made symbol.Arrow (AndTree t NoTrees)) (Open q) e = absurd cc
  formed_by ρ (Made symbol.Arrow (AndTree t NoTrees)) (Rigid f v) e = absurd cc
  formed_by ρ (Made symbol.Arrow (AndTree t NoTrees)) (Named c us) e = absurd cc
  formed_by ρ (Made symbol.Arrow (AndTree t NoTrees)) (Arrow a b) e = absurd cc
  formed_by ρ (Made symbol.Arrow (AndTree t (AndTree u ts))) Int e = absurd cc
  formed_by ρ (Made symbol.Arrow (AndTree t (AndTree u ts))) (Open q) e = absurd cc
  formed_by ρ (Made symbol.Arrow (AndTree t (AndTree u ts))) (Rigid f v) e = absurd cc
  formed_by ρ (Made symbol.Arrow (AndTree t (AndTree u ts))) (Named c us) e = absurd cc
  formed_by ρ (Made symbol.Arrow (AndTree t (AndTree u ts))) (Arrow a b) e = (
    formed_by ρ t a (head_same (arguments_same e)),
    formed_by ρ u b (head_same (rest_same (arguments_same e))),
  )

  all_formed_by : (ρ : ℕ → Tree) (ts : Trees) (us : Types)
      → trees.all_substituted ρ ts ≡ trees_with ground us → AllFormed ts
  all_formed_by ρ NoTrees us e = tt
  all_formed_by ρ (AndTree t ts) NoTypeds e = absurd cc
  all_formed_by ρ (AndTree t ts) (AndTyped u us) e =
      (formed_by ρ t u (head_same e), all_formed_by ρ ts us (rest_same e))

-- a substitution of trees is one of types
module _ (ρ : ℕ → Tree) (f g : ℕ → Typed) (τ : Substitution)
    (fits : (y : ℕ) → back f (ρ y) ≡ under τ (g y)) where
  mutual
    under_back : (t : Tree) → IsFormed t → back f (trees.substituted ρ t) ≡ under τ (back g t)
    under_back (trees.Open y) h = fits y
    under_back (Made symbol.Integer NoTrees) h = refl
    under_back (Made symbol.Integer (AndTree t ts)) h = absurd h
    under_back (Made (symbol.Rigid g v) ts) h = refl
    under_back (Made (symbol.Named c) ts) h = ap (Named c) (under_back_all ts h)
    under_back (Made symbol.Arrow NoTrees) h = absurd h
    under_back (Made symbol.Arrow (AndTree t NoTrees)) h = absurd h
    under_back (Made symbol.Arrow (AndTree t (AndTree u ts))) h
        = λ i. Arrow (under_back t h.0 i) (under_back u h.1 i)

    under_back_all : (ts : Trees) → AllFormed ts → back_all f (trees.all_substituted ρ ts) ≡
        under_all τ (back_all g ts)
    under_back_all NoTrees h = refl
    under_back_all (AndTree t ts) h = λ i. AndTyped (under_back t h.0 i) (under_back_all ts h.1 i)

-- ---- lists

take_equations : (terms : List Term) (k : ℕ) (ps : List (ℕ × ℕ))
    → take k (equations terms ps) ≡ equations terms (take k ps)
take_equations terms zero ps = refl
take_equations terms (suc k) [] = refl
take_equations terms (suc k) (p ∷ ps) = ap (λ es. (tree terms p.0, tree terms p.1) ∷ es)
    (take_equations terms k ps)

take_past : {T : Type 0} (k : ℕ) (xs : List T) → slice_get xs k ≡ None → take (suc k) xs ≡ take k xs
take_past zero [] e = refl
take_past zero (x ∷ xs) e = absurd cc
take_past (suc k) [] e = refl
take_past (suc k) (x ∷ xs) e = ap (λ ys. x ∷ ys) (take_past k xs e)

-- ---- what stands for types

module _ (n : Nodes) (h : IsSound n) where
  abbrev value : (ℕ → Tree) → ℕ → Tree
  value σ x = trees.substituted σ (tree n.terms.items x)

  made_value : (σ : ℕ → Tree) (x : ℕ) (s : Symbol) (xs : List ℕ) → IsSymbolAt n x s xs
      → value σ x ≡ Made s (trees (value σ) xs)
  made_value σ x s xs e = value_respects n.terms.items h.earlier σ x s (ap symbol_in e) ∙ ap
      (λ o. Made s (trees (value σ) (arguments_in o))) e

  open_value : (σ : ℕ → Tree) (q : TypeVariableKey) (x : ℕ) → IsVariableAt n q x → value σ x ≡ σ x
  open_value σ q x e = value_open n.terms.items σ x (ap symbol_in e.0)

  -- types by the trees of their terms
  module _ (σ : ℕ → Tree) (f : ℕ → Typed) (τ : Substitution)
      (fits : (q : TypeVariableKey) (x : ℕ) → IsVariableAt n q x → τ q ≡ back f (σ x)) where
    mutual
      shown : (t : Typed) (x : ℕ) → Denotes n t x → under τ t ≡ back f (value σ x)
      shown Int x e = sym (ap (back f) (made_value σ x symbol.Integer [] e))
      shown (Open q) x e = fits q x e ∙ sym (ap (back f) (open_value σ q x e))
      shown (Rigid g v) x e = sym (ap (back f) (made_value σ x (symbol.Rigid g v) [] e))
      shown (Named c ts) x e = ap (Named c) (all_shown ts e.0 e.2) ∙ sym
          (ap (back f) (made_value σ x (symbol.Named c) e.0 e.1))
      shown (Arrow t u) x e = (λ i. Arrow (shown t e.0 e.3 i) (shown u e.1 e.4 i)) ∙ sym
          (ap (back f) (made_value σ x symbol.Arrow (e.0 ∷ (e.1 ∷ [])) e.2))

      all_shown : (ts : Types) (xs : List ℕ) → DenoteAll n ts xs
          → under_all τ ts ≡ back_all f (trees (value σ) xs)
      all_shown NoTypeds xs e = sym (ap (λ ys. back_all f (trees (value σ) ys)) e)
      all_shown (AndTyped t ts) xs e = (λ i. AndTyped (shown t e.0 e.3 i) (all_shown ts e.1 e.4 i))
          ∙ sym (ap (λ ys. back_all f (trees (value σ) ys)) e.2)

    solves_shown : (cs : List Constraint) (ps : List (ℕ × ℕ)) → PairsDenote n cs ps
        → equal.Solves σ (equations n.terms.items ps) → Solves τ cs
    solves_shown [] ps s e = tt
    solves_shown (c ∷ cs) ps s e =
        let k : equal.Solves σ (equations n.terms.items (s.0 ∷ s.1))
        = subst (λ ps. equal.Solves σ (equations n.terms.items ps)) s.2 e in (
          shown c.left s.0.0 s.3 ∙ ap (back f) k.0 ∙ sym (shown c.right s.0.1 s.4),
          solves_shown cs s.1 s.5 k.1,
        )

  -- trees by the types that their terms stand for
  module _ (o : TypeVariableKey → Tree) (τ : Substitution) (σ : ℕ → Tree)
      (fits : (q : TypeVariableKey) (x : ℕ) → IsVariableAt n q x → σ x ≡ tree_with o (τ q)) where
    mutual
      made : (t : Typed) (x : ℕ) → Denotes n t x → value σ x ≡ tree_with o (under τ t)
      made Int x e = made_value σ x symbol.Integer [] e
      made (Open q) x e = open_value σ q x e ∙ fits q x e
      made (Rigid g v) x e = made_value σ x (symbol.Rigid g v) [] e
      made (Named c ts) x e = made_value σ x (symbol.Named c) e.0 e.1 ∙ ap (Made (symbol.Named c))
          (all_made ts e.0 e.2)
      made (Arrow t u) x e = made_value σ x symbol.Arrow (e.0 ∷ (e.1 ∷ [])) e.2
          ∙ (λ i. Made symbol.Arrow
          (AndTree (made t e.0 e.3 i) (AndTree (made u e.1 e.4 i) NoTrees)))

      all_made : (ts : Types) (xs : List ℕ) → DenoteAll n ts xs
          → trees (value σ) xs ≡ trees_with o (under_all τ ts)
      all_made NoTypeds xs e = ap (trees (value σ)) e
      all_made (AndTyped t ts) xs e = ap (trees (value σ)) e.2 ∙
          (λ i. AndTree (made t e.0 e.3 i) (all_made ts e.1 e.4 i))

    solves_made : (cs : List Constraint) (ps : List (ℕ × ℕ)) → PairsDenote n cs ps → Solves τ cs
        → equal.Solves σ (equations n.terms.items ps)
    solves_made [] ps s e = subst (λ ps. equal.Solves σ (equations n.terms.items ps)) (sym s) tt
    solves_made (c ∷ cs) ps s e = subst (λ ps. equal.Solves σ (equations n.terms.items ps))
        (sym s.2) (
          made c.left s.0.0 s.3 ∙ ap (tree_with o) e.0 ∙ sym (made c.right s.0.1 s.4),
          solves_made cs s.1 s.5 e.1,
        )

  stand_take : (k : ℕ) (cs : List Constraint) (ps : List (ℕ × ℕ)) → PairsDenote n cs ps
      → PairsDenote n (take k cs) (take k ps)
  stand_take zero cs ps s = refl
  stand_take (suc k) [] ps s = ap (take (suc k)) s
  stand_take (suc k) (c ∷ cs) ps s =
      (s.0, take k s.1, ap (take (suc k)) s.2, s.3, s.4, stand_take k cs s.1 s.5)

-- ---- variables and their keys

abbrev in_range : TypeVariableKey → Bool
in_range (AtBinder at) = true
in_range (AtResult at) = true
in_range (AtBracket at) = true
in_range (AtScrutinee at) = true
in_range (AtUse at v) = nat_lt v 4294967296

is_in_range : (q : TypeVariableKey) → IsInRange q → in_range q ≡ true
is_in_range (AtBinder at) l = refl
is_in_range (AtResult at) l = refl
is_in_range (AtBracket at) l = refl
is_in_range (AtScrutinee at) l = refl
is_in_range (AtUse at v) l = grind (arith, l)

has_range : (q : TypeVariableKey) → in_range q ≡ true → IsInRange q
has_range (AtBinder at) e = tt
has_range (AtResult at) e = tt
has_range (AtBracket at) e = tt
has_range (AtScrutinee at) e = tt
has_range (AtUse at v) e = lt_true v 4294967296 e

abbrev key_or : Option TypeVariableKey → TypeVariableKey
key_or None = AtBinder 0
key_or (Some q) = q

-- variables that no term stands for, aside from those of trees
abbrev aside : TypeVariableKey → TypeVariableKey
aside (AtBinder at) = AtBinder at
aside (AtResult at) = AtResult at
aside (AtBracket at) = AtBracket at
aside (AtScrutinee at) = AtScrutinee at
aside (AtUse at v) = AtUse at (suc v)

abbrev moved : (ℕ → Tree) → Substitution → Substitution
moved ρ τ (AtBinder at) = τ (AtBinder at)
moved ρ τ (AtResult at) = τ (AtResult at)
moved ρ τ (AtBracket at) = τ (AtBracket at)
moved ρ τ (AtScrutinee at) = τ (AtScrutinee at)
moved ρ τ (AtUse at zero) = back variable (ρ at)
moved ρ τ (AtUse at (suc v)) = τ (AtUse at v)

aside_moved : (ρ : ℕ → Tree) (τ : Substitution) (q : TypeVariableKey) → τ q ≡ moved ρ τ (aside q)
aside_moved ρ τ (AtBinder at) = refl
aside_moved ρ τ (AtResult at) = refl
aside_moved ρ τ (AtBracket at) = refl
aside_moved ρ τ (AtScrutinee at) = refl
aside_moved ρ τ (AtUse at v) = refl

abbrev or_aside : (ℕ → Tree) → TypeVariableKey → Option ℕ → Typed
or_aside σ q (Some x) = back variable (σ x)
or_aside σ q None = Open (aside q)

module _ (n : Nodes) (h : IsSound n) where
  abbrev place_of : TypeVariableKey → Option ℕ
  place_of q = if in_range q then index_of_key n q else None

  place_is : (q : TypeVariableKey) (x : ℕ) → IsVariableAt n q x → place_of q ≡ Some x
  place_is q x e = ap (λ b. if b then index_of_key n q else None) (is_in_range q (h.ranged q x e)) ∙
      h.listed q x e

  place_has : (q : TypeVariableKey) (x : ℕ) → place_of q ≡ Some x → IsVariableAt n q x
  place_has q x e = go (in_range q) refl e
    where
      go : (b : Bool) → in_range q ≡ b → (if b then index_of_key n q else None) ≡ Some x
          → IsVariableAt n q x
      go true r e = h.held q x (has_range q r) e
      go false r e = absurd cc

  abbrev key_at : ℕ → TypeVariableKey
  key_at x = key_or (named_by (slice_get n.keys.items x))

  -- what a substitution of trees puts for the variables of types
  abbrev from_trees : (ℕ → Tree) → Substitution
  from_trees σ q = or_aside σ q (place_of q)

  from_fits : (σ : ℕ → Tree) (q : TypeVariableKey) (x : ℕ) → IsVariableAt n q x
      → from_trees σ q ≡ back variable (σ x)
  from_fits σ q x e = ap (or_aside σ q) (place_is q x e)

  abbrev to_trees : (TypeVariableKey → Tree) → Substitution → ℕ → Tree
  to_trees o τ x = tree_with o (τ (key_at x))

  to_fits : (o : TypeVariableKey → Tree) (τ : Substitution) (q : TypeVariableKey) (x : ℕ)
      → IsVariableAt n q x → to_trees o τ x ≡ tree_with o (τ q)
  to_fits o τ q x e = ap (λ k. tree_with o (τ (key_or k))) e.1

  module _ (cs : List Constraint) (ps : List (ℕ × ℕ)) (s : PairsDenote n cs ps) where
    pub types_solve : (σ : ℕ → Tree) → equal.Solves σ (equations n.terms.items ps)
        → Solves (from_trees σ) cs
    types_solve σ e = solves_shown n h σ variable (from_trees σ) (from_fits σ) cs ps s e

    pub trees_solve : (o : TypeVariableKey → Tree) (τ : Substitution) → Solves τ cs
        → equal.Solves (to_trees o τ) (equations n.terms.items ps)
    trees_solve o τ e = solves_made n h o τ (to_trees o τ) (to_fits o τ) cs ps s e

    pub types_general : (σ : ℕ → Tree) → equal.IsMostGeneral σ (equations n.terms.items ps)
        → IsMostGeneral (from_trees σ) cs
    types_general σ g = record {
      solves = types_solve σ g.solves;
      general = λ τ e.
          (moved (g.general (to_trees marked τ) (trees_solve marked τ e)).0 τ, others τ e);
    }
      where
        others : (τ : Substitution) (e : Solves τ cs) (q : TypeVariableKey)
            → τ q ≡ under (moved (g.general (to_trees marked τ) (trees_solve marked τ e)).0 τ)
            (from_trees σ q)
        others τ e q = go (place_of q) refl
          where
            m : (ρ : ℕ → Tree) × ((x : ℕ) → to_trees marked τ x ≡ trees.substituted ρ (σ x))
            m = g.general (to_trees marked τ) (trees_solve marked τ e)

            l : (ρ : ℕ → Tree) × ((x : ℕ) → to_trees ground τ x ≡ trees.substituted ρ (σ x))
            l = g.general (to_trees ground τ) (trees_solve ground τ e)

            go : (o : Option ℕ) → place_of q ≡ o → τ q ≡ under (moved m.0 τ) (or_aside σ q o)
            go None p = aside_moved m.0 τ q
            go (Some x) p =
                let v = place_has q x p in
                ap (λ k. τ (key_or k)) (sym v.1)
                ∙ sym (back_with variable (τ (key_at x)))
                ∙ ap (back variable) (m.1 x)
                ∙ under_back m.0 variable variable (moved m.0 τ) (λ y. refl) (σ x)
                (formed_by l.0 (σ x) (τ (key_at x)) (sym (l.1 x)))

  module _ (cs : List Constraint) (ps : List (ℕ × ℕ)) (s : PairsDenote n cs ps) where
    first_solves : (k : ℕ) (σ : ℕ → Tree) → equal.Solves σ (take k (equations n.terms.items ps))
        → Solves (from_trees σ) (take k cs)
    first_solves k σ e = types_solve (take k cs) (take k ps) (stand_take n h k cs ps s) σ
        (subst (equal.Solves σ) (take_equations n.terms.items k ps) e)

    pub none_solves : (k : ℕ) → equal.AreUnsolvable (take k (equations n.terms.items ps))
        → (τ : Substitution) → Solves τ (take k cs) → ⊥
    none_solves k u τ e = u (to_trees ground τ)
        (subst (equal.Solves (to_trees ground τ)) (sym (take_equations n.terms.items k ps))
        (trees_solve (take k cs) (take k ps) (stand_take n h k cs ps s) ground τ e))

    pub first_is : (i : ℕ) (c : Constraint) → slice_get cs i ≡ Some c
        → equal.IsFirstUnsolved (equations n.terms.items ps) i → IsFirstUnsolved cs i c
    first_is i c e u = record {
      is = e;
      before = from_trees u.before;
      solves = first_solves i u.before u.solves;
      none
          = none_solves (suc i) u.none;
    }

    pub first_there : (i : ℕ) → slice_get cs i ≡ None
        → equal.IsFirstUnsolved (equations n.terms.items ps) i → ⊥
    first_there i e u = none_solves (suc i) u.none (from_trees u.before)
        (subst (Solves (from_trees u.before)) (sym (take_past i cs e))
        (first_solves i u.before u.solves))

-- ---- the sides of a constraint

stand_at : (n : Nodes) (k : ℕ) (cs : List Constraint) (ps : List (ℕ × ℕ)) → PairsDenote n cs ps
    → (c : Constraint) (p : ℕ × ℕ) → slice_get cs k ≡ Some c → slice_get ps k ≡ Some p
    → Denotes n c.left p.0 × Denotes n c.right p.1
stand_at n k [] ps s c p e f = absurd cc
stand_at n zero (d ∷ cs) ps s c p e f =
    let same : d ≡ c = cc in
    let there : s.0 ≡ p = some_is (ap (λ ps. slice_get ps zero) (sym s.2) ∙ f) in
    subst (λ (q : ℕ × ℕ). Denotes n c.left q.0 × Denotes n c.right q.1) there
    (subst (λ (d : Constraint). Denotes n d.left s.0.0 × Denotes n d.right s.0.1) same
    (s.3, s.4))
stand_at n (suc k) (d ∷ cs) ps s c p e f = stand_at n k cs s.1 s.5 c p e
    (ap (λ ps. slice_get ps (suc k)) (sym s.2) ∙ f)

pub sides_shown : (n : Nodes) (h : IsSound n) (cs : List Constraint) (ps : List (ℕ × ℕ))
    → PairsDenote n cs ps → (k : ℕ) (c : Constraint) (p : ℕ × ℕ) → slice_get cs k ≡ Some c
    → slice_get ps k ≡ Some p
    → (σ : ℕ → Tree) → equal.IsMostGeneral σ (equations n.terms.items (take k ps))
    → AreSides (take k cs) c (typed_of (trees.substituted σ (tree n.terms.items p.0)))
    (typed_of (trees.substituted σ (tree n.terms.items p.1)))
sides_shown n h cs ps s k c p e f σ g =
    let d = stand_at n k cs ps s c p e f in
    record {
      solution = from_trees n h σ;
      general = types_general n h (take k cs) (take k ps) (stand_take n h k cs ps s) σ g;
      is_left = sym (shown n h σ variable (from_trees n h σ) (from_fits n h σ) c.left p.0 d.0);
      is_right = sym (shown n h σ variable (from_trees n h σ) (from_fits n h σ) c.right p.1 d.1);
    }
