-- Of two assignments of sorts one knows at least what the other does, and the other nothing of
-- further variables.
use Rattle.std.proofs.Common.{◌≡◌, ℕ, zero, suc, ◌<◌, ◌≤◌, Bool, true, false, cond, List, [], ◌∷◌, refl, arith, subst}
use Rattle.std.specs.Prelude.{nat_eq, nat_le}
use Rattle.std.proofs.lemmas.Bool.Decides.{nat_tests}
use Rattle.grin_syntax.specs.declared.program.Tag.{Tag}
use Rattle.grin_syntax.specs.declared.program.VarId.{VarId}
use Rattle.grin_syntax.specs.declared.program.Cell.{Cell}
use Rattle.grin_syntax.specs.declared.program.Shape.{Shape}
use Rattle.grin_syntax.specs.declared.program.Shape.TheVariants as shape
use Rattle.grin_syntax.specs.declared.program.Target.{Target}
use Rattle.grin_syntax.specs.declared.program.Target.TheVariants as to
use Rattle.grin_syntax.specs.declared.program.Word.{Word}
use Rattle.grin_syntax.specs.declared.program.Word.TheVariants.{Lit, Var, Global, TagWord}
use Rattle.grin_syntax.specs.declared.program.Val.{Val}
use Rattle.grin_syntax.specs.declared.program.Val.TheVariants.{NodeVar, Node, Vector, One}
use Rattle.grin_syntax.specs.Formed.{AllOf}
use Rattle.grin_syntax.specs.Fresh.{past_vars, past_target, past_shape, past_cells}
use Rattle.inlined_form.proofs.Sorts.{Sort, anything, a_number, a_node, evaluated, Sorts, sorted, vars_sorted, cells_sorted, target_sorted, IsNode, IsNumber, WordsFit, KeptFits, ScrutineeFits, delayed, GivenFits, alternative_sorted}

-- the second says what the first does, or more
abbrev pub Less : Sort → Sort → Type 0
Less anything s = Unit {0}
Less a_number s = s ≡ a_number
Less a_node s = s ≡ a_node
Less evaluated s = s ≡ evaluated

less_self : (s : Sort) → Less s s
less_self anything = tt
less_self a_number = refl
less_self a_node = refl
less_self evaluated = refl

less_number : (s r : Sort) → Less s r → s ≡ a_number → r ≡ a_number
less_number anything r h e = cc
less_number a_number r h e = h
less_number a_node r h e = cc
less_number evaluated r h e = cc

less_evaluated : (s r : Sort) → Less s r → s ≡ evaluated → r ≡ evaluated
less_evaluated anything r h e = cc
less_evaluated a_number r h e = cc
less_evaluated a_node r h e = cc
less_evaluated evaluated r h e = h

less_node : (s r : Sort) → Less s r → IsNode s → IsNode r
less_node anything r h e = absurd e
less_node a_number r h e = absurd e
less_node a_node r h e = rw h tt
less_node evaluated r h e = rw h tt

-- of no variable does the first know more than the second
abbrev pub KnowsNoMore : Sorts → Sorts → Type 0
KnowsNoMore Γ Γ' = (y : ℕ) → Less (Γ y) (Γ' y)

pub knows_self : (Γ : Sorts) → KnowsNoMore Γ Γ
knows_self Γ y = less_self (Γ y)

knows_sorted : (x : ℕ) (s : Sort) (Γ Γ' : Sorts) → KnowsNoMore Γ Γ'
    → KnowsNoMore (sorted x s Γ) (sorted x s Γ')
knows_sorted x s Γ Γ' k y = on (nat_eq y x)
  where
    on : (b : Bool) → Less (cond b s (Γ y)) (cond b s (Γ' y))
    on true = less_self s
    on false = k y

pub knows_vars : (xs : List VarId) (Γ Γ' : Sorts) → KnowsNoMore Γ Γ'
    → KnowsNoMore (vars_sorted xs Γ) (vars_sorted xs Γ')
knows_vars [] Γ Γ' k = k
knows_vars (x ∷ xs) Γ Γ' k = knows_vars xs (sorted x.0 anything Γ) (sorted x.0 anything Γ')
    (knows_sorted x.0 anything Γ Γ' k)

pub knows_cells : (cs : List Cell) (Γ Γ' : Sorts) → KnowsNoMore Γ Γ'
    → KnowsNoMore (cells_sorted cs Γ) (cells_sorted cs Γ')
knows_cells [] Γ Γ' k = k
knows_cells (c ∷ cs) Γ Γ' k = knows_cells cs (sorted c.var.0 anything Γ)
    (sorted c.var.0 anything Γ') (knows_sorted c.var.0 anything Γ Γ' k)

pub knows_target : (t : Target) (s : Sort) (Γ Γ' : Sorts) → KnowsNoMore Γ Γ'
    → KnowsNoMore (target_sorted t s Γ) (target_sorted t s Γ')
knows_target to.Nothing s Γ Γ' k = k
knows_target (to.Node x) s Γ Γ' k = knows_sorted x.0 s Γ Γ' k
knows_target (to.One x) s Γ Γ' k = knows_sorted x.0 s Γ Γ' k
knows_target (to.Vector xs) s Γ Γ' k = k

pub knows_alternative : (ts : List Tag) (s : Shape) (v : Val) (Γ Γ' : Sorts) → KnowsNoMore Γ Γ'
    → KnowsNoMore (alternative_sorted ts s v Γ) (alternative_sorted ts s v Γ')
knows_alternative ts shape.Else v Γ Γ' k = k
knows_alternative ts (shape.Int i) v Γ Γ' k = k
knows_alternative ts (shape.Node t xs) (NodeVar x) Γ Γ' k = on (delayed ts t.0)
  where
    on : (b : Bool) → KnowsNoMore (vars_sorted xs (cond b Γ (sorted x.0 evaluated Γ)))
        (vars_sorted xs (cond b Γ' (sorted x.0 evaluated Γ')))
    on true = knows_vars xs Γ Γ' k
    on false = knows_vars xs (sorted x.0 evaluated Γ) (sorted x.0 evaluated Γ')
        (knows_sorted x.0 evaluated Γ Γ' k)
knows_alternative ts (shape.Node t xs) (Node t' ws) Γ Γ' k = knows_vars xs Γ Γ' k
knows_alternative ts (shape.Node t xs) (Vector ws) Γ Γ' k = knows_vars xs Γ Γ' k
knows_alternative ts (shape.Node t xs) (One a) Γ Γ' k = knows_vars xs Γ Γ' k

module _ (Γ Γ' : Sorts) (k : KnowsNoMore Γ Γ') where
  number_known : (a : Word) → IsNumber Γ a → IsNumber Γ' a
  number_known (Lit i) h = h
  number_known (Var x) h = less_number (Γ x.0) (Γ' x.0) (k x.0) h
  number_known (Global i) h = h
  number_known (TagWord t) h = h

  words_known : (t : ℕ) (ws : List Word) → WordsFit Γ t ws → WordsFit Γ' t ws
  words_known (suc t) ws h = tt
  words_known zero [] h = h
  words_known zero (a ∷ []) h = number_known a h
  words_known zero (a ∷ (b ∷ ws)) h = h

  pub kept_known : (v : Val) → KeptFits Γ v → KeptFits Γ' v
  kept_known (NodeVar x) h = less_node (Γ x.0) (Γ' x.0) (k x.0) h
  kept_known (Node t ws) h = words_known t.0 ws h
  kept_known (Vector ws) h = h
  kept_known (One a) h = h

  pub all_known : (cs : List Cell) → AllOf (λ c. KeptFits Γ c.val) cs
      → AllOf (λ c. KeptFits Γ' c.val) cs
  all_known [] h = tt
  all_known (c ∷ cs) h = (kept_known c.val h.0, all_known cs h.1)

  pub scrutinee_known : (v : Val) → ScrutineeFits Γ v → ScrutineeFits Γ' v
  scrutinee_known (NodeVar x) h = less_node (Γ x.0) (Γ' x.0) (k x.0) h
  scrutinee_known (Node t ws) h = h
  scrutinee_known (Vector ws) h = h
  scrutinee_known (One a) h = h

  pub given_known : (ts : List Tag) (v : Val) → GivenFits ts Γ v → GivenFits ts Γ' v
  given_known ts (NodeVar x) h = less_evaluated (Γ x.0) (Γ' x.0) (k x.0) h
  given_known ts (Node t ws) h = (h.0, words_known t.0 ws h.1)
  given_known ts (Vector ws) h = h
  given_known ts (One a) h = h

  -- of a variable of which nothing is known more may be
  pub fresh_known : (x : ℕ) (s : Sort) → Γ x ≡ anything → KnowsNoMore Γ (sorted x s Γ')
  fresh_known x s e y = on (nat_eq y x) refl
    where
      on : (b : Bool) → nat_eq y x ≡ b → Less (Γ y) (cond b s (Γ' y))
      on true q = let r : y ≡ x = grind (arith, nat_tests) in rw (r, e) tt
      on false q = k y

-- nothing is known of the variables from x0 on
abbrev pub Unknown : ℕ → Sorts → Type 0
Unknown x0 Γ = (y : ℕ) → x0 ≤ y → Γ y ≡ anything

pub unknown_sorted : (x0 x : ℕ) (s : Sort) (Γ : Sorts) → x < x0 → Unknown x0 Γ
    → Unknown x0 (sorted x s Γ)
unknown_sorted x0 x s Γ lt u y le = let e : nat_eq y x ≡ false = grind (arith, nat_tests)
    in rw e (u y le)

pub unknown_vars : (x0 : ℕ) (xs : List VarId) (Γ : Sorts) → past_vars xs ≤ x0 → Unknown x0 Γ
    → Unknown x0 (vars_sorted xs Γ)
unknown_vars x0 [] Γ le u = u
unknown_vars x0 (x ∷ xs) Γ le u = unknown_vars x0 xs (sorted x.0 anything Γ) (omega arith)
    (unknown_sorted x0 x.0 anything Γ (omega arith) u)

pub unknown_cells : (x0 : ℕ) (cs : List Cell) (Γ : Sorts) → past_cells cs ≤ x0 → Unknown x0 Γ
    → Unknown x0 (cells_sorted cs Γ)
unknown_cells x0 [] Γ le u = u
unknown_cells x0 (c ∷ cs) Γ le u = unknown_cells x0 cs (sorted c.var.0 anything Γ) (omega arith)
    (unknown_sorted x0 c.var.0 anything Γ (omega arith) u)

pub unknown_target : (x0 : ℕ) (t : Target) (s : Sort) (Γ : Sorts) → past_target t ≤ x0
    → Unknown x0 Γ → Unknown x0 (target_sorted t s Γ)
unknown_target x0 to.Nothing s Γ le u = u
unknown_target x0 (to.Node x) s Γ le u = unknown_sorted x0 x.0 s Γ (omega arith) u
unknown_target x0 (to.One x) s Γ le u = unknown_sorted x0 x.0 s Γ (omega arith) u
unknown_target x0 (to.Vector xs) s Γ le u = u

-- a node variable is one of those before
pub node_below : (x0 x : ℕ) (Γ : Sorts) → IsNode (Γ x) → Unknown x0 Γ → x < x0
node_below x0 x Γ h u = on (nat_le x0 x) refl
  where
    on : (b : Bool) → nat_le x0 x ≡ b → x < x0
    on true q = let le : x0 ≤ x = grind (arith, nat_tests) in absurd (subst IsNode (u x le) h)
    on false q = grind (arith, nat_tests)

pub unknown_alternative : (ts : List Tag) (x0 : ℕ) (s : Shape) (v : Val) (Γ : Sorts)
    → past_shape s ≤ x0 → ScrutineeFits Γ v → Unknown x0 Γ
    → Unknown x0 (alternative_sorted ts s v Γ)
unknown_alternative ts x0 shape.Else v Γ le h u = u
unknown_alternative ts x0 (shape.Int i) v Γ le h u = u
unknown_alternative ts x0 (shape.Node t xs) (NodeVar x) Γ le h u = on (delayed ts t.0)
  where
    on : (b : Bool) → Unknown x0 (vars_sorted xs (cond b Γ (sorted x.0 evaluated Γ)))
    on true = unknown_vars x0 xs Γ le u
    on false = unknown_vars x0 xs (sorted x.0 evaluated Γ) le
        (unknown_sorted x0 x.0 evaluated Γ (node_below x0 x.0 Γ h u) u)
unknown_alternative ts x0 (shape.Node t xs) (Node t' ws) Γ le h u = absurd h
unknown_alternative ts x0 (shape.Node t xs) (Vector ws) Γ le h u = absurd h
unknown_alternative ts x0 (shape.Node t xs) (One a) Γ le h u = absurd h
