-- A case does what it does in the other order: no value fits two alternatives that change places.
use Rattle.std.proofs.Common.{◌≡◌, ℕ, Bool, true, false, cond, ◌||◌, nat_eq, List, get_or, Option, Some, None, refl, sym, ap, ◌∙◌}
use Rattle.seq.proofs.Truth.{true_not_false, false_not_true}
use Rattle.seq.proofs.Order.{eq_from}
use Rattle.grin_syntax.specs.declared.program.Shape.{Shape}
use Rattle.grin_syntax.specs.declared.program.Shape.TheVariants as shape
use Rattle.grin_syntax.specs.declared.program.Val.{Val}
use Rattle.grin_syntax.specs.Tree.{case, Arms, Program}
use Rattle.grin_meaning.specs.Values.{Node, Value, Env, World, Answer, need, Binding, MatchOutcome, fits_not, unclear, fields_fit, number_fit, as_node, node_fit, int_fit, fit_of, value_of}
use Rattle.grin_meaning.specs.Run.{Calls, choose, act_by, arms_by}
use Rattle.pass_order.specs.Order.{values_first}
use Rattle.pass_order.proofs.Moved.{Apart, Moves, in_order}

-- one of two patterns doesn't fit, or it is unclear of both
pub data NotBoth : MatchOutcome → MatchOutcome → Type 0 where
  first_not : (m : MatchOutcome) → NotBoth fits_not m
  second_not : (m : MatchOutcome) → NotBoth m fits_not
  neither_clear : NotBoth unclear unclear

either_first : {m n : MatchOutcome} → NotBoth m n → (w : World) (k l : List Binding → Answer)
    (a : Answer) → choose n w l (choose m w k a) ≡ choose m w k (choose n w l a)
either_first (first_not m) w k l a = refl
either_first (second_not m) w k l a = refl
either_first neither_clear w k l a = refl

no_call : (b : Bool) → (b || false) ≡ false → b ≡ false
no_call true e = e
no_call false e = e

module _ (p : Program) (delayed : List Bool) (number : get_or delayed 0 false ≡ false) where
  -- a node of tag n with one of two tags
  one_tag : (n t u : ℕ) (m k : MatchOutcome) → get_or delayed t false ≡ true
      → get_or delayed u false ≡ false
      → NotBoth (cond (nat_eq n t) m fits_not) (cond (nat_eq n u) k fits_not)
  one_tag n t u m k e f = go (nat_eq n t) (nat_eq n u) refl refl
    where
      go : (b c : Bool) → nat_eq n t ≡ b → nat_eq n u ≡ c
          → NotBoth (cond b m fits_not) (cond c k fits_not)
      go false c q r = first_not (cond c k fits_not)
      go true false q r = second_not m
      go true true q r = true_not_false
          (sym e ∙ ap (λ i. get_or delayed i false) (sym (eq_from n t q) ∙ eq_from n u r) ∙ f)

  never_both : (s u : Shape) → Apart delayed s u → (v : Value)
      → NotBoth (fit_of p s v) (fit_of p u v)
  never_both (shape.Int k) u a v = false_not_true a.call
  never_both shape.Else u a v = false_not_true a.call
  never_both (shape.Node t xs) shape.Else a v = true_not_false a.value
  never_both (shape.Node t xs) (shape.Int k) a v = go (as_node p v)
    where
      go : (o : Option Node) → NotBoth (node_fit t.0 xs o) (int_fit k o)
      go None = neither_clear
      go (Some n) = one_tag n.tag t.0 0 (fields_fit xs n.fields) (number_fit k n.fields) a.call
          number
  never_both (shape.Node t xs) (shape.Node u ys) a v = go (as_node p v)
    where
      go : (o : Option Node) → NotBoth (node_fit t.0 xs o) (node_fit u.0 ys o)
      go None = neither_clear
      go (Some n) = one_tag n.tag t.0 u.0 (fields_fit xs n.fields) (fields_fit ys n.fields) a.call
          (no_call (get_or delayed u.0 false) a.value)

  module _ (calls : Calls) (looks : Bool) where
    -- the second alternatives do what the first ones do
    does_same : Moves delayed
    unfolding act_by
    does_same = record {
      arms = λ as' bs'. (env : Env) (d : ℕ) (v : Value) (w : World)
          → arms_by p calls looks env d v bs' w ≡ arms_by p calls looks env d v as' w;
      same = λ as' env d v w. refl;
      more = λ s b as' bs' h env d v w. ap (choose (fit_of p s v) w _) (h env d v w);
      swaps = λ s u b c as' a env d v w. either_first (never_both s u a v) w _ _ _;
      again = λ as' bs' cs' h k env d v w. k env d v w ∙ h env d v w;
    }

    pub case_same : (v : Val) (as' : Arms) (env : Env) (d : ℕ) (w : World)
        → act_by p calls looks env d (case v (values_first delayed as')) w
        ≡ act_by p calls looks env d (case v as') w
    unfolding act_by does_same
    case_same v as' env d w = ap (need (value_of p env v) w)
        (λ i x. in_order delayed does_same as' env d x w i)
