-- What is told of a variable is what it holds: by the alternatives, and by a solution in which the
-- state lies or which is silent.
use Rattle.std.proofs.Common.{◌≡◌, ℕ, zero, suc, List, [], ◌∷◌, length, Option, Some, None, refl, sym, ap, ◌∙◌, subst}
use Rattle.seq.specs.Lists.{those}
use Rattle.seq.proofs.Lists.{none_is_some, some_is}
use Rattle.grin_syntax.specs.declared.program.VarId.{VarId}
use Rattle.grin_syntax.specs.declared.program.Val.{Val}
use Rattle.grin_syntax.specs.declared.program.Word.TheVariants.{Var}
use Rattle.grin_syntax.specs.Tree.{Program}
use Rattle.grin_meaning.specs.Values.{Datum, Value, State, and_then, only_word, word_of, value_of}
use Rattle.grin_meaning.specs.Follows.{HoldsInEveryState}
use Rattle.flow_system.specs.Solution.{Solution}
use Rattle.flow_system.specs.Covers.{StateIsCovered}
use Rattle.pass_ground.specs.OpenUpdates.{tag_variable}
use Rattle.update_special.specs.Updates.{may_have_tag}
use Rattle.case_simplify.specs.declared.known.Known.{Known}
use Rattle.case_simplify.specs.Known.{Facts}
use Rattle.case_simplify.proofs.Held.{datum_of, Holds}
use Rattle.pass_known.specs.Told.{silent, only_tag, or_else, told_of}
use Rattle.pass_known.specs.Needed.{if_nonempty, tags_at}
use Rattle.pass_known.proofs.Soles.{only_datum}
use Rattle.pass_known.proofs.Fitting.{Left, at_first}

-- what a solution tells of a state holds there
pub record Tells (g : Program) (A : Solution) (s : State) : Type 0 where
  pub words : (x : ℕ) (k : Known) (d : Datum) → only_tag (length g.tags) A x ≡ Some k
      → and_then (s.env x) only_word ≡ Some d → d ≡ datum_of g k
  pub values : (v : Val) (y : Value) → value_of g s.env v ≡ Some y
      → Left g (tags_at (length g.tags) A (tag_variable v)) y

lies_tells : (g : Program) (A : Solution) (s : State) → StateIsCovered g A s → Tells g A s
lies_tells g A s lies = record
    { words = only_datum g A s lies (length g.tags); values = at_first g A s lies }

pub all_tell : (g : Program) (A : Solution) (ss : List State)
    → HoldsInEveryState (StateIsCovered g A) ss → HoldsInEveryState (Tells g A) ss
all_tell g A [] h = tt
all_tell g A (s ∷ ss) h = (lies_tells g A s h.0, all_tell g A ss h.1)

-- ---- a silent solution

pub silent_tags : (count : ℕ) (o : Option VarId) → tags_at count silent o ≡ None
silent_tags count None = refl
silent_tags count (Some x) = ap if_nonempty (no_tags 0 count)
  where
    no_tags : (i k : ℕ) → those (may_have_tag silent x.0) i k ≡ []
    no_tags i zero = refl
    no_tags i (suc k) = no_tags (suc i) k

silent_tells : (g : Program) (s : State) → Tells g silent s
silent_tells g s = record {
  words = λ x k d q e. none_is_some q;
  values = λ v y at. subst (λ o. Left g o y) (sym (silent_tags (length g.tags) (tag_variable v)))
      tt;
}

pub all_silent : (g : Program) (ss : List State) → HoldsInEveryState (Tells g silent) ss
all_silent g [] = tt
all_silent g (s ∷ ss) = (silent_tells g s, all_silent g ss)

-- ---- with facts

-- a variable holds what is told of it
pub told_datum : (g : Program) (A : Solution) (s : State) → Tells g A s → (facts : Facts)
    → Holds g facts s.env → (x : VarId) (k : Known) (d : Datum)
    → told_of (length g.tags) A facts x.0 ≡ Some k → word_of g s.env (Var x) ≡ Some d
    → d ≡ datum_of g k
told_datum g A s tells facts holds x k d q e = go (facts x.0) refl q
  where
    go : (o : Option Known) → facts x.0 ≡ o → or_else o (only_tag (length g.tags) A x.0) ≡ Some k
        → d ≡ datum_of g k
    go None r q = tells.words x.0 k d q e
    go (Some j) r q = some_is (sym e ∙ holds x.0 j r) ∙ ap (datum_of g) (some_is q)
