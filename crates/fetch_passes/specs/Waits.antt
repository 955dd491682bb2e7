-- Which words of a fetched node wait: those that are used only in alternatives of the case on its
-- tag. They are fetched there.
use Rattle.std.specs.Prelude.{ℕ, suc, cond, List, [], ◌∷◌}
use Rattle.grin_syntax.specs.declared.program.VarId.{VarId}
use Rattle.grin_syntax.specs.declared.program.Target.{Target}
use Rattle.grin_syntax.specs.declared.program.Target.TheVariants as to
use Rattle.grin_syntax.specs.Tree.{Code, Act, leaf, fetch, fetch_word}
use Rattle.fetch_passes.specs.Windows.{owns, outside}
use Rattle.fetch_passes.specs.Names.{DeferredField}

-- of a node with the tag t and these words from the i-th on, where the block b follows: each that
-- has no use outside the alternatives of the case on t
abbrev pub deferred_fields_of : (t : ℕ) → Code → ℕ → List VarId → List DeferredField
deferred_fields_of t b i [] = []
deferred_fields_of t b i (x ∷ xs) =
    cond (outside t x.0 b) (deferred_fields_of t b (suc i) xs)
    (record { var = x; place = i } ∷ deferred_fields_of t b (suc i) xs)

-- what waits for the case that comes next, fetches aside, after an operation that goes to a target,
-- where the block b follows and ps waited before
abbrev pub deferred_fields_after : Act → Target → Code → List DeferredField → List DeferredField
deferred_fields_after (leaf (fetch a)) (to.Vector (x ∷ xs)) b ps =
    cond (owns x.0 b) (deferred_fields_of x.0 b 1 xs) ps
deferred_fields_after (leaf (fetch a)) t b ps = ps
deferred_fields_after (leaf (fetch_word a i)) t b ps = ps
deferred_fields_after o t b ps = []
