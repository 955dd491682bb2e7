-- What is counted in a piece of a program: its weight, its calls, the words that it needs in a
-- frame, and its size.
use Rattle.std.specs.Prelude.{ℕ, ◌+◌, List, length}
use Rattle.grin_syntax.specs.declared.program.Val.{Val}
use Rattle.grin_syntax.specs.declared.program.Target.{Target}
use Rattle.grin_syntax.specs.declared.program.Shape.{Shape}
use Rattle.grin_syntax.specs.declared.program.Cell.{Cell}
use Rattle.grin_syntax.specs.Tree.{Code, Act, Arms, Procedure}
use Rattle.grin_meaning.specs.Slim.{val_weight, target_weight, cells_weight, act_weight, code_weight, arms_weight, procs_weight, act_calls, code_calls, arms_calls, procs_calls, inner_words, code_words, arms_words, procedure_words}
use Rattle.inline_theory.specs.Size.{val_size, target_size, shape_size, cells_size, act_size, code_size, arms_size, procedure_size, total}
use Rattle.grin_measure.specs.declared.counts.Counts.{Counts}
use Rattle.inline_theory.specs.Expanded.{saturated_at_64_bits}

unfoldable pub counts : (weight calls words size : ℕ) → Counts
counts w c v s = record {
  weight = saturated_at_64_bits w;
  calls = saturated_at_64_bits c;
  words = saturated_at_64_bits v;
  size = saturated_at_64_bits s;
}

-- both together
unfoldable pub sum : Counts → Counts → Counts
sum a b = counts (a.weight + b.weight) (a.calls + b.calls) (a.words + b.words) (a.size + b.size)

abbrev pub of_val : Val → Counts
of_val v = counts (val_weight v) 0 0 (val_size v)

abbrev pub of_target : Target → Counts
of_target t = counts (target_weight t) 0 (target_weight t) (target_size t)

abbrev pub of_cell : Cell → Counts
of_cell c = counts (17 + val_weight c.val) 0 1 (2 + val_size c.val)

abbrev pub of_cells : List Cell → Counts
of_cells cs = counts (cells_weight cs) 0 (length cs) (cells_size cs)

abbrev pub of_pattern : Shape → Counts
of_pattern s = counts (3 + shape_size s) 0 (shape_size s) (shape_size s)

-- an operation, beside the words for its own value
unfoldable pub of_act : Act → Counts
of_act o = counts (act_weight o) (act_calls o) (inner_words o) (act_size o)

unfoldable pub of_code : Code → Counts
of_code b = counts (code_weight b) (code_calls b) (code_words b) (code_size b)

unfoldable pub of_arms : Arms → Counts
of_arms as' = counts (arms_weight as') (arms_calls as') (arms_words as') (arms_size as')

abbrev pub of_procedure : Procedure → Counts
of_procedure q =
    sum (counts (length q.params) 0 (length q.params) (length q.params)) (of_code q.body)

abbrev pub of_procs : List Procedure → Counts
of_procs qs =
    counts (procs_weight qs) (procs_calls qs) (total procedure_words qs) (total procedure_size qs)
