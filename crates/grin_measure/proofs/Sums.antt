-- Counts of the pieces of a program, by those of their parts.
use Rattle.std.proofs.Common.{◌≡◌, ℕ, suc, ◌+◌, ◌-◌, List, [], ◌∷◌, length, refl, sym, ap, ◌∙◌, arith}
use Rattle.grin_syntax.specs.declared.program.ProcId.{ProcId}
use Rattle.grin_syntax.specs.declared.program.PrimOp.{PrimOp}
use Rattle.grin_syntax.specs.declared.program.Word.{Word}
use Rattle.grin_syntax.specs.declared.program.Val.{Val}
use Rattle.grin_syntax.specs.declared.program.Target.{Target}
use Rattle.grin_syntax.specs.declared.program.Shape.{Shape}
use Rattle.grin_syntax.specs.declared.program.Shape.TheVariants as shape
use Rattle.grin_syntax.specs.declared.program.Cell.{Cell}
use Rattle.grin_syntax.specs.Tree.{Code, end, store, bind, Act, leaf, unit, fetch, fetch_word, update, eval, apply, call, prim, read, write, case, nested, fail, Arms, no_arm, arm}
use Rattle.grin_syntax.specs.Binders.{shape_vars}
use Rattle.grin_meaning.specs.Slim.{val_weight, target_weight, cells_weight, act_weight, code_weight, arms_weight, act_calls, code_calls, arms_calls, node_words, end_words, inner_words, code_words, arms_words}
use Rattle.inline_theory.specs.Size.{val_size, target_size, shape_size, cells_size, act_size, code_size, arms_size}
use Rattle.grin_measure.specs.declared.counts.Counts.{Counts}
use Rattle.grin_measure.specs.Counts.{counts, sum, of_val, of_target, of_cells, of_pattern, of_act, of_code, of_arms}
use Rattle.inline_theory.specs.Expanded.{saturated_at_64_bits}

-- ---- sums

capped_sum : (x y : ℕ) → saturated_at_64_bits (saturated_at_64_bits x + saturated_at_64_bits y) ≡
    saturated_at_64_bits (x + y)
capped_sum x y = omega arith

capped_twice : (x y z : ℕ) → saturated_at_64_bits (saturated_at_64_bits (x + y) + z) ≡
    saturated_at_64_bits (x + saturated_at_64_bits (y + z))
capped_twice x y z = omega arith

pub same_counts : (w c v s w' c' v' s' : ℕ) → w ≡ w' → c ≡ c' → v ≡ v' → s ≡ s'
    → counts w c v s ≡ counts w' c' v' s'
same_counts w c v s w' c' v' s' e f g h = λ i. counts (e i) (f i) (g i) (h i)

pub sums : (w c v s w' c' v' s' : ℕ) → sum (counts w c v s) (counts w' c' v' s') ≡ counts (w + w')
    (c + c') (v + v') (s + s')
unfolding sum counts
sums w c v s w' c' v' s' = λ i. record {
  weight = capped_sum w w' i;
  calls = capped_sum c c' i;
  words = capped_sum v v' i;
  size
      = capped_sum s s' i;
}

pub sum_after : (a b c : Counts) → sum (sum a b) c ≡ sum a (sum b c)
unfolding sum counts
sum_after a b c = λ i. record {
  weight = capped_twice a.weight b.weight c.weight i;
  calls = capped_twice a.calls b.calls c.calls i;
  words = capped_twice a.words b.words c.words i;
  size = capped_twice a.size b.size c.size i;
}

capped_alone : (x y : ℕ) → saturated_at_64_bits (saturated_at_64_bits (x + y) + 0) ≡
    saturated_at_64_bits (x + y)
capped_alone x y = omega arith

pub sum_then_none : (a b : Counts) → sum (sum a b) (counts 0 0 0 0) ≡ sum a b
unfolding sum counts
sum_then_none a b = λ i. record {
  weight = capped_alone a.weight b.weight i;
  calls = capped_alone a.calls b.calls i;
  words = capped_alone a.words b.words i;
  size = capped_alone a.size b.size i;
}

pub sums_are : (w c v s w' c' v' s' x y z u : ℕ) → x ≡ w + w' → y ≡ c + c' → z ≡ v + v' → u ≡ s + s'
    → counts x y z u ≡ sum (counts w c v s) (counts w' c' v' s')
sums_are w c v s w' c' v' s' x y z u e f g h = same_counts x y z u (w + w') (c + c') (v + v')
    (s + s') e f g h ∙ sym (sums w c v s w' c' v' s')

pub none_first : (w c v s : ℕ) → sum (counts 0 0 0 0) (counts w c v s) ≡ counts w c v s
none_first w c v s = sym
    (sums_are 0 0 0 0 w c v s w c v s (omega arith) (omega arith) (omega arith) (omega arith))

-- ---- operations

-- an operation, of what it counts itself and what a value or a block in it does
act_sum : (o : Act) (w n s w' c' v' s' : ℕ) → act_weight o ≡ w + w' → act_calls o ≡ n + c'
    → inner_words o ≡ 0 + v' → act_size o ≡ s + s' → of_act o ≡ sum (counts w n 0 s)
    (counts w' c' v' s')
unfolding of_act
act_sum o w n s w' c' v' s' e f g h = sums_are w n 0 s w' c' v' s' (act_weight o) (act_calls o)
    (inner_words o) (act_size o) e f g h

pub of_act-unit : (v : Val) → of_act (leaf (unit v)) ≡ sum (counts 16 0 0 1) (of_val v)
unfolding of_act of_code of_arms act_weight act_calls inner_words act_size
of_act-unit v = act_sum (leaf (unit v)) 16 0 1 (val_weight v) 0 0 (val_size v) (omega arith)
    (omega arith) (omega arith) (omega arith)

pub of_act-fetch : (a : Word) → of_act (leaf (fetch a)) ≡ counts 17 0 0 2
unfolding of_act of_code of_arms act_weight act_calls inner_words act_size
of_act-fetch a = refl

pub of_act-fetch_word : (a : Word) (k : ℕ) → of_act (leaf (fetch_word a k)) ≡ counts 17 0 0 2
unfolding of_act of_code of_arms act_weight act_calls inner_words act_size
of_act-fetch_word a k = refl

pub of_act-update : (a : Word) (v : Val) → of_act (leaf (update a v)) ≡ sum (counts 17 0 0 2)
    (of_val v)
unfolding of_act of_code of_arms act_weight act_calls inner_words act_size
of_act-update a v = act_sum (leaf (update a v)) 17 0 2 (val_weight v) 0 0 (val_size v) (omega arith)
    (omega arith) (omega arith) (omega arith)

pub of_act-eval : (a : Word) → of_act (leaf (eval a)) ≡ counts 17 0 0 2
unfolding of_act of_code of_arms act_weight act_calls inner_words act_size
of_act-eval a = refl

pub of_act-apply : (v : Val) (a : Word) → of_act (leaf (apply v a)) ≡ sum (counts 17 0 0 2)
    (of_val v)
unfolding of_act of_code of_arms act_weight act_calls inner_words act_size
of_act-apply v a = act_sum (leaf (apply v a)) 17 0 2 (val_weight v) 0 0 (val_size v) (omega arith)
    (omega arith) (omega arith) (omega arith)

pub of_act-call : (f : ProcId) (ws : List Word) → of_act (leaf (call f ws)) ≡ counts
    (16 + length ws) 1 0 (1 + length ws)
unfolding of_act of_code of_arms act_weight act_calls inner_words act_size
of_act-call f ws = refl

pub of_act-prim : (p : PrimOp) (a b : Word) → of_act (leaf (prim p a b)) ≡ counts 18 0 0 3
unfolding of_act of_code of_arms act_weight act_calls inner_words act_size
of_act-prim p a b = refl

pub of_act-read : of_act (leaf read) ≡ counts 24 0 0 1
unfolding of_act of_code of_arms act_weight act_calls inner_words act_size
of_act-read = refl

pub of_act-write : (a : Word) → of_act (leaf (write a)) ≡ counts 25 0 0 2
unfolding of_act of_code of_arms act_weight act_calls inner_words act_size
of_act-write a = refl

pub of_act-case : (v : Val) (as' : Arms) → of_act (case v as') ≡ sum
    (sum (counts 16 0 0 1) (of_val v)) (of_arms as')
unfolding of_act of_code of_arms act_weight act_calls inner_words act_size
of_act-case v as' =
    act_sum (case v as') (16 + val_weight v) 0 (1 + val_size v) (arms_weight as') (arms_calls as')
    (arms_words as') (arms_size as') (omega arith) (omega arith) (omega arith) (omega arith)
    ∙ ap (λ a. sum a (of_arms as'))
    (sums_are 16 0 0 1 (val_weight v) 0 0 (val_size v) (16 + val_weight v) 0 0 (1 + val_size v)
    (omega arith) (omega arith) (omega arith) (omega arith))

pub of_act-nested : (b : Code) → of_act (nested b) ≡ sum (counts 16 0 0 1) (of_code b)
unfolding of_act of_code of_arms act_weight act_calls inner_words act_size
of_act-nested b = act_sum (nested b) 16 0 1 (code_weight b) (code_calls b) (code_words b)
    (code_size b) (omega arith) (omega arith) (omega arith) (omega arith)

pub of_act-fail : of_act (leaf fail) ≡ counts 16 0 0 1
unfolding of_act of_code of_arms act_weight act_calls inner_words act_size
of_act-fail = refl

pub ruleset acts_count = (
  of_act-unit,
  of_act-fetch,
  of_act-fetch_word,
  of_act-update,
  of_act-eval,
  of_act-apply,
  of_act-call,
  of_act-prim,
  of_act-read,
  of_act-write,
  of_act-case,
  of_act-nested,
  of_act-fail,
)

-- ---- blocks and alternatives

pub of_code-end : (o : Act) → of_code (end o) ≡ sum (counts 0 0 (end_words o) 0) (of_act o)
unfolding of_act of_code of_arms act_weight act_calls inner_words act_size
of_code-end o =
    sums_are 0 0 (end_words o) 0 (act_weight o) (act_calls o) (inner_words o) (act_size o)
    (code_weight (end o)) (code_calls (end o)) (code_words (end o)) (code_size (end o))
    (omega arith) (omega arith) (omega arith) (omega arith)

pub of_code-store : (cs : List Cell) (b : Code) → of_code (store cs b) ≡ sum (of_cells cs)
    (of_code b)
unfolding of_act of_code of_arms act_weight act_calls inner_words act_size
of_code-store cs b =
    sums_are (cells_weight cs) 0 (length cs) (cells_size cs) (code_weight b) (code_calls b)
    (code_words b) (code_size b)
    (code_weight (store cs b)) (code_calls (store cs b)) (code_words (store cs b))
    (code_size (store cs b)) (omega arith) (omega arith) (omega arith) (omega arith)

pub of_code-bind : (t : Target) (o : Act) (b : Code)
    → of_code (bind t o b) ≡ sum (sum (of_target t) (sum (counts 0 0 (node_words o) 0) (of_act o)))
    (of_code b)
unfolding of_act of_code of_arms act_weight act_calls inner_words act_size
of_code-bind t o b =
    let n = node_words o in let i = inner_words o in let w = target_weight t in
    sums_are (w + act_weight o) (act_calls o) (w + (n + i)) (target_size t + act_size o)
    (code_weight b) (code_calls b) (code_words b) (code_size b)
    (code_weight (bind t o b)) (code_calls (bind t o b)) (code_words (bind t o b))
    (code_size (bind t o b)) (omega arith) (omega arith) (omega arith) (omega arith)
    ∙ ap (λ a. sum a (of_code b))
    (sums_are w 0 w (target_size t) (act_weight o) (act_calls o) (n + i) (act_size o)
    (w + act_weight o) (act_calls o) (w + (n + i)) (target_size t + act_size o) (omega arith)
    (omega arith) (omega arith) (omega arith)
    ∙ ap (λ a. sum (of_target t) a)
    (sums_are 0 0 n 0 (act_weight o) (act_calls o) i (act_size o) (act_weight o) (act_calls o)
    (n + i) (act_size o) (omega arith) (omega arith) (omega arith) (omega arith)))

pub pattern_size : (s : Shape) → length (shape_vars s) ≡ shape_size s
pattern_size (shape.Node t []) = refl
pattern_size (shape.Node t (x ∷ xs)) = ap suc (pattern_size (shape.Node t xs))
pattern_size (shape.Int k) = refl
pattern_size shape.Else = refl

pub of_arms-none : of_arms no_arm ≡ counts 0 0 0 0
unfolding of_act of_code of_arms act_weight act_calls inner_words act_size
of_arms-none = refl

pub of_arms-arm : (s : Shape) (b : Code) (as' : Arms)
    → of_arms (arm s b as') ≡ sum (sum (of_pattern s) (of_code b)) (of_arms as')
unfolding of_act of_code of_arms act_weight act_calls inner_words act_size
of_arms-arm s b as' =
    let n = shape_size s in let e : length (shape_vars s) ≡ n = pattern_size s in
    sums_are (3 + n + code_weight b) (code_calls b) (n + code_words b) (n + code_size b)
    (arms_weight as') (arms_calls as') (arms_words as') (arms_size as')
    (arms_weight (arm s b as')) (arms_calls (arm s b as')) (arms_words (arm s b as'))
    (arms_size (arm s b as'))
    (omega (arith, e)) (omega arith) (omega (arith, e)) (omega arith)
    ∙ ap (λ a. sum a (of_arms as'))
    (sums_are (3 + n) 0 n n (code_weight b) (code_calls b) (code_words b) (code_size b)
    (3 + n + code_weight b) (code_calls b) (n + code_words b) (n + code_size b) (omega arith)
    (omega arith) (omega arith) (omega arith))
