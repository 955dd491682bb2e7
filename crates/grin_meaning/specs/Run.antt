-- What operations, blocks and programs do, in a run and in a run that looks at more (Looking).
use Rattle.std.specs.Prelude.{ℕ, suc, zero, ℤ, pos, negsuc, Bool, true, false, cond, max, List, [], ◌∷◌, ◌++◌, map, length, not, Option, Some, None, slice_get, slice_set}
use Rattle.grin_syntax.specs.declared.program.Tag.{Tag}
use Rattle.grin_syntax.specs.declared.program.PrimOp.{PrimOp}
use Rattle.grin_syntax.specs.declared.program.PrimOp.TheVariants.{Add, Sub, Mul, Quot, Rem, Eq, Lt}
use Rattle.grin_syntax.specs.declared.program.Cell.{Cell}
pub use Rattle.grin_syntax.specs.Tags.{is_part_kind, is_fun_kind, is_proc, is_part, part_from}
pub use Rattle.grin_meaning.specs.Checks.{is_some_and}
use Rattle.grin_meaning.specs.Checks.{is_given, fills, all_fill, is_bound_well}
use Rattle.grin_syntax.specs.Tree.{Code, end, store, bind, Act, leaf, unit, fetch, fetch_word, update, eval, apply, call, prim, read, write, case, nested, fail, Arms, no_arm, arm, Program}
use Rattle.numbers.specs.Numbers.{sum, difference, product, quotient, remainder, equal, less, low_byte}
use Rattle.grin_meaning.specs.Values.{Datum, number, tag, cell, Node, Value, node, words, Env, HeapCell, World, no_alternative, out_of_units, missing, Answer, gives, stops, then_do, need, and_then, each, Binding, with_vars, one_each, fit_of, MatchOutcome, fits, fits_not, unclear, as_node, made_node, word_of, words_of, value_of, node_of, bindings_of}

-- a call of a procedure with its arguments, at a nesting
abbrev pub Calls : Type 0
Calls = ℕ → List Datum → ℕ → World → Answer

-- the operations on numbers
abbrev pub arithmetic : PrimOp → ℤ → ℤ → ℤ
arithmetic Add a b = sum a b
arithmetic Sub a b = difference a b
arithmetic Mul a b = product a b
arithmetic Quot a b = quotient a b
arithmetic Rem a b = remainder a b
arithmetic Eq a b = equal a b
arithmetic Lt a b = less a b

-- two numbers
abbrev pub apply_arithmetic : PrimOp → Datum → Datum → Option Value
apply_arithmetic f (number a) (number b) = Some (words (number (arithmetic f a b) ∷ []))
apply_arithmetic f _ _ = None

abbrev pub place_of : Datum → Option ℕ
place_of (cell a) = Some a
place_of _ = None

abbrev pub number_of : Datum → Option ℤ
number_of (number k) = Some k
number_of _ = None

abbrev pub nth_or_zero : List Datum → ℕ → Datum
nth_or_zero [] i = number (pos 0)
nth_or_zero (d ∷ ds) zero = d
nth_or_zero (d ∷ ds) (suc i) = nth_or_zero ds i

-- word i of a node: its tag, then its fields, then zeros
abbrev pub node_word : Node → ℕ → Datum
node_word n zero = tag n.tag
node_word n (suc i) = nth_or_zero n.fields i

-- the state in which a block goes on, once variables are bound, is one that the run passes through
abbrev pub with_state_seen : Env → World → World
with_state_seen env w = record w { seen = w.seen ++ record { env = env; heap = w.cells } ∷ [] }

-- the next byte, which is taken, or -1 at the end of the input
abbrev pub byte_or_end : List ℕ → ℤ
byte_or_end [] = negsuc 0
byte_or_end (k ∷ rest) = pos k

abbrev pub after_read : List ℕ → World → World
after_read [] w = w
after_read (k ∷ rest) w = record w { input = rest; used = suc w.used }

abbrev pub written : ℤ → World → World
written k w = record w { out = w.out ++ low_byte k ∷ [] }

-- the cell's node becomes n; its site stays
abbrev pub with_node : ℕ → Node → HeapCell → World → World
with_node a n c w = record w { cells = slice_set w.cells a (record { site = c.site; node = n }) }

-- further cells
abbrev pub with_cells : List HeapCell → World → World
with_cells cs w = record w { cells = w.cells ++ cs }

-- one unit spent, at the entry of a procedure
abbrev pub spent : ℕ → ℕ → ℕ → World → World
spent f d m w = record w { left = m; depth = max w.depth d; entered = w.entered ++ f ∷ [] }

-- the places of the cells of a group, from the first free one
abbrev pub places : ℕ → List Cell → List Binding
places a [] = []
places a (c ∷ cs) = (c.var.0, words (cell a ∷ [])) ∷ places (suc a) cs

-- goes on with what a pattern binds, or with the other alternatives
abbrev pub choose : MatchOutcome → World → (List Binding → Answer) → Answer → Answer
choose (fits bs) w k other = k bs
choose fits_not w k other = other
choose unclear w k other = stops missing w

-- a looking run looks at b here: where that is false, something is missing
abbrev pub require_if_checked : Bool → Bool → World → Answer → Answer
require_if_checked false b w a = a
require_if_checked true b w a = cond b a (stops missing w)

-- and here at the value that is given
abbrev pub require_value_if_checked : Bool → (Value → Bool) → Answer → Answer
require_value_if_checked false f a = a
require_value_if_checked true f a = then_do a (λ v w. cond (f v) (gives v w) (stops missing w))

abbrev pub spend : ℕ → World → (ℕ → Answer) → Answer
spend zero w k = stops out_of_units w
spend (suc m) w k = k m

abbrev pub start_words : Option ℕ → List Datum
start_words None = []
start_words (Some i) = cell i ∷ []

module _ (p : Program) where
  -- a C or P node
  abbrev pub is_evaluated : Node → Bool
  is_evaluated n = is_some_and (slice_get p.tags n.tag) (λ t. not (is_fun_kind t.kind))

  -- the cells of a group, once their variables stand for their places
  abbrev pub cells_of : Env → List Cell → Option (List HeapCell)
  cells_of env =
      each (λ c. and_then (node_of p env c.val) (λ n. Some (record { site = c.site.0; node = n })))

  module _ (calls : Calls) where
    -- the result of an evaluation goes into the cell
    abbrev pub updated : ℕ → Value → World → Answer
    updated a v w = need (as_node p v) w (λ n. need (slice_get w.cells a) w (λ c.
        cond (is_evaluated n) (gives (node n) (with_node a n c w)) (stops missing w)))

    abbrev pub eval_tag : ℕ → ℕ → Node → Tag → World → Answer
    eval_tag d a n t w = cond (is_fun_kind t.kind)
        (need t.proc w (λ f. then_do (calls f.0 n.fields (suc d) w) (updated a)))
        (gives (node n) w)

    abbrev pub eval_cell : ℕ → ℕ → World → Answer
    eval_cell d a w = need (slice_get w.cells a) w (λ c.
        need (slice_get p.tags c.node.tag) w (λ t. eval_tag d a c.node t w))

    -- an argument more for a function that waits for some
    abbrev pub apply_part : ℕ → Node → Datum → ℕ → ℕ → World → Answer
    apply_part d n x f zero w = stops missing w
    apply_part d n x f (suc zero) w = calls f (n.fields ++ x ∷ []) d w
    apply_part d n x f (suc (suc r)) w = need (part_from 0 p.tags f (suc r)) w (λ t.
        need (made_node p t (n.fields ++ x ∷ [])) w (λ m. gives (node m) w))

    abbrev pub apply_node : ℕ → Node → Datum → World → Answer
    apply_node d n x w = need (slice_get p.tags n.tag) w (λ t. cond (is_part_kind t.kind)
        (need t.proc w (λ f. apply_part d n x f.0 t.missing w))
        (stops no_alternative w))

    module _ (looks : Bool) where
      unfoldable mutual
        -- an operation at nesting d
        pub act_by : Env → ℕ → Act → World → Answer
        act_by env d (leaf (unit v)) w = need (value_of p env v) w (λ x.
            require_if_checked looks (fills p env v) w (gives x w))
        act_by env d (leaf (fetch a)) w = need (and_then (word_of p env a) place_of) w (λ i.
            need (slice_get w.cells i) w (λ c. gives (node c.node) w))
        act_by env d (leaf (fetch_word a k)) w = need (and_then (word_of p env a) place_of) w (λ i.
            need (slice_get w.cells i) w (λ c. gives (words (node_word c.node k ∷ [])) w))
        act_by env d (leaf (update a v)) w = need (and_then (word_of p env a) place_of) w (λ i.
            need (slice_get w.cells i) w (λ c. need (node_of p env v) w (λ n.
            require_if_checked looks (fills p env v) w (gives (words []) (with_node i n c w)))))
        act_by env d (leaf (eval a)) w =
            need (and_then (word_of p env a) place_of) w (λ i. eval_cell d i w)
        act_by env d (leaf (apply v a)) w =
            need (node_of p env v) w (λ n. need (word_of p env a) w (λ x. apply_node d n x w))
        act_by env d (leaf (call f as')) w = need (words_of p env as') w (λ xs. calls f.0 xs d w)
        act_by env d (leaf (prim f a b)) w =
            need (word_of p env a) w (λ x. need (word_of p env b) w (λ y.
            need (apply_arithmetic f x y) w (λ v. gives v w)))
        act_by env d (leaf read) w =
            gives (words (number (byte_or_end w.input) ∷ [])) (after_read w.input w)
        act_by env d (leaf (write a)) w =
            need (and_then (word_of p env a) number_of) w (λ k. gives (words []) (written k w))
        act_by env d (case v as') w = need (value_of p env v) w (λ x. arms_by env d x as' w)
        act_by env d (nested b) w = code_by env d b w
        act_by env d (leaf fail) w = stops no_alternative w

        -- a block at nesting d: what a statement binds is evaluated one level deeper
        pub code_by : Env → ℕ → Code → World → Answer
        code_by env d (end o) w = act_by env d o w
        code_by env d (store cs b) w =
            let env' = with_vars (places (length w.cells) cs) env in
            need (cells_of env' cs) w (λ hs. require_if_checked looks (all_fill p env' cs) w
            (code_by env' d b (with_state_seen env' (with_cells hs w))))
        code_by env d (bind t o b) w = then_do (act_by env (suc d) o w) (λ v w'.
            require_if_checked looks (is_bound_well p t o v) w' (need (bindings_of p t v) w' (λ bs.
            code_by (with_vars bs env) d b (with_state_seen (with_vars bs env) w'))))

        -- the first alternative whose pattern fits
        pub arms_by : Env → ℕ → Value → Arms → World → Answer
        arms_by env d v no_arm w = stops missing w
        arms_by env d v (arm s b as') w = choose (fit_of p s v) w
            (λ bs. code_by (with_vars bs env) d b (with_state_seen (with_vars bs env) w))
            (arms_by env d v as' w)

    -- what they do in a run that does not look
    unfoldable pub act : Env → ℕ → Act → World → Answer
    unfolding act_by
    act = act_by false

    abbrev pub code : Env → ℕ → Code → World → Answer
    code = code_by false

    abbrev pub arms : Env → ℕ → Value → Arms → World → Answer
    arms = arms_by false

  module _ (looks : Bool) where
    -- calls, where at most n units are left: a call spends one at its nesting
    unfoldable pub calls_by : ℕ → Calls
    calls_by zero f xs d w = stops out_of_units w
    calls_by (suc n) f xs d w = spend w.left w (λ m. need (slice_get p.procs f) w (λ q.
        need (one_each q.params xs) w (λ bs. let env : Env = with_vars bs (λ y. None) in
        require_value_if_checked looks (is_given p)
        (code_by (calls_by n) looks env d q.body (with_state_seen env (spent f d m w))))))

  unfoldable pub calls : ℕ → Calls
  unfolding calls_by
  calls = calls_by false

  -- the start: the global cells are there
  abbrev pub global_cells : List HeapCell
  global_cells =
      map (λ c. record { site = c.site.0; node = record { tag = c.tag.0; fields = [] } }) p.globals

  abbrev pub start_world : List ℕ → ℕ → World
  start_world i n = record {
    cells = global_cells;
    out = [];
    left = n;
    depth = 0;
    entered = [];
    seen = [];
    input = i;
    used = 0;
  }

  -- the run of the program on the input i with n units, where it looks or not
  unfoldable pub run_by : Bool → List ℕ → ℕ → Answer
  run_by looks i n = calls_by looks n p.start.0 (start_words p.argument) 0 (start_world i n)

  -- the run that does not look
  unfoldable pub run : List ℕ → ℕ → Answer
  run i n = calls n p.start.0 (start_words p.argument) 0 (start_world i n)
