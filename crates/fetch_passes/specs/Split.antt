-- A program with its fetches split.
use Rattle.std.specs.Prelude.{ℕ, suc, ◌+◌, pos, Bool, true, false, cond, List, [], ◌∷◌, map, length, take}
use Rattle.grin_syntax.specs.declared.program.VarId.{VarId}
use Rattle.grin_syntax.specs.declared.program.Word as W
use Rattle.grin_syntax.specs.declared.program.Word.TheVariants.{Lit, Var}
use Rattle.grin_syntax.specs.declared.program.Val.TheVariants.{Node, Vector}
use Rattle.grin_syntax.specs.declared.program.Target.{Target}
use Rattle.grin_syntax.specs.declared.program.Target.TheVariants as to
use Rattle.grin_syntax.specs.declared.program.Shape.TheVariants as shape
use Rattle.grin_syntax.specs.declared.program.Tag.{Tag}
use Rattle.grin_syntax.specs.Tree.{Code, end, store, bind, Act, Leaf, leaf, unit, fetch, fetch_word, update, eval, apply, call, prim, read, write, case, nested, fail, Arms, no_arm, arm, Procedure, Program}
use Rattle.grin_syntax.specs.Fresh.{variable, variables, past_procs}
use Rattle.grin_syntax.specs.Tags.{tag_id}
use Rattle.grin_meaning.specs.Ready.{most_fields}
use Rattle.pass_ground.specs.Uses.{code_uses}
use Rattle.fetch_passes.specs.Windows.{owns, outside}
use Rattle.fetch_passes.specs.Names.{Names, DeferredField, as_word, as_words, as_val, as_cells, with_hidden, named_if}
use Rattle.fetch_passes.specs.Waits.{deferred_fields_of, deferred_fields_after}

-- ---- the words of a node that is fetched

abbrev pub fetched_if : Bool → VarId → W.Word → ℕ → Code → Code
fetched_if true x a i c = bind (to.One x) (leaf (fetch_word a i)) c
fetched_if false x a i c = c

-- directly after the tag t: the words from the i-th on that are used outside the alternatives of
-- its case
abbrev pub word_fetches : (t : ℕ) → Code → W.Word → ℕ → List VarId → Code → Code
word_fetches t b a i [] c = c
word_fetches t b a i (x ∷ xs) c =
    fetched_if (outside t x.0 b) x a i (word_fetches t b a (suc i) xs c)

-- at the front of an alternative: those that wait and that it uses, in variables from n on
abbrev pub front : W.Word → ℕ → List DeferredField → Code → Code → Code
front a n [] b c = c
front a n (p ∷ ps) b c =
    fetched_if (code_uses p.var.0 b) (variable n) a p.place (front a (suc n) ps b c)

abbrev pub front_names : ℕ → List DeferredField → Code → Names → Names
front_names n [] b ks = ks
front_names n (p ∷ ps) b ks = front_names (suc n) ps b (named_if (code_uses p.var.0 b) p.var n ks)

-- ---- after an operation that goes to a target, where a block follows

abbrev pub names_after : Act → Target → Code → Names → Names
names_after (leaf (fetch a)) (to.Vector (x ∷ xs)) b ks =
    with_hidden (deferred_fields_of x.0 b 1 xs) ks
names_after (leaf (fetch a)) t b ks = ks
names_after o t b ks = ks

abbrev pub cell_after : Names → Act → Target → Code → W.Word → W.Word
cell_after ks (leaf (fetch a)) (to.Vector (x ∷ xs)) b a' = cond (owns x.0 b) (as_word ks a) a'
cell_after ks (leaf (fetch a)) t b a' = a'
cell_after ks o t b a' = a'

-- the same of an operation that is split already
abbrev pub cell_from : Act → Target → Code → W.Word → W.Word
cell_from (leaf (fetch a)) (to.Vector (x ∷ xs)) b a' = cond (owns x.0 b) a a'
cell_from (leaf (fetch a)) t b a' = a'
cell_from o t b a' = a'

-- a fetch of a whole node by its words
abbrev pub bound : Act → Target → Code → Code → Code
bound (leaf (fetch a)) (to.Vector (x ∷ xs)) b c =
    bind (to.One x) (leaf (fetch_word a 0)) (word_fetches x.0 b a 1 xs c)
bound (leaf (fetch a)) t b c = bind t (leaf (fetch_word a 0)) c
bound o t b c = bind t o c

-- ---- a fetch that ends a block

abbrev pub fetch_all_words : W.Word → ℕ → List VarId → Code → Code
fetch_all_words a i [] c = c
fetch_all_words a i (x ∷ xs) c =
    bind (to.One x) (leaf (fetch_word a i)) (fetch_all_words a (suc i) xs c)

-- the node of each tag, with as many of these variables as it has fields
abbrev pub node_arms : List VarId → ℕ → List Tag → Arms
node_arms xs i [] = no_arm
node_arms xs i (t ∷ ts) =
    arm (shape.Node (tag_id i) [])
    (end (leaf (unit (Node (tag_id i) (map Var (take t.fields xs))))))
    (node_arms xs (suc i) ts)

abbrev pub whole_node : List Tag → ℕ → W.Word → Code
whole_node ts n a =
    fetch_all_words a 0 (variables n (suc (most_fields ts)))
    (end (case (Vector (map Var (variables n (suc (most_fields ts)))))
    (node_arms (variables (suc n) (most_fields ts)) 0 ts)))

abbrev pub end_with : List Tag → ℕ → Act → Code
end_with ts n (leaf (fetch a)) = whole_node ts n a
end_with ts n o = end o

abbrev pub new_variables_of_end : List Tag → Act → ℕ
new_variables_of_end ts (leaf (fetch a)) = suc (most_fields ts)
new_variables_of_end ts o = 0

module _ (ts : List Tag) where
  -- how many new variables a piece takes, where these words wait
  unfoldable mutual
    pub made_act : List DeferredField → Act → ℕ
    made_act ps (case v as') = made_arms ps as'
    made_act ps (nested b) = made_code [] b
    made_act ps _ = 0

    pub made_code : List DeferredField → Code → ℕ
    made_code ps (end o) = new_variables_of_end ts o + made_act ps o
    made_code ps (store cs b) = made_code [] b
    made_code ps (bind t o b) = made_act ps o + made_code (deferred_fields_after o t b ps) b

    pub made_arms : List DeferredField → Arms → ℕ
    made_arms ps no_arm = 0
    made_arms ps (arm s b as') = length ps + made_code [] b + made_arms ps as'

  -- an operation without a block
  abbrev pub split_leaf : Names → Leaf → Leaf
  split_leaf ks (unit v) = unit (as_val ks v)
  split_leaf ks (fetch c) = fetch (as_word ks c)
  split_leaf ks (fetch_word c i) = fetch_word (as_word ks c) i
  split_leaf ks (update c v) = update (as_word ks c) (as_val ks v)
  split_leaf ks (eval c) = eval (as_word ks c)
  split_leaf ks (apply v c) = apply (as_val ks v) (as_word ks c)
  split_leaf ks (call f ws) = call f (as_words ks ws)
  split_leaf ks (prim f c d) = prim f (as_word ks c) (as_word ks d)
  split_leaf ks read = read
  split_leaf ks (write c) = write (as_word ks c)
  split_leaf ks fail = fail

  -- a piece with its fetches split: by these names; where the words ps of the cell a wait for the
  -- next case; with new variables from n on
  unfoldable mutual
    pub split_act : Names → W.Word → List DeferredField → ℕ → Act → Act
    split_act ks a ps n (leaf o) = leaf (split_leaf ks o)
    split_act ks a ps n (case v as') = case (as_val ks v) (split_arms ks a ps n as')
    split_act ks a ps n (nested b) = nested (split_code ks a [] n b)

    pub split_code : Names → W.Word → List DeferredField → ℕ → Code → Code
    split_code ks a ps n (end o) = end_with ts n (split_act ks a ps n o)
    split_code ks a ps n (store cs b) = store (as_cells ks cs) (split_code ks a [] n b)
    split_code ks a ps n (bind t o b) =
        bound (split_act ks a ps n o) t b (split_code (names_after o t b ks)
        (cell_after ks o t b a) (deferred_fields_after o t b ps) (n + made_act ps o) b)

    pub split_arms : Names → W.Word → List DeferredField → ℕ → Arms → Arms
    split_arms ks a ps n no_arm = no_arm
    split_arms ks a ps n (arm s b as') =
        arm s (front a n ps b (split_code (front_names n ps b ks) a [] (n + length ps) b))
        (split_arms ks a ps (n + length ps + made_code [] b) as')

  abbrev pub split_procs : ℕ → List Procedure → List Procedure
  split_procs n [] = []
  split_procs n (q ∷ qs) =
      record q { body = split_code [] (Lit (pos 0)) [] n q.body }
      ∷ split_procs (n + made_code [] q.body) qs

abbrev pub split : Program → Program
split g = record g { procs = split_procs g.tags (past_procs g.procs) g.procs }
