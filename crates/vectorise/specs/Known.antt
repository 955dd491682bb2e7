-- What is known of the variables of a program that is vectorised. The vector of a node variable x
-- is a run of new variables, so many as the longest node has words; the node is in the first of
-- them.
use Rattle.std.specs.Prelude.{ℕ, suc, ◌+◌, ◌*◌, pos, Bool, true, false, cond, List, [], ◌∷◌, map, replicate, Option, Some, None, slice_get, slice_set}
use Rattle.grin_syntax.specs.declared.program.VarId.{VarId}
use Rattle.grin_syntax.specs.declared.program.Word as W
use Rattle.grin_syntax.specs.declared.program.Word.TheVariants.{Lit, Var}
use Rattle.grin_syntax.specs.declared.program.Val as V
use Rattle.grin_syntax.specs.declared.program.Val.TheVariants.{NodeVar, Node}
use Rattle.grin_syntax.specs.declared.program.Target.{Target}
use Rattle.grin_syntax.specs.declared.program.Target.TheVariants as to
use Rattle.grin_syntax.specs.declared.program.Shape.{Shape}
use Rattle.grin_syntax.specs.declared.program.Shape.TheVariants as shape
use Rattle.grin_syntax.specs.Tree.{Code, end, store, bind, Act, case, nested, Arms, no_arm, arm, Procedure, Program}
use Rattle.grin_syntax.specs.Fresh.{variables, past_procs}
use Rattle.grin_meaning.specs.Checks.{is_fetch}
use Rattle.grin_meaning.specs.Ready.{most_fields, most_value_fields}
pub use Rattle.vectorise.specs.declared.layout.Layout.{Layout}
use Rattle.vectorise.specs.declared.known.Known as known
use Rattle.vectorise.specs.declared.known.Known.TheVariants.{Plain, Fetched, Field}

abbrev pub layout_of : Program → Layout
layout_of g = record {
  base = past_procs g.procs;
  most = most_fields g.tags;
  most_value = most_value_fields g.tags;
}

abbrev pub Table : Type 0
Table = List known.Known

-- the first variable of the vector of x
abbrev pub vector_start : Layout → ℕ → ℕ
vector_start l x = l.base + x * suc l.most

-- for how many fields a vector has room, where a fetch fills it or not
abbrev pub room : Layout → (fetched : Bool) → ℕ
room l fetched = cond fetched l.most l.most_value

abbrev pub is_fetched : Option known.Known → Bool
is_fetched (Some Fetched) = true
is_fetched _ = false

abbrev pub field_capacity_of : Layout → Table → VarId → ℕ
field_capacity_of l k x = room l (is_fetched (slice_get k x.0))

abbrev pub word_for : VarId → Option known.Known → W.Word
word_for x (Some (Field w)) = w
word_for x _ = Var x

-- the word that a word becomes
abbrev pub as_word : Table → W.Word → W.Word
as_word k (Var x) = word_for x (slice_get k x.0)
as_word k w = w

abbrev pub as_words : Table → List W.Word → List W.Word
as_words k ws = map (as_word k) ws

-- the first words of a node variable's vector
abbrev pub vector_words : Layout → VarId → ℕ → List W.Word
vector_words l x count = map Var (variables (vector_start l x.0) count)

-- the words that stand for the fields of the value of a case
abbrev pub field_words : Layout → Table → V.Val → List W.Word
field_words l k (NodeVar x) =
    map Var (variables (suc (vector_start l x.0)) (field_capacity_of l k x))
field_words l k (Node t ws) = as_words k ws
field_words l k _ = []

-- ---- what a program makes known

abbrev pub noted_target : (fetched : Bool) → Target → Table → Table
noted_target fetched (to.Node x) k = cond fetched (slice_set k x.0 Fetched) k
noted_target fetched _ k = k

-- the word of a field; one that is never there is zero
abbrev pub word_or_zero : Option W.Word → W.Word
word_or_zero None = Lit (pos 0)
word_or_zero (Some w) = w

-- variables of a pattern are fields, by these words
abbrev pub noted_fields : List W.Word → List VarId → Table → Table
noted_fields ws [] k = k
noted_fields [] (x ∷ xs) k = noted_fields [] xs (slice_set k x.0 (Field (word_or_zero None)))
noted_fields (w ∷ ws) (x ∷ xs) k = noted_fields ws xs (slice_set k x.0 (Field w))

abbrev pub noted_shape : List W.Word → Shape → Table → Table
noted_shape ws (shape.Node t xs) k = noted_fields ws xs k
noted_shape ws _ k = k

module _ (l : Layout) where
  unfoldable mutual
    pub noted_act : Act → Table → Table
    noted_act (case v as') k = noted_arms (field_words l k v) as' k
    noted_act (nested b) k = noted_code b k
    noted_act _ k = k

    pub noted_code : Code → Table → Table
    noted_code (end o) k = noted_act o k
    noted_code (store cs b) k = noted_code b k
    noted_code (bind t o b) k = noted_code b (noted_target (is_fetch o) t (noted_act o k))

    pub noted_arms : List W.Word → Arms → Table → Table
    noted_arms ws no_arm k = k
    noted_arms ws (arm s b as') k = noted_arms ws as' (noted_code b (noted_shape ws s k))

  abbrev pub noted_procs : List Procedure → Table → Table
  noted_procs [] k = k
  noted_procs (q ∷ qs) k = noted_procs qs (noted_code q.body k)

abbrev pub table_of : Program → Table
table_of g = noted_procs (layout_of g) g.procs (replicate (past_procs g.procs) Plain)
