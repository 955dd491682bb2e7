-- The values of a run, and its state.
use Rattle.std.specs.Prelude.{ℕ, suc, zero, ℤ, pos, cond, nat_eq, nat_le, List, [], ◌∷◌, length, take, Option, Some, None, slice_get}
use Rattle.grin_syntax.specs.declared.program.VarId.{VarId}
use Rattle.grin_syntax.specs.declared.program.Word as W
use Rattle.grin_syntax.specs.declared.program.Word.TheVariants.{Lit, Var, Global, TagWord}
use Rattle.grin_syntax.specs.declared.program.Val as V
use Rattle.grin_syntax.specs.declared.program.Val.TheVariants.{NodeVar, Node as Node', Vector, One}
use Rattle.grin_syntax.specs.declared.program.Target.{Target}
use Rattle.grin_syntax.specs.declared.program.Target.TheVariants.{Nothing, Node as NodeTarget, One as OneTarget, Vector as VectorTarget}
use Rattle.grin_syntax.specs.declared.program.Shape.{Shape}
use Rattle.grin_syntax.specs.declared.program.Shape.TheVariants.{Node as NodeShape, Int, Else}
use Rattle.grin_syntax.specs.Tree.{Program}
use Rattle.numbers.specs.Numbers.{same_number}
pub use Rattle.seq.specs.Lists.{and_then, each}

-- what a word stands for
pub data Datum : Type 0 where
  number : ℤ → Datum
  tag : ℕ → Datum
  cell : ℕ → Datum

-- a tag with its fields
pub record Node : Type 0 where
  pub tag : ℕ
  pub fields : List Datum

-- what an operation gives
pub data Value : Type 0 where
  node : Node → Value
  words : List Datum → Value

-- what each variable is bound to
abbrev pub Env : Type 0
Env = ℕ → Option Value

-- one cell of the heap: the place in the program that made it, and the node there now
pub record HeapCell : Type 0 where
  pub site : ℕ
  pub node : Node

-- a state that a run passes through: the variables in scope and the heap
pub record State : Type 0 where
  pub env : Env
  pub heap : List HeapCell

-- how far a run has come: the heap, the bytes written, the units left, the greatest nesting at
-- which one was spent, the procedures entered, the states passed through, one each time variables
-- were bound, the bytes of the input that are left, and how many were taken
pub record World : Type 0 where
  pub cells : List HeapCell
  pub out : List ℕ
  pub left : ℕ
  pub depth : ℕ
  pub entered : List ℕ
  pub seen : List State
  pub input : List ℕ
  pub used : ℕ

-- why a run is over before its time
pub data Stop : Type 0 where
  no_alternative : Stop
  out_of_units : Stop
  missing : Stop

-- what an operation or a block does
pub data Answer : Type 0 where
  gives : Value → World → Answer
  stops : Stop → World → Answer

-- goes on with the value, unless the run is over
abbrev pub then_do : Answer → (Value → World → Answer) → Answer
then_do (gives v w) k = k v w
then_do (stops s w) k = stops s w

-- goes on with what is there, and else something is missing
abbrev pub need : {A : Type 0} → Option A → World → (A → Answer) → Answer
need None w k = stops missing w
need (Some a) w k = k a

-- a variable with its value
abbrev pub Binding : Type 0
Binding = ℕ × Value

-- further variables
abbrev pub with_vars : List Binding → Env → Env
with_vars [] env = env
with_vars (b ∷ bs) env = with_vars bs (λ y. cond (nat_eq y b.0) (Some b.1) (env y))

-- a word for each variable
abbrev pub one_each : List VarId → List Datum → Option (List Binding)
one_each [] [] = Some []
one_each [] (d ∷ ds) = None
one_each (x ∷ xs) [] = None
one_each (x ∷ xs) (d ∷ ds) = and_then (one_each xs ds) (λ bs. Some ((x.0, words (d ∷ [])) ∷ bs))

-- as many words, with zeros at the end
abbrev pub padded : ℕ → List Datum → List Datum
padded zero ds = ds
padded (suc k) [] = number (pos 0) ∷ padded k []
padded (suc k) (d ∷ ds) = d ∷ padded k ds

abbrev pub only_word : Value → Option Datum
only_word (words (d ∷ [])) = Some d
only_word _ = None

pub data MatchOutcome : Type 0 where
  fits : List Binding → MatchOutcome
  fits_not : MatchOutcome
  unclear : MatchOutcome

abbrev pub fits_if : Option (List Binding) → MatchOutcome
fits_if None = unclear
fits_if (Some bs) = fits bs

-- a pattern without variables takes all fields
abbrev pub fields_fit : List VarId → List Datum → MatchOutcome
fields_fit [] ds = fits []
fields_fit (x ∷ xs) ds = fits_if (one_each (x ∷ xs) ds)

abbrev pub node_fit : ℕ → List VarId → Option Node → MatchOutcome
node_fit t xs None = unclear
node_fit t xs (Some n) = cond (nat_eq n.tag t) (fields_fit xs n.fields) fits_not

abbrev pub number_fit : ℤ → List Datum → MatchOutcome
number_fit k (number i ∷ ds) = cond (same_number k i) (fits []) fits_not
number_fit k _ = unclear

abbrev pub int_fit : ℤ → Option Node → MatchOutcome
int_fit k None = unclear
int_fit k (Some n) = cond (nat_eq n.tag 0) (number_fit k n.fields) fits_not

module _ (p : Program) where
  -- how many fields a tag has
  abbrev pub fields_of : ℕ → Option ℕ
  fields_of t = and_then (slice_get p.tags t) (λ i. Some i.fields)

  -- the node of a tag with words, as many as the tag has fields
  abbrev pub made_node : ℕ → List Datum → Option Node
  made_node t ds = and_then (fields_of t) (λ k.
      cond (nat_eq k (length ds)) (Some (record { tag = t; fields = ds })) None)

  -- a node, or words that stand for one: a tag with as many words as it has fields
  abbrev pub as_node : Value → Option Node
  as_node (node n) = Some n
  as_node (words (tag t ∷ ds)) = and_then (fields_of t) (λ k.
      cond (nat_le k (length ds)) (Some (record { tag = t; fields = take k ds })) None)
  as_node (words _) = None

  abbrev pub word_of : Env → W.Word → Option Datum
  word_of env (Lit k) = Some (number k)
  word_of env (Var x) = and_then (env x.0) only_word
  word_of env (Global i) = and_then (slice_get p.globals i) (λ c. Some (cell i))
  word_of env (TagWord t) = Some (tag t.0)

  abbrev pub words_of : Env → List W.Word → Option (List Datum)
  words_of env = each (word_of env)

  abbrev pub value_of : Env → V.Val → Option Value
  value_of env (NodeVar x) = env x.0
  value_of env (Node' t ws) =
      and_then (words_of env ws) (λ ds. and_then (made_node t.0 ds) (λ n. Some (node n)))
  value_of env (Vector ws) = and_then (words_of env ws) (λ ds. Some (words ds))
  value_of env (One w) = and_then (word_of env w) (λ d. Some (words (d ∷ [])))

  abbrev pub node_of : Env → V.Val → Option Node
  node_of env v = and_then (value_of env v) as_node

  -- what a target binds: a node for a node variable, a word for a variable, a word for each
  -- variable of a vector, zeros after a node
  abbrev pub bindings_of : Target → Value → Option (List Binding)
  bindings_of Nothing (words []) = Some []
  bindings_of Nothing _ = None
  bindings_of (NodeTarget x) v = and_then (as_node v) (λ n. Some ((x.0, node n) ∷ []))
  bindings_of (OneTarget x) (words (d ∷ [])) = Some ((x.0, words (d ∷ [])) ∷ [])
  bindings_of (OneTarget x) _ = None
  bindings_of (VectorTarget xs) (words ds) = one_each xs ds
  bindings_of (VectorTarget xs) (node n) = one_each xs (padded (length xs) (tag n.tag ∷ n.fields))

  -- what a pattern binds, or that it does not fit
  abbrev pub fit_of : Shape → Value → MatchOutcome
  fit_of (NodeShape t xs) v = node_fit t.0 xs (as_node v)
  fit_of (Int k) v = int_fit k (as_node v)
  fit_of Else v = fits []
