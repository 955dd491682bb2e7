-- A program in which parameters are replaced by fields.
use Rattle.std.specs.Prelude.{ℕ, zero, suc, ◌+◌, pos, cond, nat_eq, nat_lt, List, [], ◌∷◌, ◌++◌, map, Option, Some, None, slice_get}
use Rattle.grin_syntax.specs.declared.program.VarId.{VarId}
use Rattle.grin_syntax.specs.declared.program.Word as W
use Rattle.grin_syntax.specs.declared.program.Word.TheVariants.{Lit, Var, Global, TagWord}
use Rattle.grin_syntax.specs.declared.program.Val.TheVariants.{One}
use Rattle.grin_syntax.specs.declared.program.Target.TheVariants as to
use Rattle.grin_syntax.specs.Fresh.{variable, variables}
use Rattle.grin_syntax.specs.Tree.{Code, end, store, bind, Act, leaf, unit, fetch, fetch_word, update, eval, apply, call, prim, read, write, case, nested, fail, Arms, no_arm, arm, Procedure, Program}
pub use Rattle.raise_theory.specs.declared.raising.Raising.{Raising}

-- what is decided of each parameter of a procedure: whether it stays, or what stands in its place
abbrev pub Decisions : Type 0
Decisions = List (Option Raising)

abbrev pub fields_of : Raising → List VarId
fields_of r = variables r.first.0 r.fields

-- ---- parameters

abbrev pub raised_param : Option Raising → VarId → List VarId
raised_param None x = x ∷ []
raised_param (Some r) x = fields_of r

abbrev pub raised_params : Decisions → List VarId → List VarId
raised_params [] xs = xs
raised_params (d ∷ ds) [] = []
raised_params (d ∷ ds) (x ∷ xs) = raised_param d x ++ raised_params ds xs

-- what is decided of a variable, where these are the parameters
abbrev pub decided : Decisions → List VarId → ℕ → Option Raising
decided [] xs y = None
decided (d ∷ ds) [] y = None
decided (d ∷ ds) (x ∷ xs) y = cond (nat_eq x.0 y) d (decided ds xs y)

-- ---- fetches of words of a raised parameter's cell

-- its tag, its fields, and zeros after them
abbrev pub word_at : Raising → ℕ → W.Word
word_at r zero = TagWord r.tag
word_at r (suc i) = cond (nat_lt i r.fields) (Var (variable (r.first.0 + i))) (Lit (pos 0))

abbrev pub raised_fetch_of : Option Raising → W.Word → ℕ → Act
raised_fetch_of None a i = leaf (fetch_word a i)
raised_fetch_of (Some r) a i = leaf (unit (One (word_at r i)))

-- where something is decided of each variable
abbrev pub fetched : (ℕ → Option Raising) → W.Word → ℕ → Act
fetched N (Lit k) i = leaf (fetch_word (Lit k) i)
fetched N (Var x) i = raised_fetch_of (N x.0) (Var x) i
fetched N (Global j) i = leaf (fetch_word (Global j) i)
fetched N (TagWord t) i = leaf (fetch_word (TagWord t) i)

-- ---- arguments of a call, by what is decided of the parameters; with new variables from n on

abbrev pub new_variables_of : Option Raising → ℕ
new_variables_of None = 0
new_variables_of (Some r) = r.fields

-- how many new variables they take
abbrev pub new_variables_for : Decisions → List W.Word → ℕ
new_variables_for [] ws = 0
new_variables_for (d ∷ ds) [] = 0
new_variables_for (d ∷ ds) (a ∷ ws) = new_variables_of d + new_variables_for ds ws

-- the words i + 1 and on of a cell, so many
abbrev pub field_fetches : W.Word → ℕ → ℕ → ℕ → Code → Code
field_fetches a n i zero c = c
field_fetches a n i (suc k) c =
    bind (to.One (variable n)) (leaf (fetch_word a (suc i))) (field_fetches a (suc n) (suc i) k c)

abbrev pub fetches_for : ℕ → Decisions → List W.Word → Code → Code
fetches_for n [] ws c = c
fetches_for n (d ∷ ds) [] c = c
fetches_for n (d ∷ ds) (a ∷ ws) c =
    field_fetches a n 0 (new_variables_of d) (fetches_for (n + new_variables_of d) ds ws c)

abbrev pub argument_for : ℕ → Option Raising → W.Word → List W.Word
argument_for n None a = a ∷ []
argument_for n (Some r) a = map Var (variables n r.fields)

abbrev pub arguments_for : ℕ → Decisions → List W.Word → List W.Word
arguments_for n [] ws = ws
arguments_for n (d ∷ ds) [] = []
arguments_for n (d ∷ ds) (a ∷ ws) =
    argument_for n d a ++ arguments_for (n + new_variables_of d) ds ws

-- ---- blocks

abbrev pub or_no_decisions : Option Decisions → Decisions
or_no_decisions None = []
or_no_decisions (Some ds) = ds

abbrev pub decisions_at : List Decisions → ℕ → Decisions
decisions_at D f = or_no_decisions (slice_get D f)

-- by what is decided of the parameters of each procedure
module _ (D : List Decisions) where
  abbrev pub new_before : Act → ℕ
  new_before (leaf (call f ws)) = new_variables_for (decisions_at D f.0) ws
  new_before _ = 0

  -- a caller fetches the fields before the call
  abbrev pub fetches_before : ℕ → Act → Code → Code
  fetches_before n (leaf (call f ws)) c = fetches_for n (decisions_at D f.0) ws c
  fetches_before n _ c = c

  unfoldable mutual
    -- how many new variables a piece takes
    pub new_act : Act → ℕ
    new_act (case v as') = new_arms as'
    new_act (nested b) = new_code b
    new_act _ = 0

    pub new_code : Code → ℕ
    new_code (end o) = new_before o + new_act o
    new_code (store cs b) = new_code b
    new_code (bind t o b) = new_before o + new_act o + new_code b

    pub new_arms : Arms → ℕ
    new_arms no_arm = 0
    new_arms (arm s b as') = new_code b + new_arms as'

  module _ (N : ℕ → Option Raising) where
    -- in a procedure of whose variables this is decided
    unfoldable mutual
      pub raised_act : ℕ → Act → Act
      raised_act n (leaf (unit v)) = leaf (unit v)
      raised_act n (leaf (fetch a)) = leaf (fetch a)
      raised_act n (leaf (fetch_word a i)) = fetched N a i
      raised_act n (leaf (update a v)) = leaf (update a v)
      raised_act n (leaf (eval a)) = leaf (eval a)
      raised_act n (leaf (apply v a)) = leaf (apply v a)
      raised_act n (leaf (call f ws)) = leaf (call f (arguments_for n (decisions_at D f.0) ws))
      raised_act n (leaf (prim p a b)) = leaf (prim p a b)
      raised_act n (leaf read) = leaf read
      raised_act n (leaf (write a)) = leaf (write a)
      raised_act n (case v as') = case v (raised_arms n as')
      raised_act n (nested b) = nested (raised_code n b)
      raised_act n (leaf fail) = leaf fail

      pub raised_code : ℕ → Code → Code
      raised_code n (end o) = fetches_before n o (end (raised_act n o))
      raised_code n (store cs b) = store cs (raised_code n b)
      raised_code n (bind t o b) = fetches_before n o
          (bind t (raised_act n o) (raised_code (n + (new_before o + new_act o)) b))

      pub raised_arms : ℕ → Arms → Arms
      raised_arms n no_arm = no_arm
      raised_arms n (arm s b as') = arm s (raised_code n b) (raised_arms (n + new_code b) as')

  abbrev pub raised_procedure : ℕ → Decisions → Procedure → Procedure
  raised_procedure n ds q = record q {
    params = raised_params ds q.params;
    body = raised_code (decided ds q.params) n q.body;
  }

  -- the procedures, each with what is decided of its parameters
  abbrev pub raised_procs : ℕ → List Decisions → List Procedure → List Procedure
  raised_procs n [] qs = qs
  raised_procs n (ds ∷ dss) [] = []
  raised_procs n (ds ∷ dss) (q ∷ qs) =
      raised_procedure n ds q ∷ raised_procs (n + new_code q.body) dss qs

-- a program with parameters raised, and new variables for calls from n on
abbrev pub raised : List Decisions → ℕ → Program → Program
raised D n g = record g { procs = raised_procs D n D g.procs }
