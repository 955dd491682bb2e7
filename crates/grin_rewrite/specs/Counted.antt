-- A program in which a rule says what becomes of each operation without a block, and how many fresh
-- variables that takes: they are counted off the text.
use Rattle.std.specs.Prelude.{ℕ, ◌+◌, List, [], ◌∷◌}
use Rattle.grin_syntax.specs.declared.program.Target.{Target}
use Rattle.grin_syntax.specs.Tree.{Code, end, store, bind, Act, Leaf, leaf, case, nested, Arms, no_arm, arm, Procedure, Program}
use Rattle.grin_syntax.specs.Fresh.{past_procs}

-- operations whose results are bound, before a block
abbrev pub bound_before : List (Target × Leaf) → Code → Code
bound_before [] c = c
bound_before (s ∷ ss) c = bind s.0 (leaf s.1) (bound_before ss c)

pub record CountedRule : Type 0 where
  -- how many fresh variables an operation takes
  pub room : Leaf → ℕ
  -- what is bound before it, and what takes its place, with fresh variables from a number on
  pub before : ℕ → Leaf → List (Target × Leaf)
  pub becomes : ℕ → Leaf → Act

module _ (R : CountedRule) where
  unfoldable mutual
    -- how many fresh variables a piece takes
    pub act_room : Act → ℕ
    act_room (leaf l) = R.room l
    act_room (case v as') = all_room as'
    act_room (nested b) = code_room b

    pub code_room : Code → ℕ
    code_room (end o) = act_room o
    code_room (store cs b) = code_room b
    code_room (bind t o b) = act_room o + code_room b

    pub all_room : Arms → ℕ
    all_room no_arm = 0
    all_room (arm s b as') = code_room b + all_room as'

  abbrev pub before_act : ℕ → Act → List (Target × Leaf)
  before_act x (leaf l) = R.before x l
  before_act x (case v as') = []
  before_act x (nested b) = []

  unfoldable mutual
    pub counted_act : ℕ → Act → Act
    counted_act x (leaf l) = R.becomes x l
    counted_act x (case v as') = case v (counted_all x as')
    counted_act x (nested b) = nested (counted_code x b)

    pub counted_code : ℕ → Code → Code
    counted_code x (end o) = bound_before (before_act x o) (end (counted_act x o))
    counted_code x (store cs b) = store cs (counted_code x b)
    counted_code x (bind t o b) =
        bound_before (before_act x o)
        (bind t (counted_act x o) (counted_code (x + act_room o) b))

    pub counted_all : ℕ → Arms → Arms
    counted_all x no_arm = no_arm
    counted_all x (arm s b as') = arm s (counted_code x b) (counted_all (x + code_room b) as')

  abbrev pub counted_procs : ℕ → List Procedure → List Procedure
  counted_procs x [] = []
  counted_procs x (q ∷ qs) =
      record q { body = counted_code x q.body } ∷ counted_procs (x + code_room q.body) qs

  -- the fresh variables are those past all that the program binds
  abbrev pub counted : Program → Program
  counted g = record g { procs = counted_procs (past_procs g.procs) g.procs }
