-- How many words of its cells a program writes: those that lie past them are zeros for ever.
use Rattle.std.specs.Prelude.{ℕ, ◌+◌, max, min, List, [], ◌∷◌, length, Option, Some, None, slice_get}
use Rattle.grin_syntax.specs.declared.program.Tag.{Tag}
use Rattle.grin_syntax.specs.declared.program.Word as W
use Rattle.grin_syntax.specs.declared.program.Word.TheVariants.{TagWord}
use Rattle.grin_syntax.specs.declared.program.Val as V
use Rattle.grin_syntax.specs.declared.program.Val.TheVariants as val
use Rattle.grin_syntax.specs.declared.program.Cell as C
use Rattle.grin_syntax.specs.Tree.{Code, end, store, bind, Act, leaf, update, case, nested, Arms, no_arm, arm, Procedure, Program}
use Rattle.grin_meaning.specs.Ready.{most_fields}

-- no more fields than a tag has
abbrev pub cut : Option Tag → ℕ → ℕ
cut None n = n
cut (Some t) n = min n t.fields

-- in a program with these tags
module _ (tags : List Tag) where
  -- how many of the words behind its first one a vector writes: past the fields of a literal tag it
  -- has only zeros
  abbrev pub behind : W.Word → ℕ → ℕ
  behind (TagWord t) n = cut (slice_get tags t.0) n
  behind w n = n

  abbrev pub vector_fields : List W.Word → ℕ
  vector_fields [] = 0
  vector_fields (w ∷ ws) = behind w (length ws)

  -- how many words a value writes behind the first one
  abbrev pub fields_in : V.Val → ℕ
  fields_in (val.NodeVar x) = 0
  fields_in (val.Node t ws) = length ws
  fields_in (val.Vector ws) = vector_fields ws
  fields_in (val.One w) = 0

  -- the most fields that stores and updates write
  abbrev pub cells_write : List C.Cell → ℕ
  cells_write [] = 0
  cells_write (c ∷ cs) = max (fields_in c.val) (cells_write cs)

  unfoldable mutual
    pub act_writes : Act → ℕ
    act_writes (leaf (update w v)) = fields_in v
    act_writes (case v as') = arms_write as'
    act_writes (nested b) = code_writes b
    act_writes _ = 0

    pub code_writes : Code → ℕ
    code_writes (end o) = act_writes o
    code_writes (store cs b) = max (cells_write cs) (code_writes b)
    code_writes (bind t o b) = max (act_writes o) (code_writes b)

    pub arms_write : Arms → ℕ
    arms_write no_arm = 0
    arms_write (arm s b as') = max (code_writes b) (arms_write as')

  abbrev pub procs_write : List Procedure → ℕ
  procs_write [] = 0
  procs_write (q ∷ qs) = max (code_writes q.body) (procs_write qs)

-- the tag, and as many fields as are written and a tag has
abbrev pub written_width : Program → ℕ
written_width g = 1 + min (procs_write g.tags g.procs) (most_fields g.tags)
