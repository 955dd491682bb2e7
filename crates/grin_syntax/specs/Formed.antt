-- Well-formed programs.
use Rattle.std.specs.Prelude.{ℕ, suc, ◌≡◌, ◌<◌, ◌≤◌, List, [], ◌∷◌, ◌++◌, filter, length, codes, Option, Some, None, slice_get}
use Rattle.grin_syntax.specs.declared.program.TagKind.{TagKind}
use Rattle.grin_syntax.specs.declared.program.TagKind.TheVariants as kind
use Rattle.grin_syntax.specs.declared.program.Tag.{Tag}
use Rattle.grin_syntax.specs.declared.program.TagId.{TagId}
use Rattle.grin_syntax.specs.declared.program.ProcId.{ProcId}
use Rattle.grin_syntax.specs.declared.program.Word as W
use Rattle.grin_syntax.specs.declared.program.Word.TheVariants.{Lit, Var, Global, TagWord}
use Rattle.grin_syntax.specs.declared.program.Val as V
use Rattle.grin_syntax.specs.declared.program.Val.TheVariants.{NodeVar, Node, Vector, One}
use Rattle.grin_syntax.specs.declared.program.Target.{Target}
use Rattle.grin_syntax.specs.declared.program.Target.TheVariants as to
use Rattle.grin_syntax.specs.declared.program.Shape as S
use Rattle.grin_syntax.specs.declared.program.Shape.TheVariants as shape
use Rattle.grin_syntax.specs.declared.program.Cell.{Cell}
use Rattle.grin_syntax.specs.declared.program.GlobalCell.{GlobalCell}
use Rattle.grin_syntax.specs.Tree.{Code, end, store, bind, Act, leaf, unit, fetch, fetch_word, update, eval, apply, call, prim, read, write, case, nested, fail, Arms, no_arm, arm, Procedure, Program}
use Rattle.grin_syntax.specs.Binders.{numbers_of, shape_vars, cell_vars, program_vars, program_sites}
use Rattle.grin_syntax.specs.Tags.{is_part}
pub use Rattle.seq.specs.Lists.{AllOf}
use Rattle.seq.specs.Lists.{times}

-- The variables in scope: those that stand for a node, and those that stand for a word.
pub record Scope : Type 0 where
  pub nodes : List ℕ
  pub words : List ℕ

-- a variable is among these
abbrev pub InScope : List ℕ → ℕ → Type 0
InScope xs x = 0 < times x xs

-- with further variables for words in scope
abbrev pub with_word_variables : List ℕ → Scope → Scope
with_word_variables xs scope = record { nodes = scope.nodes; words = xs ++ scope.words }

-- with what a target binds: a node target a node, each other one words
abbrev pub with_target : Target → Scope → Scope
with_target to.Nothing scope = scope
with_target (to.Node x) scope = record { nodes = x.0 ∷ scope.nodes; words = scope.words }
with_target (to.One x) scope = with_word_variables (x.0 ∷ []) scope
with_target (to.Vector xs) scope = with_word_variables (numbers_of xs) scope

-- the parameters of a procedure are words
abbrev pub params_scope : Procedure → Scope
params_scope q = record { nodes = []; words = numbers_of q.params }

-- so many words go to the start
abbrev pub argument_words : Option ℕ → ℕ
argument_words None = 0
argument_words (Some i) = 1

module _ (p : Program) where
  abbrev pub TagKnown : TagId → Type 0
  TagKnown t = t.0 < length p.tags

  abbrev pub ProcKnown : ProcId → Type 0
  ProcKnown f = f.0 < length p.procs

  abbrev pub GlobalKnown : ℕ → Type 0
  GlobalKnown i = i < length p.globals

  -- each variable of a piece is in scope as what it stands for there, a node or a word; and its
  -- tags, procedures and globals are those of the program
  module _ (scope : Scope) where
    abbrev pub WordFormed : W.Word → Type 0
    WordFormed (Lit k) = Unit {0}
    WordFormed (Var x) = InScope scope.words x.0
    WordFormed (Global i) = GlobalKnown i
    WordFormed (TagWord t) = TagKnown t

    abbrev pub ValFormed : V.Val → Type 0
    ValFormed (NodeVar x) = InScope scope.nodes x.0
    ValFormed (Node t ws) = TagKnown t × AllOf WordFormed ws
    ValFormed (Vector ws) = AllOf WordFormed ws
    ValFormed (One a) = WordFormed a

    abbrev pub CellFormed : Cell → Type 0
    CellFormed c = ValFormed c.val

  abbrev pub ShapeFormed : S.Shape → Type 0
  ShapeFormed (shape.Node t xs) = TagKnown t
  ShapeFormed (shape.Int k) = Unit {0}
  ShapeFormed shape.Else = Unit {0}

  unfoldable mutual
    pub ActFormed : Scope → Act → Type 0
    ActFormed scope (leaf (unit v)) = ValFormed scope v
    ActFormed scope (leaf (fetch a)) = WordFormed scope a
    ActFormed scope (leaf (fetch_word a i)) = WordFormed scope a
    ActFormed scope (leaf (update a v)) = WordFormed scope a × ValFormed scope v
    ActFormed scope (leaf (eval a)) = WordFormed scope a
    ActFormed scope (leaf (apply v a)) = ValFormed scope v × WordFormed scope a
    ActFormed scope (leaf (call f ws)) = ProcKnown f × AllOf (WordFormed scope) ws
    ActFormed scope (leaf (prim f a b)) = WordFormed scope a × WordFormed scope b
    ActFormed scope (leaf read) = Unit {0}
    ActFormed scope (leaf (write a)) = WordFormed scope a
    ActFormed scope (case v as') = ValFormed scope v × ArmsFormed scope as'
    ActFormed scope (nested b) = CodeFormed scope b
    ActFormed scope (leaf fail) = Unit {0}

    -- what a store binds is in scope in all its cells and after it, what an operation binds after
    -- it
    pub CodeFormed : Scope → Code → Type 0
    CodeFormed scope (end o) = ActFormed scope o
    CodeFormed scope (store cs b) =
        AllOf (CellFormed (with_word_variables (cell_vars cs) scope)) cs
        × CodeFormed (with_word_variables (cell_vars cs) scope) b
    CodeFormed scope (bind t o b) = ActFormed scope o × CodeFormed (with_target t scope) b

    -- what a pattern binds, words, is in scope in its alternative
    pub ArmsFormed : Scope → Arms → Type 0
    ArmsFormed scope no_arm = Unit {0}
    ArmsFormed scope (arm s b as') =
        ShapeFormed s × CodeFormed (with_word_variables (shape_vars s) scope) b
        × ArmsFormed scope as'

  abbrev pub ProcedureFormed : Procedure → Type 0
  ProcedureFormed q = CodeFormed (params_scope q) q.body

  -- the tag of a global cell has no fields
  abbrev pub GlobalFormed : GlobalCell → Type 0
  GlobalFormed c = (t : Tag) × (slice_get p.tags c.tag.0 ≡ Some t) × (t.fields ≡ 0)

  abbrev pub KnownIfAny : Option ProcId → Type 0
  KnownIfAny None = Unit {0}
  KnownIfAny (Some f) = ProcKnown f

  abbrev pub HasProcedure : Option ProcId → Type 0
  HasProcedure None = ⊥
  HasProcedure (Some f) = ProcKnown f

  -- exactly one tag stands for the procedure f with r arguments missing, and it has k fields
  abbrev pub OnePart : ℕ → ℕ → ℕ → Type 0
  OnePart f r k = (t : Tag) × (filter (is_part f r) p.tags ≡ t ∷ []) × (t.fields ≡ k)

  -- with two or more arguments missing and k fields: the tag with one missing less has one field
  -- more
  abbrev pub HasNext : Option ProcId → ℕ → ℕ → Type 0
  HasNext (Some f) (suc (suc r)) k = OnePart f.0 (suc r) (suc k)
  HasNext _ _ k = Unit {0}

  abbrev pub KindFormed : TagKind → Tag → Type 0
  KindFormed kind.Con t = KnownIfAny t.proc
  KindFormed kind.Fun t = HasProcedure t.proc
  KindFormed kind.Part t = HasProcedure t.proc × (0 < t.missing) × HasNext t.proc t.missing t.fields

  abbrev pub TagFormed : Tag → Type 0
  TagFormed t = KindFormed t.kind t

  abbrev pub ArgumentKnown : Option ℕ → Type 0
  ArgumentKnown None = Unit {0}
  ArgumentKnown (Some i) = GlobalKnown i

  pub record Formed : Type 0 where
    -- each variable is bound at one place of the program, and each site stands at one
    pub variables_once : (x : ℕ) → times x (program_vars p) ≤ 1
    pub sites_once : (s : ℕ) → times s (program_sites p) ≤ 1
    -- each variable is bound before its uses, and to what it stands for there; and what is named is
    -- there
    pub procedures : AllOf ProcedureFormed p.procs
    pub globals : AllOf GlobalFormed p.globals
    pub tags : AllOf TagFormed p.tags
    -- tag 0 is that of a number, its one field
    pub number_tag : (t : Tag) × (slice_get p.tags 0 ≡ Some t) × (t.kind ≡ kind.Con)
        × (t.name ≡ codes "Int") × (t.fields ≡ 1)
    -- the start takes the argument of the run
    pub start : (q : Procedure) × (slice_get p.procs p.start.0 ≡ Some q)
        × (length q.params ≡ argument_words p.argument)
    pub argument : ArgumentKnown p.argument
