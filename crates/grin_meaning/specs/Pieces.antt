-- What stands in the text of a program: operations, targets, values and patterns of some kind, and
-- how wide they are.
use Rattle.std.specs.Prelude.{ℕ, ◌≡◌, ◌≤◌, max, List, [], ◌∷◌, length}
use Rattle.grin_syntax.specs.declared.program.TagKind.{TagKind}
use Rattle.grin_syntax.specs.declared.program.TagKind.TheVariants as kind
use Rattle.grin_syntax.specs.declared.program.Tag.{Tag}
use Rattle.grin_syntax.specs.declared.program.Val as V
use Rattle.grin_syntax.specs.declared.program.Val.TheVariants.{NodeVar, Node, Vector, One}
use Rattle.grin_syntax.specs.declared.program.Target as T
use Rattle.grin_syntax.specs.declared.program.Target.TheVariants as to
use Rattle.grin_syntax.specs.Tree.{Code, end, store, bind, Act, leaf, unit, fetch, update, eval, apply, case, nested, Arms, no_arm, arm, Procedure, Program, fetch_word, prim}
use Rattle.grin_syntax.specs.Binders.{shape_vars, target_vars}
use Rattle.grin_syntax.specs.Formed.{AllOf}

-- what may stand in a piece: which operations, targets, values and variables of a pattern
pub record PieceKind : Type 1 where
  pub operation : Act → Type 0
  pub target : T.Target → Type 0
  pub value : V.Val → Type 0
  pub pattern : List ℕ → Type 0

-- whatever it is
abbrev pub any_kind : PieceKind
any_kind = record {
  operation = λ o. Unit {0};
  target = λ t. Unit {0};
  value = λ v. Unit {0};
  pattern = λ xs. Unit {0};
}

-- all that stands in a piece is of the kind
module _ (K : PieceKind) where
  unfoldable mutual
    pub EachAct : Act → Type 0
    EachAct (case v as') = K.operation (case v as') × K.value v × EachArms as'
    EachAct (nested b) = K.operation (nested b) × EachCode b
    EachAct (leaf (unit v)) = K.operation (leaf (unit v)) × K.value v
    EachAct (leaf (update w v)) = K.operation (leaf (update w v)) × K.value v
    EachAct (leaf (apply v w)) = K.operation (leaf (apply v w)) × K.value v
    EachAct o = K.operation o

    pub EachCode : Code → Type 0
    EachCode (end o) = EachAct o
    EachCode (store cs b) = AllOf (λ c. K.value c.val) cs × EachCode b
    EachCode (bind t o b) = K.target t × EachAct o × EachCode b

    pub EachArms : Arms → Type 0
    EachArms no_arm = Unit {0}
    EachArms (arm s b as') = K.pattern (shape_vars s) × EachCode b × EachArms as'

-- all that stands in the procedures of a program is of the kind
abbrev pub EveryBodyIsOfKind : PieceKind → List Procedure → Type 0
EveryBodyIsOfKind K = AllOf (λ q. EachCode K q.body)

-- no eval and no apply
abbrev pub Inlined : Act → Type 0
Inlined (leaf (eval w)) = ⊥
Inlined (leaf (apply v w)) = ⊥
Inlined _ = Unit {0}

abbrev pub inlined_kind : PieceKind
inlined_kind = record any_kind { operation = Inlined }

-- no fetch of a whole node
abbrev pub IsNotNodeFetch : Act → Type 0
IsNotNodeFetch (leaf (fetch w)) = ⊥
IsNotNodeFetch _ = Unit {0}

abbrev pub without_node_fetches : PieceKind
without_node_fetches = record any_kind { operation = IsNotNodeFetch }

abbrev pub NoNodeTarget : T.Target → Type 0
NoNodeTarget (to.Node x) = ⊥
NoNodeTarget _ = Unit {0}

abbrev pub NoNodeVar : V.Val → Type 0
NoNodeVar (NodeVar x) = ⊥
NoNodeVar _ = Unit {0}

abbrev pub BindsNothing : List ℕ → Type 0
BindsNothing xs = xs ≡ []

-- no node variable, and no pattern that binds a variable
abbrev pub vectorised_kind : PieceKind
vectorised_kind = record any_kind {
  target = NoNodeTarget;
  value = NoNodeVar;
  pattern = BindsNothing;
}

-- no operation goes to more than so many variables
abbrev pub narrow_kind : ℕ → PieceKind
narrow_kind most = record any_kind { target = λ t. length (target_vars t) ≤ most }

abbrev pub IsInlined : Program → Type 0
IsInlined g = EveryBodyIsOfKind inlined_kind g.procs

abbrev pub IsVectorised : Program → Type 0
IsVectorised g = EveryBodyIsOfKind vectorised_kind g.procs

abbrev pub IsFetchedByWords : Program → Type 0
IsFetchedByWords g = EveryBodyIsOfKind without_node_fetches g.procs

-- the largest number of fields of these tags, and of those that stand for values
abbrev pub most_fields : List Tag → ℕ
most_fields [] = 0
most_fields (t ∷ ts) = max t.fields (most_fields ts)

abbrev pub value_fields : TagKind → ℕ → ℕ
value_fields kind.Fun k = 0
value_fields _ k = k

abbrev pub most_value_fields : List Tag → ℕ
most_value_fields [] = 0
most_value_fields (t ∷ ts) = max (value_fields t.kind t.fields) (most_value_fields ts)

-- how many words an operation at the end of a block gives, where a node counts as so many; a call
-- gives what its procedure does
abbrev pub val_width : ℕ → V.Val → ℕ
val_width node_width (NodeVar x) = node_width
val_width node_width (Node t ws) = node_width
val_width node_width (Vector ws) = length ws
val_width node_width (One w) = 1

unfoldable mutual
  -- each end of a piece gives at most so many words
  pub NarrowAct : ℕ → ℕ → Act → Type 0
  NarrowAct node_width most (leaf (unit v)) = val_width node_width v ≤ most
  NarrowAct node_width most (leaf (fetch w)) = node_width ≤ most
  NarrowAct node_width most (case v as') = NarrowArms node_width most as'
  NarrowAct node_width most (nested b) = NarrowCode node_width most b
  NarrowAct node_width most _ = Unit {0}

  pub NarrowCode : ℕ → ℕ → Code → Type 0
  NarrowCode node_width most (end o) = NarrowAct node_width most o
  NarrowCode node_width most (store cs b) = NarrowCode node_width most b
  NarrowCode node_width most (bind t o b) = NarrowCode node_width most b

  pub NarrowArms : ℕ → ℕ → Arms → Type 0
  NarrowArms node_width most no_arm = Unit {0}
  NarrowArms node_width most (arm s b as') =
      NarrowCode node_width most b × NarrowArms node_width most as'

-- an operation that changes nothing and gives what it has read or reckoned
abbrev pub HasNoEffect : Act → Type 0
HasNoEffect (leaf (unit v)) = Unit {0}
HasNoEffect (leaf (fetch a)) = Unit {0}
HasNoEffect (leaf (fetch_word a k)) = Unit {0}
HasNoEffect (leaf (prim q a b)) = Unit {0}
HasNoEffect _ = ⊥
