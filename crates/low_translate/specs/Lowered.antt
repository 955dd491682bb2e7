-- When low code is the translation of a program: how many words each procedure gives.
use Rattle.std.specs.Prelude.{ℤ, pos, negsuc, ℕ, ◌+◌, ◌^◌, ◌≡◌, ◌<◌, ◌≤◌, List, [], ◌∷◌, length}
use Rattle.grin_syntax.specs.declared.program.Word as W
use Rattle.grin_syntax.specs.declared.program.Word.TheVariants as word
use Rattle.grin_syntax.specs.declared.program.Val as V
use Rattle.grin_syntax.specs.declared.program.Val.TheVariants as val
use Rattle.grin_syntax.specs.declared.program.Shape as S
use Rattle.grin_syntax.specs.declared.program.Shape.TheVariants as shape
use Rattle.grin_syntax.specs.Tree as grin
use Rattle.grin_syntax.specs.Tree.{Code, end, store, bind, Act, leaf, unit, fetch, fetch_word, update, call, prim, read, write, case, nested, Arms, no_arm, arm, Procedure}
use Rattle.grin_syntax.specs.Fresh.{past_procs}
use Rattle.grin_syntax.specs.Formed.{AllOf}
use Rattle.grin_meaning.specs.Ready.{most_fields, most_value_fields, val_width}
use Rattle.low_code.specs.Tree as low
use Rattle.low_translate.specs.Translation.{results_of, program_code}
use Rattle.low_translate.specs.Writes.{written_width}

-- ---- the numbers of a program have 32 bits

abbrev pub Has32Bits : ℤ → Type 0
Has32Bits (pos k) = k < 2 ^ 31
Has32Bits (negsuc k) = k < 2 ^ 31

abbrev pub WordRanged : W.Word → Type 0
WordRanged (word.Lit k) = Has32Bits k
WordRanged _ = Unit {0}

abbrev pub ValRanged : V.Val → Type 0
ValRanged (val.NodeVar x) = Unit {0}
ValRanged (val.Node t ws) = AllOf WordRanged ws
ValRanged (val.Vector ws) = AllOf WordRanged ws
ValRanged (val.One w) = WordRanged w

abbrev pub ShapeRanged : S.Shape → Type 0
ShapeRanged (shape.Int k) = Has32Bits k
ShapeRanged _ = Unit {0}

abbrev pub PlainRanged : Act → Type 0
PlainRanged (leaf (unit v)) = ValRanged v
PlainRanged (leaf (fetch w)) = WordRanged w
PlainRanged (leaf (fetch_word w i)) = WordRanged w
PlainRanged (leaf (update w v)) = WordRanged w × ValRanged v
PlainRanged (leaf (call f ws)) = AllOf WordRanged ws
PlainRanged (leaf (prim f a b)) = WordRanged a × WordRanged b
PlainRanged (leaf (write w)) = WordRanged w
PlainRanged _ = Unit {0}

-- the last alternative of a case needs no test
abbrev pub TestRanged : S.Shape → Arms → Type 0
TestRanged s no_arm = Unit {0}
TestRanged s (arm _ _ _) = ShapeRanged s

unfoldable mutual
  pub ActRanged : Act → Type 0
  ActRanged (case v as') = ValRanged v × ArmsRanged as'
  ActRanged (nested b) = CodeRanged b
  ActRanged o = PlainRanged o

  pub CodeRanged : Code → Type 0
  CodeRanged (end o) = ActRanged o
  CodeRanged (store cs b) = AllOf (λ c. ValRanged c.val) cs × CodeRanged b
  CodeRanged (bind t o b) = ActRanged o × CodeRanged b

  pub ArmsRanged : Arms → Type 0
  ArmsRanged no_arm = Unit {0}
  ArmsRanged (arm s b as') = TestRanged s as' × CodeRanged b × ArmsRanged as'

-- ---- the words that procedures give

-- the ends of a procedure that gives r words: none has more, where a node has so many, and a tail
-- call gives as many
module _ (node_width : ℕ) (results : List ℕ) (r : ℕ) where
  unfoldable mutual
    pub ActGives : Act → Type 0
    ActGives (leaf (unit v)) = val_width node_width v ≤ r
    ActGives (leaf (fetch w)) = node_width ≤ r
    ActGives (leaf (fetch_word w i)) = 1 ≤ r
    ActGives (leaf (prim f a b)) = 1 ≤ r
    ActGives (leaf read) = 1 ≤ r
    ActGives (leaf (call f ws)) = results_of results f.0 ≡ r
    ActGives (case v as') = ArmsGive as'
    ActGives (nested b) = CodeGives b
    ActGives _ = Unit {0}

    pub CodeGives : Code → Type 0
    CodeGives (end o) = ActGives o
    CodeGives (store cs b) = CodeGives b
    CodeGives (bind t o b) = CodeGives b

    pub ArmsGive : Arms → Type 0
    ArmsGive no_arm = Unit {0}
    ArmsGive (arm s b as') = CodeGives b × ArmsGive as'

abbrev pub EachProcedureReturns : (node_width : ℕ) → (results : List ℕ)
    → List ℕ → List Procedure → Type 0
EachProcedureReturns node_width results [] [] = Unit {0}
EachProcedureReturns node_width results (r ∷ rs) (q ∷ qs) =
    CodeGives node_width results r q.body × EachProcedureReturns node_width results rs qs
EachProcedureReturns node_width results _ _ = ⊥

-- each end has at most so many words, and each tail call is of one of n procedures
module _ (n node_width most : ℕ) where
  unfoldable mutual
    pub ActEnds : Act → Type 0
    ActEnds (leaf (unit v)) = val_width node_width v ≤ most
    ActEnds (leaf (fetch w)) = node_width ≤ most
    ActEnds (leaf (call f ws)) = f.0 < n
    ActEnds (case v as') = ArmsEnd as'
    ActEnds (nested b) = CodeEnds b
    ActEnds _ = Unit {0}

    pub CodeEnds : Code → Type 0
    CodeEnds (end o) = ActEnds o
    CodeEnds (store cs b) = CodeEnds b
    CodeEnds (bind t o b) = CodeEnds b

    pub ArmsEnd : Arms → Type 0
    ArmsEnd no_arm = Unit {0}
    ArmsEnd (arm s b as') = CodeEnds b × ArmsEnd as'

-- l is the translation of g
pub record IsLowered (g : grin.Program) (l : low.Program) : Type 0 where
  pub results : List ℕ
  pub gives : EachProcedureReturns (1 + most_value_fields g.tags) results results g.procs
  pub few : AllOf (λ r. r ≤ 13) results
  pub few_tags : length g.tags ≤ 2 ^ 32
  pub ranged : AllOf (λ q. CodeRanged q.body) g.procs
  pub is : l
      ≡ program_code (1 + most_fields g.tags) (written_width g) results (past_procs g.procs) g
