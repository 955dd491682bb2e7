-- Evaluations become a fetch and a case over the tags that a solution has for them.
use Rattle.std.specs.Prelude.{ℕ, suc, ◌+◌, Bool, false, cond, ◌||◌, List, [], ◌∷◌, map, length, Option, Some, None, slice_get}
use Rattle.grin_syntax.specs.declared.program.ProcId.{ProcId}
use Rattle.grin_syntax.specs.declared.program.Tag.{Tag}
use Rattle.grin_syntax.specs.declared.program.GlobalCell.{GlobalCell}
use Rattle.grin_syntax.specs.declared.program.Word as W
use Rattle.grin_syntax.specs.declared.program.Word.TheVariants.{Var, Global}
use Rattle.grin_syntax.specs.declared.program.Val.TheVariants.{NodeVar}
use Rattle.grin_syntax.specs.declared.program.Target.{Target}
use Rattle.grin_syntax.specs.declared.program.Target.TheVariants.{Nothing, Node as NodeTarget}
use Rattle.grin_syntax.specs.Tree.{Code, end, bind, Act, Leaf, leaf, unit, fetch, update, eval, call, case, fail, Arms, no_arm, Program}
use Rattle.grin_syntax.specs.Fresh.{variable, variables}
use Rattle.grin_meaning.specs.Run.{is_fun_kind}
use Rattle.flow_system.specs.declared.fact.Element.{Element as AbstractWord}
use Rattle.flow_system.specs.declared.fact.Element.TheVariants.{Cell as cell_of, Tag as tag}
use Rattle.flow_system.specs.declared.fact.Place.TheVariants.{Site as site, Var as var}
use Rattle.flow_system.specs.declared.fact.Part.TheVariants.{Tags as tags, Word as word}
use Rattle.flow_system.specs.Solution.{Solution, among}
use Rattle.grin_rewrite.specs.Counted.{CountedRule, counted}
use Rattle.grin_rewrite.specs.Opening.{Opening, opening_arms, opening_room}
use Rattle.seq.specs.Lists.{those}

abbrev pub any_satisfies : {X : Type 0} → (X → Bool) → List X → Bool
any_satisfies test [] = false
any_satisfies test (x ∷ xs) = test x || any_satisfies test xs

module _ (p : Program) (A : Solution) where
  -- the sites of the cells that a word may stand for
  abbrev pub cells_in : List AbstractWord → List ℕ
  cells_in [] = []
  cells_in (cell_of s ∷ us) = s ∷ cells_in us
  cells_in (_ ∷ us) = cells_in us

  abbrev pub site_of : Option GlobalCell → List ℕ
  site_of None = []
  site_of (Some c) = c.site.0 ∷ []

  abbrev pub sites_of : W.Word → List ℕ
  sites_of (Var x) = cells_in (A (var x.0) (word 0))
  sites_of (Global i) = site_of (slice_get p.globals i)
  sites_of _ = []

  -- the tags at these cells, ascending
  abbrev pub tags_of : W.Word → List ℕ
  tags_of a =
      those (λ t. any_satisfies (λ s. among (tag t) (A (site s) tags)) (sites_of a))
      0 (length p.tags)

  -- The alternatives of an evaluation: n is the variable of the node, and x the first fresh
  -- variable of the alternatives.
  abbrev pub call_body : W.Word → ℕ → ℕ → Option ProcId → Code
  call_body a x k None = end (leaf fail)
  call_body a x k (Some f) =
      let r = variable (x + k) in
      bind (NodeTarget r) (leaf (call f (map Var (variables x k))))
      (bind Nothing (leaf (update a (NodeVar r))) (end (leaf (unit (NodeVar r)))))

  abbrev pub eval_body : W.Word → ℕ → ℕ → Tag → Code
  eval_body a n x t =
      cond (is_fun_kind t.kind) (call_body a x t.fields t.proc)
      (end (leaf (unit (NodeVar (variable n)))))

  abbrev pub eval_opening : W.Word → ℕ → Opening
  eval_opening a n = record { more = 1; body = eval_body a n; last = no_arm }

  abbrev pub eval_arms : W.Word → ℕ → ℕ → List ℕ → Arms
  eval_arms a n = opening_arms p.tags (eval_opening a n)

  -- the fresh variables that alternatives take: the fields of each, and one for a result
  abbrev pub arms_room : List ℕ → ℕ
  arms_room = opening_room p.tags 1

  abbrev pub evaluation : ℕ → W.Word → Act
  evaluation x a = case (NodeVar (variable x)) (eval_arms a x (suc x) (tags_of a))

  -- an evaluation is a fetch and that case
  abbrev pub eval_room : Leaf → ℕ
  eval_room (eval a) = suc (arms_room (tags_of a))
  eval_room _ = 0

  abbrev pub eval_before : ℕ → Leaf → List (Target × Leaf)
  eval_before x (eval a) = (NodeTarget (variable x), fetch a) ∷ []
  eval_before x _ = []

  abbrev pub eval_becomes : ℕ → Leaf → Act
  eval_becomes x (eval a) = evaluation x a
  eval_becomes x l = leaf l

  abbrev pub eval_rule : CountedRule
  eval_rule = record { room = eval_room; before = eval_before; becomes = eval_becomes }

-- a program with its evaluations inlined
abbrev pub eval_inlined : Solution → Program → Program
eval_inlined A p = counted (eval_rule p A) p
