-- The inclusions of a program, statement by statement.
use Rattle.std.specs.Prelude.{ℕ, suc, Bool, true, false, cond, ◌||◌, List, [], ◌∷◌, ◌++◌, Option, Some, None}
use Rattle.grin_syntax.specs.declared.program.Word.TheVariants.{Global}
use Rattle.grin_syntax.specs.declared.program.Val.{Val}
use Rattle.grin_syntax.specs.declared.program.Val.TheVariants.{Node as NodeVal, Vector as VectorVal}
use Rattle.grin_syntax.specs.declared.program.Target.TheVariants.{One as OneTarget, Vector as VectorTarget}
use Rattle.grin_syntax.specs.declared.program.Shape.{Shape}
use Rattle.grin_syntax.specs.declared.program.Shape.TheVariants.{Node as NodeShape, Int, Else}
use Rattle.grin_syntax.specs.declared.program.Cell.{Cell}
use Rattle.grin_syntax.specs.declared.program.GlobalCell.{GlobalCell}
use Rattle.grin_syntax.specs.Tree.{Code, end, store, bind, Act, leaf, unit, fetch, fetch_word, update, eval, apply, call, prim, read, write, case, nested, fail, Arms, no_arm, arm, Procedure, Program}
use Rattle.flow_system.specs.Tables.{tables, params_of}
use Rattle.flow_system.specs.Inclusions.{result, value, a_cell, a_number, held, nodes_at, word_at, evaluated, extended, arguments, FlowSink, to, into_site, into_result, cells_at, Inclusion, flows, forces, applies}

-- whether a program has an eval
unfoldable mutual
  pub act_evals : Act → Bool
  act_evals (leaf (eval a)) = true
  act_evals (case v as') = arms_eval as'
  act_evals (nested b) = code_evals b
  act_evals _ = false

  pub code_evals : Code → Bool
  code_evals (end o) = act_evals o
  code_evals (store cs b) = code_evals b
  code_evals (bind t o b) = act_evals o || code_evals b

  pub arms_eval : Arms → Bool
  arms_eval no_arm = false
  arms_eval (arm s b as') = code_evals b || arms_eval as'

abbrev pub procs_eval : List Procedure → Bool
procs_eval [] = false
procs_eval (q ∷ qs) = code_evals q.body || procs_eval qs

abbrev pub has_eval : Program → Bool
has_eval p = procs_eval p.procs

-- a pattern binds the fields of the nodes with its tag
abbrev pub shape_flows : Val → Shape → List Inclusion
shape_flows v (NodeShape t xs) = flows (arguments (value v) t.0 []) (to (VectorTarget xs)) ∷ []
shape_flows v (Int k) = []
shape_flows v Else = []

module _ (p : Program) where
  -- the cells of a site hold a node, and what a delayed call there gives
  abbrev pub site_flows : ℕ → Val → List Inclusion
  site_flows s v = flows (value v) (into_site s) ∷ cond (has_eval p) (forces s ∷ []) []

  abbrev pub cells_flow : List Cell → List Inclusion
  cells_flow [] = []
  cells_flow (c ∷ cs) =
      flows (a_cell c.site.0) (to (OneTarget c.var)) ∷ site_flows c.site.0 c.val ++ cells_flow cs

  unfoldable mutual
    -- an operation whose value goes to k
    pub act_flows : FlowSink → Act → List Inclusion
    act_flows k (leaf (unit v)) = flows (value v) k ∷ []
    act_flows k (leaf (fetch a)) = flows (nodes_at a) k ∷ []
    act_flows k (leaf (fetch_word a i)) = flows (word_at a i) k ∷ []
    act_flows k (leaf (update a v)) = flows (value v) (cells_at a) ∷ []
    act_flows k (leaf (eval a)) = flows (evaluated (nodes_at a)) k ∷ []
    act_flows k (leaf (apply v a)) = flows (extended v a) k ∷ applies v a k ∷ []
    act_flows k (leaf (call f as')) =
        flows (value (VectorVal as')) (to (params_of (tables p) f.0))
        ∷ flows (held (result f.0)) k ∷ []
    act_flows k (leaf (prim f a b)) = flows a_number k ∷ []
    act_flows k (leaf read) = flows a_number k ∷ []
    act_flows k (leaf (write a)) = []
    act_flows k (case v as') = arms_flow k v as'
    act_flows k (nested b) = code_flows k b
    act_flows k (leaf fail) = []

    pub code_flows : FlowSink → Code → List Inclusion
    code_flows k (end o) = act_flows k o
    code_flows k (store cs b) = cells_flow cs ++ code_flows k b
    code_flows k (bind t o b) = act_flows (to t) o ++ code_flows k b

    pub arms_flow : FlowSink → Val → Arms → List Inclusion
    arms_flow k v no_arm = []
    arms_flow k v (arm s b as') = shape_flows v s ++ (code_flows k b ++ arms_flow k v as')

  abbrev pub globals_flow : List GlobalCell → List Inclusion
  globals_flow [] = []
  globals_flow (c ∷ cs) = site_flows c.site.0 (NodeVal c.tag []) ++ globals_flow cs

  -- the procedures from number f on
  abbrev pub procs_flow : ℕ → List Procedure → List Inclusion
  procs_flow f [] = []
  procs_flow f (q ∷ qs) = code_flows (into_result f) q.body ++ procs_flow (suc f) qs

  abbrev pub start_flows : Option ℕ → List Inclusion
  start_flows None = []
  start_flows (Some i) =
      flows (value (VectorVal (Global i ∷ []))) (to (params_of (tables p) p.start.0)) ∷ []

  -- the flow system of the program
  abbrev pub system : List Inclusion
  system = start_flows p.argument ++ (globals_flow p.globals ++ procs_flow 0 p.procs)
