-- What `lower` asks for gives what the translation needs: the ends of formed programs are few words
-- and calls of procedures that
-- there are.
use Rattle.std.proofs.Common.{ℕ, ◌+◌, List, [], ◌∷◌, map, length, subst}
use Rattle.std.proofs.lemmas.List.{length-map}
use Rattle.grin_syntax.specs.declared.program.Grin.{Grin}
use Rattle.grin_syntax.specs.Binders.{shape_vars, cell_vars}
use Rattle.grin_syntax.specs.Tree.{Code, end, store, bind, Act, leaf, unit, fetch, fetch_word, update, eval, apply, call, prim, read, write, case, nested, fail, Arms, no_arm, arm, Procedure, Program, procedure_of, program_of}
use Rattle.grin_syntax.specs.Formed.{AllOf, Scope, with_word_variables, with_target, params_scope, ActFormed, CodeFormed, ArmsFormed, ProcedureFormed, Formed}
use Rattle.grin_meaning.specs.Ready.{Ready, NarrowAct, NarrowCode, NarrowArms, most_value_fields}
use Rattle.low_translate.specs.Lowered.{ActEnds, CodeEnds, ArmsEnd}

module _ (g : Program) (node most : ℕ) where
  mutual
    unfolding ActFormed NarrowAct ActEnds

    act_ends : (scope : Scope) (o : Act) → ActFormed g scope o → NarrowAct node most o
        → ActEnds (length g.procs) node most o
    act_ends scope (leaf (unit v)) h k = k
    act_ends scope (leaf (fetch w)) h k = k
    act_ends scope (leaf (fetch_word w i)) h k = tt
    act_ends scope (leaf (update w v)) h k = tt
    act_ends scope (leaf (eval w)) h k = tt
    act_ends scope (leaf (apply v w)) h k = tt
    act_ends scope (leaf (call f ws)) h k = h.0
    act_ends scope (leaf (prim o a b)) h k = tt
    act_ends scope (leaf read) h k = tt
    act_ends scope (leaf (write w)) h k = tt
    act_ends scope (case v as') h k = arms_end scope as' h.1 k
    act_ends scope (nested b) h k = code_ends scope b h k
    act_ends scope (leaf fail) h k = tt

    code_ends : (scope : Scope) (b : Code) → CodeFormed g scope b → NarrowCode node most b
        → CodeEnds (length g.procs) node most b
    code_ends scope (end o) h k = act_ends scope o h k
    code_ends scope (store cs b) h k = code_ends (with_word_variables (cell_vars cs) scope) b h.1 k
    code_ends scope (bind t o b) h k = code_ends (with_target t scope) b h.1 k

    arms_end : (scope : Scope) (as' : Arms) → ArmsFormed g scope as' → NarrowArms node most as'
        → ArmsEnd (length g.procs) node most as'
    arms_end scope no_arm h k = tt
    arms_end scope (arm s b as') h k =
        (code_ends (with_word_variables (shape_vars s) scope) b h.1 k.0, arms_end scope as' h.2 k.1)

  all_end : (qs : List Procedure) → AllOf (ProcedureFormed g) qs
      → AllOf (λ q. NarrowCode node most q.body) qs
      → AllOf (λ q. CodeEnds (length g.procs) node most q.body) qs
  all_end [] h k = tt
  all_end (q ∷ qs) h k = (code_ends (params_scope q) q.body h.0 k.0, all_end qs h.1 k.1)

pub ends_of : (g : Grin) → Formed (program_of g) → Ready (program_of g)
    → AllOf (λ q. CodeEnds (length g.procs) (1 + most_value_fields g.tags) 13 q.body)
    (map procedure_of g.procs)
ends_of g f r = subst
    (λ n. AllOf (λ q. CodeEnds n (1 + most_value_fields g.tags) 13 q.body)
    (map procedure_of g.procs)) (length-map g.procs procedure_of)
    (all_end (program_of g) (1 + most_value_fields g.tags) 13 (map procedure_of g.procs)
    f.procedures r.few_results)
