-- Up to simplifying, no word of a cell is fetched by itself.
use Rattle.std.proofs.Common.{List, [], ◌∷◌, map, sym, subst, arith}
use Rattle.grin_syntax.specs.declared.program.Cell.{Cell}
use Rattle.grin_syntax.specs.declared.program.Word.{Word}
use Rattle.grin_syntax.specs.Tree.{Code, end, store, bind, Act, Leaf, leaf, unit, fetch, fetch_word, update, eval, apply, call, prim, read, write, case, nested, fail, Arms, no_arm, arm, Procedure, Program}
use Rattle.grin_syntax.specs.Formed.{AllOf}
use Rattle.grin_meaning.specs.Ready.{any_kind, EachAct, EachCode, EachArms, EveryBodyIsOfKind}
use Rattle.grin_meaning.specs.Rewritten.{rewritten_procedure}
use Rattle.grin_rewrite.specs.ByWords.{leaf_by}
use Rattle.grin_rewrite.proofs.KeptByWords.{Blind, each_kept}
use Rattle.grin_rewrite.proofs.FactText.{bodies_each}
use Rattle.vectorise.specs.Whole.{whole_node_kind, UsesWholeNodes}
use Rattle.vectorise.specs.Known.{layout_of, table_of}
use Rattle.vectorise.specs.Vectors.{wide_cells, wide_act, wide_code, wide_arms, vectorised}
use Rattle.case_simplify.specs.Known.{nothing_known}
use Rattle.case_simplify.specs.Simple.{simplifying, simplified}
use Rattle.case_simplify.proofs.Asked.{unchanged, sound}
use Rattle.fetch_passes.specs.Placed.{no_word_fetch_kind, HasNoWordFetches}
use Rattle.stage_names.specs.declared.PassName.{PassName}
use Rattle.stage_names.specs.declared.PassName.TheVariants.{Translate, Eval, Apply, Vectorise, Simplify}
use Rattle.grin_opt.specs.Schedule.{before, pass_relation}
use Rattle.grin_opt.specs.Staying.{IsStageFrom}

all_any : (cs : List Cell) → AllOf (λ c. any_kind.value c.val) cs
all_any [] = tt
all_any (c ∷ cs) = (tt, all_any cs)

-- ---- where no part of a node stands by itself

mutual
  unfolding EachAct

  act_whole : (o : Act) → EachAct whole_node_kind o → EachAct no_word_fetch_kind o
  act_whole (case v as') h = (tt, tt, arms_whole as' h.2)
  act_whole (nested b) h = (tt, code_whole b h.1)
  act_whole (leaf (unit v)) h = (tt, tt)
  act_whole (leaf (fetch a)) h = tt
  act_whole (leaf (fetch_word a i)) h = absurd h
  act_whole (leaf (update a v)) h = (tt, tt)
  act_whole (leaf (eval a)) h = tt
  act_whole (leaf (apply v a)) h = (tt, tt)
  act_whole (leaf (call f ws)) h = tt
  act_whole (leaf (prim f a b)) h = tt
  act_whole (leaf read) h = tt
  act_whole (leaf (write a)) h = tt
  act_whole (leaf fail) h = tt

  code_whole : (b : Code) → EachCode whole_node_kind b → EachCode no_word_fetch_kind b
  code_whole (end o) h = act_whole o h
  code_whole (store cs b) h = (all_any cs, code_whole b h.1)
  code_whole (bind t o b) h = (tt, act_whole o h.1, code_whole b h.2)

  arms_whole : (as' : Arms) → EachArms whole_node_kind as' → EachArms no_word_fetch_kind as'
  arms_whole no_arm h = tt
  arms_whole (arm s b as') h = (tt, code_whole b h.1, arms_whole as' h.2)

procs_whole : (qs : List Procedure) → EveryBodyIsOfKind whole_node_kind qs
    → EveryBodyIsOfKind no_word_fetch_kind qs
procs_whole [] h = tt
procs_whole (q ∷ qs) h = (code_whole q.body h.0, procs_whole qs h.1)

pub first_whole : (g : Program) → UsesWholeNodes g → HasNoWordFetches g
first_whole g h = procs_whole g.procs h

-- ---- vectors

module _ (g : Program) where
  mutual
    unfolding wide_act EachAct

    wide_act_whole : (o : Act) → EachAct no_word_fetch_kind o
        → EachAct no_word_fetch_kind (wide_act (layout_of g) (table_of g) o)
    wide_act_whole (case v as') h = (tt, tt, wide_arms_whole as' h.2)
    wide_act_whole (nested b) h = (tt, wide_code_whole b h.1)
    wide_act_whole (leaf (unit v)) h = (tt, tt)
    wide_act_whole (leaf (fetch a)) h = tt
    wide_act_whole (leaf (fetch_word a i)) h = absurd h
    wide_act_whole (leaf (update a v)) h = (tt, tt)
    wide_act_whole (leaf (eval a)) h = tt
    wide_act_whole (leaf (apply v a)) h = (tt, tt)
    wide_act_whole (leaf (call f ws)) h = tt
    wide_act_whole (leaf (prim f a b)) h = tt
    wide_act_whole (leaf read) h = tt
    wide_act_whole (leaf (write a)) h = tt
    wide_act_whole (leaf fail) h = tt

    wide_code_whole : (b : Code) → EachCode no_word_fetch_kind b
        → EachCode no_word_fetch_kind (wide_code (layout_of g) (table_of g) b)
    wide_code_whole (end o) h = wide_act_whole o h
    wide_code_whole (store cs b) h =
        (all_any (wide_cells (layout_of g) (table_of g) cs), wide_code_whole b h.1)
    wide_code_whole (bind t o b) h = (tt, wide_act_whole o h.1, wide_code_whole b h.2)

    wide_arms_whole : (as' : Arms) → EachArms no_word_fetch_kind as'
        → EachArms no_word_fetch_kind (wide_arms (layout_of g) (table_of g) as')
    wide_arms_whole no_arm h = tt
    wide_arms_whole (arm s b as') h = (tt, wide_code_whole b h.1, wide_arms_whole as' h.2)

  wide_procs_whole : (qs : List Procedure) → EveryBodyIsOfKind no_word_fetch_kind qs
      → EveryBodyIsOfKind no_word_fetch_kind
      (map (rewritten_procedure (wide_code (layout_of g) (table_of g))) qs)
  wide_procs_whole [] h = tt
  wide_procs_whole (q ∷ qs) h = (wide_code_whole q.body h.0, wide_procs_whole qs h.1)

vectorised_whole : (g : Program) → HasNoWordFetches g → HasNoWordFetches (vectorised g)
vectorised_whole g h = wide_procs_whole g g.procs h

-- ---- fewer cases

whole_blind : Blind no_word_fetch_kind
whole_blind = record {
  leafs = go;
  cases = λ v v' as' bs' h. tt;
  blocks = λ b b' h. tt;
  wraps
      = λ v as' b h. tt;
  fails = λ v as' h. tt;
}
  where
    go : (w : Word → Word) (l : Leaf) → no_word_fetch_kind.operation (leaf l)
        → no_word_fetch_kind.operation (leaf (leaf_by w l))
    go w (fetch_word a i) h = h
    go w _ h = tt

simplified_whole : (g : Program) → HasNoWordFetches g → HasNoWordFetches (simplified g)
unfolding each_kept
simplified_whole g h =
    bodies_each simplifying unchanged nothing_known (sound g).by no_word_fetch_kind whole_blind
    ((sound g).cases (each_kept no_word_fetch_kind whole_blind)) (λ f v h. tt) g.procs h

-- ---- the stages

pub stays_whole : (k : PassName) (g h : Program) → IsStageFrom k Simplify → pass_relation k g h
    → (IsStageFrom (before k) Simplify → HasNoWordFetches g) → HasNoWordFetches h
stays_whole Translate g h up s so_far = absurd s
stays_whole Eval g h up s so_far = absurd s
stays_whole Apply g h up s so_far = absurd s
stays_whole Vectorise g h up s so_far = subst HasNoWordFetches (sym s.made)
    (vectorised_whole g (so_far (omega arith)))
stays_whole Simplify g h up s so_far = subst HasNoWordFetches (sym s.made)
    (simplified_whole g (so_far (omega arith)))
stays_whole k g h up s so_far = absurd (omega (arith, up))
