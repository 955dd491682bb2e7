-- A program without the cells that nothing reads keeps the program, and its heaps are what is kept
-- of those.
use Rattle.std.proofs.Common.{◌≡◌, ℕ, zero, suc, Bool, true, false, cond, List, [], ◌∷◌, map, Option, Some, None, slice_get, refl, sym, ap, ◌∙◌, subst, inl, inr}
use Rattle.std.specs.Prelude.{pos}
use Rattle.grin_syntax.specs.declared.program.GlobalCell.{GlobalCell}
use Rattle.grin_syntax.specs.Formed.{AllOf, ArgumentKnown}
use Rattle.grin_syntax.specs.Tree.{Procedure, Program}
use Rattle.grin_meaning.specs.Values.{Datum, cell, number, Value, HeapCell, State, Binding, with_vars, one_each}
use Rattle.grin_meaning.specs.Run.{Calls, run, global_cells, start_words}
use Rattle.grin_meaning.specs.Checks.{is_given}
use Rattle.grin_meaning.specs.Rewritten.{rewritten_procedure}
use Rattle.grin_meaning.specs.Ready.{IsFetchedByWords}
use Rattle.grin_meaning.specs.Keeps.{world_of, Keeps}
use Rattle.grin_meaning.specs.Looking.{checked_run, CheckedRunsNeverMissing}
use Rattle.grin_meaning.specs.Follows.{Same, same, HoldsInEveryState}
use Rattle.grin_meaning.proofs.Back.{CallsBack}
use Rattle.grin_meaning.proofs.Beside.{Likewise, Seen}
use Rattle.grin_meaning.proofs.Rules.{CallsFollow}
use Rattle.grin_meaning.proofs.Procedures.{BodiesFollow, no_more, one_more, run_follows}
use Rattle.grin_meaning.proofs.KeptBy.{likewise_kept, looking_kept}
use Rattle.grin_meaning.proofs.Looked.{looking_law}
use Rattle.grin_meaning.proofs.LooksBack.{look_agrees}
use Rattle.grin_meaning.proofs.Paired.{nothing}
use Rattle.dead_store.proofs.EndHeaps.{end_heaps}
use Rattle.flow_system.specs.Tables.{tables}
use Rattle.flow_system.specs.System.{system}
use Rattle.flow_system.specs.Solution.{Solution, Solves}
use Rattle.flow_system.specs.Covers.{StateIsCovered}
use Rattle.flow_system.proofs.Covered.{covers}
use Rattle.flow_system.proofs.Starting.{formed_is_started}
use Rattle.pass_ground.specs.Vectors.{IsVectorForm}
use Rattle.pass_ground.proofs.Bound.{one_each_names}
use Rattle.seq.specs.Lists.{In, here, there}
use Rattle.seq.proofs.Lists.{some_is, none_is_some, some_at, map_get}
use Rattle.dead_store.specs.Kept.{rank, stays_at, kept_with}
use Rattle.dead_store.specs.Reads.{reads_of}
use Rattle.dead_store.specs.Staying.{AreStaying}
use Rattle.dead_store.specs.Stored.{HeapKeepsStayingCells}
use Rattle.dead_store.specs.Without.{without_code, is_gone, without}
use Rattle.dead_store.proofs.Renaming.{f, bindings_to, one_each_renamed, given_renamed}
use Rattle.dead_store.proofs.Heaps.{Begins, kept_one, stays_get, rank_same}
use Rattle.dead_store.proofs.Growing.{all_begin, start_begins}
use Rattle.dead_store.proofs.Related.{Related, related_bind, GlobalsStay}
use Rattle.dead_store.proofs.Fine.{of_each, WordStays}
use Rattle.dead_store.proofs.Unique.{ProcFine, all_fine}
use Rattle.dead_store.proofs.Likeness.{compared, V, plan, R, it, code_like}

every_both : (P Q : State → Type 0) (ss : List State) → HoldsInEveryState P ss
    → HoldsInEveryState Q ss → HoldsInEveryState (λ s. P s × Q s) ss
every_both P Q [] h k = tt
every_both P Q (s ∷ ss) h k = ((h.0, k.0), every_both P Q ss h.1 k.1)

-- a global cell at the start
abbrev made_global : GlobalCell → HeapCell
made_global c = record { site = c.site.0; node = record { tag = c.tag.0; fields = [] } }

site_in : (cs : List GlobalCell) (j : ℕ) (z : HeapCell) → slice_get (map made_global cs) j ≡ Some z
    → In z.site (map (λ c. c.site.0) cs)
site_in [] j z e = none_is_some e
site_in (c ∷ cs) zero z e = subst (λ u. In u.site (map (λ c. c.site.0) (c ∷ cs))) (some_is e) here
site_in (c ∷ cs) (suc j) z e = there (site_in cs j z e)

globals_kept : (stays : ℕ → Bool) (d : Datum → Datum) (cs : List GlobalCell)
    → ((s : ℕ) → In s (map (λ c. c.site.0) cs) → stays s ≡ true)
    → kept_with stays d (map made_global cs) ≡ map made_global cs
globals_kept stays d [] h = refl
globals_kept stays d (c ∷ cs) h = kept_one stays d (made_global c) (map made_global cs)
    (h c.site.0 here) ∙ ap (λ l. made_global c ∷ l) (globals_kept stays d cs (λ s k. h s (there k)))

module _ (g : Program) (A : Solution) (stays : ℕ → Bool) (of : IsVectorForm g)
    (worded : IsFetchedByWords g) (solves : Solves (tables g) (system g) A)
    (decided : AreStaying A g stays) where
  abbrev gone : ℕ → Bool
  gone = is_gone stays g.procs

  abbrev after : Program
  after = without stays g

  global_stays : (s : ℕ) → In s (map (λ c. c.site.0) g.globals) → stays s ≡ true
  global_stays s i = (decided s).1 (inl i)

  reads_stay : AllOf (WordStays A g stays) (reads_of true g.procs)
  reads_stay = of_each (WordStays A g stays) (reads_of true g.procs)
      (λ a i s st. (decided s).1 (inr (a, i, st)))

  pub fine : AllOf (ProcFine A g stays gone) g.procs
  fine = all_fine A g stays of.formed.variables_once of.ready.inlined worded of.vectorised
      reads_stay

  -- ---- the global cells

  globals_stay : (F : List HeapCell) → Begins (global_cells g) F → GlobalsStay stays gone F g
  globals_stay F b i c e =
      let there : slice_get (global_cells g) i ≡ Some (made_global c)
      = map_get made_global g.globals i c e in
      let s : stays_at stays F i ≡ true = stays_get stays (global_cells g) F i (made_global c) b
      there ∙ global_stays c.site.0 (site_in g.globals i (made_global c) there) in
      ap (λ t. cond t (cell (rank stays F i)) (number (pos 0))) s ∙ ap cell
      (rank_same stays (global_cells g) F i (made_global c) b
      (λ j z q. global_stays z.site (site_in g.globals j z q)) there)

  start_args : (F : List HeapCell) → GlobalsStay stays gone F g
      → Same (map (f stays F) (start_words g.argument)) (start_words g.argument)
  start_args F globals = go g.argument of.formed.argument
    where
      go : (o : Option ℕ) → ArgumentKnown g o → Same (map (f stays F) (start_words o))
          (start_words o)
      go None k = same
      go (Some i) k = let c = some_at g.globals i k
          in subst (λ d. Same (f stays F (cell i) ∷ []) (d ∷ [])) (globals i c.0 c.1) same

  -- ---- the procedures

  module _ (F : List HeapCell) (globals : GlobalsStay stays gone F g) (c c' : Calls)
      (cb : CallsBack (plan g A stays gone F).P c) (cf : CallsFollow (plan g A stays gone F) c c')
    where
      enters_too : (q : Procedure) → ProcFine A g stays gone q
          → (xs : List Datum) (bs : List Binding) {xs' : List Datum} → Same (map (f stays F) xs) xs'
          → one_each q.params xs ≡ Some bs
          → (bs' : List Binding) × (one_each q.params xs' ≡ Some bs')
          × Related stays gone F (with_vars bs nothing) (with_vars bs' nothing)
      enters_too q ok xs bs same e = (
        bindings_to stays F bs,
        one_each_renamed stays F q.params xs bs e,
        related_bind stays gone F bs nothing nothing
            (subst (AllOf (λ x. gone x ≡ false)) (sym (one_each_names q.params xs bs e)) ok.params)
            (record { same = λ x v k n. none_is_some k; left = λ x v k n. none_is_some k }),
      )

      given_too : (v : Value) {v' : Value} → V g A stays gone F v v' → Seen true (is_given g v)
          → Seen true (is_given g v') × V g A stays gone F v v'
      given_too v same seen = (λ l. given_renamed stays F g v (seen l), same)

      bodies_follow : (p : ℕ) (qs : List Procedure) → AllOf (ProcFine A g stays gone) qs
          → BodiesFollow (it g A stays gone F globals c c' cb cf) p qs
          (map (rewritten_procedure (without_code stays gone)) qs)
      bodies_follow p [] ok = no_more
      bodies_follow p (q ∷ qs) ok = one_more {f = p} {q = q}
          {r = rewritten_procedure (without_code stays gone) q} (record {
            R = R g A stays gone F globals c c' cb cf;
            V = V g A stays gone F;
            enters = λ cells xs xs' bs a e lies. enters_too q ok.0 xs bs a e;
            body = code_like g A stays gone F globals c c' cb cf q.body ok.0.body;
            given = λ v v' u seen. given_too v u seen;
          }) (bodies_follow (suc p) qs ok.1)

  -- ---- the whole program

  never : CheckedRunsNeverMissing g
  never = (looking_law g of.ready.inlined).sees of.ready.never_missing of.ready.runs

  all_lie : (i : List ℕ) (m : ℕ) → HoldsInEveryState (StateIsCovered g A)
      (world_of (checked_run g i m)).seen
  all_lie i m = subst (λ a. HoldsInEveryState (StateIsCovered g A) (world_of a).seen)
      (sym (look_agrees g i m (never i m)))
      ((covers g A (formed_is_started g of.formed) solves).passed i m)

  abbrev at_end : List ℕ → ℕ → List HeapCell
  at_end i m = (world_of (checked_run g i m)).cells

  goes_likewise : (i : List ℕ) (m : ℕ) → Likewise (compared g A stays gone (at_end i m))
      (V g A stays gone (at_end i m)) (checked_run g i m) (checked_run after i m)
  goes_likewise i m =
      let F : List HeapCell = at_end i m in
      let globals : GlobalsStay stays gone F g = globals_stay F
      (start_begins g of.ready.inlined i m) in
      run_follows (plan g A stays gone F)
      (λ c c' cb cf. bodies_follow F globals c c' cb cf 0 g.procs fine) i m
      (start_args F globals) (sym (globals_kept stays (f stays F) g.globals global_stays))
      (every_both (StateIsCovered g A) (λ s. Begins s.heap F) (world_of (checked_run g i m)).seen
      (all_lie i m) (all_begin g of.ready.inlined i m))

  pub kept_too : CheckedRunsNeverMissing after × Keeps g after
  kept_too = looking_kept g after never
      (λ i m. likewise_kept (compared g A stays gone (at_end i m)) (V g A stays gone (at_end i m))
      (checked_run g i m) (checked_run after i m) (goes_likewise i m))

  pub heaps_kept : HeapKeepsStayingCells stays g after
  heaps_kept i m =
      let same_end : at_end i m ≡ (world_of (run g i m)).cells
      = ap (λ a. (world_of a).cells) (look_agrees g i m (never i m)) in
      end_heaps g after i m (compared g A stays gone (at_end i m)) (V g A stays gone (at_end i m))
      (goes_likewise i m) (never i m) (kept_too.0 i m)
      ∙ ap (λ F. kept_with stays (f stays F) (world_of (run g i m)).cells) same_end
