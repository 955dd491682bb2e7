-- A program with its fetches split keeps the program.
use Rattle.std.proofs.Common.{◌≡◌, ℕ, suc, pos, ◌+◌, ◌<◌, ◌≤◌, true, List, [], ◌∷◌, length, Some, refl, ap, arith}
use Rattle.grin_syntax.specs.declared.program.Word.TheVariants.{Lit}
use Rattle.grin_syntax.specs.Tree.{Procedure, Program}
use Rattle.grin_syntax.specs.Binders.{numbers_of, code_vars, procs_vars}
use Rattle.grin_syntax.specs.Formed.{AllOf, params_scope, ProcedureFormed, Formed}
use Rattle.grin_syntax.specs.Fresh.{past_vars, past_code, past_procs}
use Rattle.grin_syntax.proofs.Unbound.{past_vars_none, past_code_none}
use Rattle.grin_meaning.specs.Values.{Datum, Value, HeapCell, Binding, with_vars, one_each}
use Rattle.grin_meaning.specs.Run.{Calls}
use Rattle.grin_meaning.specs.Checks.{is_given}
use Rattle.grin_meaning.specs.Ready.{EachCode, IsVectorised, EveryBodyIsOfKind, inlined_kind, vectorised_kind}
use Rattle.grin_meaning.specs.Keeps.{Keeps}
use Rattle.grin_meaning.specs.Looking.{checked_run, CheckedRunsNeverMissing}
use Rattle.grin_meaning.specs.Follows.{Same, same}
use Rattle.grin_meaning.specs.Full.{FullState}
use Rattle.grin_meaning.proofs.Back.{CallsBack}
use Rattle.grin_meaning.proofs.Fullness.{nodes_full}
use Rattle.grin_meaning.proofs.Beside.{no_deeper, Likewise, Seen}
use Rattle.grin_meaning.proofs.Rules.{CallsFollow}
use Rattle.grin_meaning.proofs.Procedures.{BodyFollows, BodiesFollow, no_more, one_more, run_follows}
use Rattle.grin_meaning.proofs.KeptBy.{likewise_kept, looking_kept}
use Rattle.fetch_passes.specs.Split.{made_code, split_code, split_procs, split}
use Rattle.fetch_passes.proofs.Near.{itself, Near}
use Rattle.fetch_passes.proofs.Fetching.{plan_of, it}
use Rattle.fetch_passes.proofs.Simulated.{code_goes}
use Rattle.fetch_passes.proofs.Once.{first_once, others_once}
use Rattle.seq.specs.Lists.{times}
use Rattle.grin_meaning.proofs.Scopes.{scope_below as below}
use Rattle.grin_meaning.proofs.Paired.{nothing}

pub split_count : (g : Program) (n : ℕ) (qs : List Procedure)
    → length (split_procs g.tags n qs) ≡ length qs
split_count g n [] = refl
split_count g n (q ∷ qs) = ap suc (split_count g (n + made_code g.tags [] q.body) qs)

-- what a piece binds is below the first variable that is past it

module _ (g : Program) (formed : Formed g) (never : CheckedRunsNeverMissing g)
    (inlined : EveryBodyIsOfKind inlined_kind g.procs) (bare : IsVectorised g) where
  abbrev base : ℕ
  base = past_procs g.procs

  abbrev procs : List Procedure
  procs = split_procs g.tags base g.procs

  same_count : length procs ≡ length g.procs
  same_count = split_count g base g.procs

  module _ (c c' : Calls) (cb : CallsBack (FullState g) c) (cf : CallsFollow (plan_of g procs) c c')
    where
      enters_too : (q : Procedure) (cells : List HeapCell) {xs xs' : List Datum} (bs : List Binding)
          → Same xs xs' → one_each q.params xs ≡ Some bs → (bs' : List Binding)
          × (one_each q.params xs' ≡ Some bs') × Near g (numbers_of q.params) [] [] (Lit (pos 0)) []
          cells (with_vars bs nothing) (with_vars bs' nothing)
      enters_too q cells bs (same {a = xs}) e =
          (bs, e, record { named = λ z d i l v w. w; waits = tt })

      given_too : {v v' : Value} → Same v v' → Seen true (is_given g v) → Seen true (is_given g v')
          × Same v v'
      given_too (same {a = v}) s = (s, same)

      body_goes : (f n : ℕ) (q : Procedure) → base ≤ n → ProcedureFormed g q
          → EachCode inlined_kind q.body → EachCode vectorised_kind q.body
          → ((y : ℕ) → times y (numbers_of q.params) + times y (code_vars q.body) ≤ 1)
          → past_vars q.params ≤ base → past_code q.body ≤ base
          → BodyFollows (it g procs c c' cb cf) f q
          (record q { body = split_code g.tags [] (Lit (pos 0)) [] n q.body })
      body_goes f n q le fq iq bq once pq pb = record {
        R = λ cells. Near g (numbers_of q.params) [] [] (Lit (pos 0)) [] cells;
        V = Same;
        enters = λ cells xs xs' bs a e known. enters_too q cells bs a e;
        body = code_goes g base procs same_count c c' cb cf q.body (params_scope q) [] (Lit (pos 0))
            [] n 0
            (record {
              low = λ y i.
                  (let l : y < past_vars q.params = below (past_vars q.params) (numbers_of q.params)
                  (λ y h. past_vars_none y q.params h) y i in omega (arith, l, pq));
              sound = λ z. itself refl;
              from = le;
              held = λ y e. cc;
              waiting = tt;
            })
            (record {
              formed = fq;
              inlined = iq;
              bare = bq;
              once = once;
              below = λ y i.
                  (let l : y < past_code q.body = below (past_code q.body) (code_vars q.body)
                  (λ y h. past_code_none y q.body h) y i in omega (arith, l, pb));
            })
            (record { hidden = λ z e. cc; waits = λ z e. cc; tagged = λ z e. cc });
        given = λ v v' u seen. given_too u seen;
      }

      bodies_go : (f n : ℕ) (qs : List Procedure) → base ≤ n → AllOf (ProcedureFormed g) qs
          → EveryBodyIsOfKind inlined_kind qs → EveryBodyIsOfKind vectorised_kind qs
          → ((y : ℕ) → times y (procs_vars qs) ≤ 1) → past_procs qs ≤ base
          → BodiesFollow (it g procs c c' cb cf) f qs (split_procs g.tags n qs)
      bodies_go f n [] le fq iq bq once past = no_more
      bodies_go f n (q ∷ qs) le fq iq bq once past = one_more {f = f} {q = q}
          {r = record q { body = split_code g.tags [] (Lit (pos 0)) [] n q.body }}
          (body_goes f n q le fq.0 iq.0 bq.0 here (omega (arith, past)) (omega (arith, past)))
          (bodies_go (suc f) (n + made_code g.tags [] q.body) qs (omega (arith, le)) fq.1 iq.1 bq.1
          later (omega (arith, past)))
        where
          here : (y : ℕ) → times y (numbers_of q.params) + times y (code_vars q.body) ≤ 1
          here y = first_once q qs y (once y)

          later : (y : ℕ) → times y (procs_vars qs) ≤ 1
          later y = others_once q qs y (once y)

  -- ---- the whole program

  goes_likewise : (i : List ℕ) (n : ℕ) → Likewise no_deeper Same (checked_run g i n)
      (checked_run (split g) i n)
  goes_likewise i n = run_follows (plan_of g procs)
      (λ c c' cb cf. bodies_go c c' cb cf 0 base g.procs (omega arith) formed.procedures inlined
      bare formed.variables_once (omega arith)) i n
      same same (nodes_full g formed true i n).passed

  pub split_kept : CheckedRunsNeverMissing (split g) × Keeps g (split g)
  split_kept = looking_kept g (split g) never
      (λ i n. likewise_kept no_deeper Same (checked_run g i n) (checked_run (split g) i n)
      (goes_likewise i n))
