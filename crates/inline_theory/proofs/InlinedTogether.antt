-- Evaluations and applications, inlined together.
use Rattle.std.proofs.Common.{length, ◌∙◌, ◌≡◌, ◌≢◌, ℕ, ◌<◌, ◌≤◌, List, refl, sym, subst, arith}
use Rattle.grin_syntax.specs.Tree.{Leaf, leaf, eval, apply, Procedure, Program}
use Rattle.grin_syntax.specs.Fresh.{past_procs}
use Rattle.grin_meaning.specs.Run.{Calls, run}
use Rattle.grin_meaning.specs.Names.{ActOk, ProcsOk}
use Rattle.grin_meaning.specs.Follows.{DepthComparison, Same, same, Follows, free, gives_too, stops_too}
use Rattle.grin_meaning.proofs.Back.{CallsBack}
use Rattle.grin_meaning.proofs.Alike.{Plain as Setting, same_args, same_result, leaf_follows}
use Rattle.grin_meaning.proofs.Related.{CallsFollow}
use Rattle.grin_meaning.proofs.Simulated.{BodiesLike, bodies_keep, bodies_follow, no_deeper, as_deep}
use Rattle.flow_system.specs.Solution.{Solution}
use Rattle.flow_system.specs.Covers.{StateIsCovered}
use Rattle.grin_rewrite.proofs.CountedSides.{Stands, alone, procs_like, procs_both, procs_past}
use Rattle.inline_theory.specs.Evaluations.{eval_rule, eval_inlined}
use Rattle.inline_theory.specs.Applications.{apply_rule, inlined}
use Rattle.flow_system.proofs.Covered.{covers}
use Rattle.inline_theory.proofs.EvaluationsKeep.{it, stands}
use Rattle.inline_theory.proofs.ApplicationsKeep.{apply_sim}
use Rattle.inline_theory.proofs.EvaluationsStay.{one_then_other}
use Rattle.inline_theory.specs.Laws.{InliningKeeps, ApplyInliningKeeps}
use Rattle.grin_meaning.specs.Values.{Answer, missing}
use Rattle.grin_meaning.specs.Keeps.{ended, end_of, world_of}

module _ (K : DepthComparison) (g : Program) (A : Solution) (procs : List Procedure) (c c' : Calls)
    (cb : CallsBack (StateIsCovered g A) c)
    (cf : CallsFollow (StateIsCovered g A) K same_args same_result c c') where
  abbrev x0 : ℕ
  x0 = past_procs g.procs

  abbrev e : Program
  e = eval_inlined A g

  abbrev s : Setting
  s = it K g A x0 procs c c' cb cf

  both_stand : (x y : ℕ) → x0 ≤ x → x0 ≤ y → (l : Leaf) → ActOk s.Ok (leaf l)
      → Stands s l (one_then_other g A x y l).before (one_then_other g A x y l).becomes
  unfolding ActOk one_then_other
  both_stand x y fx fy (eval a) ok = stands K g A x0 procs c c' cb cf x fx (eval a) ok
  both_stand x y fx fy (apply v a) ok = alone s (apply v a) _
      (apply_sim K g A x0 procs c c' cb cf y v a fy ok.0 ok.1)
  both_stand x y fx fy l ok = alone s l (leaf l) (leaf_follows s l ok)

  both_like : ProcsOk s.Ok g.procs → BodiesLike s.P K s.Ok g procs s g.procs (inlined A g).procs
  both_like ok = procs_both (eval_rule g A) (apply_rule e A) (one_then_other g A) s x0 both_stand x0
      (past_procs e.procs) (omega arith) (procs_past (eval_rule g A) x0 g.procs) g.procs ok

pub inlining_law : InliningKeeps
inlining_law p A s u m =
    bodies_keep (StateIsCovered p A) no_deeper (λ y. y < past_procs p.procs) p (inlined A p).procs
    (λ c c' cb cf. both_like no_deeper p A (inlined A p).procs c c' cb cf u)
    (covers p A s m).passed

-- Two runs that end alike, as deep and with as many cells.
record EndsAlike (a a' : Answer) : Type 0 where
  same_out : (world_of a').out ≡ (world_of a).out
  same_used : (world_of a').used ≡ (world_of a).used
  same_end : end_of a' ≡ end_of a
  same_cells : (world_of a').cells ≡ (world_of a).cells
  same_depth : (world_of a').depth ≡ (world_of a).depth

ends_alike : {a a' : Answer} → Follows as_deep Same a a' → end_of a ≢ ended missing → EndsAlike a a'
ends_alike free h = absurd (h refl)
ends_alike (gives_too ss e same de) h = record
    { same_out = refl; same_used = refl; same_end = refl; same_cells = refl; same_depth = de }
ends_alike (stops_too ss e de) h = record
    { same_out = refl; same_used = refl; same_end = refl; same_cells = refl; same_depth = de }

pub apply_inlining_law : ApplyInliningKeeps
apply_inlining_law p A s u m never = record {
  same_out = λ i n _. (both i n).same_out ∙ sym (one i n).same_out;
  same_used = λ i n _. (both i n).same_used ∙ sym (one i n).same_used;
  same_end = λ i n _. (both i n).same_end ∙ sym (one i n).same_end;
  no_more_cells = λ i n _. let e = (both i n).same_cells ∙ sym (one i n).same_cells
      in subst (λ l. length l ≤ length (world_of (run (eval_inlined A p) i n)).cells) (sym e)
      (omega arith);
  no_deeper = λ i n _. let e = (both i n).same_depth ∙ sym (one i n).same_depth
      in subst (λ d. d ≤ (world_of (run (eval_inlined A p) i n)).depth) (sym e) (omega arith);
}
  where
    one : (i : List ℕ) (n : ℕ) → EndsAlike (run p i n) (run (eval_inlined A p) i n)
    one i n =
        let x0 = past_procs p.procs in
        let procs = (eval_inlined A p).procs in
        ends_alike (bodies_follow (StateIsCovered p A) as_deep (λ y. y < x0) p procs
        (λ c c' cb cf. procs_like (it as_deep p A x0 procs c c' cb cf) x0 (eval_rule p A)
        (stands as_deep p A x0 procs c c' cb cf) x0 (omega arith) p.procs u)
        (covers p A s m).passed i n) (never i n)

    both : (i : List ℕ) (n : ℕ) → EndsAlike (run p i n) (run (inlined A p) i n)
    both i n =
        let procs = (inlined A p).procs in
        ends_alike
        (bodies_follow (StateIsCovered p A) as_deep (λ y. y < past_procs p.procs) p procs
        (λ c c' cb cf. both_like as_deep p A procs c c' cb cf u) (covers p A s m).passed i n)
        (never i n)
