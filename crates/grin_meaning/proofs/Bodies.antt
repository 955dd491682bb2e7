-- Programs whose procedures have the same parameters, and bodies that follow each other, keep each
-- other.
use Rattle.std.proofs.Common.{◌≡◌, ℕ, suc, false, List, [], ◌∷◌, map, Some, refl, sym, ap, ◌∙◌, subst}
use Rattle.seq.proofs.Truth.{false_not_true}
use Rattle.grin_syntax.specs.Tree.{Code, Procedure, Program}
use Rattle.grin_meaning.specs.Values.{Datum, State, one_each, Binding, with_vars}
use Rattle.grin_meaning.specs.Run.{Calls, run, run_by}
use Rattle.grin_meaning.specs.Rewritten.{rewritten, rewritten_procedure}
use Rattle.grin_meaning.specs.Keeps.{world_of, Keeps}
use Rattle.grin_meaning.specs.Follows.{Same, same, HoldsInEveryState}
use Rattle.grin_meaning.proofs.Back.{CallsBack}
use Rattle.grin_meaning.proofs.Beside.{Compared, Likewise, no_deeper}
use Rattle.grin_meaning.proofs.Rules.{Plan, CallsFollow, Setting, CodeFollows}
use Rattle.grin_meaning.proofs.Procedures.{BodiesFollow, no_more, one_more, side_by_side, run_follows}
use Rattle.grin_meaning.proofs.Plain.{Has, IsPlain}
use Rattle.grin_meaning.proofs.KeptBy.{likewise_kept, keeps_by, run_is}
use Rattle.grin_meaning.proofs.Paired.{nothing}

-- nothing is looked at, and arguments and results are the same
abbrev pub plain : Compared → (State → Type 0) → Program → List Procedure → Plan
plain K P g procs = record
    { looks = false; K = K; P = P; Args = λ f. Same; Result = λ f. Same; g = g; procs = procs }

-- procedures with the same parameters, whose bodies follow
abbrev pub BodiesLike : (ℕ → Type 0) → Setting → List Procedure → List Procedure → Type 0
BodiesLike Ok s [] [] = Unit {0}
BodiesLike Ok s (q ∷ qs) (r ∷ rs) = (r.params ≡ q.params)
    × CodeFollows s (λ c. Has Ok) Same q.body r.body × BodiesLike Ok s qs rs
BodiesLike Ok s [] (r ∷ rs) = ⊥
BodiesLike Ok s (q ∷ qs) [] = ⊥

enters_same : (Ok : ℕ → Type 0) {xs xs' : List Datum} (q r : Procedure) (bs : List Binding)
    → r.params ≡ q.params → Same xs xs' → one_each q.params xs ≡ Some bs
    → (bs' : List Binding) × (one_each r.params xs' ≡ Some bs')
    × Has Ok (with_vars bs nothing) (with_vars bs' nothing)
enters_same Ok q r bs e (same {a = xs}) h = (bs, ap (λ ps. one_each ps xs) e ∙ h, λ y v _ k. k)

module _ (K : Compared) (P : State → Type 0) (Ok : ℕ → Type 0) (g : Program)
    (procs : List Procedure) (pl : IsPlain (plain K P g procs)) where
  bodies : (c c' : Calls) (cb : CallsBack P c) (cf : CallsFollow (plain K P g procs) c c') (f : ℕ)
      (qs rs : List Procedure) → BodiesLike Ok (side_by_side (plain K P g procs) c c' cb cf) qs rs
      → BodiesFollow (side_by_side (plain K P g procs) c c' cb cf) f qs rs
  bodies c c' cb cf f [] [] b = no_more
  bodies c c' cb cf f [] (r ∷ rs) b = absurd b
  bodies c c' cb cf f (q ∷ qs) [] b = absurd b
  bodies c c' cb cf f (q ∷ qs) (r ∷ rs) b = one_more {f = f} {q = q} {r = r} (record {
    R = λ c. Has Ok;
    V = Same;
    enters = λ heap xs xs' bs a h known. enters_same Ok q r bs b.0 a h;
    body = b.1;
    given = λ v v' u seen. ((λ e. false_not_true e), u);
  }) (bodies c c' cb cf (suc f) qs rs b.2)

  module _ (each : (c c' : Calls) (cb : CallsBack P c) (cf : CallsFollow (plain K P g procs) c c')
      → BodiesLike Ok (side_by_side (plain K P g procs) c c' cb cf) g.procs procs) where
    pub bodies_go : (i : List ℕ) (n : ℕ) → HoldsInEveryState P (world_of (run g i n)).seen
        → Likewise K Same (run g i n) (run (record g { procs = procs }) i n)
    bodies_go i n all = subst (λ a. Likewise K Same a (run (record g { procs = procs }) i n))
        (run_is g i n)
        (subst (Likewise K Same (run_by g false i n)) (run_is (record g { procs = procs }) i n)
        (run_follows (plain K P g procs)
        (λ c c' cb cf. bodies c c' cb cf 0 g.procs procs (each c c' cb cf)) i n same
        (pl.same_heaps _)
        (subst (λ a. HoldsInEveryState P (world_of a).seen) (sym (run_is g i n)) all)))

    pub bodies_keep : ((i : List ℕ) (n : ℕ) → HoldsInEveryState P (world_of (run g i n)).seen)
        → Keeps g (record g { procs = procs })
    bodies_keep all = keeps_by g (record g { procs = procs })
        (λ i n. likewise_kept K Same _ _ (bodies_go i n (all i n)))

pub plain_no_deeper : (P : State → Type 0) (g : Program) (procs : List Procedure)
    → IsPlain (plain no_deeper P g procs)
plain_no_deeper P g procs = record
    { heaps_are = λ h. h; same_heaps = λ c. same; args = λ f xs. same; results = λ f v v' u. u }

-- where nothing is asked of the states
abbrev pub AnyState : State → Type 0
AnyState s = Unit {0}

pub every_any : (ss : List State) → HoldsInEveryState AnyState ss
every_any [] = tt
every_any (s ∷ ss) = (tt, every_any ss)

-- one rewriting of all bodies, by what each rewritten block does wherever the calls follow
module _ (Ok : ℕ → Type 0) (f : Code → Code) (g : Program) where
  abbrev pub rewriting : Plan
  rewriting = plain no_deeper AnyState g (map (rewritten_procedure f) g.procs)

  module _ (each : (c c' : Calls) (cb : CallsBack AnyState c) (cf : CallsFollow rewriting c c')
      (b : Code) → CodeFollows (side_by_side rewriting c c' cb cf) (λ c. Has Ok) Same b (f b)) where
    all_like : (c c' : Calls) (cb : CallsBack AnyState c) (cf : CallsFollow rewriting c c')
        (qs : List Procedure) → BodiesLike Ok (side_by_side rewriting c c' cb cf) qs
        (map (rewritten_procedure f) qs)
    all_like c c' cb cf [] = tt
    all_like c c' cb cf (q ∷ qs) = (refl, each c c' cb cf q.body, all_like c c' cb cf qs)

    pub rewriting_keeps : Keeps g (rewritten f g)
    rewriting_keeps = bodies_keep no_deeper AnyState Ok g (map (rewritten_procedure f) g.procs)
        (plain_no_deeper AnyState g _) (λ c c' cb cf. all_like c c' cb cf g.procs)
        (λ i n. every_any _)
