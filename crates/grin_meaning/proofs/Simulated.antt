-- Programs whose procedures have the same parameters, and bodies that follow each other, keep each
-- other.
use Rattle.std.proofs.Common.{◌≡◌, ℕ, suc, List, [], ◌∷◌, Some, refl, ap, ◌∙◌}
use Rattle.grin_syntax.specs.Tree.{Procedure, Program}
use Rattle.grin_meaning.specs.Values.{Datum, State, one_each, Binding, with_vars}
use Rattle.grin_meaning.specs.Run.{Calls, run}
use Rattle.grin_meaning.specs.Keeps.{world_of, Keeps}
use Rattle.grin_meaning.specs.Follows.{DepthComparison, Same, same, Follows, HoldsInEveryState}
use Rattle.grin_meaning.proofs.Back.{CallsBack}
use Rattle.grin_meaning.proofs.Alike.{same_args, same_result, Plain, setting, Agree, CodeLike}
use Rattle.grin_meaning.proofs.Related.{CallsFollow}
pub use Rattle.grin_meaning.proofs.Following.{no_deeper, as_deep}
use Rattle.grin_meaning.proofs.Paired.{nothing, BodiesFollow, no_more, one_more, related_follow, related_keep}

enters_same : (Ok : ℕ → Type 0) {xs xs' : List Datum} (q r : Procedure) (bs : List Binding)
    → r.params ≡ q.params → Same xs xs' → one_each q.params xs ≡ Some bs
    → (bs' : List Binding) ×
    ((one_each r.params xs' ≡ Some bs') × Agree Ok (with_vars bs nothing)
    (with_vars bs' nothing))
enters_same Ok {xs = xs} q r bs e same h = (bs, (ap (λ ps. one_each ps xs) e ∙ h, λ y _. refl))

-- The same variables, arguments and results: each procedure has a body of its own in the second
-- program.
module _ (P : State → Type 0) (K : DepthComparison) (Ok : ℕ → Type 0) (g : Program)
    (procs : List Procedure) where
  abbrev pub plain : (c c' : Calls) → CallsBack P c → CallsFollow P K same_args same_result c c'
      → Plain
  plain c c' cb cf = record
      { P = P; K = K; Ok = Ok; g = g; procs = procs; c = c; c' = c'; back = cb; follow = cf }

  -- procedures with the same parameters, whose bodies follow
  abbrev pub BodiesLike : Plain → List Procedure → List Procedure → Type 0
  BodiesLike s [] [] = Unit {0}
  BodiesLike s (q ∷ qs) (r ∷ rs) = (r.params ≡ q.params) × CodeLike s q.body r.body
      × BodiesLike s qs rs
  BodiesLike s [] (r ∷ rs) = ⊥
  BodiesLike s (q ∷ qs) [] = ⊥

  bodies : (s : Plain) (f : ℕ) (qs rs : List Procedure) → BodiesLike s qs rs
      → BodiesFollow (setting s) f qs rs
  bodies s f [] [] b = no_more
  bodies s f [] (r ∷ rs) b = absurd b
  bodies s f (q ∷ qs) [] b = absurd b
  bodies s f (q ∷ qs) (r ∷ rs) b = one_more {f = f} {q = q} {r = r}
      (record {
        R = Agree s.Ok;
        enters = λ xs xs' bs a h. enters_same s.Ok q r bs b.0 a h;
        body
            = b.1;
      }) (bodies s (suc f) qs rs b.2)

  module _ (each : (c c' : Calls) (cb : CallsBack P c)
      (cf : CallsFollow P K same_args same_result c c')
      → BodiesLike (plain c c' cb cf) g.procs procs) where
    pub bodies_follow : ((i : List ℕ) (n : ℕ) → HoldsInEveryState P (world_of (run g i n)).seen)
        → (i : List ℕ) (n : ℕ) → Follows K Same (run g i n) (run (record g { procs = procs }) i n)
    bodies_follow = related_follow P K same_args same_result g procs
        (λ c c' cb cf. bodies (plain c c' cb cf) 0 g.procs procs (each c c' cb cf)) same

    pub bodies_keep : ((i : List ℕ) (n : ℕ) → HoldsInEveryState P (world_of (run g i n)).seen)
        → Keeps g (record g { procs = procs })
    bodies_keep = related_keep P K same_args same_result g procs
        (λ c c' cb cf. bodies (plain c c' cb cf) 0 g.procs procs (each c c' cb cf)) same
