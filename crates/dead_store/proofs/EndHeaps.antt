-- The heaps at the ends of two runs that go likewise.
use Rattle.std.proofs.Common.{◌≢◌, ℕ, List, refl, subst}
use Rattle.grin_syntax.specs.Tree.{Program}
use Rattle.grin_meaning.specs.Values.{Value, missing, Answer}
use Rattle.grin_meaning.specs.Run.{run}
use Rattle.grin_meaning.specs.Keeps.{ended, end_of, world_of}
use Rattle.grin_meaning.specs.Looking.{checked_run}
use Rattle.grin_meaning.proofs.Beside.{Compared, Likewise, free, gives_too, stops_too}
use Rattle.grin_meaning.proofs.LooksBack.{look_agrees}

likewise_heaps : (K : Compared) (V : Value → Value → Type 0) (a a' : Answer) → Likewise K V a a'
    → end_of a ≢ ended missing → K.Heaps (world_of a).cells (world_of a').cells
likewise_heaps K V a a' free n = absurd (n refl)
likewise_heaps K V a a' (gives_too b u) n = b.heaps
likewise_heaps K V a a' (stops_too b) n = b.heaps

-- of two programs whose looking runs go likewise and are never missing
pub end_heaps : (g h : Program) (i : List ℕ) (n : ℕ) (K : Compared) (V : Value → Value → Type 0)
    → Likewise K V (checked_run g i n) (checked_run h i n)
    → end_of (checked_run g i n) ≢ ended missing → end_of (checked_run h i n) ≢ ended missing
    → K.Heaps (world_of (run g i n)).cells (world_of (run h i n)).cells
end_heaps g h i n K V likewise never never' =
    subst (λ a. K.Heaps (world_of a).cells (world_of (run h i n)).cells) (look_agrees g i n never)
    (subst (λ a. K.Heaps (world_of (checked_run g i n)).cells (world_of a).cells)
    (look_agrees h i n never')
    (likewise_heaps K V (checked_run g i n) (checked_run h i n) likewise never))
