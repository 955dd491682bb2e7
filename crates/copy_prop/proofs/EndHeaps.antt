-- The heaps at the ends of runs, where runs go alike with the same heaps.
use Rattle.std.proofs.Common.{◌≡◌, ◌≢◌, ℕ, List, refl, sym, ap, ◌∙◌}
use Rattle.grin_syntax.specs.Tree.{Program}
use Rattle.grin_meaning.specs.Values.{Value, missing, Answer}
use Rattle.grin_meaning.specs.Run.{run}
use Rattle.grin_meaning.specs.Keeps.{ended, end_of, world_of}
use Rattle.grin_meaning.specs.Looking.{checked_run}
use Rattle.grin_meaning.proofs.Beside.{no_deeper, Likewise, free, gives_too, stops_too}
use Rattle.grin_meaning.proofs.LooksBack.{look_agrees}
use Rattle.grin_meaning.proofs.Plain.{same_is}

same_ends : (V : Value → Value → Type 0) (a a' : Answer) → Likewise no_deeper V a a'
    → end_of a ≢ ended missing → (world_of a').cells ≡ (world_of a).cells
same_ends V a a' free n = absurd (n refl)
same_ends V a a' (gives_too b u) n = same_is b.heaps
same_ends V a a' (stops_too b) n = same_is b.heaps

pub same_end_heaps : (g h : Program) (i : List ℕ) (n : ℕ) (V : Value → Value → Type 0)
    → Likewise no_deeper V (checked_run g i n) (checked_run h i n)
    → end_of (checked_run g i n) ≢ ended missing → end_of (checked_run h i n) ≢ ended missing
    → (world_of (run h i n)).cells ≡ (world_of (run g i n)).cells
same_end_heaps g h i n V likewise never never' =
    sym (ap (λ a. (world_of a).cells) (look_agrees h i n never'))
    ∙ same_ends V (checked_run g i n) (checked_run h i n) likewise never
    ∙ ap (λ a. (world_of a).cells) (look_agrees g i n never)
