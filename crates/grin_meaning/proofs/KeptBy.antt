-- Programs whose runs go likewise keep each other.
use Rattle.std.proofs.Common.{◌≡◌, ◌≢◌, ℕ, ◌≤◌, List, length, false, refl, sym, ◌∙◌, subst}
use Rattle.grin_syntax.specs.Tree.{Program}
use Rattle.grin_meaning.specs.Values.{Value, missing, Answer}
use Rattle.grin_meaning.specs.Run.{run, run_by, calls}
use Rattle.grin_meaning.specs.Keeps.{ended, end_of, world_of, Keeps}
use Rattle.grin_meaning.specs.Looking.{checked_run, CheckedRunsNeverMissing}
use Rattle.grin_meaning.proofs.Beside.{Compared, Likewise, free, gives_too, stops_too}
use Rattle.grin_meaning.proofs.LooksBack.{look_agrees}

-- what keeping says of one run
pub record KeptBy (a a' : Answer) : Type 0 where
  pub out : end_of a ≢ ended missing → (world_of a').out ≡ (world_of a).out
  pub used : end_of a ≢ ended missing → (world_of a').used ≡ (world_of a).used
  pub end : end_of a ≢ ended missing → end_of a' ≡ end_of a
  pub cells : end_of a ≢ ended missing → length (world_of a').cells ≤ length (world_of a).cells
  pub depth : end_of a ≢ ended missing → (world_of a').depth ≤ (world_of a).depth

pub likewise_kept : (K : Compared) (V : Value → Value → Type 0) (a a' : Answer) → Likewise K V a a'
    → KeptBy a a'
likewise_kept K V a a' free = record {
  out = λ k. absurd (k refl);
  used = λ k. absurd (k refl);
  end = λ k. absurd (k refl);
  cells
      = λ k. absurd (k refl);
  depth = λ k. absurd (k refl);
}
likewise_kept K V a a' (gives_too b u) = record {
  out = λ k. refl;
  used = λ k. refl;
  end = λ k. refl;
  cells = λ k. K.fewer b.heaps;
  depth
      = λ k. K.at_most b.deep;
}
likewise_kept K V a a' (stops_too b) = record {
  out = λ k. refl;
  used = λ k. refl;
  end = λ k. refl;
  cells = λ k. K.fewer b.heaps;
  depth
      = λ k. K.at_most b.deep;
}

pub keeps_by : (g h : Program) → ((i : List ℕ) (n : ℕ) → KeptBy (run g i n) (run h i n)) → Keeps g h
keeps_by g h k = record {
  same_out = λ i n e. (k i n).out e;
  same_used = λ i n e. (k i n).used e;
  same_end = λ i n e. (k i n).end e;
  no_more_cells = λ i n e. (k i n).cells e;
  no_deeper = λ i n e. (k i n).depth e;
}

pub run_is : (g : Program) (i : List ℕ) (n : ℕ) → run_by g false i n ≡ run g i n
unfolding run run_by calls
run_is g i n = refl

-- of looking runs: where none of the first is missing, none of the second is, and the first is kept
pub looking_kept : (g h : Program) → CheckedRunsNeverMissing g
    → ((i : List ℕ) (n : ℕ) → KeptBy (checked_run g i n) (checked_run h i n))
    → CheckedRunsNeverMissing h × Keeps g h
looking_kept g h never k = (
  never_too,
  keeps_by g h
      (λ i n. subst (λ a. KeptBy a (run h i n)) (look_agrees g i n (never i n))
      (subst (KeptBy (checked_run g i n)) (look_agrees h i n (never_too i n)) (k i n))),
)
  where
    never_too : CheckedRunsNeverMissing h
    never_too i n e = never i n (sym ((k i n).end (never i n)) ∙ e)
