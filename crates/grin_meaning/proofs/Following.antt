-- A program whose runs follow those of another keeps it.
use Rattle.std.proofs.Common.{◌≡◌, ◌≢◌, ℕ, ◌≤◌, List, length, refl, sym, subst, arith}
use Rattle.grin_syntax.specs.Tree.{Program}
use Rattle.grin_meaning.specs.Values.{Value, missing, Answer}
use Rattle.grin_meaning.specs.Run.{run}
use Rattle.grin_meaning.specs.Keeps.{ended, end_of, world_of, Keeps}
use Rattle.grin_meaning.specs.Follows.{DepthComparison, Follows, free, gives_too, stops_too, Same, same}

out_follows : {K : DepthComparison} {V : Value → Value → Type 0} {a a' : Answer} → Follows K V a a'
    → end_of a ≢ ended missing → (world_of a').out ≡ (world_of a).out
out_follows free h = absurd (h refl)
out_follows (gives_too ss e r de) h = refl
out_follows (stops_too ss e de) h = refl

used_follows : {K : DepthComparison} {V : Value → Value → Type 0} {a a' : Answer} → Follows K V a a'
    → end_of a ≢ ended missing → (world_of a').used ≡ (world_of a).used
used_follows free h = absurd (h refl)
used_follows (gives_too ss e r de) h = refl
used_follows (stops_too ss e de) h = refl

end_follows : {K : DepthComparison} {V : Value → Value → Type 0} {a a' : Answer} → Follows K V a a'
    → end_of a ≢ ended missing → end_of a' ≡ end_of a
end_follows free h = absurd (h refl)
end_follows (gives_too ss e r de) h = refl
end_follows (stops_too ss e de) h = refl

cells_follow : {K : DepthComparison} {V : Value → Value → Type 0} {a a' : Answer} → Follows K V a a'
    → end_of a ≢ ended missing → length (world_of a').cells ≤ length (world_of a).cells
cells_follow free h = absurd (h refl)
cells_follow (gives_too ss e r de) h = omega arith
cells_follow (stops_too ss e de) h = omega arith

depth_follows : {K : DepthComparison} {V : Value → Value → Type 0} {a a' : Answer}
    → Follows K V a a' → end_of a ≢ ended missing → (world_of a').depth ≤ (world_of a).depth
depth_follows free h = absurd (h refl)
depth_follows {K} (gives_too ss e r de) h = K.at_most de
depth_follows {K} (stops_too ss e de) h = K.at_most de

pub keeps_following : (K : DepthComparison) (V : Value → Value → Type 0) (g h : Program)
    → ((i : List ℕ) (n : ℕ) → Follows K V (run g i n) (run h i n)) → Keeps g h
keeps_following K V g h f = record {
  same_out = λ i n k. out_follows (f i n) k;
  same_used = λ i n k. used_follows (f i n) k;
  same_end = λ i n k. end_follows (f i n) k;
  no_more_cells = λ i n k. cells_follow (f i n) k;
  no_deeper = λ i n k. depth_follows (f i n) k;
}

-- the nesting is at most what it was, or the same
abbrev pub no_deeper : DepthComparison
no_deeper = record {
  Deep = λ e d. e ≤ d;
  start = omega arith;
  up = λ h. omega arith;
  greater
      = λ h k. omega arith;
  at_most = λ h. h;
}

abbrev pub as_deep : DepthComparison
as_deep = record {
  Deep = λ e d. e ≡ d;
  start = refl;
  up = λ h. omega arith;
  greater
      = λ h k. omega arith;
  at_most = λ h. omega arith;
}

pub is_same : {A : Type 0} (a b : A) → b ≡ a → Same a b
is_same a b e = subst (Same a) (sym e) same
