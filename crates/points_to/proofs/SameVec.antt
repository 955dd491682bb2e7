-- A vector into which an element is written that stands there already.
use Rattle.std.proofs.Common.{◌≡◌, ℕ, length, get_or, slice_set, ap, ◌∙◌}
use Rattle.std.specs.Global.{Vec}
use Rattle.std.specs.Vec.{with_item}
use Rattle.std.proofs.Math.Nat.{ℕ_set}
use Rattle.std.proofs.lemmas.List.{set-get_or}
use mathlib.Core.HLevel.{is_prop→PathP}

pub same_item : {X : Type 0} (v : Vec X) (n : ℕ) (x : X) → x ≡ get_or v.items n x
    → with_item v n x ≡ v
same_item v n x e = λ i. record {
  ptr = v.ptr;
  len = v.len;
  cap = v.cap;
  alloc = v.alloc;
  items = same i;
  ok = (
    is_prop→PathP (λ j. v.len ≡ length (same j)) (λ j. ℕ_set v.len (length (same j)))
        (with_item v n x).ok.0 v.ok.0 i,
    v.ok.1,
  );
  small = v.small;
}
  where
    same : slice_set v.items n x ≡ v.items
    same = ap (slice_set v.items n) e ∙ set-get_or v.items n x
