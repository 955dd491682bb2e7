-- Where the tags of procedures that lack arguments begin, and the first such tag.
use Rattle.std.proofs.Common.{◌≡◌, ◌≢◌, ℕ, zero, suc, ◌<◌, ◌≤◌, Bool, true, false, cond, nat_eq, ◌&&◌, List, [], ◌∷◌, drop, length, Some, None, slice_get, slice_set, refl, sym, ap, ◌∙◌, subst, arith}
use Rattle.std.proofs.lemmas.Bool.Decides.{nat_tests}
use Rattle.std.proofs.lemmas.Option.{slice_get_within}
use Rattle.seq.proofs.Truth.{true_not_false}
use Rattle.grin_syntax.specs.declared.program.Tag.{Tag}
use Rattle.grin_syntax.specs.Tags.{is_part, is_part_kind, is_proc, part_from}
use Rattle.flow_system.specs.Starts.{NoPartTagBeforeStart}

from_tag : (ts : List Tag) (i : ℕ) (t : Tag) → slice_get ts i ≡ Some t
    → drop i ts ≡ t ∷ drop (suc i) ts
from_tag [] i t e = cc
from_tag (x ∷ ts) zero t e = let s : x ≡ t = cc in ap (λ y. y ∷ ts) s
from_tag (x ∷ ts) (suc i) t e = from_tag ts i t e

pub part_here : (ts : List Tag) (i f r : ℕ) (t : Tag) → slice_get ts i ≡ Some t
    → is_part f r t ≡ true → part_from i (drop i ts) f r ≡ Some i
part_here ts i f r t e h = ap (λ l. part_from i l f r) (from_tag ts i t e) ∙ ap
    (λ b. cond b (Some i) (part_from (suc i) (drop (suc i) ts) f r)) h

pub part_later : (ts : List Tag) (i f r : ℕ) (t : Tag) → slice_get ts i ≡ Some t
    → is_part f r t ≡ false → part_from i (drop i ts) f r ≡ part_from (suc i) (drop (suc i) ts) f r
part_later ts i f r t e h = ap (λ l. part_from i l f r) (from_tag ts i t e) ∙ ap
    (λ b. cond b (Some i) (part_from (suc i) (drop (suc i) ts) f r)) h

pub part_nowhere : (ts : List Tag) (i f r : ℕ) → length ts ≤ i → part_from i (drop i ts) f r ≡ None
part_nowhere ts i f r le = ap (λ l. part_from i l f r) (past ts i le)
  where
    past : (ts : List Tag) (i : ℕ) → length ts ≤ i → drop i ts ≡ []
    past [] zero le = refl
    past [] (suc i) le = refl
    past (x ∷ ts) zero le = absurd (omega arith)
    past (x ∷ ts) (suc i) le = past ts i (omega arith)

pub other_kind : (f r : ℕ) (t : Tag) → is_part_kind t.kind ≡ false → is_part f r t ≡ false
other_kind f r t e = ap (λ b. b && (is_proc f t.proc && nat_eq t.missing r)) e

set_here : (starts : List ℕ) (g at s : ℕ) → slice_get (slice_set starts g at) g ≡ Some s → s ≡ at
set_here [] zero at s e = cc
set_here [] (suc g) at s e = cc
set_here (x ∷ starts) zero at s e = cc
set_here (x ∷ starts) (suc g) at s e = set_here starts g at s e

set_there : (starts : List ℕ) (g at f : ℕ) → f ≢ g → slice_get (slice_set starts g at) f ≡ slice_get
    starts f
set_there [] zero at f ne = refl
set_there [] (suc g) at f ne = refl
set_there (x ∷ starts) zero at zero ne = absurd (ne refl)
set_there (x ∷ starts) zero at (suc f) ne = refl
set_there (x ∷ starts) (suc g) at zero ne = refl
set_there (x ∷ starts) (suc g) at (suc f) ne = set_there starts g at f (λ e. ne (ap suc e))

pub noted : (ts : List Tag) (starts : List ℕ) (at g : ℕ) (t : Tag) → slice_get ts at ≡ Some t
    → ((f r : ℕ) → f ≢ g → is_part f r t ≡ false) → NoPartTagBeforeStart ts starts (suc at)
    → NoPartTagBeforeStart ts (slice_set starts g at) at
noted ts starts at g t e other b f r s h = go (nat_eq f g) refl
  where
    go : (c : Bool) → nat_eq f g ≡ c → part_from at (drop at ts) f r ≡ part_from s (drop s ts) f r
    go true q =
        let same : f ≡ g = grind (arith, nat_tests) in
        let here : s ≡ at = set_here starts g at s
        (subst (λ k. slice_get (slice_set starts g at) k ≡ Some s) same h) in
        ap (λ k. part_from k (drop k ts) f r) (sym here)
    go false q =
        let ne : f ≢ g = λ w. let z : nat_eq f g ≡ true = grind (arith, nat_tests)
        in absurd (true_not_false (sym z ∙ q)) in
        part_later ts at f r t e (other f r ne) ∙ b f r s (sym (set_there starts g at f ne) ∙ h)

pub passed : (ts : List Tag) (starts : List ℕ) (at : ℕ) (t : Tag) → slice_get ts at ≡ Some t
    → ((f r : ℕ) → f < length starts → is_part f r t ≡ false)
    → NoPartTagBeforeStart ts starts (suc at) → NoPartTagBeforeStart ts starts at
passed ts starts at t e other b f r s h = part_later ts at f r t e
    (other f r (slice_get_within starts f s h)) ∙ b f r s h

pub unnoted : (ts : List Tag) (starts : List ℕ) (n : ℕ)
    → ((f s : ℕ) → slice_get starts f ≡ Some s → s ≡ n) → NoPartTagBeforeStart ts starts n
unnoted ts starts n all f r s h = ap (λ k. part_from k (drop k ts) f r) (sym (all f s h))
