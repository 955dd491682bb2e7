use Rattle.std.proofs.Common.{◌≡◌, ℕ, suc, ◌+◌, ◌-◌, ◌<◌, ◌≤◌, List, [], ◌∷◌, ◌++◌, sym, ap, subst, ◌∙◌, arith, append_assoc}
use Rattle.std.specs.Prelude.{All, codes, decimal}
use Rattle.std.proofs.lemmas.List.{append-nil}
use Rattle.core_reader.specs.Different.{AreDistinct}
use Rattle.lambda_lift.specs.Lifted.{lifted_names, IsNotLifted}
use Rattle.lambda_lift.proofs.NewNames.{all_different}
use Rattle.lambda_lift.proofs.lifter.with_lifted.Goals as goal

one_named : (i n : ℕ) → i < n → lifted_names i (n - i) ≡ (codes "lift'" ++ decimal i) ∷ lifted_names
    (i + 1) (n - (i + 1))
one_named i n l =
    let e : n - i ≡ suc (n - (i + 1)) = omega arith in
    let f : suc i ≡ i + 1 = omega arith in
    ap (lifted_names i) e ∙ ap (λ k. (codes "lift'" ++ decimal i) ∷ lifted_names k (n - (i + 1))) f

-- one more name
one_behind : (entries entries' names : List (List ℕ)) (i n : ℕ) → i < n → entries' ≡ entries
    ++ (codes "lift'" ++ decimal i) ∷ [] → entries ++ lifted_names i (n - i) ≡ names
    → entries' ++ lifted_names (i + 1) (n - (i + 1)) ≡ names
one_behind entries entries' names i n l e h =
    let rest : List (List ℕ) = lifted_names (i + 1) (n - (i + 1)) in
    ap (λ w. w ++ rest) e ∙ append_assoc entries ((codes "lift'" ++ decimal i) ∷ []) rest ∙ sym
    (ap (λ w. entries ++ w) (one_named i n l)) ∙ h

-- all of them
all_behind : (entries names : List (List ℕ)) (i n : ℕ) → n ≤ i → entries
    ++ lifted_names i (n - i) ≡ names → entries ≡ names
all_behind entries names i n l h =
    let none : n - i ≡ 0 = omega (arith, l) in
    sym (ap (λ m. entries ++ lifted_names i m) none ∙ append-nil entries) ∙ h

pub loop-number-preserved : goal.loop-number-preserved
loop-number-preserved c =
    one_behind c.loop-number.entries.items c.push.new.self.items _ c.loop-number.number
    c.in-Ok.count (omega arith)
    (c.in_ok-push.ensures.items ∙ ap (λ t. c.loop-number.entries.items ++ t ∷ [])
    c.in_ok-name_text.ensures)
    c.loop-number.invariant

pub from_vec-requires : goal.from_vec-requires
from_vec-requires c =
    let all : c.loop-number.entries.items ≡ c.args.names ++ lifted_names 0 c.in-Ok.count
    = all_behind c.loop-number.entries.items _ c.loop-number.number c.in-Ok.count (omega arith)
    c.loop-number.invariant in
    let same : c.args.count ≡ c.in-Ok.count = omega arith in
    let free = subst (λ n. All (IsNotLifted n) c.args.names) same c.requires.free in
    subst AreDistinct (sym all)
    (all_different c.args.names c.in-Ok.count (omega arith) c.requires.different free)

pub returns : goal.returns
returns c =
    c.from_vec.ensures ∙ all_behind c.loop-number.entries.items _ c.loop-number.number c.in-Ok.count
    (omega arith) c.loop-number.invariant ∙ ap (λ n. c.args.names ++ lifted_names 0 n)
    (omega arith)
