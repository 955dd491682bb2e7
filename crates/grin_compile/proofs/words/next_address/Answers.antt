use Rattle.std.proofs.Common.{◌≡◌, ◌+◌, ◌∷◌, List, ℕ, drop, get_or, sym, ap, ◌∙◌}
use Rattle.std.proofs.lemmas.List.{drop_more}
use Rattle.grin_compile.specs.Words.{next_address}
use Rattle.grin_compile.proofs.NextAddress.{one_behind, one_before}
use Rattle.grin_compile.proofs.words.next_address.Goals as goal
use Rattle.grin_compile.proofs.words.next_address.Goals.{then-from-address, else-from-address}

pub loop-address-preserved : goal.loop-address-preserved
loop-address-preserved c =
    let xs : List ℕ = c.args.addresses.now in
    let a : ℕ = c.args.from in
    let i : ℕ = c.loop-address.address-index in
    let x : ℕ = get_or xs i 0 in
    let rest : List ℕ = drop (i + 1) xs in
    let head : drop i xs ≡ x ∷ rest = drop_more xs i 0 c.loop-address-test.true in
    let so_far : next_address (x ∷ rest) c.loop-address.next a ≡ next_address xs c.args.end a
    = sym (ap (λ ys. next_address ys c.loop-address.next a) head) ∙ c.loop-address.invariant in
    elim c.if-from-address.branch [
      | then-from-address w ↦ ap (λ n. next_address rest n a) (w.next-is ∙ w.min-next.ensures)
          ∙ sym (one_behind rest c.loop-address.next a x w.if-from-address.true) ∙ so_far
      | else-from-address w ↦ ap (λ n. next_address rest n a) w.next-is
          ∙ sym (one_before rest c.loop-address.next a x w.if-from-address.false) ∙ so_far
    ]
