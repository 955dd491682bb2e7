use Rattle.std.proofs.Common.{◌≡◌, ℕ, ◌∙◌, sym, ap, subst, length, true, false, Some, rules}
use Rattle.std.specs.Prelude.{◌&&◌}
use Rattle.std.proofs.lemmas.Bool.{ltb-true, ltb-false}
use Rattle.std.proofs.lemmas.Option.{slice_get-get_or}
use Rattle.rv32_machine.specs.Memory.{IsPlace, allows, is_in, segment_at}
use Rattle.rv32_machine.proofs.Stores.{serving_place}
use Rattle.rv32_machine.proofs.Searched.{only_fails, only_absent}
use Rattle.rv32_machine.proofs.store.Memory.number.Goals as goal
use Rattle.rv32_machine.proofs.store.Memory.number.Goals.{in-Some+else-serves, in_default}

pub returns-then-serves : goal.returns-then-serves
returns-then-serves c =
    let read = rw c.deref-2.ensures.value at c.in-Some.ensures.lookup in
    let at = slice_get-get_or c.self.inside.regions.items c.candidate-number.result
    c.in-Some.region.now (ltb-true _ _ (sym read.0)) ∙ ap Some (sym read.1) in
    subst (λ m. IsPlace c.args.right c.args.address m c.candidate-number.result) c.self.view_is
    (serving_place c.args.right c.self.inside.regions.items c.args.address c.candidate-number.result
    c.in-Some.region.now c.self.invariant.apart at (search rules))

pub returns : goal.returns
returns c =
    let items = c.self.inside.regions.items in
    let m = c.candidate-number.result in
    let many : length items ≡ c.len-2.result = search rules in
    let only : (n : ℕ) → is_in c.args.address (segment_at items n) ≡ true → n ≡ m
    = subst (λ l. (n : ℕ) → is_in c.args.address (segment_at l n) ≡ true → n ≡ m)
    (sym c.self.view_is) c.candidate-number.ensures in
    let none : IsPlace c.args.right c.args.address items (length items) = elim c.match-get.branch [
      | in-Some+else-serves w ↦
          let read = rw c.deref-2.ensures.value at w.in-Some.ensures.lookup in
          let fails : allows c.args.right w.in-Some.region.now && is_in c.args.address
          w.in-Some.region.now ≡ false = search rules in
          only_fails c.args.right items c.args.address m only w.in-Some.region.now read.0 read.1
          fails
      | in_default w ↦
          let read = rw c.deref-2.ensures.value at w.in_default.ensures.lookup in
          only_absent c.args.right items c.args.address m only (ltb-false _ _ (sym read.0))
    ] in
    subst (λ l. IsPlace c.args.right c.args.address l c.len-2.result) c.self.view_is
    (subst (IsPlace c.args.right c.args.address items) many none)
