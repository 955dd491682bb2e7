use Rattle.std.proofs.Common.{◌≡◌, ◌<◌, ◌^◌, ℕ, true, length, set, refl, subst, sym, ap, ◌∙◌, not, nat_eq, arith}
use Rattle.std.proofs.lemmas.Grind.{common_steps}
use Rattle.std.proofs.lemmas.Bool.Decides.{nat_tests}
use Rattle.std.proofs.lemmas.Option.{slice_get_read, get_or_from_slice_get}
use Rattle.register_alloc.specs.Rounds.{mask_at, joined_masks, room}
use Rattle.register_alloc.proofs.Masks.{greater}
use Rattle.register_alloc.proofs.written.grow.Goals as goal

pub returns-clause-closer : goal.returns-clause-closer
returns-clause-closer c more =
    let old : mask_at c.args.masks.now.items c.args.proc ≡ c.index-old.result.now =
    get_or_from_slice_get c.args.masks.now.items c.args.proc c.index-old.result.now 0
    (slice_get_read c.args.masks.now.items (length c.args.masks.now.items) c.args.proc
    c.index-old.result.now refl c.requires c.index-old.ensures) in
    let e : joined_masks c.args.masks.now.items (mask_at c.args.masks.now.items c.args.proc)
    c.args.called.now ≡ c.joined_masks-all.result =
    ap (λ m. joined_masks c.args.masks.now.items m c.args.called.now) old ∙ ap
    (λ ms. joined_masks ms c.index-old.result.now c.args.called.now)
    (sym c.as_slice.ensures.value) ∙ sym c.joined_masks-all.ensures in
    subst (λ v. room (set c.args.masks.now.items c.args.proc v) < room c.args.masks.now.items) e
    (greater c.args.masks.now.items c.args.proc c.args.called.now c.requires
    (λ q. differs c.joined_masks-all.result c.index-old.result.now more (sym e ∙ q ∙ old))
    (subst (λ v. v < 2 ^ 32) (sym e) c.joined_masks-all.type_inv))
  where
    differs : (a b : ℕ) → not (nat_eq a b) ≡ true → a ≡ b → ⊥
    differs a b h q = grind (arith, nat_tests, common_steps)
