use Rattle.std.proofs.Common.{◌≡◌, ◌∙◌, sym, subst, rules, take, drop, length, ◌++◌}
use Rattle.std.specs.Ordering.{nat_cmp}
use Rattle.std.specs.BTreeMap.{get}
use Rattle.rv32_machine.specs.Memory.{bytes_of, stored_at}
use Rattle.rv32_machine.specs.Decoded.{IsMemoryWithCache}
use Rattle.rv32_machine.proofs.Stores.{store_kept, written_back}
use Rattle.rv32_machine.proofs.store.Memory.write.Goals as goal

pub invariant_of-self : goal.invariant_of-self
invariant_of-self c =
    let old = c.self.inside.regions.items in
    let new : c.write.new.regions ≡ stored_at old c.args.region c.args.offset
    (bytes_of c.args.len c.args.value) = search rules in
    let back : take c.self.inside.regions.len
    (c.write.new.regions ++ drop (length c.write.new.regions) old) ≡ c.write.new.regions
    = written_back _ _ _ (search rules) (search rules) in
    subst (λ m. IsMemoryWithCache m (get nat_cmp c.self.inside.starts) c.self.inside.decoded.items)
    (sym (back ∙ new))
    (store_kept old c.args.region c.args.offset (bytes_of c.args.len c.args.value) (search rules)
    (search rules) (get nat_cmp c.self.inside.starts) c.self.inside.decoded.items
    c.self.invariant)
