use Rattle.std.proofs.Common.{◌≡◌, length, All, ap, ◌∙◌, subst, refl, rules}
use Rattle.std.specs.Prelude.{AllPairs}
use Rattle.std.specs.Ordering.{nat_cmp}
use Rattle.std.specs.BTreeMap.{get}
use Rattle.elf32.specs.Image.{IsSoundSegment, SegmentsDoNotOverlap}
use Rattle.rv32_isa.specs.declared.instr.Instr.TheVariants.{Ebreak}
use Rattle.rv32_machine.specs.declared.store.Decoded.{Decoded}
use Rattle.rv32_machine.specs.Starts.{Starts}
use Rattle.rv32_machine.proofs.Begun.{begun, filled_is}
use Rattle.rv32_machine.proofs.store.Memory.new.Goals as goal

pub invariant_of-result : goal.invariant_of-result
invariant_of-result c =
    let empty : Decoded = record { address = 1; instr = Ebreak } in
    let listed : c.as_slice.result.now ≡ c.args.image.now.segments
    = c.as_slice.ensures ∙ ap (λ v. v.segments) c.image.view_is in
    let begins : Starts c.in_ok-regions.regions.items (length c.in_ok-regions.regions.items)
    (get nat_cmp c.in_ok-starts.starts) = subst
    (λ m. Starts m (length m) (get nat_cmp c.in_ok-starts.starts)) c.deref.ensures.value
    c.in_ok-starts.ensures in
    begun c.args.image.now.segments
    (subst (All IsSoundSegment) listed c.in_ok-regions.ensures.parts)
    (subst (AllPairs SegmentsDoNotOverlap) (ap (λ v. v.segments) c.image.view_is)
    c.image.invariant.apart) _ empty (search rules) refl _ begins _
    (filled_is _ c.new-decoded.result.items _ empty c.in_ok-resize.ensures.items (search rules)
    (search rules))
