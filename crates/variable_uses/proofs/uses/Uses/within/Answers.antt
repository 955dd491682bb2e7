use Rattle.std.proofs.Common.{◌≡◌, ◌<◌, ◌≤◌, true, false, length, Some, slice_get, refl, sym, ◌∙◌, subst, arith, rules}
use Rattle.std.proofs.lemmas.Bool.Decides.{nat_tests}
use Rattle.std.proofs.lemmas.List.Sorted.{IsPartitionPoint-from_clause}
use Rattle.std.proofs.lemmas.Option.{slice_get_read}
use Rattle.std.specs.List.Sorted.{IsPartitionedBy, IsPartitionPoint}
use Rattle.variable_uses.specs.declared.uses.Use.{Use}
use Rattle.variable_uses.proofs.Positions.{is_before, before_is, parted, within_next, within_past}
use Rattle.variable_uses.proofs.uses.Uses.within.Goals as goal

pub returns-then-next-len : goal.returns-then-next-len
returns-then-next-len c used are =
    let first : Use = record { variable = c.args.variable; at = c.args.from } in
    let end : Use = record { variable = c.args.variable; at = c.args.to } in
    let us = c.args.self.now.uses.items in
    let next = c.partition_point-next.result in
    let point = IsPartitionPoint-from_clause (is_before first) c.deref.result.now _
    c.partition_point-next.ensures.partitioned
    (subst (λ l. IsPartitionedBy (is_before first) l) (sym c.deref.ensures.value)
    (parted us first are.ascending)) (λ a r q k. search (rules, before_is)) in
    let inside : next < length us = search rules in
    let there : slice_get us next ≡ Some c.index.result.now
    = slice_get_read us (length us) next c.index.result.now refl inside c.index.ensures in
    let is : c.lt.result ≡ is_before end c.index.result.now
    = c.lt.ensures ∙ before_is end c.index.result.now in
    let both = within_next used c.args.self.now are c.args.variable c.args.from c.args.to next
    (subst (λ l. IsPartitionPoint (λ v. is_before first v ≡ true) (λ v. is_before first v ≡ false) l
    next) c.deref.ensures.value point) c.index.result.now there in
    (λ e. both.0 (sym is ∙ e), λ w. is ∙ both.1 w)

pub returns-else-next-len : goal.returns-else-next-len
returns-else-next-len c used are =
    let first : Use = record { variable = c.args.variable; at = c.args.from } in
    let us = c.args.self.now.uses.items in
    let next = c.partition_point-next.result in
    let point = IsPartitionPoint-from_clause (is_before first) c.deref.result.now _
    c.partition_point-next.ensures.partitioned
    (subst (λ l. IsPartitionedBy (is_before first) l) (sym c.deref.ensures.value)
    (parted us first are.ascending)) (λ a r q k. search (rules, before_is)) in
    let past : length us ≤ next = search rules in
    let none = within_past used c.args.self.now are c.args.variable c.args.from c.args.to next
    (subst (λ l. IsPartitionPoint (λ v. is_before first v ≡ true) (λ v. is_before first v ≡ false) l
    next) c.deref.ensures.value point) past in (
      λ e. let less : next < c.len.result = grind (arith, nat_tests) in let over
          : c.len.result ≤ next = c.if-next-len.false in absurd (omega arith),
      λ w. absurd (none w),
    )
