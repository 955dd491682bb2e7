use Rattle.grin_rewrite.proofs.CountedLoops.{stays_in_place, takes_no_room}
use Rattle.std.proofs.Common.{◌+◌, map, sym, ap, ◌∙◌}
use Rattle.grin_syntax.specs.Tree.{case, program_of}
use Rattle.grin_syntax.proofs.TreeOf.{act_of-Case}
use Rattle.inline_theory.specs.Applications.{apply_arms, others_of, else_fail, parts_room, apply_rule}
use Rattle.points_to.specs.Found.{found}
use Rattle.apply_inline.proofs.Filtered.{parts_filtered}
use Rattle.apply_inline.proofs.Loops.{untouched, applied, application_room}
use Rattle.apply_inline.proofs.blocks.ApplyInlinerFreshRule.leaf.Goals as goal

pub returns-in_default-clause-is : goal.returns-in_default-clause-is
returns-in_default-clause-is c =
    let p = program_of c.args.self.now.known.program.now in
    let A = found c.args.self.now.known.flow.now in
    stays_in_place (apply_rule p A) c.args.fresh.now.next c.args.op c.requires
    (untouched p A c.args.fresh.now.next c.args.op c.in_default.not-Apply) c.args.before.now

pub returns-in_default-clause-next : goal.returns-in_default-clause-next
returns-in_default-clause-next c =
    let p = program_of c.args.self.now.known.program.now in
    let A = found c.args.self.now.known.flow.now in
    takes_no_room (apply_rule p A) c.args.fresh.now.next c.args.op c.requires
    (untouched p A c.args.fresh.now.next c.args.op c.in_default.not-Apply)

pub returns-in_ok-alts-in-Apply-clause-is : goal.returns-in_ok-alts-in-Apply-clause-is
returns-in_ok-alts-in-Apply-clause-is c =
    let p = program_of c.args.self.now.known.program.now in
    let A = found c.args.self.now.known.flow.now in
    let v = c.in-Apply.v in
    applied p A c.args.fresh.now.next c.args.op v c.in-Apply.a c.in-Apply.is c.args.before.now _
    (act_of-Case v c.in_ok-alts-in-Apply.alts
    ∙ ap (case v)
    (c.in_ok-alts-in-Apply.ensures.is ∙ ap
    (λ l. apply_arms p A c.in-Apply.a c.args.fresh.now.next l (else_fail p A (others_of p A v)))
    (sym (parts_filtered p A v (map (λ t. t.0) c.candidates.result.now) c.candidates.ensures))))

pub returns-in_ok-alts-in-Apply-clause-next : goal.returns-in_ok-alts-in-Apply-clause-next
returns-in_ok-alts-in-Apply-clause-next c =
    let p = program_of c.args.self.now.known.program.now in
    let A = found c.args.self.now.known.flow.now in
    let v = c.in-Apply.v in
    application_room p A c.args.fresh.now.next c.args.op v c.in-Apply.a c.in-Apply.is _
    (c.in_ok-alts-in-Apply.ensures.next ∙ ap (λ l. c.args.fresh.now.next + parts_room p A l)
    (sym (parts_filtered p A v (map (λ t. t.0) c.candidates.result.now) c.candidates.ensures)))
