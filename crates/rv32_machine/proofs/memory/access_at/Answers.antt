use Rattle.std.proofs.Common.{◌∙◌, sym, subst}
use Rattle.std.proofs.lemmas.Bool.{ltb-false}
use Rattle.rv32_machine.specs.Memory.{IsInside, IsAllowed}
use Rattle.rv32_machine.proofs.Stores.{begins, at_found, at_inside, at_allowed, at_none}
use Rattle.rv32_machine.proofs.memory.access_at.Goals as goal

pub within-requires : goal.within-requires
within-requires c = (
  begins c.args.right c.args.address c.args.len c.args.number c.args.regions.now c.requires.place
      c.in-Some.region.now c.in-Some.ensures.lookup.0 c.in-Some.ensures.lookup.1,
  c.requires.some,
)

pub returns-in-Some-clause-found : goal.returns-in-Some-clause-found
returns-in-Some-clause-found c = c.within.ensures ∙ at_found c.args.right c.args.address c.args.len
    c.args.number c.args.regions.now c.requires.place c.in-Some.region.now
    c.in-Some.ensures.lookup.0 c.in-Some.ensures.lookup.1

pub returns-in-Some-clause-inside : goal.returns-in-Some-clause-inside
returns-in-Some-clause-inside c =
    subst (IsInside c.args.regions.now c.args.len) (sym c.within.ensures)
    (at_inside c.args.right c.args.address c.args.len c.args.number c.args.regions.now
    c.requires.place c.in-Some.region.now c.in-Some.ensures.lookup.0 c.in-Some.ensures.lookup.1)

pub returns-in-Some-clause-allowed : goal.returns-in-Some-clause-allowed
returns-in-Some-clause-allowed c =
    subst (IsAllowed c.args.right c.args.regions.now) (sym c.within.ensures)
    (at_allowed c.args.right c.args.address c.args.len c.args.number c.args.regions.now
    c.requires.place c.in-Some.region.now c.in-Some.ensures.lookup.0 c.in-Some.ensures.lookup.1)

pub returns-in-None-clause-found : goal.returns-in-None-clause-found
returns-in-None-clause-found c = at_none c.args.right c.args.address c.args.len c.args.number
    c.args.regions.now c.requires.place (ltb-false _ _ (sym c.in-None.ensures.lookup.0))
