use Rattle.std.proofs.Common.{◌≡◌, refl, sym, subst, Some}
use Rattle.core_link.specs.Module.{Module}
use Rattle.core_link.specs.ModuleOf.{module_of}
use Rattle.core_link.specs.Rules.{BreaksOwnRule, IsCauseIn, IsFirstIn, IsNamed}
use Rattle.core_link.specs.Found.{NamesFirstBrokenRule}
use Rattle.core_link.proofs.InText.{own_rule, own_first_in, sound_text, unread_cause}
use Rattle.core_link.proofs.files.read_file.Goals as goal

pub returns-in-Err-clause-refused : goal.returns-in-Err-clause-refused
returns-in-Err-clause-refused c =
    subst (IsCauseIn c.args.text.now c.args.file) (sym c.unread.ensures)
    (unread_cause c.args.text.now c.args.file c.in-Err.refusal c.in-Err.ensures.refused)

pub own_kind-kind-requires : goal.own_kind-kind-requires
own_kind-kind-requires c =
    let m : Module = module_of c.in-Ok.module in
    let first : NamesFirstBrokenRule (BreaksOwnRule m) (Some (c.in-Some.rule, c.in-Some.at))
    = subst (NamesFirstBrokenRule (BreaksOwnRule m)) c.in-Some.is c.own-first.ensures in
    own_rule m c.in-Some.rule c.in-Some.at first.0

pub returns-in-None-clause-unbroken : goal.returns-in-None-clause-unbroken
returns-in-None-clause-unbroken c =
    let m : Module = module_of c.in-Ok.module in
    sound_text c.args.text.now m c.in-Ok.ensures.unbroken c.in-Ok.ensures.found
    (subst (NamesFirstBrokenRule (BreaksOwnRule m)) c.in-None.is c.own-first.ensures)

pub returns-in-Some-clause-refused : goal.returns-in-Some-clause-refused
returns-in-Some-clause-refused c =
    let m : Module = module_of c.in-Ok.module in
    let text = c.args.text.now in
    let file = c.args.file in
    let first : NamesFirstBrokenRule (BreaksOwnRule m) (Some (c.in-Some.rule, c.in-Some.at))
    = subst (NamesFirstBrokenRule (BreaksOwnRule m)) c.in-Some.is c.own-first.ensures in
    subst (IsNamed (λ k at. (file ≡ file) × IsFirstIn text k at) file) (sym c.own_kind-kind.ensures) (
      refl,
      own_first_in text m c.in-Some.rule c.in-Some.at c.in-Ok.ensures.unbroken
          c.in-Ok.ensures.found first,
    )
