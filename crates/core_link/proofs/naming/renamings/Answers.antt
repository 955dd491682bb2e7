use Rattle.std.proofs.Common.{arith, sym, subst}
use Rattle.std.specs.List.{AllZip}
use Rattle.std.proofs.lemmas.List.{take_all}
use Rattle.core_reader.specs.LexedOf.{texts_of}
use Rattle.core_link.proofs.Interned.{NumberedIn, more_modules}
use Rattle.core_link.proofs.naming.renamings.Goals as goal

pub loop-module-preserved : goal.loop-module-preserved
loop-module-preserved c = record {
  different = c.in_ok-renaming.ensures.grows.different c.loop-module.invariant.different;
  numbered = more_modules (texts_of c.loop-module.known.keys) (texts_of c.renaming.new.known.keys)
      c.args.modules.now c.loop-module.made.items c.push.new.self.items c.loop-module.module-index
      c.module-item.result c.in_ok-renaming.field-0
      (omega arith) c.module-item.is c.in_ok-renaming.ensures.grows c.loop-module.invariant.numbered
      c.in_ok-renaming.ensures.numbered c.in_ok-push.ensures.items;
}

pub returns : goal.returns
returns c =
    subst (λ v. AllZip (NumberedIn v) c.args.modules.now c.loop-module.made.items)
    (sym c.in_ok-copied_names.ensures)
    (subst (λ ms. AllZip (NumberedIn (texts_of c.loop-module.known.keys)) ms
    c.loop-module.made.items)
    (take_all c.loop-module.module-index c.args.modules.now (omega arith))
    c.loop-module.invariant.numbered)
