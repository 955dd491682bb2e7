use Rattle.std.proofs.Common.{sym, subst}
use Rattle.std.specs.Prelude.{All}
use Rattle.std.proofs.lemmas.List.Elements.{All-push}
use Rattle.core_link.specs.Renaming.{AreNameTexts}
use Rattle.core_link.proofs.Interned.{more_parts}
use Rattle.core_link.proofs.join.all_named.Goals as goal

pub loop-module-preserved : goal.loop-module-preserved
loop-module-preserved c = record {
  modules = more_parts c.loop-module.all.items c.push.new.self.items c.in_ok-with_name_texts.field-0
      c.loop-module.yielded _ c.in_ok-push.ensures.items c.loop-module.invariant.modules
      c.in_ok-with_name_texts.ensures.part;
  texts = subst (All AreNameTexts) (sym c.in_ok-push.ensures.items)
      (All-push AreNameTexts c.loop-module.all.items c.in_ok-with_name_texts.field-0
      c.loop-module.invariant.texts c.in_ok-with_name_texts.ensures.texts);
}
