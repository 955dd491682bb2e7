use Rattle.std.proofs.Common.{List, ℕ}
use mathlib.Core.Logic.{inr}
use Rattle.text_commands.specs.Over.{shelf_over, sink_over}
use Rattle.command_line.specs.Commands.{names_of}
use Rattle.text_commands.specs.Linking.{IsLinkOutcome}
use Rattle.text_commands.proofs.InTurn.{of_files}
use Rattle.text_commands.proofs.Linked.{links_long}
use Rattle.text_commands.proofs.operands.link_files.Goals as goal

pub returns-in-Ok-clause-answer : goal.returns-in-Ok-clause-answer
returns-in-Ok-clause-answer g c =
    let o = sink_over g.K.Sink c.args.out.now
    c.link_texts.new.out in
    let says = λ (texts : List (List ℕ)). IsLinkOutcome o texts c.link_texts.result in
    inr (of_files
    (shelf_over g.F.Shelf c.args.shelf.now c.read_files.new.shelf)
    1048577 (names_of c.args.files.now) c.in-Ok.texts says
    (λ texts fronts h. links_long o c.in-Ok.texts texts fronts c.link_texts.result h)
    c.in-Ok.ensures.read c.link_texts.ensures.links)
