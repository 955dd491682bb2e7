use Rattle.std.proofs.Common.{rules, ap, ◌∙◌}
use Rattle.grin_syntax.specs.Tree.{act_of}
use Rattle.pass_cells.specs.Memory.{after_act}
use Rattle.pass_cells.specs.Entries.{memories, unshown_by_set}
use Rattle.pass_cells.proofs.Listed.{extends_more}
use Rattle.pass_cells.proofs.Rewriting.{one_more_becomes, bind_becomes, store_becomes}
use Rattle.pass_cells.proofs.blocks.Within.+tell.Goals as goal

pub block-loop-stmt-preserved : goal.block-loop-stmt-preserved
block-loop-stmt-preserved t c = record {
  so_far = one_more_becomes (unshown_by_set c.args.self.now.shown.now.keys) _ _ _ _ _ _ _
      c.loop-stmt.invariant.so_far c.in_ok-stmt.ensures.is;
  more = extends_more _ _ _ c.loop-stmt.invariant.more c.in_ok-stmt.ensures.more;
}

pub stmt-returns-in_ok-push-in-Store-clause-is : goal.stmt-returns-in_ok-push-in-Store-clause-is
stmt-returns-in_ok-push-in-Store-clause-is t c =
    λ b. store_becomes (unshown_by_set c.args.self.now.shown.now.keys) (memories c.args.entries.now)
    (memories c.store.new.entries) c.args.made.now _ c.args.stmt c.in-Store.cells b
    c.in-Store.is (search rules) c.in_ok-push-in-Store.ensures.ok

pub stmt-returns-in_ok-push-in-Bind-clause-is : goal.stmt-returns-in_ok-push-in-Bind-clause-is
stmt-returns-in_ok-push-in-Bind-clause-is t c =
    λ b. bind_becomes (unshown_by_set c.args.self.now.shown.now.keys) (memories c.args.entries.now)
    (memories c.put_after.new.entries) c.args.made.now _ c.args.stmt c.in-Bind.target
    c.in_ok-told-in-Bind.told c.in-Bind.op b c.in-Bind.is
    c.in_ok-told-in-Bind.ensures.is
    (c.in_ok-put_after-in-Bind.ensures.is ∙ ap
    (λ es. after_act (act_of c.in_ok-told-in-Bind.told) (memories es))
    c.in_ok-told-in-Bind.ensures.same) c.in_ok-push-in-Bind.ensures.ok
