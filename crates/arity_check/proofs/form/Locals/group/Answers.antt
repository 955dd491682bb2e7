use Rattle.std.proofs.Common.{◌≡◌, List, map, length, sym, ap, ◌∙◌}
use Rattle.std.proofs.lemmas.List.{length-map}
use Rattle.core_reader.specs.Tree as tree
use Rattle.core_reader.specs.Tree.{bind}
use Rattle.arity_check.specs.Known.{Known, all_named}
use Rattle.arity_check.specs.Tables.{known}
use Rattle.arity_check.specs.Pieces.{names_of, binders_of}
use Rattle.arity_check.proofs.Scopes.{members_behind}
use Rattle.arity_check.proofs.Normals.{group_is, group_next}
use Rattle.arity_check.proofs.form.Locals.group.Goals as goal

pub members-requires : goal.members-requires
members-requires c =
    let k : Known = known c.args.globals.now in
    let group : List tree.Bind = map bind c.args.group.now in
    let found = c.in_ok-locals.ensures.locals in
    let size : length c.as_slice-3.result.now ≡ length (binders_of group)
    = ap length c.as_slice-3.ensures ∙ found.size ∙ sym
    (length-map group (λ (b : tree.Bind). b.binder)) in
    members_behind k (binders_of group) c.as_slice-3.result.now c.args.self.now.scope
    c.enter_all.new.self.scope group size
    (c.in_ok-enter_all.ensures.scope ∙
    (λ i. all_named k (names_of ((c.as_slice-2.ensures ∙ c.in_ok-binders.ensures) i))
    c.as_slice-3.result.now (c.in_ok-locals.ensures.scope i))) c.requires

pub returns : goal.returns
returns c =
    let k : Known = known c.args.globals.now in
    let group : List tree.Bind = map bind c.args.group.now in
    let found = c.in_ok-locals.ensures.locals in
    let scope : c.enter_all.new.self.scope ≡ all_named k (names_of (binders_of group))
    c.in_ok-locals.locals c.args.self.now.scope =
    c.in_ok-enter_all.ensures.scope ∙
    (λ i. all_named k (names_of ((c.as_slice-2.ensures ∙ c.in_ok-binders.ensures) i))
    (c.as_slice-3.ensures i) (c.in_ok-locals.ensures.scope i)) in
    let next : c.enter_all.new.self.next ≡ c.args.self.now.next
    = c.in_ok-enter_all.ensures.next ∙ c.in_ok-locals.ensures.next in
    record {
      locals = c.in_ok-locals.locals;
      size = found.size;
      scope = scope;
      next = λ p e. group_next p k e group c.args.self.now c.enter_all.new.self c.new-builder.result
          c.members.new.self c.in_ok-members.field-0 next c.new-builder.ensures.news
          c.new-builder.ensures.next (c.in_ok-members.ensures.adds p e);
      is = λ p e.
          group_is p k e group c.args.self.now c.enter_all.new.self c.new-builder.result
          c.members.new.self c.in_ok-locals.locals c.in_ok-members.field-0 found scope next
          c.new-builder.ensures.news c.new-builder.ensures.next
          (c.in_ok-members.ensures.adds p e);
    }
