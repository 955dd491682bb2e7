use Rattle.std.proofs.Common.{◌≡◌, List, map, length, refl, sym, ap, ◌∙◌, subst}
use Rattle.std.proofs.lemmas.List.{length-map}
use Rattle.std.proofs.lemmas.List.FromFn.{length-range_with_len}
use Rattle.core_reader.specs.Tree as tree
use Rattle.core_reader.specs.Tree.{bind}
use Rattle.arity_check.specs.Known.{Known, all_named}
use Rattle.arity_check.specs.Tables.{known}
use Rattle.arity_check.specs.Pieces.{names_of, binders_of}
use Rattle.arity_check.specs.Normal.{IsGroup}
use Rattle.arity_check.proofs.Scopes.{leaves_named, members_behind}
use Rattle.arity_check.proofs.form.Locals.group_locals.Goals as goal

pub enter_all-requires : goal.enter_all-requires
enter_all-requires c = sym
    (ap length (c.as_slice.ensures ∙ c.in_ok-provisional.ensures) ∙ length-range_with_len
    c.args.self.now.next (length c.args.binders.now))

pub members-requires : goal.members-requires
members-requires c =
    let k : Known = known c.args.globals.now in
    let group : List tree.Bind = map bind c.args.group.now in
    let size : length c.as_slice.result.now ≡ length (binders_of group)
    = ap length (c.as_slice.ensures ∙ c.in_ok-provisional.ensures) ∙ length-range_with_len
    c.args.self.now.next (length c.args.binders.now) ∙ ap length c.requires.binders in
    members_behind k (binders_of group) c.as_slice.result.now c.args.self.now.scope
    c.enter_all.new.self.scope group size
    (c.in_ok-enter_all.ensures.scope ∙ ap
    (λ xs. all_named k (names_of xs) c.as_slice.result.now c.args.self.now.scope)
    c.requires.binders) c.requires.members

pub returns-clause-scope : goal.returns-clause-scope
returns-clause-scope c =
    leaves_named (known c.args.globals.now) (names_of c.args.binders.now) c.as_slice.result.now
    c.args.self.now.scope c.enter_all.new.self.scope c.enter_all.new.self.scope c.leave.new.self
    c.len-depth.result
    c.len-depth.ensures c.in_ok-enter_all.ensures.scope refl c.leave.ensures

pub returns-clause-locals : goal.returns-clause-locals
returns-clause-locals c =
    let k : Known = known c.args.globals.now in
    let group : List tree.Bind = map bind c.args.group.now in
    let scope : c.enter_all.new.self.scope ≡ all_named k (names_of (binders_of group))
    c.as_slice.result.now c.args.self.now.scope =
    c.in_ok-enter_all.ensures.scope ∙ ap
    (λ xs. all_named k (names_of xs) c.as_slice.result.now c.args.self.now.scope)
    c.requires.binders in
    record {
      others = c.as_slice.result.now;
      count = ap length (c.as_slice.ensures ∙ c.in_ok-provisional.ensures) ∙ length-range_with_len
          c.args.self.now.next (length c.args.binders.now) ∙ ap length c.requires.binders ∙
          length-map group (λ (b : tree.Bind). b.binder);
      size = c.in_ok-locals.ensures.count ∙ sym (length-map c.args.group.now bind);
      is = λ p e.
          let f = c.in_ok-locals.ensures.adds p e in (
            f.added,
            subst (λ s. IsGroup p s c.args.self.now.next group f.added c.in_ok-locals.locals) scope
                (subst (λ n. IsGroup p c.enter_all.new.self.scope n group f.added
                c.in_ok-locals.locals)
                (c.new-builder.ensures.next ∙ c.in_ok-enter_all.ensures.next) f.is),
          );
    }
