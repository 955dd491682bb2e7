use Rattle.std.proofs.Common.{◌≡◌, List, [], length, sym, ap, ◌∙◌, subst, arith, Some}
use Rattle.std.specs.Prelude.{slice_get, false}
use Rattle.std.specs.List.{range_with_len}
use Rattle.std.proofs.lemmas.List.FromFn.{length-range_with_len}
use Rattle.seq.proofs.Lists.{get_is}
use Rattle.core_reader.specs.declared.syntax.Binder.{Binder}
use Rattle.core_reader.specs.Tree.{expr}
use Rattle.arity_check.specs.Scope.{binds_all}
use Rattle.arity_check.specs.Known.{Known, all_named}
use Rattle.arity_check.specs.Tables.{known}
use Rattle.arity_check.specs.Pieces.{names_of}
use Rattle.arity_check.specs.Faults.{binders_faults}
use Rattle.arity_check.specs.Program.{term}
use Rattle.arity_check.specs.Normal.{IsNormal}
use Rattle.arity_check.proofs.NoFaults.{no_back}
use Rattle.arity_check.proofs.Scopes.{expr_behind}
use Rattle.arity_check.proofs.Normals.{scope_by}
use Rattle.arity_check.proofs.form.function.Goals as goal

pub enter_all-requires : goal.enter_all-requires
enter_all-requires c =
    ap length c.as_slice.ensures ∙ sym c.len.ensures ∙ sym
    (ap length (c.as_slice-2.ensures ∙ c.in_ok-params.ensures.locals) ∙ length-range_with_len 0
    c.len.result)

pub body-requires : goal.body-requires
body-requires c =
    let k : Known = known c.args.globals.now in
    let params : List Binder = c.args.function.now.params in
    let size : length c.as_slice-2.result.now ≡ length params
    = ap length (c.as_slice-2.ensures ∙ c.in_ok-params.ensures.locals) ∙ length-range_with_len 0
    c.len.result ∙ c.len.ensures in
    let scope : c.enter_all.new.self.scope ≡ all_named k (names_of params) c.as_slice-2.result.now
    [] =
    c.in_ok-enter_all.ensures.scope ∙
    (λ i. all_named k (names_of (c.as_slice.ensures i)) c.as_slice-2.result.now
    ((c.in_ok-params.ensures.scope ∙ c.new.ensures) i)) in
    expr_behind k params c.as_slice-2.result.now [] c.enter_all.new.self.scope
    (expr c.args.function.now.body) size scope
    (no_back (binders_faults k (λ x. false) params) _ c.requires.body)

pub returns : goal.returns
returns c = λ p e n.
    let k : Known = known c.args.globals.now in
    let params : List Binder = c.args.function.now.params in
    let numbers : c.as_slice-2.result.now ≡ range_with_len 0 (length params)
    = c.as_slice-2.ensures ∙ c.in_ok-params.ensures.locals ∙ ap (range_with_len 0) c.len.ensures
    in
    let next : c.enter_all.new.self.next ≡ length params
    = omega (arith, c.in_ok-enter_all.ensures.next, c.in_ok-params.ensures.next, c.len.ensures)
    in
    let scope : c.enter_all.new.self.scope ≡ binds_all p (names_of params)
    (range_with_len 0 (length params)) [] =
    c.in_ok-enter_all.ensures.scope ∙
    (λ i. all_named k (names_of (c.as_slice.ensures i)) (numbers i)
    ((c.in_ok-params.ensures.scope ∙ c.new.ensures) i)) ∙ scope_by p k e params
    (range_with_len 0 (length params)) [] in
    record {
      name = ap (λ names. slice_get names c.args.function.now.name.0) n
          ∙ get_is c.args.names.now c.args.function.now.name.0 c.index-names-function.result
          c.requires.name c.index-names-function.is ∙ ap Some (sym c.in_ok-name.ensures);
      params = next;
      after = c.body.new.self.next;
      body = subst
          (λ s. IsNormal p s (length params) (expr c.args.function.now.body)
          (term c.in_ok-body.body) c.body.new.self.next) scope
          (subst (λ m. IsNormal p c.enter_all.new.self.scope m (expr c.args.function.now.body)
          (term c.in_ok-body.body) c.body.new.self.next) next (c.in_ok-body.ensures.form p e));
    }
