use Rattle.std.proofs.Common.{◌≡◌, ℕ, Option, None, sym, ap, subst, ◌∙◌}
use Rattle.std.specs.Prelude.{not}
use Rattle.arity_check.specs.Known.{Known}
use Rattle.arity_check.specs.Tables.{known}
use Rattle.arity_check.specs.Whole.{known_of}
use Rattle.core_link.specs.Module.{Module, body}
use Rattle.core_link.specs.ModuleOf.{module_of}
use Rattle.core_link.specs.Rules.{BreaksOwnRule}
use Rattle.core_link.specs.Found.{IsFirstPlaceWhere, NamesFirstBrokenRule, sooner, earliest, binder_place, is_declared}
use Rattle.core_link.proofs.Owned.{own_first, exports_first, UnknownExport}
use Rattle.core_link.proofs.rules.own.Goals as goal

pub returns : goal.returns
returns c =
    let m : Module = module_of c.args.module.now in
    let e : Option ℕ = c.unknown_export-export.result in
    let k : known c.args.globals.now ≡ known_of (body m) = c.requires in
    let exports : earliest (λ b. not (is_declared (known_of (body m)) b.name.0)) binder_place None
    m.exports ≡ e =
    ap (λ (w : Known). earliest (λ b. not (is_declared w b.name.0)) binder_place None m.exports)
    (sym k)
    ∙ ap (earliest (λ b. not (is_declared (known c.args.globals.now) b.name.0)) binder_place None)
    (sym c.as_slice.ensures) ∙ sym c.unknown_export-export.ensures in
    let all : c.sooner-3.result ≡ sooner (sooner (sooner None 22 c.reserved-reserved.result) 55 e)
    58 c.doubles-double.result =
    c.sooner-3.ensures ∙ ap (λ w. sooner w 58 c.doubles-double.result)
    (c.sooner-2.ensures ∙ ap (λ w. sooner w 55 e) c.sooner.ensures) in
    subst (NamesFirstBrokenRule (BreaksOwnRule m)) (sym all)
    (own_first m c.reserved-reserved.result e c.doubles-double.result
    c.reserved-reserved.ensures
    (subst (IsFirstPlaceWhere (UnknownExport m)) exports (exports_first m))
    c.doubles-double.ensures)
