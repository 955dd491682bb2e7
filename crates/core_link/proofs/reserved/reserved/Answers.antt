use Rattle.std.proofs.Common.{◌≡◌, ℕ, List, Option, None, map, sym, ap, subst, ◌∙◌}
use Rattle.core_reader.specs.Tree.{Data, Function, Program, data_of, function, program}
use Rattle.arity_check.specs.Broken.{Broken}
use Rattle.arity_check.specs.Known.{Known, is_reserved}
use Rattle.arity_check.specs.Tables.{known}
use Rattle.arity_check.specs.Whole.{int_kind}
use Rattle.core_reader.specs.declared.syntax.Binder.{Binder}
use Rattle.core_link.specs.Bound.{bound_in_functions}
use Rattle.core_link.specs.Found.{IsFirstPlaceWhere, earliest, binder_place}
use Rattle.core_link.proofs.Listed.{reserved_first}
use Rattle.core_link.proofs.reserved.reserved.Goals as goal

pub returns : goal.returns
returns c =
    let p : Program = program c.args.core.now in
    let k : Known = known c.args.globals.now in
    let cons : Known → List Data → Option ℕ = λ k ds. earliest
    (λ (d : Data). int_kind (k.kind d.name)) (λ (d : Data). d.at) None ds in
    let both : Known → Option ℕ → List Function → Option ℕ
    = λ k o fs. earliest (λ (b : Binder). is_reserved k b.name.0) binder_place o
    (bound_in_functions fs) in
    let first : c.in_constructors-constructor.result ≡ cons k p.constructors
    = c.in_constructors-constructor.ensures ∙ ap (λ ds. cons k (map data_of ds))
    c.as_slice.ensures in
    let all : c.in_functions.result ≡ both k (cons k p.constructors) p.functions
    = c.in_functions.ensures ∙ (λ i. both k (first i) (map function (c.as_slice-2.ensures i)))
    in
    subst (IsFirstPlaceWhere (Broken p 22))
    (ap (λ k. both k (cons k p.constructors) p.functions) (sym c.requires) ∙ sym all)
    (reserved_first p)
