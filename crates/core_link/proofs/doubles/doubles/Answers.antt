use Rattle.std.proofs.Common.{◌≡◌, ℕ, List, Option, None, map, sym, ap, subst, ◌∙◌}
use Rattle.core_reader.specs.Tree.{Data, Function, Program, data_of, function, program}
use Rattle.arity_check.specs.Known.{Known}
use Rattle.arity_check.specs.Tables.{known, first_of}
use Rattle.core_link.specs.Bound.{is_redeclaration, numbered}
use Rattle.core_link.specs.Found.{IsFirstPlaceWhere, earliest}
use Rattle.core_link.proofs.Listed.{doubles_first}
use Rattle.core_link.proofs.Owned.{Doubled}
use Rattle.core_link.proofs.doubles.doubles.Goals as goal

pub returns : goal.returns
returns c =
    let p : Program = program c.args.core.now in
    let k : Known = known c.args.globals.now in
    let cons : Known → List Data → Option ℕ = λ k ds. earliest
    (λ (q : ℕ × Data). is_redeclaration (k.number q.1.name) q.0) (λ (q : ℕ × Data). q.1.at) None
    (numbered 0 ds) in
    let both : Known → Option ℕ → List Function → Option ℕ
    = λ k o fs. earliest
    (λ (q : ℕ × Function). is_redeclaration (first_of (k.function q.1.name)) q.0)
    (λ (q : ℕ × Function). q.1.at) o (numbered 0 fs) in
    let first : c.constructor_again-constructor.result ≡ cons k p.constructors
    = c.constructor_again-constructor.ensures ∙ ap (λ ds. cons k (map data_of ds))
    c.as_slice.ensures in
    let all : c.function_again.result ≡ both k (cons k p.constructors) p.functions
    = c.function_again.ensures ∙ (λ i. both k (first i) (map function (c.as_slice-2.ensures i)))
    in
    subst (IsFirstPlaceWhere (Doubled p))
    (ap (λ k. both k (cons k p.constructors) p.functions) (sym c.requires) ∙ sym all)
    (doubles_first p)
