use Rattle.std.proofs.Common.{◌≡◌, ℕ, sym, subst, ◌∙◌, Option, Some, None}
use Rattle.std.specs.Prelude.{MatchOption}
use Rattle.seq.proofs.Lists.{some_is}
use Rattle.unification.specs.Solutions.{IsFirstUnsolved, Solves, Substitution}
use Rattle.core_types.specs.declared.mismatch.Unsolved.{Unsolved}
use Rattle.core_types.specs.Source.{Source}
use Rattle.core_types.specs.SourceOf.{source_of}
use Rattle.core_types.specs.Typing.{constraints}
use Rattle.core_types.specs.Building.{IsFirstIn, equations_of}
use Rattle.core_types.proofs.mismatch.first_mismatch.Goals as goal

pub returns-in_default : goal.returns-in_default
returns-in_default c =
    let s : Source = source_of c.args.source.now in
    let u : Unsolved = c.in_ok-unsolved.unsolved in
    subst (IsFirstIn u.builder (constraints s)) c.in_default.is c.in_ok-unsolved.ensures.first

pub unreachable-requires : goal.unreachable-requires
unreachable-requires c =
    let s : Source = source_of c.args.source.now in
    let u : Unsolved = c.in_ok-unsolved.unsolved in
    let r : IsFirstIn u.builder (constraints s) (Some c.in-Some.number)
    = subst (IsFirstIn u.builder (constraints s)) c.in-Some.is c.in_ok-unsolved.ensures.first in
    let none : Some r.0.at ≡ None = sym r.2 ∙ sym c.place_of.ensures ∙ c.in_default-place_of.is in
    absurd cc

pub returns : goal.returns
returns c =
    let s : Source = source_of c.args.source.now in
    let u : Unsolved = c.in_ok-unsolved.unsolved in
    let h = c.in_ok-unsolved.ensures in
    let i : ℕ = c.in-Some.number in
    let r : IsFirstIn u.builder (constraints s) (Some i)
    = subst (IsFirstIn u.builder (constraints s)) c.in-Some.is h.first in
    let e : IsFirstUnsolved (equations_of u.builder) i =
    subst (λ (o : Option ℕ). MatchOption o ((σ : Substitution) × Solves σ (equations_of u.builder))
    (IsFirstUnsolved (equations_of u.builder))) c.in-Some.is h.terms in
    record {
      sound = h.sound;
      stands = h.stands;
      constraint = r.0;
      first = r.1;
      place = some_is (sym r.2 ∙ sym c.place_of.ensures ∙ c.in-Some-place_of.is);
      before = e.before;
      solves = e.solves;
    }
