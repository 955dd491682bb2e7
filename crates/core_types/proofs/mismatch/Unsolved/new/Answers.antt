use Rattle.std.proofs.Common.{◌≡◌, ℕ, List, length, sym, subst, Option}
use Rattle.std.specs.Prelude.{MatchOption}
use Rattle.unification.specs.declared.term.Term.{Term}
use Rattle.unification.specs.Terms.{AreEarlier, PairsAreBelow, equations}
use Rattle.unification.specs.Solutions.{Solves, Substitution, IsFirstUnsolved}
use Rattle.core_types.specs.declared.building.ConstraintBuilder.{ConstraintBuilder}
use Rattle.core_types.specs.Source.{Source}
use Rattle.core_types.specs.SourceOf.{source_of}
use Rattle.core_types.specs.Typing.{constraints}
use Rattle.core_types.proofs.Unsolved.{pairs_earlier, pairs_below, first_in}
use Rattle.core_types.proofs.mismatch.Unsolved.new.Goals as goal

-- what unification answers for terms and pairs
abbrev IsAnswer : List Term → List (ℕ × ℕ) → Option ℕ → Type 0
IsAnswer ts ps o = MatchOption o ((σ : Substitution) × Solves σ (equations ts ps))
    (IsFirstUnsolved (equations ts ps))

answered : (ts ts' : List Term) (ps ps' : List (ℕ × ℕ)) (o : Option ℕ) → ts ≡ ts' → ps ≡ ps'
    → IsAnswer ts ps o → IsAnswer ts' ps' o
answered ts ts' ps ps' o e f h = subst (λ ts. IsAnswer ts ps' o) e
    (subst (λ ps. IsAnswer ts ps o) f h)

pub first_unsolved-requires-clause-earlier : goal.first_unsolved-requires-clause-earlier
first_unsolved-requires-clause-earlier c =
    let s : Source = source_of c.args.source.now in
    let b : ConstraintBuilder = c.in_ok-builder.builder in
    let h = c.in_ok-builder.ensures s c.in_ok-context.ensures in
    subst AreEarlier (sym c.as_slice.ensures.value) (pairs_earlier b h.0)

pub first_unsolved-requires-clause-below : goal.first_unsolved-requires-clause-below
first_unsolved-requires-clause-below c =
    let s : Source = source_of c.args.source.now in
    let b : ConstraintBuilder = c.in_ok-builder.builder in
    let h = c.in_ok-builder.ensures s c.in_ok-context.ensures in
    subst (λ (ts : List Term). PairsAreBelow (length ts) c.as_slice-pairs.result.now)
    (sym c.as_slice.ensures.value)
    (subst (PairsAreBelow (length b.nodes.terms.items)) (sym c.as_slice-pairs.ensures.value)
    (pairs_below b (constraints s) h.1))

pub returns : goal.returns
returns c =
    let s : Source = source_of c.args.source.now in
    let b : ConstraintBuilder = c.in_ok-builder.builder in
    let h = c.in_ok-builder.ensures s c.in_ok-context.ensures in
    let u = answered c.as_slice.result.now b.nodes.terms.items c.as_slice-pairs.result.now
    b.pairs.items c.in_ok-number.number c.as_slice.ensures.value c.as_slice-pairs.ensures.value
    c.in_ok-number.ensures in
    record {
      sound = h.0;
      stands = h.1;
      first = first_in b (constraints s) h.0 h.1
          c.in_ok-number.number u;
      terms = u;
    }
