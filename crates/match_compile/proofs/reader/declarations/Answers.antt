use Rattle.std.proofs.Common.{map, ◌++◌, ◌∷◌, [], ◌∙◌, ap, sym}
use Rattle.seq.proofs.Lists.{map_push}
use Rattle.core_reader.specs.Machine.{front}
use Rattle.core_reader.specs.Tree.{data_of}
use Rattle.match_compile.specs.SourceOf.{equation_of}
use Rattle.match_compile.specs.Reading.{data_decl, equation_decl, top}
use Rattle.match_compile.proofs.Taken.{constructors_last, refuses, no_decl, finishes, constructors_same, equations_last, equations_same, fails_from}
use Rattle.match_compile.proofs.reader.declarations.Goals as goal

pub loop-constructors-preserved-in_ok-push-in-Data :
    goal.loop-constructors-preserved-in_ok-push-in-Data
loop-constructors-preserved-in_ok-push-in-Data c =
    let i = c.loop-constructors.invariant.reads in
    let d = c.in_ok-constructor-in-Data.field-0 in
    record {
      reads = (
        i.0 ++ data_decl d ∷ [],
        constructors_last i.0 (data_of d) ∙ ap (λ w. w ++ data_of d ∷ []) i.1 ∙ sym
            (map_push data_of c.loop-constructors.constructors.items d) ∙ ap (map data_of)
            (sym c.in_ok-push-in-Data.ensures.items),
        equations_same i.0 (data_of d) ∙ i.2,
        i.3 ∙ c.in_ok-constructor-in-Data.ensures.reads i.0,
      );
      depth = c.constructor.ensures.depth ∙ c.loop-constructors.invariant.depth;
    }

pub returns-in-End : goal.returns-in-End
returns-in-End c =
    let i = c.loop-constructors.invariant.reads in (
      i.0,
      i.1,
      i.2,
      i.3 ∙ finishes i.0 c.loop-constructors.parser.rest.now c.peek-next.result
          c.peek-next.ensures c.in-End.is,
    )

pub returns-in_default : goal.returns-in_default
returns-in_default c =
    let i = c.loop-constructors.invariant.reads in
    let ts = c.loop-constructors.parser.rest.now in
    fails_from c.refusal.result _ _ i.3 (refuses (top i.0) ts c.refusal.result c.refusal.ensures
    (no_decl i.0 (front ts).at (front ts).token
    (λ e. c.in_default.not-Data (ap (λ y. y.token) c.peek-next.ensures ∙ e))
    (λ n e. c.in_default.not-Name n (ap (λ y. y.token) c.peek-next.ensures ∙ e))
    (λ e. c.in_default.not-End (ap (λ y. y.token) c.peek-next.ensures ∙ e))))

pub loop-constructors-preserved : goal.loop-constructors-preserved
loop-constructors-preserved c =
    let i = c.loop-constructors.invariant.reads in
    let f = c.in_ok-equation-in-Name.field-0 in
    record {
      reads = (
        i.0 ++ equation_decl f ∷ [],
        constructors_same i.0 (equation_of f) ∙ i.1,
        equations_last i.0 (equation_of f) ∙ ap (λ w. w ++ equation_of f ∷ []) i.2 ∙ sym
            (map_push equation_of c.loop-constructors.equations.items f) ∙ ap (map equation_of)
            (sym c.in_ok-push-in-Name.ensures.items),
        i.3 ∙ c.in_ok-equation-in-Name.ensures.reads i.0,
      );
      depth = c.in_ok-equation-in-Name.ensures.depth;
    }
