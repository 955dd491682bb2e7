use Rattle.std.proofs.Common.{map, ◌++◌, ◌∷◌, [], ◌∙◌, ap, sym}
use Rattle.seq.proofs.Lists.{map_push}
use Rattle.core_reader.specs.Grammar.{at_most_200}
use Rattle.core_reader.specs.Machine.{front}
use Rattle.core_reader.specs.Declaring.{data_decl, function_decl, top}
use Rattle.core_reader.specs.Tree as tree
use Rattle.core_reader.proofs.Taking.{fails_from}
use Rattle.core_reader.proofs.Declaring.{constructors_last, refuses, no_decl, finishes, constructors_same, functions_last, functions_same}
use Rattle.core_reader.proofs.parser.Parser.program.Goals as goal

pub loop-constructors-preserved-in_ok-push-in-Data :
    goal.loop-constructors-preserved-in_ok-push-in-Data
loop-constructors-preserved-in_ok-push-in-Data c =
    let i = c.loop-constructors.invariant.reads in
    let d = c.in_ok-constructor-in-Data.field-0 in
    record {
      reads = (
        i.0 ++ data_decl d ∷ [],
        constructors_last i.0 (tree.data_of d) ∙ ap (λ w. w ++ tree.data_of d ∷ []) i.1 ∙ sym
            (map_push tree.data_of c.loop-constructors.constructors.items d) ∙ ap (map tree.data_of)
            (sym c.in_ok-push-in-Data.ensures.items),
        functions_same i.0 (tree.data_of d) ∙ i.2,
        i.3 ∙ c.in_ok-constructor-in-Data.ensures.reads i.0,
      );
      depth = c.constructor.ensures.depth ∙ c.loop-constructors.invariant.depth;
    }

pub returns-in-End : goal.returns-in-End
returns-in-End c =
    let i = c.loop-constructors.invariant.reads in (
      i.0,
      i.1,
      i.2,
      i.3 ∙ finishes i.0 c.loop-constructors.self.rest.now c.peek-next.result
          c.peek-next.ensures c.in-End.is,
    )

pub returns-in_default : goal.returns-in_default
returns-in_default c =
    let i = c.loop-constructors.invariant.reads in
    let ts = c.loop-constructors.self.rest.now in
    fails_from c.refusal.result _ _ i.3 (refuses (top i.0) ts c.refusal.result c.refusal.ensures
    (no_decl at_most_200 i.0 (front ts).at (front ts).token
    (λ e. c.in_default.not-Data (ap (λ y. y.token) c.peek-next.ensures ∙ e))
    (λ n e. c.in_default.not-Name n (ap (λ y. y.token) c.peek-next.ensures ∙ e))
    (λ e. c.in_default.not-End (ap (λ y. y.token) c.peek-next.ensures ∙ e))))

pub loop-constructors-preserved : goal.loop-constructors-preserved
loop-constructors-preserved c =
    let i = c.loop-constructors.invariant.reads in
    let f = c.in_ok-function-in-Name.field-0 in
    record {
      reads = (
        i.0 ++ function_decl f ∷ [],
        constructors_same i.0 (tree.function f) ∙ i.1,
        functions_last i.0 (tree.function f) ∙ ap (λ w. w ++ tree.function f ∷ []) i.2 ∙ sym
            (map_push tree.function c.loop-constructors.functions.items f) ∙ ap (map tree.function)
            (sym c.in_ok-push-in-Name.ensures.items),
        i.3 ∙ c.in_ok-function-in-Name.ensures.reads i.0,
      );
      depth = c.in_ok-function-in-Name.ensures.depth;
    }
