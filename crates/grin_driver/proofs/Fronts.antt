-- What a sink took and a source gave, beside the run of the machine that asked for it.
use Rattle.std.proofs.Common.{◌≡◌, ℕ, ◌+◌, ◌-◌, List, ◌∷◌, ◌++◌, length, take, drop, Some, sym, ap, ◌∙◌, subst, arith, append_assoc}
use Rattle.std.specs.List.{concat}
use Rattle.std.proofs.lemmas.List.{length-append, take-append-drop}
use Rattle.std.proofs.lemmas.List.Folds.{concat-append}
use Rattle.grin_io.specs.Changes.{SourceChange, SinkChange, TookExactly, SinkAtFault}
use Rattle.grin_io.specs.declared.outside.Fault.{Fault}
use Rattle.grin_io.specs.declared.outside.Fault.TheVariants.{Read, Write}
use Rattle.headline.specs.Carries.{IsPrefixOf}
use Rattle.rv32_machine.specs.Steps.{State}
use Rattle.rv32_machine.specs.Runs.{run, pieces, used}
use Rattle.rv32_machine.proofs.Loops.{pieces_are_the_output}
use Rattle.grin_driver.specs.Outcome.{Took}
use Rattle.low_code.proofs.Steady.{begins_on}

-- ---- fronts

front_begins : (front rest due : List (List ℕ)) → front ++ rest ≡ due
    → IsPrefixOf (concat front) (concat due)
front_begins front rest due is = (concat rest, ap concat (sym is) ∙ concat-append front rest)

part_begins : (front : List (List ℕ)) (piece : List ℕ) (rest due : List (List ℕ)) (k : ℕ) → front
    ++ (piece ∷ rest) ≡ due → IsPrefixOf (concat front ++ take k piece) (concat due)
part_begins front piece rest due k is = (
  drop k piece ++ concat rest,
  ap concat (sym is) ∙ concat-append front (piece ∷ rest) ∙ ap (λ l. concat front ++ l) piece_is
      ∙ sym (append_assoc (concat front) (take k piece) (drop k piece ++ concat rest)),
)
  where
    piece_is : piece ++ concat rest ≡ take k piece ++ (drop k piece ++ concat rest)
    piece_is = ap (λ l. l ++ concat rest) (sym (take-append-drop k piece)) ∙ append_assoc
        (take k piece) (drop k piece) (concat rest)

-- ---- what was taken and given

module _ {I K : Type 0} (i : SourceChange I) (o : SinkChange K) (n : ℕ) (input : List ℕ) (s : State)
  where
    -- all that a run puts was taken
    pub took_output : (Holds : List ℕ → Type 0) → TookExactly o (pieces n input s)
        → Holds (run n input s).out → Took i o Holds
    took_output Holds took holds = λ before is. (
      (run n input s).out,
      took.content before is ∙ ap (λ l. Some (before ++ l)) (pieces_are_the_output n input s),
      holds,
    )

    -- as many bytes as a run uses were given
    pub gave_used : (given : List ℕ) (Holds : ℕ → Type 0) → input ≡ given ++ (run n input s).left
        → Holds (used input (run n input s)) → Holds (length given)
    gave_used given Holds parts holds =
        let count : length input ≡ length given + length (run n input s).left
        = ap length parts ∙ length-append given (run n input s).left in
        let used_is : length input - length (run n input s).left ≡ length given
        = omega (arith, count)
        in
        subst Holds used_is holds

    -- what was put before a fault begins what the run puts
    pub took_front : (fault : Fault) (out : List ℕ) → SinkAtFault fault o (pieces n input s)
        → IsPrefixOf (run n input s).out out → Took i o (λ taken. IsPrefixOf taken out)
    took_front Read out broke begins = λ before is. (
      concat broke.front,
      broke.took.content before is,
      begins_on (concat broke.front) (run n input s).out out
          (subst (λ l. IsPrefixOf (concat broke.front) l) (pieces_are_the_output n input s)
          (front_begins broke.front broke.rest (pieces n input s) broke.due_is)) begins,
    )
    took_front Write out broke begins = λ before is.
        let part = broke.part before is in (
          concat broke.front ++ take part.0 broke.piece,
          part.1,
          begins_on (concat broke.front ++ take part.0 broke.piece) (run n input s).out out
              (subst (λ l. IsPrefixOf (concat broke.front ++ take part.0 broke.piece) l)
              (pieces_are_the_output n input s)
              (part_begins broke.front broke.piece broke.rest (pieces n input s) part.0
              broke.due_is))
              begins,
        )
