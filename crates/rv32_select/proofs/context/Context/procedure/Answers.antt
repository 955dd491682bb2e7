use Rattle.std.proofs.Common.{arith, rules, refl}
use Rattle.rv32_select.proofs.ResultSpots.{placed_at, result_targets}
use Rattle.rv32_select.proofs.Entered.{params_are, few_spots, procedure_made, full_label}
use Rattle.rv32_select.proofs.context.Context.procedure.Goals as goal

pub slots-requires-clause-placed : goal.slots-requires-clause-placed
slots-requires-clause-placed c =
    (placed_at c.args.self.now.low.now c.args.self.now.places.now _ _ _ c.args.self.now.writable.0
    c.requires.proc c.as_slice.ensures c.index-as_slice-proc.is).bound

pub slots-requires-clause-few : goal.slots-requires-clause-few
slots-requires-clause-few c = let h =
    (placed_at c.args.self.now.low.now c.args.self.now.places.now _ _ _ c.args.self.now.writable.0
    c.requires.proc c.as_slice.ensures c.index-as_slice-proc.is).slots in omega (arith, h)

pub spots-requires : goal.spots-requires
spots-requires c = rw c.as_slice-2.ensures
    ((placed_at c.args.self.now.low.now c.args.self.now.places.now _ _ _ c.args.self.now.writable.0
    c.requires.proc c.as_slice.ensures c.index-as_slice-proc.is).params)

pub enter-requires : goal.enter-requires
enter-requires c =
    let w = c.args.self.now.writable.0.words c.args.proc in
    let placed = placed_at c.args.self.now.low.now c.args.self.now.places.now _ _ _
    c.args.self.now.writable.0 c.requires.proc c.as_slice.ensures c.index-as_slice-proc.is in (
      omega (arith, w, c.frame_words-words.ensures),
      few_spots c.args.self.now.low.now c.args.self.now.places.now c.index-as_slice-proc.result _
          _ _ placed c.as_slice-2.ensures c.as_slice-3.ensures.value c.in_ok-params.ensures,
    )

pub result_spots-requires : goal.result_spots-requires
result_spots-requires c =
    (placed_at c.args.self.now.low.now c.args.self.now.places.now _ _ _ c.args.self.now.writable.0
    c.requires.proc c.as_slice.ensures c.index-as_slice-proc.is).few_results

pub invariant_of-frame : goal.invariant_of-frame
invariant_of-frame c =
    let w = c.args.self.now.writable.0.words c.args.proc in
    let h = (placed_at c.args.self.now.low.now c.args.self.now.places.now _ _ _
    c.args.self.now.writable.0 c.requires.proc c.as_slice.ensures c.index-as_slice-proc.is).slots in
    let e = c.in_ok-saved.ensures in
    record { fits = (omega (arith, w, c.frame_words-words.ensures), omega (arith, h, e)) }

pub invariant_of-to : goal.invariant_of-to
invariant_of-to c =
    let few =
    (placed_at c.args.self.now.low.now c.args.self.now.places.now _ _ _ c.args.self.now.writable.0
    c.requires.proc c.as_slice.ensures c.index-as_slice-proc.is).few_results in
    record {
      targets = result_targets _ _ _ few c.as_slice-4.ensures.value
          c.in_ok-results.ensures;
    }

pub returns : goal.returns
returns c =
    procedure_made c.args.self.now.low.now c.args.self.now.places.now c.args.self.now.cells
    c.args.self.now.stack _ c.args.proc c.index-as_slice-proc.result _ _ _ _ _ _ _ _ _ _ _ _ _
    c.requires.proc c.as_slice.ensures c.index-as_slice-proc.is c.frame_words-words.ensures
    c.in_ok-saved.ensures
    (params_are c.args.self.now.places.now c.index-as_slice-proc.result _ _ _
    c.as_slice-2.ensures c.as_slice-3.ensures.value c.in_ok-params.ensures)
    (full_label c.args.self.now.low.now _ c.len.ensures) refl c.requires.lasting
    c.in_ok-enter.ensures (search rules) c.in_ok-block.ensures
