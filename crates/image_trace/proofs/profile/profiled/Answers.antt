use Rattle.std.proofs.Common.{[], length, ap, ◌∙◌, arith}
use Rattle.rv32_machine.specs.Steps.{start_of}
use Rattle.rv32_steps.specs.Trace.{trace}
use Rattle.image_trace.specs.Places.{times_noted}
use Rattle.image_trace.proofs.Counted.{few_places, times_few, counts_length, text_is}
use Rattle.image_trace.proofs.profile.profiled.Goals as goal

pub counts-requires-clause-few : goal.counts-requires-clause-few
counts-requires-clause-few c a =
    let way = trace 1000000000 [] (start_of c.args.program.now) in
    let is = c.in_ok-places.ensures.noted a in
    let few = times_few a way in
    let steps = few_places 1000000000 [] (start_of c.args.program.now) in
    omega (arith, is, few, steps)

pub put_counts-requires : goal.put_counts-requires
put_counts-requires c =
    ap length (c.as_slice-counts.ensures.value ∙ c.in_ok-counts.ensures)
    ∙ counts_length (times_noted c.in_ok-places.places) c.args.begins.now c.args.words.now
    c.requires.one_each ∙ c.requires.named

pub returns : goal.returns
returns c =
    let noted = times_noted c.in_ok-places.places in
    let counts = c.in_ok-counts.counts.items in
    rw (
      c.into_vec.ensures,
      c.in_ok-put_counts.ensures,
      c.in_ok-put_start.ensures,
      c.outside.ensures,
      c.as_slice-counts.ensures.value,
      c.new-text.ensures,
    )
    (text_is c.args.names.now c.args.begins.now c.args.words.now
    (trace 1000000000 [] (start_of c.args.program.now)) noted c.in_ok-places.places.all counts
    c.in_ok-places.ensures.noted c.in_ok-places.ensures.all c.in_ok-counts.ensures)
