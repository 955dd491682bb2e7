-- The trace of a text's image.
use Rattle.std.proofs.Common.{◌≡◌, ℕ, ◌<◌, List, [], length, take, refl, sym, ◌∙◌, subst}
use Rattle.elf32.specs.Image.{Image}
use Rattle.elf32.specs.Rules.{Loads}
use Rattle.grin_io.specs.Changes.{SinkChange}
use Rattle.grin_meaning.specs.Told.{entered_by_grin}
use Rattle.rv32_machine.specs.Steps.{start_of}
use Rattle.rv32_steps.specs.Trace.{trace, procedures_at}
use Rattle.image_trace.specs.Entries.{states, entries_at}
use Rattle.image_trace.specs.Lines.{trace_text}
use Rattle.image_trace.proofs.Entered.{entered_first}
use Rattle.grin_compile.specs.declared.image.Built.{Built}
use Rattle.text_commands.specs.declared.status.Status.{Status}
use Rattle.text_commands.proofs.Texts.{accepted_short}
use Rattle.text_commands.proofs.Written.{writes_as}
use Rattle.grin_driver.specs.Kept.{IsBuiltImage}
use Rattle.grin_driver.specs.Outcome.{IsRunRefusal}
use Rattle.grin_driver.specs.Tracing.{IsTraceText, IsTraceOutcome}
use Rattle.grin_driver.proofs.Outcomes.{not_run_long}

-- the run of such an image meets the procedures that its stage enters
pub enters_of : (text : List ℕ) (b : Built) (image : Image) (kept : IsBuiltImage text 1000000 1048576 b)
    → Loads b.image.items image → (k : ℕ)
    → let met = procedures_at kept.from.made.addresses (trace k [] (start_of image)) in
    met ≡ entered_by_grin kept.from.made.g [] (length met)
enters_of text b image kept loads k =
    let made = kept.from.made in
    subst
    (λ (program : Image). let met = procedures_at made.addresses (trace k [] (start_of program)) in
    met ≡ entered_by_grin made.g [] (length met))
    (made.image.loads.program ∙ sym loads.program) (made.image.of_stage.runs [] tt k).enters

-- so its first entries are those
pub trace_of_text : (text : List ℕ) (units : ℕ) (b : Built) (image : Image) (bytes : List ℕ)
    → IsBuiltImage text 1000000 1048576 b → Loads b.image.items image
    → bytes ≡ trace_text b.names.items
    (take units (entries_at b.starts.items (states 1000000000 [] (start_of image))))
    → IsTraceText text units bytes
trace_of_text text units b image bytes kept loads is = record {
  file = b.image.items;
  from = kept.from;
  image = image;
  loads = loads;
  entries = take units (entries_at kept.from.made.addresses
      (states 1000000000 [] (start_of image)));
  are_first = refl;
  entered = entered_first kept.from.made.addresses (entered_by_grin kept.from.made.g []) 1000000000
      units [] (start_of image) (enters_of text b image kept loads);
  is_text = is ∙ λ i. trace_text (kept.names i)
      (take units (entries_at (kept.starts i) (states 1000000000 [] (start_of image))));
}

-- a text that is too long is refused as its front is
pub traces_long : {K : Type 0} (o : SinkChange K) (front text : List ℕ) (units : ℕ)
    → 1048576 < length front → 1048576 < length text → (status : Status)
    → IsTraceOutcome o front units status → IsTraceOutcome o text units status
traces_long o front text units short long status h =
    writes_as (λ text. IsTraceText text units) IsRunRefusal o front text
    (λ bytes made. accepted_short front made.from.source made.from.program short
    made.from.accepted)
    (not_run_long front text short long) status h
