-- The code of a text's image, and its listing.
use Rattle.std.proofs.Common.{◌≡◌, ℕ, ◌<◌, ◌≤◌, ◌+◌, ◌*◌, List, length, sym, ap, ◌∙◌, subst, arith}
use Rattle.std.proofs.lemmas.List.{length-map}
use Rattle.core_reader.specs.Tree as tree
use Rattle.arity_check.specs.Program.{Program}
use Rattle.grin_stages.specs.Stage.{Fits}
use Rattle.rv32_layout.specs.Places.{AllDecode}
use Rattle.grin_io.specs.Changes.{SinkChange}
use Rattle.grin_meaning.specs.Ready.{most_fields}
use Rattle.grin_compile.specs.declared.image.Built.{Built}
use Rattle.grin_compile.specs.Built.{IsBuilt}
use Rattle.grin_compile.specs.Limits.{whole_words}
use Rattle.text_commands.specs.declared.status.Status.{Status}
use Rattle.text_commands.specs.Text.{IsAccepted}
use Rattle.grin_driver.specs.CodeListing.{code_listing, IsCodeOf, IsCodeListing, IsCodeListOutcome}
use Rattle.grin_driver.specs.Building.{IsBuildOutcome}
use Rattle.grin_driver.specs.Needs.{needs_text, IsNeedsText, IsNeedsOutcome}
use Rattle.grin_driver.specs.Kept.{IsBuiltImage}
use Rattle.grin_driver.specs.Outcome.{IsImageOf, IsRunRefusal}
use Rattle.text_commands.proofs.Texts.{accepted_short}
use Rattle.text_commands.proofs.Written.{writes_as}
use Rattle.grin_driver.proofs.Outcomes.{not_run_long}

-- the text whose program this is an image of
pub image_of : (text : List ℕ) (cells stack : ℕ) (source : tree.Program) (p : Program)
    → IsAccepted text source p → Fits p
    → (b : Built) → IsBuilt p cells (whole_words stack) b → IsImageOf text cells stack b.image.items
image_of text cells stack source p accepted fits b built
    = record {
      source = source;
      program = p;
      accepted = accepted;
      fits = fits;
      made
          = built.made;
      stops = built.through.stops;
    }

pub code_of : (text : List ℕ) (cells stack : ℕ) (source : tree.Program) (p : Program)
    → IsAccepted text source p → Fits p
    → (b : Built) → IsBuilt p cells (whole_words stack) b → IsCodeOf text cells stack b.code.items
unfolding image_of
code_of text cells stack source p accepted fits b built = record {
  file = b.image.items;
  from = image_of text cells stack source p accepted fits b built;
  is_code = sym built.code;
  decode = subst AllDecode (sym built.code) built.through.decode;
}

-- what is kept of it
pub is_kept : (text : List ℕ) (cells stack : ℕ) (source : tree.Program) (p : Program)
    → IsAccepted text source p → Fits p
    → (b : Built) → IsBuilt p cells (whole_words stack) b → IsBuiltImage text cells stack b
unfolding image_of
is_kept text cells stack source p accepted fits b built = record {
  from = image_of text cells stack source p accepted fits b built;
  code = built.code;
  some_width = some_words (most_fields built.made.g.tags) b.width built.width;
  width = built.width;
  starts = built.starts;
  names = built.names;
  frames = built.frames;
}
  where
    some_words : (fields width : ℕ) → 4 * (1 + fields) * 1 ≡ 4 * width → 1 ≤ width
    some_words fields width is = omega (arith, is)

-- its code is not long
pub is_short : (p : Program) (cells stack : ℕ) (b : Built) → IsBuilt p cells stack b
    → length b.code.items ≤ 268435456
is_short p cells stack b built = subst (λ (words : List ℕ). length words ≤ 268435456)
    (sym built.code) built.made.image.few_words

-- there is an address for each name
pub one_each : (text : List ℕ) (cells stack : ℕ) (b : Built) → IsBuiltImage text cells stack b
    → length b.starts.items ≡ length b.names.items
one_each text cells stack b kept =
    let made = kept.from.made in
    ap length kept.starts ∙ made.image.code_for.one_each ∙ sym
    (ap length kept.names ∙ length-map made.g.procs (λ q. q.name))

-- and a frame for each name
pub frame_each : (text : List ℕ) (cells stack : ℕ) (b : Built) → IsBuiltImage text cells stack b
    → length b.frames.items ≡ length b.names.items
frame_each text cells stack b kept =
    let made = kept.from.made in
    ap length kept.frames ∙ made.image.one_frame_each ∙ sym
    (ap length kept.names ∙ length-map made.g.procs (λ q. q.name))

-- what is told of such an image is told of the text's
pub needs_of : (text : List ℕ) (cells stack : ℕ) (b : Built) (bytes : List ℕ)
    → IsBuiltImage text cells stack b
    → bytes ≡ needs_text b.names.items b.frames.items b.code.items b.starts.items (4 * b.width)
    → IsNeedsText text cells stack bytes
needs_of text cells stack b bytes kept is = record {
  file = b.image.items;
  from = kept.from;
  is_text = is ∙ λ i. needs_text (kept.names i) (kept.frames i) (kept.code i) (kept.starts i)
      (sym kept.width i);
}

-- the listing of such words
pub listing_of : (text : List ℕ) (cells stack : ℕ) (code bytes : List ℕ)
    → IsCodeOf text cells stack code → bytes ≡ code_listing code
    → IsCodeListing text cells stack bytes
listing_of text cells stack code bytes of is = record {
  file = of.file;
  from = of.from;
  decode = subst AllDecode (sym of.is_code) of.decode;
  is_listing = is ∙ ap code_listing (sym of.is_code);
}

-- ---- texts that are too long

module _ {K : Type 0} (o : SinkChange K) (front text : List ℕ) (cells stack : ℕ)
    (short : 1048576 < length front) (long : 1048576 < length text) where
  pub lists_code_long : (status : Status) → IsCodeListOutcome o front cells stack status
      → IsCodeListOutcome o text cells stack status
  lists_code_long status h =
      writes_as (λ text. IsCodeListing text cells stack) IsRunRefusal o front text
      (λ bytes made. accepted_short front made.from.source made.from.program short
      made.from.accepted)
      (not_run_long front text short long) status h

  pub tells_long : (status : Status) → IsNeedsOutcome o front cells stack status
      → IsNeedsOutcome o text cells stack status
  tells_long status h =
      writes_as (λ text. IsNeedsText text cells stack) IsRunRefusal o front text
      (λ bytes made. accepted_short front made.from.source made.from.program short
      made.from.accepted)
      (not_run_long front text short long) status h

  pub builds_long : (status : Status) → IsBuildOutcome o front cells stack status
      → IsBuildOutcome o text cells stack status
  builds_long status h =
      writes_as (λ text. IsImageOf text cells stack) IsRunRefusal o front text
      (λ file made. accepted_short front made.source made.program short made.accepted)
      (not_run_long front text short long) status h
