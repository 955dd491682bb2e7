-- A compiled program, from its stages and the layers below the last of them.
use Rattle.std.proofs.Common.{◌≡◌, ℕ, ◌+◌, ◌*◌, ◌≤◌, ◌<◌, List, ◌∷◌, length, map, refl, sym, subst, arith}
use Rattle.seq.proofs.Order.{more_times}
use Rattle.arity_check.specs.Accepted.{IsValid}
use Rattle.arity_check.specs.Program as core
use Rattle.elf32.specs.File.{SizesFitLayout}
use Rattle.grin_syntax.specs.Tree as grin
use Rattle.grin_syntax.specs.Formed.{AllOf, Formed}
use Rattle.grin_meaning.specs.Ready.{most_fields}
use Rattle.grin_translate.specs.Same.{ValidTranslationPreservesRuns}
use Rattle.stage_names.specs.declared.PassName.TheVariants.{Translate, Eval, Apply}
use Rattle.low_code.specs.Tree as low
use Rattle.grin_compile.specs.declared.layers.Layers.{Layers}
use Rattle.grin_compile.specs.declared.layers.Lowered.{Lowered}
use Rattle.grin_compile.specs.Code.{image_start_state, HasStops}
use Rattle.grin_compile.specs.declared.compilation.Compiled.{Compiled}
use Rattle.grin_compile.specs.Compilation.{after, later, IsCompilation}
use Rattle.grin_compile.specs.Limits.{heap_bytes, whole_words, SizesAreInRange}
use Rattle.grin_compile.specs.Made.{Made, IsImageOf}
use Rattle.grin_compile.specs.Parts.{HasLast, HasStages, lowered_stage, AreSizes, HasLayers, HasImage}
use Rattle.grin_compile.specs.Built.{IsBuilt}
use Rattle.grin_compile.specs.Provenance.{IsMadeThrough}
use Rattle.grin_compile.specs.Layers.{AreLayers}
use Rattle.grin_compile.specs.Lowerable.{IsLowerable}
use Rattle.grin_compile.specs.Stages.{passes, AreStages}
use Rattle.grin_compile.proofs.Passed.{by_places, as_many}
use Rattle.grin_compile.proofs.Frames.{few_frame_words}
use Rattle.grin_compile.proofs.FromLayers.{image, has_stops}

pub sizes_of : (cells stack : ℕ) → SizesAreInRange cells stack → AreSizes cells (whole_words stack)
sizes_of cells stack r = record {
  range = record {
    some_cells = r.some_cells;
    few_cells = r.few_cells;
    some_stack = omega (arith, r.some_stack);
    small_stack = omega (arith, r.small_stack);
  };
  words = omega arith;
}

-- a heap of cells of at most fourteen words
pub small_heap : (width cells : ℕ) → width ≤ 14 → cells ≤ 8000000 → 4 * width * cells ≤ 448000000
small_heap width cells few cells_few = omega
    (arith, more_times (4 * width) 56 cells (omega (arith, few)), cells_few)

pub narrow_cells : (g : grin.Program) (m : Layers) (cells stack : ℕ) → IsLowerable g
    → HasLayers g cells stack m
    → (low.program_of m.low).width ≤ 14
narrow_cells g m cells stack lowerable layers = omega
    (arith, layers.made.lowers.width, lowerable.ready.few_fields)

pub fits_layout : (code : List ℕ) (width cells stack : ℕ) → 0 < length code
    → length code ≤ 268435456 → width ≤ 14
    → AreSizes cells stack
    → SizesFitLayout code (4 * width * cells) stack
fits_layout code width cells stack some few narrow sizes = record {
  some = some;
  code_fits = few;
  data_fits = omega
      (arith, small_heap width cells narrow sizes.range.few_cells, sizes.range.small_stack);
}

-- the bytes of one cell
cell_bytes : (g : grin.Program) (width : ℕ) → width ≡ 1 + most_fields g.tags
    → heap_bytes g 1 ≡ 4 * width
cell_bytes g width is = omega (arith, is)

-- the layers below a compiled program's last stage
abbrev pub lowered : Compiled → Lowered
lowered c = record {
  layers = record {
    low = c.low;
    places = c.places;
    code = c.code;
    starts = c.starts;
    names = c.names;
    frames = c.frames;
  };
  image = c.image;
}

-- the image of a stage
module _ (does : ValidTranslationPreservesRuns) (p : core.Program) (valid : IsValid p)
    (cells stack : ℕ)
    (a : grin.Program) (hs : List grin.Program) (g : grin.Program)
    (later : HasLast p a hs g) (m : Lowered) (has : HasImage g cells stack m) where
  abbrev l : low.Program
  l = low.program_of m.layers.low

  abbrev code : List ℕ
  code = m.layers.code.items

  abbrev made : AreLayers g l m.layers.places cells stack has.layers.items code
  made = has.layers.made

  abbrev starts : List ℕ
  starts = m.layers.starts.items

  pub is_image : IsImageOf p later.solution g l m.layers.places.frames cells stack code starts
      m.image.items
  is_image =
      subst (λ as'. IsImageOf p later.solution g l m.layers.places.frames cells stack code as'
      m.image.items)
      (sym has.layers.starts)
      (image does p later.solution hs g l m.layers.places cells stack has.layers.items code
      m.image.items valid
      later.fits later.stages later.last made has.is_file has.loads)

  pub is_made_through : IsMadeThrough p later.solution g l m.layers.places cells stack code starts
  is_made_through = record {
    formed_stage = later.lowerable.formed;
    formed = has.layers.formed;
    items = has.layers.items;
    layers = made;
    decode = has.layers.decode;
    uses = has.layers.uses;
    small_frames = λ f. omega
        (arith, few_frame_words _ _ g l m.layers.places later.last.slim made.small made.fits f);
    starts = has.layers.starts;
    stops = subst (λ as'. HasStops code (image_start_state code (heap_bytes g cells) stack) as')
        (sym has.layers.starts)
        (has_stops does p later.solution hs g l m.layers.places cells stack has.layers.items code
        m.image.items valid
        later.fits later.stages later.last made has.is_file has.loads);
  }

  pub built : IsBuilt p cells stack (record {
    code = m.layers.code;
    image = m.image;
    width = m.layers.low.width;
    starts = m.layers.starts;
    names = m.layers.names;
    frames = m.layers.frames;
  })
  built = record {
    made = record {
      solution = later.solution;
      least = later.least;
      stages = hs;
      stages_are = later.stages;
      g = g;
      last = later.last;
      low = l;
      frames = m.layers.places.frames;
      code = code;
      addresses = starts;
      image = is_image;
    };
    code = refl;
    starts = refl;
    width = cell_bytes g m.layers.low.width made.lowers.width;
    names = has.layers.names;
    frames = has.layers.frames;
    places = m.layers.places;
    placed_frames = refl;
    through = is_made_through;
  }

-- the stages that are kept, by their names
stages_are_later : (p : core.Program) (c : Compiled) → HasStages p c.stages
    → map grin.program_of c.stages.later.items ≡ later c
stages_are_later p c stages =
    let hs = map grin.program_of c.stages.later.items in
    sym (by_places hs (grin.program_of c.stages.applied)
    (as_many p passes _ hs stages.later.stages))

pub compilation : ValidTranslationPreservesRuns → (p : core.Program) → IsValid p → (cells stack : ℕ)
    → (c : Compiled)
    → HasStages p c.stages
    → HasImage (lowered_stage c.stages) cells stack (lowered c) → IsCompilation p cells stack c
compilation does p valid cells stack c stages has =
    let g = lowered_stage c.stages in
    let is = stages_are_later p c stages in
    let chosen = subst (λ hs. HasLast p (grin.program_of c.stages.applied) hs g) is stages.later in
    record {
      translated = stages.translated;
      evaluated = stages.evaluated;
      solution = chosen.solution;
      least = chosen.least;
      applied = chosen.applied;
      stages = subst (λ h. AreStages p passes h (later c)) (sym chosen.applied) chosen.stages;
      g = g;
      last = chosen.last;
      formed_stages = subst
          (λ hs. AllOf Formed (after c Translate ∷ after c Eval ∷ after c Apply ∷ hs)) is
          stages.formed;
      names = has.layers.names;
      frames = has.layers.frames;
      image = is_image does p valid cells stack _ (later c) g chosen (lowered c) has;
      through = is_made_through does p valid cells stack _ (later c) g chosen (lowered c) has;
    }

pub made_by : (p : core.Program) (cells stack : ℕ) (c : Compiled) → IsCompilation p cells stack c
    → Made p cells stack c.image.items
made_by p cells stack c h = record {
  solution = h.solution;
  least = h.least;
  stages = later c;
  stages_are = subst (λ g. AreStages p passes g (later c)) h.applied h.stages;
  g = h.g;
  last = h.last;
  low = low.program_of c.low;
  frames = c.places.frames;
  code = c.code.items;
  addresses = c.starts.items;
  image = h.image;
}

pub built_of : (p : core.Program) (cells stack : ℕ) (c : Compiled) → IsCompilation p cells stack c
    → IsBuilt p cells stack (record {
      code = c.code;
      image = c.image;
      width = c.low.width;
      starts = c.starts;
      names = c.names;
      frames = c.frames;
    })
unfolding made_by
built_of p cells stack c h = record {
  made = made_by p cells stack c h;
  code = refl;
  starts = refl;
  width = cell_bytes h.g c.low.width h.through.layers.lowers.width;
  names = h.names;
  frames = h.frames;
  places = c.places;
  placed_frames = refl;
  through = h.through;
}
