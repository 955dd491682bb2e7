-- What the layers below a program of GRIN take and give.
use Rattle.std.proofs.Common.{◌≡◌, ℕ, zero, suc, ◌+◌, ◌*◌, ◌<◌, ◌≤◌, ◌||◌, Bool, true, false, List, [], ◌∷◌, length, Some, slice_get, nat_eq, inl, inr, refl, sym, ap, ◌∙◌, subst, arith}
use Rattle.std.specs.List.{range_with_len}
use Rattle.std.proofs.lemmas.Bool.{cases_eq, eq-eqb}
use Rattle.std.proofs.lemmas.List.{length-map}
use Rattle.grin_syntax.specs.Tree as grin
use Rattle.grin_syntax.specs.Formed.{AllOf}
use Rattle.grin_syntax.specs.SameOutside.{names_of}
use Rattle.low_code.specs.Tree as low
use Rattle.low_code.specs.Formed as low_formed
use Rattle.low_code.specs.Size.{program_size, calls_of}
use Rattle.low_translate.specs.Lowers.{Lowers, LoweredIsSmall}
use Rattle.register_alloc.specs.Assignment.{Assignment}
use Rattle.register_alloc.specs.Fits.{Fits, UsesRegisters}
use Rattle.register_alloc.specs.Gathered.{HaveFewParameters, HaveFewResults}
use Rattle.rv32_items.specs.declared.Item.{Item}
use Rattle.rv32_items.specs.Placed.{size_of, times, Placed}
use Rattle.rv32_items.specs.Course.{Layout}
use Rattle.rv32_items.specs.Laws.{addresses_of}
use Rattle.rv32_steps.specs.Trace.{is_one_of}
use Rattle.rv32_layout.specs.Places.{AllDecode}
use Rattle.rv32_select.specs.IsSelected.{IsSelected}
use Rattle.rv32_select.specs.Laws.{SelectionRefines}
use Rattle.rv32_select.specs.Selectable.{Selectable}
use Rattle.rv32_select.specs.Selects.{Selects}
use Rattle.grin_compile.specs.declared.layers.Layers.{Layers}
use Rattle.grin_compile.specs.Lowerable.{IsLowerable}
use Rattle.grin_compile.specs.Parts.{AreSizes, HasLayers}
use Rattle.grin_compile.proofs.Frames.{few_frame_words}
use Rattle.grin_compile.proofs.Sizes.{few_words}
use Rattle.grin_compile.proofs.Tells.{low_never_missing}

all_at : {A : Type 0} (P : A → Type 0) (xs : List A) → AllOf P xs → (k : ℕ) (x : A)
    → slice_get xs k ≡ Some x → P x
all_at P [] all k x e = cc
all_at P (y ∷ xs) all zero x e = let same : y ≡ x = cc in subst P same all.0
all_at P (y ∷ xs) all (suc k) x e = all_at P xs all.1 k x e

pub few_parameters : (g : grin.Program) (l : low.Program) → Lowers g l → HaveFewParameters l.procs
few_parameters g l lowers f q e = all_at (λ q. length q.params ≤ 16) l.procs lowers.few_params f q e

pub few_results : (g : grin.Program) (l : low.Program) → Lowers g l → HaveFewResults l.procs
few_results g l lowers f q e = all_at (λ q. q.results ≤ 13) l.procs lowers.few_results f q e

-- a number within a range is one of it
numbered : (from count k : ℕ) → from ≤ k → k < from + count
    → is_one_of (range_with_len from count) k ≡ true
numbered from zero k le lt = absurd (omega arith)
numbered from (suc count) k le lt = elim (cases_eq k from) [
  | inl e ↦ ap (λ b. b || is_one_of (range_with_len (from + 1) count) k) (eq-eqb k from e)
  | inr ne ↦ ap (λ b. nat_eq k from || b) (numbered (from + 1) count k (omega arith) (omega arith))
      ∙ or_true (nat_eq k from)
]
  where
    or_true : (b : Bool) → (b || true) ≡ true
    or_true true = refl
    or_true false = refl

module _ (g : grin.Program) (l : low.Program) (a : Assignment) (cells stack : ℕ)
    (lowerable : IsLowerable g) (formed : low_formed.Formed l)
    (lowers : Lowers g l) (small : LoweredIsSmall g l) (fits : Fits l a)
    (sizes : AreSizes cells stack) where
  few_globals : length l.globals ≤ 4096
  few_globals = omega
      (arith, ap length lowers.globals, length-map g.globals (λ c. c.tag.0), lowerable.few_globals)

  pub selectable : Selectable l a cells stack
  selectable = record {
    formed = formed;
    fits = fits;
    few_params = λ f q e. all_at (λ q. length q.params ≤ 16) l.procs lowers.few_params f q e;
    few_results = few_results g l lowers;
    width = (omega (arith, lowers.width), omega (arith, lowers.width, lowerable.ready.few_fields));
    size = omega (arith, small.light, lowerable.slim.light, lowerable.fits);
    procedures = omega (arith, lowers.procs, lowerable.few_procs, lowerable.fits);
    globals = omega (arith, few_globals);
    frames = λ f. omega (
      arith,
      few_frame_words lowerable.size lowerable.largest g l a lowerable.slim small fits f,
      lowerable.largest_fits,
      lowerable.fits,
    );
    few_cells = (sizes.range.some_cells, sizes.range.few_cells);
    stack_bytes = (sizes.range.some_stack, sizes.range.small_stack, sizes.words);
  }

  module _ (items : List Item) (law : SelectionRefines)
      (selected : IsSelected l a cells stack items) where
    pub selects : Selects l a cells stack items
    selects = law l a cells stack items selectable
        (low_never_missing g l lowers lowerable.ready.never_missing) selected

    -- the label of each procedure stands once
    pub begins_stand : (f : ℕ) → f < length l.procs → times f items ≡ 1
    begins_stand f lt = selects.stand f
        (ap (λ bs. is_one_of bs f) selects.begins_are ∙ numbered 0 (length l.procs) f (omega arith)
        (omega arith))

    pub items_fit : size_of items ≤ 268435456
    items_fit =
        let procs : length l.procs ≤ lowerable.size
        = omega (arith, lowers.procs, lowerable.few_procs) in
        let light : program_size l ≤ 192 * lowerable.size
        = omega (arith, small.light, lowerable.slim.light) in
        let calls : calls_of l ≤ lowerable.size = omega
        (arith, small.few_calls, lowerable.slim.few_calls) in
        few_words (length l.procs) (length l.globals) (program_size l) (calls_of l) lowerable.size
        (size_of items) (size_of items) lowerable.fits procs few_globals light calls
        (selects.few small.few_tests) (omega arith)

-- the addresses of the first labels are those of the labels of procedures
pub starts_by : (lay : Layout) (items : List Item) (begins starts : List ℕ) (labels procs : ℕ)
    → begins ≡ range_with_len 0 procs → labels ≡ procs
    → starts ≡ addresses_of lay items (range_with_len 0 labels)
    → starts ≡ addresses_of lay items begins
starts_by lay items begins starts labels procs are same at =
    at ∙ ap (λ n. addresses_of lay items (range_with_len 0 n)) same ∙ ap (addresses_of lay items)
    (sym are)

pub has_layers : (g : grin.Program) (cells stack : ℕ) (m : Layers) (items : List Item)
    → low_formed.Formed (low.program_of m.low) → Lowers g (low.program_of m.low)
    → LoweredIsSmall g (low.program_of m.low)
    → Fits (low.program_of m.low) m.places →
    (selects : Selects (low.program_of m.low) m.places cells stack items)
    → (placed : Placed items m.code.items)
    → m.starts.items ≡ addresses_of placed.lay items selects.begins
    → m.names.items ≡ names_of g.procs → m.frames.items ≡ m.places.frames
    → AllDecode m.code.items → size_of items ≤ 268435456
    → UsesRegisters (low.program_of m.low) m.places → HasLayers g cells stack m
has_layers g cells stack m items formed lowers small fits selects placed starts names frames decode
    few uses = record {
      formed = formed;
      items = items;
      made = record
          { lowers = lowers; small = small; fits = fits; selects = selects; placed = placed };
      some_words = placed.some selects.some_item.0 selects.some_item.1;
      few_words = omega (arith, placed.few, few);
      decode = decode;
      uses = uses;
      starts = starts;
      names = names;
      frames = frames;
    }
