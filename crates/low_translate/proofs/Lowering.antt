-- The law of lowering: the low code that a vectorised program is lowered to does what the program
-- does.
use Rattle.std.proofs.Common.{◌≡◌, ◌≢◌, inl, inr, ◌≤◌, ◌<◌, ℕ, zero, suc, ◌+◌, ◌*◌, List, [], ◌∷◌, map, length, replicate, Option, Some, None, refl, sym, ap, subst, arith}
use Rattle.std.specs.Prelude.{max, slice_set}
use Rattle.std.proofs.lemmas.List.{length-map}
use Rattle.seq.proofs.Order.{le_or_lt}
use Rattle.headline.specs.Carries.{IsBytes, MeaningRefines}
use Rattle.grin_syntax.specs.declared.program.GlobalCell.{GlobalCell}
use Rattle.grin_syntax.specs.Formed.{AllOf, Formed, GlobalFormed}
use Rattle.grin_syntax.specs.Fresh.{past_procs}
use Rattle.grin_syntax.specs.Tree as grin_tree
use Rattle.grin_syntax.specs.Tree.{Procedure}
use Rattle.grin_meaning.specs.Values as grin
use Rattle.grin_meaning.specs.Values.{HeapCell}
use Rattle.grin_meaning.specs.Run as grin_run
use Rattle.grin_meaning.specs.Run.{run_by}
use Rattle.grin_meaning.specs.Keeps as keeps
use Rattle.grin_meaning.specs.Looking.{checked_run, CheckedRunsNeverMissing, ChecksAreExact}
use Rattle.grin_meaning.specs.Ready.{IsVectorised, Ready, most_fields}
use Rattle.grin_meaning.specs.Told as grin_told
use Rattle.grin_meaning.proofs.Looked.{looking_law}
use Rattle.low_code.specs.Tree as low_tree
use Rattle.low_code.specs.Values as low
use Rattle.low_code.specs.Run as low_run
use Rattle.low_code.specs.Told as low_told
use Rattle.low_translate.specs.Translation.{results_of, procedures_code, procedure_numbers, program_code}
use Rattle.low_translate.specs.Writes.{written_width}
use Rattle.low_translate.specs.Lowered.{EachProcedureReturns, IsLowered}
use Rattle.low_translate.specs.Lowers.{Lowers}
use Rattle.low_translate.proofs.Images.{images, cell_image, world_image, fit_none, InRange, SoundCell}
use Rattle.low_translate.proofs.Matches.{free, Match, missed, fails, ran_out, given}
use Rattle.low_translate.proofs.ProcedureRuns as calls

-- ---- frames

-- the largest frame of the first procedures
abbrev largest : (ℕ → ℕ) → ℕ → ℕ
largest fw zero = 0
largest fw (suc k) = max (fw k) (largest fw k)

below_largest : (fw : ℕ → ℕ) (k f : ℕ) → f < k → fw f ≤ largest fw k
below_largest fw zero f lt = absurd (omega (arith, lt))
below_largest fw (suc k) f lt = elim (le_or_lt k f) [
  | inl le ↦ let e : f ≡ k = omega (arith, lt, le) in let s : fw f ≡ fw k = ap fw e
      in omega (arith, s)
  | inr less ↦ let h = below_largest fw k f less in omega (arith, h)
]

-- ---- what is told

-- what low code tells, where GRIN misses nothing
record SameTold (most : ℕ) (a : grin.Answer) (l : low.Answer) : Type 0 where
  tells : MeaningRefines (grin_told.told_by a) (low_told.told_by l)
  enters : (low_run.world_of l).entered ≡ (keeps.world_of a).entered
  frames : (low_run.world_of l).frames ≤ ((keeps.world_of a).depth + 1) * most

module _ (g : grin_tree.Program) (p : low_tree.Program) (fw : ℕ → ℕ) (most : ℕ) (rs : List ℕ)
    (first : ℕ) (same_globals : length p.globals ≡ length g.globals) (width : ℕ)
    (wide : width ≡ 1 + most_fields g.tags) where
  no_more_cells : (frames : ℕ) (w : grin.World) → length (world_image width frames w).cells ≤ length
      w.cells
  no_more_cells frames w = let m = length-map w.cells (λ c. cell_image width c.node)
      in omega (arith, m)

  same_told : (k : ℕ) (a : grin.Answer) (l : low.Answer)
      → Match g p fw most rs first same_globals width wide (λ v. Unit {0}) k a l
      → keeps.end_of a ≢ keeps.ended grin.missing → SameTold most a l
  same_told k _ _ missed never = absurd (never refl)
  same_told k _ _ (fails {w = w} {f = f} h) never = record {
    tells = record { out = refl; end = refl; used = refl; cells = no_more_cells f w };
    enters
        = refl;
    frames = h;
  }
  same_told k _ _ (ran_out {w = w} {f = f} h) never
      = record {
        tells = record { out = refl; end = refl; used = refl; cells = no_more_cells f w };
        enters = refl;
        frames = h;
      }
  same_told k _ _ (given {v = v} {w = w} sv sw reached) never = let q = reached tt
      in subst (SameTold most (grin.gives v w)) (sym q.is)
      (record {
        tells = record
            { out = refl; end = refl; used = refl; cells = no_more_cells q.frames w };
        enters
            = refl;
        frames = q.within;
      })

-- ---- the start

-- the cells of the globals, where a cell has so many words
GlobalImages : ℕ → List GlobalCell → Type 0
GlobalImages w cs = map (λ t. slice_set (replicate w (low.number 0)) 0 (low.number t))
    (map (λ c. c.tag.0) cs)
    ≡ map (λ (h : HeapCell). cell_image w h.node)
    (map (λ c. record { site = c.site.0; node = record { tag = c.tag.0; fields = [] } }) cs)

global_images : (m : ℕ) (cs : List GlobalCell) → GlobalImages (suc m) cs
unfolding GlobalImages
global_images m [] = refl
global_images m (c ∷ cs) = λ i. (low.number c.tag.0 ∷ sym (fit_none m) i) ∷ global_images m cs i

globals_sound : (g : grin_tree.Program) (cs : List GlobalCell) → AllOf (GlobalFormed g) cs
    → AllOf (λ (h : HeapCell). SoundCell g h.node)
    (map (λ c. record { site = c.site.0; node = record { tag = c.tag.0; fields = [] } }) cs)
globals_sound g [] h = tt
globals_sound g (c ∷ cs) h = (
  record {
    sound = record {
      count = h.0.0.fields;
      has = ap (λ o. grin.and_then o (λ i. Some i.fields)) h.0.1;
      few
          = omega arith;
      ranged = tt;
    };
    narrow = omega arith;
  },
  globals_sound g cs h.1,
)

argument_images : (o : Option ℕ) → low_run.start_words o ≡ images (grin_run.start_words o)
argument_images None = refl
argument_images (Some i) = refl

argument_ranged : (o : Option ℕ) → AllOf InRange (grin_run.start_words o)
argument_ranged None = tt
argument_ranged (Some i) = (tt, tt)

-- ---- procedures

same_many : (width node : ℕ) (all : List ℕ) (n : ℕ) (rs : List ℕ) (qs : List Procedure)
    → EachProcedureReturns node all rs qs → length (procedures_code width all n rs qs) ≡ length qs
same_many width node all n [] [] h = refl
same_many width node all n [] (q ∷ qs) h = absurd h
same_many width node all n (r ∷ rs) [] h = absurd h
same_many width node all n (r ∷ rs) (q ∷ qs) h = ap suc
    (same_many width node all (n + procedure_numbers width all r q) rs qs h.1)

few_params : (width node : ℕ) (all : List ℕ) (n : ℕ) (rs : List ℕ) (qs : List Procedure)
    → EachProcedureReturns node all rs qs → AllOf (λ q. length q.params ≤ 16) qs
    → AllOf (λ q. length q.params ≤ 16) (procedures_code width all n rs qs)
few_params width node all n [] [] h k = tt
few_params width node all n [] (q ∷ qs) h k = absurd h
few_params width node all n (r ∷ rs) [] h k = absurd h
few_params width node all n (r ∷ rs) (q ∷ qs) h k = (
  (let a = length-map q.params (λ x. x.0) in let b = k.0 in omega (arith, a, b)),
  few_params width node all (n + procedure_numbers width all r q) rs qs h.1 k.1,
)

few_results : (width node : ℕ) (all : List ℕ) (n : ℕ) (rs : List ℕ) (qs : List Procedure)
    → EachProcedureReturns node all rs qs → AllOf (λ r. r ≤ 13) rs
    → AllOf (λ q. q.results ≤ 13) (procedures_code width all n rs qs)
few_results width node all n [] [] h k = tt
few_results width node all n [] (q ∷ qs) h k = absurd h
few_results width node all n (r ∷ rs) [] h k = absurd h
few_results width node all n (r ∷ rs) (q ∷ qs) h k =
    (k.0, few_results width node all (n + procedure_numbers width all r q) rs qs h.1 k.1)

-- ---- whole programs

module _ (g : grin_tree.Program) (l : low_tree.Program) (formed : Formed g) (ready : Ready g)
    (vectorised : IsVectorised g) (h : IsLowered g l) where
  width : ℕ
  width = 1 + most_fields g.tags

  p : low_tree.Program
  p = program_code (1 + most_fields g.tags) (written_width g) h.results (past_procs g.procs) g

  looks : ChecksAreExact g
  looks = looking_law g ready.inlined

  never_missed : CheckedRunsNeverMissing g
  never_missed = looks.sees ready.never_missing ready.runs

  module _ (fw : ℕ → ℕ) (most : ℕ) (bounded : (f : ℕ) → f < length g.procs → fw f ≤ most)
      (i : List ℕ) (bytes : IsBytes i) (n : ℕ) where
    cells_same : GlobalImages (1 + most_fields g.tags) g.globals
    cells_same = subst (λ w. GlobalImages w g.globals)
        (let e : suc (most_fields g.tags) ≡ 1 + most_fields g.tags = omega arith in e)
        (global_images (most_fields g.tags) g.globals)

    looked : SameTold most (checked_run g i n) (low_run.run p fw i n)
    unfolding run_by low_run.run_in p GlobalImages
    looked = same_told g p fw most h.results (past_procs g.procs)
        (length-map g.globals (λ c. c.tag.0)) (1 + most_fields g.tags) refl
        (results_of h.results g.start.0) _ _
        (subst (Match g p fw most h.results (past_procs g.procs)
        (length-map g.globals (λ c. c.tag.0)) (1 + most_fields g.tags) refl (λ v. Unit {0})
        (results_of h.results g.start.0) (checked_run g i n))
        (λ j. low_run.calls p fw free n g.start.0 (sym (argument_images g.argument) j) 0
        (record {
          cells = sym cells_same j;
          input = i;
          used = 0;
          out = [];
          left = n;
          frames
              = 0;
          entered = [];
        }))
        (calls.calls_match g h.results fw most ready.inlined vectorised h.ranged h.gives
        formed.variables_once bounded n g.start.0 (grin_run.start_words g.argument) 0
        (grin_run.start_world g i n) 0 0 (argument_ranged g.argument)
        (record { cells = globals_sound g g.globals formed.globals; bytes = bytes }) (omega arith)
        (omega arith)))
        (never_missed i n)

    told : SameTold most (grin_run.run g i n) (low_run.run p fw i n)
    told = subst (λ a. SameTold most a (low_run.run p fw i n)) (looks.same never_missed i n) looked

  lowered_program : Lowers g p
  unfolding p
  lowered_program = record {
    tells = λ fw i bytes n.
        (told fw (largest fw (length g.procs)) (below_largest fw (length g.procs)) i bytes n).tells;
    enters = λ fw i bytes n.
        (told fw (largest fw (length g.procs)) (below_largest fw (length g.procs)) i bytes
        n).enters;
    frames = λ fw most few i bytes n. (told fw most (λ f lt. few f) i bytes n).frames;
    procs = same_many _ _ h.results (past_procs g.procs) h.results g.procs h.gives;
    few_params = few_params _ _ h.results (past_procs g.procs) h.results g.procs h.gives
        ready.few_params;
    few_results = few_results _ _ h.results (past_procs g.procs) h.results g.procs h.gives h.few;
    width = refl;
    globals = refl;
    start = refl;
    argument = refl;
  }

  pub lowered_lowers : Lowers g l
  unfolding p
  lowered_lowers = subst (Lowers g) (sym h.is) lowered_program
