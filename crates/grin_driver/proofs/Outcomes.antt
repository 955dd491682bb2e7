-- What the end of a run says of the program.
use Rattle.std.proofs.Common.{◌≡◌, ◌≢◌, ℕ, zero, suc, ◌+◌, ◌-◌, ◌*◌, ◌/◌, ◌<◌, ◌≤◌, Bool, true, false, List, [], ◌∷◌, ◌++◌, length, Option, Some, None, refl, sym, ap, ◌∙◌, subst, arith, length-append}
use mathlib.Core.Logic.{inl, inr}
use Rattle.std.specs.Prelude.{min}
use Rattle.std.proofs.Math.Nat.{mul-div_cancel_left}
use Rattle.arity_check.specs.Program.{Program}
use Rattle.core_meaning.specs.Evaluation.{params}
use Rattle.core_meaning.specs.Told.{core_program_meaning}
use Rattle.elf32.specs.Image.{Image}
use Rattle.elf32.specs.Rules.{Loads, rule}
use Rattle.elf32.specs.declared.refusal.ElfRefusal.{ElfRefusal}
use Rattle.elf32.specs.declared.refusal.ElfRefusal.TheVariants.{ImageTooLong, TooShort, NotElf, NotRiscv32Exec, HeaderOutside, SegmentOutside, SegmentsOverlap, EntryOutside, SegmentsTooLarge, Memory as OutOfMemory'}
use Rattle.grin_io.specs.Changes.{SourceChange, SinkChange, ReadBytes, no_read, next_byte, at_end, BeginsWith, ReadExactly, TookExactly}
use Rattle.grin_io.specs.declared.outside.Fault.{Fault}
use Rattle.grin_io.specs.declared.outside.Fault.TheVariants.{Read, Write}
use Rattle.stage_names.specs.declared.PassName.{PassName}
use Rattle.stage_names.specs.declared.PassName.TheVariants.{Translate, Eval}
use Rattle.grin_stages.specs.Stage.{StageExceedsLimit, ExceedsSizeLimit}
use Rattle.grin_stages.specs.declared.refusal.CompileRefusal.{CompileRefusal}
use Rattle.grin_stages.specs.declared.refusal.CompileRefusal.TheVariants.{ExpandedTooLarge, Memory}
use Rattle.headline.specs.Carries as carries
use Rattle.headline.specs.Carries.{MeaningResult as Telling, going, done, no_alternative, missing, MachineObservation, MachineStatus, runs, exits, traps, IsBytes, IsPrefixOf, EndMatchesExit, ReachesResult, ExtendsShorterRun, Finishes, Comes, Carries, KeepsPace}
use Rattle.rv32_machine.specs.Steps.{State, reg, start_of}
use Rattle.rv32_machine.specs.Runs.{MachineEnd, Going, Exited as exited, Stopped, run, pieces, used, AsksForMore}
use Rattle.rv32_machine.specs.declared.machine.Stop.{Stop}
use Rattle.rv32_machine.specs.declared.machine.Stop.TheVariants.{Steps, Exit, Trap}
use Rattle.rv32_steps.specs.Seen.{observed_image, finish_of}
use Rattle.rv32_steps.specs.Trace.{trace, IsLastBefore}
use Rattle.grin_compile.specs.Code.{TellsLastStep, cells_bound, TellsCellsBound}
use Rattle.grin_compile.specs.Limits.{heap_bytes, HeapIsExceeded, StackIsExceeded, largest_frame, frame_words, whole_words}
use Rattle.grin_compile.specs.Words.{most_steps}
use Rattle.text_commands.specs.declared.status.Status.{Status}
use Rattle.text_commands.specs.declared.status.Status.TheVariants.{Refused, NoAlternative, Exited, OutOfMemory, ReadFault, WriteFault}
use Rattle.grin_driver.specs.Listing.{IsListFailure}
use Rattle.rv32_machine.proofs.Sources.{itself}
use Rattle.grin_driver.specs.Execution.{OfGiven, Stops, Fails, Execution, IsUnloadable, stop_at, status_of}
use Rattle.grin_driver.specs.Outcome.{IsRunRefusal, IsImageOf, IsBuildFailure, status_of_exit, RunsTo, Breaks, Says, Runs, Outcome}
use Rattle.grin_syntax.specs.SameOutside.{names_of}
use Rattle.grin_driver.specs.declared.cost.Cost.{Cost}
use Rattle.grin_driver.specs.Costs.{has_stopped, exits_within_heap, cells_before, state_at, AreCounts, IsRunCost, IsCostOf, ExecutesWithCounts, CountsOfExecution, CostsText, RunsAtCost}
use Rattle.grin_driver.specs.declared.cost.RunCounts.{RunCounts}
use Rattle.text_commands.proofs.Texts.{refused_long, accepted_short}
use Rattle.limits.specs.Limits.{heap_start}
use Rattle.grin_driver.proofs.Fronts.{took_output, gave_used, took_front}
use Rattle.grin_driver.proofs.Unread.{takes_no_byte}

-- a name of its own changes nothing of whether there was a run
named_stops : (status : Status) → has_stopped (status_of_exit status) ≡ has_stopped status
named_stops (Exited zero) = refl
named_stops (Exited (suc zero)) = refl
named_stops (Exited (suc (suc zero))) = refl
named_stops (Exited (suc (suc (suc zero)))) = refl
named_stops (Exited (suc (suc (suc (suc zero))))) = refl
named_stops (Exited (suc (suc (suc (suc (suc zero)))))) = refl
named_stops (Exited (suc (suc (suc (suc (suc (suc k))))))) = refl
named_stops _ = refl

stop_stops : (stop : Stop) → has_stopped (status_of stop) ≡ true
stop_stops Steps = refl
stop_stops (Exit zero) = refl
stop_stops (Exit (suc code)) = refl
stop_stops (Trap kind pc) = refl

-- ---- refusals

abbrev is_translate : PassName → Bool
is_translate Translate = true
is_translate _ = false

-- a program that is too large has no stage behind the translation
pub too_large : (p : Program) (refusal : CompileRefusal) → ExceedsSizeLimit p refusal
    → StageExceedsLimit p Eval refusal
too_large p (ExpandedTooLarge size) h =
    ((λ e. let c : false ≡ true = ap is_translate e in absurd cc), h.0, h.1)
too_large p (Memory e) h = h

pub unlisted_is_unmade : (text : List ℕ) (status : Status) → IsListFailure text Eval status
    → IsBuildFailure text status
unlisted_is_unmade text (Refused k at) (inl h) = inl h
unlisted_is_unmade text (Refused k at) (inr h) = inr (h.0, h.2)
unlisted_is_unmade text OutOfMemory h = h
unlisted_is_unmade text _ h = absurd h

-- ---- the image

pub rule_below : (r : ElfRefusal) → rule r < 49
rule_below ImageTooLong = omega arith
rule_below TooShort = omega arith
rule_below NotElf = omega arith
rule_below NotRiscv32Exec = omega arith
rule_below HeaderOutside = omega arith
rule_below (SegmentOutside i) = omega arith
rule_below (SegmentsOverlap j) = omega arith
rule_below EntryOutside = omega arith
rule_below SegmentsTooLarge = omega arith
rule_below (OutOfMemory' e) = omega arith

-- a file that loads breaks no rule
pub loadable : (file : List ℕ) (image : Image) (k at : ℕ) → Loads file image
    → IsUnloadable file k at → ⊥
loadable file image k at loads u = loads.unbroken u.refusal (rule_below u.refusal) u.broken

-- whatever a text's file loads as carries the text's program
pub carried : (text : List ℕ) (cells stack : ℕ) (file : List ℕ)
    (from : IsImageOf text cells stack file) (image : Image) → Loads file image
    → Carries (HeapIsExceeded cells)
    (StackIsExceeded (largest_frame from.made.frames) (whole_words stack))
    (core_program_meaning from.program) (observed_image image)
carried text cells stack file from image loads =
    subst (λ b. Carries (HeapIsExceeded cells)
    (StackIsExceeded (largest_frame from.made.frames) (whole_words stack))
    (core_program_meaning from.program) (observed_image b))
    (from.made.image.loads.program ∙ sym loads.program) from.made.image.code_for.carries

-- and where it exits with 3, x5 tells its last step in the code of the procedures
tells_last : (text : List ℕ) (cells stack : ℕ) (file : List ℕ)
    (from : IsImageOf text cells stack file) (image : Image) → Loads file image
    → (bytes : List ℕ) → IsBytes bytes → (m : ℕ) → TellsLastStep from.stops.stops (start_of image)
    bytes m
tells_last text cells stack file from image loads bytes are m =
    subst (λ b. TellsLastStep from.stops.stops (start_of b) bytes m)
    (from.made.image.loads.program ∙ sym loads.program) (from.stops.tells_last bytes are m)

told_by : (e : MachineEnd) (stops : ℕ) (way : List ℕ) (x5 : ℕ)
    → ((s : State) → e ≡ exited 3 s → IsLastBefore stops way (s.regs 5 - 4)) → stop_at e ≡ Exit 3
    → reg (state_at e) 5 ≡ x5
    → IsLastBefore stops way (x5 - 4)
told_by (Going s) stops way x5 tells h x = cc
told_by (exited code s) stops way x5 tells h x =
    let same : code ≡ 3 = cc in
    subst (λ r. IsLastBefore stops way (r - 4)) x (tells s (ap (λ c. exited c s) same))
told_by (Stopped kind s) stops way x5 tells h x = cc

exits_with_3 : (stop : Stop) → status_of_exit (status_of stop) ≡ NoAlternative → stop ≡ Exit 3
exits_with_3 Steps e = cc
exits_with_3 (Exit zero) e = cc
exits_with_3 (Exit (suc zero)) e = cc
exits_with_3 (Exit (suc (suc zero))) e = cc
exits_with_3 (Exit (suc (suc (suc zero)))) e = refl
exits_with_3 (Exit (suc (suc (suc (suc zero))))) e = cc
exits_with_3 (Exit (suc (suc (suc (suc (suc zero)))))) e = cc
exits_with_3 (Exit (suc (suc (suc (suc (suc (suc k))))))) e = cc
exits_with_3 (Trap kind pc) e = cc

-- and where it exits, but not with its heap full, x3 tells the cells that its low code bound
tells_cells : (text : List ℕ) (cells stack : ℕ) (file : List ℕ)
    (from : IsImageOf text cells stack file) (image : Image) → Loads file image
    → TellsCellsBound from.made.low (frame_words from.made.frames) cells (whole_words stack)
    from.made.addresses (start_of image)
tells_cells text cells stack file from image loads =
    subst (λ b. TellsCellsBound from.made.low (frame_words from.made.frames) cells
    (whole_words stack) from.made.addresses (start_of b))
    (from.made.image.loads.program ∙ sym loads.program) from.made.image.tells_cells_bound

-- so many cells stand before the address behind them
cells_counted : (cell_bytes width bound cells next : ℕ) → cell_bytes ≡ 4 * width → 1 ≤ width
    → bound ≤ cells → next ≡ heap_start + 4 * width * bound
    → cells_before cell_bytes cells next ≡ bound
cells_counted cell_bytes width bound cells next bytes some le is =
    let behind : next - heap_start ≡ cell_bytes * bound
    = ap (λ n. n - heap_start) is ∙ less (4 * width * bound) ∙ ap (λ b. b * bound) (sym bytes) in
    let count : (next - heap_start) / cell_bytes ≡ bound
    = ap (λ n. n / cell_bytes) behind ∙ mul-div_cancel_left bound (omega (arith, bytes, some)) in
    ap (λ n. min n cells) count ∙ least bound cells le
  where
    less : (n : ℕ) → heap_start + n - heap_start ≡ n
    less n = omega arith

    least : (n m : ℕ) → n ≤ m → min n m ≡ n
    least n m le = omega arith

counted_by : (e : MachineEnd) (stop : Stop) (x3 bound cells next : ℕ)
    → ((code : ℕ) (s : State) → code ≢ 4 → e ≡ exited code s
    → (bound ≤ cells) × (s.regs 3 ≡ next))
    → exits_within_heap (status_of_exit (status_of stop)) ≡ true → stop_at e ≡ stop
    → reg (state_at e) 3 ≡ x3 → (bound ≤ cells) × (x3 ≡ next)
counted_by e Steps x3 bound cells next tells within h x = absurd (cc)
counted_by e (Trap kind pc) x3 bound cells next tells within h x = absurd (cc)
counted_by (Going s) (Exit k) x3 bound cells next tells within h x = absurd (cc)
counted_by (Stopped kind s) (Exit k) x3 bound cells next tells within h x = absurd (cc)
counted_by (exited code s) (Exit k) x3 bound cells next tells within h x =
    let same : code ≡ k = cc in
    let t = tells code s (λ four. other k within (sym same ∙ four)) refl in
    (t.0, sym x ∙ t.1)
  where
    other : (k : ℕ) → exits_within_heap (status_of_exit (status_of (Exit k))) ≡ true → k ≢ 4
    other k within four =
        let no : false ≡ true
        = sym (ap (λ n. exits_within_heap (status_of_exit (status_of (Exit n)))) four) ∙ within in
        cc

-- and keeps pace with it
pub paced : (text : List ℕ) (cells stack : ℕ) (file : List ℕ)
    (from : IsImageOf text cells stack file) (image : Image) → Loads file image
    → KeepsPace (most_steps from.made.code from.made.addresses) (core_program_meaning from.program)
    (observed_image image)
paced text cells stack file from image loads =
    subst (λ b. KeepsPace (most_steps from.made.code from.made.addresses)
    (core_program_meaning from.program) (observed_image b))
    (from.made.image.loads.program ∙ sym loads.program) from.made.image.paced

-- where a machine runs on, what it has come to has no end
runs_on : (t : Telling) (s : MachineObservation) → s.finish ≡ runs → ReachesResult t s
    → (t.end ≡ going) × IsPrefixOf t.out s.out
runs_on t s on (inl r) = (by_end t.end r.1, r.0)
  where
    by_end : (e : carries.End) → EndMatchesExit e t s → e ≡ going
    by_end going m = refl
    by_end done m = let no : exits 0 ≡ runs = sym m.1 ∙ on in cc
    by_end no_alternative m = let no : exits 3 ≡ runs = sym m.1 ∙ on in cc
    by_end missing m = absurd m
runs_on t s on (inr (inl four, b)) = let no : exits 4 ≡ runs = sym four ∙ on in cc
runs_on t s on (inr (inr five, b)) = let no : exits 5 ≡ runs = sym five ∙ on in cc

-- ---- what the program says

-- the finish that an answer of the machine names
abbrev pub finish_by : Stop → MachineStatus
finish_by Steps = runs
finish_by (Exit code) = exits code
finish_by (Trap kind pc) = traps

pub finish_at : (e : MachineEnd) → finish_of e ≡ finish_by (stop_at e)
finish_at (Going s) = refl
finish_at (exited code s) = refl
finish_at (Stopped kind s) = refl

module _ {I K : Type 0} (i : SourceChange I) (o : SinkChange K) (Heap Stack : Telling → Type 0)
    (told : ℕ → Telling) (image : Image) (steps : ℕ) (bytes given : List ℕ)
    (c : (n : ℕ) × Comes Heap Stack told n (observed_image image bytes steps)) (each : ℕ)
    (reaches : (n : ℕ) → each * (n + 1) ≤ steps
    → ReachesResult (told n) (observed_image image bytes steps)) where
  pub says_stopped : (stop : Stop) → (observed_image image bytes steps).finish ≡ finish_by stop
      → Finishes Heap Stack told c.0 (observed_image image bytes steps) (finish_by stop)
      → TookExactly o (pieces steps bytes (start_of image)) → bytes ≡ given
      ++ (run steps bytes (start_of image)).left
      → Says i o Heap Stack told given each steps (status_of_exit (status_of stop))
  says_stopped Steps is f took left = record {
    keeps_pace = λ n enough.
        let r = runs_on (told n) (observed_image image bytes steps) is (reaches n enough) in (
          r.0,
          took_output i o steps bytes (start_of image) (λ out. IsPrefixOf (told n).out out) took
              r.1,
        );
    units = c.0;
    took = took_output i o steps bytes (start_of image) (λ out. IsPrefixOf out (told c.0).out) took
        c.1.output;
    gave = gave_used i o steps bytes (start_of image) given (λ count. count ≤ (told c.0).used) left
        c.1.used;
  }
  says_stopped (Exit zero) is f took left = record {
    units = c.0;
    ended = f.2;
    took = took_output i o steps bytes (start_of image) (λ out. out ≡ (told c.0).out) took f.0;
    gave = gave_used i o steps bytes (start_of image) given (λ count. count ≡ (told c.0).used) left
        f.1;
  }
  says_stopped (Exit (suc zero)) is f took left = absurd f
  says_stopped (Exit (suc (suc zero))) is f took left = absurd f
  says_stopped (Exit (suc (suc (suc zero)))) is f took left = record {
    units = c.0;
    ended = f.2;
    took = took_output i o steps bytes (start_of image) (λ out. out ≡ (told c.0).out) took f.0;
    gave = gave_used i o steps bytes (start_of image) given (λ count. count ≡ (told c.0).used) left
        f.1;
  }
  says_stopped (Exit (suc (suc (suc (suc zero))))) is f took left = record {
    units = c.0;
    needs = f.0;
    took = took_output i o steps bytes (start_of image)
        (λ out. ExtendsShorterRun told c.0 out × IsPrefixOf out (told c.0).out) took
        (f.1, c.1.output);
    gave = gave_used i o steps bytes (start_of image) given (λ count. count ≤ (told c.0).used) left
        c.1.used;
  }
  says_stopped (Exit (suc (suc (suc (suc (suc zero)))))) is f took left = record {
    units = c.0;
    needs = f.0;
    took = took_output i o steps bytes (start_of image)
        (λ out. ExtendsShorterRun told c.0 out × IsPrefixOf out (told c.0).out) took
        (f.1, c.1.output);
    gave = gave_used i o steps bytes (start_of image) given (λ count. count ≤ (told c.0).used) left
        c.1.used;
  }
  says_stopped (Exit (suc (suc (suc (suc (suc (suc k))))))) is f took left = absurd f
  says_stopped (Trap kind pc) is f took left = absurd f

  pub finish_is : (stop : Stop) → stop_at (run steps bytes (start_of image)).end ≡ stop
      → (observed_image image bytes steps).finish ≡ finish_by stop
  finish_is stop is = finish_at (run steps bytes (start_of image)).end ∙ ap finish_by is

  pub finishes : (stop : Stop) → stop_at (run steps bytes (start_of image)).end ≡ stop
      → Finishes Heap Stack told c.0 (observed_image image bytes steps) (finish_by stop)
  finishes stop is =
      subst (λ f. Finishes Heap Stack told c.0 (observed_image image bytes steps) f)
      (finish_is stop is) c.1.finish

-- ---- what was given

one_byte_more : (bs : List ℕ) (b : ℕ) → IsBytes bs → b < 256 → IsBytes (bs ++ (b ∷ []))
one_byte_more [] b are small = (small, tt)
one_byte_more (x ∷ bs) b are small = (are.0, one_byte_more bs b are.1 small)

-- what reads gave are bytes
pub are_bytes : {I : Type 0} (gives : I → ℕ → Option (List ℕ) → I → Type 0) (from to : I)
    (given : List ℕ) (ended : Bool) → ReadBytes gives from given ended to → IsBytes given
are_bytes gives from to given ended no_read = tt
are_bytes gives from end all ended
    (next_byte {before} {given} {byte} {last} {to} g exactly small is) =
    subst IsBytes (sym is)
    (one_byte_more before byte (are_bytes gives from last before false g) small)
are_bytes gives from end all over (at_end {given} {ended} {last} {to} g exactly)
    = are_bytes gives from last given ended g

length_zero : (bs : List ℕ) → length bs ≡ 0 → bs ≡ []
length_zero [] e = refl
length_zero (b ∷ bs) e = cc

-- where no bytes were given and the end wasn't met, there was no read
no_reads : {I : Type 0} (gives : I → ℕ → Option (List ℕ) → I → Type 0) (from to : I)
    (given : List ℕ) (ended : Bool) → ReadBytes gives from given ended to → given ≡ []
    → ended ≡ false → to ≡ from
no_reads gives from to given ended no_read none goes_on = refl
no_reads gives from end all ended (next_byte {before} {given} {byte} {last} {to} g exactly small is)
    none goes_on = absurd (some before (sym is ∙ none))
  where
    some : (bs : List ℕ) → bs ++ (byte ∷ []) ≡ [] → ⊥
    some [] e = cc
    some (x ∷ bs) e = cc
no_reads gives from to given ended (at_end g exactly) none goes_on = cc

not_ended : (ended : Bool) → (ended ≡ true → ⊥) → ended ≡ false
not_ended true never = absurd (never refl)
not_ended false never = refl

-- a program whose `main` has no parameter, and its image
module _ (text : List ℕ) (cells stack : ℕ) (file : List ℕ) (from : IsImageOf text cells stack file)
    (image : Image) (loads : Loads file image)
    (none : params from.program from.program.main ≡ 0) (steps : ℕ) where
  -- its run uses nothing of an input
  uses_nothing : (bytes : List ℕ) → IsBytes bytes → used bytes (run steps bytes (start_of image)) ≡
      0
  uses_nothing bytes are =
      let c = (carried text cells stack file from image loads).comes bytes are steps in
      let most = c.1.used in
      let told = takes_no_byte from.program none bytes c.0 in
      omega (arith, most, told)

  -- so none is given
  given_none : (given : List ℕ) → IsBytes given → length given ≤ used given
      (run steps given (start_of image)) → given ≡ []
  given_none given are uses = let nothing = uses_nothing given are
      in length_zero given (omega (arith, uses, nothing))

  -- nor asked for
  asks_nothing : (given : List ℕ) → IsBytes given → AsksForMore steps (start_of image) given → ⊥
  asks_nothing given are asks =
      let one : List ℕ = given ++ (0 ∷ []) in
      let nothing = uses_nothing one (one_byte_more given 0 are (omega arith)) in
      let left : length (run steps one (start_of image)).left ≡ 0 = ap length (asks 0) in
      let count : length one ≡ length given + 1 = length-append given (0 ∷ []) in
      omega (arith, nothing, left, count)

module _ {I K : Type 0} (i : SourceChange I) (o : SinkChange K) (text : List ℕ)
    (cells stack steps : ℕ) (file : List ℕ) (from : IsImageOf text cells stack file) where
  -- the program says this status, on whatever input begins with these bytes
  abbrev Said : (given : List ℕ) → (ended : Bool) → Status → Type 0
  Said given ended status =
      (bytes : List ℕ) → BeginsWith given ended bytes → IsBytes bytes
      → Says i o (HeapIsExceeded cells)
      (StackIsExceeded (largest_frame from.made.frames) (whole_words stack))
      (core_program_meaning from.program bytes) given
      (most_steps from.made.code from.made.addresses) steps status

  module _ (image : Image) (loads : Loads file image) (given : List ℕ) (ended : Bool) where
    said : (stop : Stop) → Stops i o image steps stop given ended
        → Said given ended (status_of_exit (status_of stop))
    said stop stops bytes begins are =
        let c = (carried text cells stack file from image loads).comes bytes are steps in
        let s = stops.stands bytes begins in
        let each = most_steps from.made.code from.made.addresses in
        let reaches = λ (n : ℕ) (enough : each * (n + 1) ≤ steps). paced text cells stack file from
        image loads bytes are n steps enough in
        let Heap = HeapIsExceeded cells in
        let Stack = StackIsExceeded (largest_frame from.made.frames) (whole_words stack) in
        says_stopped i o Heap Stack (core_program_meaning from.program bytes) image steps bytes
        given c each reaches stop
        (finish_is i o Heap Stack (core_program_meaning from.program bytes) image steps bytes given
        c each reaches stop s.0)
        (finishes i o Heap Stack (core_program_meaning from.program bytes) image steps bytes given c
        each reaches stop s.0) (stops.took bytes begins) s.1

    -- where `main` has no parameter nothing was read
    untouched : (stop : Stop) → Stops i o image steps stop given ended
        → params from.program from.program.main ≡ 0 → i.new ≡ i.old
    untouched stop stops none =
        let gave = stops.gave.reads in
        let are = are_bytes i.gives i.old i.new given ended gave in
        let used_up = gave_used i o steps given (start_of image) given
        (λ count. count ≤ used given (run steps given (start_of image)))
        (stops.stands given (itself given ended)).1 (omega arith) in
        no_reads i.gives i.old i.new given ended gave
        (given_none text cells stack file from image loads none steps given are used_up)
        (not_ended ended
        (λ e. asks_nothing text cells stack file from image loads none steps given are
        (stops.wanted e)))

    runs_from : (status : Status) (stop : Stop) → Stops i o image steps stop given ended
        → RunsTo i o image steps status given ended → Said given ended status
        → Runs i o text cells stack steps status
    runs_from status stop stops ran says = record {
      file = file;
      from = from;
      image = image;
      loads = loads;
      given = given;
      ended = ended;
      are_bytes = are_bytes i.gives i.old i.new given ended stops.gave.reads;
      unread = untouched stop stops;
      ran = ran;
      says = says;
    }

    -- no program says this of the bytes that were given
    never : (status : Status) → ReadExactly i given ended → Said given ended status
        → Says i o (HeapIsExceeded cells)
        (StackIsExceeded (largest_frame from.made.frames) (whole_words stack))
        (core_program_meaning from.program given) given
        (most_steps from.made.code from.made.addresses) steps status
    never status gave says = says given (itself given ended)
        (are_bytes i.gives i.old i.new given ended gave.reads)

    -- where its last step in the code of the procedures stood
    stood : (stop : Stop) → Stops i o image steps stop given ended → (c : RunCounts)
        → AreCounts image steps given ended c → status_of_exit (status_of stop) ≡ NoAlternative
        → (bytes : List ℕ) → BeginsWith given ended bytes → IsBytes bytes
        → IsLastBefore from.stops.stops (trace steps bytes (start_of image)) (c.link - 4)
    stood stop ran c are is bytes begins all =
        told_by (run steps bytes (start_of image)).end from.stops.stops
        (trace steps bytes (start_of image)) c.link
        (tells_last text cells stack file from image loads bytes all steps)
        ((ran.stands bytes begins).0 ∙ exits_with_3 stop is) (are.x5 bytes begins)

    -- the cells that its low code bound
    bound : (stop : Stop) → Stops i o image steps stop given ended → (c : RunCounts)
        → AreCounts image steps given ended c → (cost : Cost) → (at : ℕ)
        → IsRunCost (heap_bytes from.made.g 1) cells from.made.addresses
        (names_of from.made.g.procs) (status_of_exit (status_of stop)) at c cost
        → exits_within_heap (status_of_exit (status_of stop)) ≡ true
        → (bytes : List ℕ) → BeginsWith given ended bytes → IsBytes bytes
        → cost.cells ≡ Some (cells_bound from.made.low (frame_words from.made.frames) cells
        (whole_words stack) from.made.addresses (start_of image) bytes steps)
    bound stop ran c are cost at is within bytes begins all =
        let low = from.made.low in
        let n = cells_bound low (frame_words from.made.frames) cells (whole_words stack)
        from.made.addresses (start_of image) bytes steps in
        let tells = tells_cells text cells stack file from image loads bytes all steps in
        let t = counted_by (run steps bytes (start_of image)).end stop c.next_cell n cells
        (heap_start + 4 * low.width * n)
        (λ code s ne e. let t = tells code s ne e in (t.fits, t.next)) within
        (ran.stands bytes begins).0
        (are.x3 bytes begins) in
        let width = from.made.image.lowers.width in
        let bytes_are : heap_bytes from.made.g 1 ≡ 4 * low.width = omega (arith, width) in
        is.cells_bound
        ∙ ap (λ k. Some k) (cells_counted (heap_bytes from.made.g 1) low.width n cells c.next_cell
        bytes_are (omega (arith, width)) t.0 t.1)

    -- the run stopped, and what it cost
    costs_to : (stop : Stop) → Stops i o image steps stop given ended
        → Said given ended (status_of_exit (status_of stop))
        → (c : RunCounts) → AreCounts image steps given ended c → (cost : Cost)
        → IsRunCost (heap_bytes from.made.g 1) cells from.made.addresses
        (names_of from.made.g.procs) (status_of_exit (status_of stop)) (c.link - 4) c cost
        → RunsAtCost i o text cells stack steps (status_of_exit (status_of stop)) (Some cost)
    unfolding runs_from
    costs_to Steps ran says c are cost is = (
      runs_from (status_of_exit (status_of Steps)) Steps ran ran says,
      (
        refl,
        record {
          counts = c;
          are = are;
          at = c.link - 4;
          stood = stood Steps ran c are;
          cost_is = is;
          cells_are = bound Steps ran c are cost (c.link - 4) is;
        },
      ),
    )
    costs_to (Exit zero) ran says c are cost is = (
      runs_from (status_of_exit (status_of (Exit 0))) (Exit 0) ran ran says,
      (
        refl,
        record {
          counts = c;
          are = are;
          at = c.link - 4;
          stood = stood (Exit zero) ran c are;
          cost_is = is;
          cells_are = bound (Exit zero) ran c are cost (c.link - 4) is;
        },
      ),
    )
    costs_to (Exit (suc zero)) ran says c are cost is
        = absurd (never (status_of_exit (status_of (Exit 1))) ran.gave says)
    costs_to (Exit (suc (suc zero))) ran says c are cost is
        = absurd (never (status_of_exit (status_of (Exit 2))) ran.gave says)
    costs_to (Exit (suc (suc (suc zero)))) ran says c are cost is = (
      runs_from (status_of_exit (status_of (Exit 3))) (Exit 3) ran ran says,
      (
        refl,
        record {
          counts = c;
          are = are;
          at = c.link - 4;
          stood = stood (Exit 3) ran c are;
          cost_is = is;
          cells_are = bound (Exit 3) ran c are cost (c.link - 4) is;
        },
      ),
    )
    costs_to (Exit (suc (suc (suc (suc zero))))) ran says c are cost is = (
      runs_from (status_of_exit (status_of (Exit 4))) (Exit 4) ran ran says,
      (
        refl,
        record {
          counts = c;
          are = are;
          at = c.link - 4;
          stood = stood (Exit 4) ran c are;
          cost_is = is;
          cells_are = bound (Exit 4) ran c are cost (c.link - 4) is;
        },
      ),
    )
    costs_to (Exit (suc (suc (suc (suc (suc zero)))))) ran says c are cost is = (
      runs_from (status_of_exit (status_of (Exit 5))) (Exit 5) ran ran says,
      (
        refl,
        record {
          counts = c;
          are = are;
          at = c.link - 4;
          stood = stood (Exit 5) ran c are;
          cost_is = is;
          cells_are = bound (Exit 5) ran c are cost (c.link - 4) is;
        },
      ),
    )
    costs_to (Exit (suc (suc (suc (suc (suc (suc k))))))) ran says c are cost is
        = absurd (never (status_of_exit (status_of (Exit (suc (suc (suc (suc (suc (suc k)))))))))
        ran.gave says)
    costs_to (Trap kind pc) ran says c are cost is = absurd
        (never (status_of_exit (status_of (Trap kind pc))) ran.gave says)

  stopped_costs : (status : Status) (h : (image : Image) × Loads file image
      × ((stop : Stop) × (status_of stop ≡ status) × OfGiven i o (Stops i o image steps stop)))
      → (c : RunCounts) → AreCounts h.0 steps h.2.2.0 h.2.2.1.0 c → (cost : Cost)
      → IsRunCost (heap_bytes from.made.g 1) cells from.made.addresses (names_of from.made.g.procs)
      (status_of_exit status) (c.link - 4) c cost
      → RunsAtCost i o text cells stack steps (status_of_exit status) (Some cost)
  stopped_costs status h c are cost is =
      let g = h.2.2 in
      let is' = subst
      (λ s. IsRunCost (heap_bytes from.made.g 1) cells from.made.addresses
      (names_of from.made.g.procs) (status_of_exit s) (c.link - 4) c cost) (sym h.2.1) is in
      subst (λ s. RunsAtCost i o text cells stack steps (status_of_exit s) (Some cost)) h.2.1
      (costs_to h.0 h.1 g.0 g.1.0 h.2.0 g.1.1 (said h.0 h.1 g.0 g.1.0 h.2.0 g.1.1) c are cost is')

  costs : (status : Status) (h : Execution i o file steps status) (c : RunCounts)
      → CountsOfExecution i o file steps status h c
      → (cost : Cost) → IsRunCost (heap_bytes from.made.g 1) cells from.made.addresses
      (names_of from.made.g.procs)
      (status_of_exit status) (c.link - 4) c cost
      → RunsAtCost i o text cells stack steps (status_of_exit status) (Some cost)
  costs (Refused k at) h c are cost is = absurd are
  costs OutOfMemory h c are cost is = absurd are
  costs ReadFault h c are cost is = absurd are
  costs WriteFault h c are cost is = absurd are
  costs status h c are cost is = stopped_costs status h c are cost is

  -- a call failed
  broken : (fault : Fault) (image : Image) → Loads file image → (given : List ℕ) (ended : Bool)
      → IsBytes given → (f : Fails i o image steps fault given ended)
      → (bytes : List ℕ) → BeginsWith given ended bytes → IsBytes bytes
      → Breaks i o (HeapIsExceeded cells)
      (StackIsExceeded (largest_frame from.made.frames) (whole_words stack))
      (core_program_meaning from.program bytes) given
  broken fault image loads given ended are f bytes begins all =
      let c = (carried text cells stack file from image loads).comes bytes all steps in
      record {
        units = c.0;
        took = took_front i o steps bytes (start_of image) fault
            (core_program_meaning from.program bytes c.0).out (f.puts bytes begins) c.1.output;
        gave
            = let uses = f.uses bytes begins in let most = c.1.used in omega (arith, uses, most);
      }

  -- the status of the run of a text's file is that of the text, where it did not stop
  outcome : (status : Status) → Execution i o file steps status → has_stopped status ≡ false
      → Outcome i o text cells stack steps (status_of_exit status)
  outcome (Refused k at) h stays = absurd (loadable file _ k at from.made.image.loads h.0)
  outcome OutOfMemory h stays = h
  outcome ReadFault h stays =
      let g = h.2 in
      let gave = g.1.1.gave in
      let are = are_bytes i.gives i.old gave.last g.0 g.1.0 gave.gave.reads in record {
        file = file;
        from = from;
        image = h.0;
        loads = h.1;
        given = g.0;
        ended = g.1.0;
        are_bytes = are;
        unread = λ none. absurd
            (asks_nothing text cells stack file from h.0 h.1 none steps g.0 are
            (g.1.1.wanted (inr refl)));
        ran = g.1.1;
        says = λ bytes begins all. broken Read h.0 h.1 g.0 g.1.0 are g.1.1 bytes begins all;
      }
  outcome WriteFault h stays =
      let g = h.2 in
      let are = are_bytes i.gives i.old i.new g.0 g.1.0 g.1.1.gave.reads in record {
        file = file;
        from = from;
        image = h.0;
        loads = h.1;
        given = g.0;
        ended = g.1.0;
        are_bytes = are;
        unread = λ none.
            no_reads i.gives i.old i.new g.0 g.1.0 g.1.1.gave.reads
            (given_none text cells stack file from h.0 h.1 none steps g.0 are
            (g.1.1.uses g.0 (itself g.0 g.1.0)))
            (not_ended g.1.0
            (λ e. asks_nothing text cells stack file from h.0 h.1 none steps g.0 are
            (g.1.1.wanted (inl e))));
        ran = g.1.1;
        says = λ bytes begins all. broken Write h.0 h.1 g.0 g.1.0 are g.1.1 bytes begins all;
      }
  outcome status h stays =
      let both : false ≡ true = sym stays ∙ ap has_stopped (sym h.2.1) ∙ stop_stops h.2.0
      in absurd cc

  -- the status and the cost of the run of a text's file are those of the text, under the status's
  -- name
  pub outcome_at_cost : (cell_bytes : ℕ) (starts : List ℕ) (names : List (List ℕ))
      → heap_bytes from.made.g 1 ≡ cell_bytes → starts ≡ from.made.addresses
      → names ≡ names_of from.made.g.procs
      → (status : Status) (counts : Option RunCounts)
      → ExecutesWithCounts i o file steps status counts
      → (cost : Option Cost) → IsCostOf cell_bytes cells starts names (status_of_exit status) counts
      cost
      → RunsAtCost i o text cells stack steps (status_of_exit status) cost
  outcome_at_cost cell_bytes starts names bytes are named' status None h None is =
      (outcome status h.0 h.1, named_stops status ∙ h.1)
  outcome_at_cost cell_bytes starts names bytes are named' status None h (Some cost) is = absurd is
  outcome_at_cost cell_bytes starts names bytes are named' status (Some c) h None is = absurd is
  outcome_at_cost cell_bytes starts names bytes are named' status (Some c) h (Some cost) is =
      costs status h.0 c h.1 cost
      (subst (λ n. IsRunCost n cells from.made.addresses (names_of from.made.g.procs)
      (status_of_exit status)
      (c.link - 4) c cost) (sym bytes)
      (subst (λ as'. IsRunCost cell_bytes cells as' (names_of from.made.g.procs)
      (status_of_exit status) (c.link - 4)
      c cost) are
      (subst (λ ns. IsRunCost cell_bytes cells starts ns (status_of_exit status) (c.link - 4) c
      cost) named' is)))

-- ---- texts that are too long

pub not_run_long : (front text : List ℕ) → 1048576 < length front → 1048576 < length text
    → (k at : ℕ) → IsRunRefusal front k at → IsRunRefusal text k at
not_run_long front text short long k at (inl h) = inl (refused_long front text short long k at h)
not_run_long front text short long k at (inr h) = accepted_short front h.1.source h.1.program short
    h.1.accepted

pub outcome_long : {I K : Type 0} (i : SourceChange I) (o : SinkChange K) (front text : List ℕ)
    (cells stack steps : ℕ)
    → 1048576 < length front → 1048576 < length text → (status : Status)
    → (h : Outcome i o front cells stack steps status)
    → (cost : Option Cost) → CostsText i o front cells stack steps status h cost
    → RunsAtCost i o text cells stack steps status cost
outcome_long i o front text cells stack steps short long (Refused k at) h None none =
    ((not_run_long front text short long k at h.0, h.1), none)
outcome_long i o front text cells stack steps short long (Refused k at) h (Some cost) is = absurd is
outcome_long i o front text cells stack steps short long OutOfMemory h None none = (h, none)
outcome_long i o front text cells stack steps short long OutOfMemory h (Some cost) is = absurd is
outcome_long i o front text cells stack steps short long _ h cost is =
    accepted_short front h.from.source h.from.program short h.from.accepted
