-- Runs of images on no input and into a sink of 4,096 bytes.
use Rattle.std.proofs.Common.{◌≡◌, ◌≢◌, ℕ, zero, suc, ◌+◌, ◌*◌, ◌<◌, ◌≤◌, Bool, List, [], length, take, drop, Option, Some, refl, sym, ap, ◌∙◌, subst, arith}
use Rattle.std.specs.List.{concat}
use Rattle.core_meaning.specs.Told.{core_program_meaning}
use Rattle.elf32.specs.Image.{Image}
use Rattle.elf32.specs.Rules.{Loads}
use Rattle.headline.specs.Carries.{Comes, Finishes, ReachesResult}
use Rattle.grin_io.specs.Memory.{Store, no_calls}
use Rattle.grin_io.specs.Changes.{SourceChange, SinkChange, source_change, sink_change, BeginsWith}
use Rattle.rv32_machine.specs.Steps.{start_of}
use Rattle.rv32_machine.specs.Runs.{run, pieces}
use Rattle.rv32_machine.proofs.Loops.{pieces_are_the_output}
use Rattle.rv32_machine.specs.declared.machine.Stop.{Stop}
use Rattle.rv32_machine.specs.declared.machine.Stop.TheVariants.{Steps, Exit, Trap}
use Rattle.grin_compile.specs.Limits.{HeapIsExceeded, StackIsExceeded, largest_frame}
use Rattle.grin_compile.specs.Words.{most_steps}
use Rattle.text_commands.specs.declared.status.Status.{Status}
use Rattle.text_commands.specs.declared.status.Status.TheVariants.{Done, Refused, NoAlternative, HeapFull, StackFull, StepLimit, OutOfMemory, ReadFault, WriteFault}
use Rattle.grin_driver.specs.Execution.{OfGiven, Stops, Execution, status_of}
use Rattle.grin_driver.specs.Outcome.{status_of_exit}
use Rattle.grin_driver.specs.Generating.{IsDefaultImageOf, EndsWithStatus, IsOutput, WritesTooMuch, IsUndone, seen_of, status_by}
use Rattle.grin_driver.proofs.Outcomes.{loadable, carried, paced, finish_at, finish_by, finishes}
use Rattle.grin_driver.proofs.Stores.{Stores, Holds, puts_hold, broke_is_long}

-- what a source in memory that never fails does
abbrev pub no_input : (old new : List ℕ) → SourceChange (List ℕ)
no_input old new =
    source_change
    (λ (s : List ℕ) (room : ℕ) (answer : Option (List ℕ)) (t : List ℕ).
    (answer ≡ Some (take room s)) × (t ≡ drop room s)) (λ (s : List ℕ). Some s)
    (λ (s : List ℕ). s ≡ []) (λ (s : List ℕ). 0) old new

module _ (text file : List ℕ) (from : IsDefaultImageOf text file) (rest : List ℕ) (old new : Store)
    (begun : Holds old []) where
  -- no input, which never fails
  abbrev input : SourceChange (List ℕ)
  input = no_input [] rest

  abbrev sink : SinkChange Store
  sink = sink_change Stores (λ (s : Store). Some s.taken) (λ (s : Store). s.calls.faults) old new

  -- what the status of the run says of the program of the image, and of the sink
  abbrev pub Came : Status → Type 0
  Came Done = IsOutput from new.taken × (length new.taken ≤ 4096)
  Came WriteFault = WritesTooMuch from
  Came (Refused rule number) = ⊥
  Came status = IsUndone from status

  module _ (image : Image) (loads : Loads file image) (given : List ℕ) (over : Bool) (stop : Stop)
      (stops : Stops input sink image 1000000000 stop given over) where
    begun_with : BeginsWith given over []
    begun_with = (stops.gave.content [] refl).0

    held : Holds new (concat (pieces 1000000000 [] (start_of image)))
    held = puts_hold (pieces 1000000000 [] (start_of image)) old new [] begun
        (stops.took [] begun_with).puts

    -- the sink took what the run wrote
    taken_is : new.taken ≡ (seen_of image).out
    taken_is = ap (λ (s : Store). s.taken) held.is ∙ pieces_are_the_output 1000000000 []
        (start_of image)

    few : length (seen_of image).out ≤ 4096
    few = subst (λ (l : List ℕ). length l ≤ 4096)
        (pieces_are_the_output 1000000000 [] (start_of image)) held.room

    told : (n : ℕ) × Comes (HeapIsExceeded 1000000)
        (StackIsExceeded (largest_frame from.made.frames) 1048576)
        (core_program_meaning from.program []) n (seen_of image)
    told = (carried text 1000000 1048576 file from image loads).comes [] tt 1000000000

    reaches : (n : ℕ) → most_steps from.made.code from.made.addresses * (n + 1) ≤ 1000000000
        → ReachesResult (core_program_meaning from.program [] n) (seen_of image)
    reaches n enough = paced text 1000000 1048576 file from image loads [] tt n 1000000000 enough

    finish : Finishes (HeapIsExceeded 1000000)
        (StackIsExceeded (largest_frame from.made.frames) 1048576)
        (core_program_meaning from.program []) told.0 (seen_of image) (finish_by stop)
    finish =
        finishes input sink (HeapIsExceeded 1000000)
        (StackIsExceeded (largest_frame from.made.frames) 1048576)
        (core_program_meaning from.program []) image 1000000000 [] given told
        (most_steps from.made.code from.made.addresses) reaches stop
        (stops.stands [] begun_with).0

    ended : (status : Status) → status_by (finish_by stop) ≡ Some status
        → EndsWithStatus from status
    ended status is = record {
      image = image;
      loads = loads;
      few = few;
      ended = ap status_by
          (finish_at (run 1000000000 [] (start_of image)).end ∙ ap finish_by
          (stops.stands [] begun_with).0) ∙ is;
      units = told.0;
      comes = told.1;
      keeps_pace = reaches;
    }

  came_at : (image : Image) → Loads file image → (given : List ℕ) (over : Bool) (stop : Stop)
      → Stops input sink image 1000000000 stop given over → Came (status_of_exit (status_of stop))
  unfolding ended told
  came_at image loads given over Steps stops = ended image loads given over Steps stops StepLimit
      refl
  came_at image loads given over (Exit zero) stops = (
    record {
      ended = ended image loads given over (Exit 0) stops Done refl;
      is_output
          = taken_is image loads given over (Exit 0) stops ∙
          (finish image loads given over (Exit 0) stops).0;
    },
    subst (λ (l : List ℕ). length l ≤ 4096) (sym (taken_is image loads given over (Exit 0) stops))
        (few image loads given over (Exit 0) stops),
  )
  came_at image loads given over (Exit (suc zero)) stops
      = absurd (finish image loads given over (Exit 1) stops)
  came_at image loads given over (Exit (suc (suc zero))) stops
      = absurd (finish image loads given over (Exit 2) stops)
  came_at image loads given over (Exit (suc (suc (suc zero)))) stops
      = ended image loads given over (Exit 3) stops NoAlternative refl
  came_at image loads given over (Exit (suc (suc (suc (suc zero))))) stops
      = ended image loads given over (Exit 4) stops HeapFull refl
  came_at image loads given over (Exit (suc (suc (suc (suc (suc zero)))))) stops
      = ended image loads given over (Exit 5) stops StackFull refl
  came_at image loads given over (Exit (suc (suc (suc (suc (suc (suc k))))))) stops
      = absurd (finish image loads given over (Exit (suc (suc (suc (suc (suc (suc k))))))) stops)
  came_at image loads given over (Trap kind pc) stops
      = absurd (finish image loads given over (Trap kind pc) stops)

  came_to : (status : Status) → (image : Image) × Loads file image
      × ((stop : Stop) × (status_of stop ≡ status) × OfGiven input sink
      (Stops input sink image 1000000000 stop)) → Came (status_of_exit status)
  came_to status h = subst (λ (s : Status). Came (status_of_exit s)) h.2.1
      (came_at h.0 h.1 h.2.2.0 h.2.2.1.0 h.2.0 h.2.2.1.1)

  pub came : (status : Status) → Execution input sink file 1000000000 status
      → Came (status_of_exit status)
  came (Refused k at) h = absurd (loadable file _ k at from.made.image.loads h.0)
  came OutOfMemory h = tt
  came ReadFault h = absurd (omega (arith, h.2.1.1.raised))
  came WriteFault h = record {
    image = h.0;
    loads = h.1;
    many = subst (λ (l : List ℕ). 4096 < length l)
        (pieces_are_the_output 1000000000 [] (start_of h.0))
        (broke_is_long old new (pieces 1000000000 [] (start_of h.0)) begun
        (h.2.1.1.puts [] (h.2.1.1.gave.content [] refl).0));
  }
  came status h = came_to status h

  -- what is not done and not past the room
  pub other : (status : Status) → status ≢ Done → status ≢ WriteFault → Came status
      → IsUndone from status
  other Done is is' h = absurd (is refl)
  other WriteFault is is' h = absurd (is' refl)
  other (Refused k at) is is' h = absurd h
  other status is is' h = h

  pub came_from : (first : List ℕ) → first ≡ [] → (status : Status)
      → Execution (no_input first rest) sink file 1000000000 status → Came (status_of_exit status)
  came_from first none status h =
      came status
      (subst (λ (l : List ℕ). Execution (no_input l rest) sink file 1000000000 status) none h)

-- a sink that took nothing yet
pub begun_store : (store : Store) (planned : List ℕ) → planned ≡ []
    → store ≡ record { taken = []; capacity = 4096; calls = no_calls planned } → Holds store []
begun_store store planned none is = record {
  made = 0;
  faults = 0;
  is = is ∙ ap (λ (l : List ℕ). record { taken = []; capacity = 4096; calls = no_calls l }) none;
  room = omega arith;
}
