-- How many steps of a run are done.
use Rattle.std.proofs.Common.{◌≡◌, ℕ, ◌+◌, ◌-◌, ◌<◌, ◌≤◌, List, Bool, true, false, refl, sym, ap, ◌∙◌, arith}
use Rattle.rv32_machine.specs.declared.machine.Stop.{Stop}
use Rattle.rv32_machine.specs.declared.machine.Stop.TheVariants.{Steps}
use Rattle.rv32_machine.specs.Steps.{State, Stand}
use Rattle.rv32_machine.specs.Runs.{MachineEnd, Going, Exited, Stopped, run, has_ended, StandsAt, IsCount}
use Rattle.rv32_machine.proofs.Composed.{end_stays}

pub ends : (e : MachineEnd) (stop : Stop) (m : Stand) → (stop ≡ Steps → ⊥) → StandsAt e stop m
    → has_ended e ≡ true
ends (Going s) stop m ended h = absurd (ended h.0)
ends (Exited code s) stop m ended h = refl
ends (Stopped kind s) stop m ended h = refl

-- a run that has ended is that of all steps
pub all_steps : (steps k : ℕ) (i : List ℕ) (s : State) (stop : Stop) (m : Stand) → k < steps
    → (stop ≡ Steps → ⊥) → StandsAt (run (k + 1) i s).end stop m → run steps i s ≡ run (k + 1) i s
all_steps steps k i s stop m lt ended h =
    let count : steps ≡ (k + 1) + (steps - (k + 1)) = omega arith in
    ap (λ n. run n i s) count ∙ end_stays (k + 1) (steps - (k + 1)) i s
    (ends (run (k + 1) i s).end stop m ended h)

goes_on : (e : MachineEnd) (m : Stand) → StandsAt e Steps m → has_ended e ≡ false
goes_on (Going s) m h = refl
goes_on (Exited code s) m h = cc
goes_on (Stopped kind s) m h = cc

-- what goes on now went on before
went_on : (m k : ℕ) → m ≤ k → (i : List ℕ) (s : State) → has_ended (run k i s).end ≡ false
    → has_ended (run m i s).end ≡ false
went_on m k le i s going = go (has_ended (run m i s).end) refl
  where
    go : (b : Bool) → has_ended (run m i s).end ≡ b → b ≡ false
    go false e = refl
    go true e =
        let count : m + (k - m) ≡ k = omega (arith, le) in
        let stays : has_ended (run k i s).end ≡ true
        = ap (λ n. has_ended (run n i s).end) (sym count) ∙ ap (λ r. has_ended r.end)
        (end_stays m (k - m) i s e) ∙ e in
        sym stays ∙ going

-- all of them, where the run goes on
pub count_all : (steps : ℕ) (i : List ℕ) (s : State) (m : Stand)
    → StandsAt (run steps i s).end Steps m → IsCount steps steps i s
count_all steps i s m h = record {
  goes = λ n lt. let within : n ≤ steps = omega (arith, lt)
      in went_on n steps within i s (goes_on (run steps i s).end m h);
  same = refl;
  all = λ e. refl;
}

-- up to the one that ends it
pub count_ends : (k steps : ℕ) (i : List ℕ) (s : State) (stop : Stop) (m new : Stand) → k < steps
    → (stop ≡ Steps → ⊥) → StandsAt (run k i s).end Steps m
    → StandsAt (run (k + 1) i s).end stop new → IsCount (k + 1) steps i s
count_ends k steps i s stop m new lt ended before h = record {
  goes = λ n less. let within : n ≤ k = omega (arith, less)
      in went_on n k within i s (goes_on (run k i s).end m before);
  same = all_steps steps k i s stop new lt ended h;
  all = λ e. let no : true ≡ false = sym (ends (run (k + 1) i s).end stop new ended h) ∙ e in cc;
}
