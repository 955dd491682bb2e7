-- What is known, which inclusions wait, and what is sure of the others.
use Rattle.std.specs.Prelude.{◌≡◌, ◌<◌, ◌≤◌, ℕ, ◌⊎◌, Bool, true, List, Some, slice_get, length}
use Rattle.flow_system.specs.declared.fact.Place.{Place}
use Rattle.flow_system.specs.Inclusions.{Inclusion}
use Rattle.flow_system.specs.Tables.{Tables}
use Rattle.points_to.specs.declared.worklist.Worklist.{Worklist}
use Rattle.points_to.specs.Held.{In}
use Rattle.points_to.specs.Asked.{facts_demanded}
use Rattle.points_to.specs.Known.{held, GrowsByFacts}
use Rattle.points_to.specs.Reads.{reads}
use Rattle.points_to.specs.Rounds.{InEvery, Satisfied}
use Rattle.points_to.specs.Waiting.{waiting, readers_of}

-- the inclusion with this number waits
abbrev pub IsWaiting : Worklist → ℕ → Type 0
IsWaiting w n = In n (waiting w.pending)

-- it is registered as a reader of a place
abbrev pub IsReader : Worklist → Place → ℕ → Type 0
IsReader w q n = In n (readers_of w.readers q)

-- an inclusion is registered at places, beside what was registered; what is known and what waits
-- stay
pub record RegistersAt (old new : Worklist) (n : ℕ) (qs : List Place) : Type 0 where
  pub same_facts : new.facts ≡ old.facts
  pub same_pending : new.pending ≡ old.pending
  pub kept : (q : Place) (m : ℕ) → IsReader old q m → IsReader new q m
  pub put : (q : Place) → In q qs → IsReader new q n

-- what waited waits, and each reader is registered still or waits, all of a place that is woken
pub record WakesReaders (old new : Worklist) (q : Place) : Type 0 where
  pub kept : (n : ℕ) → IsWaiting old n → IsWaiting new n
  pub moved : (r : Place) (n : ℕ) → IsReader old r n → IsReader new r n ⊎ IsWaiting new n
  pub woken : (n : ℕ) → IsReader old q n → IsWaiting new n

-- what waited waits, each reader is registered still or waits, and where more is known all readers
-- wait
pub record WakesWhereChanged (old new : Worklist) : Type 0 where
  pub kept : (n : ℕ) → IsWaiting old n → IsWaiting new n
  pub moved : (q : Place) (n : ℕ) → IsReader old q n → IsReader new q n ⊎ IsWaiting new n
  pub woken : (q : Place)
      → (held new.facts q ≡ held old.facts q) ⊎ ((n : ℕ) → IsReader old q n → IsWaiting new n)

-- the count of facts does not fall; it rises, or fewer wait, where there is more to do
pub record MakesProgress (old new : Worklist) (more : Bool) : Type 0 where
  pub no_less : old.facts.count ≤ new.facts.count
  pub on : more ≡ true
      → (old.facts.count < new.facts.count)
      ⊎ (length (waiting new.pending) < length (waiting old.pending))

-- the inclusion c with number n gets what it asks for, and is registered at each place that it
-- reads, or waits again
pub record SatisfiesInclusion (p : Tables) (c : Inclusion) (n : ℕ) (old new : Worklist)
    : Type 0 where
  pub grown : GrowsByFacts (held old.facts) (held new.facts) (facts_demanded p (held old.facts) c)
  pub kept : (m : ℕ) → IsWaiting old m → IsWaiting new m
  pub moved : (q : Place) (m : ℕ) → IsReader old q m → IsReader new q m ⊎ IsWaiting new m
  pub registered : (q : Place) → In q (reads p (held old.facts) c)
      → IsReader new q n ⊎ IsWaiting new n
  pub woken : (q : Place)
      → (held new.facts q ≡ held old.facts q) ⊎ ((m : ℕ) → IsReader old q m → IsWaiting new m)
  pub woken_itself : (q : Place) → In q (reads p (held old.facts) c)
      → (held new.facts q ≡ held old.facts q) ⊎ IsWaiting new n
  pub no_less : old.facts.count ≤ new.facts.count
  pub more : (old.facts.count < new.facts.count) ⊎ (waiting new.pending ≡ waiting old.pending)

module _ (p : Tables) (cs : List Inclusion) where
  -- an inclusion is satisfied, and registered at each place that it reads
  pub record IsSettled (w : Worklist) (n : ℕ) (c : Inclusion) : Type 0 where
    pub satisfied : Satisfied p cs (held w.facts) c
    pub registered : (q : Place) → In q (reads p (held w.facts) c) → IsReader w q n

  -- every solution has what is known, and whatever does not wait is settled
  pub record WorklistInvariant (w : Worklist) : Type 0 where
    pub sound : InEvery p cs (held w.facts)
    pub settled : (n : ℕ) (c : Inclusion) → slice_get cs n ≡ Some c
        → IsWaiting w n ⊎ IsSettled w n c
