-- Variables that get their places one after another, as the walk records them.
use Rattle.std.proofs.Common.{◌≡◌, ℕ, zero, suc, ◌+◌, ◌<◌, ◌≤◌, true, List, [], ◌∷◌, ◌++◌, take, length, Option, Some, None, slice_get, Result, Ok, Err, OnOk, inl, inr, refl, sym, ap, ◌∙◌, subst, arith}
use Rattle.std.specs.Prelude.{slice_set}
use Rattle.std.proofs.lemmas.Option.{slice_get_within}
use Rattle.seq.proofs.Lists.{get_left}
use Rattle.parallel_move.specs.declared.Spot.{Spot}
use Rattle.parallel_move.specs.declared.Spot.TheVariants.{Reg, Slot}
use Rattle.register_alloc.specs.Live.{IsLive}
use Rattle.variable_uses.specs.Uses.{AreUses}
use Rattle.register_alloc.specs.Holders.{HoldsRegister, new_holder, AreStillUsed, AreRegisters, AssignsPlace, register, slot, KeepsGivenPlaces, SlotsAreNumbered, in_register, in_slot, variables_of, Keeps}
use Rattle.register_alloc.specs.Point.{SameText, SamePlaces, GivesPlace, GivesSlot, Grows, AddsPlaces, AllGiven, Binds, WalksCall}
use Rattle.register_alloc.specs.declared.holders.Holder.{Holder}
use Rattle.register_alloc.specs.declared.registers.Given.{Given}
use Rattle.register_alloc.specs.declared.registers.CallSite.{CallSite}
use Rattle.register_alloc.specs.declared.registers.Registers.{Registers}
use Rattle.register_alloc.specs.declared.registers.Text.{Text}
use Rattle.register_alloc.proofs.Lists.{among_first, got_after}
use Rattle.register_alloc.proofs.Keeping.{give_step, none_given}
use Rattle.register_alloc.proofs.Walking.{agrees_old, grows_on, grows_not, pruned, bound, before_same}
use Rattle.register_alloc.proofs.Walked.{grouped, nothing_more}
use Rattle.seq.specs.Lists.{is_among}
use Rattle.seq.proofs.Counted.{among_left, among_right}

numbered_step : (held held' : List (Option Holder)) (slots slots' x : ℕ) (spot : Spot)
    (gs : List Given) → AssignsPlace held slots x spot held' slots' → SlotsAreNumbered gs slots
    → SlotsAreNumbered (gs ++ (record { variable = x; spot = spot } ∷ [])) slots'
numbered_step held _ slots _ x _ gs (register r lt free) n = in_register x r n lt
numbered_step held _ slots _ x _ gs (slot all) n = in_slot x n

slots_step : (held held' : List (Option Holder)) (slots slots' x : ℕ) (spot : Spot)
    → AssignsPlace held slots x spot held' slots' → slots ≤ slots'
slots_step held _ slots _ x _ (register r lt free) = omega arith
slots_step held _ slots _ x _ (slot all) = omega arith

extends_push : (old new : List Given) (g : Given) → new ≡ old ++ (g ∷ []) → KeepsGivenPlaces old new
extends_push old new g is k h there = subst (λ l. slice_get l k ≡ Some h) (sym is)
    (get_left old (g ∷ []) k h there)

pub gives_grows : (x : ℕ) (old new : Registers) (held held' : List (Option Holder))
    → GivesPlace x old held new held' → Grows old new
gives_grows x old new held held' g = record {
  extends = extends_push old.given.items new.given.items _ g.given;
  slots = slots_step held held' old.slots new.slots x g.spot g.step;
  numbered = λ n. subst (λ l. SlotsAreNumbered l new.slots) (sym g.given)
      (numbered_step held held' old.slots new.slots x g.spot old.given.items g.step n);
}

pub variables_more : (gs : List Given) (g : Given) → variables_of (gs ++ (g ∷ [])) ≡ variables_of gs
    ++ (g.variable ∷ [])
variables_more [] g = refl
variables_more (h ∷ gs) g = ap (λ l. h.variable ∷ l) (variables_more gs g)

pub take_next : (xs : List ℕ) (i x : ℕ) → slice_get xs i ≡ Some x → take (suc i) xs ≡ take i xs
    ++ (x ∷ [])
take_next [] i x e = cc
take_next (y ∷ xs) zero x e = let q : y ≡ x = cc in ap (λ z. z ∷ []) q
take_next (y ∷ xs) (suc i) x e = ap (λ l. y ∷ l) (take_next xs i x e)

-- what a walk has given so far, of these variables
pub record SoFar (xs : List ℕ) (old : Registers) (held : List (Option Holder)) (new : Registers)
    (held' : List (Option Holder)) : Type 0 where
  pub giving : AllGiven xs old held new held'
  pub adds : AddsPlaces xs old new
  pub stays : SameText old new
  pub calls : new.calls.items ≡ old.calls.items

pub nothing_given : (old : Registers) (held : List (Option Holder)) → SoFar [] old held old held
nothing_given old held = record {
  giving = λ place a scope c later none k. none_given place scope c later old.slots held k;
  adds = record { grows = grows_not old; variables = nothing_more (variables_of old.given.items) };
  stays = record { at = refl; block = refl };
  calls = refl;
}

pub one_more_given : (xs : List ℕ) (x : ℕ) (old mid new : Registers)
    (held held1 held2 : List (Option Holder)) → SoFar xs old held mid held1
    → GivesPlace x mid held1 new held2
    → SoFar (xs ++ (x ∷ [])) old held new held2
one_more_given xs x old mid new held held1 held2 s g = record {
  giving = λ place a scope c later fresh k.
      let grown : Grows mid new = gives_grows x mid new held1 held2 g in
      give_step place scope c later xs mid.slots new.slots held1 held2 x g.spot (fresh x (last xs))
      (a (length mid.given.items) (record { variable = x; spot = g.spot }) (there place)) g.step
      (s.giving place (agrees_old place mid new grown a) scope c later
      (λ y m. fresh y (among_left y xs (x ∷ []) m)) k);
  adds = record {
    grows = grows_on old mid new s.adds.grows (gives_grows x mid new held1 held2 g);
    variables = ap variables_of g.given ∙ variables_more mid.given.items
        (record { variable = x; spot = g.spot }) ∙ ap (λ l. l ++ (x ∷ [])) s.adds.variables ∙ sym
        (grouped (variables_of old.given.items) xs (x ∷ []));
  };
  stays = record { at = g.text.at ∙ s.stays.at; block = g.text.block ∙ s.stays.block };
  calls = g.calls ∙ s.calls;
}
  where
    last : (ys : List ℕ) → is_among x (ys ++ (x ∷ [])) ≡ true
    last ys = among_right x ys (x ∷ []) (among_first x x [] refl)

    there : (place : ℕ → Spot) → slice_get new.given.items (length mid.given.items) ≡ Some
        (record { variable = x; spot = g.spot })
    there place = subst
        (λ l. slice_get l (length mid.given.items) ≡ Some (record { variable = x; spot = g.spot }))
        (sym g.given) (got_after mid.given.items [] (record { variable = x; spot = g.spot }))

pub next_given : (vs : List ℕ) (i x : ℕ) (old mid new : Registers)
    (held held1 held2 : List (Option Holder)) → slice_get vs i ≡ Some x
    → SoFar (take i vs) old held mid held1 → GivesPlace x mid held1 new held2
    → SoFar (take (i + 1) vs) old held new held2
next_given vs i x old mid new held held1 held2 there s g =
    let n : suc i ≡ i + 1 = omega arith in
    subst (λ xs. SoFar xs old held new held2) (sym (take_next vs i x there) ∙ ap (λ k. take k vs) n)
    (one_more_given (take i vs) x old mid new held held1 held2 s g)

pub all_given : (vs : List ℕ) (i : ℕ) (old new : Registers) (held held' : List (Option Holder))
    → length vs ≤ i → SoFar (take i vs) old held new held' → SoFar vs old held new held'
all_given vs i old new held held' past s = subst (λ xs. SoFar xs old held new held')
    (whole vs i past) s
  where
    whole : (xs : List ℕ) (k : ℕ) → length xs ≤ k → take k xs ≡ xs
    whole [] zero h = refl
    whole [] (suc k) h = refl
    whole (x ∷ xs) zero h = absurd (omega arith)
    whole (x ∷ xs) (suc k) h = ap (λ l. x ∷ l) (whole xs k (omega arith))

pub gives_register : (x r : ℕ) (old new : Registers) (held held' : List (Option Holder)) → r < 24
    → slice_get held r ≡ Some None → new.given.items ≡ old.given.items
    ++ (record { variable = x; spot = Reg (8 + r) } ∷ [])
    → held' ≡ slice_set held r (Some (new_holder x)) → new.slots ≡ old.slots → SameText old new
    → new.calls.items ≡ old.calls.items → GivesPlace x old held new held'
gives_register x r old new held held' lt free given is slots text calls = record {
  spot = Reg (8 + r);
  given = given;
  step = subst (λ h. AssignsPlace held old.slots x (Reg (8 + r)) h new.slots) (sym is)
      (subst (λ n. AssignsPlace held old.slots x (Reg (8 + r))
      (slice_set held r (Some (new_holder x))) n) (sym slots) (register r lt free));
  text = text;
  calls = calls;
}

pub gives_slot : {E : Type 0} (x : ℕ) (r : Result (Unit {0}) E) (old new : Registers)
    (held : List (Option Holder)) → ((r : ℕ) → r < 24 → (d : Holder) × HoldsRegister held r d)
    → OnOk r (GivesSlot x old new) → OnOk r (GivesPlace x old held new held)
gives_slot x (Ok u) old new held all g = record {
  spot = Slot old.slots;
  given = g.given;
  step = subst (λ n. AssignsPlace held old.slots x (Slot old.slots) held n) (sym g.slots)
      (slot all);
  text = g.text;
  calls = g.calls;
}
gives_slot x (Err e) old new held all g = g

-- ---- a point at which variables are bound

pub binds_by : (text : Text) (xs : List ℕ) (end : ℕ) (r s t : Registers)
    (held live held' : List (Option Holder)) →
    ((used : List ℕ) → AreUses used text.uses → AreStillUsed used r.at end held live)
    → SameText r s → SamePlaces r s → AllGiven xs s live t held' → SameText s t
    → Binds text xs end r held t held'
binds_by text xs end r s t held live held' still same places given same' place a later scope c fresh
    b =
    bound place text later scope xs c s t held held' end
    (before_same place text later scope c r s held end same
    (let e = places.slots in omega (arith, e)) b) same'
    (given place a scope c later fresh
    (subst (λ n. Keeps place scope c later [] n live) (sym places.slots)
    (pruned place text later scope c r held live end b still)))

pub notes_by : (text : Text) (site proc end : ℕ) (r s t : Registers)
    (held live : List (Option Holder)) →
    ((used : List ℕ) → AreUses used text.uses → AreStillUsed used r.at end held live)
    → ((k : CallSite) ×
    ((s.calls.items ≡ r.calls.items ++ (k ∷ []))
    × ((k.site ≡ site) × ((k.proc ≡ proc) × AreRegisters live k.live))))
    → t.calls.items ≡ s.calls.items
    → WalksCall text site proc end r held t
notes_by text site proc end r s t held live still k calls place a later scope c b =
    let keeps = pruned place text later scope c r held live end b still in
    let registers : AreRegisters live k.0.live = k.1.1.1.1 in (
      k.0,
      (
        calls ∙ k.1.0,
        record {
          site = k.1.1.0;
          proc = k.1.1.1.0;
          ascending = registers.ascending;
          small = λ q m. let h = (registers.each q).0 m in let e = h.1.0 in let lt = h.1.1.0
              in omega (arith, e, lt);
          live = λ q. (
            λ m.
                let h = (registers.each q).0 m in
                let d = h.1.1.1 in (
                  d.0.variable,
                  (
                    is_live keeps h.0 d.0 d.1,
                    keeps.place_is h.0 d.0 d.1 ∙ ap (λ n. Reg n)
                        (sym h.1.0),
                  ),
                ),
            λ y.
                let f = keeps.holds q y.0 (inr y.1.0) y.1.1 in
                let lt : f.0 < 24 = let w = slice_get_within live f.0 (Some f.1.1.0) f.1.1.1.0
                in omega (arith, w, keeps.many) in
                (registers.each q).1 (f.0, (f.1.0, (lt, (f.1.1.0, f.1.1.1.0)))),
          );
        },
      ),
    )
  where
    is_live : Keeps place scope c later [] r.slots live → (q : ℕ) (d : Holder)
        → HoldsRegister live q d → IsLive scope c later d.variable
    is_live keeps q d e = elim (keeps.kept q d e) [
      | inl m ↦ cc
      | inr l ↦ l
    ]
