-- A whole procedure, and the procedures one after another.
use Rattle.std.proofs.Common.{◌≡◌, ◌⊎◌, ℕ, zero, suc, ◌+◌, max, true, List, [], ◌∷◌, ◌++◌, length, length-append, Option, Some, slice_get, slice_index_or, inl, inr, refl, sym, ap, ◌∙◌, subst, arith}
use Rattle.std.proofs.lemmas.Option.{same_Some}
use Rattle.seq.proofs.Lists.{get_left, get_right}
use Rattle.parallel_move.specs.declared.Spot.{Spot}
use Rattle.parallel_move.specs.declared.Spot.TheVariants.{Reg, Slot, Scratch}
use Rattle.low_code.specs.Tree.{Code, set, prim, load, save, take, put, get, call, join, give, tail, choose, fail, Arms, otherwise, arm, Procedure}
use Rattle.low_code.specs.Formed.{uses, binds, arms_binds, variables, all_variables, calls_in, sites_of, all_sites, Site}
use Rattle.register_alloc.specs.Live.{LiveAfter, ArmsLiveAfter}
use Rattle.register_alloc.specs.Fits.{IsPlace, slot_end, slots_of, most_saved}
use Rattle.variable_uses.specs.Uses.{AreUses}
use Rattle.register_alloc.specs.Inner.{sizes_of}
use Rattle.variable_uses.specs.Stands.{ListSegmentAt}
use Rattle.register_alloc.specs.Holders.{AllFree, PlacesAgree, SlotsAreNumbered, none, in_register, in_slot, variables_of, Giving, Holding}
use Rattle.register_alloc.specs.Point.{AfterCall, points, RecordsLiveRegisters, RecordsAllLive, NoBoundIsUsedLater, Before, Walked, SameText, IsFreshWalk, AddsPlaces, AllGiven, WalksBlock, WalksProcedure}
use Rattle.register_alloc.specs.Gathered.{IsWalkOf, GathersProcedures, one_more, sites_at, calls_of_walks, longest_at}
use Rattle.register_alloc.specs.Gathered as all
use Rattle.register_alloc.specs.declared.holders.Holder.{Holder}
use Rattle.register_alloc.specs.declared.registers.Given.{Given}
use Rattle.register_alloc.specs.declared.registers.CallSite.{CallSite}
use Rattle.register_alloc.specs.declared.registers.Registers.{Registers}
use Rattle.register_alloc.specs.declared.registers.Text.{Text}
use Rattle.register_alloc.proofs.Lists.{among_first, among_either, got_after}
use Rattle.variable_uses.proofs.Standing.{stands_all}
use Rattle.register_alloc.proofs.Keeping.{free_keeps, given_holds}
use Rattle.register_alloc.proofs.Walking.{agrees_old}
use Rattle.register_alloc.proofs.Walked.{nothing_more}
use Rattle.register_alloc.proofs.LiveCalls.{sites_of_points, got_split}
use Rattle.register_alloc.specs.Results.{callees}
use Rattle.register_alloc.proofs.GivingPlaces.{variables_more}
use Rattle.register_alloc.proofs.Tables.{got_cases}
use Rattle.seq.specs.Lists.{is_among}
use Rattle.seq.proofs.Counted.{among_later, among_cases, among_left, among_right}

-- ---- the walk over a whole procedure

module _ (q : Procedure) (text : Text) (used : List ℕ) (start mid new : Registers)
    (free held : List (Option Holder)) (end : ℕ) (fresh : IsFreshWalk start)
    (is_free : AllFree free)
    (given : AllGiven q.params start free mid held) (adds : AddsPlaces q.params start mid)
    (same : SameText start mid) (calls : mid.calls.items ≡ start.calls.items)
    (is : used ≡ uses q.body) (are : AreUses used text.uses)
    (sizes : text.sizes.items ≡ sizes_of q.body) (ends : end ≡ length used)
    (walked : WalksBlock text q.body end mid held new) where
  at_start : mid.at ≡ 0
  at_start = same.at ∙ fresh.at

  module _ (place : ℕ → Spot) (agrees : PlacesAgree place new.given.items)
      (none_later : NoBoundIsUsedLater q.params q.body []) where
    entry : Giving place [] q.body [] q.params mid.slots held
    entry = given place (agrees_old place mid new walked.grows agrees) [] q.body [] (λ x m. refl)
        (free_keeps place q.body start.slots free is_free)

    before : Before place text [] q.params q.body mid held end
    before = record {
      used = used;
      are = are;
      uses_stand = subst (ListSegmentAt used mid.at) is
          (subst (λ n. ListSegmentAt used n used) (sym at_start) (stands_all used));
      ends = ends ∙ ap length is ∙ (let e = at_start in omega (arith, e));
      sizes_stand = subst (ListSegmentAt text.sizes.items mid.block) sizes
          (subst (λ n. ListSegmentAt text.sizes.items n text.sizes.items)
          (sym (same.block ∙ fresh.block)) (stands_all text.sizes.items));
      holding = subst (λ scope. Holding place scope q.body [] mid.slots held)
          (sym (nothing_more q.params))
          (given_holds place [] q.body [] q.params mid.slots held entry.keeps);
    }

    done : Walked place text [] q.params q.body mid new end
    done = walked.walked place agrees [] q.params none_later before

    all_notes : RecordsAllLive place new.calls.items (points q.params q.body [])
    all_notes = subst (λ ks. RecordsAllLive place ks (points q.params q.body []))
        (sym (done.calls ∙ ap (λ l. l ++ done.more) (calls ∙ fresh.calls))) done.notes

  pub walked_is : WalksProcedure q new
  walked_is = record {
    variables = walked.variables ∙ ap (λ l. l ++ binds q.body)
        (adds.variables ∙ ap (λ gs. variables_of gs ++ q.params) fresh.given);
    numbered = walked.grows.numbered
        (adds.grows.numbered
        (subst (λ gs. SlotsAreNumbered gs start.slots) (sym fresh.given)
        (subst (SlotsAreNumbered []) (sym fresh.slots) none)));
    each = λ place agrees n. ((entry place agrees n).good, (done place agrees n).each);
    notes = λ place agrees n. all_notes place agrees n;
  }

-- ---- places that are given

pub numbered_place : (gs : List Given) (n : ℕ) → SlotsAreNumbered gs n → (k : ℕ) (g : Given)
    → slice_get gs k ≡ Some g → IsPlace g.spot
numbered_place _ _ none k g e = cc
numbered_place _ _ (in_register {gs = gs} x r rest lt) k g e
    = elim (got_cases gs (record { variable = x; spot = Reg (8 + r) }) k g e) [
      | inl was ↦ numbered_place gs _ rest k g was
      | inr last ↦ subst (λ z. IsPlace z.spot) (sym last.1) (omega arith, omega (arith, lt))
    ]
numbered_place _ _ (in_slot {gs = gs} {n = n} x rest) k g e
    = elim (got_cases gs (record { variable = x; spot = Slot n }) k g e) [
      | inl was ↦ numbered_place gs _ rest k g was
      | inr last ↦ subst (λ z. IsPlace z.spot) (sym last.1) tt
    ]

-- the registers of these places
abbrev register_in : Spot → List ℕ → List ℕ
register_in (Reg r) rs = r ∷ rs
register_in (Slot k) rs = rs
register_in Scratch rs = rs

abbrev pub registers_of : List Given → List ℕ
registers_of [] = []
registers_of (g ∷ gs) = register_in g.spot (registers_of gs)

put_in_front : (s : Spot) (xs ys zs : List ℕ) → xs ≡ ys ++ zs → register_in s xs ≡ register_in s ys
    ++ zs
put_in_front (Reg r) xs ys zs e = ap (λ l. r ∷ l) e
put_in_front (Slot k) xs ys zs e = e
put_in_front Scratch xs ys zs e = e

registers_more : (gs : List Given) (g : Given) → registers_of (gs ++ (g ∷ [])) ≡ registers_of gs
    ++ register_in g.spot []
registers_more [] g = refl
registers_more (h ∷ gs) g = put_in_front h.spot (registers_of (gs ++ (g ∷ []))) (registers_of gs)
    (register_in g.spot []) (registers_more gs g)

in_registers : (s : Spot) (r : ℕ) (rs : List ℕ) → (s ≡ Reg r) ⊎ (is_among r rs ≡ true)
    → is_among r (register_in s rs) ≡ true
in_registers (Reg q) r rs (inl e) = let same : q ≡ r = cc in among_first r q rs (sym same)
in_registers (Reg q) r rs (inr m) = among_later r q rs m
in_registers (Slot k) r rs (inl e) = cc
in_registers (Slot k) r rs (inr m) = m
in_registers Scratch r rs (inl e) = cc
in_registers Scratch r rs (inr m) = m

pub register_among : (gs : List Given) (k : ℕ) (g : Given) (r : ℕ) → slice_get gs k ≡ Some g
    → g.spot ≡ Reg r → is_among r (registers_of gs) ≡ true
register_among [] k g r e is = cc
register_among (h ∷ gs) zero g r e is = in_registers h.spot r (registers_of gs)
    (inl (ap (λ z. z.spot) (same_Some h g e) ∙ is))
register_among (h ∷ gs) (suc k) g r e is = in_registers h.spot r (registers_of gs)
    (inr (register_among gs k g r e is))

-- each place is a register or a slot
pub numbered_many : (gs : List Given) (n : ℕ) → SlotsAreNumbered gs n
    → n + length (registers_of gs) ≡ length (variables_of gs)
numbered_many _ _ none = refl
numbered_many _ _ (in_register {gs = gs} {n = n} x r rest lt) =
    let g : Given = record { variable = x; spot = Reg (8 + r) } in
    let h = numbered_many gs n rest in
    let a : length (registers_of (gs ++ (g ∷ []))) ≡ length (registers_of gs) + 1
    = ap length (registers_more gs g) ∙ length-append (registers_of gs) ((8 + r) ∷ []) in
    let b : length (variables_of (gs ++ (g ∷ []))) ≡ length (variables_of gs) + 1
    = ap length (variables_more gs g) ∙ length-append (variables_of gs) (x ∷ []) in
    omega (arith, h, a, b)
numbered_many _ _ (in_slot {gs = gs} {n = n} x rest) =
    let g : Given = record { variable = x; spot = Slot n } in
    let h = numbered_many gs n rest in
    let a : length (registers_of (gs ++ (g ∷ []))) ≡ length (registers_of gs) + 0
    = ap length (registers_more gs g) ∙ length-append (registers_of gs) [] in
    let b : length (variables_of (gs ++ (g ∷ []))) ≡ length (variables_of gs) + 1
    = ap length (variables_more gs g) ∙ length-append (variables_of gs) (x ∷ []) in
    omega (arith, h, a, b)

slots_append : (place : ℕ → Spot) (xs : List ℕ) (x : ℕ)
    → slots_of place (xs ++ (x ∷ [])) ≡ max (slots_of place xs) (slot_end (place x))
slots_append place [] x = omega arith
slots_append place (y ∷ xs) x = let h = slots_append place xs x in omega (arith, h)

-- the slots are as many as were given
pub numbered_slots : (place : ℕ → Spot) (gs : List Given) (n : ℕ) → SlotsAreNumbered gs n
    → PlacesAgree place gs → slots_of place (variables_of gs) ≡ n
numbered_slots place _ _ none agrees = refl
numbered_slots place _ _ (in_register {gs = gs} {n = n} x r rest lt) agrees =
    let g : Given = record { variable = x; spot = Reg (8 + r) } in
    let h = numbered_slots place gs n rest (λ k d e. agrees k d (get_left gs (g ∷ []) k d e)) in
    let here : slot_end (place x) ≡ 0 = ap slot_end (agrees (length gs) g (got_after gs [] g)) in
    let e : slots_of place (variables_of (gs ++ (g ∷ []))) ≡ max (slots_of place (variables_of gs))
    (slot_end (place x)) = ap (slots_of place) (variables_more gs g) ∙ slots_append place
    (variables_of gs) x in
    omega (arith, h, here, e)
numbered_slots place _ _ (in_slot {gs = gs} {n = n} x rest) agrees =
    let g : Given = record { variable = x; spot = Slot n } in
    let h = numbered_slots place gs n rest (λ k d e. agrees k d (get_left gs (g ∷ []) k d e)) in
    let here : slot_end (place x) ≡ suc n = ap slot_end (agrees (length gs) g (got_after gs [] g))
    in
    let e : slots_of place (variables_of (gs ++ (g ∷ []))) ≡ max (slots_of place (variables_of gs))
    (slot_end (place x)) = ap (slots_of place) (variables_more gs g) ∙ slots_append place
    (variables_of gs) x in
    omega (arith, h, here, e)

-- a variable that has got a place
pub given_place : (gs : List Given) (x : ℕ) → is_among x (variables_of gs) ≡ true → (k : ℕ)
    × ((g : Given) × ((slice_get gs k ≡ Some g) × (g.variable ≡ x)))
given_place [] x m = cc
given_place (h ∷ gs) x m = elim (among_cases x h.variable (variables_of gs) m) [
  | inl e ↦ (0, (h, (refl, sym e)))
  | inr there ↦ let r = given_place gs x there in (suc r.0, (r.1.0, r.1.1))
]

-- ---- notes

abbrev pub calls_of : List CallSite → List Site
calls_of [] = []
calls_of (k ∷ ks) = (k.site, k.proc) ∷ calls_of ks

pub noted : (place : ℕ → Spot) (ks : List CallSite) (ps : List AfterCall)
    → RecordsAllLive place ks ps → calls_of ks ≡ sites_of_points ps
noted place [] [] n = refl
noted place [] (p ∷ ps) n = absurd n
noted place (k ∷ ks) [] n = absurd n
noted place (k ∷ ks) (p ∷ ps) n = ap (λ s. (s, k.proc) ∷ calls_of ks) n.0.site ∙ ap
    (λ f. (p.site, f) ∷ calls_of ks) n.0.proc ∙ ap (λ l. (p.site, p.proc) ∷ l)
    (noted place ks ps n.1)

pub note_at : (place : ℕ → Spot) (ks : List CallSite) (ps : List AfterCall) (i : ℕ) (k : CallSite)
    → RecordsAllLive place ks ps → slice_get ks i ≡ Some k → (p : AfterCall)
    × ((slice_get ps i ≡ Some p) × RecordsLiveRegisters place k p)
note_at place [] ps i k n e = cc
note_at place (j ∷ ks) [] i k n e = absurd n
note_at place (j ∷ ks) (p ∷ ps) zero k n e =
    (p, (refl, subst (λ z. RecordsLiveRegisters place z p) (same_Some j k e) n.0))
note_at place (j ∷ ks) (p ∷ ps) (suc i) k n e = note_at place ks ps i k n.1 e

pub call_at : (ks : List CallSite) (i : ℕ) (s : Site) → slice_get (calls_of ks) i ≡ Some s
    → (k : CallSite) × ((slice_get ks i ≡ Some k) × ((k.site ≡ s.0) × (k.proc ≡ s.1)))
call_at [] i s e = cc
call_at (k ∷ ks) zero s e = let same : (k.site, k.proc) ≡ s = same_Some (k.site, k.proc) s e
    in (k, (refl, (ap (λ z. z.0) same, ap (λ z. z.1) same)))
call_at (k ∷ ks) (suc i) s e = call_at ks i s e

pub sites_are : (ks : List CallSite) → sites_at ks ≡ sites_of (calls_of ks)
sites_are [] = refl
sites_are (k ∷ ks) = ap (λ l. k.site ∷ l) (sites_are ks)

pub procs_are : (ks : List CallSite) → all.procs_of ks ≡ callees (calls_of ks)
procs_are [] = refl
procs_are (k ∷ ks) = ap (λ l. k.proc ∷ l) (procs_are ks)

pub longest_is : (saves : List (List ℕ)) (ks : List CallSite)
    → longest_at saves ks ≡ most_saved (λ s. slice_index_or saves s []) (calls_of ks)
longest_is saves [] = refl
longest_is saves (k ∷ ks) = ap (λ n. max (length (slice_index_or saves k.site [])) n)
    (longest_is saves ks)

-- ---- what is live after a call is a variable of the procedure

among_moved : (y : ℕ) (xs scope bs : List ℕ) → is_among y ((xs ++ scope) ++ bs) ≡ true
    → is_among y (scope ++ (xs ++ bs)) ≡ true
among_moved y xs scope bs m = elim (among_either y (xs ++ scope) bs m) [
  | inl a ↦
      elim (among_either y xs scope a) [
        | inl b ↦ among_right y scope (xs ++ bs) (among_left y xs bs b)
        | inr b ↦ among_left y scope (xs ++ bs) b
      ]
  | inr a ↦ among_right y scope (xs ++ bs) (among_right y xs bs a)
]

wider : (y : ℕ) (scope bs cs : List ℕ) → is_among y (scope ++ bs) ≡ true
    → is_among y (scope ++ (bs ++ cs)) ≡ true
wider y scope bs cs m = elim (among_either y scope bs m) [
  | inl a ↦ among_left y scope (bs ++ cs) a
  | inr a ↦ among_right y scope (bs ++ cs) (among_left y bs cs a)
]

wider' : (y : ℕ) (scope bs cs : List ℕ) → is_among y (scope ++ cs) ≡ true
    → is_among y (scope ++ (bs ++ cs)) ≡ true
wider' y scope bs cs m = elim (among_either y scope cs m) [
  | inl a ↦ among_left y scope (bs ++ cs) a
  | inr a ↦ among_right y scope (bs ++ cs) (among_right y bs cs a)
]

mutual
  pub live_is_bound : (s : ℕ) (scope : List ℕ) (c : Code) (later : List ℕ) (y : ℕ)
      → LiveAfter s scope c later y → is_among y (scope ++ binds c) ≡ true
  live_is_bound s scope (set x a c) later y l = among_moved y (x ∷ []) scope (binds c)
      (live_is_bound s (x ∷ scope) c later y l)
  live_is_bound s scope (prim f x a b c) later y l = among_moved y (x ∷ []) scope (binds c)
      (live_is_bound s (x ∷ scope) c later y l)
  live_is_bound s scope (load x a k c) later y l = among_moved y (x ∷ []) scope (binds c)
      (live_is_bound s (x ∷ scope) c later y l)
  live_is_bound s scope (save a k b c) later y l = live_is_bound s scope c later y l
  live_is_bound s scope (take xs c) later y l = among_moved y xs scope (binds c)
      (live_is_bound s (xs ++ scope) c later y l)
  live_is_bound s scope (put a c) later y l = live_is_bound s scope c later y l
  live_is_bound s scope (get x c) later y l = among_moved y (x ∷ []) scope (binds c)
      (live_is_bound s (x ∷ scope) c later y l)
  live_is_bound s scope (call f site ops xs c) later y (inl h)
      = among_left y scope (xs ++ binds c) h.1.0
  live_is_bound s scope (call f site ops xs c) later y (inr l)
      = among_moved y xs scope (binds c) (live_is_bound s (xs ++ scope) c later y l)
  live_is_bound s scope (join xs b c) later y (inl l)
      = wider y scope (binds b) (xs ++ binds c) (live_is_bound s scope b (uses c ++ later) y l)
  live_is_bound s scope (join xs b c) later y (inr l)
      = wider' y scope (binds b) (xs ++ binds c)
      (among_moved y xs scope (binds c) (live_is_bound s (xs ++ scope) c later y l))
  live_is_bound s scope (give ops) later y l = absurd l
  live_is_bound s scope (tail f site ops) later y l = absurd l
  live_is_bound s scope (choose as') later y l = arms_live_is_bound s scope as' later y l
  live_is_bound s scope fail later y l = absurd l

  arms_live_is_bound : (s : ℕ) (scope : List ℕ) (as' : Arms) (later : List ℕ) (y : ℕ)
      → ArmsLiveAfter s scope as' later y → is_among y (scope ++ arms_binds as') ≡ true
  arms_live_is_bound s scope (otherwise c) later y l = live_is_bound s scope c later y l
  arms_live_is_bound s scope (arm ts c as') later y (inl l)
      = wider y scope (binds c) (arms_binds as') (live_is_bound s scope c later y l)
  arms_live_is_bound s scope (arm ts c as') later y (inr l)
      = wider' y scope (binds c) (arms_binds as') (arms_live_is_bound s scope as' later y l)

-- ---- the procedures one after another

-- what was gathered of a procedure
pub record At (ws : List Registers) (gs : List Given) (ms : List ℕ) (cs : List (List ℕ)) (f : ℕ)
    (q : Procedure) : Type 0 where
  pub walk : Registers
  pub own : ℕ
  pub called : List ℕ
  pub is : IsWalkOf q walk own called
  pub walk_at : slice_get ws f ≡ Some walk
  pub own_at : slice_get ms f ≡ Some own
  pub called_at : slice_get cs f ≡ Some called
  pub given_in : (k : ℕ) (g : Given) → slice_get walk.given.items k ≡ Some g → (j : ℕ)
      × (slice_get gs j ≡ Some g)
  pub calls_in_all : (i : ℕ) (k : CallSite) → slice_get walk.calls.items i ≡ Some k → (j : ℕ)
      × (slice_get (calls_of_walks ws) j ≡ Some k)

pub gathered_at : (qs : List Procedure) (ws : List Registers) (gs : List Given) (ms : List ℕ)
    (cs : List (List ℕ)) → GathersProcedures qs ws gs ms cs → (f : ℕ) (q : Procedure)
    → slice_get qs f ≡ Some q → At ws gs ms cs f q
gathered_at _ _ _ _ _ all.none f q e = cc
gathered_at _ _ _ _ _ (one_more qs ws gs ms cs r w m c is rest) zero q e =
    let same : r ≡ q = same_Some r q e in
    record {
      walk = w;
      own = m;
      called = c;
      is = subst (λ z. IsWalkOf z w m c) same is;
      walk_at = refl;
      own_at = refl;
      called_at = refl;
      given_in = λ k g h. (k, get_left w.given.items gs k g h);
      calls_in_all = λ i k h. (i, get_left w.calls.items (calls_of_walks ws) i k h);
    }
gathered_at _ _ _ _ _ (one_more qs ws gs ms cs r w m c is rest) (suc f) q e =
    let t = gathered_at qs ws gs ms cs rest f q e in
    record {
      walk = t.walk;
      own = t.own;
      called = t.called;
      is = t.is;
      walk_at = t.walk_at;
      own_at = t.own_at;
      called_at = t.called_at;
      given_in = λ k g h. let j = t.given_in k g h in
          (length w.given.items + j.0, get_right w.given.items gs j.0 g j.1);
      calls_in_all = λ i k h. let j = t.calls_in_all i k h
          in (length w.calls.items + j.0, get_right w.calls.items (calls_of_walks ws) j.0 k j.1);
    }

pub procedure_of_own : (qs : List Procedure) (ws : List Registers) (gs : List Given) (ms : List ℕ)
    (cs : List (List ℕ)) → GathersProcedures qs ws gs ms cs → (f m : ℕ) → slice_get ms f ≡ Some m
    → (q : Procedure) × (slice_get qs f ≡ Some q)
procedure_of_own _ _ _ _ _ all.none f m e = cc
procedure_of_own _ _ _ _ _ (one_more qs ws gs ms cs r w n c is rest) zero m e = (r, refl)
procedure_of_own _ _ _ _ _ (one_more qs ws gs ms cs r w n c is rest) (suc f) m e
    = procedure_of_own qs ws gs ms cs rest f m e

pub procedure_of_called : (qs : List Procedure) (ws : List Registers) (gs : List Given)
    (ms : List ℕ) (cs : List (List ℕ)) → GathersProcedures qs ws gs ms cs → (f : ℕ) (c : List ℕ)
    → slice_get cs f ≡ Some c → (q : Procedure) × (slice_get qs f ≡ Some q)
procedure_of_called _ _ _ _ _ all.none f c e = cc
procedure_of_called _ _ _ _ _ (one_more qs ws gs ms cs r w n d is rest) zero c e = (r, refl)
procedure_of_called _ _ _ _ _ (one_more qs ws gs ms cs r w n d is rest) (suc f) c e
    = procedure_of_called qs ws gs ms cs rest f c e

-- the walk that noted a call
pub walk_of_call : (qs : List Procedure) (ws : List Registers) (gs : List Given) (ms : List ℕ)
    (cs : List (List ℕ)) → GathersProcedures qs ws gs ms cs → (i : ℕ) (k : CallSite)
    → slice_get (calls_of_walks ws) i ≡ Some k
    → (f : ℕ) ×
    ((q : Procedure) ×
    ((w : Registers) ×
    ((j : ℕ) ×
    ((slice_get qs f ≡ Some q) ×
    ((slice_get ws f ≡ Some w) × (slice_get w.calls.items j ≡ Some k))))))
walk_of_call _ _ _ _ _ all.none i k e = cc
walk_of_call _ _ _ _ _ (one_more qs ws gs ms cs r w n d is rest) i k e
    = elim (got_split w.calls.items (calls_of_walks ws) i k e) [
      | inl here ↦ (0, (r, (w, (i, (refl, (refl, here))))))
      | inr there ↦ let t = walk_of_call qs ws gs ms cs rest there.0 k there.1
          in (suc t.0, (t.1.0, (t.1.1.0, (t.1.1.1.0, (t.1.1.1.1.0, (t.1.1.1.1.1.0, t.1.1.1.1.1.1))))))
    ]

variables_both : (gs hs : List Given) → variables_of (gs ++ hs) ≡ variables_of gs ++ variables_of hs
variables_both [] hs = refl
variables_both (g ∷ gs) hs = ap (λ l. g.variable ∷ l) (variables_both gs hs)

pub variables_gathered : (qs : List Procedure) (ws : List Registers) (gs : List Given) (ms : List ℕ)
    (cs : List (List ℕ)) → GathersProcedures qs ws gs ms cs → variables_of gs ≡ all_variables qs
variables_gathered _ _ _ _ _ all.none = refl
variables_gathered _ _ _ _ _ (one_more qs ws gs ms cs r w n d is rest) =
    variables_both w.given.items gs ∙ ap (λ l. l ++ variables_of gs) is.walked.variables ∙ ap
    (λ l. variables r ++ l) (variables_gathered qs ws gs ms cs rest)

sites_both : (ks ls : List CallSite) → sites_at (ks ++ ls) ≡ sites_at ks ++ sites_at ls
sites_both [] ls = refl
sites_both (k ∷ ks) ls = ap (λ l. k.site ∷ l) (sites_both ks ls)

pub sites_gathered : (qs : List Procedure) (ws : List Registers) (gs : List Given) (ms : List ℕ)
    (cs : List (List ℕ)) → GathersProcedures qs ws gs ms cs
    → ((f : ℕ) (q : Procedure) (w : Registers) → slice_get qs f ≡ Some q → slice_get ws f ≡ Some w
    → sites_at w.calls.items ≡ sites_of (calls_in q.body))
    → sites_at (calls_of_walks ws) ≡ all_sites qs
sites_gathered _ _ _ _ _ all.none h = refl
sites_gathered _ _ _ _ _ (one_more qs ws gs ms cs r w n d is rest) h =
    sites_both w.calls.items (calls_of_walks ws) ∙ ap (λ l. l ++ sites_at (calls_of_walks ws))
    (h 0 r w refl refl)
    ∙ ap (λ l. sites_of (calls_in r.body) ++ l)
    (sites_gathered qs ws gs ms cs rest (λ f q v e g. h (suc f) q v e g))

pub lengths_gathered : (qs : List Procedure) (ws : List Registers) (gs : List Given) (ms : List ℕ)
    (cs : List (List ℕ)) → GathersProcedures qs ws gs ms cs → (length ms ≡ length qs)
    × (length ws ≡ length qs) × (length cs ≡ length qs)
lengths_gathered _ _ _ _ _ all.none = (refl, refl, refl)
lengths_gathered _ _ _ _ _ (one_more qs ws gs ms cs r w n d is rest) = let h
    = lengths_gathered qs ws gs ms cs rest in (ap suc h.0, ap suc h.1, ap suc h.2)
