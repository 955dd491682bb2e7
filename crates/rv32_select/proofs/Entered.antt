-- Items of procedures that were put behind others.
use Rattle.std.proofs.Common.{◌≡◌, ℕ, ◌+◌, ◌<◌, ◌≤◌, ◌-◌, zero, List, [], ◌∷◌, ◌++◌, map, length, refl, sym, ap, ◌∙◌, append_assoc, append-nil, arith, subst, get_or, drop, suc, Some, Bool}
use Rattle.std.specs.Prelude.{slice_get}
use Rattle.std.proofs.lemmas.List.{length-map}
use Rattle.std.proofs.lemmas.Option.{same_Some}
use Rattle.seq.proofs.Lists.{some_at, drop_past}
use Rattle.parallel_move.specs.declared.Spot.{Spot}
use Rattle.low_code.specs.declared.program.LowProc.{LowProc}
use Rattle.low_code.specs.declared.program.Low.{Low}
use Rattle.low_code.specs.Tree.{Procedure, Program, procedure_of, program_of, code_of}
use Rattle.register_alloc.specs.Assignment.{Assignment, place_of, words_at}
use Rattle.low_code.specs.Formed.{variables}
use Rattle.register_alloc.specs.Fits.{slots_of}
use Rattle.rv32_items.specs.declared.Item.{Item}
use Rattle.rv32_select.specs.declared.source.Continuation.TheVariants.{Returns}
use Rattle.rv32_select.specs.Emit.{result_spots, entry_items, start_items, stop_items}
use Rattle.rv32_select.specs.IsSelected.{EmitsProcedure, EmitsProcedures, IsSelected, stack_full, heap_end, heap_full, step, first_call, first_label, no_alternative, is_lasting}
use Rattle.limits.specs.Limits.{stack_end, heap_start}
use Rattle.rv32_select.specs.Ranges.{AreSpots}
use Rattle.rv32_select.specs.Writable.{Writable, Placed, ProcedurePlaced}
use Rattle.rv32_select.specs.Emitting.{Emitted, EmittedProcedure}
use Rattle.rv32_select.proofs.ResultSpots.{result_at}

pub body_placed : (low : Low) (a : Assignment) (procs : List LowProc) (f : ℕ) (q : LowProc)
    → Writable (program_of low) a → f < length low.procs → procs ≡ low.procs → q ≡ get_or procs f q
    → Placed (program_of low) a (code_of q.body)
body_placed low a procs f q w lt e is =
    (w.procedures f (procedure_of q) (result_at low procs f q lt e is)).body

-- the places of the parameters
pub params_are : (a : Assignment) (q : LowProc) (xs : List ℕ) (made spots : List Spot)
    → xs ≡ q.params → spots ≡ made → (made ≡ map (place_of a) xs) × AreSpots made
    → (spots ≡ map (place_of a) q.params) × AreSpots spots
params_are a q xs made spots is e h =
    (e ∙ h.0 ∙ ap (map (place_of a)) is, subst AreSpots (sym e) h.1)

pub few_spots : (low : Low) (a : Assignment) (q : LowProc) (xs : List ℕ) (made spots : List Spot)
    → ProcedurePlaced (program_of low) a (procedure_of q) → xs ≡ q.params → spots ≡ made
    → (made ≡ map (place_of a) xs) × AreSpots made → length spots ≤ 16
few_spots low a q xs made spots p is e h =
    let size : length spots ≡ length q.params = ap length (params_are a q xs made spots is e h).0 ∙
    length-map q.params (place_of a) in
    omega (arith, size, p.few_params)

pub procedure_made : (low : Low) (a : Assignment) (cells stack : ℕ) (procs : List LowProc) (f : ℕ)
    (q : LowProc) (words saved full base : ℕ) (framed lasting : Bool) (params results : List Spot)
    (old mid new : List Item) (n m : ℕ) → f < length low.procs → procs ≡ low.procs
    → q ≡ get_or procs f q
    → words ≡ words_at a f → saved ≡ slots_of (place_of a) (variables (procedure_of q))
    → (params ≡ map (place_of a) q.params) × AreSpots params
    → full ≡ stack_full (program_of low) → base ≡ stack_end - stack → lasting ≡ is_lasting a
    → mid ≡ old ++ entry_items f words framed lasting base full params
    → results ≡ result_spots 10 q.results
    → Emitted (program_of low) a cells stack words saved framed results Returns (code_of q.body) mid
    n new m → EmittedProcedure (program_of low) a cells stack f old n new m
procedure_made low a cells stack procs f q words saved full base framed lasting params results old
    mid new n m lt e is at first_saved given fulls bases lasts comes rs b =
    let entry = entry_items f (words_at a f) framed (is_lasting a) (stack_end - stack)
    (stack_full (program_of low)) (map (place_of a) q.params) in
    let first : mid ≡ old ++ entry = comes ∙
    (λ i. old ++ entry_items f (at i) framed (lasts i) (bases i) (fulls i) (given.0 i)) in
    record {
      items = entry ++ b.items;
      is = b.is ∙ ap (λ x. x ++ b.items) first ∙ append_assoc old entry b.items;
      emits = λ p there.
          let same : procedure_of q ≡ p = same_Some (procedure_of q) p
          (sym (result_at low procs f q lt e is) ∙ there) in
          subst (λ p. EmitsProcedure (program_of low) a cells stack f p n m (entry ++ b.items)) same
          (record {
            framed = framed;
            block = b.items;
            body
                = rw (sym at, sym first_saved, sym rs) b.emits;
            is = refl;
          });
    }

module _ (l : Program) (a : Assignment) (cells stack : ℕ) where
  -- items that, before those of the procedures from number f on, are those of all
  pub record Procedures (procs : List Procedure) (f : ℕ) (old : List Item) (n : ℕ) (new : List Item)
      (m : ℕ) : Type 0 where
    pub items : List Item
    pub is : new ≡ old ++ items
    pub emits : (k : ℕ) (more : List Item) → EmitsProcedures l a cells stack f (drop f procs) m k
        more → EmitsProcedures l a cells stack 0 procs n k (items ++ more)

  pub no_procedure : (procs : List Procedure) (old : List Item) (n : ℕ)
      → Procedures procs 0 old n old n
  no_procedure procs old n = record { items = []; is = sym (append-nil old); emits = λ k more h. h }

  pub one_more_procedure : (f f' : ℕ) (q : Procedure) (old mid new : List Item) (n k m : ℕ)
      → slice_get l.procs f ≡ Some q → f' ≡ f + 1 → Procedures l.procs f old n mid k
      → EmittedProcedure l a cells stack f mid k new m → Procedures l.procs f' old n new m
  one_more_procedure f f' q old mid new n k m there next t p =
      let more : f' ≡ suc f = omega (arith, next) in
      let front : drop f l.procs ≡ q ∷ drop (suc f) l.procs = dropped l.procs f q there in
      record {
        items = t.items ++ p.items;
        is = p.is ∙ ap (λ x. x ++ p.items) t.is ∙ append_assoc old t.items p.items;
        emits = λ j rest h.
            let behind : EmitsProcedures l a cells stack (suc f) (drop (suc f) l.procs) m j rest
            = subst (λ i. EmitsProcedures l a cells stack i (drop i l.procs) m j rest) more h in
            let whole = t.emits j (p.items ++ rest)
            (subst (λ qs. EmitsProcedures l a cells stack f qs k j (p.items ++ rest))
            (sym front) (m, p.items, rest, p.emits q there, behind, refl)) in
            subst (λ x. EmitsProcedures l a cells stack 0 l.procs n j x)
            (sym (append_assoc t.items p.items rest)) whole;
      }
    where
      dropped : (qs : List Procedure) (f : ℕ) (q : Procedure) → slice_get qs f ≡ Some q
          → drop f qs ≡ q ∷ drop (suc f) qs
      dropped [] f q e = cc
      dropped (p ∷ qs) zero q e = ap (λ x. x ∷ qs) (same_Some p q e)
      dropped (p ∷ qs) (suc f) q e = dropped qs f q e

pub full_label : (low : Low) (n : ℕ) → n ≡ length low.procs → 2 + n ≡ stack_full (program_of low)
full_label low n e = ap (λ k. 2 + k) (e ∙ sym (length-map low.procs procedure_of))

pub own_labels : (low : Low) (n : ℕ) → n ≡ length low.procs → 3 + n ≡ first_label (program_of low)
own_labels low n e = ap (λ k. 3 + k) (e ∙ sym (length-map low.procs procedure_of))

pub next_procedure : (low : Low) (a : Assignment) (cells stack f f' count : ℕ)
    (old mid new : List Item) (n k m : ℕ) → count ≡ length low.procs → f < count → f' ≡ f + 1
    → Procedures (program_of low) a cells stack (program_of low).procs f old n mid k
    → EmittedProcedure (program_of low) a cells stack f mid k new m
    → Procedures (program_of low) a cells stack (program_of low).procs f' old n new m
next_procedure low a cells stack f f' count old mid new n k m size lt next t p =
    let e = length-map low.procs procedure_of in
    let here = some_at (program_of low).procs f (omega (arith, e, size, lt)) in
    one_more_procedure (program_of low) a cells stack f f' here.0 old mid new n k m here.1 next t p

-- all items of a program
pub whole_made : (low : Low) (a : Assignment) (cells stack count f n m : ℕ)
    (empty started called last new : List Item) → count ≡ length low.procs → count ≤ f → empty ≡ []
    → started ≡ empty ++ start_items stack_end heap_start (heap_end (program_of low) cells)
    (step (program_of low)) (heap_full (program_of low)) low.globals
    → called ≡ started ++ first_call (program_of low) a (stack_end - stack)
    → n ≡ first_label (program_of low) → Procedures (program_of low) a cells stack
    (program_of low).procs f called n last m
    → new ≡ last ++ stop_items (no_alternative (program_of low))
    → IsSelected (program_of low) a cells stack new
whole_made low a cells stack count f n m empty started called last new size over none starts calls
    next t stops =
    let l = program_of low in
    let head = start_items stack_end heap_start (heap_end l cells) (step l) (heap_full l)
    low.globals in
    let first = first_call l a (stack_end - stack) in
    let tail = stop_items (no_alternative l) in
    let past : drop f l.procs ≡ [] = drop_past l.procs f
    (let e = length-map low.procs procedure_of in omega (arith, size, over, e)) in
    let all : EmitsProcedures l a cells stack 0 l.procs n m (t.items ++ [])
    = t.emits m []
    (subst (λ qs. EmitsProcedures l a cells stack f qs m m []) (sym past) (refl, refl)) in
    let whole : new ≡ ((head ++ first) ++ t.items) ++ tail
    = stops ∙ ap (λ x. x ++ tail)
    (t.is ∙ ap (λ x. x ++ t.items)
    (calls ∙ ap (λ x. x ++ first) (starts ∙ ap (λ x. x ++ head) none))) in
    record {
      last = m;
      procedures = t.items;
      each = subst (λ k. EmitsProcedures l a cells stack 0 l.procs k m t.items) next
          (subst (EmitsProcedures l a cells stack 0 l.procs n m) (append-nil t.items) all);
      is = whole ∙ append_assoc (head ++ first) t.items tail;
    }

pub ruleset entered = (body_placed, procedure_made, no_procedure)
