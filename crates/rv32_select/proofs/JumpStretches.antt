-- Labels, branches, jumps, calls and returns.
use Rattle.std.proofs.Common.{◌≡◌, ◌≢◌, ℕ, zero, suc, ◌+◌, ◌-◌, ◌^◌, ◌<◌, ◌≤◌, List, [], ◌∷◌, length, true, false, Some, refl, sym, ap, ◌∙◌, subst, arith}
use Rattle.std.specs.Prelude.{pos, nat_eq, if◌then◌else◌, slice_get}
use Rattle.std.proofs.lemmas.Bool.Decides.{nat_tests}
use Rattle.rv32_isa.specs.declared.instr.Instr.TheVariants.{Jalr}
use Rattle.rv32_machine.specs.Arithmetic.{is_taken}
use Rattle.rv32_machine.specs.Steps.{set_reg}
use Rattle.rv32_steps.specs.Data.{Bases}
use Rattle.rv32_steps.specs.Straight.{register_value}
use Rattle.rv32_items.specs.declared.Cond.{Cond}
use Rattle.rv32_items.specs.declared.Item.{Item}
use Rattle.rv32_items.specs.declared.Item.TheVariants.{Label, Plain, Branch, Jump}
use Rattle.rv32_items.specs.Course.{Layout, Point, Next, turn, turn_of, to_item, label_of, label_from, address_from, kind_of}
use Rattle.rv32_items.specs.Told.{is_call, returns}
use Rattle.rv32_items.specs.Placed.{AddressesRise, is_instruction}
use Rattle.rv32_select.proofs.Courses.{Goes, one_on, one_call, one_return}
use Rattle.rv32_select.proofs.Straight.{Data, at}

-- the number of a label is that of the item where it stands, and no address before an item's is its
-- own
found_address : (is : List Item) (lay : Layout) (k t a : ℕ) → t < length is
    → ((i : ℕ) → i < t → lay.address (k + i) ≢ a) → lay.address (k + t) ≡ a
    → address_from k is lay a ≡ Some (k + t)
found_address [] lay k t a lt before e = absurd (omega arith)
found_address (i ∷ is) lay k zero a lt before e =
    let zero_more : k + 0 ≡ k = omega arith in
    let here : nat_eq (lay.address k) a ≡ true = let same : lay.address k ≡ a
    = sym (ap lay.address zero_more) ∙ e in grind (arith, nat_tests) in
    ap (λ b. if b then Some k else address_from (suc k) is lay a) here ∙ ap (λ n. Some n)
    (sym zero_more)
found_address (i ∷ is) lay k (suc t) a lt before e =
    let zero_more : k + 0 ≡ k = omega arith in
    let not_yet : lay.address k ≢ a = λ h. before 0 (omega arith) (ap lay.address zero_more ∙ h) in
    let not_here : nat_eq (lay.address k) a ≡ false = grind (arith, nat_tests) in
    let next : suc k + t ≡ k + suc t = omega arith in
    ap (λ b. if b then Some k else address_from (suc k) is lay a) not_here
    ∙ found_address is lay (suc k) t a (omega arith)
    (λ i h. let n : k + suc i ≡ suc k + i = omega arith
    in λ q. before (suc i) (omega arith) (ap lay.address n ∙ q)) (ap lay.address next ∙ e)
    ∙ ap (λ n. Some n) next

there_is : (items : List Item) (n : ℕ) → n < length items → (i : Item)
    × (slice_get items n ≡ Some i)
there_is [] n lt = absurd (omega arith)
there_is (i ∷ is) zero lt = (i, refl)
there_is (i ∷ is) (suc n) lt = there_is is n (omega arith)

pub there_less : (items : List Item) (n : ℕ) (i : Item) → slice_get items n ≡ Some i
    → n < length items
there_less [] n i e = cc
there_less (x ∷ is) zero i e = omega arith
there_less (x ∷ is) (suc n) i e = let h = there_less is n i e in omega arith

module _ (lay : Layout) (items : List Item) (rises : AddressesRise items lay) where
  never_back : (n : ℕ) → n < length items → lay.address n ≤ lay.address (suc n)
  never_back n lt = let i = there_is items n lt in go i.0 i.1
    where
      go : (i : Item) → slice_get items n ≡ Some i → lay.address n ≤ lay.address (suc n)
      go (Label l) e = omega (arith, rises.labels n l e)
      go (Plain i) e = omega (arith, rises.rises n (ap is_instruction e))
      go (Branch cond left right l) e = omega (arith, rises.rises n (ap is_instruction e))
      go (Jump link l) e = omega (arith, rises.rises n (ap is_instruction e))

  climbs : (d n : ℕ) → n + d ≤ length items → lay.address n ≤ lay.address (n + d)
  climbs zero n h = let e : n ≡ n + 0 = omega arith
      in subst (λ m. lay.address n ≤ lay.address m) e (omega arith)
  climbs (suc d) n h =
      let first = never_back n (omega arith) in
      let more = climbs d (suc n) (omega arith) in
      let e : suc n + d ≡ n + suc d = omega arith in
      subst (λ m. lay.address n ≤ lay.address m) e (omega (arith, first, more))

  -- the first item at the address behind an instruction is the one behind it
  pub comes_back : (n : ℕ) → is_instruction (slice_get items n) ≡ true → suc n < length items
      → address_from 0 items lay (lay.address (suc n)) ≡ Some (suc n)
  comes_back n item lt =
      let e : 0 + suc n ≡ suc n = omega arith in
      let step = rises.rises n item in
      found_address items lay 0 (suc n) (lay.address (suc n)) lt (λ i h q.
      let z : 0 + i ≡ i = omega arith in
      let d : i + (n - i) ≡ n = omega arith in
      let up : lay.address i ≤ lay.address n = subst (λ m. lay.address i ≤ lay.address m) d
      (climbs (n - i) i (omega arith)) in
      let same : lay.address i ≡ lay.address (suc n) = sym (ap lay.address z) ∙ q in
      absurd (omega arith)) (ap lay.address e) ∙ ap (λ m. Some m) e

  -- addresses are words
  pub address_small : (n : ℕ) → n ≤ length items → lay.address n < 2 ^ 32
  address_small n lt =
      let e : n + (length items - n) ≡ length items = omega arith in
      let up : lay.address n ≤ lay.address (length items)
      = subst (λ m. lay.address n ≤ lay.address m) e (climbs (length items - n) n (omega arith))
      in
      let last = rises.last in
      let below = rises.below in
      omega arith

abbrev pub with_regs : Data → (ℕ → ℕ) → Data
with_regs d regs = record { regs = regs; heap = d.heap; stack = d.stack }

module _ (b : Bases) (lay : Layout) (items : List Item) where
  goes_by : (n : ℕ) (d : Data) (q : Point) (i : Item) (input calls : List ℕ)
      → slice_get items n ≡ Some i → turn_of lay items (at b lay items n d) (Some i) ≡ Next q
      → is_call (Some i) ≡ false → returns (Some i) ≡ false
      → Goes lay items 1 input (at b lay items n d) calls [] (label_of (Some i)) input q calls
  unfolding turn
  goes_by n d q i input calls here e no_call no_return =
      let p = at b lay items n d in
      subst (λ l. Goes lay items 1 input p calls [] l input q calls) (ap label_of here)
      (one_on lay items p q input calls (ap (turn_of lay items p) here ∙ e)
      (ap is_call here ∙ no_call) (ap returns here ∙ no_return))

  pub passes : (n l : ℕ) (d : Data) (input calls : List ℕ) → slice_get items n ≡ Some (Label l)
      → Goes lay items 1 input (at b lay items n d) calls [] (l ∷ []) input
      (at b lay items (suc n) d) calls
  passes n l d input calls here = goes_by n d (at b lay items (suc n) d) (Label l) input calls here
      refl refl refl

  pub branches : (n t l left right : ℕ) (cond : Cond) (d : Data) (input calls : List ℕ)
      → slice_get items n ≡ Some (Branch cond left right l) → label_from 0 items l ≡ Some t
      → is_taken (kind_of cond) (register_value d.regs left) (register_value d.regs right) ≡ true
      → Goes lay items 1 input (at b lay items n d) calls [] [] input
      (at b lay items t (with_regs d (lay.far n d.regs))) calls
  branches n t l left right cond d input calls here to is =
      let p = at b lay items n d in
      let on = at b lay items (suc n) d in
      goes_by n d (at b lay items t (with_regs d (lay.far n d.regs))) (Branch cond left right l)
      input calls here
      (ap (λ b. if b then to_item lay items (label_from 0 items l) (lay.far n d.regs) p
      else Next on) is
      ∙ ap (λ o. to_item lay items o (lay.far n d.regs) p) to)
      refl refl

  pub goes_on : (n l left right : ℕ) (cond : Cond) (d : Data) (input calls : List ℕ)
      → slice_get items n ≡ Some (Branch cond left right l)
      → is_taken (kind_of cond) (register_value d.regs left) (register_value d.regs right) ≡ false
      → Goes lay items 1 input (at b lay items n d) calls [] [] input (at b lay items (suc n) d)
      calls
  goes_on n l left right cond d input calls here is =
      let p = at b lay items n d in
      let on = at b lay items (suc n) d in
      goes_by n d on (Branch cond left right l) input calls here
      (ap (λ b. if b then to_item lay items (label_from 0 items l) (lay.far n d.regs) p
      else Next on) is)
      refl refl

  -- what a jump that links nothing leaves of the data, and what a call does
  abbrev pub jumped : (n link : ℕ) → Data → Data
  jumped n link d = with_regs d (lay.far n (set_reg d.regs link (lay.address (suc n))))

  pub links : (n t link l : ℕ) (d : Data) (input calls : List ℕ) → nat_eq link 1 ≡ false
      → slice_get items n ≡ Some (Jump link l) → label_from 0 items l ≡ Some t
      → Goes lay items 1 input (at b lay items n d) calls [] [] input
      (at b lay items t (jumped n link d)) calls
  links n t link l d input calls no_call here to =
      let p = at b lay items n d in
      goes_by n d (at b lay items t (jumped n link d)) (Jump link l) input calls here
      (ap (λ o. to_item lay items o (lay.far n (set_reg d.regs link (lay.address (suc n)))) p) to)
      no_call refl

  pub jumps : (n t l : ℕ) (d : Data) (input calls : List ℕ) → slice_get items n ≡ Some (Jump 0 l)
      → label_from 0 items l ≡ Some t → Goes lay items 1 input (at b lay items n d) calls [] []
      input (at b lay items t (jumped n 0 d)) calls
  jumps n t l d input calls here to = links n t 0 l d input calls refl here to

  pub calls_to : (n t l : ℕ) (d : Data) (input calls : List ℕ) → slice_get items n ≡ Some (Jump 1 l)
      → label_from 0 items l ≡ Some t → Goes lay items 1 input (at b lay items n d) calls [] []
      input (at b lay items t (jumped n 1 d)) (suc n ∷ calls)
  unfolding turn
  calls_to n t l d input calls here to =
      let p = at b lay items n d in
      let q = at b lay items t (jumped n 1 d) in
      subst (λ l. Goes lay items 1 input p calls [] l input q (suc n ∷ calls)) (ap label_of here)
      (one_call lay items p q input calls
      (ap (turn_of lay items p) here ∙ ap
      (λ o. to_item lay items o (lay.far n (set_reg d.regs 1 (lay.address (suc n)))) p) to)
      (ap is_call here))

  -- a return to the item behind the last call that is open
  pub returns_to : (n m : ℕ) (d : Data) (input calls : List ℕ)
      → slice_get items n ≡ Some (Plain (Jalr 0 1 (pos 0))) → d.regs 1 ≡ lay.address m
      → address_from 0 items lay (lay.address m) ≡ Some m
      → Goes lay items 1 input (at b lay items n d) (m ∷ calls) [] [] input
      (at b lay items m (with_regs d (set_reg d.regs 0 (lay.address (suc n))))) calls
  unfolding turn
  returns_to n m d input calls here link there =
      let p = at b lay items n d in
      let regs' = set_reg d.regs 0 (lay.address (suc n)) in
      let q = at b lay items m (with_regs d regs') in
      subst (λ l. Goes lay items 1 input p (m ∷ calls) [] l input q calls) (ap label_of here)
      (one_return lay items p q input calls
      (ap (turn_of lay items p) here
      ∙ ap (λ a. to_item lay items (address_from 0 items lay a) regs' p) link
      ∙ ap (λ o. to_item lay items o regs' p) there)
      (ap is_call here) (ap returns here))
