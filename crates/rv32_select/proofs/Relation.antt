-- How the machine's data stand for the state of a run of low code, and what it is that the machine
-- does what a run does.
--
-- `Relation` says how registers, heap and stack stand for the state of low code within a
-- procedure, and after its return. `Simulation` goes through low code block by block, and through
-- calls by the units that are left. All this holds of items on every layout.
use Rattle.std.proofs.Common.{◌≡◌, ◌≢◌, ℕ, suc, ◌+◌, ◌-◌, ◌*◌, ◌%◌, ◌<◌, ◌≤◌, List, [], ◌∷◌, ◌++◌, length, get_or, true, false, Some, ◌⊎◌, refl, sym, ap, ◌∙◌, subst, arith, append_assoc, Bool, inr, ◌/◌, ◌^◌, zero}
use Rattle.std.specs.Prelude.{drop, slice_get, nat_eq, if◌then◌else◌, slice_index_or}
use Rattle.std.proofs.lemmas.Grind.{common_steps}
use Rattle.headline.specs.Carries.{IsBytes}
use Rattle.parallel_move.specs.declared.Spot.{Spot}
use Rattle.parallel_move.specs.declared.Spot.TheVariants.{Reg, Slot, Scratch}
use Rattle.parallel_move.specs.Moves.{Values}
use Rattle.low_code.specs.Tree.{Code, Program}
use Rattle.low_code.specs.Formed.{uses, all_variables}
use Rattle.low_code.specs.Values.{Word, number, cell, Env, World, no_alternative, out_of_units, missing, heap_full, stack_full, Answer, gives, stops, then_do}
use Rattle.low_code.specs.Run.{spent, written, byte_taken}
use Rattle.register_alloc.specs.Assignment.{Assignment, place_of, may_change}
use Rattle.rv32_steps.specs.Data.{Bases}
use Rattle.rv32_steps.specs.Trace.{procedures_at, procedure_from}
use Rattle.rv32_items.specs.declared.Item.{Item}
use Rattle.rv32_items.specs.declared.Item.TheVariants.{Label}
use Rattle.rv32_items.specs.Course.{Layout, Point, label_from}
use Rattle.rv32_select.specs.declared.source.Continuation.{Continuation}
use Rattle.rv32_select.specs.declared.source.Continuation.TheVariants.{Returns, Follows, Jumps}
use Rattle.rv32_select.specs.IsSelected.{no_mask_has_x27, is_lasting}
use Rattle.rv32_select.specs.Selects.{ExitsBehindCells}
use Rattle.limits.specs.Limits.{heap_start, stack_end}
use Rattle.rv32_select.proofs.Courses.{Goes, Exits, goes, exits}
use Rattle.rv32_select.proofs.Leaves.{Leaves, leaves_on, exits_on}
use Rattle.rv32_select.proofs.Straight.{Data, Good, at}
use Rattle.rv32_select.proofs.FrameViews.{spots, InFrame}
use Rattle.seq.specs.Lists.{is_among}

abbrev pub bases : (stack : ℕ) → Bases
bases stack = record { heap = heap_start; stack = stack_end - stack }

-- what stands in registers, whatever the frame
abbrev pub regs_of : Data → Values
regs_of d (Reg r) = d.regs r
regs_of d (Slot k) = 0
regs_of d Scratch = 0

-- ---- words and cells

-- a number stands for itself, a cell for its address
abbrev pub word_of : (width : ℕ) → Word → ℕ
word_of width (number k) = k
word_of width (cell i) = heap_start + 4 * width * i

-- spots hold words, one each
abbrev pub AllHold : (width : ℕ) → List Spot → List Word → Values → Type 0
AllHold width [] vs u = Unit {0}
AllHold width (s ∷ ss) [] u = Unit {0}
AllHold width (s ∷ ss) (v ∷ vs) u = (u s ≡ word_of width v) × AllHold width ss vs u

-- the heap's words are those of the cells, one cell after the other, and zeros where none is taken
pub record HoldsCells (width : ℕ) (heap : List ℕ) (cs : List (List Word)) : Type 0 where
  pub full : (i : ℕ) (ws : List Word) → slice_get cs i ≡ Some ws → length ws ≡ width
  pub words : (i k : ℕ) (ws : List Word) (v : Word) → slice_get cs i ≡ Some ws
      → slice_get ws k ≡ Some v → get_or heap (width * i + k) 0 ≡ word_of width v
  pub zeros : (t : ℕ) → width * length cs ≤ t → get_or heap t 0 ≡ 0

-- a register is the place of a variable or beyond those of arguments and results, and procedure f
-- leaves it
pub record Keeps (l : Program) (a : Assignment) (f r : ℕ) : Type 0 where
  pub held : ((x : ℕ) × ((is_among x (all_variables l.procs) ≡ true) × (place_of a x ≡ Reg r)))
      ⊎ (24 ≤ r)
  pub low : 8 ≤ r
  pub high : r < 32
  pub unchanged : may_change a f r ≡ false

-- where the stack's base lasts, x27 has it
abbrev pub HasBase : (lasting : Bool) → (base : ℕ) → Data → Type 0
HasBase true base d = d.regs 27 ≡ base
HasBase false base d = Unit {0}

pub base_same : (t : Bool) (base : ℕ) (d d' : Data) → d'.regs 27 ≡ d.regs 27 → HasBase t base d
    → HasBase t base d'
base_same true base d d' e h = e ∙ h
base_same false base d d' e h = tt

if_false : (t x : Bool) → (if t then false else x) ≡ true → (t ≡ false) × (x ≡ true)
if_false true x e = absurd (cc)
if_false false x e = (refl, e)

all_keep_one : (ms : List ℕ) (f : ℕ) → no_mask_has_x27 ms ≡ true
    → nat_eq (slice_index_or ms f 0 / 2 ^ 27 % 2) 1 ≡ false
all_keep_one [] zero e = refl
all_keep_one [] (suc f) e = refl
all_keep_one (m ∷ ms) zero e = (if_false (nat_eq (m / 2 ^ 27 % 2) 1) (no_mask_has_x27 ms) e).0
all_keep_one (m ∷ ms) (suc f) e = all_keep_one ms f
    (if_false (nat_eq (m / 2 ^ 27 % 2) 1) (no_mask_has_x27 ms) e).1

-- x27 is such a register of each procedure
pub base_kept : (l : Program) (a : Assignment) (f : ℕ) → is_lasting a ≡ true → Keeps l a f 27
base_kept l a f e = record {
  held = inr (omega arith);
  low = omega arith;
  high = omega arith;
  unchanged
      = all_keep_one a.masks f e;
}

-- so it has the base still where procedure f has left its registers
pub base_lasts : (l : Program) (a : Assignment) (f base : ℕ) (d d' : Data)
    → ((r : ℕ) → Keeps l a f r → d'.regs r ≡ d.regs r) → HasBase (is_lasting a) base d
    → HasBase (is_lasting a) base d'
base_lasts l a f base d d' keep h = go (is_lasting a) refl h
  where
    go : (t : Bool) → is_lasting a ≡ t → HasBase t base d → HasBase t base d'
    go true e h = keep 27 (base_kept l a f e) ∙ h
    go false e h = tt

module _ (l : Program) (a : Assignment) (cells stack : ℕ) (lay : Layout) where
  -- the data beside a frame: the cells, the next cell and the heap's end, and what is left of the
  -- input
  pub record HoldsWorld (d : Data) (w : World) : Type 0 where
    pub good : Good lay.code (bases stack) d
    pub cells_are : HoldsCells l.width d.heap w.cells
    pub next : d.regs 3 ≡ heap_start + 4 * l.width * length w.cells
    pub end : d.regs 4 ≡ heap_start + 4 * l.width * cells
    pub room : length w.cells ≤ cells
    pub globals : length l.globals ≤ length w.cells
    pub input : IsBytes w.input
    pub heap_words : length d.heap ≡ l.width * cells
    pub stack_words : 4 * length d.stack ≡ stack

  -- from d0 to d, procedure f has left the words of the stack from this one on, and such registers
  pub record Untouched (f bound : ℕ) (d0 d : Data) : Type 0 where
    pub above : (t : ℕ) → bound ≤ t → get_or d.stack t 0 ≡ get_or d0.stack t 0
    pub others : (r : ℕ) → Keeps l a f r → d.regs r ≡ d0.regs r

  -- where the return address is: in the frame's first word, or in x1
  abbrev pub Home : (framed : Bool) → (j link : ℕ) → Data → Type 0
  Home true j link d = get_or d.stack j 0 ≡ link
  Home false j link d = d.regs 1 ≡ link

  -- within procedure f, whose frame's first word is the j-th of the stack and has so many slots:
  -- the places of the variables that
  -- are needed have their words, and the return address is where it should be
  pub record Stood (framed : Bool) (f j slots : ℕ) (d0 : Data) (link : ℕ)
      (Needs : ℕ → Word → Type 0) (d : Data) (w : World) : Type 0 where
    pub world : HoldsWorld d w
    pub frame : InFrame lay.code (bases stack) j slots d
    pub home : Home framed j link d
    pub vars : (x : ℕ) (v : Word) → Needs x v → spots lay.code (bases stack) j slots d
        (place_of a x) ≡ word_of l.width v
    pub untouched : Untouched f (j + (1 + slots)) d0 d

  -- behind procedure f: its frame is gone, and results stand in their registers
  pub record Back (f bound : ℕ) (d0 : Data) (to : List Spot) (vs : List Word) (d : Data) (w : World)
      : Type 0 where
    pub world : HoldsWorld d w
    pub sp : d.regs 2 ≡ (bases stack).stack + 4 * bound
    pub untouched : Untouched f bound d0 d
    pub results : AllHold l.width to vs (regs_of d)

-- the return address stays where it is
pub home_kept : (l : Program) (a : Assignment) (cells stack : ℕ) (lay : Layout) (framed : Bool)
    (j link : ℕ) (d d' : Data) → d'.regs 1 ≡ d.regs 1 → get_or d'.stack j 0 ≡ get_or d.stack j 0
    → Home l a cells stack lay framed j link d → Home l a cells stack lay framed j link d'
home_kept l a cells stack lay true j link d d' one word h = word ∙ h
home_kept l a cells stack lay false j link d d' one word h = one ∙ h

-- ---- the machine's way beside a run

module _ (lay : Layout) (items : List Item) (begins : List ℕ) where
  -- the machine goes from p to q while a run goes from w to w'
  pub record Ran (p : Point) (calls : List ℕ) (w : World) (q : Point) (calls' : List ℕ) (w' : World)
      : Type 0 where
    pub count : ℕ
    pub bytes : List ℕ
    pub labels : List ℕ
    pub way : Goes lay items count w.input p calls bytes labels w'.input q calls'
    pub out : w'.out ≡ w.out ++ bytes
    pub entered : w'.entered ≡ w.entered ++ procedures_at begins labels
    pub used : w'.used + length w'.input ≡ w.used + length w.input
    pub left : w'.left ≤ w.left

  -- and from p to an exit
  pub record Ends (width cells : ℕ) (p : Point) (calls : List ℕ) (w w' : World) (code : ℕ)
      : Type 0 where
    pub count : ℕ
    pub bytes : List ℕ
    pub labels : List ℕ
    pub way : Exits lay items count w.input p calls bytes labels w'.input code
    pub out : w'.out ≡ w.out ++ bytes
    pub entered : w'.entered ≡ w.entered ++ procedures_at begins labels
    pub used : w'.used + length w'.input ≡ w.used + length w.input
    -- where the heap isn't full, the next cell is right behind all others
    pub exit : code ≢ 4 → ExitsBehindCells lay items width cells w.input p code w'

  -- the machine stands at the label of a procedure, and no unit is left
  pub record Waits (q : Point) (w : World) : Type 0 where
    pub proc : ℕ
    pub stands : slice_get items q.item ≡ Some (Label proc)
    pub is_procedure : procedure_from 0 begins proc ≡ proc ∷ []
    pub spent : w.left ≡ 0

  -- what the machine does from p for a run from w that ends so; where the run gives words, this is
  -- to hold
  abbrev pub Does' : (width cells : ℕ) → (Given : List Word → World → Point → List ℕ → Type 0)
      → Point
      → List ℕ → World → Answer → Type 0
  Does' width cells Given p calls w (gives vs w') = (q : Point)
      × ((calls' : List ℕ) × (Ran p calls w q calls' w' × Given vs w' q calls'))
  Does' width cells Given p calls w (stops no_alternative w') = Ends width cells p calls w w' 3
      × Leaves lay items w.input p
  Does' width cells Given p calls w (stops heap_full w') = Ends width cells p calls w w' 4
  Does' width cells Given p calls w (stops stack_full w') = Ends width cells p calls w w' 5
  Does' width cells Given p calls w (stops out_of_units w') = (q : Point)
      × ((calls' : List ℕ) × (Ran p calls w q calls' w' × Waits q w'))
  Does' width cells Given p calls w (stops missing w') = Unit {0}

  procedures_append : (xs ys : List ℕ) → procedures_at begins (xs ++ ys) ≡ procedures_at begins xs
      ++ procedures_at begins ys
  procedures_append [] ys = refl
  procedures_append (x ∷ xs) ys = ap (λ l. procedure_from 0 begins x ++ l) (procedures_append xs ys)
      ∙ sym (append_assoc (procedure_from 0 begins x) (procedures_at begins xs)
      (procedures_at begins ys))

  pub ran_on : {p q r : Point} {c d e : List ℕ} {w v u : World} → Ran p c w q d v → Ran q d v r e u
      → Ran p c w r e u
  ran_on {p} {q} {r} {c} {d} {e} {w} {v} {u} h k = record {
    count = h.count + k.count;
    bytes = h.bytes ++ k.bytes;
    labels = h.labels ++ k.labels;
    way = goes lay items h.way k.way;
    out = k.out ∙ ap (λ l. l ++ k.bytes) h.out ∙ append_assoc w.out h.bytes k.bytes;
    entered = k.entered ∙ ap (λ l. l ++ procedures_at begins k.labels) h.entered
        ∙ append_assoc w.entered (procedures_at begins h.labels) (procedures_at begins k.labels)
        ∙ ap (λ l. w.entered ++ l) (sym (procedures_append h.labels k.labels));
    used = k.used ∙ h.used;
    left = let x = h.left in let y = k.left in omega arith;
  }

  pub ends_on : (width cells : ℕ) → {p q : Point} {c d : List ℕ} {w v u : World} {code : ℕ}
      → Ran p c w q d v
      → Ends width cells q d v u code → Ends width cells p c w u code
  ends_on width cells {p} {q} {c} {d} {w} {v} {u} {code} h k = record {
    count = h.count + k.count;
    bytes = h.bytes ++ k.bytes;
    labels = h.labels ++ k.labels;
    way = exits lay items h.way k.way;
    out = k.out ∙ ap (λ l. l ++ k.bytes) h.out ∙ append_assoc w.out h.bytes k.bytes;
    entered = k.entered ∙ ap (λ l. l ++ procedures_at begins k.labels) h.entered
        ∙ append_assoc w.entered (procedures_at begins h.labels) (procedures_at begins k.labels)
        ∙ ap (λ l. w.entered ++ l) (sym (procedures_append h.labels k.labels));
    used = k.used ∙ h.used;
    exit = λ ne. let x = k.exit ne in (x.0, exits_on lay items h.way x.1);
  }

  -- a stretch first
  pub does_after : (width cells : ℕ) (Given : List Word → World → Point → List ℕ → Type 0)
      {p q : Point}
      {c d : List ℕ} {w v : World} (x : Answer) → Ran p c w q d v → Does' width cells Given q d v x
      → Does' width cells Given p c w x
  does_after width cells Given (gives vs w') h k = (k.0, (k.1.0, (ran_on h k.1.1.0, k.1.1.1)))
  does_after width cells Given (stops no_alternative w') h k
      = (ends_on width cells h k.0, leaves_on lay items h.way k.1)
  does_after width cells Given (stops heap_full w') h k = ends_on width cells h k
  does_after width cells Given (stops stack_full w') h k = ends_on width cells h k
  does_after width cells Given (stops out_of_units w') h k
      = (k.0, (k.1.0, (ran_on h k.1.1.0, k.1.1.1)))
  does_after width cells Given (stops missing w') h k = tt

  -- what holds where the run gives words may be said otherwise
  pub does_map : (width cells : ℕ) (Given Given' : List Word → World → Point → List ℕ → Type 0)
      (p : Point)
      (c : List ℕ) (w : World) (x : Answer) →
      ((vs : List Word) (v : World) (q : Point) (d : List ℕ) → Given vs v q d → Given' vs v q d)
      → Does' width cells Given p c w x → Does' width cells Given' p c w x
  does_map width cells Given Given' p c w (gives vs v) h k
      = (k.0, (k.1.0, (k.1.1.0, h vs v k.0 k.1.0 k.1.1.1)))
  does_map width cells Given Given' p c w (stops no_alternative v) h k = k
  does_map width cells Given Given' p c w (stops heap_full v) h k = k
  does_map width cells Given Given' p c w (stops stack_full v) h k = k
  does_map width cells Given Given' p c w (stops out_of_units v) h k = k
  does_map width cells Given Given' p c w (stops missing v) h k = tt

  -- and then what follows the words
  pub does_then : (width cells : ℕ) (Given Given' : List Word → World → Point → List ℕ → Type 0)
      (p : Point)
      (c : List ℕ) (w : World) (x : Answer) (k : List Word → World → Answer)
      → Does' width cells Given p c w x
      → ((vs : List Word) (v : World) (q : Point) (d : List ℕ) → v.left ≤ w.left → Given vs v q d
      → Does' width cells Given' q d v (k vs v)) → Does' width cells Given' p c w (then_do x k)
  does_then width cells Given Given' p c w (gives vs v) k h more
      = does_after width cells Given' (k vs v) h.1.1.0 (more vs v h.0 h.1.0 h.1.1.0.left h.1.1.1)
  does_then width cells Given Given' p c w (stops no_alternative v) k h more = h
  does_then width cells Given Given' p c w (stops heap_full v) k h more = h
  does_then width cells Given Given' p c w (stops stack_full v) k h more = h
  does_then width cells Given Given' p c w (stops out_of_units v) k h more = h
  does_then width cells Given Given' p c w (stops missing v) k h more = tt

  nothing_more : (xs : List ℕ) → xs ≡ xs ++ []
  nothing_more xs = grind (arith, common_steps)

  -- a stretch without bytes and labels, beside which a run changes neither
  pub quiet : {count : ℕ} {p q : Point} {c d : List ℕ} (w v : World)
      → Goes lay items count w.input p c [] [] w.input q d → v.out ≡ w.out → v.entered ≡ w.entered
      → v.input ≡ w.input → v.used ≡ w.used → v.left ≡ w.left → Ran p c w q d v
  quiet {count} {p} {q} {c} {d} w v g out entered input used left = record {
    count = count;
    bytes = [];
    labels = [];
    way = subst (λ i. Goes lay items count w.input p c [] [] i q d) (sym input) g;
    out = out ∙ nothing_more w.out;
    entered = entered ∙ nothing_more w.entered;
    used = let same = ap length input in omega arith;
    left = omega arith;
  }

  -- a procedure is entered at its label
  pub enters : {count : ℕ} {p q : Point} {c d : List ℕ} (f frames left : ℕ) (w : World)
      → procedure_from 0 begins f ≡ f ∷ [] → w.left ≡ suc left
      → Goes lay items count w.input p c [] (f ∷ []) w.input q d
      → Ran p c w q d (spent f frames left w)
  enters {count} f frames left w is e g = record {
    count = count;
    bytes = [];
    labels = f ∷ [];
    way = g;
    out = nothing_more w.out;
    entered = ap (λ x. w.entered ++ (x ++ [])) (sym is);
    used = refl;
    left = omega arith;
  }

  -- a byte is written, and one is read or the input has ended
  pub wrote : {count : ℕ} {p q : Point} {c d : List ℕ} (k : ℕ) (w : World)
      → Goes lay items count w.input p c (k % 256 ∷ []) [] w.input q d → Ran p c w q d (written k w)
  wrote {count} k w g = record {
    count = count;
    bytes = k % 256 ∷ [];
    labels = [];
    way = g;
    out = refl;
    entered = nothing_more w.entered;
    used = refl;
    left = omega arith;
  }

  pub took : {count : ℕ} {p q : Point} {c d : List ℕ} (input : List ℕ) (w : World) → w.input ≡ input
      → Goes lay items count input p c [] [] (drop 1 input) q d → Ran p c w q d (byte_taken input w)
  took {count} {p} {q} {c} {d} [] w e g = record {
    count = count;
    bytes = [];
    labels = [];
    way = subst (λ i. Goes lay items count i p c [] [] i q d) (sym e) g;
    out = nothing_more w.out;
    entered = nothing_more w.entered;
    used = refl;
    left = omega arith;
  }
  took {count} {p} {q} {c} {d} (x ∷ xs) w e g = record {
    count = count;
    bytes = [];
    labels = [];
    way = subst (λ i. Goes lay items count i p c [] [] xs q d) (sym e) g;
    out = nothing_more w.out;
    entered = nothing_more w.entered;
    used = let same = ap length e in omega arith;
    left = omega arith;
  }

  -- an exit at once
  pub ends_now : (width cells : ℕ) {count : ℕ} {p : Point} {c : List ℕ} (w : World) (code : ℕ)
      → Exits lay items count w.input p c [] [] w.input code →
      (code ≢ 4 → ExitsBehindCells lay items width cells w.input p code w)
      → Ends width cells p c w w code
  ends_now width cells {count} w code g exit = record {
    count = count;
    bytes = [];
    labels = [];
    way = g;
    out = nothing_more w.out;
    entered = nothing_more w.entered;
    used = refl;
    exit = exit;
  }

  -- and with labels that are no procedure's
  pub quiet_labels : {count : ℕ} {p q : Point} {c d : List ℕ} (labels : List ℕ) (w : World)
      → procedures_at begins labels ≡ [] → Goes lay items count w.input p c [] labels w.input q d
      → Ran p c w q d w
  quiet_labels {count} labels w none g = record {
    count = count;
    bytes = [];
    labels = labels;
    way = g;
    out = nothing_more w.out;
    entered = nothing_more w.entered ∙ ap (λ l. w.entered ++ l) (sym none);
    used = refl;
    left = omega arith;
  }

module _ (l : Program) (a : Assignment) (cells stack : ℕ) (lay : Layout) (items : List Item) where
  -- where a block's words and the machine are behind it: returned from the procedure to item m, or
  -- at the item of a label. `Must`
  -- says the words of the variables that are needed there
  abbrev pub Given : (framed : Bool) → (f j slots : ℕ) → (d0 : Data) → (m : ℕ) → (outer : List ℕ)
      → (to : List Spot) → Continuation → (Must : ℕ → Word → Type 0) → List Word → World → Point
      → List ℕ → Type 0
  Given framed f j slots d0 m outer to Returns Must vs w q calls =
      (d : Data) ×
      ((q ≡ at (bases stack) lay items m d) ×
      ((calls ≡ outer) × Back l a cells stack lay f (j + (1 + slots)) d0 to vs d w))
  Given framed f j slots d0 m outer to (Follows n) Must vs w q calls =
      (t : ℕ) ×
      ((d : Data) ×
      ((label_from 0 items n ≡ Some t) ×
      ((q ≡ at (bases stack) lay items t d) × ((calls ≡ m ∷ outer)
      × (Stood l a cells stack lay framed f j slots d0 (lay.address m) Must d w
      × AllHold l.width to vs (spots lay.code (bases stack) j slots d))))))
  Given framed f j slots d0 m outer to (Jumps n) Must vs w q calls =
      (t : ℕ) ×
      ((d : Data) ×
      ((label_from 0 items n ≡ Some t) ×
      ((q ≡ at (bases stack) lay items t d) × ((calls ≡ m ∷ outer)
      × (Stood l a cells stack lay framed f j slots d0 (lay.address m) Must d w
      × AllHold l.width to vs (spots lay.code (bases stack) j slots d))))))

-- a variable that a block uses, and its word
abbrev pub InUse : Code → Env → ℕ → Word → Type 0
InUse c env x v = (is_among x (uses c) ≡ true) × (env x ≡ Some v)

abbrev pub Needed : Code → Env → (Must : ℕ → Word → Type 0) → ℕ → Word → Type 0
Needed c env Must x v = InUse c env x v ⊎ Must x v
