-- How items go on, said of each item and those behind it, and how often labels stand.
use Rattle.std.proofs.Common.{◌≡◌, ℕ, suc, ◌+◌, ◌<◌, ◌≤◌, Bool, true, false, List, [], ◌∷◌, ◌++◌, length, ◌⊎◌, inl, inr, refl, arith}
use Rattle.std.specs.Prelude.{nat_eq, nat_lt, if◌then◌else◌, slice_get}
use Rattle.std.proofs.lemmas.Bool.Decides.{nat_tests}
use Rattle.rv32_isa.specs.declared.instr.Instr.{Instr}
use Rattle.rv32_isa.specs.declared.instr.Instr.TheVariants.{Lui, Auipc, Jal, Jalr, Branch as Branch', Load, Store, OpImm, Shift, Op, Fence, Ecall, Ebreak}
use Rattle.rv32_items.specs.declared.Item.{Item}
use Rattle.rv32_items.specs.declared.Item.TheVariants.{Label, Plain, Branch, Jump}
use Rattle.rv32_items.specs.Placed.{is_instruction, size_of, IsPlain, times}
use Rattle.rv32_select.specs.Emit.{plain}
use Rattle.rv32_select.proofs.StaticPieces.{IsStraight, AllStraight}
use Rattle.rv32_items.proofs.Counted.{times_append}

-- ---- where items go; the labels below `procs` are those at which procedures begin

module _ (procs : ℕ) where
  -- no procedure begins at one of the items
  abbrev pub Inside : List Item → Type 0
  Inside [] = Unit {0}
  Inside (Label k ∷ is) = (procs ≤ k) × Inside is
  Inside (Plain i ∷ is) = Inside is
  Inside (Branch c a b k ∷ is) = Inside is
  Inside (Jump r k ∷ is) = Inside is

  -- the label stands in the items, and no procedure begins before it or there
  abbrev pub Ahead : (label : ℕ) → List Item → Type 0
  Ahead l [] = ⊥
  Ahead l (Label k ∷ is) = (procs ≤ k) × ((k ≡ l) ⊎ Ahead l is)
  Ahead l (Plain i ∷ is) = Ahead l is
  Ahead l (Branch c a b k ∷ is) = Ahead l is
  Ahead l (Jump r k ∷ is) = Ahead l is

  -- a label stands ahead, or is one of those that may stand elsewhere
  abbrev pub Reaches : (Far : ℕ → Type 0) → (label : ℕ) → List Item → Type 0
  Reaches Far l rest = Ahead l rest ⊎ Far l

  -- an item before others is plain or goes to a label that it reaches; an instruction is behind the
  -- label of a procedure, and a
  -- call goes to a procedure
  abbrev pub GoesAt : (Far : ℕ → Type 0) → Item → List Item → Type 0
  GoesAt Far (Label k) rest = k < procs → is_instruction (slice_get rest 0) ≡ true
  GoesAt Far (Plain i) rest = IsPlain (Plain i)
  GoesAt Far (Branch c a b l) rest = Reaches Far l rest
  GoesAt Far (Jump r l) rest = Reaches Far l rest × (nat_eq r 1 ≡ true → l < procs)

  abbrev pub Goes : (Far : ℕ → Type 0) → List Item → Type 0
  Goes Far [] = Unit {0}
  Goes Far (i ∷ is) = GoesAt Far i is × Goes Far is

  -- ---- items and others behind them

  ahead_on : (l : ℕ) (xs ys : List Item) → Ahead l xs → Ahead l (xs ++ ys)
  ahead_on l [] ys h = absurd h
  ahead_on l (Label j ∷ xs) ys h =
      (h.0, elim h.1 [ inl e ↦ inl e | inr k ↦ inr (ahead_on l xs ys k) ])
  ahead_on l (Plain i ∷ xs) ys h = ahead_on l xs ys h
  ahead_on l (Branch c a b j ∷ xs) ys h = ahead_on l xs ys h
  ahead_on l (Jump r j ∷ xs) ys h = ahead_on l xs ys h

  pub ahead_behind : (l : ℕ) (xs ys : List Item) → Inside xs → Ahead l ys → Ahead l (xs ++ ys)
  ahead_behind l [] ys h k = k
  ahead_behind l (Label j ∷ xs) ys h k = (h.0, inr (ahead_behind l xs ys h.1 k))
  ahead_behind l (Plain i ∷ xs) ys h k = ahead_behind l xs ys h k
  ahead_behind l (Branch c a b j ∷ xs) ys h k = ahead_behind l xs ys h k
  ahead_behind l (Jump r j ∷ xs) ys h k = ahead_behind l xs ys h k

  first_on : (xs ys : List Item) → is_instruction (slice_get xs 0) ≡ true
      → is_instruction (slice_get (xs ++ ys) 0) ≡ true
  first_on [] ys h = cc
  first_on (i ∷ xs) ys h = h

  -- what is reached before others is reached with them behind
  abbrev Widens : (Far Near : ℕ → Type 0) → (xs ys : List Item) → Type 0
  Widens Far Near xs ys = (l : ℕ) → Near l → Reaches Far l (xs ++ ys)

  reaches_on : (Far Near : ℕ → Type 0) (xs ys : List Item) → Widens Far Near xs ys → (l : ℕ)
      → Reaches Near l xs → Reaches Far l (xs ++ ys)
  reaches_on Far Near xs ys w l (inl h) = inl (ahead_on l xs ys h)
  reaches_on Far Near xs ys w l (inr h) = w l h

  at_on : (Far Near : ℕ → Type 0) (i : Item) (xs ys : List Item) → Widens Far Near xs ys
      → GoesAt Near i xs → GoesAt Far i (xs ++ ys)
  at_on Far Near (Label k) xs ys w h = λ lt. first_on xs ys (h lt)
  at_on Far Near (Plain i) xs ys w h = h
  at_on Far Near (Branch c a b l) xs ys w h = reaches_on Far Near xs ys w l h
  at_on Far Near (Jump r l) xs ys w h = (reaches_on Far Near xs ys w l h.0, h.1)

  -- both go to the same labels elsewhere
  pub goes_both : (Far : ℕ → Type 0) (xs ys : List Item) → Goes Far xs → Goes Far ys
      → Goes Far (xs ++ ys)
  goes_both Far [] ys g h = h
  goes_both Far (i ∷ xs) ys g h =
      (at_on Far Far i xs ys (λ l k. inr k) g.0, goes_both Far xs ys g.1 h)

  inside_tail : (i : Item) (xs : List Item) → Inside (i ∷ xs) → Inside xs
  inside_tail (Label k) xs h = h.1
  inside_tail (Plain i) xs h = h
  inside_tail (Branch c a b l) xs h = h
  inside_tail (Jump r l) xs h = h

  widened : (Far Near : ℕ → Type 0) (xs ys : List Item) → Inside xs
      → ((l : ℕ) → Near l → Reaches Far l ys) → Widens Far Near xs ys
  widened Far Near xs ys inside w l n = elim (w l n)
      [ inl h ↦ inl (ahead_behind l xs ys inside h) | inr h ↦ inr h ]

  -- the first are inside a procedure, and go to labels that the others reach
  pub goes_then : (Far Near : ℕ → Type 0) (xs ys : List Item) → Inside xs
      → ((l : ℕ) → Near l → Reaches Far l ys) → Goes Near xs → Goes Far ys → Goes Far (xs ++ ys)
  goes_then Far Near [] ys inside w g h = h
  goes_then Far Near (i ∷ xs) ys inside w g h =
      let more = inside_tail i xs inside in (
        at_on Far Near i xs ys (widened Far Near xs ys more w) g.0,
        goes_then Far Near xs ys more w g.1 h,
      )

  -- ---- plain items

  straight_plain : (i : Instr) → IsStraight i → IsPlain (Plain i)
  straight_plain (Lui rd imm) h = tt
  straight_plain (Auipc rd imm) h = h
  straight_plain (Jal rd off) h = h
  straight_plain (Jalr rd rs1 imm) h = absurd h
  straight_plain (Branch' kind rs1 rs2 off) h = h
  straight_plain (Load kind rd rs1 imm) h = tt
  straight_plain (Store kind rs2 rs1 imm) h = tt
  straight_plain (OpImm kind rd rs1 imm) h = tt
  straight_plain (Shift kind rd rs1 amount) h = tt
  straight_plain (Op kind rd rs1 rs2) h = tt
  straight_plain (Fence top rs1 rd) h = tt
  straight_plain Ecall h = tt
  straight_plain Ebreak h = tt

  pub goes_plain : (Far : ℕ → Type 0) (code : List Instr) → AllStraight code → Goes Far (plain code)
  goes_plain Far [] h = tt
  goes_plain Far (i ∷ code) h = (straight_plain i h.0, goes_plain Far code h.1)

  -- items in which no label of a procedure stands
  pub inside_of : (items : List Item) → ((l : ℕ) → l < procs → times l items ≡ 0) → Inside items
  inside_of [] h = tt
  inside_of (Label k ∷ items) h = (first, inside_of items more)
    where
      none : (b : Bool) → b ≡ true → (if b then suc (times k items) else times k items) ≡ 0 → ⊥
      none true e z = omega arith
      none false e z = cc

      first : procs ≤ k
      first = grind (arith, nat_tests, none (nat_eq k k), h k)

      here : (l : ℕ) (b : Bool) → (if b then suc (times l items) else times l items) ≡ 0
          → times l items ≡ 0
      here l true z = absurd (omega arith)
      here l false z = z

      more : (l : ℕ) → l < procs → times l items ≡ 0
      more l lt = here l (nat_eq k l) (h l lt)
  inside_of (Plain i ∷ items) h = inside_of items h
  inside_of (Branch c a b l ∷ items) h = inside_of items h
  inside_of (Jump r l ∷ items) h = inside_of items h

-- ---- how often labels stand

pub times_plain : (l : ℕ) (code : List Instr) → times l (plain code) ≡ 0
times_plain l [] = refl
times_plain l (i ∷ code) = times_plain l code

-- one for each label below a bound
abbrev pub below : (bound label : ℕ) → ℕ
below b l = if nat_lt l b then 1 else 0

pub below_more : (n l t : ℕ) → (if nat_eq n l then suc t else t) + below n l ≡ t + below (suc n) l
below_more n l t = grind (arith, nat_tests)

-- the labels that stand are those from n on, below m, each once
abbrev pub Counts : (n m : ℕ) → List Item → Type 0
Counts n m items = (l : ℕ) → times l items + below n l ≡ below m l

pub counts_append : (n k m : ℕ) (xs ys : List Item) → Counts n k xs → Counts k m ys
    → Counts n m (xs ++ ys)
counts_append n k m xs ys g h l = let a = g l in let b = h l in let e = times_append l xs ys
    in omega arith

-- ---- sizes

pub size_plain : (code : List Instr) → size_of (plain code) ≡ length code
size_plain [] = refl
size_plain (i ∷ code) = let e = size_plain code in omega arith
