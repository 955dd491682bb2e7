-- What a turn leaves: the code in memory, and a place where nothing has just begun.
use Rattle.std.proofs.Common.{◌≡◌, ℕ, suc, Bool, true, false, List, Option, Some, None, slice_get, refl, sym, ap, ◌∙◌, subst, arith}
use Rattle.std.specs.Prelude.{if◌then◌else◌}
use Rattle.std.proofs.lemmas.Bool.{true≢false}
use Rattle.std.proofs.lemmas.Option.{slice_get_within}
use Rattle.rv32_isa.specs.declared.instr.Instr.{Instr}
use Rattle.rv32_machine.specs.Arithmetic.{plus, is_taken}
use Rattle.rv32_machine.specs.Steps.{State, Outcome, Next as Next', Written as Written', Asked as Asked', Ended as Ended', Trapped as Trapped', act, given, set_reg, reg}
use Rattle.rv32_steps.specs.Leads.{at}
use Rattle.rv32_steps.specs.Trace.{is_return}
use Rattle.rv32_items.specs.declared.Item.{Item}
use Rattle.rv32_items.specs.declared.Item.TheVariants.{Label, Plain, Branch, Jump}
use Rattle.rv32_items.specs.Course.{Layout, Point, Turn, Next, Written, Asked, Ended, Trapped, turn, turn_of, to_item, behind, behind_plain, state_at, label_from, address_from, kind_of}
use Rattle.rv32_items.specs.Placed.{is_instruction, AddressesRise}
use Rattle.rv32_items.specs.Flows.{begins_procedure}
use Rattle.rv32_items.specs.Laws.{HasCode}
use Rattle.rv32_items.proofs.Keeps.{First, Keeps, act_keeps, given_keeps}
use Rattle.rv32_items.proofs.Addresses.{not_true, address_first, label_there, below_top}

pub turn_is : (lay : Layout) (items : List Item) (p : Point) (o : Option Item)
    → slice_get items p.item ≡ o → turn lay items p ≡ turn_of lay items p o
unfolding turn
turn_is lay items p o e = ap (turn_of lay items p) e

-- nothing begins right before an item
abbrev pub Fresh : (begins : List ℕ) → List Item → ℕ → Type 0
Fresh begins items n = (q : ℕ) → suc q ≡ n → begins_procedure begins (slice_get items q) ≡ false

module _ (items : List Item) (lay : Layout) (rises : AddressesRise items lay) (begins : List ℕ)
    (instruction_behind : (n : ℕ) → begins_procedure begins (slice_get items n) ≡ true
    → is_instruction (slice_get items (suc n)) ≡ true) where
  pub record Good (p : Point) : Type 0 where
    pub code : HasCode lay p
    pub fresh : Fresh begins items p.item

  -- what holds behind a turn
  abbrev pub GoodTurn : Point → Turn → Type 0
  GoodTurn p (Next q) = Good q
  GoodTurn p (Written a len bytes q) = Good q
  GoodTurn p (Asked a) =
      (byte : Option ℕ) → Good (behind p.item (given (state_at lay items p) byte))
      × (state_at lay items (behind p.item (given (state_at lay items p) byte)) ≡ given
      (state_at lay items p) byte)
  GoodTurn p (Ended code) = Unit {0}
  GoodTurn p (Trapped kind) = Unit {0}

  -- behind an item at which nothing begins
  pub fresh_behind : (n : ℕ) (o : Option Item) → slice_get items n ≡ o
      → begins_procedure begins o ≡ false → Fresh begins items (suc n)
  fresh_behind n o e none q h =
      let same : n ≡ q = omega arith in
      subst (λ k. begins_procedure begins (slice_get items k) ≡ false) same
      (ap (begins_procedure begins) e ∙ none)

  begins_not : (i : Item) → is_instruction (Some i) ≡ true
      → begins_procedure begins (Some i) ≡ false
  begins_not (Label l) h = absurd (true≢false (sym h))
  begins_not (Plain i) h = refl
  begins_not (Branch c a b l) h = refl
  begins_not (Jump k l) h = refl

  fresh_label : (t l : ℕ) → slice_get items t ≡ Some (Label l) → Fresh begins items t
  fresh_label t l e q h = not_true _ (λ is.
      let i = instruction_behind q is in
      true≢false (sym i ∙ ap is_instruction (ap (λ k. slice_get items k) h ∙ e)))

  begin_label : (o : Option Item) → begins_procedure begins o ≡ true → (l : ℕ)
      × (o ≡ Some (Label l))
  begin_label None h = absurd (true≢false (sym h))
  begin_label (Some (Label l)) h = (l, refl)
  begin_label (Some (Plain i)) h = absurd (true≢false (sym h))
  begin_label (Some (Branch c a b l)) h = absurd (true≢false (sym h))
  begin_label (Some (Jump k l)) h = absurd (true≢false (sym h))

  fresh_first : (a t : ℕ) → address_from 0 items lay a ≡ Some t → Fresh begins items t
  fresh_first a t e q h = not_true _ (λ is.
      let l = begin_label (slice_get items q) is in
      let f = address_first 0 items lay a t e in
      let z = rises.labels q l.0 l.1 in
      let here : lay.address q ≡ a = sym z ∙ ap (λ k. lay.address k) h ∙ f.0 in
      f.1 q (omega arith) (omega arith) here)

  module _ (p : Point) (code : HasCode lay p) where
    to_label : (l : ℕ) (regs : ℕ → ℕ) (o : Option ℕ) → label_from 0 items l ≡ o
        → GoodTurn p (to_item lay items o regs p)
    to_label l regs None e = tt
    to_label l regs (Some t) e =
        let f = label_there 0 items l t e in
        let same : f.0 ≡ t = omega (arith, f.1.0) in
        record {
          code = code;
          fresh = fresh_label t l
              (ap (λ k. slice_get items k) (sym same) ∙ f.1.1);
        }

    to_address : (a : ℕ) (regs : ℕ → ℕ) (o : Option ℕ) → address_from 0 items lay a ≡ o
        → GoodTurn p (to_item lay items o regs p)
    to_address a regs None e = tt
    to_address a regs (Some t) e = record { code = code; fresh = fresh_first a t e }

    here : State
    here = state_at lay items p

    plain_turn : (i : Instr) → slice_get items p.item ≡ Some (Plain i) → (o : Outcome)
        → Keeps lay.code o →
        ((byte : Option ℕ) → First lay.code (given (state_at lay items p) byte).memory)
        → GoodTurn p (behind_plain lay items p o)
    plain_turn i e (Next' t) keeps gives = record
        { code = keeps; fresh = fresh_behind p.item (Some (Plain i)) e refl }
    plain_turn i e (Written' a len bytes t) keeps gives
        = record { code = keeps; fresh = fresh_behind p.item (Some (Plain i)) e refl }
    plain_turn i e (Asked' a) keeps gives = λ byte. (
      record { code = gives byte; fresh = fresh_behind p.item (Some (Plain i)) e refl },
      moved byte,
    )
      where
        next : plus (lay.address p.item) 4 ≡ lay.address (suc p.item)
        next =
            let lt = slice_get_within items p.item (Plain i) e in
            let r = rises.rises p.item (ap is_instruction e) in
            let s = rises.sizes p.item (Plain i) e in
            let top = below_top items lay rises (suc p.item) (omega arith) in
            omega arith

        moved : (byte : Option ℕ) → state_at lay items
            (behind p.item (given (state_at lay items p) byte)) ≡ given (state_at lay items p) byte
        moved None = λ k. at (given (state_at lay items p) None).regs (sym next k)
            (given (state_at lay items p) None).memory
        moved (Some b) = λ k. at (given (state_at lay items p) (Some b)).regs (sym next k)
            (given (state_at lay items p) (Some b)).memory
    plain_turn i e (Ended' c) keeps gives = tt
    plain_turn i e (Trapped' kind) keeps gives = tt

    either : (b : Bool) (x y : Turn) → GoodTurn p x → GoodTurn p y → GoodTurn p (if b then x else y)
    either true x y hx hy = hx
    either false x y hx hy = hy

    keeps_here : (i : Instr) → Keeps lay.code (act (state_at lay items p) i)
    keeps_here i = subst (λ m. Keeps lay.code (act (at p.regs (lay.address p.item) m) i))
        (sym code.1) (act_keeps lay.code rises.fixed p.regs (lay.address p.item) code.0 i)

    gives_here : (byte : Option ℕ) → First lay.code (given (state_at lay items p) byte).memory
    gives_here byte = subst
        (λ m. First lay.code (given (at p.regs (lay.address p.item) m) byte).memory) (sym code.1)
        (given_keeps lay.code rises.fixed p.regs (lay.address p.item) code.0 byte)

    pub turn_good : (i : Item) → slice_get items p.item ≡ Some i → is_instruction (Some i) ≡ true
        → GoodTurn p (turn_of lay items p (Some i))
    turn_good (Label l) e is = absurd (true≢false (sym is))
    turn_good (Plain i) e is =
        either (is_return i)
        (to_item lay items (address_from 0 items lay (p.regs 1))
        (set_reg p.regs 0 (lay.address (suc p.item))) p)
        (behind_plain lay items p (act (state_at lay items p) i))
        (to_address (p.regs 1) (set_reg p.regs 0 (lay.address (suc p.item)))
        (address_from 0 items lay (p.regs 1)) refl)
        (plain_turn i e (act (state_at lay items p) i) (keeps_here i) gives_here)
    turn_good (Branch cond left right l) e is =
        either (is_taken (kind_of cond) (reg (state_at lay items p) left)
        (reg (state_at lay items p) right))
        (to_item lay items (label_from 0 items l) (lay.far p.item p.regs) p)
        (Next (record { regs = p.regs; item = suc p.item; memory = p.memory }))
        (to_label l (lay.far p.item p.regs) (label_from 0 items l) refl)
        (record {
          code = code;
          fresh = fresh_behind p.item (Some (Branch cond left right l)) e
              refl;
        })
    turn_good (Jump link l) e is =
        to_label l (lay.far p.item (set_reg p.regs link (lay.address (suc p.item))))
        (label_from 0 items l) refl
