-- Operands in registers, and the code of statements that change one place or a word of a cell.
use Rattle.std.proofs.Common.{◌≡◌, ◌≢◌, ℕ, ◌^◌, ◌<◌, ◌≤◌, List, [], ◌++◌, cond, Bool, true, false, ◌⊎◌, inl, inr, refl, sym, ap, ◌∙◌, subst, arith}
use Rattle.std.specs.Prelude.{nat_eq, if◌then◌else◌}
use Rattle.std.proofs.lemmas.Bool.Decides.{nat_tests}
use Rattle.rv32_isa.specs.declared.instr.Instr.{Instr}
use Rattle.rv32_machine.specs.Memory.{Stretch}
use Rattle.rv32_machine.specs.Steps.{set_reg}
use Rattle.rv32_steps.specs.Data.{Bases}
use Rattle.rv32_steps.specs.Straight.{register_value}
use Rattle.parallel_move.specs.declared.Spot.{Spot}
use Rattle.parallel_move.specs.declared.Spot.TheVariants.{Reg, Slot, Scratch}
use Rattle.parallel_move.specs.Moves.{Values, same}
use Rattle.rv32_select.specs.Emit.{load_constant, move_to, target, keep, held, hold, number_into, set_code}
use Rattle.rv32_select.specs.declared.source.Source.{Source}
use Rattle.rv32_select.specs.declared.source.Source.TheVariants.{At, Number}
use Rattle.rv32_select.proofs.Straight.{Data, with_reg, Good, Does, does_nothing, does_to, does_on}
use Rattle.rv32_select.proofs.NumberParts.{value_is, nothing_set, does_number}
use Rattle.rv32_select.proofs.FrameViews.{put, spots, InFrame, Ok, Kept, kept_on, in_frame, kept_reg, seen_reg, loaded, Makes, stores, move_made}
use Rattle.parallel_move.proofs.Origins.{differ, same_itself}
use Rattle.rv32_machine.proofs.Registers.{set_there, set_here}

pub put_here : (t : Spot) (v : ℕ) (u : Values) → put t v u t ≡ v
put_here t v u = ap (λ x. cond x v (u t)) (same_itself t)

pub put_there : (t s : Spot) (v : ℕ) (u : Values) → s ≢ t → put t v u s ≡ u s
put_there t s v u h = ap (λ x. cond x v (u s)) (differ s t h)

module _ (c : Stretch) (b : Bases) (j slots : ℕ) where
  -- what an operand is
  abbrev pub read : Data → Source → ℕ
  read d (At s) = spots c b j slots d s
  read d (Number n) = n

  -- an operand that can be read: a register of variables or a slot, or a word
  abbrev pub Readable : Source → Type 0
  Readable (At s) = Ok c b j slots s × (s ≢ Scratch)
  Readable (Number n) = n < 2 ^ 32

  -- ---- an operand in a register, where beside that one only x7 may change

  pub record Held (r : ℕ) (s : Source) (d : Data) : Type 0 where
    pub seven : ℕ
    pub own : ℕ
    pub does : Does c b (hold r s) d (with_reg (with_reg d 7 seven) r own)
    pub value_is' : register_value (set_reg (set_reg d.regs 7 seven) r own) (held r s) ≡ read d s

  untouched : (d : Data) (r : ℕ) → with_reg (with_reg d 7 (d.regs 7)) r (d.regs r) ≡ d
  untouched d r = ap (λ x. with_reg x r (d.regs r)) (nothing_set d 7) ∙ nothing_set d r

  nothing_done : (d : Data) (r : ℕ) → Good c b d → Does c b [] d
      (with_reg (with_reg d 7 (d.regs 7)) r (d.regs r))
  nothing_done d r g = does_to c b (does_nothing c b d g) (sym (untouched d r))

  pub holds : (r : ℕ) (s : Source) (d : Data) → Good c b d → InFrame c b j slots d → 5 ≤ r → r < 7
      → Readable s → Held r s d
  holds r (At (Reg q)) d g f lo hi ok =
      let low = ok.0.0 in
      record {
        seven = d.regs 7;
        own = d.regs r;
        does = nothing_done d r g;
        value_is' = ap (λ x. register_value x.regs q) (untouched d r) ∙ value_is d.regs q
            (omega arith);
      }
  holds r (At (Slot k)) d g f lo hi ok =
      let l = loaded c b j slots r k d g f ok.0 in
      let v = spots c b j slots d (Slot k) in
      record {
        seven = l.seven;
        own = v;
        does = l.does;
        value_is' = value_is (set_reg (set_reg d.regs 7 l.seven) r v) r (omega arith) ∙ set_here
            (set_reg d.regs 7 l.seven) r v;
      }
  holds r (At Scratch) d g f lo hi ok = absurd (ok.1 refl)
  holds r (Number n) d g f lo hi ok = by_zero (nat_eq n 0) refl
    where
      made : (t : Bool) → nat_eq n 0 ≡ t → (own : ℕ)
          → Does c b (if t then [] else load_constant r n) d
          (with_reg (with_reg d 7 (d.regs 7)) r own)
          → register_value (set_reg (set_reg d.regs 7 (d.regs 7)) r own) (if t then 0 else r) ≡ n
          → Held r (Number n) d
      made t e own does is = record {
        seven = d.regs 7;
        own = own;
        does = subst
            (λ x. Does c b (if x then [] else load_constant r n) d
            (with_reg (with_reg d 7 (d.regs 7)) r own)) (sym e) does;
        value_is' = ap
            (λ x. register_value (set_reg (set_reg d.regs 7 (d.regs 7)) r own) (if x then 0 else r))
            e ∙ is;
      }

      by_zero : (t : Bool) → nat_eq n 0 ≡ t → Held r (Number n) d
      by_zero true e = made true e (d.regs r) (nothing_done d r g)
          (let z : n ≡ 0 = grind (arith, nat_tests) in sym z)
      by_zero false e =
          made false e n
          (does_to c b (does_number c b r n d g (omega arith) ok)
          (ap (λ x. with_reg x r n) (sym (nothing_set d 7))))
          (value_is (set_reg (set_reg d.regs 7 (d.regs 7)) r n) r (omega arith) ∙ set_here
          (set_reg d.regs 7 (d.regs 7)) r n)

  -- the register in which an operand is
  pub held_place : (r : ℕ) (s : Source) → Readable s → (held r s ≡ r)
      ⊎ ((held r s ≡ 0) ⊎ (8 ≤ held r s))
  held_place r (At (Reg q)) ok = inr (inr ok.0.0)
  held_place r (At (Slot k)) ok = inl refl
  held_place r (At Scratch) ok = absurd (ok.1 refl)
  held_place r (Number n) ok = by_zero (nat_eq n 0)
    where
      by_zero : (t : Bool) → ((if t then 0 else r) ≡ r)
          ⊎ (((if t then 0 else r) ≡ 0) ⊎ (8 ≤ (if t then 0 else r)))
      by_zero true = inr (inl refl)
      by_zero false = inl refl

  pub held_not_seven : (r : ℕ) (s : Source) → Readable s → r ≢ 7 → held r s ≢ 7
  held_not_seven r s ok ne e = elim (held_place r s ok) [
    | inl p ↦ ne (sym p ∙ e)
    | inr o ↦ elim o [ inl p ↦ absurd (omega arith) | inr p ↦ absurd (omega arith) ]
  ]

  -- a register below x8 that changes leaves the operand, if it isn't the one in which that is
  pub value_stays : (regs : ℕ → ℕ) (r v q : ℕ) → q ≢ r
      → register_value (set_reg regs r v) q ≡ register_value regs q
  value_stays regs r v q ne = ap (λ x. if nat_eq q 0 then 0 else x) (set_there regs r v q ne)

  pub held_stays : (regs : ℕ → ℕ) (r own x v : ℕ) (s : Source) → Readable s → r ≢ x → 1 ≤ x → x < 8
      → register_value (set_reg regs x v) (held r s) ≡ register_value regs (held r s)
  held_stays regs r own x v s ok ne lo hi = elim (held_place r s ok) [
    | inl e ↦ value_stays regs x v (held r s) (λ h. ne (sym e ∙ h))
    | inr o ↦ elim o [
      | inl e ↦ value_stays regs x v (held r s)
          (λ h. let z : 0 ≡ x = sym e ∙ h in absurd (omega arith))
      | inr e ↦ value_stays regs x v (held r s) (λ h. absurd (omega arith))
    ]
  ]

  -- an operand is read as before where the spots are
  pub read_same : (s : Source) (d e : Data) → Readable s
      → ((t : Spot) → Ok c b j slots t × (t ≢ Scratch)
      → spots c b j slots e t ≡ spots c b j slots d t) → read e s ≡ read d s
  read_same (At t) d e ok h = h t ok
  read_same (Number n) d e ok h = refl

  -- ---- code that puts a word at one place

  -- a place of a variable: a register or a slot
  abbrev pub IsPlace : Spot → Type 0
  IsPlace t = Ok c b j slots t × (t ≢ Scratch)

  -- the place has this word, and eq_false places are as they were
  pub record Sets (is : List Instr) (d : Data) (t : Spot) (n : ℕ) : Type 0 where
    pub to : Data
    pub does : Does c b is d to
    pub here : spots c b j slots to t ≡ n
    pub others : (s : Spot) → IsPlace s → s ≢ t → spots c b j slots to s ≡ spots c b j slots d s
    pub keeps : Kept c b j slots d to

  -- what makes the spots those with one word put at a place, from others that agree on places
  pub sets_by : {is : List Instr} {d : Data} (u : Values) (t : Spot) (n : ℕ) → IsPlace t
      → ((s : Spot) → IsPlace s → u s ≡ spots c b j slots d s) → Makes c b j slots is d (put t n u)
      → Sets is d t n
  sets_by u t n ok before m = record {
    to = m.to;
    does = m.does;
    here = m.spots_are t ok.0 ∙ put_here t n u;
    others = λ s o h. m.spots_are s o.0 ∙ put_there t s n u h ∙ before s o;
    keeps = m.keeps;
  }

  -- a move to a place
  pub sets_move : (t s : Spot) (d : Data) → Good c b d → InFrame c b j slots d → IsPlace t
      → IsPlace s → Sets (move_to t s) d t (spots c b j slots d s)
  sets_move t s d g f ok ok' = sets_by (spots c b j slots d) t (spots c b j slots d s) ok
      (λ q o. refl) (move_made c b j slots t s d g f ok.0 ok'.0)

  -- a register of variables gets a number by code that changes x5 to x7 alone beside it
  pub seen_past : (d : Data) (r v : ℕ) → 5 ≤ r → r < 8 → (s : Spot) → IsPlace s
      → spots c b j slots (with_reg d r v) s ≡ spots c b j slots d s
  seen_past d r v lo hi (Reg q) ok = let low = ok.0.0 in set_there d.regs r v q (omega arith)
  seen_past d r v lo hi (Slot k) ok = refl
  seen_past d r v lo hi Scratch ok = absurd (ok.1 refl)

  -- the last step: what is in the target's register goes to the place. The data before it are those
  -- at the start, but for
  -- registers below x8 that are no places
  pub kept_to : {is : List Instr} {d : Data} (t : Spot) (e : Data) (n : ℕ) → IsPlace t → n < 2 ^ 32
      → InFrame c b j slots d → Kept c b j slots d e
      → ((s : Spot) → IsPlace s → spots c b j slots e s ≡ spots c b j slots d s)
      → Does c b is d (with_reg e (target 5 t) n) → Sets (is ++ keep 5 t) d t n
  kept_to {is} {d} (Reg r) e n ok lt f k same does =
      let low = ok.0.0 in
      let nothing = does_nothing c b (with_reg e r n) does.good in
      record {
        to = with_reg e r n;
        does = does_on c b does nothing;
        here = set_here e.regs r n;
        others = λ s o h. seen_reg c b j slots e r n low s o.0 ∙ put_there (Reg r) s n
            (spots c b j slots e) h ∙ same s o;
        keeps = kept_on c b j slots k (kept_reg c b j slots e r n (omega arith));
      }
  kept_to {is} {d} (Slot i) e n ok lt f k same does =
      let e5 = with_reg e 5 n in
      let k5 = kept_on c b j slots k (kept_reg c b j slots e 5 n (omega arith)) in
      let s = stores c b j slots i 5 e5 does.good (in_frame c b j slots f k5) ok.0 (omega arith) in
      record {
        to = s.to;
        does = does_on c b does s.does;
        here = s.spots_are (Slot i) ok.0 ∙ put_here (Slot i) n (spots c b j slots e5);
        others = λ q o h. s.spots_are q o.0 ∙ put_there (Slot i) q n (spots c b j slots e5) h ∙
            seen_past e 5 n (omega arith) (omega arith) q o ∙ same q o;
        keeps = kept_on c b j slots k5 s.keeps;
      }
  kept_to {is} {d} Scratch e n ok lt f k same does = absurd (ok.1 refl)

  -- a number goes to a place
  pub sets_number : (t : Spot) (n : ℕ) (d : Data) → Good c b d → InFrame c b j slots d → IsPlace t
      → n < 2 ^ 32 → Sets (number_into t n) d t n
  sets_number (Reg r) n d g f ok lt =
      let low = ok.0.0 in
      record {
        to = with_reg d r n;
        does = does_number c b r n d g (omega arith) lt;
        here = set_here d.regs r n;
        others = λ s o h. seen_reg c b j slots d r n low s o.0 ∙ put_there (Reg r) s n
            (spots c b j slots d) h;
        keeps = kept_reg c b j slots d r n (omega arith);
      }
  sets_number (Slot k) n d g f ok lt =
      let h = holds 5 (Number n) d g f (omega arith) (omega arith) lt in
      let d1 = with_reg (with_reg d 7 h.seven) 5 h.own in
      let kept1 = kept_on c b j slots (kept_reg c b j slots d 7 h.seven (omega arith))
      (kept_reg c b j slots (with_reg d 7 h.seven) 5 h.own (omega arith)) in
      let ne = held_not_seven 5 (Number n) lt (omega arith) in
      let s = stores c b j slots k (held 5 (Number n)) d1 h.does.good (in_frame c b j slots f kept1)
      ok.0 ne in
      record {
        to = s.to;
        does = does_on c b h.does s.does;
        here = s.spots_are (Slot k) ok.0 ∙ put_here (Slot k)
            (register_value d1.regs (held 5 (Number n))) (spots c b j slots d1) ∙ h.value_is';
        others = λ q o ne'. s.spots_are q o.0 ∙ put_there (Slot k) q
            (register_value d1.regs (held 5 (Number n))) (spots c b j slots d1) ne'
            ∙ seen_past (with_reg d 7 h.seven) 5 h.own (omega arith) (omega arith) q o ∙ seen_past d
            7 h.seven (omega arith) (omega arith) q o;
        keeps = kept_on c b j slots kept1 s.keeps;
      }
  sets_number Scratch n d g f ok lt = absurd (ok.1 refl)

  -- ---- statements

  pub sets_source : (t : Spot) (s : Source) (d : Data) → Good c b d → InFrame c b j slots d
      → IsPlace t → Readable s → Sets (set_code t s) d t (read d s)
  sets_source t (At s) d g f ok r = sets_move t s d g f ok r
  sets_source t (Number n) d g f ok r = sets_number t n d g f ok r
