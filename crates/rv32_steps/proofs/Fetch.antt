-- Instructions stand in memory.
use Rattle.std.proofs.Common.{◌≡◌, ℕ, ◌+◌, ◌-◌, ◌*◌, ◌%◌, ◌^◌, ◌<◌, ◌≤◌, List, [], ◌∷◌, ◌++◌, length, take, drop, Some, true, false, Bool, refl, sym, ap, ◌∙◌, subst, arith, append_assoc, length-append}
use Rattle.std.specs.Prelude.{nat_eq, nat_le, ◌&&◌, if◌then◌else◌}
use Rattle.std.proofs.lemmas.Grind.{common_steps}
use Rattle.std.proofs.lemmas.Bool.Decides.{nat_tests}
use Rattle.rv32_isa.specs.declared.instr.Instr.{Instr}
use Rattle.rv32_isa.specs.Table.{word_of, instr_of, InRange}
use Rattle.rv32_isa.proofs.Decoded.{decoded, word_small}
use Rattle.rv32_machine.specs.declared.memory.Right.{Right}
use Rattle.rv32_machine.specs.declared.memory.Right.TheVariants.{Execute}
use Rattle.rv32_machine.specs.declared.memory.Access.TheVariants.{At, Outside}
use Rattle.rv32_machine.specs.Memory.{Stretch, allows, is_in, end_of, place_from, at_place, access, bytes_of, little_endian}
use Rattle.rv32_machine.specs.declared.machine.TrapKind.TheVariants.{MisalignedJump}
use Rattle.rv32_machine.specs.Steps.{Trapped, step, fetch_and_execute, act_on}
use Rattle.rv32_steps.specs.Laws.{SegmentHoldsCode}
use Rattle.rv32_steps.specs.Leads.{at}
pub use Rattle.rv32_steps.specs.Code.{code_bytes, AllInRange, InstructionIsAt, CodeIsAt}

-- the tests that an address in a segment passes
in_it : (s : Stretch) (address len : ℕ) → s.first ≤ address → address + len ≤ end_of s → 0 < len
    → (is_in address s ≡ true) × (nat_le (address + len) (end_of s) ≡ true)
in_it s address len lo hi pos = (grind (arith, nat_tests), grind (arith, nat_tests))

place_first : (right : Right) (address : ℕ) (s : Stretch) (rest : List Stretch)
    → allows right s ≡ true → is_in address s ≡ true
    → place_from right address 0 (s ∷ rest) ≡ Some 0
place_first right address s rest a i = ap
    (λ b. if b && is_in address s then Some 0 else place_from right address 1 rest) a ∙ ap
    (λ b. if true && b then Some 0 else place_from right address 1 rest) i

-- an access in the first segment
pub in_first : (right : Right) (s : Stretch) (rest : List Stretch) (address len : ℕ)
    → allows right s ≡ true → s.first ≤ address → address + len ≤ end_of s → 0 < len
    → access right (s ∷ rest) address len ≡ At 0 (address - s.first)
unfolding access
in_first right s rest address len a lo hi pos =
    let t = in_it s address len lo hi pos in
    ap (at_place (s ∷ rest) address len) (place_first right address s rest a t.0)
    ∙ ap (λ b. if b then At 0 (address - s.first) else Outside (end_of s % 2 ^ 32)) t.1

-- an access in the second segment, where the first does not serve
pub in_second : (right : Right) (c s : Stretch) (rest : List Stretch) (address len : ℕ)
    → allows right c && is_in address c ≡ false → allows right s ≡ true → s.first ≤ address
    → address + len ≤ end_of s → 0 < len → access right (c ∷ s ∷ rest) address len ≡ At 1
    (address - s.first)
unfolding access
in_second right c s rest address len apart a lo hi pos =
    let t = in_it s address len lo hi pos in
    let p : place_from right address 0 (c ∷ s ∷ rest) ≡ Some 1 =
    ap (λ b. if b then Some 0 else place_from right address 1 (s ∷ rest)) apart
    ∙ ap (λ b. if b && is_in address s then Some 1 else place_from right address 2 rest) a
    ∙ ap (λ b. if true && b then Some 1 else place_from right address 2 rest) t.0 in
    ap (at_place (c ∷ s ∷ rest) address len) p
    ∙ ap (λ b. if b then At 1 (address - s.first) else Outside (end_of s % 2 ^ 32)) t.1

-- where the first two do not serve
pub in_third : (right : Right) (c h s : Stretch) (rest : List Stretch) (address len : ℕ)
    → allows right c && is_in address c ≡ false → allows right h && is_in address h ≡ false
    → allows right s ≡ true → s.first ≤ address → address + len ≤ end_of s → 0 < len
    → access right (c ∷ h ∷ s ∷ rest) address len ≡ At 2 (address - s.first)
unfolding access
in_third right c h s rest address len apart apart' a lo hi some =
    let t = in_it s address len lo hi some in
    let p : place_from right address 0 (c ∷ h ∷ s ∷ rest) ≡ Some 2 =
    ap (λ b. if b then Some 0 else place_from right address 1 (h ∷ s ∷ rest)) apart
    ∙ ap (λ b. if b then Some 1 else place_from right address 2 (s ∷ rest)) apart'
    ∙ ap (λ b. if b && is_in address s then Some 2 else place_from right address 3 rest) a
    ∙ ap (λ b. if true && b then Some 2 else place_from right address 3 rest) t.0 in
    ap (at_place (c ∷ h ∷ s ∷ rest) address len) p
    ∙ ap (λ b. if b then At 2 (address - s.first) else Outside (end_of s % 2 ^ 32)) t.1

-- a segment that does not serve: its right is wanting, or the address is not in it
pub no_right : (right : Right) (s : Stretch) (address : ℕ) → allows right s ≡ false
    → allows right s && is_in address s ≡ false
no_right right s address e = ap (λ b. b && is_in address s) e

pub elsewhere : (right : Right) (s : Stretch) (address : ℕ) → end_of s ≤ address
    → allows right s && is_in address s ≡ false
elsewhere right s address h =
    let out : is_in address s ≡ false = grind (arith, nat_tests) in
    and_false (allows right s) (is_in address s) out
  where
    and_false : (x y : Bool) → y ≡ false → x && y ≡ false
    and_false true y e = e
    and_false false y e = refl

pub four_back : (w : ℕ) → w < 2 ^ 32 → little_endian (bytes_of 4 w) ≡ w
four_back w h = omega arith

pub holds : (c : Stretch) (pc : ℕ) (i : Instr) → c.exec ≡ true → pc % 4 ≡ 0 → c.first ≤ pc
    → pc + 4 ≤ end_of c → pc + 4 < 2 ^ 32 → InRange i → word_of i < 2 ^ 32
    → take 4 (drop (pc - c.first) c.bytes) ≡ bytes_of 4 (word_of i) → InstructionIsAt c pc i
unfolding step
holds c pc i x al lo hi top range small is = record {
  steps = λ regs rest.
      let s = at regs pc (c ∷ rest) in
      let word : little_endian (take 4 (drop (pc - c.first) c.bytes)) ≡ word_of i
      = ap little_endian is ∙ four_back (word_of i) small in
      let aligned : nat_eq (pc % 4) 0 ≡ true = grind (arith, nat_tests) in
      ap (λ b. if b then fetch_and_execute s (access Execute (c ∷ rest) pc 4)
      else Trapped MisalignedJump) aligned
      ∙ ap (fetch_and_execute s) (in_first Execute c rest pc 4 x lo hi (omega arith))
      ∙ ap (λ w. act_on s w (instr_of w)) word
      ∙ ap (act_on s (word_of i)) (decoded i range);
  next = omega arith;
}

pub front : (c : Stretch) (pc : ℕ) (a b : List Instr) → CodeIsAt c pc (a ++ b) → CodeIsAt c pc a
front c pc [] b h = tt
front c pc (i ∷ a) b h = (h.0, front c (pc + 4) a b h.1)

pub back : (c : Stretch) (pc : ℕ) (a b : List Instr) → CodeIsAt c pc (a ++ b)
    → CodeIsAt c (pc + 4 * length a) b
back c pc [] b h = let e : pc ≡ pc + 4 * 0 = omega arith in subst (λ n. CodeIsAt c n b) e h
back c pc (i ∷ a) b h =
    let e : pc + 4 + 4 * length a ≡ pc + 4 * length (i ∷ a) = omega arith in
    subst (λ n. CodeIsAt c n b) e (back c (pc + 4) a b h.1)

pub image_length : (is : List Instr) → length (code_bytes is) ≡ 4 * length is
image_length [] = refl
image_length (i ∷ is) = omega (arith, image_length is)

pub cut : (pre bs post : List ℕ) → take (length bs) (drop (length pre) (pre ++ (bs ++ post))) ≡ bs
cut pre bs post = grind (arith, common_steps)

-- the code of an image stands where it was put
pub all_stand : (c : Stretch) (pre : List ℕ) (pc : ℕ) (is : List Instr) → c.exec ≡ true
    → c.bytes ≡ pre ++ code_bytes is → pc ≡ c.first + length pre → pc % 4 ≡ 0 → end_of c < 2 ^ 32
    → AllInRange is → CodeIsAt c pc is
all_stand c pre pc [] x e at al top r = tt
all_stand c pre pc (i ∷ is) x e at al top r =
    let w = bytes_of 4 (word_of i) in
    let total : length c.bytes ≡ length pre + (4 + 4 * length is)
    = ap length e ∙ length-append pre (code_bytes (i ∷ is)) ∙ ap (λ n. length pre + n)
    (image_length (i ∷ is) ∙ omega arith) in
    let off : pc - c.first ≡ length pre = omega arith in
    let four : take 4 (drop (pc - c.first) c.bytes) ≡ w
    = ap (λ n. take 4 (drop n c.bytes)) off ∙ ap (λ l. take 4 (drop (length pre) l)) e ∙ cut pre
    w (code_bytes is) in
    let here : InstructionIsAt c pc i = holds c pc i x al (omega arith) (omega arith) (omega arith)
    r.0 (word_small i r.0) four in
    let longer : length (pre ++ w) ≡ length pre + 4 = length-append pre w in (
      here,
      all_stand c (pre ++ w) (pc + 4) is x (e ∙ sym (append_assoc pre w (code_bytes is)))
          (omega arith) (omega arith) top r.1,
    )

pub code_stands : SegmentHoldsCode
code_stands c is x e four below r = all_stand c [] c.first is x e (omega arith) four below r
