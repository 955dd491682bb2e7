-- Words of the second and the third segment are loaded and stored.
use Rattle.std.proofs.Common.{◌≡◌, ℕ, ◌+◌, ◌-◌, ◌*◌, ◌%◌, ◌<◌, ◌≤◌, List, ◌∷◌, length, take, drop, get_or, set, true, false, refl, ap, ◌∙◌, arith}
use Rattle.std.specs.Prelude.{ℤ, nat_eq, if◌then◌else◌}
use Rattle.std.proofs.lemmas.Bool.Decides.{nat_tests}
use Rattle.rv32_isa.specs.declared.instr.Instr.TheVariants.{Load, Store}
use Rattle.rv32_isa.specs.declared.instr.LoadKind.TheVariants.{Lw}
use Rattle.rv32_isa.specs.declared.instr.StoreKind.TheVariants.{Sw}
use Rattle.rv32_machine.specs.declared.memory.Right.TheVariants.{Read, Write}
use Rattle.rv32_machine.specs.declared.machine.TrapKind.TheVariants.{MisalignedAccess}
use Rattle.rv32_machine.specs.Memory.{Stretch, end_of, access, bytes_of, little_endian, put_over}
use Rattle.rv32_machine.specs.Arithmetic.{plus, pattern, load_value}
use Rattle.rv32_machine.specs.Steps.{State, Next, Trapped, act, stored, loaded, put}
use Rattle.rv32_steps.specs.Leads.{at}
use Rattle.rv32_steps.specs.Data.{words_bytes, AreWords, word_segment}
use Rattle.rv32_steps.specs.Straight.{register_value}
use Rattle.rv32_steps.proofs.Fetch.{in_second, in_third, no_right, elsewhere}
use Rattle.rv32_steps.proofs.Words.{words_length, read_word, put_word}

-- a segment with these bytes that may be written
abbrev pub bytes_segment : ℕ → List ℕ → Stretch
bytes_segment first bytes = record { first = first; write = true; exec = false; bytes = bytes }

aligned : (first k : ℕ) → first % 4 ≡ 0 → nat_eq ((first + 4 * k) % 4) 0 ≡ true
aligned first k four = let z : (first + 4 * k) % 4 ≡ 0 = omega arith in grind (arith, nat_tests)

module _ (c : Stretch) (pc : ℕ) (regs : ℕ → ℕ) (first : ℕ) (ws : List ℕ) (rest : List Stretch) where
  pub lw_second : (rd rs1 k : ℕ) (imm : ℤ) → end_of c ≤ first → first % 4 ≡ 0 → AreWords ws
      → k < length ws → plus (register_value regs rs1) (pattern imm) ≡ first + 4 * k
      → act (at regs pc (c ∷ word_segment first ws ∷ rest)) (Load Lw rd rs1 imm) ≡ put
      (at regs pc (c ∷ word_segment first ws ∷ rest)) rd (get_or ws k 0)
  lw_second rd rs1 k imm low four are lt ea =
      let m = c ∷ word_segment first ws ∷ rest in
      let s : State = at regs pc m in
      let a = first + 4 * k in
      let fits : a + 4 ≤ first + length (words_bytes ws) = omega (arith, words_length ws) in
      let off : a - first ≡ 4 * k = omega arith in
      ap (λ x. if nat_eq (x % 4) 0 then loaded s rd (load_value Lw) 4 (access Read m x 4)
      else Trapped (MisalignedAccess x)) ea
      ∙ ap (λ t. if t then loaded s rd (load_value Lw) 4 (access Read m a 4)
      else Trapped (MisalignedAccess a)) (aligned first k four)
      ∙ ap (loaded s rd (load_value Lw) 4)
      (in_second Read c (word_segment first ws) rest a 4 (elsewhere Read c a (omega arith)) refl
      (omega arith) fits (omega arith))
      ∙ ap (λ o. put s rd (little_endian (take 4 (drop o (words_bytes ws))))) off
      ∙ ap (put s rd) (read_word ws k are lt)

  pub sw_second : (rs2 rs1 k : ℕ) (imm : ℤ) → c.write ≡ false → first % 4 ≡ 0 → k < length ws
      → plus (register_value regs rs1) (pattern imm) ≡ first + 4 * k
      → act (at regs pc (c ∷ word_segment first ws ∷ rest)) (Store Sw rs2 rs1 imm) ≡ Next
      (at regs (plus pc 4) (c ∷ word_segment first (set ws k (register_value regs rs2)) ∷ rest))
  sw_second rs2 rs1 k imm fixed four lt ea =
      let m = c ∷ word_segment first ws ∷ rest in
      let s : State = at regs pc m in
      let a = first + 4 * k in
      let bytes = bytes_of 4 (register_value regs rs2) in
      let fits : a + 4 ≤ first + length (words_bytes ws) = omega (arith, words_length ws) in
      let off : a - first ≡ 4 * k = omega arith in
      ap (λ x. if nat_eq (x % 4) 0 then stored s bytes (access Write m x 4)
      else Trapped (MisalignedAccess x)) ea
      ∙ ap (λ t. if t then stored s bytes (access Write m a 4) else Trapped (MisalignedAccess a))
      (aligned first k four)
      ∙ ap (stored s bytes)
      (in_second Write c (word_segment first ws) rest a 4 (no_right Write c a fixed) refl
      (omega arith) fits (omega arith))
      ∙ ap (λ o. Next
      (at regs (plus pc 4)
      (c ∷ bytes_segment first (put_over (words_bytes ws) o bytes) ∷ rest))) off
      ∙ ap (λ x. Next (at regs (plus pc 4) (c ∷ bytes_segment first x ∷ rest)))
      (put_word ws k (register_value regs rs2) lt)

module _ (c h : Stretch) (pc : ℕ) (regs : ℕ → ℕ) (first : ℕ) (ws : List ℕ) (rest : List Stretch)
  where
    pub lw_third : (rd rs1 k : ℕ) (imm : ℤ) → end_of c ≤ first → end_of h ≤ first → first % 4 ≡ 0
        → AreWords ws → k < length ws → plus (register_value regs rs1) (pattern imm) ≡ first + 4 * k
        → act (at regs pc (c ∷ h ∷ word_segment first ws ∷ rest)) (Load Lw rd rs1 imm) ≡ put
        (at regs pc (c ∷ h ∷ word_segment first ws ∷ rest)) rd (get_or ws k 0)
    lw_third rd rs1 k imm low low' four are lt ea =
        let m = c ∷ h ∷ word_segment first ws ∷ rest in
        let s : State = at regs pc m in
        let a = first + 4 * k in
        let fits : a + 4 ≤ first + length (words_bytes ws) = omega (arith, words_length ws) in
        let off : a - first ≡ 4 * k = omega arith in
        ap (λ x. if nat_eq (x % 4) 0 then loaded s rd (load_value Lw) 4 (access Read m x 4)
        else Trapped (MisalignedAccess x)) ea
        ∙ ap (λ t. if t then loaded s rd (load_value Lw) 4 (access Read m a 4)
        else Trapped (MisalignedAccess a)) (aligned first k four)
        ∙ ap (loaded s rd (load_value Lw) 4)
        (in_third Read c h (word_segment first ws) rest a 4 (elsewhere Read c a (omega arith))
        (elsewhere Read h a (omega arith)) refl (omega arith) fits (omega arith))
        ∙ ap (λ o. put s rd (little_endian (take 4 (drop o (words_bytes ws))))) off
        ∙ ap (put s rd) (read_word ws k are lt)

    pub sw_third : (rs2 rs1 k : ℕ) (imm : ℤ) → c.write ≡ false → end_of h ≤ first → first % 4 ≡ 0
        → k < length ws → plus (register_value regs rs1) (pattern imm) ≡ first + 4 * k
        → act (at regs pc (c ∷ h ∷ word_segment first ws ∷ rest)) (Store Sw rs2 rs1 imm) ≡ Next
        (at regs (plus pc 4) (c ∷ h ∷ word_segment first (set ws k (register_value regs rs2)) ∷ rest))
    sw_third rs2 rs1 k imm fixed low' four lt ea =
        let m = c ∷ h ∷ word_segment first ws ∷ rest in
        let s : State = at regs pc m in
        let a = first + 4 * k in
        let bytes = bytes_of 4 (register_value regs rs2) in
        let fits : a + 4 ≤ first + length (words_bytes ws) = omega (arith, words_length ws) in
        let off : a - first ≡ 4 * k = omega arith in
        ap (λ x. if nat_eq (x % 4) 0 then stored s bytes (access Write m x 4)
        else Trapped (MisalignedAccess x)) ea
        ∙ ap (λ t. if t then stored s bytes (access Write m a 4) else Trapped (MisalignedAccess a))
        (aligned first k four)
        ∙ ap (stored s bytes)
        (in_third Write c h (word_segment first ws) rest a 4 (no_right Write c a fixed)
        (elsewhere Write h a (omega arith)) refl (omega arith) fits (omega arith))
        ∙ ap (λ o. Next
        (at regs (plus pc 4)
        (c ∷ h ∷ bytes_segment first (put_over (words_bytes ws) o bytes) ∷ rest))) off
        ∙ ap (λ x. Next (at regs (plus pc 4) (c ∷ h ∷ bytes_segment first x ∷ rest)))
        (put_word ws k (register_value regs rs2) lt)
