use Rattle.std.proofs.Common.{rules, ◌≡◌, ℕ, zero, suc, ◌≤◌, List, [], ◌∷◌, take, Some, None, refl, ap, subst, arith}
use Rattle.rv32_machine.proofs.run.next_byte.Goals as goal

-- the byte that was read is the buffer's
read_is : (buffer : List ℕ) (byte k : ℕ) → buffer ≡ byte ∷ [] → k ≤ 1 → (k ≡ 0 → ⊥)
    → take k buffer ≡ byte ∷ []
read_is buffer byte zero is within some = absurd (some refl)
read_is buffer byte (suc zero) is within some = ap (take 1) is
read_is buffer byte (suc (suc k)) is within some = absurd (omega (arith, within))

is_some : (byte : ℕ) → Some byte ≡ None → ⊥
is_some byte e = cc

pub returns-else-count-eq0-clause-next : goal.returns-else-count-eq0-clause-next
returns-else-count-eq0-clause-next g c =
    let e = c.in_ok-count.ensures in record {
      exactly = subst (λ l. g.I.Source.read_gives c.args.input.now 1 (Some l) c.read.new.self)
          (read_is c.read.new.buf c.only.result c.in_ok-count.count c.only.ensures.byte e.within
          c.if-count-eq0.false) e.exactly;
      content = search rules;
      small = c.only.ensures.small;
      met = λ h. absurd (is_some c.only.result h);
      over = λ h. absurd (c.if-count-eq0.false (e.end.none h));
    }
