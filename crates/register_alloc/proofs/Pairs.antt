-- Lists of holders that are made one after another.
use Rattle.std.proofs.Common.{◌≡◌, ◌↔◌, ◌⊎◌, ◌||◌, ℕ, ◌+◌, ◌<◌, Bool, true, false, List, [], ◌∷◌, ◌++◌, length, Option, Some, None, slice_get, MatchOption, inl, inr, refl, sym, ap, ◌∙◌, subst, arith}
use Rattle.std.proofs.lemmas.Bool.{cases_lt}
use Rattle.register_alloc.specs.Fits.{Ascending}
use Rattle.register_alloc.specs.Holders.{HoldsRegister, Pairwise, AreRegisters}
use Rattle.register_alloc.specs.declared.holders.Holder.{Holder}
use Rattle.register_alloc.proofs.Lists.{among_first, among_either}
use Rattle.seq.specs.Lists.{is_among}
use Rattle.seq.proofs.Counted.{among_cases, among_left, among_right}

pub either_is : (a b : Bool) (B : Type 0) → ((b ≡ true) ↔ B) → ((a || b) ≡ true) ↔ ((a ≡ true) ⊎ B)
either_is true b B h = (λ e. inl refl, λ w. refl)
either_is false b B h = (λ e. inr (h.0 e), λ w. other w)
  where
    other : (false ≡ true) ⊎ B → b ≡ true
    other (inl e) = cc
    other (inr x) = h.1 x

pub record UpTo (R : Option Holder → Option Holder → Type 0) (k : ℕ)
    (old new : List (Option Holder)) : Type 0 where
  pub many : length new ≡ k
  pub each : (r : ℕ) (d e : Option Holder) → slice_get old r ≡ Some d → slice_get new r ≡ Some e
      → R d e

pub pairs_also : {R S : Option Holder → Option Holder → Type 0} {old new : List (Option Holder)}
    → Pairwise R old new → ((d e : Option Holder) → R d e → S d e) → Pairwise S old new
pairs_also pairs also = record
    { many = pairs.many; each = λ r d e a b. also d e (pairs.each r d e a b) }

-- ---- the registers that are held

pub record RegistersUpTo (held : List (Option Holder)) (k : ℕ) (registers : List ℕ) : Type 0 where
  pub ascending : Ascending registers
  pub each : (r : ℕ) → (is_among r registers ≡ true) ↔
      ((q : ℕ) × ((r ≡ 8 + q) × ((q < k) × ((d : Holder) × HoldsRegister held q d))))

pub ascending_snoc : (rs : List ℕ) (v : ℕ) → Ascending rs → ((r : ℕ) → is_among r rs ≡ true → r < v)
    → Ascending (rs ++ (v ∷ []))
ascending_snoc [] v a b = tt
ascending_snoc (r ∷ []) v a b = (b r (among_first r r [] refl), tt)
ascending_snoc (r ∷ q ∷ rs) v a b =
    (a.0, ascending_snoc (q ∷ rs) v a.1 (λ z m. b z (among_right z (r ∷ []) (q ∷ rs) m)))

module _ (held : List (Option Holder)) where
  pub no_registers : RegistersUpTo held 0 []
  no_registers = record
      { ascending = tt; each = λ r. (λ m. cc, λ q. absurd (let lt = q.1.1.0 in omega (arith, lt))) }

  pub one_more_held : (k : ℕ) (registers new : List ℕ) (d : Holder) → HoldsRegister held k d
      → new ≡ registers ++ ((8 + k) ∷ []) → RegistersUpTo held k registers
      → RegistersUpTo held (k + 1) new
  one_more_held k registers new d here is u = record {
    ascending = subst Ascending (sym is)
        (ascending_snoc registers (8 + k) u.ascending
        (λ r m. let q = (u.each r).0 m in let e = q.1.0 in let lt = q.1.1.0
        in omega (arith, e, lt)));
    each = λ r. (
      λ m. elim (among_either r registers ((8 + k) ∷ []) (subst (λ l. is_among r l ≡ true) is m)) [
        | inl before ↦ let q = (u.each r).0 before in
            (q.0, (q.1.0, (let lt = q.1.1.0 in omega (arith, lt), q.1.1.1)))
        | inr last ↦
            elim (among_cases r (8 + k) [] last) [
              | inl e ↦ (k, (e, (omega arith, (d, here))))
              | inr none ↦ cc
            ]
      ],
      λ q. elim (cases_lt q.0 k) [
        | inl lt ↦ subst (λ l. is_among r l ≡ true) (sym is)
            (among_left r registers ((8 + k) ∷ []) ((u.each r).1 (q.0, (q.1.0, (lt, q.1.1.1)))))
        | inr ge ↦
            let same : r ≡ 8 + k = let lt = q.1.1.0 in let e = q.1.0 in omega (arith, lt, ge, e) in
            subst (λ l. is_among r l ≡ true) (sym is)
            (among_right r registers ((8 + k) ∷ []) (among_first r (8 + k) [] same))
      ],
    );
  }

  pub one_more_free : (k : ℕ) (registers : List ℕ) → ((d : Holder) → HoldsRegister held k d → ⊥)
      → RegistersUpTo held k registers → RegistersUpTo held (k + 1) registers
  one_more_free k registers free u = record {
    ascending = u.ascending;
    each = λ r. (
      λ m. let q = (u.each r).0 m in
          (q.0, (q.1.0, (let lt = q.1.1.0 in omega (arith, lt), q.1.1.1))),
      λ q. elim (cases_lt q.0 k) [
        | inl lt ↦ (u.each r).1 (q.0, (q.1.0, (lt, q.1.1.1)))
        | inr ge ↦
            let same : q.0 ≡ k = let lt = q.1.1.0 in omega (arith, lt, ge) in
            absurd (free q.1.1.1.0 (subst (λ n. HoldsRegister held n q.1.1.1.0) same q.1.1.1.1))
      ],
    );
  }

  pub all_registers : (registers : List ℕ) → RegistersUpTo held 24 registers
      → AreRegisters held registers
  all_registers registers u = record { ascending = u.ascending; each = u.each }

  pub next_register : (k : ℕ) (registers new : List ℕ) (o : Option Holder)
      → slice_get held k ≡ Some o → MatchOption o (new ≡ registers)
      (λ d. new ≡ registers ++ ((8 + k) ∷ []))
      → RegistersUpTo held k registers → RegistersUpTo held (k + 1) new
  next_register k registers new None there is u = subst (RegistersUpTo held (k + 1)) (sym is)
      (one_more_free k registers (λ d e. let h : Some None ≡ Some (Some d) = sym there ∙ e in cc) u)
  next_register k registers new (Some d) there is u = one_more_held k registers new d there is u

pub held_below : (held : List (Option Holder)) (k : ℕ) (o : Option Holder)
    → slice_get held k ≡ Some o → ((d : Holder) × (o ≡ Some d))
    → ((r : ℕ) → r < k → (d : Holder) × HoldsRegister held r d)
    → (r : ℕ) → r < k + 1 → (d : Holder) × HoldsRegister held r d
held_below held k o there d below r lt = elim (cases_lt r k) [
  | inl less ↦ below r less
  | inr past ↦
      let same : k ≡ r = omega (arith, lt, past) in
      (d.0, subst (λ n. HoldsRegister held n d.0) same (there ∙ ap Some d.1))
]
