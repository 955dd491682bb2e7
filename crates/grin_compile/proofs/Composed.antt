-- A machine that carries a meaning carries one that tells the same.
use Rattle.std.proofs.Common.{◌≡◌, inl, inr, ℕ, zero, suc, List, ◌++◌, sym, ap, ◌∙◌, subst, arith}
use Rattle.headline.specs.Carries.{End, going, done, no_alternative, missing, MeaningResult, MachineStatus, runs, exits, traps, MachineObservation, IsPrefixOf, EndMatchesExit, ReachesResult, ExtendsShorterRun, Finishes, Comes, Carries, MeaningRefines, IsBytes, Meaning, Machine, ShowsSameRuns}

begins_along : (xs ys zs : List ℕ) → ys ≡ zs → IsPrefixOf xs ys → IsPrefixOf xs zs
begins_along xs ys zs e b = (b.0, sym e ∙ b.1)

begins_from : (xs ys zs : List ℕ) → xs ≡ ys → IsPrefixOf xs zs → IsPrefixOf ys zs
begins_from xs ys zs e b = (b.0, b.1 ∙ ap (λ l. l ++ b.0) e)

ends_kept : (e e' : End) (t t' : MeaningResult) (s : MachineObservation) → e' ≡ e → t'.out ≡ t.out
    → EndMatchesExit e' t' s → EndMatchesExit e t s
ends_kept e e' t t' s same out h = subst (λ x. EndMatchesExit x t s) same (go e' h)
  where
    go : (x : End) → EndMatchesExit x t' s → EndMatchesExit x t s
    go going k = tt
    go done k = (k.0 ∙ out, k.1)
    go no_alternative k = (k.0 ∙ out, k.1)
    go missing k = absurd k

pub reaches_kept : (t t' : MeaningResult) (s : MachineObservation) → MeaningRefines t t'
    → ReachesResult t' s → ReachesResult t s
reaches_kept t t' s h (inl r) = inl
    (begins_from t'.out t.out s.out h.out r.0, ends_kept t.end t'.end t t' s h.end h.out r.1)
reaches_kept t t' s h (inr r) = inr (r.0, begins_along s.out t'.out t.out h.out r.1)

after_kept : (told told' : ℕ → MeaningResult) → ((n : ℕ) → MeaningRefines (told n) (told' n))
    → (n : ℕ) (out : List ℕ) → ExtendsShorterRun told' n out → ExtendsShorterRun told n out
after_kept told told' h zero out a = tt
after_kept told told' h (suc n) out a = begins_from (told' n).out (told n).out out (h n).out a

finish_kept : (told told' : ℕ → MeaningResult) (H S H' S' : MeaningResult → Type 0) (n : ℕ)
    (s : MachineObservation) (f : MachineStatus)
    → ((n : ℕ) → MeaningRefines (told n) (told' n)) → (H' (told' n) → H (told n))
    → (S' (told' n) → S (told n))
    → Finishes H' S' told' n s f → Finishes H S told n s f
finish_kept told told' H S H' S' n s runs h heap stack g = tt
finish_kept told told' H S H' S' n s (exits zero) h heap stack g
    = (g.0 ∙ (h n).out, g.1 ∙ (h n).used, sym (h n).end ∙ g.2)
finish_kept told told' H S H' S' n s (exits (suc zero)) h heap stack g = absurd g
finish_kept told told' H S H' S' n s (exits (suc (suc zero))) h heap stack g = absurd g
finish_kept told told' H S H' S' n s (exits (suc (suc (suc zero)))) h heap stack g
    = (g.0 ∙ (h n).out, g.1 ∙ (h n).used, sym (h n).end ∙ g.2)
finish_kept told told' H S H' S' n s (exits (suc (suc (suc (suc zero))))) h heap stack g
    = (heap g.0, after_kept told told' h n s.out g.1)
finish_kept told told' H S H' S' n s (exits (suc (suc (suc (suc (suc zero)))))) h heap stack g
    = (stack g.0, after_kept told told' h n s.out g.1)
finish_kept told told' H S H' S' n s (exits (suc (suc (suc (suc (suc (suc k))))))) h heap stack g
    = absurd g
finish_kept told told' H S H' S' n s traps h heap stack g = absurd g

pub comes_kept : (told told' : ℕ → MeaningResult) (H S H' S' : MeaningResult → Type 0) (n : ℕ)
    (s : MachineObservation)
    → ((n : ℕ) → MeaningRefines (told n) (told' n)) → (H' (told' n) → H (told n))
    → (S' (told' n) → S (told n))
    → Comes H' S' told' n s → Comes H S told n s
comes_kept told told' H S H' S' n s h heap stack c = record {
  output = begins_along s.out (told' n).out (told n).out (h n).out c.output;
  used = omega (arith, c.used, (h n).used);
  finish = finish_kept told told' H S H' S' n s s.finish h heap stack c.finish;
}

-- where a machine shows what another one does, and a meaning tells what another one tells, the one
-- carries the other's
pub carrying_is_kept :
    (told told' : Meaning) (Heap Stack Heap' Stack' : MeaningResult → Type 0) (seen seen' : Machine)
    → ((i : List ℕ) → IsBytes i → (n : ℕ) → MeaningRefines (told i n) (told' i n))
    → ((i : List ℕ) → IsBytes i → (n : ℕ) → Heap' (told' i n) → Heap (told i n))
    → ((i : List ℕ) → IsBytes i → (n : ℕ) → Stack' (told' i n) → Stack (told i n))
    → ShowsSameRuns seen seen' → Carries Heap' Stack' told' seen → Carries Heap Stack told seen'
carrying_is_kept told told' H S H' S' seen seen' tells heap stack shows c = record {
  reaches = λ i bytes n.
      let r = c.reaches i bytes n in
      let there = shows.there i r.0 in (
        there.0,
        subst (λ s. ReachesResult (told i n) s) (sym there.1)
            (reaches_kept (told i n) (told' i n) (seen i r.0) (tells i bytes n) r.1),
      );
  comes = λ i bytes k.
      let back = shows.back i k in
      let r = c.comes i bytes back.0 in (
        r.0,
        subst (λ s. Comes H S (told i) r.0 s) (sym back.1)
            (comes_kept (told i) (told' i) H S H' S' r.0 (seen i back.0) (tells i bytes)
            (heap i bytes r.0) (stack i bytes r.0) r.1),
      );
}
