-- The results of all procedures, one after the other.
use Rattle.std.proofs.Common.{◌≡◌, ◌⊎◌, inl, inr, ◌≤◌, ◌<◌, ℕ, zero, suc, ◌+◌, List, [], ◌∷◌, ◌++◌, map, length, get_or, refl, sym, ap, ◌∙◌, subst, arith, length-append}
use Rattle.grin_syntax.specs.declared.program.Op.{Op}
use Rattle.grin_syntax.specs.declared.program.Proc.{Proc}
use Rattle.grin_syntax.specs.Formed.{AllOf}
use Rattle.grin_syntax.specs.Tree.{act_of, code_of, procedure_of}
use Rattle.low_translate.specs.Translation.{results_of}
use Rattle.low_translate.specs.Lowered.{ActEnds, CodeEnds, CodeGives, EachProcedureReturns}
use Rattle.low_translate.proofs.Items.{results_of-get}
use Rattle.low_translate.proofs.LastOps.{last_ends}

pub all_at : {A B : Type 0} (P : B → Type 0) (f : A → B) (xs : List A) (i : ℕ) (x : A)
    → i < length xs → x ≡ get_or xs i x → AllOf P (map f xs) → P (f x)
all_at P f [] i x lt e h = absurd (omega (arith, lt))
all_at P f (y ∷ xs) zero x lt e h = subst (λ z. P (f z)) (sym e) h.0
all_at P f (y ∷ xs) (suc i) x lt e h = all_at P f xs i x (omega (arith, lt)) e h.1

pub all_few : (most : ℕ) (xs : List ℕ) → ((i : ℕ) → get_or xs i 0 ≤ most) → AllOf (λ r. r ≤ most) xs
all_few most [] h = tt
all_few most (x ∷ xs) h = (h 0, all_few most xs (λ i. h (suc i)))

pub each_gives : (node : ℕ) (results rs : List ℕ) (qs : List Proc) → length rs ≡ length qs
    → ((x : ℕ) (q : Proc) → x < length qs → q ≡ get_or qs x q
    → CodeGives node results (get_or rs x 0) (code_of q.body))
    → EachProcedureReturns node results rs (map procedure_of qs)
each_gives node results [] [] e h = tt
each_gives node results [] (q ∷ qs) e h = absurd (omega (arith, e))
each_gives node results (r ∷ rs) [] e h = absurd (omega (arith, e))
each_gives node results (r ∷ rs) (q ∷ qs) e h = (
  h 0 q (omega arith) refl,
  each_gives node results rs qs (omega (arith, e))
      (λ x p lt k. h (suc x) p (omega (arith, lt)) k),
)

pub all_give : (rs calls : List ℕ) (r : ℕ) → AllOf (λ h. get_or rs h 0 ≡ r) calls
    → AllOf (λ h. results_of rs h ≡ r) calls
all_give rs [] r h = tt
all_give rs (x ∷ calls) r h = (results_of-get rs x ∙ h.0, all_give rs calls r h.1)

pub width_more : (old new : List ℕ) (v f : ℕ) → length old ≡ f → new ≡ old ++ v ∷ []
    → length new ≡ f + 1
width_more old new v f e n = ap length n ∙ length-append old (v ∷ []) ∙ ap (λ k. k + 1) e

pub before_last : (old : List ℕ) (v x : ℕ) → x < length old
    → get_or (old ++ v ∷ []) x 0 ≡ get_or old x 0
before_last [] v x lt = absurd (omega (arith, lt))
before_last (y ∷ old) v zero lt = refl
before_last (y ∷ old) v (suc x) lt = before_last old v x (omega (arith, lt))

pub at_last : (old : List ℕ) (v x : ℕ) → x ≡ length old → get_or (old ++ v ∷ []) x 0 ≡ v
at_last [] v zero e = refl
at_last [] v (suc x) e = absurd (omega (arith, e))
at_last (y ∷ old) v zero e = absurd (omega (arith, e))
at_last (y ∷ old) v (suc x) e = at_last old v x (omega (arith, e))

pub few_more : (old new : List ℕ) (v most : ℕ) → ((x : ℕ) → get_or old x 0 ≤ most) → v ≤ most
    → new ≡ old ++ v ∷ [] → (x : ℕ) → get_or new x 0 ≤ most
few_more old new v most h le e x = subst (λ l. get_or l x 0 ≤ most) (sym e) (go old h x)
  where
    go : (xs : List ℕ) → ((x : ℕ) → get_or xs x 0 ≤ most) → (x : ℕ)
        → get_or (xs ++ v ∷ []) x 0 ≤ most
    go [] h zero = le
    go [] h (suc x) = omega arith
    go (y ∷ xs) h zero = h 0
    go (y ∷ xs) h (suc x) = go xs (λ k. h (suc k)) x

-- one procedure more
pub gives_more : (node : ℕ) (rs old new : List ℕ) (v f x : ℕ) (procs : List Proc) (q p : Proc)
    → length old ≡ f → new ≡ old ++ v ∷ [] → p ≡ get_or procs f p → x < f + 1 → q ≡ get_or procs x q
    → f < length procs → get_or new x 0 ≤ get_or rs x 0
    → (v ≤ get_or rs f 0 → CodeGives node rs (get_or rs f 0) (code_of p.body))
    → (x < f → get_or old x 0 ≤ get_or rs x 0 → CodeGives node rs (get_or rs x 0) (code_of q.body))
    → CodeGives node rs (get_or rs x 0) (code_of q.body)
gives_more node rs old new v f x procs q p len e ep lt eq kf le last before
    = elim (same_or_less x f lt) [
      | inl d ↦
          let a : get_or new x 0 ≡ v = ap (λ l. get_or l x 0) e ∙ at_last old v x (d ∙ sym len) in
          let b : get_or rs x 0 ≡ get_or rs f 0 = ap (λ k. get_or rs k 0) d in
          let qp : q ≡ p = same_item procs x q p (omega (arith, d, kf)) eq
          (ep ∙ ap (λ k. get_or procs k p) (sym d)) in
          subst (λ k. CodeGives node rs k (code_of q.body)) (sym b)
          (subst (λ u. CodeGives node rs (get_or rs f 0) (code_of u.body)) (sym qp)
          (last (omega (arith, a, b, le))))
      | inr l ↦ let a : get_or new x 0 ≡ get_or old x 0
          = ap (λ k. get_or k x 0) e ∙ before_last old v x (omega (arith, l, len))
          in before l (omega (arith, a, le))
    ]
  where
    same_or_less : (x f : ℕ) → x < f + 1 → (x ≡ f) ⊎ (x < f)
    same_or_less zero zero lt = inl refl
    same_or_less zero (suc f) lt = inr (omega arith)
    same_or_less (suc x) zero lt = absurd (omega (arith, lt))
    same_or_less (suc x) (suc f) lt = elim (same_or_less x f (omega (arith, lt)))
        [ inl e ↦ inl (ap suc e) | inr l ↦ inr (omega (arith, l)) ]

    same_item : (xs : List Proc) (i : ℕ) (a b : Proc) → i < length xs → a ≡ get_or xs i a
        → b ≡ get_or xs i b → a ≡ b
    same_item [] i a b lt ea eb = absurd (omega (arith, lt))
    same_item (y ∷ xs) zero a b lt ea eb = ea ∙ sym eb
    same_item (y ∷ xs) (suc i) a b lt ea eb = same_item xs i a b (omega (arith, lt)) ea eb

-- the last operation of a procedure ends well
pub proc_ends : (node : ℕ) (procs : List Proc) (f : ℕ) (p : Proc) (o : Op) → f < length procs
    → p ≡ get_or procs f p → o ≡ p.body.last.value → AllOf
    (λ q. CodeEnds (length procs) node 13 q.body) (map procedure_of procs)
    → ActEnds (length procs) node 13 (act_of o)
proc_ends node procs f p o lt e l h = subst (λ u. ActEnds (length procs) node 13 (act_of u)) (sym l)
    (last_ends (length procs) node 13 p.body
    (all_at (λ q. CodeEnds (length procs) node 13 q.body) procedure_of procs f p lt e h))

-- three procedures that end well
pub three_end : (ps p0 p1 p2 p3 : List Proc) (a b c : Proc) → p0 ≡ [] → p1 ≡ p0 ++ a ∷ [] → p2 ≡ p1
    ++ b ∷ [] → p3 ≡ p2 ++ c ∷ [] → ps ≡ p3
    → CodeEnds 3 3 13 (code_of a.body) → CodeEnds 3 3 13 (code_of b.body)
    → CodeEnds 3 3 13 (code_of c.body) → AllOf (λ q. CodeEnds (length ps) 3 13 q.body)
    (map procedure_of ps)
three_end ps p0 p1 p2 p3 a b c e0 e1 e2 e3 e ha hb hc =
    let s1 : p1 ≡ a ∷ [] = e1 ∙ ap (λ l. l ++ a ∷ []) e0 in
    let s2 : p2 ≡ a ∷ (b ∷ []) = e2 ∙ ap (λ l. l ++ b ∷ []) s1 in
    let s3 : p3 ≡ a ∷ (b ∷ (c ∷ [])) = e3 ∙ ap (λ l. l ++ c ∷ []) s2 in
    subst (λ l. AllOf (λ q. CodeEnds (length l) 3 13 q.body) (map procedure_of l)) (sym (e ∙ s3))
    (ha, (hb, (hc, tt)))
