-- What follows from how the parameters of a program are decided.
use Rattle.std.proofs.Common.{◌≡◌, ℕ, zero, suc, ◌+◌, ◌-◌, ◌<◌, ◌≤◌, Bool, true, false, cond, nat_eq, List, [], ◌∷◌, ◌++◌, length, Some, None, slice_get, refl, ap, ◌∙◌, subst, arith}
use Rattle.std.proofs.lemmas.Bool.Decides.{nat_tests}
use Rattle.std.proofs.lemmas.List.{length-append}
use Rattle.std.proofs.lemmas.Option.{slice_get_within}
use Rattle.grin_syntax.specs.declared.program.VarId.{VarId}
use Rattle.grin_syntax.specs.Formed.{AllOf}
use Rattle.grin_syntax.specs.Tree.{Procedure, Program}
use Rattle.flow_system.specs.Solution.{Solution}
use Rattle.raise_theory.specs.Raisable.{Raisable}
use Rattle.raise_theory.specs.Raising.{Raising, Decisions, fields_of, raised_params, decided, new_code, raised_procedure, raised_procs}
use Rattle.raise_theory.specs.Decided.{AllStay, Decided, ProcedureDecided, AllDecided}
use Rattle.grin_syntax.proofs.Counted.{length_variables}

-- ---- where all stay

none_decided : (xs : List VarId) (ds : Decisions) (y : ℕ) (r : Raising) → AllStay xs ds
    → decided ds xs y ≡ Some r → ⊥
none_decided [] [] y r a e = cc
none_decided [] (d ∷ ds) y r a e = absurd a
none_decided (x ∷ xs) [] y r a e = absurd a
none_decided (x ∷ xs) (Some s ∷ ds) y r a e = absurd a
none_decided (x ∷ xs) (None ∷ ds) y r a e = go (nat_eq x.0 y) e (λ h. none_decided xs ds y r a h)
  where
    go : (b : Bool) → cond b None (decided ds xs y) ≡ Some r → (decided ds xs y ≡ Some r → ⊥) → ⊥
    go true h f = cc
    go false h f = f h

params_stay : (xs : List VarId) (ds : Decisions) → AllStay xs ds → raised_params ds xs ≡ xs
params_stay [] [] a = refl
params_stay [] (d ∷ ds) a = absurd a
params_stay (x ∷ xs) [] a = absurd a
params_stay (x ∷ xs) (Some s ∷ ds) a = absurd a
params_stay (x ∷ xs) (None ∷ ds) a = ap (λ l. x ∷ l) (params_stay xs ds a)

module _ (A : Solution) (g : Program) where
  -- ---- a procedure

  raisable_if : (q : Procedure) (count : ℕ) (xs : List VarId) (ds : Decisions) (y : ℕ) (r : Raising)
      → Decided A g q count xs ds → decided ds xs y ≡ Some r → Raisable A g q y r.tag.0 r.fields
  raisable_if q count [] [] y r d e = cc
  raisable_if q count [] (o ∷ ds) y r d e = absurd d
  raisable_if q count (x ∷ xs) [] y r d e = absurd d
  raisable_if q count (x ∷ xs) (None ∷ ds) y r d e = go (nat_eq x.0 y) e
      (λ h. raisable_if q count xs ds y r d.1 h)
    where
      go : (b : Bool) → cond b None (decided ds xs y) ≡ Some r
          → (decided ds xs y ≡ Some r → Raisable A g q y r.tag.0 r.fields)
          → Raisable A g q y r.tag.0 r.fields
      go true h f = cc
      go false h f = f h
  raisable_if q count (x ∷ xs) (Some s ∷ ds) y r d e
      = go (nat_eq x.0 y) refl e (λ h. raisable_if q (count + s.fields - 1) xs ds y r d.2 h)
    where
      here : (z : ℕ) → z ≡ y → s ≡ r → Raisable A g q z s.tag.0 s.fields
          → Raisable A g q y r.tag.0 r.fields
      here z h k t = subst (λ s. Raisable A g q y s.tag.0 s.fields) k
          (subst (λ z. Raisable A g q z s.tag.0 s.fields) h t)

      go : (b : Bool) → nat_eq x.0 y ≡ b → cond b (Some s) (decided ds xs y) ≡ Some r
          → (decided ds xs y ≡ Some r → Raisable A g q y r.tag.0 r.fields)
          → Raisable A g q y r.tag.0 r.fields
      go true t h f = let k : s ≡ r = cc in here x.0 (grind (arith, nat_tests)) k d.0
      go false t h f = f h

  -- what is decided to be raised can be raised
  pub raisable : (f : ℕ) (q : Procedure) (ds : Decisions) → ProcedureDecided A g f q ds
      → (y : ℕ) (r : Raising) → decided ds q.params y ≡ Some r → Raisable A g q y r.tag.0 r.fields
  raisable f q ds d y r e = go (nat_eq f g.start.0) refl
    where
      go : (b : Bool) → nat_eq f g.start.0 ≡ b → Raisable A g q y r.tag.0 r.fields
      go true t = absurd (none_decided q.params ds y r (d.start (grind (arith, nat_tests))) e)
      go false t = raisable_if q (length q.params) q.params ds y r
          (d.other (grind (arith, nat_tests))) e

  pub tag_there : (q : Procedure) (x t k : ℕ) → Raisable A g q x t k → t < length g.tags
  tag_there q x t k r = slice_get_within g.tags t r.value.info r.value.is_tag

  -- from as many parameters as there are at the turn of these, of which there are no fewer
  few_of : (q : Procedure) (count : ℕ) (xs : List VarId) (ds : Decisions)
      → Decided A g q count xs ds → length xs ≤ count → count ≤ 16
      → length (raised_params ds xs) + count ≤ 16 + length xs
  few_of q count [] [] d le few = omega (arith, few)
  few_of q count [] (o ∷ ds) d le few = absurd d
  few_of q count (x ∷ xs) [] d le few = absurd d
  few_of q count (x ∷ xs) (None ∷ ds) d le few =
      let h : length (raised_params ds xs) + count ≤ 16 + length xs
      = few_of q count xs ds d.1 (omega (arith, le)) few in
      omega (arith, h)
  few_of q count (x ∷ xs) (Some s ∷ ds) d le few =
      let room : count + s.fields ≤ 17 = d.1 in
      let h : length (raised_params ds xs) + (count + s.fields - 1) ≤ 16 + length xs
      = few_of q (count + s.fields - 1) xs ds d.2 (omega (arith, le)) (omega (arith, room)) in
      let e : length (fields_of s ++ raised_params ds xs) ≡ length (fields_of s) + length
      (raised_params ds xs) = length-append (fields_of s) (raised_params ds xs) in
      let f : length (fields_of s) ≡ s.fields = length_variables s.first.0 s.fields in
      omega (arith, h, e, f, le)

  few_here : (f : ℕ) (q : Procedure) (ds : Decisions) → ProcedureDecided A g f q ds
      → length q.params ≤ 16 → length (raised_params ds q.params) ≤ 16
  few_here f q ds d few = go (nat_eq f g.start.0) refl
    where
      go : (b : Bool) → nat_eq f g.start.0 ≡ b → length (raised_params ds q.params) ≤ 16
      go true t = let e : length (raised_params ds q.params) ≡ length q.params
          = ap length (params_stay q.params ds (d.start (grind (arith, nat_tests))))
          in omega (arith, e, few)
      go false t = let h : length (raised_params ds q.params) + length q.params ≤ 16 + length
          q.params = few_of q (length q.params) q.params ds (d.other (grind (arith, nat_tests)))
          (omega arith) few in omega (arith, h)

  -- ---- the procedures

  module _ (D : List Decisions) where
    pub few_params : (dss : List Decisions) (qs : List Procedure) (n f : ℕ)
        → AllDecided A g f qs dss → AllOf (λ q. length q.params ≤ 16) qs
        → AllOf (λ q. length q.params ≤ 16) (raised_procs D n dss qs)
    few_params [] [] n f d h = tt
    few_params [] (q ∷ qs) n f d h = absurd d
    few_params (ds ∷ dss) [] n f d h = absurd d
    few_params (ds ∷ dss) (q ∷ qs) n f d h =
        (few_here f q ds d.0 h.0, few_params dss qs (n + new_code D q.body) (suc f) d.1 h.1)

    -- the start keeps its parameters
    pub start_of : (dss : List Decisions) (qs : List Procedure) (n f i k : ℕ)
        → AllDecided A g f qs dss → f + i ≡ g.start.0 → (q : Procedure)
        × ((slice_get qs i ≡ Some q) × (length q.params ≡ k))
        → (q : Procedure) ×
        ((slice_get (raised_procs D n dss qs) i ≡ Some q) × (length q.params ≡ k))
    start_of [] qs n f i k d s h = h
    start_of (ds ∷ dss) [] n f i k d s h = absurd d
    start_of (ds ∷ dss) (q ∷ qs) n f zero k d s (r, (e, l)) = (
      raised_procedure D n ds q,
      (
        refl,
        ap length (params_stay q.params ds (d.0.start (omega (arith, s)))) ∙
            (let h : q ≡ r = cc in ap (λ q. length q.params) h) ∙ l,
      ),
    )
    start_of (ds ∷ dss) (q ∷ qs) n f (suc i) k d s (r, (e, l))
        = start_of dss qs (n + new_code D q.body) (suc f) i k d.1 (omega (arith, s)) (r, (e, l))
