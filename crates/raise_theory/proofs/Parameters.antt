-- What the decisions of the pass say of each procedure.
use Rattle.std.proofs.Common.{◌≡◌, ℕ, zero, suc, ◌+◌, ◌-◌, ◌<◌, ◌≤◌, Bool, true, false, cond, nat_eq, List, [], ◌∷◌, ◌++◌, length, Some, None, slice_get, refl, sym, ap, ◌∙◌, subst, arith}
use Rattle.seq.proofs.Order.{eq_from, eq_self, differs_from}
use Rattle.grin_syntax.specs.declared.program.VarId.{VarId}
use Rattle.grin_syntax.specs.Binders.{numbers_of}
use Rattle.grin_syntax.specs.Fresh.{past_procs}
use Rattle.grin_syntax.specs.Tree.{Procedure, Program}
use Rattle.grin_syntax.proofs.Counted.{fresh, fresh_below, fresh_once, fresh_past}
use Rattle.grin_meaning.specs.Values.{Datum, HeapCell}
use Rattle.flow_system.specs.Solution.{Solution}
use Rattle.raise_theory.specs.Raising.{Raising, Decisions, fields_of, decided}
use Rattle.raise_theory.specs.Raisable.{Raisable}
use Rattle.raise_theory.specs.Decided.{AllStay, Decided, ProcedureDecided, AllDecided, new_params, all_new_params, NewParametersNumbered}
use Rattle.pass_ground.proofs.Tests.{times_vars}
use Rattle.raise_theory.proofs.Facts.{fresh_in}
use Rattle.raise_theory.proofs.Related.{ArgsFor, NewOnes}
use Rattle.raise_theory.proofs.Arguments.{AllRaisable}
use Rattle.seq.specs.Lists.{times}
use Rattle.seq.proofs.Counted.{counts}

-- ---- the start takes what it took

pub stays_for : (F : List HeapCell) (xs : List VarId) (ds : Decisions) → AllStay xs ds
    → (ws : List Datum) → ArgsFor F ds ws ws
stays_for F xs [] h ws = refl
stays_for F xs (d ∷ ds) h [] = refl
stays_for F [] (d ∷ ds) h (w ∷ ws) = absurd h
stays_for F (x ∷ xs) (None ∷ ds) h (w ∷ ws) = (ws, refl, stays_for F xs ds h ws)
stays_for F (x ∷ xs) (Some r ∷ ds) h (w ∷ ws) = absurd h

-- ---- variables that are decided

pub none_decided : (y : ℕ) (ds : Decisions) (xs : List VarId) → times y (numbers_of xs) ≡ 0
    → decided ds xs y ≡ None
none_decided y [] xs h = refl
none_decided y (d ∷ ds) [] h = refl
none_decided y (d ∷ ds) (x ∷ xs) h = go (nat_eq x.0 y) refl
    (none_decided y ds xs (omega (arith, h)))
  where
    go : (b : Bool) → nat_eq x.0 y ≡ b → decided ds xs y ≡ None → cond b d (decided ds xs y) ≡ None
    go true e k =
        let self : nat_eq y x.0 ≡ true = ap (λ z. nat_eq z x.0) (sym (eq_from x.0 y e)) ∙ eq_self
        x.0 in
        let one : counts (nat_eq y x.0) ≡ 1 = ap counts self in
        absurd (omega (arith, h, one))
    go false e k = k

-- the fields are among the new parameters
pub new_among : (y : ℕ) (r : Raising) (ds : Decisions) (xs : List VarId) → decided ds xs y ≡ Some r
    → (j : ℕ) → times j (numbers_of (fields_of r)) ≤ times j (numbers_of (new_params ds))
new_among y r [] xs e j = cc
new_among y r (d ∷ ds) [] e j = cc
new_among y r (None ∷ ds) (x ∷ xs) e j = go (nat_eq x.0 y) e (λ k. new_among y r ds xs k j)
  where
    go : (b : Bool) → cond b None (decided ds xs y) ≡ Some r
        → (decided ds xs y ≡ Some r → times j (numbers_of (fields_of r)) ≤ times j
        (numbers_of (new_params ds))) → times j (numbers_of (fields_of r)) ≤ times j
        (numbers_of (new_params ds))
    go true k f = cc
    go false k f = f k
new_among y r (Some s ∷ ds) (x ∷ xs) e j = go (nat_eq x.0 y) e (λ k. new_among y r ds xs k j)
    (times_vars j (fields_of s) (new_params ds))
  where
    go : (b : Bool) → cond b (Some s) (decided ds xs y) ≡ Some r
        → (decided ds xs y ≡ Some r → times j (numbers_of (fields_of r)) ≤ times j
        (numbers_of (new_params ds)))
        → times j (numbers_of (fields_of s ++ new_params ds)) ≡ times j (numbers_of (fields_of s)) +
        times j (numbers_of (new_params ds)) → times j (numbers_of (fields_of r)) ≤ times j
        (numbers_of (fields_of s ++ new_params ds))
    go true k f q =
        let same : s ≡ r = cc in
        let m : times j (numbers_of (fields_of s)) ≡ times j (numbers_of (fields_of r))
        = ap (λ t. times j (numbers_of (fields_of t))) same in
        omega (arith, m, q)
    go false k f q = let l : times j (numbers_of (fields_of r)) ≤ times j
        (numbers_of (new_params ds)) = f k in omega (arith, l, q)

-- those of a procedure are among those of all
pub params_among : (dss : List Decisions) (i : ℕ) (ds : Decisions) → slice_get dss i ≡ Some ds
    → (j : ℕ) → times j (numbers_of (new_params ds)) ≤ times j (numbers_of (all_new_params dss))
params_among [] i ds e j = cc
params_among (es ∷ dss) zero ds e j =
    let same : es ≡ ds = cc in
    let m : times j (numbers_of (new_params es)) ≡ times j (numbers_of (new_params ds))
    = ap (λ l. times j (numbers_of (new_params l))) same in
    let q : times j (numbers_of (new_params es ++ all_new_params dss)) ≡ times j
    (numbers_of (new_params es)) + times j (numbers_of (all_new_params dss))
    = times_vars j (new_params es) (all_new_params dss) in
    omega (arith, m, q)
params_among (es ∷ dss) (suc i) ds e j =
    let l : times j (numbers_of (new_params ds)) ≤ times j (numbers_of (all_new_params dss))
    = params_among dss i ds e j in
    let q : times j (numbers_of (new_params es ++ all_new_params dss)) ≡ times j
    (numbers_of (new_params es)) + times j (numbers_of (all_new_params dss))
    = times_vars j (new_params es) (all_new_params dss) in
    omega (arith, l, q)

-- so they are past the variables of the program
module _ (g : Program) (D : List Decisions) (n : ℕ) (numbered : NewParametersNumbered g D n) where
  abbrev base : ℕ
  base = past_procs g.procs

  few : (f : ℕ) (ds : Decisions) → slice_get D f ≡ Some ds → (j : ℕ)
      → times j (numbers_of (new_params ds)) ≤ fresh j base numbered.count
  few f ds e j = subst (λ vs. times j (numbers_of (new_params ds)) ≤ times j (numbers_of vs))
      numbered.in_a_row (params_among D f ds e j)

  pub past_top : base ≤ n
  past_top = let e : n ≡ base + numbered.count = numbered.next in omega (arith, e)

  pub new_ones : (f : ℕ) (ds : Decisions) (xs : List VarId) → slice_get D f ≡ Some ds
      → NewOnes base n (decided ds xs)
  new_ones f ds xs at y r e j le lt = (low, high)
    where
      one : 1 ≤ fresh j base numbered.count
      one =
          let a : 1 ≤ fresh j r.first.0 r.fields = fresh_in j r.first.0 r.fields le lt in
          let b : times j (numbers_of (fields_of r)) ≤ times j (numbers_of (new_params ds))
          = new_among y r ds xs e j in
          let c : times j (numbers_of (new_params ds)) ≤ fresh j base numbered.count = few f ds at j
          in
          omega (arith, a, b, c)

      low : base ≤ j
      low = by (λ h.
          (let z : fresh j base numbered.count ≡ 0 = fresh_below j base numbered.count h
          in omega (arith, one, z)))
        where
          by : (j < base → ⊥) → base ≤ j
          by f = omega (arith, f)

      high : j < n
      high = by
          (λ h. (let z : fresh j base numbered.count ≡ 0
          = fresh_past j base numbered.count
          (let e : n ≡ base + numbered.count = numbered.next in omega (arith, e, h))
          in omega (arith, one, z)))
        where
          by : (n ≤ j → ⊥) → j < n
          by f = omega (arith, f)

  -- the parameters of a procedure and those that stand in their place are different
  pub params_once : (f : ℕ) (ds : Decisions) (xs : List VarId) → slice_get D f ≡ Some ds
      → ((y : ℕ) → times y (numbers_of xs) ≤ 1) → ((y : ℕ) → base ≤ y → times y (numbers_of xs) ≡ 0)
      → (y : ℕ) → times y (numbers_of xs) + times y (numbers_of (new_params ds)) ≤ 1
  params_once f ds xs at once out y = go (times y (numbers_of xs)) refl
    where
      c : times y (numbers_of (new_params ds)) ≤ fresh y base numbered.count
      c = few f ds at y

      go : (m : ℕ) → times y (numbers_of xs) ≡ m → times y (numbers_of xs) + times y
          (numbers_of (new_params ds)) ≤ 1
      go zero e = let o : fresh y base numbered.count ≤ 1 = fresh_once y base numbered.count
          in omega (arith, c, o, e)
      go (suc m) e =
          let l : y < base = less
          (λ h. (let z : times y (numbers_of xs) ≡ 0 = out y h in omega (arith, z, e))) in
          let z : fresh y base numbered.count ≡ 0 = fresh_below y base numbered.count l in
          let o : times y (numbers_of xs) ≤ 1 = once y in
          omega (arith, c, o, z)
        where
          less : (base ≤ y → ⊥) → y < base
          less f = omega (arith, f)

-- ---- what is raised can be

module _ (g : Program) (A : Solution) where
  stay_raisable : (q : Procedure) (xs : List VarId) (ds : Decisions) → AllStay xs ds
      → AllRaisable g A q xs ds
  stay_raisable q [] [] h = tt
  stay_raisable q [] (d ∷ ds) h = absurd h
  stay_raisable q (x ∷ xs) [] h = absurd h
  stay_raisable q (x ∷ xs) (None ∷ ds) h = stay_raisable q xs ds h
  stay_raisable q (x ∷ xs) (Some r ∷ ds) h = absurd h

  decided_raisable : (q : Procedure) (count : ℕ) (xs : List VarId) (ds : Decisions)
      → Decided A g q count xs ds → AllRaisable g A q xs ds
  decided_raisable q count [] [] h = tt
  decided_raisable q count [] (d ∷ ds) h = absurd h
  decided_raisable q count (x ∷ xs) [] h = absurd h
  decided_raisable q count (x ∷ xs) (None ∷ ds) h = decided_raisable q count xs ds h.1
  decided_raisable q count (x ∷ xs) (Some r ∷ ds) h
      = (h.0, decided_raisable q (count + r.fields - 1) xs ds h.2)

  pub all_raisable : (f : ℕ) (q : Procedure) (ds : Decisions) → ProcedureDecided A g f q ds
      → AllRaisable g A q q.params ds
  all_raisable f q ds h = go (nat_eq f g.start.0) refl
    where
      go : (b : Bool) → nat_eq f g.start.0 ≡ b → AllRaisable g A q q.params ds
      go true e = stay_raisable q q.params ds (h.start (eq_from f g.start.0 e))
      go false e = decided_raisable q (length q.params) q.params ds
          (h.other (differs_from f g.start.0 e))

  pub raisable_at : (q : Procedure) (y : ℕ) (r : Raising) (xs : List VarId) (ds : Decisions)
      → AllRaisable g A q xs ds → decided ds xs y ≡ Some r → Raisable A g q y r.tag.0 r.fields
  raisable_at q y r xs [] h e = cc
  raisable_at q y r [] (d ∷ ds) h e = cc
  raisable_at q y r (x ∷ xs) (None ∷ ds) h e = go (nat_eq x.0 y) e (raisable_at q y r xs ds h)
    where
      go : (b : Bool) → cond b None (decided ds xs y) ≡ Some r
          → (decided ds xs y ≡ Some r → Raisable A g q y r.tag.0 r.fields)
          → Raisable A g q y r.tag.0 r.fields
      go true k f = cc
      go false k f = f k
  raisable_at q y r (x ∷ xs) (Some s ∷ ds) h e = go (nat_eq x.0 y) refl e
      (raisable_at q y r xs ds h.1)
    where
      go : (b : Bool) → nat_eq x.0 y ≡ b → cond b (Some s) (decided ds xs y) ≡ Some r
          → (decided ds xs y ≡ Some r → Raisable A g q y r.tag.0 r.fields)
          → Raisable A g q y r.tag.0 r.fields
      go true z k f =
          let same : s ≡ r = cc in
          subst (λ t. Raisable A g q y t.tag.0 t.fields) same
          (subst (λ w. Raisable A g q w s.tag.0 s.fields) (eq_from x.0 y z) h.0)
      go false z k f = f k

  -- a procedure with what is decided of it
  pub record DecidedAt (qs : List Procedure) (f i : ℕ) (ds : Decisions) : Type 0 where
    pub q : Procedure
    pub there : slice_get qs i ≡ Some q
    pub so : ProcedureDecided A g (f + i) q ds

  pub decided_at : (f : ℕ) (qs : List Procedure) (dss : List Decisions) → AllDecided A g f qs dss
      → (i : ℕ) (ds : Decisions) → slice_get dss i ≡ Some ds → DecidedAt qs f i ds
  decided_at f [] [] h i ds e = cc
  decided_at f [] (es ∷ dss) h i ds e = absurd h
  decided_at f (q ∷ qs) [] h i ds e = absurd h
  decided_at f (q ∷ qs) (es ∷ dss) h zero ds e =
      let same : es ≡ ds = cc in
      let z : f ≡ f + 0 = omega arith in
      record {
        q = q;
        there = refl;
        so = subst (λ k. ProcedureDecided A g k q ds) z
            (subst (ProcedureDecided A g f q) same h.0);
      }
  decided_at f (q ∷ qs) (es ∷ dss) h (suc i) ds e =
      let k : DecidedAt qs (suc f) i ds = decided_at (suc f) qs dss h.1 i ds e in
      let z : suc f + i ≡ f + suc i = omega arith in
      record { q = k.q; there = k.there; so = subst (λ m. ProcedureDecided A g m k.q ds) z k.so }
