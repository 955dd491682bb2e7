-- The names of locals, as groups, fields and parameters give them.
use Rattle.std.proofs.Common.{◌≡◌, ℕ, zero, suc, ◌+◌, ◌≤◌, ◌<◌, List, [], ◌∷◌, ◌++◌, length, refl, ap, ◌∙◌, subst, arith, length-append, append_assoc}
use Rattle.std.specs.List.{range_with_len}
use Rattle.seq.proofs.Order.{eq_self, eq_false}
use Rattle.arity_check.specs.declared.normal.Bound.{Bound}
use Rattle.arity_check.specs.Numbered.{LocalsAreConsecutive}
use Rattle.arity_check.specs.Normal.{Pairwise}
use Rattle.arity_check.specs.Program.{Program}
use Rattle.core_meaning.specs.Heap.{Env, with_local, with_locals}
use Rattle.core_meaning.specs.ByNeed.{with_group}
use Rattle.core_meaning.specs.Evaluation.{parameters}

-- local y, one of those below m, has the name a
pub record At (env : Env) (m y a : ℕ) : Type 0 where
  pub name : env y ≡ a
  pub below : y < m

pub local_here : (env : Env) (x a : ℕ) → with_local env x a x ≡ a
local_here env x a = rw (eq_self x) refl

pub local_other : (env : Env) (x a y : ℕ) → y < x → with_local env x a y ≡ env y
local_other env x a y lt = rw (eq_false y x (λ e. omega (arith, e, lt))) refl

module _ (p : Program) where
  pub group_before : (bounds : List Bound) (env : Env) (m a y : ℕ) → LocalsAreConsecutive m bounds
      → y < m → with_group p env bounds a y ≡ env y
  group_before [] env m a y h lt = refl
  group_before (b ∷ bs) env m a y h lt =
      group_before bs (with_local env b.local a) (m + 1) (suc a) y h.1 (omega (arith, lt)) ∙
      local_other env b.local a y (let e = h.0 in omega (arith, e, lt))

  pub group_at : (bounds : List Bound) (env : Env) (m a i : ℕ) → LocalsAreConsecutive m bounds
      → i < length bounds → with_group p env bounds a (m + i) ≡ a + i
  group_at [] env m a i h lt = absurd (omega (arith, lt))
  group_at (b ∷ bs) env m a zero h lt =
      let z : m + 0 ≡ b.local = let e = h.0 in omega (arith, e) in
      let a0 : a ≡ a + 0 = omega arith in
      ap (with_group p (with_local env b.local a) bs (suc a)) z
      ∙ group_before bs (with_local env b.local a) (m + 1) (suc a) b.local h.1
      (let e = h.0 in omega (arith, e)) ∙ local_here env b.local a ∙ a0
  group_at (b ∷ bs) env m a (suc i) h lt =
      let z : m + suc i ≡ m + 1 + i = omega arith in
      let w : suc a + i ≡ a + suc i = omega arith in
      ap (with_group p (with_local env b.local a) bs (suc a)) z ∙ group_at bs
      (with_local env b.local a) (m + 1) (suc a) i h.1 (omega (arith, lt)) ∙ w

-- the locals from m on
pub locals_before : (len m : ℕ) (as' : List ℕ) (env : Env) (y : ℕ) → y < m
    → with_locals env (range_with_len m len) as' y ≡ env y
locals_before zero m as' env y lt = refl
locals_before (suc len) m [] env y lt = refl
locals_before (suc len) m (a ∷ as') env y lt = locals_before len (m + 1) as' (with_local env m a) y
    (omega (arith, lt)) ∙ local_other env m a y lt

pub locals_at : (len m n : ℕ) (as' : List ℕ) (env : Env) → length as' ≡ len → n ≡ m + len
    → Pairwise (At (with_locals env (range_with_len m len) as') n) (range_with_len m len) as'
locals_at zero m n [] env e f = tt
locals_at zero m n (a ∷ as') env e f = absurd (omega (arith, e))
locals_at (suc len) m n [] env e f = absurd (omega (arith, e))
locals_at (suc len) m n (a ∷ as') env e f = (
  record {
    name = locals_before len (m + 1) as' (with_local env m a) m (omega arith) ∙ local_here
        env m a;
    below = omega (arith, f);
  },
  locals_at len (m + 1) n as' (with_local env m a) (omega (arith, e)) (omega (arith, f)),
)

-- parameters
pub parameters_at : (front as' : List ℕ) (m n : ℕ) → length front ≡ m → n ≡ m + length as'
    → Pairwise (At (parameters (front ++ as')) n) (range_with_len m (length as')) as'
parameters_at front [] m n e f = tt
parameters_at front (a ∷ as') m n e f =
    let same : (front ++ a ∷ []) ++ as' ≡ front ++ a ∷ as' = append_assoc front (a ∷ []) as' in
    let l : length (front ++ a ∷ []) ≡ length front + 1 = length-append front (a ∷ []) in (
      record { name = at front m e; below = omega (arith, f) },
      subst (λ w. Pairwise (At (parameters w) n) (range_with_len (m + 1) (length as')) as') same
          (parameters_at (front ++ a ∷ []) as' (m + 1) n (omega (arith, l, e)) (omega (arith, f))),
    )
  where
    at : (front : List ℕ) (m : ℕ) → length front ≡ m → parameters (front ++ a ∷ as') m ≡ a
    at [] zero e = refl
    at [] (suc m) e = absurd (omega (arith, e))
    at (x ∷ front) zero e = absurd (omega (arith, e))
    at (x ∷ front) (suc m) e = at front m (omega (arith, e))

-- the names that stand before others
pub front_at : (front as' : List ℕ) (n len : ℕ) → length front ≡ len → len + length as' ≤ n
    → Pairwise (At (parameters (front ++ as')) n) (range_with_len 0 len) front
front_at front as' n len e le = later [] front 0 len refl e (omega (arith, le))
  where
    at : (before : List ℕ) (a : ℕ) (after : List ℕ) (m : ℕ) → length before ≡ m
        → parameters (before ++ a ∷ after) m ≡ a
    at [] a after zero e = refl
    at [] a after (suc m) e = absurd (omega (arith, e))
    at (x ∷ before) a after zero e = absurd (omega (arith, e))
    at (x ∷ before) a after (suc m) e = at before a after m (omega (arith, e))

    later : (before front : List ℕ) (m len : ℕ) → length before ≡ m → length front ≡ len
        → m + len ≤ n → Pairwise (At (parameters ((before ++ front) ++ as')) n)
        (range_with_len m len) front
    later before [] m zero e f le = tt
    later before [] m (suc len) e f le = absurd (omega (arith, f))
    later before (a ∷ front) m zero e f le = absurd (omega (arith, f))
    later before (a ∷ front) m (suc len) e f le =
        let same : (before ++ a ∷ []) ++ front ≡ before ++ a ∷ front
        = append_assoc before (a ∷ []) front in
        let l : length (before ++ a ∷ []) ≡ length before + 1 = length-append before (a ∷ []) in (
          record {
            name = ap (λ w. parameters w m) (append_assoc before (a ∷ front) as') ∙ at before
                a (front ++ as') m e;
            below = omega (arith, le);
          },
          subst (λ w. Pairwise (At (parameters (w ++ as')) n) (range_with_len (m + 1) len) front)
              same (later (before ++ a ∷ []) front (m + 1) len (omega (arith, l, e))
              (omega (arith, f)) (omega (arith, le))),
        )
