-- In a formed program no variable that is bound in a block is used after the joins around it.
use Rattle.std.proofs.Common.{◌≡◌, ◌⊎◌, ℕ, zero, suc, ◌+◌, ◌≤◌, true, false, List, [], ◌∷◌, ◌++◌, Some, slice_get, inl, inr, sym, ◌∙◌, subst, arith}
use Rattle.seq.proofs.Truth.{two_ways}
use Rattle.low_code.specs.declared.program.Operand.{Operand}
use Rattle.low_code.specs.declared.program.Operand.TheVariants.{Var, Num, Cell}
use Rattle.low_code.specs.declared.program.LowTest.{LowTest}
use Rattle.low_code.specs.Tree.{Code, set, prim, load, save, take, put, get, call, join, give, tail, choose, fail, Arms, otherwise, arm, Procedure}
use Rattle.low_code.specs.Formed.{uses, arms_uses, used_by, used_by_all, used_by_tests, binds, arms_binds, OperandInScope, OperandsInScope, TestsInScope, Scoped, ArmsScoped, AllScoped}
use Rattle.register_alloc.specs.Live.{EachBindingOfArms}
use Rattle.register_alloc.specs.Holders.{AreDisjoint}
use Rattle.register_alloc.specs.Point.{NoBoundIsUsedLater}
use Rattle.register_alloc.proofs.Lists.{among_either}
use Rattle.register_alloc.proofs.Counted.{among_times}
use Rattle.seq.specs.Lists.{times, is_among}
use Rattle.seq.proofs.Counted.{among_cases, times_append, among_left, among_right}

-- ---- what a block uses is bound before or in it

abbrev Bounds : (scope bs us : List ℕ) → Type 0
Bounds scope bs us = (y : ℕ) → is_among y us ≡ true → (is_among y scope ≡ true)
    ⊎ (is_among y bs ≡ true)

known_bound : (g : ℕ) (scope bs : List ℕ) (a : Operand) → OperandInScope g scope a
    → Bounds scope bs (used_by a)
known_bound g scope bs (Var x) k y m = elim (among_cases y x [] m) [
  | inl e ↦ inl (subst (λ z. is_among z scope ≡ true) (sym e) k)
  | inr none ↦ cc
]
known_bound g scope bs (Num n) k y m = cc
known_bound g scope bs (Cell i) k y m = cc

both_bound : (scope bs us vs : List ℕ) → Bounds scope bs us → Bounds scope bs vs
    → Bounds scope bs (us ++ vs)
both_bound scope bs us vs a b y m = elim (among_either y us vs m) [
  | inl l ↦ a y l
  | inr r ↦ b y r
]

all_known_bound : (g : ℕ) (scope bs : List ℕ) (ops : List Operand) → OperandsInScope g scope ops
    → Bounds scope bs (used_by_all ops)
all_known_bound g scope bs [] k = λ y m. cc
all_known_bound g scope bs (a ∷ ops) k = both_bound scope bs (used_by a) (used_by_all ops)
    (known_bound g scope bs a k.0) (all_known_bound g scope bs ops k.1)

tests_bound : (g : ℕ) (scope bs : List ℕ) (ts : List LowTest) → TestsInScope g scope ts
    → Bounds scope bs (used_by_tests ts)
tests_bound g scope bs [] k = λ y m. cc
tests_bound g scope bs (t ∷ ts) k = both_bound scope bs (used_by t.left) (used_by_tests ts)
    (known_bound g scope bs t.left k.0) (tests_bound g scope bs ts k.1)

-- those bound by a statement go from the scope to the bound ones
moved : (scope xs bs us : List ℕ) → Bounds (xs ++ scope) bs us → Bounds scope (xs ++ bs) us
moved scope xs bs us b y m = elim (b y m) [
  | inl s ↦
      elim (among_either y xs scope s) [
        | inl x ↦ inr (among_left y xs bs x)
        | inr z ↦ inl z
      ]
  | inr r ↦ inr (among_right y xs bs r)
]

wider_left : (scope bs cs us : List ℕ) → Bounds scope bs us → Bounds scope (bs ++ cs) us
wider_left scope bs cs us b y m = elim (b y m) [
  | inl s ↦ inl s
  | inr r ↦ inr (among_left y bs cs r)
]

wider_right : (scope bs cs us : List ℕ) → Bounds scope cs us → Bounds scope (bs ++ cs) us
wider_right scope bs cs us b y m = elim (b y m) [
  | inl s ↦ inl s
  | inr r ↦ inr (among_right y bs cs r)
]

mutual
  uses_bound : (g : ℕ) (scope : List ℕ) (c : Code) → Scoped g scope c
      → Bounds scope (binds c) (uses c)
  uses_bound g scope (set x a c) s = both_bound scope (x ∷ binds c) (used_by a) (uses c)
      (known_bound g scope (x ∷ binds c) a s.0)
      (moved scope (x ∷ []) (binds c) (uses c) (uses_bound g (x ∷ scope) c s.1))
  uses_bound g scope (prim f x a b c) s =
      both_bound scope (x ∷ binds c) (used_by a) (used_by b ++ uses c)
      (known_bound g scope (x ∷ binds c) a s.0)
      (both_bound scope (x ∷ binds c) (used_by b) (uses c) (known_bound g scope (x ∷ binds c) b s.1)
      (moved scope (x ∷ []) (binds c) (uses c) (uses_bound g (x ∷ scope) c s.2)))
  uses_bound g scope (load x a k c) s = both_bound scope (x ∷ binds c) (used_by a) (uses c)
      (known_bound g scope (x ∷ binds c) a s.0)
      (moved scope (x ∷ []) (binds c) (uses c) (uses_bound g (x ∷ scope) c s.1))
  uses_bound g scope (save a k b c) s =
      both_bound scope (binds c) (used_by a) (used_by b ++ uses c)
      (known_bound g scope (binds c) a s.0)
      (both_bound scope (binds c) (used_by b) (uses c) (known_bound g scope (binds c) b s.1)
      (uses_bound g scope c s.2))
  uses_bound g scope (take xs c) s = moved scope xs (binds c) (uses c)
      (uses_bound g (xs ++ scope) c s)
  uses_bound g scope (put a c) s = both_bound scope (binds c) (used_by a) (uses c)
      (known_bound g scope (binds c) a s.0) (uses_bound g scope c s.1)
  uses_bound g scope (get x c) s = moved scope (x ∷ []) (binds c) (uses c)
      (uses_bound g (x ∷ scope) c s)
  uses_bound g scope (call f site ops xs c) s =
      both_bound scope (xs ++ binds c) (used_by_all ops) (uses c)
      (all_known_bound g scope (xs ++ binds c) ops s.0)
      (moved scope xs (binds c) (uses c) (uses_bound g (xs ++ scope) c s.1))
  uses_bound g scope (join xs b c) s =
      both_bound scope (binds b ++ (xs ++ binds c)) (uses b) (uses c)
      (wider_left scope (binds b) (xs ++ binds c) (uses b) (uses_bound g scope b s.0))
      (wider_right scope (binds b) (xs ++ binds c) (uses c)
      (moved scope xs (binds c) (uses c) (uses_bound g (xs ++ scope) c s.1)))
  uses_bound g scope (give ops) s = all_known_bound g scope [] ops s
  uses_bound g scope (tail f site ops) s = all_known_bound g scope [] ops s
  uses_bound g scope (choose as') s = arms_bound g scope as' s
  uses_bound g scope fail s = λ y m. cc

  arms_bound : (g : ℕ) (scope : List ℕ) (as' : Arms) → ArmsScoped g scope as'
      → Bounds scope (arms_binds as') (arms_uses as')
  arms_bound g scope (otherwise c) s = uses_bound g scope c s
  arms_bound g scope (arm ts c as') s =
      both_bound scope (binds c ++ arms_binds as') (used_by_tests ts) (uses c ++ arms_uses as')
      (tests_bound g scope (binds c ++ arms_binds as') ts s.0)
      (both_bound scope (binds c ++ arms_binds as') (uses c) (arms_uses as')
      (wider_left scope (binds c) (arms_binds as') (uses c) (uses_bound g scope c s.1))
      (wider_right scope (binds c) (arms_binds as') (arms_uses as')
      (arms_bound g scope as' s.2)))

-- ---- no variable that is bound is used later

abbrev Once : (scope bs : List ℕ) → Type 0
Once scope bs = (x : ℕ) → times x scope + times x bs ≤ 1

none_first : (xs bs later : List ℕ) → AreDisjoint (xs ++ bs) later → AreDisjoint xs later
none_first xs bs later n x m = n x (among_left x xs bs m)

none_rest : (xs bs later : List ℕ) → AreDisjoint (xs ++ bs) later → AreDisjoint bs later
none_rest xs bs later n x m = n x (among_right x xs bs m)

once_next : (scope xs bs : List ℕ) → Once scope (xs ++ bs) → Once (xs ++ scope) bs
once_next scope xs bs o x = let h = o x in let e = times_append x xs bs in let f
    = times_append x xs scope in omega (arith, h, e, f)

once_first : (scope xs bs : List ℕ) → Once scope (xs ++ bs) → Once scope xs
once_first scope xs bs o x = let h = o x in let e = times_append x xs bs in omega (arith, h, e)

once_rest : (scope xs bs : List ℕ) → Once scope (xs ++ bs) → Once scope bs
once_rest scope xs bs o x = let h = o x in let e = times_append x xs bs in omega (arith, h, e)

bound_next : (g : ℕ) (scope xs : List ℕ) (c : Code) (later : List ℕ)
    → AreDisjoint (xs ++ binds c) later → Once scope (xs ++ binds c)
    → (AreDisjoint (binds c) later → Once (xs ++ scope) (binds c)
    → NoBoundIsUsedLater (xs ++ scope) c later) → AreDisjoint xs later
    × NoBoundIsUsedLater (xs ++ scope) c later
bound_next g scope xs c later n o next = (
  none_first xs (binds c) later n,
  next (none_rest xs (binds c) later n)
      (once_next scope xs (binds c) o),
)

-- those bound in the block of a join aren't used after it
in_join : (g : ℕ) (scope xs bs : List ℕ) (c : Code) (later : List ℕ) → Scoped g (xs ++ scope) c
    → AreDisjoint (bs ++ (xs ++ binds c)) later → Once scope (bs ++ (xs ++ binds c))
    → AreDisjoint bs (uses c ++ later)
in_join g scope xs bs c later s n o x m = elim (two_ways (is_among x (uses c ++ later))) [
  | inr f ↦ f
  | inl t ↦
      elim (among_either x (uses c) later t) [
        | inl u ↦ absurd (clash u)
        | inr l ↦ let a : is_among x later ≡ false = none_first bs (xs ++ binds c) later n x m
            in let z : true ≡ false = sym l ∙ a in cc
      ]
]
  where
    clash : is_among x (uses c) ≡ true → ⊥
    clash u =
        let b : 1 ≤ times x bs = among_times x bs m in
        let k = o x in
        let e = times_append x bs (xs ++ binds c) in
        let f = times_append x xs (binds c) in
        elim (uses_bound g (xs ++ scope) c s x u) [
          | inl in_scope ↦
              elim (among_either x xs scope in_scope) [
                | inl here ↦ let h : 1 ≤ times x xs = among_times x xs here
                    in omega (arith, b, k, e, f, h)
                | inr before ↦ let h : 1 ≤ times x scope = among_times x scope before
                    in omega (arith, b, k, e, f, h)
              ]
          | inr after ↦ let h : 1 ≤ times x (binds c) = among_times x (binds c) after
              in omega (arith, b, k, e, f, h)
        ]

mutual
  pub none_later : (g : ℕ) (scope : List ℕ) (c : Code) (later : List ℕ) → Scoped g scope c
      → AreDisjoint (binds c) later → Once scope (binds c) → NoBoundIsUsedLater scope c later
  none_later g scope (set x a c) later s n o = bound_next g scope (x ∷ []) c later n o
      (λ n' o'. none_later g (x ∷ scope) c later s.1 n' o')
  none_later g scope (prim f x a b c) later s n o = bound_next g scope (x ∷ []) c later n o
      (λ n' o'. none_later g (x ∷ scope) c later s.2 n' o')
  none_later g scope (load x a k c) later s n o = bound_next g scope (x ∷ []) c later n o
      (λ n' o'. none_later g (x ∷ scope) c later s.1 n' o')
  none_later g scope (save a k b c) later s n o = none_later g scope c later s.2 n o
  none_later g scope (take xs c) later s n o = bound_next g scope xs c later n o
      (λ n' o'. none_later g (xs ++ scope) c later s n' o')
  none_later g scope (put a c) later s n o = none_later g scope c later s.1 n o
  none_later g scope (get x c) later s n o = bound_next g scope (x ∷ []) c later n o
      (λ n' o'. none_later g (x ∷ scope) c later s n' o')
  none_later g scope (call f site ops xs c) later s n o
      = bound_next g scope xs c later n o (λ n' o'. none_later g (xs ++ scope) c later s.1 n' o')
  none_later g scope (join xs b c) later s n o = (
    none_later g scope b (uses c ++ later) s.0 (in_join g scope xs (binds b) c later s.1 n o)
        (once_first scope (binds b) (xs ++ binds c) o),
    bound_next g scope xs c later (none_rest (binds b) (xs ++ binds c) later n)
        (once_rest scope (binds b) (xs ++ binds c) o)
        (λ n' o'. none_later g (xs ++ scope) c later s.1 n' o'),
  )
  none_later g scope (give ops) later s n o = tt
  none_later g scope (tail f site ops) later s n o = tt
  none_later g scope (choose as') later s n o = none_later_arms g scope as' later s n o
  none_later g scope fail later s n o = tt

  none_later_arms : (g : ℕ) (scope : List ℕ) (as' : Arms) (later : List ℕ) → ArmsScoped g scope as'
      → AreDisjoint (arms_binds as') later → Once scope (arms_binds as')
      → EachBindingOfArms (λ scope xs c later. AreDisjoint xs later) scope as' later
  none_later_arms g scope (otherwise c) later s n o = none_later g scope c later s n o
  none_later_arms g scope (arm ts c as') later s n o = (
    none_later g scope c later s.1 (none_first (binds c) (arms_binds as') later n)
        (once_first scope (binds c) (arms_binds as') o),
    none_later_arms g scope as' later s.2 (none_rest (binds c) (arms_binds as') later n)
        (once_rest scope (binds c) (arms_binds as') o),
  )

-- of a procedure of a program
pub scoped_at : (g : ℕ) (qs : List Procedure) (f : ℕ) (q : Procedure) → AllScoped g qs
    → slice_get qs f ≡ Some q → Scoped g q.params q.body
scoped_at g [] f q s e = cc
scoped_at g (r ∷ qs) zero q s e = let same : r ≡ q = cc
    in subst (λ z. Scoped g z.params z.body) same s.0
scoped_at g (r ∷ qs) (suc f) q s e = scoped_at g qs f q s.1 e
