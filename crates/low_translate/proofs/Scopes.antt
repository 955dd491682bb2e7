-- Blocks of low code whose operands are in scope, whose literals are words, and whose arms have few
-- tests.
use Rattle.std.proofs.Common.{◌≡◌, ◌≤◌, ◌<◌, ◌^◌, inl, inr, ℕ, zero, suc, Bool, true, false, List, [], ◌∷◌, ◌++◌, length, take, drop, sym, ap, ◌∙◌, arith, lit<}
use Rattle.std.specs.Prelude.{nat_lt, ◌||◌}
use Rattle.std.proofs.lemmas.Bool.Decides.{eqb_tells}
use Rattle.grin_syntax.specs.declared.program.Cell as C
use Rattle.grin_syntax.specs.Formed.{AllOf}
use Rattle.low_code.specs.declared.program.LowTest.{LowTest}
use Rattle.low_code.specs.declared.program.PrimOp.{PrimOp}
use Rattle.low_code.specs.declared.program.Operand.{Operand}
use Rattle.low_code.specs.declared.program.Operand.TheVariants.{Var, Num, Cell}
use Rattle.low_code.specs.Tree.{Code, set, prim, load, save, put, get, call, join, give, tail, choose, fail, Arms, otherwise, arm}
use Rattle.low_code.specs.Formed.{OperandInScope, OperandsInScope, TestsInScope, Scoped, ArmsScoped}
use Rattle.low_code.specs.Literals.{IsSmall, AreSmall, TestsSmall, Small, ArmsSmall}
use Rattle.low_code.specs.Size.{FewTests, ArmsFewTests}
use Rattle.low_translate.specs.Translation.{operands_of, padded_to_width, variables_of, nth_operand, is_number, with_test, set_all, to_first, load_word, load_all, save_all, fill_word, fills, take_if_any, store_all}
use Rattle.seq.specs.Lists.{is_among}
use Rattle.seq.proofs.Counted.{among_later, among_first}

-- ---- numbers among others

-- each number of the first list is in the second
pub record More (xs ys : List ℕ) : Type 0 where
  pub by : (x : ℕ) → is_among x xs ≡ true → is_among x ys ≡ true

pub more_self : (xs : List ℕ) → More xs xs
more_self xs = record { by = λ x h. h }

pub more_none : (ys : List ℕ) → More [] ys
more_none ys = record { by = λ x h. absurd (let z : false ≡ true = h in cc) }

pub more_chain : {xs ys zs : List ℕ} → More xs ys → More ys zs → More xs zs
more_chain m n = record { by = λ x h. n.by x (m.by x h) }

pub more_later : (x : ℕ) (xs : List ℕ) → More xs (x ∷ xs)
more_later x xs = record { by = λ z h. among_later z x xs h }

pub more_cons : (x : ℕ) (xs ys : List ℕ) → is_among x ys ≡ true → More xs ys → More (x ∷ xs) ys
more_cons x xs ys h m = record {
  by = λ z k. elim (eqb_tells z x) [
    | inl e ↦ ap (λ v. is_among v ys) e.1 ∙ h
    | inr e ↦ m.by z (sym (ap (λ b. b || is_among z xs) e.0) ∙ k)
  ];
}

pub more_first : (x : ℕ) (xs ys : List ℕ) → More (x ∷ xs) ys → is_among x ys ≡ true
more_first x xs ys m = m.by x (among_first x xs)

pub more_rest : (x : ℕ) (xs ys : List ℕ) → More (x ∷ xs) ys → More xs ys
more_rest x xs ys m = more_chain (more_later x xs) m

pub more_left : (xs ys : List ℕ) → More xs (xs ++ ys)
more_left [] ys = more_none ys
more_left (x ∷ xs) ys = more_cons x xs (x ∷ (xs ++ ys)) (among_first x (xs ++ ys))
    (more_chain (more_left xs ys) (more_later x (xs ++ ys)))

pub more_right : (xs ys : List ℕ) → More ys (xs ++ ys)
more_right [] ys = more_self ys
more_right (x ∷ xs) ys = more_chain (more_right xs ys) (more_later x (xs ++ ys))

pub more_append : (xs ys zs : List ℕ) → More xs zs → More ys zs → More (xs ++ ys) zs
more_append [] ys zs m n = n
more_append (x ∷ xs) ys zs m n = more_cons x (xs ++ ys) zs (more_first x xs zs m)
    (more_append xs ys zs (more_rest x xs zs m) n)

-- the first of these numbers, and the others
pub more_parts : (k : ℕ) (xs zs : List ℕ) → More (take k xs) zs → More (drop k xs) zs → More xs zs
more_parts zero [] zs m n = n
more_parts zero (x ∷ xs) zs m n = n
more_parts (suc k) [] zs m n = n
more_parts (suc k) (x ∷ xs) zs m n = more_cons x xs zs (more_first x (take k xs) zs m)
    (more_parts k xs zs (more_rest x (take k xs) zs m) n)

module _ (globals : ℕ) where
  -- ---- operands

  abbrev pub Good : List ℕ → Operand → Type 0
  Good scope a = OperandInScope globals scope a × IsSmall a

  abbrev pub AllGood : List ℕ → List Operand → Type 0
  AllGood scope = AllOf (Good scope)

  pub zero_good : (scope : List ℕ) → Good scope (Num 0)
  zero_good scope = (tt, lit< tt)

  pub good_more : (a : Operand) (ys zs : List ℕ) → More ys zs → Good ys a → Good zs a
  good_more (Var x) ys zs m h = (m.by x h.0, tt)
  good_more (Num k) ys zs m h = h
  good_more (Cell i) ys zs m h = h

  pub goods_more : (as' : List Operand) (ys zs : List ℕ) → More ys zs → AllGood ys as'
      → AllGood zs as'
  goods_more [] ys zs m h = tt
  goods_more (a ∷ as') ys zs m h = (good_more a ys zs m h.0, goods_more as' ys zs m h.1)

  pub goods_take : (k : ℕ) (as' : List Operand) (ys : List ℕ) → AllGood ys as'
      → AllGood ys (take k as')
  goods_take zero [] ys h = tt
  goods_take zero (a ∷ as') ys h = tt
  goods_take (suc k) [] ys h = tt
  goods_take (suc k) (a ∷ as') ys h = (h.0, goods_take k as' ys h.1)

  pub fitted_good : (k : ℕ) (as' : List Operand) (ys : List ℕ) → AllGood ys as'
      → AllGood ys (padded_to_width k as')
  fitted_good zero as' ys h = tt
  fitted_good (suc k) [] ys h = (zero_good ys, fitted_good k [] ys tt)
  fitted_good (suc k) (a ∷ as') ys h = (h.0, fitted_good k as' ys h.1)

  pub nth_good : (as' : List Operand) (i : ℕ) (ys : List ℕ) → AllGood ys as'
      → Good ys (nth_operand as' i)
  nth_good [] i ys h = zero_good ys
  nth_good (a ∷ as') zero ys h = h.0
  nth_good (a ∷ as') (suc i) ys h = nth_good as' i ys h.1

  pub variables_good : (xs ys : List ℕ) → More xs ys → AllGood ys (variables_of xs)
  variables_good [] ys m = tt
  variables_good (x ∷ xs) ys m =
      ((more_first x xs ys m, tt), variables_good xs ys (more_rest x xs ys m))

  known_all : (as' : List Operand) (ys : List ℕ) → AllGood ys as' → OperandsInScope globals ys as'
  known_all [] ys h = tt
  known_all (a ∷ as') ys h = (h.0.0, known_all as' ys h.1)

  small_all : (as' : List Operand) (ys : List ℕ) → AllGood ys as' → AreSmall as'
  small_all [] ys h = tt
  small_all (a ∷ as') ys h = (h.0.1, small_all as' ys h.1)

  -- ---- blocks

  pub record Fine (scope : List ℕ) (c : Code) : Type 0 where
    pub scoped : Scoped globals scope c
    pub small : Small c
    pub few : FewTests c

  pub record ArmsFine (scope : List ℕ) (as' : Arms) : Type 0 where
    pub scoped : ArmsScoped globals scope as'
    pub small : ArmsSmall as'
    pub few : ArmsFewTests as'

  fine_set : (ys : List ℕ) (x : ℕ) (a : Operand) (c : Code) → Good ys a → Fine (x ∷ ys) c
      → Fine ys (set x a c)
  fine_set ys x a c h f = record { scoped = (h.0, f.scoped); small = (h.1, f.small); few = f.few }

  pub fine_prim : (ys : List ℕ) (o : PrimOp) (x : ℕ) (a b : Operand) (c : Code) → Good ys a
      → Good ys b → Fine (x ∷ ys) c → Fine ys (prim o x a b c)
  fine_prim ys o x a b c h k f = record
      { scoped = (h.0, k.0, f.scoped); small = (h.1, k.1, f.small); few = f.few }

  pub fine_put : (ys : List ℕ) (a : Operand) (c : Code) → Good ys a → Fine ys c → Fine ys (put a c)
  fine_put ys a c h f = record { scoped = (h.0, f.scoped); small = (h.1, f.small); few = f.few }

  pub fine_get : (ys : List ℕ) (x : ℕ) (c : Code) → Fine (x ∷ ys) c → Fine ys (get x c)
  fine_get ys x c f = record { scoped = f.scoped; small = f.small; few = f.few }

  pub fine_call : (ys : List ℕ) (f site : ℕ) (as' : List Operand) (xs : List ℕ) (c : Code)
      → AllGood ys as' → Fine (xs ++ ys) c → Fine ys (call f site as' xs c)
  fine_call ys f site as' xs c h k = record {
    scoped = (known_all as' ys h, k.scoped);
    small = (small_all as' ys h, k.small);
    few
        = k.few;
  }

  pub fine_join : (ys xs : List ℕ) (b c : Code) → Fine ys b → Fine (xs ++ ys) c
      → Fine ys (join xs b c)
  fine_join ys xs b c h k = record
      { scoped = (h.scoped, k.scoped); small = (h.small, k.small); few = (h.few, k.few) }

  pub fine_give : (ys : List ℕ) (as' : List Operand) → AllGood ys as' → Fine ys (give as')
  fine_give ys as' h = record { scoped = known_all as' ys h; small = small_all as' ys h; few = tt }

  pub fine_tail : (ys : List ℕ) (f site : ℕ) (as' : List Operand) → AllGood ys as'
      → Fine ys (tail f site as')
  fine_tail ys f site as' h = record
      { scoped = known_all as' ys h; small = small_all as' ys h; few = tt }

  pub fine_fail : (ys : List ℕ) → Fine ys fail
  fine_fail ys = record { scoped = tt; small = tt; few = tt }

  pub fine_choose : (ys : List ℕ) (as' : Arms) → ArmsFine ys as' → Fine ys (choose as')
  fine_choose ys as' h = record { scoped = h.scoped; small = h.small; few = h.few }

  pub fine_otherwise : (ys : List ℕ) (c : Code) → Fine ys c → ArmsFine ys (otherwise c)
  fine_otherwise ys c f = record { scoped = f.scoped; small = f.small; few = f.few }

  -- ---- tests

  pub record TestsFine (ys : List ℕ) (ts : List LowTest) (k : ℕ) : Type 0 where
    pub known : TestsInScope globals ys ts
    pub small : TestsSmall ts
    pub few : length ts ≤ k

  pub no_tests : (ys : List ℕ) (k : ℕ) → TestsFine ys [] k
  no_tests ys k = record { known = tt; small = tt; few = omega arith }

  pub tested_fine : (ys : List ℕ) (a : Operand) (n k : ℕ) (ts : List LowTest) → Good ys a
      → n < 2 ^ 32 → TestsFine ys ts k → TestsFine ys (with_test a n ts) (suc k)
  tested_fine ys a n k ts h lt t = by (is_number a n)
    where
      by : (b : Bool) → TestsFine ys
          (elim b [ true ↦ ts | false ↦ record { left = a; right = n } ∷ ts ]) (suc k)
      by true = let f = t.few in record { known = t.known; small = t.small; few = omega (arith, f) }
      by false = let f = t.few in record
          { known = (h.0, t.known); small = ((h.1, lt), t.small); few = omega (arith, f) }

  pub fine_arm : (ys : List ℕ) (ts : List LowTest) (c : Code) (as' : Arms) → TestsFine ys ts 2
      → Fine ys c → ArmsFine ys as' → ArmsFine ys (arm ts c as')
  fine_arm ys ts c as' t f h = record {
    scoped = (t.known, f.scoped, h.scoped);
    small = (t.small, f.small, h.small);
    few
        = (t.few, f.few, h.few);
  }

  -- ---- statements before a block, wherever it is fine with what they bind

  abbrev pub Onward : (ys xs : List ℕ) → Code → Type 0
  Onward ys xs c = (zs : List ℕ) → More ys zs → More xs zs → Fine zs c

  onward_next : (ys : List ℕ) (x : ℕ) (xs : List ℕ) (c : Code) → Onward ys (x ∷ xs) c
      → Onward (x ∷ ys) xs c
  onward_next ys x xs c k zs m n = k zs (more_rest x ys zs m)
      (more_cons x xs zs (more_first x ys zs m) n)

  pub sets_fine : (xs : List ℕ) (as' : List Operand) (ys : List ℕ) (c : Code) → AllGood ys as'
      → Onward ys xs c → Fine ys (set_all xs as' c)
  sets_fine [] as' ys c h k = k ys (more_self ys) (more_none ys)
  sets_fine (x ∷ xs) [] ys c h k = fine_set ys x (Num 0) (set_all xs [] c) (zero_good ys)
      (sets_fine xs [] (x ∷ ys) c tt (onward_next ys x xs c k))
  sets_fine (x ∷ xs) (a ∷ as') ys c h k = fine_set ys x a (set_all xs as' c) h.0
      (sets_fine xs as' (x ∷ ys) c (goods_more as' ys (x ∷ ys) (more_later x ys) h.1)
      (onward_next ys x xs c k))

  pub word_fine : (width x : ℕ) (a : Operand) (i : ℕ) (ys : List ℕ) (c : Code) → Good ys a
      → Fine (x ∷ ys) c → Fine ys (load_word width x a i c)
  word_fine width x a i ys c h f = by (nat_lt i width)
    where
      by : (b : Bool) → Fine ys (elim b [ true ↦ load x a i c | false ↦ set x (Num 0) c ])
      by true = record { scoped = (h.0, f.scoped); small = (h.1, f.small); few = f.few }
      by false = fine_set ys x (Num 0) c (zero_good ys) f

  pub loads_fine : (width : ℕ) (xs : List ℕ) (a : Operand) (i : ℕ) (ys : List ℕ) (c : Code)
      → Good ys a → Onward ys xs c → Fine ys (load_all width xs a i c)
  loads_fine width [] a i ys c h k = k ys (more_self ys) (more_none ys)
  loads_fine width (x ∷ xs) a i ys c h k = word_fine width x a i ys (load_all width xs a (suc i) c)
      h (loads_fine width xs a (suc i) (x ∷ ys) c (good_more a ys (x ∷ ys) (more_later x ys) h)
      (onward_next ys x xs c k))

  pub first_fine : (xs : List ℕ) (e : ℕ → Code → Code) (ys : List ℕ) (c : Code)
      → ((x : ℕ) (b : Code) → Fine (x ∷ ys) b → Fine ys (e x b)) → Onward ys xs c
      → Fine ys (to_first xs e c)
  first_fine [] e ys c h k = k ys (more_self ys) (more_none ys)
  first_fine (x ∷ xs) e ys c h k = h x (set_all xs [] c)
      (sets_fine xs [] (x ∷ ys) c tt (onward_next ys x xs c k))

  pub saves_fine : (a : Operand) (i : ℕ) (bs : List Operand) (ys : List ℕ) (c : Code) → Good ys a
      → AllGood ys bs → Fine ys c → Fine ys (save_all a i bs c)
  saves_fine a i [] ys c h k f = f
  saves_fine a i (b ∷ bs) ys c h k f =
      let r = saves_fine a (suc i) bs ys c h k.1 f in
      record { scoped = (h.0, k.0.0, r.scoped); small = (h.1, k.0.1, r.small); few = r.few }

  fill_fine : (a : Operand) (i : ℕ) (b : Operand) (ys : List ℕ) (c : Code) → Good ys a → Good ys b
      → Fine ys c → Fine ys (fill_word a i b c)
  fill_fine a i b ys c h k f = by (is_number b 0)
    where
      by : (t : Bool) → Fine ys (elim t [ true ↦ c | false ↦ save a i b c ])
      by true = f
      by false = record { scoped = (h.0, k.0, f.scoped); small = (h.1, k.1, f.small); few = f.few }

  fills_fine : (a : Operand) (i : ℕ) (bs : List Operand) (ys : List ℕ) (c : Code) → Good ys a
      → AllGood ys bs → Fine ys c → Fine ys (fills a i bs c)
  fills_fine a i [] ys c h k f = f
  fills_fine a i (b ∷ bs) ys c h k f = fill_fine a i b ys (fills a (suc i) bs c) h k.0
      (fills_fine a (suc i) bs ys c h k.1 f)

  pub taken_fine : (xs ys : List ℕ) (c : Code) → Fine (xs ++ ys) c → Fine ys (take_if_any xs c)
  taken_fine [] ys c f = f
  taken_fine (x ∷ xs) ys c f = record { scoped = f.scoped; small = f.small; few = f.few }

  -- a new cell: its variable, and the words of its node
  abbrev pub CellGood : List ℕ → C.Cell → Type 0
  CellGood ys x = (is_among x.var.0 ys ≡ true) × AllGood ys (operands_of x.val)

  pub stores_fine : (width : ℕ) (cs : List C.Cell) (ys : List ℕ) (c : Code) → AllOf (CellGood ys) cs
      → Fine ys c → Fine ys (store_all width cs c)
  stores_fine width [] ys c h f = f
  stores_fine width (x ∷ cs) ys c h f = fills_fine (Var x.var.0) 0 (take width (operands_of x.val))
      ys (store_all width cs c) (h.0.0, tt) (goods_take width (operands_of x.val) ys h.0.1)
      (stores_fine width cs ys c h.1 f)
