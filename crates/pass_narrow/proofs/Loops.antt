-- What the loops over words and alternatives keep.
use Rattle.std.proofs.Common.{◌≡◌, ℕ, zero, suc, ◌+◌, ◌<◌, ◌≤◌, Bool, true, false, cond, ◌&&◌, List, [], ◌∷◌, ◌++◌, map, take, length, get_or, refl, sym, ap, ◌∙◌, arith}
use Rattle.std.proofs.lemmas.List.{take_more}
use Rattle.seq.proofs.Lists.{append_nil, map_push}
use Rattle.seq.specs.Lists.{is_among}
use Rattle.grin_syntax.specs.declared.program.VarId.{VarId}
use Rattle.grin_syntax.specs.declared.program.Alt.{Alt}
use Rattle.grin_syntax.specs.declared.program.Block.{Block}
use Rattle.grin_syntax.specs.declared.program.Stmt.{Stmt}
use Rattle.grin_syntax.specs.declared.program.Stmt.TheVariants.{Store, Bind}
use Rattle.grin_syntax.specs.Tree.{Code, end, act_of, before_of, arm_of, arms_of, code_of, all_before}
use Rattle.grin_syntax.proofs.TreeOf.{before_of-Store, before_of-Bind, code_of-parts, arm_of-parts}
use Rattle.flow_system.specs.Solution.{Solution}
use Rattle.pass_narrow.specs.Picked.{picked, stay}
use Rattle.pass_narrow.specs.Narrow.{act_fits, code_fits, arms_fit}

-- ---- words that stay

-- behind those of the first items comes the next one
picked_next : {X : Type 0} (bs : List Bool) (xs : List X) (i : ℕ) (d : X) → i < length xs
    → picked bs (take (suc i) xs) ≡ picked bs (take i xs)
    ++ cond (get_or bs i false) (get_or xs i d ∷ []) []
picked_next [] xs i d lt = refl
picked_next (c ∷ bs) [] i d lt = absurd (omega (arith, lt))
picked_next (c ∷ bs) (x ∷ xs) zero d lt = go c
  where
    none : (bs : List Bool) → picked bs (take zero xs) ≡ []
    none [] = refl
    none (b ∷ bs) = refl

    go : (b : Bool) → cond b (x ∷ picked bs (take zero xs)) (picked bs (take zero xs)) ≡ cond b
        (x ∷ []) []
    go true = ap (λ l. x ∷ l) (none bs)
    go false = none bs
picked_next {X = X} (c ∷ bs) (x ∷ xs) (suc i) d lt = go c
    (picked_next bs xs i d (omega (arith, lt)))
  where
    rest : List X
    rest = cond (get_or bs i false) (get_or xs i d ∷ []) []

    go : (c : Bool) → picked bs (take (suc i) xs) ≡ picked bs (take i xs) ++ rest
        → cond c (x ∷ picked bs (take (suc i) xs)) (picked bs (take (suc i) xs)) ≡ cond c
        (x ∷ picked bs (take i xs)) (picked bs (take i xs)) ++ rest
    go true h = ap (λ l. x ∷ l) h
    go false h = h

-- and so behind those of the first `i`
picked_then : {X : Type 0} (bs : List Bool) (xs : List X) (i : ℕ) (d : X) → i < length xs
    → picked bs (take i xs) ++ cond (get_or bs i false) (get_or xs i d ∷ []) [] ≡ picked bs
    (take (i + 1) xs)
picked_then bs xs i d lt =
    let more : suc i ≡ i + 1 = omega arith in
    sym (picked_next bs xs i d lt) ∙ ap (λ n. picked bs (take n xs)) more

pub one_stays : {X : Type 0} (bs : List Bool) (xs made : List X) (i at : ℕ) (x d : X) (b : Bool)
    → i < length xs → x ≡ get_or xs i d → at ≡ i → made ≡ picked bs (take i xs)
    → b ≡ get_or bs at false → b ≡ true → made ++ x ∷ [] ≡ picked bs (take (i + 1) xs)
one_stays bs xs made i at x d b lt e f m s t =
    (λ j. m j ++ e j ∷ []) ∙ ap (λ q. picked bs (take i xs) ++ cond q (get_or xs i d ∷ []) [])
    (sym t ∙ s ∙ ap (λ k. get_or bs k false) f) ∙ picked_then bs xs i d lt

pub one_goes : {X : Type 0} (bs : List Bool) (xs made : List X) (i at : ℕ) (d : X) (b : Bool)
    → i < length xs → at ≡ i → made ≡ picked bs (take i xs) → b ≡ get_or bs at false → b ≡ false
    → made ≡ picked bs (take (i + 1) xs)
one_goes bs xs made i at d b lt f m s t =
    m ∙ sym (append_nil (picked bs (take i xs))) ∙ ap
    (λ q. picked bs (take i xs) ++ cond q (get_or xs i d ∷ []) [])
    (sym t ∙ s ∙ ap (λ k. get_or bs k false) f) ∙ picked_then bs xs i d lt

none_picked : {X : Type 0} (bs : List Bool) → picked {A = X} bs [] ≡ []
none_picked [] = refl
none_picked (b ∷ bs) = refl

pub picked_first : {X : Type 0} (bs : List Bool) → [] ≡ picked {A = X} bs []
picked_first bs = sym (none_picked bs)

take_none : {X : Type 0} (xs : List X) (i : ℕ) → length xs ≤ i → take i xs ≡ xs
take_none [] zero h = refl
take_none [] (suc i) h = refl
take_none (x ∷ xs) zero h = absurd (omega (arith, h))
take_none (x ∷ xs) (suc i) h = ap (λ l. x ∷ l) (take_none xs i (omega (arith, h)))

pub all_picked_now : {X : Type 0} (bs : List Bool) (xs made : List X) (i : ℕ)
    → made ≡ picked bs (take i xs) → length xs ≤ i → made ≡ picked bs xs
all_picked_now bs xs made i m h = m ∙ ap (picked bs) (take_none xs i h)

pub stay_next : (used : List ℕ) (xs : List VarId) (i : ℕ) (x d : VarId) (made : List Bool)
    (b : Bool) → i < length xs → x ≡ get_or xs i d → made ≡ stay used (take i xs)
    → b ≡ is_among x.0 used → made ++ b ∷ [] ≡ stay used (take (i + 1) xs)
stay_next used xs i x d made b lt e m h =
    (λ j. m j ++ h j ∷ []) ∙ ap (λ z. stay used (take i xs) ++ is_among z.0 used ∷ []) e ∙ sym
    (map_push (λ (y : VarId). is_among y.0 used) (take i xs) (get_or xs i d)) ∙ ap (stay used)
    (sym (take_more xs i d lt))

-- ---- ends

module _ (count : ℕ) (A : Solution) (bs : List Bool) where
  stmt_fits : (s : Stmt) (c : Code) → code_fits count A bs (before_of s c) ≡ code_fits count A bs c
  unfolding act_fits
  stmt_fits (Store cs) c = ap (λ f. code_fits count A bs (f c)) (before_of-Store cs)
  stmt_fits (Bind t o) c = ap (λ f. code_fits count A bs (f c)) (before_of-Bind t o)

  stmts_fit : (ss : List Stmt) (c : Code) → code_fits count A bs (all_before (map before_of ss) c) ≡
      code_fits count A bs c
  stmts_fit [] c = refl
  stmts_fit (s ∷ ss) c = stmt_fits s (all_before (map before_of ss) c) ∙ stmts_fit ss c

  pub block_fits : (b : Block) (r : Bool) → r ≡ act_fits count A bs (act_of b.last.value)
      → r ≡ code_fits count A bs (code_of b)
  unfolding act_fits
  block_fits b r h = h ∙ sym (stmts_fit b.stmts (end (act_of b.last.value))) ∙ ap
      (code_fits count A bs) (sym (code_of-parts b))

  arms_fit_push : (as' : List Alt) (a : Alt) → arms_fit count A bs
      (arms_of (map arm_of (as' ++ a ∷ []))) ≡
      (arms_fit count A bs (arms_of (map arm_of as')) && code_fits count A bs (code_of a.body))
  unfolding act_fits
  arms_fit_push [] a = ap (λ q. code_fits count A bs q.1 && true) (arm_of-parts a) ∙ go
      (code_fits count A bs (code_of a.body))
    where
      go : (b : Bool) → (b && true) ≡ b
      go true = refl
      go false = refl
  arms_fit_push (x ∷ as') a = ap (λ b. code_fits count A bs (arm_of x).1 && b) (arms_fit_push as' a)
      ∙ go (code_fits count A bs (arm_of x).1) (arms_fit count A bs (arms_of (map arm_of as')))
      (code_fits count A bs (code_of a.body))
    where
      go : (a b c : Bool) → (a && (b && c)) ≡ ((a && b) && c)
      go true b c = refl
      go false b c = refl

  pub arms_fit_next : (as' : List Alt) (i : ℕ) (a d : Alt) (old one new : Bool) → i < length as'
      → a ≡ get_or as' i d → old ≡ arms_fit count A bs (arms_of (map arm_of (take i as')))
      → one ≡ code_fits count A bs (code_of a.body) → new ≡ (old && one)
      → new ≡ arms_fit count A bs (arms_of (map arm_of (take (i + 1) as')))
  arms_fit_next as' i a d old one new lt e o h n =
      n ∙ (λ j. o j && h j) ∙ ap
      (λ z. arms_fit count A bs (arms_of (map arm_of (take i as'))) && code_fits count A bs
      (code_of z.body)) e ∙ sym (arms_fit_push (take i as') (get_or as' i d))
      ∙ ap (λ l. arms_fit count A bs (arms_of (map arm_of l))) (sym (take_more as' i d lt))
