-- What runs of words between variables and cells do.
use Rattle.std.proofs.Common.{◌≡◌, ◌≤◌, ◌<◌, ℕ, zero, suc, ◌+◌, ◌-◌, Bool, true, false, cond, List, [], ◌∷◌, ◌++◌, map, length, take, drop, Option, Some, None, slice_get, refl, sym, ap, ◌∙◌, arith}
use Rattle.std.specs.Prelude.{nat_eq, nat_lt, min, slice_set}
use Rattle.std.proofs.lemmas.Bool.{ltb-true, ltb-false}
use Rattle.std.proofs.lemmas.List.{length-take, length-replicate}
use Rattle.seq.proofs.Lists.{get_set, length_set, some_at, get_within}
use Rattle.grin_syntax.specs.Formed.{AllOf}
use Rattle.low_code.specs.declared.program.Operand.{Operand}
use Rattle.low_code.specs.declared.program.Operand.TheVariants.{Var, Num, Cell}
use Rattle.low_code.specs.Tree as low_tree
use Rattle.low_code.specs.Tree.{Code, set, load, save}
use Rattle.low_code.specs.Values as low
use Rattle.low_code.specs.Values.{Word, Env, World, Room, Answer, need, with_var, and_then}
use Rattle.low_code.specs.Run.{Calls, operand, operands, cell_in, code, with_word}
use Rattle.low_translate.specs.Translation.{set_all, load_all, save_all}
use Rattle.low_translate.proofs.Images.{fit, length_fit, nth_word, fit_from, get_fit, nth_past, fit_none, zeros, none_some, some_same}
use Rattle.low_translate.proofs.Operands.{bound, Avoids}
use Rattle.seq.specs.Lists.{times}

-- ---- lists

pub set_same : {A : Type 0} (xs : List A) (i : ℕ) (x : A) → slice_get xs i ≡ Some x
    → slice_set xs i x ≡ xs
set_same [] i x e = refl
set_same (y ∷ xs) zero x e = ap (λ z. z ∷ xs) (sym (some_same e))
set_same (y ∷ xs) (suc i) x e = ap (λ l. y ∷ l) (set_same xs i x e)

pub set_twice : {A : Type 0} (xs : List A) (i : ℕ) (x y : A)
    → slice_set (slice_set xs i x) i y ≡ slice_set xs i y
set_twice [] i x y = refl
set_twice (z ∷ xs) zero x y = refl
set_twice (z ∷ xs) (suc i) x y = ap (λ l. z ∷ l) (set_twice xs i x y)

pub map_set : {A B : Type 0} (f : A → B) (xs : List A) (i : ℕ) (x : A)
    → map f (slice_set xs i x) ≡ slice_set (map f xs) i (f x)
map_set f [] i x = refl
map_set f (y ∷ xs) zero x = refl
map_set f (y ∷ xs) (suc i) x = ap (λ l. f y ∷ l) (map_set f xs i x)

-- words over those of a list, from place j on
abbrev pub over : ℕ → List Word → List Word → List Word
over j [] cell = cell
over j (v ∷ vs) cell = over (suc j) vs (slice_set cell j v)

over_next : (j : ℕ) (vs cell : List Word) (w : Word)
    → over (suc j) vs (w ∷ cell) ≡ w ∷ over j vs cell
over_next j [] cell w = refl
over_next j (v ∷ vs) cell w = over_next (suc j) vs (slice_set cell j v) w

pub over_first : (vs cell : List Word) → length vs ≤ length cell → over 0 vs cell ≡ vs
    ++ drop (length vs) cell
over_first [] [] le = refl
over_first [] (w ∷ cell) le = refl
over_first (v ∷ vs) [] le = absurd (omega (arith, le))
over_first (v ∷ vs) (w ∷ cell) le = over_next 0 vs cell v ∙ ap (λ l. v ∷ l)
    (over_first vs cell (omega (arith, le)))

drop_zeros : (k w : ℕ) → drop k (zeros w) ≡ zeros (w - k)
drop_zeros zero zero = refl
drop_zeros zero (suc w) = let e : suc w ≡ suc w - 0 = omega arith in ap zeros e
drop_zeros (suc k) zero = let e : 0 ≡ 0 - suc k = omega arith in ap zeros e
drop_zeros (suc k) (suc w) = let e : w - k ≡ suc w - suc k = omega arith
    in drop_zeros k w ∙ ap zeros e

fit_front : (r w : ℕ) (ws : List Word) → r ≤ w → min w (length ws) ≤ r → take r ws
    ++ zeros (w - length (take r ws)) ≡ fit w ws
fit_front zero zero [] le h = refl
fit_front zero (suc w) [] le h = let e : suc w - 0 ≡ suc w = omega arith
    in ap zeros e ∙ sym (fit_none (suc w))
fit_front zero zero (x ∷ ws) le h = refl
fit_front zero (suc w) (x ∷ ws) le h = absurd (omega (arith, h))
fit_front (suc r) zero ws le h = absurd (omega (arith, le))
fit_front (suc r) (suc w) [] le h = let e : suc w - 0 ≡ suc w = omega arith
    in ap zeros e ∙ sym (fit_none (suc w))
fit_front (suc r) (suc w) (x ∷ ws) le h = let e : suc w - suc (length (take r ws)) ≡ w - length
    (take r ws) = omega arith in ap (λ l. x ∷ l)
    (ap (λ k. take r ws ++ zeros k) e ∙ fit_front r w ws (omega (arith, le)) (omega (arith, h)))

-- the first words over a cell of zeros, where there are no more
over_zeros : (r w : ℕ) (ws : List Word) → r ≤ w → min w (length ws) ≤ r
    → over 0 (take r ws) (zeros w) ≡ fit w ws
over_zeros r w ws le h = over_first (take r ws) (zeros w)
    (omega (arith, le, length-take r ws, length-replicate w (low.number 0))) ∙ ap
    (λ l. take r ws ++ l) (drop_zeros (length (take r ws)) w) ∙ fit_front r w ws le h

fit_over : (r w : ℕ) (ws us : List Word) → r ≤ w → min w (length ws) ≤ r → length us ≤ r → fit r ws
    ++ drop r (fit w us) ≡ fit w ws
fit_over zero zero ws us le h k = refl
fit_over zero (suc w) [] [] le h k = refl
fit_over zero (suc w) [] (u ∷ us) le h k = absurd (omega (arith, k))
fit_over zero (suc w) (x ∷ ws) us le h k = absurd (omega (arith, h))
fit_over (suc r) zero ws us le h k = absurd (omega (arith, le))
fit_over (suc r) (suc w) [] [] le h k = ap (λ l. low.number 0 ∷ l)
    (fit_over r w [] [] (omega (arith, le)) (omega arith) (omega arith))
fit_over (suc r) (suc w) [] (u ∷ us) le h k = ap (λ l. low.number 0 ∷ l)
    (fit_over r w [] us (omega (arith, le)) (omega arith) (omega (arith, k)))
fit_over (suc r) (suc w) (x ∷ ws) [] le h k = ap (λ l. x ∷ l)
    (fit_over r w ws [] (omega (arith, le)) (omega (arith, h)) (omega arith))
fit_over (suc r) (suc w) (x ∷ ws) (u ∷ us) le h k = ap (λ l. x ∷ l)
    (fit_over r w ws us (omega (arith, le)) (omega (arith, h)) (omega (arith, k)))

-- the first words over those of a cell, where neither has more
over_fit : (r w : ℕ) (ws us : List Word) → r ≤ w → min w (length ws) ≤ r → length us ≤ r
    → over 0 (fit r ws) (fit w us) ≡ fit w ws
over_fit r w ws us le h k = over_first (fit r ws) (fit w us)
    (omega (arith, le, length_fit r ws, length_fit w us)) ∙ ap (λ n. fit r ws ++ drop n (fit w us))
    (length_fit r ws) ∙ fit_over r w ws us le h k

-- words that fill a cell as these few do
head_is : {x y : Word} {xs ys : List Word} → x ∷ xs ≡ y ∷ ys → x ≡ y
head_is e = cc

take_fit : (r w : ℕ) (ws : List Word) → r ≤ w → take r (fit w ws) ≡ fit r ws
take_fit zero zero ws le = refl
take_fit zero (suc w) [] le = refl
take_fit zero (suc w) (x ∷ ws) le = refl
take_fit (suc r) zero ws le = absurd (omega (arith, le))
take_fit (suc r) (suc w) [] le = ap (λ l. low.number 0 ∷ l) (take_fit r w [] (omega (arith, le)))
take_fit (suc r) (suc w) (x ∷ ws) le = ap (λ l. x ∷ l) (take_fit r w ws (omega (arith, le)))

fit_less : (r w : ℕ) (ws vs : List Word) → r ≤ w → fit w ws ≡ fit w vs → fit r ws ≡ fit r vs
fit_less r w ws vs le e = sym (take_fit r w ws le) ∙ ap (take r) e ∙ take_fit r w vs le

fit_taken : (r w : ℕ) (ws vs : List Word) → length vs ≤ r → fit w ws ≡ fit w vs
    → fit w (take r ws) ≡ fit w vs
fit_taken r zero ws vs h e = refl
fit_taken zero (suc w) [] vs h e = e
fit_taken zero (suc w) (x ∷ ws) [] h e = refl
fit_taken zero (suc w) (x ∷ ws) (v ∷ vs) h e = absurd (omega (arith, h))
fit_taken (suc r) (suc w) [] vs h e = e
fit_taken (suc r) (suc w) (x ∷ ws) [] h e =
    (λ i. head_is e i ∷ fit_taken r w ws [] (omega arith) (ap (drop 1) e) i)
fit_taken (suc r) (suc w) (x ∷ ws) (v ∷ vs) h e =
    (λ i. head_is e i ∷ fit_taken r w ws vs (omega (arith, h)) (ap (drop 1) e) i)

take_again : (r : ℕ) (ws : List Word) → take r (take r ws) ≡ take r ws
take_again zero [] = refl
take_again zero (w ∷ ws) = refl
take_again (suc r) [] = refl
take_again (suc r) (w ∷ ws) = ap (λ l. w ∷ l) (take_again r ws)

-- the first r of them into a new cell
pub over_front : (r w : ℕ) (ws vs : List Word) → r ≤ w → length vs ≤ r → fit w ws ≡ fit w vs
    → over 0 (take r ws) (zeros w) ≡ fit w vs
over_front r w ws vs le few e =
    ap (λ l. over 0 l (zeros w)) (sym (take_again r ws)) ∙ over_zeros r w (take r ws) le
    (omega (arith, length-take r ws)) ∙ fit_taken r w ws vs few e

-- r of them over a cell of so few words
pub over_like : (r w : ℕ) (ws vs us : List Word) → r ≤ w → length vs ≤ r → length us ≤ r
    → fit w ws ≡ fit w vs → over 0 (fit r ws) (fit w us) ≡ fit w vs
over_like r w ws vs us le few k e = ap (λ l. over 0 l (fit w us)) (fit_less r w ws vs le e) ∙
    over_fit r w vs us le (omega (arith, few)) k

-- ---- further variables

pub bound_other : (xs : List ℕ) (ws : List Word) (env : Env) (y : ℕ) → times y xs ≡ 0
    → bound xs ws env y ≡ env y
bound_other [] ws env y h = refl
bound_other (x ∷ xs) [] env y h = refl
bound_other (x ∷ xs) (w ∷ ws) env y h = go (nat_eq y x) refl
    (λ k. bound_other xs ws (with_var x w env) y k)
  where
    go : (b : Bool) → nat_eq y x ≡ b →
        (times y xs ≡ 0 → bound xs ws (with_var x w env) y ≡ with_var x w env y)
        → bound xs ws (with_var x w env) y ≡ env y
    go true e rec = let k : cond true 1 0 + times y xs ≡ 0
        = ap (λ b. cond b 1 0 + times y xs) (sym e) ∙ h in absurd (omega (arith, k))
    go false e rec = let k : cond false 1 0 + times y xs ≡ 0
        = ap (λ b. cond b 1 0 + times y xs) (sym e) ∙ h
        in rec (omega (arith, k)) ∙ ap (λ b. cond b (Some w) (env y)) e

module _ (p : low_tree.Program) (fw : ℕ → ℕ) where
  -- an operand that avoids a variable
  pub operand_other : (x : ℕ) (w : Word) (xs : List ℕ) (env : Env) (a : Operand) → Avoids (x ∷ xs) a
      → operand p fw (with_var x w env) a ≡ operand p fw env a
  operand_other x w xs env (Num k) h = refl
  operand_other x w xs env (Cell i) h = refl
  operand_other x w xs env (Var y) h = go (nat_eq y x) refl
    where
      go : (b : Bool) → nat_eq y x ≡ b → cond (nat_eq y x) (Some w) (env y) ≡ env y
      go true e = let k : cond true 1 0 + times y xs ≡ 0
          = ap (λ b. cond b 1 0 + times y xs) (sym e) ∙ h in absurd (omega (arith, k))
      go false e = ap (λ b. cond b (Some w) (env y)) e

  pub operands_other : (x : ℕ) (w : Word) (xs : List ℕ) (env : Env) (as' : List Operand)
      → AllOf (Avoids (x ∷ xs)) as' → operands p fw (with_var x w env) as' ≡ operands p fw env as'
  operands_other x w xs env [] h = refl
  operands_other x w xs env (a ∷ as') h = λ i. and_then (operand_other x w xs env a h.0 i)
      (λ b. and_then (operands_other x w xs env as' h.1 i) (λ bs. Some (b ∷ bs)))

  avoids_rest : (x : ℕ) (xs : List ℕ) (a : Operand) → Avoids (x ∷ xs) a → Avoids xs a
  avoids_rest x xs (Num k) h = tt
  avoids_rest x xs (Cell i) h = tt
  avoids_rest x xs (Var y) h = omega (arith, h)

  all_avoid_rest : (x : ℕ) (xs : List ℕ) (as' : List Operand) → AllOf (Avoids (x ∷ xs)) as'
      → AllOf (Avoids xs) as'
  all_avoid_rest x xs [] h = tt
  all_avoid_rest x xs (a ∷ as') h = (avoids_rest x xs a h.0, all_avoid_rest x xs as' h.1)

  module _ (room : Room) (calls : Calls) (top : ℕ) (under : Option ℕ) where
    abbrev does : Env → Code → World → Answer
    does env c w = code p fw room calls env top under c w

    pub sets_run : (xs : List ℕ) (as' : List Operand) (ws : List Word) (env : Env) (c : Code)
        (w : World) → operands p fw env as' ≡ Some ws → AllOf (Avoids xs) as'
        → does env (set_all xs as' c) w ≡ does (bound xs (fit (length xs) ws) env) c w
    unfolding code
    sets_run [] as' ws env c w h a = refl
    sets_run (x ∷ xs) [] ws env c w h a = sets_run xs [] [] (with_var x (low.number 0) env) c w refl
        tt ∙ ap (λ l. does (bound (x ∷ xs) (fit (suc (length xs)) l) env) c w) (some_same h)
    sets_run (x ∷ xs) (b ∷ as') ws env c w h a = go (operand p fw env b) refl
        (operands p fw env as') refl h
        (λ v vs e. sets_run xs as' vs (with_var x v env) c w e (all_avoid_rest x xs as' a.1))
      where
        go : (o : Option Word) → operand p fw env b ≡ o → (os : Option (List Word))
            → operands p fw env as' ≡ os → and_then o (λ v. and_then os (λ vs. Some (v ∷ vs))) ≡
            Some ws
            → ((v : Word) (vs : List Word) → operands p fw (with_var x v env) as' ≡ Some vs
            → does (with_var x v env) (set_all xs as' c) w ≡ does
            (bound xs (fit (length xs) vs) (with_var x v env)) c w)
            → need (operand p fw env b) w (λ v. does (with_var x v env) (set_all xs as' c) w) ≡ does
            (bound (x ∷ xs) (fit (suc (length xs)) ws) env) c w
        go None q os qs k rec = absurd (none_some k)
        go (Some v) q None qs k rec = absurd (none_some k)
        go (Some v) q (Some vs) qs k rec = ap
            (λ o. need o w (λ v. does (with_var x v env) (set_all xs as' c) w)) q
            ∙ rec v vs (operands_other x v xs env as' a.1 ∙ qs)
            ∙ ap (λ l. does (bound (x ∷ xs) (fit (suc (length xs)) l) env) c w) (some_same k)

    -- the words of cell i from word j on, of which no more than the first r are others than zeros
    pub loads_run : (r width : ℕ) → r ≤ width → (xs : List ℕ) (a : Operand) (j i : ℕ)
        (ws : List Word) (env : Env) (c : Code) (w : World) → operand p fw env a ≡ Some (low.cell i)
        → Avoids xs a → slice_get w.cells i ≡ Some (fit width ws) → length ws ≤ r
        → does env (load_all r xs a j c) w ≡ does (bound xs (fit (length xs) (drop j ws)) env) c w
    unfolding code
    loads_run r width rw [] a j i ws env c w h v s le = refl
    loads_run r width rw (x ∷ xs) a j i ws env c w h v s le = word (nat_lt j r) refl
        ∙ loads_run r width rw xs a (suc j) i ws (with_var x (nth_word ws j) env) c w
        (operand_other x (nth_word ws j) xs env a v ∙ h) (avoids_rest x xs a v) s le
        ∙ ap (λ l. does (bound (x ∷ xs) l env) c w) (sym (fit_from (length xs) j ws))
      where
        in_cell : cell_in p fw env a ≡ Some i
        in_cell = ap (λ o. and_then o low.cell_of) h

        word : (b : Bool) → nat_lt j r ≡ b → does env
            (elim b [
              | true ↦ load x a j (load_all r xs a (suc j) c)
              | false ↦ set x (Num 0)
                  (load_all r xs a (suc j) c)
            ]) w ≡ does (with_var x (nth_word ws j) env)
            (load_all r xs a (suc j) c) w
        word true e =
            (λ k. need (in_cell k) w
            (λ i. need (slice_get w.cells i) w
            (λ l. need (slice_get l j) w
            (λ u. does (with_var x u env) (load_all r xs a (suc j) c) w))))
            ∙ (λ k. need (s k) w
            (λ l. need (slice_get l j) w
            (λ u. does (with_var x u env) (load_all r xs a (suc j) c) w)))
            ∙ (λ k. need (get_fit width j ws (let lt = ltb-true j r e in omega (arith, lt, rw)) k) w
            (λ u. does (with_var x u env) (load_all r xs a (suc j) c) w))
        word false e = ap (λ u. does (with_var x u env) (load_all r xs a (suc j) c) w)
            (sym (nth_past ws j (omega (arith, le, ltb-false j r e))))

    -- words into cell i, from word j on
    pub saves_run : (a : Operand) (j : ℕ) (bs : List Operand) (vs : List Word) (i : ℕ)
        (cell : List Word) (env : Env) (c : Code) (w : World)
        → operand p fw env a ≡ Some (low.cell i) → operands p fw env bs ≡ Some vs
        → slice_get w.cells i ≡ Some cell → j + length vs ≤ length cell
        → does env (save_all a j bs c) w ≡ does env c
        (record w { cells = slice_set w.cells i (over j vs cell) })
    unfolding code
    saves_run a j [] vs i cell env c w h k s le =
        (λ n. does env c (record w { cells = sym (set_same w.cells i cell s) n })) ∙ ap
        (λ l. does env c (record w { cells = slice_set w.cells i (over j l cell) })) (some_same k)
    saves_run a j (b ∷ bs) vs i cell env c w h k s le
        = go (operand p fw env b) refl (operands p fw env bs) refl k
        (λ l cell' next qs t n. saves_run a (suc j) bs l i cell' env c next h qs t n)
      where
        in_cell : cell_in p fw env a ≡ Some i
        in_cell = ap (λ o. and_then o low.cell_of) h

        go : (o : Option Word) → operand p fw env b ≡ o → (os : Option (List Word))
            → operands p fw env bs ≡ os → and_then o (λ v. and_then os (λ l. Some (v ∷ l))) ≡ Some
            vs
            → ((l : List Word) (cell' : List Word) (next : World) → operands p fw env bs ≡ Some l
            → slice_get next.cells i ≡ Some cell' → suc j + length l ≤ length cell'
            → does env (save_all a (suc j) bs c) next ≡ does env c
            (record next { cells = slice_set next.cells i (over (suc j) l cell') }))
            → does env (save a j b (save_all a (suc j) bs c)) w ≡ does env c
            (record w { cells = slice_set w.cells i (over j vs cell) })
        go None q os qs m rec = absurd (none_some m)
        go (Some v) q None qs m rec = absurd (none_some m)
        go (Some v) q (Some l) qs m rec =
            let e : vs ≡ v ∷ l = sym (some_same m) in
            let n : length vs ≡ suc (length l) = ap length e in
            let lt : j < length cell = omega (arith, le, n) in
            let old = some_at cell j lt in
            let next : World = with_word i j v cell w in
            (λ t. need (in_cell t) w
            (λ i. need (slice_get w.cells i) w
            (λ ws. need (slice_get ws j) w
            (λ old. need (operand p fw env b) w
            (λ v. does env (save_all a (suc j) bs c) (with_word i j v ws w))))))
            ∙ (λ t. need (s t) w
            (λ ws. need (slice_get ws j) w
            (λ old. need (operand p fw env b) w
            (λ v. does env (save_all a (suc j) bs c) (with_word i j v ws w)))))
            ∙ (λ t. need (old.1 t) w
            (λ old. need (operand p fw env b) w
            (λ v. does env (save_all a (suc j) bs c) (with_word i j v cell w))))
            ∙ (λ t. need (q t) w (λ v. does env (save_all a (suc j) bs c) (with_word i j v cell w)))
            ∙ rec l (slice_set cell j v) next qs
            (get_set w.cells i (slice_set cell j v) (get_within w.cells i cell s))
            (omega (arith, le, n, length_set cell j v))
            ∙ (λ t. does env c
            (record w {
              cells = set_twice w.cells i (slice_set cell j v)
                  (over (suc j) l (slice_set cell j v)) t;
            }))
            ∙ (λ t. does env c (record w { cells = slice_set w.cells i (over j (sym e t) cell) }))
