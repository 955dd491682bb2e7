-- Lists of words that grow at their end.
use Rattle.std.proofs.Common.{◌≡◌, ℕ, suc, pos, ◌+◌, ◌<◌, ◌≤◌, Bool, true, false, cond, List, [], ◌∷◌, ◌++◌, map, take, length, length-take, get_or, refl, sym, ap, ◌∙◌, subst, arith}
use Rattle.std.proofs.lemmas.List.{take_more, take_all}
use Rattle.seq.proofs.Lists.{map_push}
use Rattle.grin_syntax.specs.declared.program.VarId.{VarId}
use Rattle.grin_syntax.specs.declared.program.Word as W
use Rattle.grin_syntax.specs.declared.program.Word.TheVariants.{Lit}
use Rattle.grin_syntax.specs.declared.program.Stmt.{Stmt}
use Rattle.grin_syntax.specs.Tree.{Code, before_of, all_before}
use Rattle.grin_syntax.specs.Fresh.{variable}
use Rattle.pass_ground.specs.Uses.{code_uses}
use Rattle.fetch_passes.specs.Windows.{outside}
use Rattle.fetch_passes.specs.Names.{Names, DeferredField, hidden_as_zero, with_hidden, named_if}
use Rattle.fetch_passes.specs.Waits.{deferred_fields_of}
use Rattle.fetch_passes.specs.Split.{fetched_if, word_fetches, front, front_names}

append_one : {X : Type 0} (xs ys : List X) (x : X) → (xs ++ ys) ++ x ∷ [] ≡ xs ++ (ys ++ x ∷ [])
append_one [] ys x = refl
append_one (y ∷ xs) ys x = ap (λ l. y ∷ l) (append_one xs ys x)

-- ---- at the front of an alternative

front_push : (a : W.Word) (n : ℕ) (ps : List DeferredField) (p : DeferredField) (b c : Code)
    → front a n (ps ++ p ∷ []) b c ≡ front a n ps b
    (fetched_if (code_uses p.var.0 b) (variable (n + length ps)) a p.place c)
front_push a n [] p b c = ap (λ k. fetched_if (code_uses p.var.0 b) (variable k) a p.place c)
    (let e : n ≡ n + 0 = omega arith in e)
front_push a n (q ∷ ps) p b c = ap (fetched_if (code_uses q.var.0 b) (variable n) a q.place)
    (front_push a (suc n) ps p b c ∙ ap
    (λ k. front a (suc n) ps b (fetched_if (code_uses p.var.0 b) (variable k) a p.place c))
    (let e : suc n + length ps ≡ n + suc (length ps) = omega arith in e))

names_push : (n : ℕ) (ps : List DeferredField) (p : DeferredField) (b : Code) (ks : Names)
    → front_names n (ps ++ p ∷ []) b ks ≡ named_if (code_uses p.var.0 b) p.var (n + length ps)
    (front_names n ps b ks)
names_push n [] p b ks = ap (λ k. named_if (code_uses p.var.0 b) p.var k ks)
    (let e : n ≡ n + 0 = omega arith in e)
names_push n (q ∷ ps) p b ks = names_push (suc n) ps p b (named_if (code_uses q.var.0 b) q.var n ks)
    ∙ ap (λ k. named_if (code_uses p.var.0 b) p.var k
    (front_names (suc n) ps b (named_if (code_uses q.var.0 b) q.var n ks)))
    (let e : suc n + length ps ≡ n + suc (length ps) = omega arith in e)

-- the words so far
pub record FrontSoFar (a : W.Word) (n m : ℕ) (ps : List DeferredField) (b : Code) (ks js : Names)
    (made : List Stmt) : Type 0 where
  pub next : m ≡ n + length ps
  pub names : js ≡ front_names n ps b ks
  pub stmts : (c : Code) → all_before (map before_of made) c ≡ front a n ps b c

pub front_none : (a : W.Word) (n : ℕ) (b : Code) (ks : Names) → FrontSoFar a n n [] b ks ks []
front_none a n b ks = record { next = omega arith; names = refl; stmts = λ c. refl }

pub front_next : (a : W.Word) (n m m' : ℕ) (ps : List DeferredField) (i : ℕ) (d : DeferredField)
    (b : Code) (ks js js' : Names) (made made' : List Stmt) → i < length ps
    → FrontSoFar a n m (take i ps) b ks js made
    → ((c : Code) → all_before (map before_of made') c ≡ all_before (map before_of made)
    (fetched_if (code_uses (get_or ps i d).var.0 b) (variable m) a (get_or ps i d).place c))
    → js' ≡ named_if (code_uses (get_or ps i d).var.0 b) (get_or ps i d).var m js → m' ≡ suc m
    → FrontSoFar a n m' (take (i + 1) ps) b ks js' made'
front_next a n m m' ps i d b ks js js' made made' lt f s k e
    = subst (λ l. FrontSoFar a n m' l b ks js' made') (sym (take_more ps i d lt)) (record {
      next = (let h : m ≡ n + length (take i ps) = f.next in let l
          : length (take i ps ++ get_or ps i d ∷ []) ≡ suc (length (take i ps))
          = many (take i ps) (get_or ps i d) in omega (arith, h, l, e));
      names = k ∙
          (λ j. named_if (code_uses (get_or ps i d).var.0 b) (get_or ps i d).var (f.next j)
          (f.names j))
          ∙ sym (names_push n (take i ps) (get_or ps i d) b ks);
      stmts = λ c. s c ∙ f.stmts _ ∙ ap
          (λ z. front a n (take i ps) b
          (fetched_if (code_uses (get_or ps i d).var.0 b) (variable z) a (get_or ps i d).place c))
          f.next ∙ sym (front_push a n (take i ps) (get_or ps i d) b c);
    })
  where
    many : (xs : List DeferredField) (x : DeferredField) → length (xs ++ x ∷ []) ≡ suc (length xs)
    many [] x = refl
    many (y ∷ xs) x = ap suc (many xs x)

pub front_all : (a : W.Word) (n m : ℕ) (ps : List DeferredField) (i : ℕ) (b : Code) (ks js : Names)
    (made : List Stmt) → length ps ≤ i → FrontSoFar a n m (take i ps) b ks js made
    → FrontSoFar a n m ps b ks js made
front_all a n m ps i b ks js made le f = subst (λ l. FrontSoFar a n m l b ks js made)
    (take_all i ps le) f

-- ---- directly after a tag

words_push : (t : ℕ) (b : Code) (a : W.Word) (i : ℕ) (xs : List VarId) (x : VarId) (c : Code)
    → word_fetches t b a i (xs ++ x ∷ []) c ≡ word_fetches t b a i xs
    (fetched_if (outside t x.0 b) x a (i + length xs) c)
words_push t b a i [] x c = ap (λ k. fetched_if (outside t x.0 b) x a k c)
    (let e : i ≡ i + 0 = omega arith in e)
words_push t b a i (y ∷ xs) x c = ap (fetched_if (outside t y.0 b) y a i)
    (words_push t b a (suc i) xs x c ∙ ap
    (λ k. word_fetches t b a (suc i) xs (fetched_if (outside t x.0 b) x a k c))
    (let e : suc i + length xs ≡ i + suc (length xs) = omega arith in e))

waits_push : (t : ℕ) (b : Code) (i : ℕ) (xs : List VarId) (x : VarId)
    → deferred_fields_of t b i (xs ++ x ∷ []) ≡ deferred_fields_of t b i xs
    ++ cond (outside t x.0 b) [] (record { var = x; place = i + length xs } ∷ [])
waits_push t b i [] x = ap (λ k. cond (outside t x.0 b) [] (record { var = x; place = k } ∷ []))
    (let e : i ≡ i + 0 = omega arith in e)
waits_push t b i (y ∷ xs) x = go (outside t y.0 b)
    (waits_push t b (suc i) xs x ∙ ap
    (λ k. deferred_fields_of t b (suc i) xs ++ cond (outside t x.0 b) []
    (record { var = x; place = k } ∷ []))
    (let e : suc i + length xs ≡ i + suc (length xs) = omega arith in e))
  where
    ends : List DeferredField
    ends = cond (outside t x.0 b) [] (record { var = x; place = i + suc (length xs) } ∷ [])

    go : (o : Bool) → deferred_fields_of t b (suc i) (xs ++ x ∷ []) ≡ deferred_fields_of t b (suc i)
        xs ++ ends
        → cond o (deferred_fields_of t b (suc i) (xs ++ x ∷ []))
        (record { var = y; place = i } ∷ deferred_fields_of t b (suc i) (xs ++ x ∷ [])) ≡ cond o
        (deferred_fields_of t b (suc i) xs)
        (record { var = y; place = i } ∷ deferred_fields_of t b (suc i) xs) ++ ends
    go true h = h
    go false h = ap (λ l. record { var = y; place = i } ∷ l) h

pub record WordsSoFar (t : ℕ) (b : Code) (a : W.Word) (xs : List VarId) (old made : List Stmt)
    (waits : List DeferredField) : Type 0 where
  pub waiting : waits ≡ deferred_fields_of t b 1 xs
  pub stmts : (c : Code) → all_before (map before_of made) c ≡ all_before (map before_of old)
      (word_fetches t b a 1 xs c)

pub words_none : (t : ℕ) (b : Code) (a : W.Word) (old : List Stmt) → WordsSoFar t b a [] old old []
words_none t b a old = record { waiting = refl; stmts = λ c. refl }

pub words_next : (t : ℕ) (b : Code) (a : W.Word) (xs : List VarId) (i : ℕ) (d : VarId) (kept : Bool)
    (old made made' : List Stmt) (waits waits' : List DeferredField) → i < length xs
    → WordsSoFar t b a (take i xs) old made waits → kept ≡ outside t (get_or xs i d).0 b
    → ((c : Code) → all_before (map before_of made') c ≡ all_before (map before_of made)
    (fetched_if kept (get_or xs i d) a (i + 1) c))
    → waits' ≡ waits ++ cond kept [] (record { var = get_or xs i d; place = i + 1 } ∷ [])
    → WordsSoFar t b a (take (i + 1) xs) old made' waits'
words_next t b a xs i d kept old made made' waits waits' lt f k s w
    = subst (λ l. WordsSoFar t b a l old made' waits') (sym (take_more xs i d lt)) (record {
      waiting = w ∙
          (λ j. f.waiting j ++ cond (k j) [] (record { var = get_or xs i d; place = at j } ∷ [])) ∙
          sym
          (waits_push t b 1 (take i xs) (get_or xs i d));
      stmts = λ c. s c ∙ f.stmts _ ∙
          (λ j. all_before (map before_of old)
          (word_fetches t b a 1 (take i xs) (fetched_if (k j) (get_or xs i d) a (at j) c))) ∙ ap
          (all_before (map before_of old)) (sym (words_push t b a 1 (take i xs) (get_or xs i d) c));
    })
  where
    at : i + 1 ≡ 1 + length (take i xs)
    at = let h : length (take i xs) ≡ i = omega (arith, length-take i xs) in omega (arith, h)

pub words_all : (t : ℕ) (b : Code) (a : W.Word) (xs : List VarId) (i : ℕ) (old made : List Stmt)
    (waits : List DeferredField) → length xs ≤ i → WordsSoFar t b a (take i xs) old made waits
    → WordsSoFar t b a xs old made waits
words_all t b a xs i old made waits le f = subst (λ l. WordsSoFar t b a l old made waits)
    (take_all i xs le) f

-- ---- what is hidden

pub hiding_next : (ps : List DeferredField) (i : ℕ) (d : DeferredField) (ks old new : Names)
    → i < length ps → new ≡ old ++ record { var = (get_or ps i d).var; word = Lit (pos 0) } ∷ []
    → old ≡ with_hidden (take i ps) ks → new ≡ with_hidden (take (i + 1) ps) ks
hiding_next ps i d ks old new lt n o =
    n ∙ ap (λ l. l ++ hidden_as_zero (get_or ps i d) ∷ []) o ∙ append_one ks
    (map hidden_as_zero (take i ps)) (hidden_as_zero (get_or ps i d)) ∙ ap (λ l. ks ++ l)
    (sym (map_push hidden_as_zero (take i ps) (get_or ps i d))) ∙ ap (λ l. with_hidden l ks)
    (sym (take_more ps i d lt))
