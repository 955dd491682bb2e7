-- What the loops over the words of a node and over the tags keep.
use Rattle.std.proofs.Common.{◌≡◌, ℕ, suc, ◌+◌, ◌<◌, ◌≤◌, List, [], ◌∷◌, ◌++◌, map, take, length, length-take, get_or, refl, sym, ap, ◌∙◌, subst, arith}
use Rattle.std.proofs.lemmas.List.{take_more, take_all}
use Rattle.seq.proofs.Lists.{take_next}
use Rattle.grin_syntax.specs.declared.program.VarId.{VarId}
use Rattle.grin_syntax.specs.declared.program.Tag.{Tag}
use Rattle.grin_syntax.specs.declared.program.Alt.{Alt}
use Rattle.grin_syntax.specs.declared.program.Word as W
use Rattle.grin_syntax.specs.declared.program.Word.TheVariants.{Var}
use Rattle.grin_syntax.specs.declared.program.Val.TheVariants.{Node as NodeVal}
use Rattle.grin_syntax.specs.declared.program.Shape.TheVariants as shape
use Rattle.grin_syntax.specs.declared.program.Target.TheVariants as to
use Rattle.grin_syntax.specs.declared.program.Stmt.{Stmt}
use Rattle.grin_syntax.specs.Tree.{Code, end, bind, leaf, unit, fetch_word, Arms, no_arm, arm, before_of, arm_of, all_before, arms_of}
use Rattle.grin_syntax.specs.Tags.{tag_id}
use Rattle.fetch_passes.specs.Split.{fetch_all_words, node_arms}

words_push : (a : W.Word) (i : ℕ) (xs : List VarId) (x : VarId) (c : Code)
    → fetch_all_words a i (xs ++ x ∷ []) c ≡ fetch_all_words a i xs
    (bind (to.One x) (leaf (fetch_word a (i + length xs))) c)
words_push a i [] x c = ap (λ k. bind (to.One x) (leaf (fetch_word a k)) c)
    (let e : i ≡ i + 0 = omega arith in e)
words_push a i (y ∷ xs) x c = ap (bind (to.One y) (leaf (fetch_word a i)))
    (words_push a (suc i) xs x c ∙ ap
    (λ k. fetch_all_words a (suc i) xs (bind (to.One x) (leaf (fetch_word a k)) c))
    (let e : suc i + length xs ≡ i + suc (length xs) = omega arith in e))

pub record AllWords (a : W.Word) (xs : List VarId) (old made : List Stmt) : Type 0 where
  pub by : (c : Code) → all_before (map before_of made) c ≡ all_before (map before_of old)
      (fetch_all_words a 0 xs c)

pub no_words : (a : W.Word) (old : List Stmt) → AllWords a [] old old
no_words a old = record { by = λ c. refl }

pub words_next : (a : W.Word) (xs : List VarId) (i : ℕ) (d : VarId) (old made made' : List Stmt)
    → i < length xs → AllWords a (take i xs) old made
    → ((c : Code) → all_before (map before_of made') c ≡ all_before (map before_of made)
    (bind (to.One (get_or xs i d)) (leaf (fetch_word a i)) c))
    → AllWords a (take (i + 1) xs) old made'
words_next a xs i d old made made' lt f s = subst (λ l. AllWords a l old made')
    (sym (take_more xs i d lt))
    (record {
      by = λ c. s c ∙ f.by _ ∙ ap
          (λ k. all_before (map before_of old)
          (fetch_all_words a 0 (take i xs)
          (bind (to.One (get_or xs i d)) (leaf (fetch_word a k)) c)))
          at ∙ ap (all_before (map before_of old))
          (sym (words_push a 0 (take i xs) (get_or xs i d) c));
    })
  where
    at : i ≡ 0 + length (take i xs)
    at = let h : length (take i xs) ≡ i = omega (arith, length-take i xs) in omega (arith, h)

pub words_all : (a : W.Word) (xs : List VarId) (i : ℕ) (old made : List Stmt) → length xs ≤ i
    → AllWords a (take i xs) old made → (c : Code) → all_before (map before_of made) c ≡ all_before
    (map before_of old) (fetch_all_words a 0 xs c)
words_all a xs i old made le f c = f.by c ∙ ap
    (λ l. all_before (map before_of old) (fetch_all_words a 0 l c)) (take_all i xs le)

arms_add : Arms → Arms → Arms
arms_add no_arm r = r
arms_add (arm s b as') r = arm s b (arms_add as' r)

one_arm : List VarId → ℕ → Tag → Arms
one_arm xs i t = arm (shape.Node (tag_id i) [])
    (end (leaf (unit (NodeVal (tag_id i) (map Var (take t.fields xs)))))) no_arm

arms_push : (xs : List VarId) (i : ℕ) (ts : List Tag) (t : Tag)
    → node_arms xs i (ts ++ t ∷ []) ≡ arms_add (node_arms xs i ts) (one_arm xs (i + length ts) t)
unfolding arms_add one_arm
arms_push xs i [] t = ap (λ k. one_arm xs k t) (let e : i ≡ i + 0 = omega arith in e)
arms_push xs i (u ∷ ts) t = ap
    (arm (shape.Node (tag_id i) [])
    (end (leaf (unit (NodeVal (tag_id i) (map Var (take u.fields xs)))))))
    (arms_push xs (suc i) ts t ∙ ap (λ k. arms_add (node_arms xs (suc i) ts) (one_arm xs k t))
    (let e : suc i + length ts ≡ i + suc (length ts) = omega arith in e))

of_push : (as' : List Alt) (a : Alt) → arms_of (map arm_of (as' ++ a ∷ [])) ≡ arms_add
    (arms_of (map arm_of as')) (arm (arm_of a).0 (arm_of a).1 no_arm)
unfolding arms_add
of_push [] a = refl
of_push (b ∷ as') a = ap (arm (arm_of b).0 (arm_of b).1) (of_push as' a)

pub record NodeArms (xs : List VarId) (ts : List Tag) (alts : List Alt) : Type 0 where
  pub by : arms_of (map arm_of alts) ≡ node_arms xs 0 ts

pub no_arms : (xs : List VarId) → NodeArms xs [] []
no_arms xs = record { by = refl }

pub arms_next : (xs : List VarId) (ts : List Tag) (i : ℕ) (t : Tag) (alts alts' : List Alt)
    (a : Alt) → i < length ts → t ≡ get_or ts i t → NodeArms xs (take i ts) alts
    → arm_of a ≡
    (shape.Node (tag_id i) [], end (leaf (unit (NodeVal (tag_id i) (map Var (take t.fields xs))))))
    → alts' ≡ alts ++ a ∷ [] → NodeArms xs (take (i + 1) ts) alts'
unfolding one_arm
arms_next xs ts i t alts alts' a lt e f s n = subst (λ l. NodeArms xs l alts')
    (sym (take_next ts i t lt e))
    (record {
      by = ap (λ l. arms_of (map arm_of l)) n ∙ of_push alts a ∙
          (λ j. arms_add (f.by j) (arm (s j).0 (s j).1 no_arm)) ∙ ap
          (λ k. arms_add (node_arms xs 0 (take i ts)) (one_arm xs k t)) at ∙ sym
          (arms_push xs 0 (take i ts) t);
    })
  where
    at : i ≡ 0 + length (take i ts)
    at = let h : length (take i ts) ≡ i = omega (arith, length-take i ts) in omega (arith, h)

pub arms_all : (xs : List VarId) (ts : List Tag) (i : ℕ) (alts : List Alt) → length ts ≤ i
    → NodeArms xs (take i ts) alts → arms_of (map arm_of alts) ≡ node_arms xs 0 ts
arms_all xs ts i alts le f = f.by ∙ ap (node_arms xs 0) (take_all i ts le)
