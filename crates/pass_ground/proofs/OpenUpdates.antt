-- The tag of a value that stands for a node stands in its tag variable; and sums over updates.
use Rattle.std.proofs.Common.{◌≡◌, ℕ, zero, suc, ◌<◌, ◌≤◌, Bool, true, false, cond, nat_le, List, [], ◌∷◌, length, take, Option, Some, None, slice_get, refl, ap, ◌∙◌, subst, arith}
use Rattle.grin_syntax.specs.declared.program.VarId.{VarId}
use Rattle.grin_syntax.specs.declared.program.Tag.{Tag}
use Rattle.grin_syntax.specs.declared.program.Word as W
use Rattle.grin_syntax.specs.declared.program.Word.TheVariants.{Lit, Var, Global, TagWord}
use Rattle.grin_syntax.specs.declared.program.Val.{Val}
use Rattle.grin_syntax.specs.declared.program.Val.TheVariants.{NodeVar, Node as Node', Vector, One}
use Rattle.grin_syntax.specs.Tree.{Code, end, store, bind, Act, leaf, update, case, nested, Arms, no_arm, arm, Procedure, Program}
use Rattle.grin_meaning.specs.Values.{Datum, number, tag, cell, Node, words, Env, and_then, as_node, word_of, words_of, node_of}
use Rattle.pass_ground.specs.OpenUpdates.{variable_of, tag_variable, act_update_sum, code_update_sum, arms_update_sum, procs_update_sum}

-- ---- tags

-- what has no word has no head
pub head_of : (a : W.Word) (x : VarId) → variable_of a ≡ Some x → a ≡ Var x
head_of (Var y) x e = let same : y ≡ x = cc in ap Var same
head_of (Lit k) x e = cc
head_of (Global i) x e = cc
head_of (TagWord t) x e = cc

module _ (p : Program) (env : Env) where
  -- words that stand for a node begin with its tag, which the program has
  pub record Headed (n : Node) (d : Datum) : Type 0 where
    pub is_tag : d ≡ tag n.tag
    pub known : n.tag < length p.tags

  below : (ts : List Tag) (t : ℕ) (x : Tag) → slice_get ts t ≡ Some x → t < length ts
  below [] t x e = cc
  below (y ∷ ts) zero x e = omega arith
  below (y ∷ ts) (suc t) x e = let h : t < length ts = below ts t x e in omega arith

  headed : (d : Datum) (ds : List Datum) (n : Node) → as_node p (words (d ∷ ds)) ≡ Some n
      → Headed n d
  headed (number k) ds n e = cc
  headed (cell a) ds n e = cc
  headed (tag t) ds n e = go (slice_get p.tags t) refl e
    where
      made : (k : ℕ) (b : Bool) → t < length p.tags
          → cond b (Some (record { tag = t; fields = take k ds })) None ≡ Some n → Headed n (tag t)
      made k true lt q =
          let same : record { tag = t; fields = take k ds } ≡ n = cc in
          record {
            is_tag = ap (λ m. tag m.tag) same;
            known
                = subst (λ m. m.tag < length p.tags) same lt;
          }
      made k false lt q = cc

      go : (o : Option Tag) → slice_get p.tags t ≡ o
          → and_then (and_then o (λ i. Some i.fields))
          (λ k. cond (nat_le k (length ds)) (Some (record { tag = t; fields = take k ds })) None) ≡
          Some n → Headed n (tag t)
      go None r q = cc
      go (Some i) r q = made i.fields (nat_le i.fields (length ds)) (below p.tags t i r) q

  -- the tag of a value stands in its tag variable
  pub record TagThere (x : VarId) (n : Node) : Type 0 where
    pub there : word_of p env (Var x) ≡ Some (tag n.tag)
    pub known : n.tag < length p.tags

  pub tag_there : (v : Val) (x : VarId) (n : Node) → tag_variable v ≡ Some x
      → node_of p env v ≡ Some n → TagThere x n
  tag_there (NodeVar y) x n e q = cc
  tag_there (Node' t ws) x n e q = cc
  tag_there (Vector []) x n e q = cc
  tag_there (Vector (a ∷ ws)) x n e q = go (word_of p env (Var x)) refl
      (subst (λ b. node_of p env (Vector (b ∷ ws)) ≡ Some n) (head_of a x e) q)
    where
      more : (d : Datum) (o : Option (List Datum)) → word_of p env (Var x) ≡ Some d
          → and_then (and_then (and_then o (λ ds. Some (d ∷ ds))) (λ ds. Some (words ds)))
          (as_node p) ≡ Some n → TagThere x n
      more d None r f = cc
      more d (Some ds) r f = let h : Headed n d = headed d ds n f
          in record { there = r ∙ ap Some h.is_tag; known = h.known }

      go : (o : Option Datum) → word_of p env (Var x) ≡ o
          → and_then
          (and_then (and_then o (λ d. and_then (words_of p env ws) (λ ds. Some (d ∷ ds))))
          (λ ds. Some (words ds))) (as_node p) ≡ Some n → TagThere x n
      go None r f = cc
      go (Some d) r f = more d (words_of p env ws) r f
  tag_there (One a) x n e q = go (word_of p env (Var x)) refl
      (subst (λ b. node_of p env (One b) ≡ Some n) (head_of a x e) q)
    where
      go : (o : Option Datum) → word_of p env (Var x) ≡ o
          → and_then (and_then o (λ d. Some (words (d ∷ [])))) (as_node p) ≡ Some n → TagThere x n
      go None r f = cc
      go (Some d) r f = let h : Headed n d = headed d [] n f
          in record { there = r ∙ ap Some h.is_tag; known = h.known }

-- ---- sums

-- where each update counts for no more, so do all
module _ (f f' : Val → ℕ) (each : (v : Val) → f v ≤ f' v) where
  mutual
    unfolding act_update_sum

    act_at_most : (o : Act) → act_update_sum f o ≤ act_update_sum f' o
    act_at_most (leaf (update a v)) = each v
    act_at_most (case v as') = arms_at_most as'
    act_at_most (nested b) = code_at_most b
    act_at_most (leaf _) = omega arith

    code_at_most : (b : Code) → code_update_sum f b ≤ code_update_sum f' b
    code_at_most (end o) = act_at_most o
    code_at_most (store cs b) = code_at_most b
    code_at_most (bind t o b) = let h : act_update_sum f o ≤ act_update_sum f' o = act_at_most o
        in let k : code_update_sum f b ≤ code_update_sum f' b = code_at_most b
        in omega (arith, h, k)

    arms_at_most : (as' : Arms) → arms_update_sum f as' ≤ arms_update_sum f' as'
    arms_at_most no_arm = omega arith
    arms_at_most (arm s b as') = let h : code_update_sum f b ≤ code_update_sum f' b = code_at_most b
        in let k : arms_update_sum f as' ≤ arms_update_sum f' as' = arms_at_most as'
        in omega (arith, h, k)

  pub sum_at_most : (qs : List Procedure) → procs_update_sum f qs ≤ procs_update_sum f' qs
  sum_at_most [] = omega arith
  sum_at_most (q ∷ qs) = let h : code_update_sum f q.body ≤ code_update_sum f' q.body
      = code_at_most q.body in let k : procs_update_sum f qs ≤ procs_update_sum f' qs
      = sum_at_most qs in omega (arith, h, k)
