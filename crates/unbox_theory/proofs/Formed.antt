-- A program stays well formed.
use Rattle.std.proofs.Common.{◌≡◌, ℕ, zero, suc, ◌+◌, ◌<◌, ◌≤◌, Bool, true, false, List, [], ◌∷◌, ◌++◌, length, Some, slice_get, refl, sym, ap, ◌∙◌, subst, arith}
use Rattle.grin_syntax.specs.declared.program.VarId.{VarId}
use Rattle.grin_syntax.specs.declared.program.Tag.{Tag}
use Rattle.grin_syntax.specs.declared.program.Val.{Val}
use Rattle.grin_syntax.specs.declared.program.Val.TheVariants.{NodeVar, Node, Vector, One}
use Rattle.grin_syntax.specs.declared.program.Word.{Word}
use Rattle.grin_syntax.specs.declared.program.Target.{Target}
use Rattle.grin_syntax.specs.declared.program.Target.TheVariants as to
use Rattle.grin_syntax.specs.Tree.{Code, end, store, bind, Act, leaf, unit, fetch, fetch_word, update, eval, apply, call, prim, read, write, case, nested, fail, Arms, no_arm, arm, Procedure, Program}
use Rattle.grin_syntax.specs.Binders.{numbers_of, target_vars, shape_vars, cell_vars, act_vars, code_vars, arms_vars, procs_vars, procs_sites}
use Rattle.grin_syntax.specs.Formed.{AllOf, Scope, with_word_variables, with_target, params_scope, WordFormed, ValFormed, Formed, ActFormed, CodeFormed, ArmsFormed, ProcedureFormed}
use Rattle.grin_syntax.specs.SameOutside.{names_of, DifferOnlyInBodies}
use Rattle.grin_syntax.proofs.Scopes.{Fewer, Within, within_self, words_within, target_within, word_stays, words_stay, val_stays, cells_stay, shape_stays, with_procs, known_again, same_sites, formed_with}
use Rattle.unbox_theory.specs.Ends.{Procedures, act_calls}
use Rattle.unbox_theory.proofs.Stays.{code_stays}
use Rattle.unbox_theory.specs.Unboxing.{word_or_zero, given, zeros, boxed, bound, unbox_act, unbox_code, unbox_arms, unboxed_procedure, unboxed_from, unboxed}
use Rattle.seq.specs.Lists.{times}
use Rattle.seq.proofs.Counted.{times_append}

-- ---- variables stay, in another order

module _ (M : Procedures) (x : ℕ) where
  added : (xs ys zs ws : List ℕ) → times x ys ≡ times x ws → times x (xs ++ ys) ≡ times x (xs ++ ws)
  added xs ys zs ws e =
      let p : times x (xs ++ ys) ≡ times x xs + times x ys = times_append x xs ys in
      let q : times x (xs ++ ws) ≡ times x xs + times x ws = times_append x xs ws in
      omega (arith, e, p, q)

  both_added : (xs ys zs ws : List ℕ) → times x xs ≡ times x zs → times x ys ≡ times x ws
      → times x (xs ++ ys) ≡ times x (zs ++ ws)
  both_added xs ys zs ws d e =
      let p : times x (xs ++ ys) ≡ times x xs + times x ys = times_append x xs ys in
      let q : times x (zs ++ ws) ≡ times x zs + times x ws = times_append x zs ws in
      omega (arith, d, e, p, q)

  moved : (a b : ℕ) (zs os bs : List ℕ) → times x (b ∷ (os ++ (a ∷ zs ++ bs))) ≡ times x
      (a ∷ b ∷ (zs ++ (os ++ bs)))
  moved a b zs os bs =
      let p : times x (os ++ (a ∷ zs ++ bs)) ≡ times x os + times x (a ∷ zs ++ bs)
      = times_append x os (a ∷ zs ++ bs) in
      let q : times x (zs ++ bs) ≡ times x zs + times x bs = times_append x zs bs in
      let r : times x (zs ++ (os ++ bs)) ≡ times x zs + times x (os ++ bs)
      = times_append x zs (os ++ bs) in
      let s : times x (os ++ bs) ≡ times x os + times x bs = times_append x os bs in
      omega (arith, p, q, r, s)

  boxed_times : (t : Target) (o : Act) (b : Code) → times x (code_vars (boxed t o b)) ≡ times x
      (code_vars (bind t o b))
  unfolding act_vars
  boxed_times to.Nothing o b = refl
  boxed_times (to.Node y) o b = refl
  boxed_times (to.One y) o b = refl
  boxed_times (to.Vector []) o b = refl
  boxed_times (to.Vector (a ∷ [])) o b = refl
  boxed_times (to.Vector (a ∷ c ∷ zs)) o b = moved a.0 c.0 (numbers_of zs) (act_vars o)
      (code_vars b)

  bound_times : (q : Bool) (t : Target) (o : Act) (b : Code)
      → times x (code_vars (bound q t o b)) ≡ times x (code_vars (bind t o b))
  bound_times true t o b = boxed_times t o b
  bound_times false t o b = refl

  bind_times : (t : Target) (o o' : Act) (b b' : Code)
      → times x (act_vars o') ≡ times x (act_vars o)
      → times x (code_vars b') ≡ times x (code_vars b)
      → times x (code_vars (bind t o' b')) ≡ times x (code_vars (bind t o b))
  unfolding act_vars
  bind_times t o o' b b' d e = both_added (target_vars t) (act_vars o' ++ code_vars b')
      (target_vars t) (act_vars o ++ code_vars b) refl
      (both_added (act_vars o') (code_vars b') (act_vars o) (code_vars b) d e)

  mutual
    unfolding unbox_act act_vars

    act_times : (bare : Bool) (o : Act) → times x (act_vars (unbox_act M bare o)) ≡ times x
        (act_vars o)
    act_times bare (case v as') = arms_times bare as'
    act_times bare (nested b) = code_times bare b
    act_times bare (leaf l) = refl

    code_times : (bare : Bool) (b : Code) → times x (code_vars (unbox_code M bare b)) ≡ times x
        (code_vars b)
    code_times bare (end o) = act_times bare o
    code_times bare (store cs b) = both_added (cell_vars cs) (code_vars (unbox_code M bare b))
        (cell_vars cs) (code_vars b) refl (code_times bare b)
    code_times bare (bind t o b) = bound_times (act_calls M o) t (unbox_act M (act_calls M o) o)
        (unbox_code M bare b) ∙ bind_times t o (unbox_act M (act_calls M o) o) b
        (unbox_code M bare b) (act_times (act_calls M o) o) (code_times bare b)

    arms_times : (bare : Bool) (as' : Arms) → times x (arms_vars (unbox_arms M bare as')) ≡ times x
        (arms_vars as')
    arms_times bare no_arm = refl
    arms_times bare (arm s b as') = both_added (shape_vars s)
        (code_vars (unbox_code M bare b) ++ arms_vars (unbox_arms M bare as')) (shape_vars s)
        (code_vars b ++ arms_vars as') refl
        (both_added (code_vars (unbox_code M bare b)) (arms_vars (unbox_arms M bare as'))
        (code_vars b) (arms_vars as') (code_times bare b) (arms_times bare as'))

  procs_times : (f : ℕ) (qs : List Procedure) → times x (procs_vars (unboxed_from M f qs)) ≡ times x
      (procs_vars qs)
  procs_times f [] = refl
  procs_times f (q ∷ qs) = both_added (numbers_of q.params ++ code_vars (unbox_code M (M f) q.body))
      (procs_vars (unboxed_from M (suc f) qs)) (numbers_of q.params ++ code_vars q.body)
      (procs_vars qs)
      (both_added (numbers_of q.params) (code_vars (unbox_code M (M f) q.body))
      (numbers_of q.params) (code_vars q.body) refl (code_times (M f) q.body))
      (procs_times (suc f) qs)

module _ (M : Procedures) where
  -- ---- sites stay

  sites_stay : (f : ℕ) (qs : List Procedure) → procs_sites (unboxed_from M f qs) ≡ procs_sites qs
  sites_stay f [] = refl
  sites_stay f (q ∷ qs) = λ i. (code_stays M (M f) q.body).sites i ++ sites_stay (suc f) qs i

  names_stay : (f : ℕ) (qs : List Procedure) → names_of (unboxed_from M f qs) ≡ names_of qs
  names_stay f [] = refl
  names_stay f (q ∷ qs) = ap (λ ns. q.name ∷ ns) (names_stay (suc f) qs)

  pub as_many : (f : ℕ) (qs : List Procedure) → length (unboxed_from M f qs) ≡ length qs
  as_many f [] = refl
  as_many f (q ∷ qs) = ap suc (as_many (suc f) qs)

  -- ---- scopes

  swapped_words : (a b : ℕ) (zs xs ys : List ℕ) → Fewer xs ys
      → Fewer (a ∷ b ∷ (zs ++ xs)) (a ∷ (zs ++ (b ∷ ys)))
  swapped_words a b zs xs ys w = record { by = λ y. go y (w.by y) }
    where
      go : (y : ℕ) → times y xs ≤ times y ys → times y (a ∷ b ∷ (zs ++ xs)) ≤ times y
          (a ∷ (zs ++ (b ∷ ys)))
      go y h =
          let p : times y (zs ++ xs) ≡ times y zs + times y xs = times_append y zs xs in
          let q : times y (zs ++ (b ∷ ys)) ≡ times y zs + times y (b ∷ ys)
          = times_append y zs (b ∷ ys) in
          omega (arith, h, p, q)

  swapped_within : (a b : VarId) (zs : List VarId) (scope scope' : Scope) → Within scope scope'
      → Within (with_target (to.Vector (a ∷ b ∷ zs)) scope)
      (with_target (to.Vector (a ∷ zs)) (with_target (to.One b) scope'))
  swapped_within a b zs scope scope' w = record {
    nodes = w.nodes;
    words = swapped_words a.0 b.0 (numbers_of zs) scope.words scope'.words
        w.words;
  }

  module _ (p : Program) (procs : List Procedure) (same_count : length procs ≡ length p.procs)
      (has_tag : 0 < length p.tags) where
    abbrev after : Program
    after = with_procs p procs same_count

    word_formed : (scope : Scope) (ws : List Word) (i : ℕ) → AllOf (WordFormed after scope) ws
        → WordFormed after scope (word_or_zero ws i)
    word_formed scope [] i h = tt
    word_formed scope (a ∷ ws) zero h = h.0
    word_formed scope (a ∷ ws) (suc i) h = word_formed scope ws i h.1

    given_formed : (scope : Scope) (bare : Bool) (v : Val) → ValFormed after scope v
        → ValFormed after scope (given bare v)
    given_formed scope false v h = h
    given_formed scope true (NodeVar x) h = tt
    given_formed scope true (Node t ws) h = word_formed scope ws 0 h.1
    given_formed scope true (Vector ws) h = word_formed scope ws 1 h
    given_formed scope true (One a) h = h

    zeros_formed : (scope : Scope) (k : ℕ) → AllOf (WordFormed after scope) (zeros k)
    zeros_formed scope zero = tt
    zeros_formed scope (suc k) = (tt, zeros_formed scope k)

    boxed_formed : (scope scope' : Scope) (w : Within scope scope') (t : Target) (o : Act)
        (b : Code) → ActFormed after scope' o →
        ((s : Scope) → Within (with_target t scope) s → CodeFormed after s b)
        → CodeFormed after scope' (boxed t o b)
    unfolding ActFormed
    boxed_formed scope scope' w to.Nothing o b h k =
        (h, k _ (target_within to.Nothing scope scope' w))
    boxed_formed scope scope' w (to.Node x) o b h k
        = (h, k _ (target_within (to.Node x) scope scope' w))
    boxed_formed scope scope' w (to.One x) o b h k =
        (h, k _ (target_within (to.One x) scope scope' w))
    boxed_formed scope scope' w (to.Vector []) o b h k
        = (h, k _ (target_within (to.Vector []) scope scope' w))
    boxed_formed scope scope' w (to.Vector (x ∷ [])) o b h k
        = (h, k _ (target_within (to.Vector (x ∷ [])) scope scope' w))
    boxed_formed scope scope' w (to.Vector (x ∷ y ∷ zs)) o b h k
        = (
          h,
          (
            (has_tag, zeros_formed (with_target (to.One y) scope') (length zs)),
            k _ (swapped_within x y zs scope scope' w),
          ),
        )

    bound_formed : (scope scope' : Scope) (w : Within scope scope') (q : Bool) (t : Target)
        (o : Act) (b : Code) → ActFormed after scope' o
        → ((s : Scope) → Within (with_target t scope) s → CodeFormed after s b)
        → CodeFormed after scope' (bound q t o b)
    unfolding ActFormed
    bound_formed scope scope' w true t o b h k = boxed_formed scope scope' w t o b h k
    bound_formed scope scope' w false t o b h k =
        (h, k (with_target t scope') (target_within t scope scope' w))

    mutual
      unfolding unbox_act ActFormed

      act_formed : (scope scope' : Scope) (w : Within scope scope') (bare : Bool) (o : Act)
          → ActFormed p scope o → ActFormed after scope' (unbox_act M bare o)
      act_formed scope scope' w bare (case v as') h
          = (
            val_stays p procs same_count scope scope' w v h.0,
            arms_formed scope scope' w bare as' h.1,
          )
      act_formed scope scope' w bare (nested b) h = code_formed scope scope' w bare b h
      act_formed scope scope' w bare (leaf (update a v)) h
          = (
            word_stays p procs same_count scope scope' w a h.0,
            val_stays p procs same_count scope scope' w v h.1,
          )
      act_formed scope scope' w bare (leaf (unit v)) h
          = given_formed scope' bare v (val_stays p procs same_count scope scope' w v h)
      act_formed scope scope' w bare (leaf (fetch a)) h
          = word_stays p procs same_count scope scope' w a h
      act_formed scope scope' w bare (leaf (fetch_word a i)) h
          = word_stays p procs same_count scope scope' w a h
      act_formed scope scope' w bare (leaf (eval a)) h
          = word_stays p procs same_count scope scope' w a h
      act_formed scope scope' w bare (leaf (apply v a)) h
          = (
            val_stays p procs same_count scope scope' w v h.0,
            word_stays p procs same_count scope scope' w a h.1,
          )
      act_formed scope scope' w bare (leaf (call f ws)) h
          = (
            known_again p procs same_count f h.0,
            words_stay p procs same_count scope scope' w ws
                h.1,
          )
      act_formed scope scope' w bare (leaf (prim f a b)) h
          = (
            word_stays p procs same_count scope scope' w a h.0,
            word_stays p procs same_count scope scope' w b h.1,
          )
      act_formed scope scope' w bare (leaf read) h = h
      act_formed scope scope' w bare (leaf (write a)) h
          = word_stays p procs same_count scope scope' w a h
      act_formed scope scope' w bare (leaf fail) h = h

      code_formed : (scope scope' : Scope) (w : Within scope scope') (bare : Bool) (b : Code)
          → CodeFormed p scope b → CodeFormed after scope' (unbox_code M bare b)
      code_formed scope scope' w bare (end o) h = act_formed scope scope' w bare o h
      code_formed scope scope' w bare (store cs b) h = (
        cells_stay p procs same_count (with_word_variables (cell_vars cs) scope)
            (with_word_variables (cell_vars cs) scope') (words_within (cell_vars cs) scope scope' w)
            cs h.0,
        code_formed (with_word_variables (cell_vars cs) scope)
            (with_word_variables (cell_vars cs) scope') (words_within (cell_vars cs) scope scope' w)
            bare b h.1,
      )
      code_formed scope scope' w bare (bind t o b) h =
          bound_formed scope scope' w (act_calls M o) t (unbox_act M (act_calls M o) o)
          (unbox_code M bare b) (act_formed scope scope' w (act_calls M o) o h.0)
          (λ s u. code_formed (with_target t scope) s u bare b h.1)

      arms_formed : (scope scope' : Scope) (w : Within scope scope') (bare : Bool) (as' : Arms)
          → ArmsFormed p scope as' → ArmsFormed after scope' (unbox_arms M bare as')
      arms_formed scope scope' w bare no_arm h = tt
      arms_formed scope scope' w bare (arm s b as') h
          = (
            shape_stays p procs same_count s h.0,
            code_formed
                (with_word_variables (shape_vars s) scope) (with_word_variables (shape_vars s) scope')
                (words_within (shape_vars s) scope scope' w) bare b h.1,
            arms_formed scope scope' w bare as' h.2,
          )

    bodies_formed : (f : ℕ) (qs : List Procedure) → AllOf (ProcedureFormed p) qs
        → AllOf (ProcedureFormed after) (unboxed_from M f qs)
    bodies_formed f [] h = tt
    bodies_formed f (q ∷ qs) h = (
      code_formed (params_scope q) (params_scope q) (within_self (params_scope q)) (M f) q.body
          h.0,
      bodies_formed (suc f) qs h.1,
    )

  -- the procedure with a number has the same parameters
  same_params : (f : ℕ) (qs : List Procedure) (i : ℕ) (q : Procedure) → slice_get qs i ≡ Some q
      → (r : Procedure) × ((slice_get (unboxed_from M f qs) i ≡ Some r) × (r.params ≡ q.params))
  same_params f [] i q e = cc
  same_params f (p ∷ qs) zero q e = let same : p ≡ q = cc
      in (unboxed_procedure M f p, (refl, ap (λ p. p.params) same))
  same_params f (p ∷ qs) (suc i) q e = same_params (suc f) qs i q e

  first_below : (ts : List Tag) (t : Tag) → slice_get ts 0 ≡ Some t → 0 < length ts
  first_below [] t e = cc
  first_below (y ∷ ts) t e = omega arith

  pub unboxed_formed : (g : Program) → Formed g → Formed (unboxed M g)
  unboxed_formed g f =
      let procs : List Procedure = unboxed_from M 0 g.procs in
      let count : length procs ≡ length g.procs = as_many 0 g.procs in
      let s : (r : Procedure) ×
      ((slice_get procs g.start.0 ≡ Some r) × (r.params ≡ f.start.0.params))
      = same_params 0 g.procs g.start.0 f.start.0 f.start.1 in
      formed_with g procs count f
      (λ x. subst (λ n. n ≤ 1) (sym (procs_times M x 0 g.procs)) (f.variables_once x))
      (same_sites g procs count (sites_stay 0 g.procs) f.sites_once)
      (bodies_formed g procs count (first_below g.tags f.number_tag.0 f.number_tag.1) 0 g.procs
      f.procedures) (s.0, (s.1.0, ap length s.1.1 ∙ f.start.2))

  pub unboxed_outside : (g : Program) → DifferOnlyInBodies g (unboxed M g)
  unboxed_outside g = record {
    same_tags = refl;
    same_globals = refl;
    same_start = refl;
    same_argument = refl;
    same_names
        = names_stay 0 g.procs;
  }
