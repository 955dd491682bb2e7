-- The block of a form does what the form does.
use Rattle.std.proofs.Common.{◌≡◌, ◌≢◌, ℕ, suc, ◌+◌, ◌≤◌, ℤ, true, false, List, [], ◌∷◌, map, length, Some, refl, sym, ◌∙◌, arith}
use Rattle.std.proofs.lemmas.Bool.{eq-eqb}
use Rattle.std.proofs.lemmas.List.{length-map}
use Rattle.seq.proofs.Order.{eq_false}
use Rattle.seq.proofs.Truth.{not_both}
use Rattle.arity_check.specs.declared.normal.Var.{Var}
use Rattle.arity_check.specs.declared.normal.Flat.{Flat}
use Rattle.arity_check.specs.declared.normal.Flat.TheVariants as flat
use Rattle.arity_check.specs.declared.normal.PrimOp.{PrimOp}
use Rattle.arity_check.specs.declared.normal.PrimOp.TheVariants.{Add, Sub, Mul, Quot, Rem, Eq, Lt}
use Rattle.arity_check.specs.Program.{Program}
use Rattle.core_meaning.specs.Heap as core
use Rattle.core_meaning.specs.Heap.{Value, Int, Con, Part, Call, Apply, Prim}
use Rattle.core_meaning.specs.Numbers.{primitive_result}
use Rattle.core_meaning.specs.Evaluation as core'
use Rattle.core_meaning.specs.Evaluation.{State, Gives, DelayedEvaluator, and_then, with_number, name, names, force, give_all, apply, prim, form}
use Rattle.grin_syntax.specs.declared.program.VarId.{VarId}
use Rattle.grin_syntax.specs.declared.program.Word.TheVariants as word
use Rattle.grin_syntax.specs.Tree.{Code, bind, end, leaf, unit}
use Rattle.grin_syntax.specs.declared.program.Val.TheVariants as val
use Rattle.grin_syntax.specs.declared.program.Target.TheVariants as to
use Rattle.grin_syntax.specs.Tree as tree
use Rattle.grin_meaning.specs.Values.{number, Node, node, words, World, Env, with_vars}
use Rattle.grin_meaning.specs.Values as grin
use Rattle.grin_meaning.specs.Run.{Calls, act, code, arithmetic, with_state_seen}
use Rattle.grin_translate.specs.declared.tags.Delay.{Delay}
use Rattle.grin_translate.specs.declared.tags.Kind.TheVariants.{Number, Constructor}
use Rattle.grin_translate.specs.Tags.{tag, is_delayed}
use Rattle.grin_translate.specs.Blocks.{operation, temp, on_number, give_block, apply_block, prim_block, form_block}
use Rattle.grin_translate.specs.Blocks as blocks
use Rattle.grin_translate.specs.Translation.{tr}
use Rattle.grin_translate.specs.WellFormed.{AllOf, VarOk, FormOk}
use Rattle.grin_translate.proofs.Found.{has_number, tags_tell}
use Rattle.grin_translate.proofs.Alike.{value_kind, value_node, IsValue, Alike, alike_passing, Match, both_give, none_accepts, match_then, match_less}
use Rattle.grin_translate.proofs.Forcing.{CallsMatch, kind_there, value_made, force_match, give_match}
use Rattle.grin_translate.proofs.Scoping.{Knows, knows_later, knows_temp, word_known, name_below, words_known, names_below, value_known, binding_good}

same_arithmetic : (op : PrimOp) (i j : ℤ) → primitive_result op i j ≡ arithmetic (operation op) i j
same_arithmetic Add i j = refl
same_arithmetic Sub i j = refl
same_arithmetic Mul i j = refl
same_arithmetic Quot i j = refl
same_arithmetic Rem i j = refl
same_arithmetic Eq i j = refl
same_arithmetic Lt i j = refl

module _ (p : Program) (o : DelayedEvaluator) (c : Calls) (on : CallsMatch p o c) (base : ℕ) where
  pub temp_itself : (t : ℕ) (v : grin.Value) (genv : Env)
      → with_vars (((temp p base t).0, v) ∷ []) genv (temp p base t).0 ≡ Some v
  temp_itself t v genv = rw (eq-eqb (temp p base t).0 (temp p base t).0 refl) refl

  pub temp_other : (t u : ℕ) → t ≢ u → (v : grin.Value) (genv : Env)
      → with_vars (((temp p base u).0, v) ∷ []) genv (temp p base t).0 ≡ genv (temp p base t).0
  temp_other t u ne v genv = let ne' : (temp p base t).0 ≢ (temp p base u).0
      = λ e. ne (omega (arith, e)) in rw (eq_false (temp p base t).0 (temp p base u).0 ne') refl

  -- where a value is a number
  pub number_match : (n : ℕ) (out : List ℕ) (s : State) (w : World) (val : Value) (genv : Env)
      (v i : VarId) (d : ℕ) (b : Code) (go : ℤ → core'.Answer) → Alike p out s w
      → IsValue p (length s.heap) val → genv v.0 ≡ Some (node (value_node p val))
      → ((k : ℤ) → Match p n out (go k)
      (code (tr p) c (with_vars ((i.0, words (number k ∷ [])) ∷ []) genv) d b
      (with_state_seen (with_vars ((i.0, words (number k ∷ [])) ∷ []) genv) w)))
      → Match p n out (with_number val s go) (code (tr p) c genv d (on_number p base v i b) w)
  unfolding act
  number_match n out s w (Int k) genv v i d b go al g at h
      = rw (at, tags_tell p Number Number (has_number p) (has_number p)) (h k)
  number_match n out s w (Con x xs) genv v i d b go al g at h
      = rw (
        at,
        tags_tell p (Constructor x) Number (kind_there p (length s.heap) (Con x xs) g)
            (has_number p),
      ) (none_accepts (alike_passing p out s w genv al))
  number_match n out s w (Part f xs) genv v i d b go al g at h
      = rw (
        at,
        tags_tell p (value_kind p (Part f xs)) Number
            (kind_there p (length s.heap) (Part f xs) g) (has_number p),
      )
      (none_accepts (alike_passing p out s w genv al))

  abbrev last_block : ℕ → PrimOp → Code
  last_block t op = bind (to.One (temp p base (t + 4)))
      (tree.leaf
      (tree.prim (operation op) (word.Var (temp p base (t + 1))) (word.Var (temp p base (t + 3)))))
      (end (leaf (unit (val.Node (tag p Number) (word.Var (temp p base (t + 4)) ∷ [])))))

  abbrev second_block : ℕ → PrimOp → Var → Code
  second_block t op y = bind (to.Node (temp p base (t + 2)))
      (tree.leaf (tree.eval (blocks.word p base y)))
      (on_number p base (temp p base (t + 2)) (temp p base (t + 3)) (last_block t op))

  -- what is done with two numbers
  last_match : (n : ℕ) (out : List ℕ) (s : State) (w : World) (op : PrimOp) (i j : ℤ) (genv : Env)
      (t d : ℕ) → n ≤ length s.heap → Alike p out s w
      → genv (temp p base (t + 1)).0 ≡ Some (words (number i ∷ []))
      → genv (temp p base (t + 3)).0 ≡ Some (words (number j ∷ []))
      → Match p n out (Gives (Int (primitive_result op i j)) s)
      (code (tr p) c genv d (last_block t op) w)
  unfolding act
  last_match n out s w op i j genv t d le al e f =
      rw (
        e,
        f,
        eq-eqb (temp p base (t + 4)).0 (temp p base (t + 4)).0 refl,
        sym (same_arithmetic op i j),
        value_made p (length s.heap) (Int (primitive_result op i j))
            tt,
      )
      (both_give {v = Int (primitive_result op i j)} {s = s} le tt (alike_passing p out s w _ al))

  module _ (S : ℕ → Type 0) (env : core.Env) where
    abbrev K : ℕ → Env → Type 0
    K n genv = Knows p base S n env genv

    give_all_match : (xs : List Var) (x : Var) (val : Value) (t d : ℕ) (v : VarId) (out : List ℕ)
        (s : State) (w : World) (genv : Env) → Alike p out s w → K (length s.heap) genv
        → VarOk p S x → AllOf (VarOk p S) xs
        → IsValue p (length s.heap) val → genv v.0 ≡ Some (node (value_node p val))
        → Match p (length s.heap) out (give_all p o val (name p env x ∷ names p env xs) d s)
        (code (tr p) c genv d
        (give_block p base t v (blocks.word p base x) (map (blocks.word p base) xs)) w)
    unfolding act
    give_all_match [] x val t d v out s w genv al k hx hs g at =
        rw (at, word_known p base S (length s.heap) env genv k al.room x hx)
        (give_match p o c on val (name p env x) d out s w al g
        (name_below p base S (length s.heap) env genv k al.room x hx))
    give_all_match (y ∷ ys) x val t d v out s w genv al k hx hs g at =
        rw (at, word_known p base S (length s.heap) env genv k al.room x hx)
        (match_then p (λ u s. give_all p o u (name p env y ∷ names p env ys) d s) _
        (give_match p o c on val (name p env x) (suc d) out s w al g
        (name_below p base S (length s.heap) env genv k al.room x hx))
        (λ u s' w' le g' al'. match_less p le
        (give_all_match ys y u (suc t) d (temp p base t) out s' _ _
        (alike_passing p out s' w' _ al')
        (knows_temp p base t (node (value_node p u)) (knows_later p base le k)) hs.0 hs.1 g'
        (temp_itself t _ genv))))

    pub apply_match : (x : Var) (xs : List Var) (t d : ℕ) (out : List ℕ) (s : State) (w : World)
        (genv : Env) → Alike p out s w → K (length s.heap) genv → VarOk p S x → AllOf (VarOk p S) xs
        → Match p (length s.heap) out (apply p o (name p env x) (names p env xs) d s)
        (code (tr p) c genv d
        (apply_block p base t (blocks.word p base x) (map (blocks.word p base) xs)) w)
    unfolding act
    apply_match x [] t d out s w genv al k hx hs =
        rw (word_known p base S (length s.heap) env genv k al.room x hx)
        (force_match p o c on (name p env x) d out s w al
        (name_below p base S (length s.heap) env genv k al.room x hx))
    apply_match x (y ∷ ys) t d out s w genv al k hx hs =
        rw (word_known p base S (length s.heap) env genv k al.room x hx)
        (match_then p (λ u s. give_all p o u (name p env y ∷ names p env ys) d s) _
        (force_match p o c on (name p env x) (suc d) out s w al
        (name_below p base S (length s.heap) env genv k al.room x hx))
        (λ u s' w' le g' al'. match_less p le
        (give_all_match ys y u (suc t) d (temp p base t) out s' _ _
        (alike_passing p out s' w' _ al')
        (knows_temp p base t (node (value_node p u)) (knows_later p base le k)) hs.0 hs.1 g'
        (temp_itself t _ genv))))

    -- the second operand
    second : (op : PrimOp) (i : ℤ) (y : Var) (t d : ℕ) (out : List ℕ) (n : ℕ) (s : State)
        (w : World) (genv : Env) → n ≤ length s.heap → Alike p out s w → K (length s.heap) genv
        → VarOk p S y
        → Match p n out
        (and_then (force p o (name p env y) (suc d) s)
        (λ v s. with_number v s (λ j. Gives (Int (primitive_result op i j)) s)))
        (code (tr p) c (with_vars (((temp p base (t + 1)).0, words (number i ∷ [])) ∷ []) genv) d
        (second_block t op y)
        (with_state_seen (with_vars (((temp p base (t + 1)).0, words (number i ∷ [])) ∷ []) genv)
        w))
    unfolding act
    second op i y t d out n s w genv le al k hy =
        let genv1 : Env = with_vars (((temp p base (t + 1)).0, words (number i ∷ [])) ∷ []) genv in
        let k1 : K (length s.heap) genv1 = knows_temp p base (t + 1) (words (number i ∷ [])) k in
        let al1 : Alike p out s (with_state_seen genv1 w) = alike_passing p out s w genv1 al in
        rw (word_known p base S (length s.heap) env genv1 k1 al.room y hy)
        (match_less p le
        (match_then p _ _
        (force_match p o c on (name p env y) (suc d) out s (with_state_seen genv1 w) al1
        (name_below p base S (length s.heap) env genv1 k1 al.room y hy))
        (λ u s2 w2 le2 g2 al2.
        let genv2 : Env = with_vars (((temp p base (t + 2)).0, node (value_node p u)) ∷ []) genv1 in
        let al3 : Alike p out s2 (with_state_seen genv2 w2) = alike_passing p out s2 w2 genv2 al2 in
        number_match (length s.heap) out s2 (with_state_seen genv2 w2) u genv2 (temp p base (t + 2))
        (temp p base (t + 3)) d (last_block t op) _ al3 g2 (temp_itself (t + 2) _ genv1)
        (λ j. let genv3 : Env = with_vars (((temp p base (t + 3)).0, words (number j ∷ [])) ∷ [])
        genv2 in
        last_match (length s.heap) out s2 (with_state_seen genv3 (with_state_seen genv2 w2)) op i j
        genv3 t d le2 (alike_passing p out s2 _ genv3 al3)
        (temp_other (t + 1) (t + 3) (λ e. omega (arith, e)) _ genv2 ∙ temp_other (t + 1) (t + 2)
        (λ e. omega (arith, e)) _ genv1 ∙ temp_itself (t + 1) _ genv)
        (temp_itself (t + 3) _ genv2)))))

    pub prim_match : (op : PrimOp) (x y : Var) (t d : ℕ) (out : List ℕ) (s : State) (w : World)
        (genv : Env) → Alike p out s w → K (length s.heap) genv → VarOk p S x → VarOk p S y
        → Match p (length s.heap) out (prim p o op (name p env x) (name p env y) d s)
        (code (tr p) c genv d
        (prim_block p base t op (blocks.word p base x) (blocks.word p base y)) w)
    unfolding act
    prim_match op x y t d out s w genv al k hx hy =
        rw (word_known p base S (length s.heap) env genv k al.room x hx)
        (match_then p _ _
        (force_match p o c on (name p env x) (suc d) out s w al
        (name_below p base S (length s.heap) env genv k al.room x hx))
        (λ u s1 w1 le1 g1 al1.
        let genv1 : Env = with_vars (((temp p base t).0, node (value_node p u)) ∷ []) genv in
        let k1 : K (length s1.heap) genv1 = knows_temp p base t (node (value_node p u))
        (knows_later p base le1 k) in
        number_match (length s.heap) out s1 (with_state_seen genv1 w1) u genv1 (temp p base t)
        (temp p base (t + 1)) d (second_block t op y) _ (alike_passing p out s1 w1 genv1 al1) g1
        (temp_itself t _ genv)
        (λ i. second op i y t d out (length s.heap) s1 (with_state_seen genv1 w1) genv1 le1
        (alike_passing p out s1 w1 genv1 al1) k1 hy)))

    nothing_waits : (d : Delay) → false ≡ true → is_delayed p d ≡ true
    nothing_waits d e = not_both false e refl

    pub form_match : (f : Flat) (t d : ℕ) (out : List ℕ) (s : State) (w : World) (genv : Env)
        → Alike p out s w → K (length s.heap) genv → FormOk p S f
        → Match p (length s.heap) out (form p o env f d s)
        (code (tr p) c genv d (form_block p base t f) w)
    unfolding act
    form_match (flat.Int i) t d out s w genv al k h
        = rw (value_made p (length s.heap) (Int i) tt)
        (both_give {v = Int i} {s = s} (omega arith) tt al)
    form_match (flat.Con x xs) t d out s w genv al k h =
        rw (value_known p base S (length s.heap) env genv k al.room (flat.Con x xs) h nothing_waits)
        (both_give {v = Con x (names p env xs)} {s = s} (omega arith)
        (binding_good p base S (length s.heap) env genv k al.room (flat.Con x xs) h
        nothing_waits) al)
    form_match (flat.Part f xs) t d out s w genv al k h =
        rw (value_known p base S (length s.heap) env genv k al.room (flat.Part f xs) h
        nothing_waits)
        (both_give {v = Part f (names p env xs)} {s = s} (omega arith)
        (binding_good p base S (length s.heap) env genv k al.room (flat.Part f xs) h
        nothing_waits) al)
    form_match (flat.Call f xs) t d out s w genv al k h =
        rw (words_known p base S (length s.heap) env genv k al.room xs h.1)
        (on.by (Call f (names p env xs)) d out s w al (
          (h.0.0, h.0.1, h.0.2 ∙ sym (length-map xs (name p env))),
          names_below p base S (length s.heap) env genv k al.room xs h.1,
        ))
    form_match (flat.Apply x xs) t d out s w genv al k h
        = apply_match x xs t d out s w genv al k h.1 h.2
    form_match (flat.Prim op x y) t d out s w genv al k h
        = prim_match op x y t d out s w genv al k h.0 h.1
