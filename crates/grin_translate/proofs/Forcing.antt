-- Forcing a name is evaluating its cell, and giving a value a name is applying its node.
use Rattle.std.proofs.Common.{◌≡◌, ℕ, zero, suc, ◌+◌, ◌-◌, ◌≤◌, ◌<◌, Bool, true, false, nat_lt, List, [], ◌∷◌, ◌++◌, map, length, Some, slice_get, slice_set, refl, sym, ap, ◌∙◌, subst, arith, length-append}
use Rattle.std.proofs.lemmas.Bool.{lt-ltb, ltb-true, eq-eqb}
use Rattle.std.proofs.lemmas.List.{length-set, length-map, map-append}
use Rattle.seq.proofs.Lists.{all_push}
use Rattle.arity_check.specs.Program.{Program, Function}
use Rattle.core_meaning.specs.Heap.{Value, Int, Con, Part, Delayed, Call, Apply, Prim, Global, Input, Binding, Known, Waiting}
use Rattle.core_meaning.specs.Evaluation.{State, Gives, DelayedEvaluator, update, params, params_of, force_binding, force, give}
use Rattle.grin_meaning.specs.Values.{Datum, cell, node, World, need, made_node}
use Rattle.grin_meaning.specs.Run.{Calls, eval_cell, eval_tag, updated, is_fun_kind, apply_node, apply_part}
use Rattle.grin_translate.specs.declared.tags.Kind.{Kind}
use Rattle.grin_translate.specs.declared.tags.Kind.TheVariants.{Waits, Lacks}
use Rattle.grin_translate.specs.Tags.{delays, kinds, tag, tag_of, con_tag, proc, delay_params}
use Rattle.grin_translate.specs.declared.tags.Delay.TheVariants as tags
use Rattle.grin_translate.specs.Translation.{tr}
use Rattle.grin_translate.proofs.Places.{Has}
use Rattle.grin_translate.proofs.Found.{has_calls, has_number, has_constructor, has_waits, has_lacks, tag_found, part_found}
use Rattle.grin_translate.proofs.Alike.{value_kind, value_fields, value_node, delay_of, args_of, binding_node, Names, IsValue, IsDelayed, IsBinding, At, heaps_at, Alike, alike_update, Match, both_give, none_accepts, match_then}

module _ (p : Program) where
  pub params_are : (f : ℕ) (fun : Function) → slice_get p.funs f ≡ Some fun
      → params p f ≡ fun.params
  params_are f fun e = ap (params_of p) e

  pub kind_there : (n : ℕ) (v : Value) → IsValue p n v → Has (value_kind p v) (kinds p)
  kind_there n (Int k) g = has_number p
  kind_there n (Con c xs) g = has_constructor p c (length xs) g.0
  kind_there n (Part f xs) g =
      let fun : Function = g.0.0 in
      let is : slice_get p.funs f ≡ Some fun = g.0.1 in
      let many : params p f ≡ fun.params = params_are f fun is in
      let lt : length xs < fun.params = g.0.2 in
      let r : params p f - length xs ≡ suc (fun.params - suc (length xs)) = omega (arith, many, lt)
      in
      subst (λ k. Has (Lacks f k) (kinds p)) (sym r)
      (has_lacks p f fun (fun.params - suc (length xs)) is (omega (arith, lt)))

  value_tag : (n : ℕ) (v : Value) → IsValue p n v → slice_get (map (tag_of p) (kinds p))
      (value_node p v).tag ≡ Some (tag_of p (value_kind p v))
  value_tag n v g = tag_found p (value_kind p v) (kind_there n v g)

  no_fun : (n : ℕ) (v : Value) → IsValue p n v → is_fun_kind (tag_of p (value_kind p v)).kind ≡
      false
  no_fun n (Int k) g = refl
  no_fun n (Con c xs) g = rw g.0.1 refl
  no_fun n (Part f xs) g = refl

  pub delay_there : (n : ℕ) (t : Delayed) → IsDelayed p n t → Has (delay_of p t) (delays p)
  delay_there n (Call f xs) g = has_calls p f g.0.0 g.0.1
  delay_there n (Apply a bs) g = g.0
  delay_there n (Prim op a b) g = g.0
  delay_there n (Global f) g = has_calls p f g.0 g.1
  delay_there n Input g = g

  -- ---- nodes have as many words as their tags have fields

  made : (k : Kind) (ds : List Datum) → Has k (kinds p) → (tag_of p k).fields ≡ length ds
      → made_node (tr p) (tag p k).0 ds ≡ Some (record { tag = (tag p k).0; fields = ds })
  made k ds h e = rw (tag_found p k h, eq-eqb (tag_of p k).fields (length ds) e) refl

  value_many : (n : ℕ) (v : Value) → IsValue p n v → (tag_of p (value_kind p v)).fields ≡ length
      (value_fields p v)
  value_many n (Int k) g = refl
  value_many n (Con c xs) g = ap (λ o. (con_tag o).fields) g.0.1 ∙ g.0.2 ∙ sym (length-map xs cell)
  value_many n (Part f xs) g =
      let fun : Function = g.0.0 in
      let is : slice_get p.funs f ≡ Some fun = g.0.1 in
      let less : length xs < fun.params = g.0.2 in
      omega (arith, less, params_are f fun is, length-map xs cell)

  pub value_made : (n : ℕ) (v : Value) → IsValue p n v
      → made_node (tr p) (value_node p v).tag (value_node p v).fields ≡ Some (value_node p v)
  value_made n v g = made (value_kind p v) (value_fields p v) (kind_there n v g) (value_many n v g)

  delayed_many : (n : ℕ) (t : Delayed) → IsDelayed p n t
      → delay_params p (delay_of p t) ≡ length (args_of p t)
  delayed_many n (Call f xs) g = params_are f g.0.0 g.0.1 ∙ g.0.2 ∙ sym (length-map xs cell)
  delayed_many n (Apply a bs) g = ap suc (sym (length-map bs cell))
  delayed_many n (Prim op a b) g = refl
  delayed_many n (Global f) g = params_are f g.0 g.1 ∙ g.2
  delayed_many n Input g = refl

  pub delayed_made : (n : ℕ) (t : Delayed) → IsDelayed p n t
      → made_node (tr p) (binding_node p (Waiting t)).tag (binding_node p (Waiting t)).fields ≡ Some
      (binding_node p (Waiting t))
  delayed_made n t g = made (Waits (delay_of p t)) (args_of p t)
      (has_waits p (delay_of p t) (delay_there n t g)) (delayed_many n t g)

  pub binding_made : (n : ℕ) (b : Binding) → IsBinding p n b
      → made_node (tr p) (binding_node p b).tag (binding_node p b).fields ≡ Some (binding_node p b)
  binding_made n (Known v) g = value_made n v g
  binding_made n (Waiting t) g = delayed_made n t g

  -- what a delayed form does, its procedure does
  pub record CallsMatch (o : DelayedEvaluator) (c : Calls) : Type 0 where
    pub by : (t : Delayed) (d : ℕ) (out : List ℕ) (s : State) (w : World) → Alike p out s w
        → IsDelayed p (length s.heap) t → Match p (length s.heap) out (o t d s)
        (c (proc p (delay_of p t)).0 (args_of p t) d w)

  module _ (o : DelayedEvaluator) (c : Calls) (on : CallsMatch o c) where
    updated_match : (n a : ℕ) (v : Value) (out : List ℕ) (s : State) (w : World) → n ≤ length s.heap
        → a < n → IsValue p (length s.heap) v → Alike p out s w
        → Match p n out (Gives v (update s a v)) (updated (tr p) c a (node (value_node p v)) w)
    updated_match n a v out s w le lt g al =
        let i : At p (length s.heap) s.heap w.cells a
        = heaps_at p (length s.heap) s.heap w.cells a al.heaps (omega (arith, le, lt)) in
        let long : length (slice_set s.heap a (Known v)) ≡ length s.heap
        = length-set s.heap a (Known v) in
        rw (i.is_place, value_tag (length s.heap) v g, no_fun (length s.heap) v g)
        (both_give {v = v} {s = update s a v} (omega (arith, le, long))
        (subst (λ k. IsValue p k v) (sym long) g) (alike_update p out s w a v i.place al g))

    binding_match : (b : Binding) (a d : ℕ) (out : List ℕ) (s : State) (w : World) → Alike p out s w
        → a < length s.heap → IsBinding p (length s.heap) b
        → Match p (length s.heap) out (force_binding p o (Some b) a d s)
        (need (slice_get (map (tag_of p) (kinds p)) (binding_node p b).tag) w
        (λ t. eval_tag (tr p) c d a (binding_node p b) t w))
    binding_match (Known v) a d out s w al lt g =
        rw (value_tag (length s.heap) v g, no_fun (length s.heap) v g)
        (both_give {v = v} {s = s} (omega arith) g al)
    binding_match (Waiting t) a d out s w al lt g =
        rw (tag_found p (Waits (delay_of p t))
        (has_waits p (delay_of p t) (delay_there (length s.heap) t g)))
        (match_then p (λ v s. Gives v (update s a v)) (updated (tr p) c a)
        (on.by t (suc d) out s w al g)
        (λ v s' w' le g' al'. updated_match (length s.heap) a v out s' w' le lt g' al'))

    -- force a at d, and eval of the cell a at d
    pub force_match : (a d : ℕ) (out : List ℕ) (s : State) (w : World) → Alike p out s w
        → a < length s.heap → Match p (length s.heap) out (force p o a d s)
        (eval_cell (tr p) c d a w)
    force_match a d out s w al lt =
        let i : At p (length s.heap) s.heap w.cells a
        = heaps_at p (length s.heap) s.heap w.cells a al.heaps lt in
        rw (i.is_binding, i.is_place, i.same) (binding_match i.binding a d out s w al lt i.good)

    part_match : (r f : ℕ) (xs : List ℕ) (b d : ℕ) (out : List ℕ) (s : State) (w : World)
        (fun : Function) → Alike p out s w → slice_get p.funs f ≡ Some fun
        → params p f ≡ suc (length xs + r) → Names p (length s.heap) xs → b < length s.heap
        → Match p (length s.heap) out (give p o (Part f xs) b d s)
        (apply_part (tr p) c d (value_node p (Part f xs)) (cell b) (proc p (tags.Calls f)).0
        (suc r) w)
    part_match zero f xs b d out s w fun al is many g lt =
        let long : length (xs ++ b ∷ []) ≡ suc (length xs)
        = omega (arith, length-append xs (b ∷ [])) in
        let full : fun.params ≡ length (xs ++ b ∷ [])
        = omega (arith, many, params_are f fun is, long) in
        rw (
          not_less (suc (length xs)) (params p f) (omega (arith, many)),
          sym (map-append cell xs (b ∷ [])),
        )
        (on.by (Call f (xs ++ b ∷ [])) d out s w al ((fun, is, full), all_push _ xs b g lt))
      where
        not_less : (m n : ℕ) → n ≤ m → nat_lt m n ≡ false
        not_less m n le = by_test (nat_lt m n) refl
          where
            by_test : (x : Bool) → nat_lt m n ≡ x → x ≡ false
            by_test true e = let lt : m < n = ltb-true m n e in absurd (omega (arith, lt, le))
            by_test false e = refl
    part_match (suc r) f xs b d out s w fun al is many g lt =
        let long : length (xs ++ b ∷ []) ≡ suc (length xs)
        = omega (arith, length-append xs (b ∷ [])) in
        let less : length (xs ++ b ∷ []) < fun.params
        = omega (arith, many, params_are f fun is, long) in
        let rest : params p f - length (xs ++ b ∷ []) ≡ suc r = omega (arith, many, long) in
        rw (
          lt-ltb (suc (length xs)) (params p f) (omega (arith, many)),
          part_found p f fun r is (omega (arith, many, params_are f fun is)),
          sym (map-append cell xs (b ∷ [])),
          sym rest,
          value_made (length s.heap) (Part f (xs ++ b ∷ []))
              ((fun, is, less), all_push _ xs b g lt),
        )
        (both_give {v = Part f (xs ++ b ∷ [])} {s = s} (omega arith)
        ((fun, is, less), all_push _ xs b g lt) al)

    -- a value is given b, and its node is applied to the cell b
    pub give_match : (v : Value) (b d : ℕ) (out : List ℕ) (s : State) (w : World) → Alike p out s w
        → IsValue p (length s.heap) v → b < length s.heap
        → Match p (length s.heap) out (give p o v b d s)
        (apply_node (tr p) c d (value_node p v) (cell b) w)
    give_match (Int k) b d out s w al g lt = rw (value_tag (length s.heap) (Int k) g)
        (none_accepts al)
    give_match (Con k xs) b d out s w al g lt = rw (value_tag (length s.heap) (Con k xs) g, g.0.1)
        (none_accepts al)
    give_match (Part f xs) b d out s w al g lt =
        let fun : Function = g.0.0 in
        let is : slice_get p.funs f ≡ Some fun = g.0.1 in
        let less : length xs < fun.params = g.0.2 in
        let many : params p f ≡ suc (length xs + (fun.params - suc (length xs)))
        = omega (arith, params_are f fun is, less) in
        let missing : params p f - length xs ≡ suc (fun.params - suc (length xs))
        = omega (arith, params_are f fun is, less) in
        rw (value_tag (length s.heap) (Part f xs) g)
        (subst (λ r. Match p (length s.heap) out (give p o (Part f xs) b d s)
        (apply_part (tr p) c d (value_node p (Part f xs)) (cell b) (proc p (tags.Calls f)).0 r
        w)) (sym missing)
        (part_match (fun.params - suc (length xs)) f xs b d out s w fun al is many g.1 lt))
