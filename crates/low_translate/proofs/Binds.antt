-- The variables of the translation: those of the program, and further numbers, each once; and how
-- many there are.
use Rattle.std.proofs.Common.{◌≡◌, ◌≤◌, ℕ, suc, ◌+◌, ◌-◌, min, Bool, true, false, List, [], ◌∷◌, ◌++◌, length, take, drop, refl, sym, ap, ◌∙◌, subst, arith, length-append}
use Rattle.grin_syntax.specs.declared.program.Target.{Target}
use Rattle.grin_syntax.specs.declared.program.Target.TheVariants as to
use Rattle.grin_syntax.specs.declared.program.Cell as C
use Rattle.grin_syntax.specs.declared.program.VarId.{VarId}
use Rattle.grin_syntax.specs.Binders.{numbers_of, target_vars, shape_vars, cell_vars, act_vars, code_vars, arms_vars, procedure_vars, procs_vars}
use Rattle.grin_syntax.specs.Tree as grin
use Rattle.grin_syntax.specs.Tree.{Act, leaf, unit, fetch, fetch_word, update, eval, apply, call, prim, read, write, case, nested, fail, end, store, bind, no_arm, arm}
use Rattle.grin_meaning.specs.Slim as slim
use Rattle.grin_meaning.specs.Slim.{target_weight, node_words, inner_words, code_words, arms_words, procedure_words}
use Rattle.low_code.specs.declared.program.Operand.{Operand}
use Rattle.low_code.specs.Tree as low
use Rattle.low_code.specs.Formed.{binds, arms_binds, variables, all_variables}
use Rattle.low_translate.specs.declared.blocks.Goal.{Goal}
use Rattle.low_translate.specs.Translation.{operand_of, operands_of, operands_of_words, operation_of, padded_to_width, variables_of, set_all, load_word, store_all, results_of, to_join, end_words, plain_numbers, through_numbers, plain_end_numbers, act_numbers, end_numbers, code_numbers, arms_numbers, plain_code, through, plain_end, act_code, end_code, code_code, arms_code, procedure_code, procedures_code, procedure_numbers}
use Rattle.low_translate.proofs.Numbered.{taken_times, taken_both, times_parts, length_parts, procs_numbers}
use Rattle.low_translate.proofs.Parts.{sets_binds, word_binds, loads_binds, first_binds, saves_binds, taken_binds, stores_binds}
use Rattle.seq.specs.Lists.{numbers_from, times}
use Rattle.seq.proofs.Counted.{length_numbers, times_append}

module _ (x : ℕ) where
  -- x is among these variables v times, but for k numbers from n on, and they are w at most
  pub record BindsAre (n k v w : ℕ) (xs : List ℕ) : Type 0 where
    pub once : times x xs ≤ v + taken_times x n k
    pub few : length xs ≤ w

  pub binds_none : (n k v w : ℕ) → BindsAre n k v w []
  binds_none n k v w = record { once = omega arith; few = omega arith }

  pub binds_as : (n n' k k' v v' w w' : ℕ) (xs : List ℕ) → n ≡ n' → k ≡ k' → v ≤ v' → w ≤ w'
      → BindsAre n k v w xs → BindsAre n' k' v' w' xs
  binds_as n n' k k' v v' w w' xs en ek ev ew h =
      let a = h.once in
      let b = h.few in
      let e : taken_times x n k ≡ taken_times x n' k' = (λ i. taken_times x (en i) (ek i)) in
      record { once = omega (arith, a, e, ev); few = omega (arith, b, ew) }

  pub binds_both : (n j k v u w z : ℕ) (xs ys : List ℕ) → BindsAre n j v w xs
      → BindsAre (n + j) k u z ys → BindsAre n (j + k) (v + u) (w + z) (xs ++ ys)
  binds_both n j k v u w z xs ys h f =
      let a = h.once in
      let b = f.once in
      let c = h.few in
      let d = f.few in
      let t = times_append x xs ys in
      let l = length-append xs ys in
      let q = taken_both x n j k in
      record { once = omega (arith, a, b, t, q); few = omega (arith, c, d, l) }

  -- variables of the program before others
  pub binds_more : (n k v w : ℕ) (xs ys : List ℕ) → BindsAre n k v w ys
      → BindsAre n k (times x xs + v) (length xs + w) (xs ++ ys)
  binds_more n k v w xs ys f =
      let b = f.once in
      let d = f.few in
      let t = times_append x xs ys in
      let l = length-append xs ys in
      record { once = omega (arith, b, t); few = omega (arith, d, l) }

  same : (n k v w : ℕ) (xs ys zs : List ℕ) → zs ≡ xs ++ ys → BindsAre (n + 0) k v w ys
      → BindsAre n (0 + k) (times x xs + v) (length xs + 0 + w) zs
  same n k v w xs ys zs e h = subst (BindsAre n (0 + k) (times x xs + v) (length xs + 0 + w))
      (sym e)
      (binds_as n n k (0 + k) (times x xs + v) (times x xs + v) (length xs + w) (length xs + 0 + w)
      (xs ++ ys) refl (omega arith) (omega arith) (omega arith)
      (binds_more n k v w xs ys
      (binds_as (n + 0) n k k v v w w ys (omega arith) refl (omega arith) (omega arith) h)))

  module _ (width : ℕ) (rs : List ℕ) where
    -- how many further variables the results of a call have
    abbrev pub unused : ℕ → Act → ℕ
    unused k (leaf (call f ws)) = results_of rs f.0 - k
    unused k _ = 0

    call_binds : (xs : List ℕ) (n k v w r : ℕ) (ys : List ℕ)
        → BindsAre (n + (1 + (r - length xs))) k v w ys
        → BindsAre n ((1 + (r - length xs)) + k) (times x xs + v) (length xs + (r - length xs) + w)
        ((take r xs ++ numbers_from (suc n) (r - length xs)) ++ (drop r xs ++ ys))
    call_binds xs n k v w r ys h =
        let m : ℕ = r - length xs in
        let new : List ℕ = numbers_from (suc n) m in
        let s : 1 + m ≡ suc m = omega arith in
        let first : taken_times x n (1 + m) ≡ taken_times x n (suc m) = ap (taken_times x n) s in
        let a = h.once in
        let b = h.few in
        let t1 = times_append x (take r xs ++ new) (drop r xs ++ ys) in
        let t2 = times_append x (take r xs) new in
        let t3 = times_append x (drop r xs) ys in
        let t4 = times_parts x r xs in
        let q = taken_both x n (1 + m) k in
        let l1 = length-append (take r xs ++ new) (drop r xs ++ ys) in
        let l2 = length-append (take r xs) new in
        let l3 = length-append (drop r xs) ys in
        let l4 = length_parts r xs in
        let l5 : length new ≡ m = length_numbers (suc n) m in
        record {
          once = omega (arith, first, a, t1, t2, t3, t4, q);
          few = omega (arith, b, l1, l2, l3, l4, l5);
        }

    plain_binds : (xs : List ℕ) (n k v w : ℕ) (o : Act) (c : low.Code)
        → BindsAre (n + plain_numbers width rs (length xs) o) k v w (binds c)
        → BindsAre n (plain_numbers width rs (length xs) o + k) (times x xs + v)
        (length xs + unused (length xs) o + w) (binds (plain_code width rs xs n o c))
    plain_binds xs n k v w (leaf (unit a)) c h = same n k v w xs (binds c) _
        (sets_binds xs (operands_of a) c) h
    plain_binds xs n k v w (leaf (fetch a)) c h = same n k v w xs (binds c) _
        (loads_binds width xs (operand_of a) 0 c) h
    plain_binds xs n k v w (leaf (fetch_word a i)) c h
        = same n k v w xs (binds c) _
        (first_binds xs (λ y. load_word width y (operand_of a) i) c
        (λ y b. word_binds width y (operand_of a) i b)) h
    plain_binds xs n k v w (leaf (update a b)) c h = same n k v w xs (binds c) _
        (saves_binds (operand_of a) 0 (padded_to_width width (operands_of b)) (set_all xs [] c) ∙
        sets_binds xs [] c) h
    plain_binds xs n k v w (leaf (call f ws)) c h =
        let r : ℕ = results_of rs f.0 in
        subst (λ l. BindsAre n ((1 + (r - length xs)) + k) (times x xs + v)
        (length xs + (r - length xs) + w)
        ((take r xs ++ numbers_from (suc n) (r - length xs)) ++ l))
        (sym (sets_binds (drop r xs) [] c)) (call_binds xs n k v w r (binds c) h)
    plain_binds xs n k v w (leaf (prim f a b)) c h = same n k v w xs (binds c) _
        (first_binds xs (λ y. low.prim (operation_of f) y (operand_of a) (operand_of b)) c
        (λ y e. refl)) h
    plain_binds xs n k v w (leaf read) c h = same n k v w xs (binds c) _
        (first_binds xs (λ y. low.get y) c (λ y e. refl)) h
    plain_binds xs n k v w (leaf (write a)) c h = same n k v w xs (binds c) _ (sets_binds xs [] c) h
    plain_binds xs n k v w (leaf (eval a)) c h = same n k v w xs (binds c) _ refl h
    plain_binds xs n k v w (leaf (apply a b)) c h = same n k v w xs (binds c) _ refl h
    plain_binds xs n k v w (case a as') c h = same n k v w xs (binds c) _ refl h
    plain_binds xs n k v w (nested b) c h = same n k v w xs (binds c) _ refl h
    plain_binds xs n k v w (leaf fail) c h = same n k v w xs (binds c) _ refl h

    through_binds : (goal : Goal) (n : ℕ) (o : Act)
        → BindsAre n (through_numbers width rs goal o) 0
        (end_words width rs goal.words o + unused (end_words width rs goal.words o) o)
        (binds (through width rs goal n o))
    through_binds goal n o =
        let e : ℕ = end_words width rs goal.words o in
        let xs : List ℕ = numbers_from n e in
        let many : length xs ≡ e = length_numbers n e in
        let body = plain_binds xs (n + e) 0 0 0 o
        (low.give (padded_to_width goal.words (variables_of xs)))
        (binds_none (n + e + plain_numbers width rs (length xs) o) 0 0 0) in
        let p : plain_numbers width rs (length xs) o ≡ plain_numbers width rs e o
        = ap (λ m. plain_numbers width rs m o) many in
        let u : unused (length xs) o ≡ unused e o = ap (λ m. unused m o) many in
        let k : plain_numbers width rs (length xs) o + 0 ≡ plain_numbers width rs e o
        = omega (arith, p) in
        let t : taken_times x (n + e) (plain_numbers width rs (length xs) o + 0) ≡ taken_times x
        (n + e) (plain_numbers width rs e o) = ap (taken_times x (n + e)) k in
        let a = body.once in
        let b = body.few in
        let q = taken_both x n e (plain_numbers width rs e o) in
        record { once = omega (arith, a, t, q); few = omega (arith, b, u, many) }

    module _ (few_results : (f : ℕ) → results_of rs f ≤ 13) (few_fields : width ≤ 14) where
      end_few : (k : ℕ) (o : Act) → end_words width rs k o + unused (end_words width rs k o) o ≤
          slim.end_words o
      end_few k (leaf (unit v)) = omega arith
      end_few k (leaf (fetch a)) = let h : min k width ≤ 14 = omega (arith, few_fields)
          in omega (arith, h)
      end_few k (leaf (fetch_word a i)) = omega arith
      end_few k (leaf (update a v)) = omega arith
      end_few k (leaf (eval a)) = omega arith
      end_few k (leaf (apply v a)) = omega arith
      end_few k (leaf (call f ws)) = let h = few_results f.0 in omega (arith, h)
      end_few k (leaf (prim f a b)) = omega arith
      end_few k (leaf read) = omega arith
      end_few k (leaf (write a)) = omega arith
      end_few k (case v as') = omega arith
      end_few k (nested b) = omega arith
      end_few k (leaf fail) = omega arith

      unused_few : (k : ℕ) (o : Act) → unused k o ≤ node_words o
      unused_few k (leaf (unit v)) = omega arith
      unused_few k (leaf (fetch a)) = omega arith
      unused_few k (leaf (fetch_word a i)) = omega arith
      unused_few k (leaf (update a v)) = omega arith
      unused_few k (leaf (eval a)) = omega arith
      unused_few k (leaf (apply v a)) = omega arith
      unused_few k (leaf (call f ws)) = let h = few_results f.0 in omega (arith, h)
      unused_few k (leaf (prim f a b)) = omega arith
      unused_few k (leaf read) = omega arith
      unused_few k (leaf (write a)) = omega arith
      unused_few k (case v as') = omega arith
      unused_few k (nested b) = omega arith
      unused_few k (leaf fail) = omega arith

      through_few : (goal : Goal) (n : ℕ) (o : Act)
          → BindsAre n (through_numbers width rs goal o) 0 (slim.end_words o)
          (binds (through width rs goal n o))
      through_few goal n o = binds_as n n _ _ 0 0 _ (slim.end_words o) _ refl refl (omega arith)
          (end_few goal.words o) (through_binds goal n o)

      plain_end_binds : (goal : Goal) (n : ℕ) (o : Act)
          → BindsAre n (plain_end_numbers width rs goal o) 0 (slim.end_words o)
          (binds (plain_end width rs goal n o))
      plain_end_binds goal n (leaf (unit v)) = binds_none n 0 0 1
      plain_end_binds goal n (leaf fail) = binds_none n 0 0 1
      plain_end_binds goal n (leaf (eval w)) = binds_none n 0 0 1
      plain_end_binds goal n (leaf (apply v w)) = binds_none n 0 0 1
      plain_end_binds goal n (leaf (call f ws)) = by goal.leaves
        where
          by : (b : Bool) → BindsAre n
              (elim b [ true ↦ 1 | false ↦ through_numbers width rs goal (leaf (call f ws)) ]) 0 14
              (binds (elim b [
                | true ↦ low.tail f.0 n (operands_of_words ws)
                | false ↦ through width rs goal n
                    (leaf (call f ws))
              ]))
          by true = binds_none n 1 0 14
          by false = through_few goal n (leaf (call f ws))
      plain_end_binds goal n (leaf (fetch a)) = through_few goal n (leaf (fetch a))
      plain_end_binds goal n (leaf (fetch_word a i)) = through_few goal n (leaf (fetch_word a i))
      plain_end_binds goal n (leaf (update a v)) = through_few goal n (leaf (update a v))
      plain_end_binds goal n (leaf (prim f a b)) = through_few goal n (leaf (prim f a b))
      plain_end_binds goal n (leaf read) = through_few goal n (leaf read)
      plain_end_binds goal n (leaf (write a)) = through_few goal n (leaf (write a))
      plain_end_binds goal n (case v as') = through_few goal n (case v as')
      plain_end_binds goal n (nested b) = through_few goal n (nested b)

      -- ---- all pieces

      plain_act : (xs : List ℕ) (n k v w : ℕ) (o : Act) (c : low.Code)
          → BindsAre (n + plain_numbers width rs (length xs) o) k v w (binds c)
          → BindsAre n (plain_numbers width rs (length xs) o + k) (times x xs + (0 + v))
          (length xs + node_words o + 0 + w) (binds (plain_code width rs xs n o c))
      plain_act xs n k v w o c h = let u = unused_few (length xs) o in
          binds_as n n _ _ (times x xs + v) _ (length xs + unused (length xs) o + w) _ _ refl refl
          (omega arith) (omega (arith, u)) (plain_binds xs n k v w o c h)

      plain_last : (goal : Goal) (n : ℕ) (o : Act) → BindsAre n (plain_end_numbers width rs goal o)
          0 (slim.end_words o + 0) (binds (plain_end width rs goal n o))
      plain_last goal n o = binds_as n n _ _ 0 0 (slim.end_words o) _ _ refl refl (omega arith)
          (omega arith) (plain_end_binds goal n o)

      target_few : (t : Target) → length (target_vars t) ≤ target_weight t
      target_few to.Nothing = omega arith
      target_few (to.Node y) = omega arith
      target_few (to.One y) = omega arith
      target_few (to.Vector ys) = let h = many ys in omega (arith, h)
        where
          many : (ys : List VarId) → length (numbers_of ys) ≡ length ys
          many [] = refl
          many (y ∷ ys) = ap suc (many ys)

      cells_many : (cs : List C.Cell) → length (cell_vars cs) ≡ length cs
      cells_many [] = refl
      cells_many (c ∷ cs) = ap suc (cells_many cs)

      joined : (n j k u v a w : ℕ) (xs ys zs : List ℕ) → BindsAre n j u a ys
          → BindsAre (n + j) k v w zs → BindsAre n (j + k) (times x xs + (u + v))
          (length xs + 0 + a + w) (ys ++ (xs ++ zs))
      joined n j k u v a w xs ys zs h f = binds_as n n _ _ (u + (times x xs + v)) _
          (a + (length xs + w)) _ _ refl refl (omega arith) (omega arith)
          (binds_both n j k u (times x xs + v) a (length xs + w) ys (xs ++ zs) h
          (binds_more (n + j) k v w xs zs f))

      mutual
        unfolding act_vars act_code act_numbers inner_words

        act_binds : (xs : List ℕ) (n k v w : ℕ) (o : Act) (c : low.Code)
            → BindsAre (n + act_numbers width rs (length xs) o) k v w (binds c)
            → BindsAre n (act_numbers width rs (length xs) o + k)
            (times x xs + (times x (act_vars o) + v))
            (length xs + node_words o + inner_words o + w) (binds (act_code width rs xs n o c))
        act_binds xs n k v w (case a as') c h = joined n (arms_numbers width rs (to_join xs) as') k
            (times x (arms_vars as')) v (arms_words as') w xs _ (binds c)
            (arms_are (to_join xs) n (operands_of a) as') h
        act_binds xs n k v w (nested b) c h = joined n (code_numbers width rs (to_join xs) b) k
            (times x (code_vars b)) v (code_words b) w xs _ (binds c) (code_binds (to_join xs) n b)
            h
        act_binds xs n k v w (leaf (unit a)) c h = plain_act xs n k v w (leaf (unit a)) c h
        act_binds xs n k v w (leaf (fetch a)) c h = plain_act xs n k v w (leaf (fetch a)) c h
        act_binds xs n k v w (leaf (fetch_word a i)) c h
            = plain_act xs n k v w (leaf (fetch_word a i)) c h
        act_binds xs n k v w (leaf (update a b)) c h = plain_act xs n k v w (leaf (update a b)) c h
        act_binds xs n k v w (leaf (eval a)) c h = plain_act xs n k v w (leaf (eval a)) c h
        act_binds xs n k v w (leaf (apply a b)) c h = plain_act xs n k v w (leaf (apply a b)) c h
        act_binds xs n k v w (leaf (call f ws)) c h = plain_act xs n k v w (leaf (call f ws)) c h
        act_binds xs n k v w (leaf (prim f a b)) c h = plain_act xs n k v w (leaf (prim f a b)) c h
        act_binds xs n k v w (leaf read) c h = plain_act xs n k v w (leaf read) c h
        act_binds xs n k v w (leaf (write a)) c h = plain_act xs n k v w (leaf (write a)) c h
        act_binds xs n k v w (leaf fail) c h = plain_act xs n k v w (leaf fail) c h

        end_binds : (goal : Goal) (n : ℕ) (o : Act)
            → BindsAre n (end_numbers width rs goal o) (times x (act_vars o))
            (slim.end_words o + inner_words o) (binds (end_code width rs goal n o))
        end_binds goal n (case v as') = binds_as n n _ _ _ _ (arms_words as') _ _ refl refl
            (omega arith) (omega arith) (arms_are goal n (operands_of v) as')
        end_binds goal n (nested b) = binds_as n n _ _ _ _ (code_words b) _ _ refl refl
            (omega arith) (omega arith) (code_binds goal n b)
        end_binds goal n (leaf (unit v)) = plain_last goal n (leaf (unit v))
        end_binds goal n (leaf (fetch a)) = plain_last goal n (leaf (fetch a))
        end_binds goal n (leaf (fetch_word a i)) = plain_last goal n (leaf (fetch_word a i))
        end_binds goal n (leaf (update a v)) = plain_last goal n (leaf (update a v))
        end_binds goal n (leaf (eval a)) = plain_last goal n (leaf (eval a))
        end_binds goal n (leaf (apply v a)) = plain_last goal n (leaf (apply v a))
        end_binds goal n (leaf (call f ws)) = plain_last goal n (leaf (call f ws))
        end_binds goal n (leaf (prim f a b)) = plain_last goal n (leaf (prim f a b))
        end_binds goal n (leaf read) = plain_last goal n (leaf read)
        end_binds goal n (leaf (write a)) = plain_last goal n (leaf (write a))
        end_binds goal n (leaf fail) = plain_last goal n (leaf fail)

        pub code_binds : (goal : Goal) (n : ℕ) (b : grin.Code)
            → BindsAre n (code_numbers width rs goal b) (times x (code_vars b)) (code_words b)
            (binds (code_code width rs goal n b))
        code_binds goal n (end o) = end_binds goal n o
        code_binds goal n (store cs b) =
            let c : low.Code = code_code width rs goal n b in
            let t = times_append x (cell_vars cs) (code_vars b) in
            let m = cells_many cs in
            subst (BindsAre n (code_numbers width rs goal b) (times x (cell_vars cs ++ code_vars b))
            (length cs + code_words b))
            (sym (taken_binds (cell_vars cs) (store_all width cs c) ∙ ap
            (λ l. cell_vars cs ++ l) (stores_binds width cs c)))
            (binds_as n n _ _ (times x (cell_vars cs) + times x (code_vars b)) _
            (length (cell_vars cs) + code_words b) _ _ refl refl (omega (arith, t))
            (omega (arith, m))
            (binds_more n (code_numbers width rs goal b) (times x (code_vars b)) (code_words b)
            (cell_vars cs) (binds c) (code_binds goal n b)))
        code_binds goal n (bind t o b) =
            let m : ℕ = n + act_numbers width rs (length (target_vars t)) o in
            let a = times_append x (target_vars t) (act_vars o ++ code_vars b) in
            let e = times_append x (act_vars o) (code_vars b) in
            let l = target_few t in
            binds_as n n _ _
            (times x (target_vars t) + (times x (act_vars o) + times x (code_vars b))) _
            (length (target_vars t) + node_words o + inner_words o + code_words b) _ _ refl refl
            (omega (arith, a, e)) (omega (arith, l))
            (act_binds (target_vars t) n (code_numbers width rs goal b) (times x (code_vars b))
            (code_words b) o (code_code width rs goal m b) (code_binds goal m b))

        arms_are : (goal : Goal) (n : ℕ) (as' : List Operand) (l : grin.Arms)
            → BindsAre n (arms_numbers width rs goal l) (times x (arms_vars l)) (arms_words l)
            (arms_binds (arms_code width rs goal n as' l))
        arms_are goal n as' no_arm = binds_none n 0 0 0
        arms_are goal n as' (arm s b no_arm) =
            let a = times_append x (shape_vars s) (code_vars b ++ []) in
            let e = times_append x (code_vars b) [] in
            binds_as n n (code_numbers width rs goal b) _ (times x (code_vars b)) _ (code_words b) _
            _ refl (omega arith) (omega (arith, a, e)) (omega arith) (code_binds goal n b)
        arms_are goal n as' (arm s b (arm s' b' more)) =
            let rest : grin.Arms = arm s' b' more in
            let a = times_append x (shape_vars s) (code_vars b ++ arms_vars rest) in
            let e = times_append x (code_vars b) (arms_vars rest) in
            binds_as n n _ _ (times x (code_vars b) + times x (arms_vars rest)) _
            (code_words b + arms_words rest) _ _ refl refl (omega (arith, a, e)) (omega arith)
            (binds_both n (code_numbers width rs goal b) (arms_numbers width rs goal rest) _ _ _ _ _
            _ (code_binds goal n b)
            (arms_are goal (n + code_numbers width rs goal b) as' (arm s' b' more)))

      -- ---- procedures

      pub procedure_binds : (n r : ℕ) (q : grin.Procedure)
          → BindsAre n (procedure_numbers width rs r q) (times x (procedure_vars q))
          (procedure_words q) (variables (procedure_code width rs n r q))
      procedure_binds n r q =
          let t = times_append x (numbers_of q.params) (code_vars q.body) in
          let m = many q.params in
          binds_as n n _ _ (times x (numbers_of q.params) + times x (code_vars q.body)) _
          (length (numbers_of q.params) + code_words q.body) _ _ refl refl (omega (arith, t))
          (omega (arith, m))
          (binds_more n _ _ _ (numbers_of q.params) _
          (code_binds (record { words = r; leaves = true }) n q.body))
        where
          many : (ys : List VarId) → length (numbers_of ys) ≡ length ys
          many [] = refl
          many (y ∷ ys) = ap suc (many ys)

      pub procedures_once : (n : ℕ) (ks : List ℕ) (qs : List grin.Procedure)
          → times x (all_variables (procedures_code width rs n ks qs)) ≤ times x (procs_vars qs) +
          taken_times x n (procs_numbers width rs ks qs)
      procedures_once n [] qs = omega arith
      procedures_once n (k ∷ ks) [] = omega arith
      procedures_once n (k ∷ ks) (q ∷ qs) =
          let m : ℕ = n + procedure_numbers width rs k q in
          let a = (procedure_binds n k q).once in
          let b = procedures_once m ks qs in
          let p = taken_both x n (procedure_numbers width rs k q) (procs_numbers width rs ks qs) in
          let t = times_append x (variables (procedure_code width rs n k q))
          (all_variables (procedures_code width rs m ks qs)) in
          let u = times_append x (procedure_vars q) (procs_vars qs) in
          omega (arith, a, b, p, t, u)
