-- The translation is small beside the program.
use Rattle.std.proofs.Common.{◌≡◌, ◌≤◌, ℕ, suc, ◌+◌, ◌*◌, ◌-◌, min, Bool, true, false, List, [], ◌∷◌, ◌++◌, length, take, drop, refl, ap, arith, length-append}
use Rattle.grin_syntax.specs.declared.program.Target.{Target}
use Rattle.grin_syntax.specs.declared.program.Target.TheVariants as to
use Rattle.grin_syntax.specs.declared.program.Cell as C
use Rattle.grin_syntax.specs.Binders.{target_vars, cell_vars}
use Rattle.grin_syntax.specs.Formed.{AllOf}
use Rattle.grin_syntax.specs.Tree as grin
use Rattle.grin_syntax.specs.Tree.{Act, leaf, unit, fetch, fetch_word, update, eval, apply, call, prim, read, write, case, nested, fail, end, store, bind, no_arm, arm, IsLeaf}
use Rattle.grin_meaning.specs.Ready.{EachAct, EachCode, EachArms, narrow_kind}
use Rattle.grin_meaning.specs.Slim.{target_weight, act_weight, code_weight, arms_weight, procs_weight}
use Rattle.low_code.specs.declared.program.Operand.{Operand}
use Rattle.low_code.specs.Tree as low
use Rattle.low_code.specs.Size.{code_size, arms_size, sizes}
use Rattle.low_translate.specs.declared.blocks.Goal.{Goal}
use Rattle.low_translate.specs.Translation.{operand_of, operands_of, operands_of_words, operation_of, padded_to_width, variables_of, set_all, load_word, store_all, results_of, to_join, end_words, act_numbers, code_numbers, plain_code, through, plain_end, act_code, end_code, code_code, arms_code, procedures_code, procedure_numbers}
use Rattle.low_translate.proofs.Numbered.{length_parts, length_past}
use Rattle.low_translate.proofs.Operations.{length_fitted}
use Rattle.low_translate.proofs.Parts.{words_many, sets_size, word_size, loads_size, first_size, saves_size, taken_size, stores_size}
use Rattle.seq.specs.Lists.{numbers_from}
use Rattle.seq.proofs.Counted.{length_numbers}
use Rattle.grin_syntax.proofs.Counted.{length_numbers as numbers_many}

cells_many : (cs : List C.Cell) → length (cell_vars cs) ≡ length cs
cells_many [] = refl
cells_many (c ∷ cs) = ap suc (cells_many cs)

target_light : (t : Target) → length (target_vars t) ≤ target_weight t
target_light to.Nothing = omega arith
target_light (to.Node y) = omega arith
target_light (to.One y) = omega arith
target_light (to.Vector ys) = let h = numbers_many ys in omega (arith, h)

-- a piece whose operations go to few variables
abbrev pub IsFew : Target → Type 0
IsFew t = length (target_vars t) ≤ 14

abbrev pub ActNarrow : Act → Type 0
ActNarrow = EachAct (narrow_kind 14)

abbrev pub CodeNarrow : grin.Code → Type 0
CodeNarrow = EachCode (narrow_kind 14)

abbrev pub ArmsNarrow : grin.Arms → Type 0
ArmsNarrow = EachArms (narrow_kind 14)

module _ (width : ℕ) (rs : List ℕ) (few_results : (f : ℕ) → results_of rs f ≤ 13)
    (few_fields : width ≤ 14) where
  call_size : (f n r : ℕ) (as' : List Operand) (xs : List ℕ) (c : low.Code)
      → code_size
      (low.call f n as' (take r xs ++ numbers_from (suc n) (r - length xs))
      (set_all (drop r xs) [] c)) ≡ 1 + length as' + r + 3 * (length xs - r) + code_size c
  call_size f n r as' xs c =
      let a = length-append (take r xs) (numbers_from (suc n) (r - length xs)) in
      let b = length_numbers (suc n) (r - length xs) in
      let p = length_parts r xs in
      let q = length_past r xs in
      let s = sets_size (drop r xs) [] c in
      omega (arith, a, b, p, q, s)

  -- what an operation without blocks weighs beside its variables
  abbrev own : Act → ℕ
  own (leaf (unit v)) = 0
  own (leaf (fetch a)) = 0
  own (leaf (fetch_word a i)) = 3
  own (leaf (update a v)) = 42
  own (leaf (call f ws)) = 14 + length ws
  own (leaf (prim f a b)) = 4
  own (leaf read) = 10
  own (leaf (write a)) = 10
  own _ = 2

  plain_size : (xs : List ℕ) (n : ℕ) (o : Act) (c : low.Code)
      → code_size (plain_code width rs xs n o c) ≤ own o + 3 * length xs + code_size c
  plain_size xs n (leaf (unit v)) c = let h = sets_size xs (operands_of v) c in omega (arith, h)
  plain_size xs n (leaf (fetch a)) c = let h = loads_size width xs (operand_of a) 0 c
      in omega (arith, h)
  plain_size xs n (leaf (fetch_word a i)) c = first_size 3 xs
      (λ x. load_word width x (operand_of a) i) c (λ x b. word_size width x (operand_of a) i b)
  plain_size xs n (leaf (update a v)) c =
      let h = saves_size (operand_of a) 0 (padded_to_width width (operands_of v)) (set_all xs [] c)
      in
      let k = sets_size xs [] c in
      let m = length_fitted width (operands_of v) in
      omega (arith, h, k, m, few_fields)
  plain_size xs n (leaf (call f ws)) c =
      let h = call_size f.0 n (results_of rs f.0) (operands_of_words ws) xs c in
      let k = few_results f.0 in
      let m = words_many ws in
      omega (arith, h, k, m)
  plain_size xs n (leaf (prim f a b)) c = first_size 4 xs
      (λ x. low.prim (operation_of f) x (operand_of a) (operand_of b)) c (λ x e. refl)
  plain_size xs n (leaf read) c = first_size 10 xs (λ x. low.get x) c (λ x e. refl)
  plain_size xs n (leaf (write a)) c = let h = sets_size xs [] c in omega (arith, h)
  plain_size xs n (leaf (eval a)) c = omega arith
  plain_size xs n (leaf (apply v a)) c = omega arith
  plain_size xs n (case v as') c = omega arith
  plain_size xs n (nested b) c = omega arith
  plain_size xs n (leaf fail) c = omega arith

  -- one without blocks and no call
  abbrev IsSingle : Act → Type 0
  IsSingle (leaf (call f ws)) = ⊥
  IsSingle (case v as') = ⊥
  IsSingle (nested b) = ⊥
  IsSingle _ = Unit {0}

  single_light : (k : ℕ) (o : Act) → IsSingle o → own o + 3 * end_words width rs k o + 15 ≤ 4 *
      act_weight o
  unfolding act_weight
  single_light k (leaf (unit v)) s = omega arith
  single_light k (leaf (fetch a)) s = let h : min k width ≤ 14 = omega (arith, few_fields)
      in omega (arith, h)
  single_light k (leaf (fetch_word a i)) s = omega arith
  single_light k (leaf (update a v)) s = omega arith
  single_light k (leaf (eval a)) s = omega arith
  single_light k (leaf (apply v a)) s = omega arith
  single_light k (leaf (call f ws)) s = absurd s
  single_light k (leaf (prim f a b)) s = omega arith
  single_light k (leaf read) s = omega arith
  single_light k (leaf (write a)) s = omega arith
  single_light k (case v as') s = absurd s
  single_light k (nested b) s = absurd s
  single_light k (leaf fail) s = omega arith

  module _ (goal : Goal) (few_words : goal.words ≤ 14) where
    single_size : (n : ℕ) (o : Act) → IsSingle o → code_size (through width rs goal n o) ≤ 4 *
        act_weight o
    single_size n o s =
        let e : ℕ = end_words width rs goal.words o in
        let xs : List ℕ = numbers_from n e in
        let h = plain_size xs (n + e) o (low.give (padded_to_width goal.words (variables_of xs))) in
        let m = length_numbers n e in
        let k = length_fitted goal.words (variables_of xs) in
        let l = single_light goal.words o s in
        omega (arith, h, m, k, l, few_words)

    through_call_size : (n f : ℕ) (as' : List Operand) (r : ℕ) → r ≤ 13 →
        code_size
        (low.call f (n + r) as'
        (take r (numbers_from n r) ++ numbers_from (suc (n + r))
        (r - length (numbers_from n r)))
        (set_all (drop r (numbers_from n r)) []
        (low.give (padded_to_width goal.words (variables_of (numbers_from n r))))))
        ≤ 64 + 4 * length as'
    through_call_size n f as' r le =
        let h = call_size f (n + r) r as' (numbers_from n r)
        (low.give (padded_to_width goal.words (variables_of (numbers_from n r)))) in
        let m = length_numbers n r in
        let k = length_fitted goal.words (variables_of (numbers_from n r)) in
        omega (arith, h, m, k, le, few_words)

    end_size : (n : ℕ) (o : Act) → IsLeaf o → code_size (plain_end width rs goal n o) ≤ 4 *
        act_weight o
    unfolding act_weight
    end_size n (leaf (unit v)) s = let k = length_fitted goal.words (operands_of v)
        in omega (arith, k, few_words)
    end_size n (leaf fail) s = omega arith
    end_size n (leaf (eval w)) s = omega arith
    end_size n (leaf (apply v w)) s = omega arith
    end_size n (leaf (call f ws)) s = by goal.leaves
      where
        by : (b : Bool) → code_size
            (elim b [
              | true ↦ low.tail f.0 n (operands_of_words ws)
              | false ↦ through width rs goal n
                  (leaf (call f ws))
            ]) ≤ 4 * (16 + length ws)
        by true = let m = words_many ws in omega (arith, m)
        by false = let m = words_many ws in let h = through_call_size n f.0 (operands_of_words ws)
            (results_of rs f.0) (few_results f.0) in omega (arith, m, h)
    end_size n (leaf (fetch a)) s = single_size n (leaf (fetch a)) tt
    end_size n (leaf (fetch_word a i)) s = single_size n (leaf (fetch_word a i)) tt
    end_size n (leaf (update a v)) s = single_size n (leaf (update a v)) tt
    end_size n (leaf (prim f a b)) s = single_size n (leaf (prim f a b)) tt
    end_size n (leaf read) s = single_size n (leaf read) tt
    end_size n (leaf (write a)) s = single_size n (leaf (write a)) tt
    end_size n (case v as') s = absurd s
    end_size n (nested b) s = absurd s

  own_light : (o : Act) → IsLeaf o → own o ≤ 4 * act_weight o
  unfolding act_weight
  own_light (leaf (unit v)) s = omega arith
  own_light (leaf (fetch a)) s = omega arith
  own_light (leaf (fetch_word a i)) s = omega arith
  own_light (leaf (update a v)) s = omega arith
  own_light (leaf (eval a)) s = omega arith
  own_light (leaf (apply v a)) s = omega arith
  own_light (leaf (call f ws)) s = omega arith
  own_light (leaf (prim f a b)) s = omega arith
  own_light (leaf read) s = omega arith
  own_light (leaf (write a)) s = omega arith
  own_light (case v as') s = absurd s
  own_light (nested b) s = absurd s
  own_light (leaf fail) s = omega arith

  plain_act_size : (xs : List ℕ) (n : ℕ) (o : Act) (c : low.Code) → IsLeaf o
      → code_size (plain_code width rs xs n o c) ≤ 4 * act_weight o + 3 * length xs + code_size c
  plain_act_size xs n o c s = let h = plain_size xs n o c in let k = own_light o s
      in omega (arith, h, k)

  -- ---- all pieces

  mutual
    unfolding EachAct act_code act_weight

    act_light : (xs : List ℕ) (n : ℕ) (o : Act) (c : low.Code) → length xs ≤ 14 → ActNarrow o
        → code_size (act_code width rs xs n o c) ≤ 4 * act_weight o + 3 * length xs + code_size c
    act_light xs n (case v as') c le h = let k = arms_light (to_join xs) n (operands_of v) as' le
        h.2 in omega (arith, k)
    act_light xs n (nested b) c le h = let k = code_light (to_join xs) n b le h.1
        in omega (arith, k)
    act_light xs n (leaf (unit v)) c le h = plain_act_size xs n (leaf (unit v)) c tt
    act_light xs n (leaf (fetch a)) c le h = plain_act_size xs n (leaf (fetch a)) c tt
    act_light xs n (leaf (fetch_word a i)) c le h = plain_act_size xs n (leaf (fetch_word a i)) c tt
    act_light xs n (leaf (update a v)) c le h = plain_act_size xs n (leaf (update a v)) c tt
    act_light xs n (leaf (eval a)) c le h = plain_act_size xs n (leaf (eval a)) c tt
    act_light xs n (leaf (apply v a)) c le h = plain_act_size xs n (leaf (apply v a)) c tt
    act_light xs n (leaf (call f ws)) c le h = plain_act_size xs n (leaf (call f ws)) c tt
    act_light xs n (leaf (prim f a b)) c le h = plain_act_size xs n (leaf (prim f a b)) c tt
    act_light xs n (leaf read) c le h = plain_act_size xs n (leaf read) c tt
    act_light xs n (leaf (write a)) c le h = plain_act_size xs n (leaf (write a)) c tt
    act_light xs n (leaf fail) c le h = plain_act_size xs n (leaf fail) c tt

    end_light : (goal : Goal) (n : ℕ) (o : Act) → goal.words ≤ 14 → ActNarrow o
        → code_size (end_code width rs goal n o) ≤ 4 * act_weight o
    end_light goal n (case v as') le h = let k = arms_light goal n (operands_of v) as' le h.2
        in omega (arith, k)
    end_light goal n (nested b) le h = let k = code_light goal n b le h.1 in omega (arith, k)
    end_light goal n (leaf (unit v)) le h = end_size goal le n (leaf (unit v)) tt
    end_light goal n (leaf (fetch a)) le h = end_size goal le n (leaf (fetch a)) tt
    end_light goal n (leaf (fetch_word a i)) le h = end_size goal le n (leaf (fetch_word a i)) tt
    end_light goal n (leaf (update a v)) le h = end_size goal le n (leaf (update a v)) tt
    end_light goal n (leaf (eval a)) le h = end_size goal le n (leaf (eval a)) tt
    end_light goal n (leaf (apply v a)) le h = end_size goal le n (leaf (apply v a)) tt
    end_light goal n (leaf (call f ws)) le h = end_size goal le n (leaf (call f ws)) tt
    end_light goal n (leaf (prim f a b)) le h = end_size goal le n (leaf (prim f a b)) tt
    end_light goal n (leaf read) le h = end_size goal le n (leaf read) tt
    end_light goal n (leaf (write a)) le h = end_size goal le n (leaf (write a)) tt
    end_light goal n (leaf fail) le h = end_size goal le n (leaf fail) tt

    pub code_light : (goal : Goal) (n : ℕ) (b : grin.Code) → goal.words ≤ 14 → CodeNarrow b
        → code_size (code_code width rs goal n b) ≤ 4 * code_weight b
    code_light goal n (end o) le h = end_light goal n o le h
    code_light goal n (store cs b) le h =
        let c : low.Code = code_code width rs goal n b in
        let k = code_light goal n b le h.1 in
        let s = stores_size width cs c few_fields in
        let t = taken_size (cell_vars cs) (store_all width cs c) in
        let m = cells_many cs in
        omega (arith, k, s, t, m)
    code_light goal n (bind t o b) le h =
        let next : ℕ = n + act_numbers width rs (length (target_vars t)) o in
        let k = code_light goal next b le h.2 in
        let a = act_light (target_vars t) n o (code_code width rs goal next b) h.0 h.1 in
        let l = target_light t in
        omega (arith, k, a, l)

    arms_light : (goal : Goal) (n : ℕ) (as' : List Operand) (l : grin.Arms) → goal.words ≤ 14
        → ArmsNarrow l → arms_size (arms_code width rs goal n as' l) ≤ 4 * arms_weight l + 1
    arms_light goal n as' no_arm le h = omega arith
    arms_light goal n as' (arm s b no_arm) le h = let k = code_light goal n b le h.1
        in omega (arith, k)
    arms_light goal n as' (arm s b (arm s' b' more)) le h =
        let k = code_light goal n b le h.1 in
        let m = arms_light goal (n + code_numbers width rs goal b) as' (arm s' b' more) le h.2 in
        omega (arith, k, m)

  pub procedures_light : (n : ℕ) (ks : List ℕ) (qs : List grin.Procedure) → AllOf (λ r. r ≤ 13) ks
      → AllOf (λ q. CodeNarrow q.body) qs → sizes (procedures_code width rs n ks qs) ≤ 4 *
      procs_weight qs
  procedures_light n [] qs f h = omega arith
  procedures_light n (k ∷ ks) [] f h = omega arith
  procedures_light n (k ∷ ks) (q ∷ qs) f h =
      let few = f.0 in
      let a = code_light (record { words = k; leaves = true }) n q.body (omega (arith, few)) h.0 in
      let m = procedures_light (n + procedure_numbers width rs k q) ks qs f.1 h.1 in
      let p = numbers_many q.params in
      omega (arith, a, m, p)
