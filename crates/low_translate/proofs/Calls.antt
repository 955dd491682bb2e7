-- The calls of the translation: as many as the program's, of procedures that there are, each at a
-- site of its own.
use Rattle.std.proofs.Common.{◌≡◌, ◌≤◌, ◌<◌, ℕ, suc, ◌+◌, ◌-◌, Bool, true, false, List, [], ◌∷◌, ◌++◌, length, drop, refl, sym, ap, ◌∙◌, subst, arith, length-append}
use Rattle.grin_syntax.specs.Binders.{target_vars, shape_vars, cell_vars}
use Rattle.grin_syntax.specs.Tree as grin
use Rattle.grin_syntax.specs.Tree.{Act, leaf, unit, fetch, fetch_word, update, eval, apply, call, prim, read, write, case, nested, fail, end, store, bind, no_arm, arm}
use Rattle.grin_syntax.specs.Formed.{AllOf, Scope, with_word_variables, with_target, params_scope, ActFormed, CodeFormed, ArmsFormed, ProcedureFormed}
use Rattle.grin_meaning.specs.Slim.{act_calls, code_calls, arms_calls, procs_calls}
use Rattle.low_code.specs.declared.program.Operand.{Operand}
use Rattle.low_code.specs.Tree as low
use Rattle.low_code.specs.Formed.{Site, calls_in, arms_calls as low_arms_calls, sites_of, all_sites, CallsInRange, AllCallsInRange}
use Rattle.low_code.specs.Size.{calls_from}
use Rattle.low_translate.specs.declared.blocks.Goal.{Goal}
use Rattle.low_translate.specs.Translation.{operand_of, operands_of, operands_of_words, operation_of, padded_to_width, variables_of, set_all, load_word, store_all, results_of, to_join, end_words, plain_numbers, through_numbers, plain_end_numbers, act_numbers, end_numbers, code_numbers, arms_numbers, plain_code, through, plain_end, act_code, end_code, code_code, arms_code, procedures_code, procedure_numbers}
use Rattle.low_translate.proofs.Numbered.{taken_times, taken_both, procs_numbers}
use Rattle.low_translate.proofs.Parts.{sets_calls, word_calls, loads_calls, first_calls, saves_calls, taken_calls, stores_calls}
use Rattle.seq.specs.Lists.{numbers_from, times}
use Rattle.low_code.proofs.Sites.{sites_append}
use Rattle.seq.proofs.Counted.{length_numbers, times_append}

range_append : (n : ℕ) (xs ys : List Site) → CallsInRange n xs → CallsInRange n ys
    → CallsInRange n (xs ++ ys)
range_append n [] ys h k = k
range_append n (x ∷ xs) ys h k = (h.0, range_append n xs ys h.1 k)

module _ (procs : ℕ) where
  -- calls whose sites are among k numbers from n on
  pub record CallsAre (n k number : ℕ) (cs : List Site) : Type 0 where
    pub many : length cs ≡ number
    pub sites : (s : ℕ) → times s (sites_of cs) ≤ taken_times s n k
    pub known : CallsInRange procs cs

  pub calls_none : (n k : ℕ) → CallsAre n k 0 []
  calls_none n k = record { many = refl; sites = λ s. omega arith; known = tt }

  pub calls_as : (n n' k k' c c' : ℕ) (cs : List Site) → n ≡ n' → k ≡ k' → c ≡ c'
      → CallsAre n k c cs → CallsAre n' k' c' cs
  calls_as n n' k k' c c' cs en ek ec h = subst (λ m. CallsAre m k' c' cs) en
      (subst (λ m. CallsAre n m c' cs) ek (subst (λ m. CallsAre n k m cs) ec h))

  pub calls_both : (n j k c d : ℕ) (xs ys : List Site) → CallsAre n j c xs → CallsAre (n + j) k d ys
      → CallsAre n (j + k) (c + d) (xs ++ ys)
  calls_both n j k c d xs ys h f = record {
    many = let a = h.many in let b = f.many in let e = length-append xs ys
        in omega (arith, a, b, e);
    sites = λ s.
        let a = h.sites s in
        let b = f.sites s in
        let e : times s (sites_of (xs ++ ys)) ≡ times s (sites_of xs) + times s (sites_of ys)
        = ap (times s) (sites_append xs ys) ∙ times_append s (sites_of xs) (sites_of ys) in
        let q = taken_both s n j k in
        omega (arith, a, b, e, q);
    known = range_append procs xs ys h.known f.known;
  }

  pub calls_one : (n k f : ℕ) → f < procs → CallsAre n (1 + k) 1 ((n, f) ∷ [])
  calls_one n k f lt = record {
    many = refl;
    sites = λ s.
        (let q : 1 + k ≡ suc k = omega arith in let e
        : taken_times s n (1 + k) ≡ taken_times s n (suc k) = ap (taken_times s n) q
        in omega (arith, e));
    known = (lt, tt);
  }

  -- the same calls, where nothing is taken on the way
  same : (n k c : ℕ) (xs ys : List Site) → xs ≡ ys → CallsAre (n + 0) k c ys
      → CallsAre n (0 + k) (0 + c) xs
  same n k c xs ys e h = subst (CallsAre n (0 + k) (0 + c)) (sym e)
      (calls_as (n + 0) n k (0 + k) c (0 + c) ys (omega arith) (omega arith) (omega arith) h)

  abbrev pub plain_calls : Act → ℕ
  plain_calls (leaf (call f ws)) = 1
  plain_calls _ = 0

  module _ (width : ℕ) (rs : List ℕ) where
    -- the procedure that an operation calls is there
    abbrev pub Calls : Act → Type 0
    Calls (leaf (call f ws)) = f.0 < procs
    Calls _ = Unit {0}

    plain_calls_are : (xs : List ℕ) (n k d : ℕ) (o : Act) (c : low.Code) → Calls o
        → CallsAre (n + plain_numbers width rs (length xs) o) k d (calls_in c)
        → CallsAre n (plain_numbers width rs (length xs) o + k) (plain_calls o + d)
        (calls_in (plain_code width rs xs n o c))
    plain_calls_are xs n k d (leaf (unit v)) c f h = same n k d _ _
        (sets_calls xs (operands_of v) c) h
    plain_calls_are xs n k d (leaf (fetch a)) c f h
        = same n k d _ _ (loads_calls width xs (operand_of a) 0 c) h
    plain_calls_are xs n k d (leaf (fetch_word a i)) c f h
        = same n k d _ _
        (first_calls xs (λ x. load_word width x (operand_of a) i) c
        (λ x b. word_calls width x (operand_of a) i b)) h
    plain_calls_are xs n k d (leaf (update a v)) c f h
        = same n k d _ _
        (saves_calls (operand_of a) 0 (padded_to_width width (operands_of v)) (set_all xs [] c) ∙
        sets_calls xs [] c) h
    plain_calls_are xs n k d (leaf (call f ws)) c lt h =
        let r : ℕ = results_of rs f.0 in
        subst (λ l. CallsAre n ((1 + (r - length xs)) + k) (1 + d) ((n, f.0) ∷ l))
        (sym (sets_calls (drop r xs) [] c))
        (calls_both n (1 + (r - length xs)) k 1 d ((n, f.0) ∷ []) (calls_in c)
        (calls_one n (r - length xs) f.0 lt) h)
    plain_calls_are xs n k d (leaf (prim f a b)) c t h
        = same n k d _ _
        (first_calls xs (λ x. low.prim (operation_of f) x (operand_of a) (operand_of b)) c
        (λ x e. refl)) h
    plain_calls_are xs n k d (leaf read) c f h = same n k d _ _
        (first_calls xs (λ x. low.get x) c (λ x e. refl)) h
    plain_calls_are xs n k d (leaf (write a)) c f h = same n k d _ _ (sets_calls xs [] c) h
    plain_calls_are xs n k d (leaf (eval a)) c f h = same n k d _ _ refl h
    plain_calls_are xs n k d (leaf (apply v a)) c f h = same n k d _ _ refl h
    plain_calls_are xs n k d (case v as') c f h = same n k d _ _ refl h
    plain_calls_are xs n k d (nested b) c f h = same n k d _ _ refl h
    plain_calls_are xs n k d (leaf fail) c f h = same n k d _ _ refl h

    through_calls : (goal : Goal) (n : ℕ) (o : Act) → Calls o
        → CallsAre n (through_numbers width rs goal o) (plain_calls o)
        (calls_in (through width rs goal n o))
    through_calls goal n o f =
        let e : ℕ = end_words width rs goal.words o in
        let xs : List ℕ = numbers_from n e in
        let more : plain_numbers width rs (length xs) o + 0 ≡ plain_numbers width rs e o
        = (let q = ap (λ m. plain_numbers width rs m o) (length_numbers n e)
        in omega (arith, q)) in
        let body = plain_calls_are xs (n + e) 0 0 o
        (low.give (padded_to_width goal.words (variables_of xs))) f (calls_none _ 0) in
        calls_as n n (through_numbers width rs goal o) (through_numbers width rs goal o)
        (0 + plain_calls o) (plain_calls o) _ refl refl (omega arith)
        (calls_both n e (plain_numbers width rs e o) 0 (plain_calls o) [] _ (calls_none n e)
        (calls_as (n + e) (n + e) _ (plain_numbers width rs e o) _ (plain_calls o) _ refl more
        (omega arith) body))

    plain_end_calls : (goal : Goal) (n : ℕ) (o : Act) → Calls o
        → CallsAre n (plain_end_numbers width rs goal o) (plain_calls o)
        (calls_in (plain_end width rs goal n o))
    plain_end_calls goal n (leaf (unit v)) h = calls_none n 0
    plain_end_calls goal n (leaf fail) h = calls_none n 0
    plain_end_calls goal n (leaf (eval w)) h = calls_none n 0
    plain_end_calls goal n (leaf (apply v w)) h = calls_none n 0
    plain_end_calls goal n (leaf (call f ws)) h = by goal.leaves
      where
        by : (b : Bool) → CallsAre n
            (elim b [ true ↦ 1 | false ↦ through_numbers width rs goal (leaf (call f ws)) ]) 1
            (calls_in
            (elim b [
              | true ↦ low.tail f.0 n (operands_of_words ws)
              | false ↦ through width rs goal n
                  (leaf (call f ws))
            ]))
        by true = calls_one n 0 f.0 h
        by false = through_calls goal n (leaf (call f ws)) h
    plain_end_calls goal n (leaf (fetch a)) h = through_calls goal n (leaf (fetch a)) h
    plain_end_calls goal n (leaf (fetch_word a i)) h
        = through_calls goal n (leaf (fetch_word a i)) h
    plain_end_calls goal n (leaf (update a v)) h = through_calls goal n (leaf (update a v)) h
    plain_end_calls goal n (leaf (prim f a b)) h = through_calls goal n (leaf (prim f a b)) h
    plain_end_calls goal n (leaf read) h = through_calls goal n (leaf read) h
    plain_end_calls goal n (leaf (write a)) h = through_calls goal n (leaf (write a)) h
    plain_end_calls goal n (case v as') h = through_calls goal n (case v as') h
    plain_end_calls goal n (nested b) h = through_calls goal n (nested b) h

module _ (g : grin.Program) (width : ℕ) (rs : List ℕ) where
  abbrev procs : ℕ
  procs = length g.procs

  mutual
    unfolding ActFormed act_code act_numbers act_calls

    act_calls_are : (scope : Scope) (xs : List ℕ) (n k d : ℕ) (o : Act) (c : low.Code)
        → ActFormed g scope o → CallsAre procs (n + act_numbers width rs (length xs) o) k d
        (calls_in c)
        → CallsAre procs n (act_numbers width rs (length xs) o + k) (act_calls o + d)
        (calls_in (act_code width rs xs n o c))
    act_calls_are scope xs n k d (case v as') c h f
        = calls_both procs n (arms_numbers width rs (to_join xs) as') k (arms_calls as') d _
        (calls_in c) (arms_calls_are scope (to_join xs) n (operands_of v) as' h.1) f
    act_calls_are scope xs n k d (nested b) c h f = calls_both procs n
        (code_numbers width rs (to_join xs) b) k (code_calls b) d _ (calls_in c)
        (code_calls_are scope (to_join xs) n b h) f
    act_calls_are scope xs n k d (leaf (unit v)) c h f
        = plain_calls_are procs width rs xs n k d (leaf (unit v)) c tt f
    act_calls_are scope xs n k d (leaf (fetch a)) c h f
        = plain_calls_are procs width rs xs n k d (leaf (fetch a)) c tt f
    act_calls_are scope xs n k d (leaf (fetch_word a i)) c h f
        = plain_calls_are procs width rs xs n k d (leaf (fetch_word a i)) c tt f
    act_calls_are scope xs n k d (leaf (update a v)) c h f
        = plain_calls_are procs width rs xs n k d (leaf (update a v)) c tt f
    act_calls_are scope xs n k d (leaf (eval a)) c h f
        = plain_calls_are procs width rs xs n k d (leaf (eval a)) c tt f
    act_calls_are scope xs n k d (leaf (apply v a)) c h f
        = plain_calls_are procs width rs xs n k d (leaf (apply v a)) c tt f
    act_calls_are scope xs n k d (leaf (call p ws)) c h f
        = plain_calls_are procs width rs xs n k d (leaf (call p ws)) c h.0 f
    act_calls_are scope xs n k d (leaf (prim p a b)) c h f
        = plain_calls_are procs width rs xs n k d (leaf (prim p a b)) c tt f
    act_calls_are scope xs n k d (leaf read) c h f = plain_calls_are procs width rs xs n k d
        (leaf read) c tt f
    act_calls_are scope xs n k d (leaf (write a)) c h f
        = plain_calls_are procs width rs xs n k d (leaf (write a)) c tt f
    act_calls_are scope xs n k d (leaf fail) c h f = plain_calls_are procs width rs xs n k d
        (leaf fail) c tt f

    end_calls_are : (scope : Scope) (goal : Goal) (n : ℕ) (o : Act) → ActFormed g scope o
        → CallsAre procs n (end_numbers width rs goal o) (act_calls o)
        (calls_in (end_code width rs goal n o))
    end_calls_are scope goal n (case v as') h = arms_calls_are scope goal n (operands_of v) as' h.1
    end_calls_are scope goal n (nested b) h = code_calls_are scope goal n b h
    end_calls_are scope goal n (leaf (unit v)) h = plain_end_calls procs width rs goal n
        (leaf (unit v)) tt
    end_calls_are scope goal n (leaf (fetch a)) h = plain_end_calls procs width rs goal n
        (leaf (fetch a)) tt
    end_calls_are scope goal n (leaf (fetch_word a i)) h
        = plain_end_calls procs width rs goal n (leaf (fetch_word a i)) tt
    end_calls_are scope goal n (leaf (update a v)) h
        = plain_end_calls procs width rs goal n (leaf (update a v)) tt
    end_calls_are scope goal n (leaf (eval a)) h = plain_end_calls procs width rs goal n
        (leaf (eval a)) tt
    end_calls_are scope goal n (leaf (apply v a)) h
        = plain_end_calls procs width rs goal n (leaf (apply v a)) tt
    end_calls_are scope goal n (leaf (call p ws)) h
        = plain_end_calls procs width rs goal n (leaf (call p ws)) h.0
    end_calls_are scope goal n (leaf (prim p a b)) h
        = plain_end_calls procs width rs goal n (leaf (prim p a b)) tt
    end_calls_are scope goal n (leaf read) h = plain_end_calls procs width rs goal n (leaf read) tt
    end_calls_are scope goal n (leaf (write a)) h = plain_end_calls procs width rs goal n
        (leaf (write a)) tt
    end_calls_are scope goal n (leaf fail) h = plain_end_calls procs width rs goal n (leaf fail) tt

    pub code_calls_are : (scope : Scope) (goal : Goal) (n : ℕ) (b : grin.Code)
        → CodeFormed g scope b → CallsAre procs n (code_numbers width rs goal b) (code_calls b)
        (calls_in (code_code width rs goal n b))
    code_calls_are scope goal n (end o) h = end_calls_are scope goal n o h
    code_calls_are scope goal n (store cs b) h =
        let c : low.Code = code_code width rs goal n b in
        subst (CallsAre procs n (code_numbers width rs goal b) (code_calls b))
        (sym (taken_calls (cell_vars cs) (store_all width cs c) ∙ stores_calls width cs c))
        (code_calls_are (with_word_variables (cell_vars cs) scope) goal n b h.1)
    code_calls_are scope goal n (bind t o b) h =
        let m : ℕ = n + act_numbers width rs (length (target_vars t)) o in
        act_calls_are scope (target_vars t) n (code_numbers width rs goal b) (code_calls b) o
        (code_code width rs goal m b) h.0 (code_calls_are (with_target t scope) goal m b h.1)

    arms_calls_are : (scope : Scope) (goal : Goal) (n : ℕ) (as' : List Operand) (l : grin.Arms)
        → ArmsFormed g scope l → CallsAre procs n (arms_numbers width rs goal l) (arms_calls l)
        (low_arms_calls (arms_code width rs goal n as' l))
    arms_calls_are scope goal n as' no_arm h = calls_none procs n 0
    arms_calls_are scope goal n as' (arm s b no_arm) h
        = calls_as procs n n (code_numbers width rs goal b) _ (code_calls b) _ _ refl (omega arith)
        (omega arith) (code_calls_are (with_word_variables (shape_vars s) scope) goal n b h.1)
    arms_calls_are scope goal n as' (arm s b (arm s' b' more)) h =
        let rest : grin.Arms = arm s' b' more in
        calls_both procs n (code_numbers width rs goal b) (arms_numbers width rs goal rest)
        (code_calls b) (arms_calls rest) _ _
        (code_calls_are (with_word_variables (shape_vars s) scope) goal n b h.1)
        (arms_calls_are scope goal (n + code_numbers width rs goal b) as' (arm s' b' more) h.2)

  -- ---- procedures

  pub record AllCalls (n k number : ℕ) (qs : List low.Procedure) : Type 0 where
    pub many : calls_from qs ≡ number
    pub sites : (s : ℕ) → times s (all_sites qs) ≤ taken_times s n k
    pub known : AllCallsInRange procs qs

  pub procedures_calls : (n : ℕ) (ks : List ℕ) (qs : List grin.Procedure) → length ks ≡ length qs
      → AllOf (ProcedureFormed g) qs → AllCalls n (procs_numbers width rs ks qs) (procs_calls qs)
      (procedures_code width rs n ks qs)
  procedures_calls n [] [] e h = record { many = refl; sites = λ s. omega arith; known = tt }
  procedures_calls n [] (q ∷ qs) e h = absurd (omega (arith, e))
  procedures_calls n (k ∷ ks) [] e h = absurd (omega (arith, e))
  procedures_calls n (k ∷ ks) (q ∷ qs) e h =
      let here = code_calls_are (params_scope q) (record { words = k; leaves = true }) n q.body h.0
      in
      let more = procedures_calls (n + procedure_numbers width rs k q) ks qs (omega (arith, e)) h.1
      in
      record {
        many = let a = here.many in let b = more.many in omega (arith, a, b);
        sites = λ s.
            let a = here.sites s in
            let b = more.sites s in
            let p = taken_both s n (procedure_numbers width rs k q) (procs_numbers width rs ks qs)
            in
            let t = times_append s
            (sites_of
            (calls_in (code_code width rs (record { words = k; leaves = true }) n q.body)))
            (all_sites (procedures_code width rs (n + procedure_numbers width rs k q) ks qs)) in
            omega (arith, a, b, p, t);
        known = (here.known, more.known);
      }
