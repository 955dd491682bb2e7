-- The translation of a formed program has its operands in scope, its literals are words, and its
-- arms have few tests.
use Rattle.std.proofs.Common.{◌≤◌, ◌<◌, ◌^◌, ℕ, ℤ, pos, negsuc, suc, ◌+◌, ◌-◌, Bool, true, false, List, [], ◌∷◌, ◌++◌, length, take, drop, sym, subst, arith}
use Rattle.numbers.specs.Numbers.{pattern}
use Rattle.grin_syntax.specs.declared.program.Word as W
use Rattle.grin_syntax.specs.declared.program.Word.TheVariants as word
use Rattle.grin_syntax.specs.declared.program.Val as V
use Rattle.grin_syntax.specs.declared.program.Val.TheVariants as val
use Rattle.grin_syntax.specs.declared.program.Shape as S
use Rattle.grin_syntax.specs.declared.program.Shape.TheVariants as shape
use Rattle.grin_syntax.specs.declared.program.Target.{Target}
use Rattle.grin_syntax.specs.declared.program.Target.TheVariants as to
use Rattle.grin_syntax.specs.declared.program.Cell as C
use Rattle.grin_syntax.specs.Binders.{numbers_of, target_vars, shape_vars, cell_vars}
use Rattle.grin_syntax.specs.Tree as grin
use Rattle.grin_syntax.specs.Tree.{Act, leaf, unit, fetch, fetch_word, update, eval, apply, call, prim, read, write, case, nested, fail, end, store, bind, no_arm, arm}
use Rattle.grin_syntax.specs.Formed.{AllOf, Scope, with_word_variables, with_target, params_scope, WordFormed, ValFormed, CellFormed, ShapeFormed, ActFormed, CodeFormed, ArmsFormed, ProcedureFormed}
use Rattle.grin_meaning.specs.Ready.{EachAct, EachCode, EachArms, vectorised_kind}
use Rattle.low_code.specs.declared.program.Operand.{Operand}
use Rattle.low_code.specs.Tree as low
use Rattle.low_code.specs.Formed.{AllScoped}
use Rattle.low_code.specs.Literals.{AllSmall}
use Rattle.low_code.specs.Size.{AllFewTests}
use Rattle.low_translate.specs.declared.blocks.Goal.{Goal}
use Rattle.low_translate.specs.Translation.{operand_of, operands_of, operands_of_words, operation_of, padded_to_width, variables_of, nth_operand, tests, set_all, load_word, results_of, to_join, end_words, plain_code, through, plain_end, act_code, end_code, code_code, arms_code, procedures_code, procedure_numbers, act_numbers, code_numbers}
use Rattle.low_translate.specs.Lowered.{Has32Bits, WordRanged, ValRanged, ShapeRanged, PlainRanged, ActRanged, CodeRanged, ArmsRanged}
use Rattle.low_translate.proofs.Scopes.{More, more_self, more_chain, more_left, more_right, more_append, more_parts, more_first, more_rest, Good, AllGood, Fine, ArmsFine, TestsFine, Onward, CellGood, fitted_good, nth_good, variables_good, no_tests, tested_fine, fine_prim, fine_put, fine_get, fine_call, fine_join, fine_give, fine_tail, fine_fail, fine_choose, fine_otherwise, fine_arm, sets_fine, word_fine, loads_fine, first_fine, saves_fine, taken_fine, stores_fine}
use Rattle.seq.specs.Lists.{numbers_from}
use Rattle.grin_meaning.proofs.Scopes.{among_in}

pattern_small : (k : ℤ) → Has32Bits k → pattern k < 2 ^ 32
pattern_small (pos k) h = omega (arith, h)
pattern_small (negsuc k) h = omega arith

-- a piece of a vectorised program
abbrev pub ActVectorised : Act → Type 0
ActVectorised = EachAct vectorised_kind

abbrev pub CodeVectorised : grin.Code → Type 0
CodeVectorised = EachCode vectorised_kind

abbrev pub ArmsVectorised : grin.Arms → Type 0
ArmsVectorised = EachArms vectorised_kind

more_target : (t : Target) (scope : Scope) (ys : List ℕ) → More scope.words ys
    → More (target_vars t) ys → More (with_target t scope).words ys
more_target to.Nothing scope ys m n = m
more_target (to.Node x) scope ys m n = m
more_target (to.One x) scope ys m n = more_append (x.0 ∷ []) scope.words ys n m
more_target (to.Vector xs) scope ys m n = more_append (numbers_of xs) scope.words ys n m

more_both : (xs ys zs : List ℕ) → More ys zs → More (xs ++ ys) (xs ++ zs)
more_both xs ys zs m = more_append xs ys (xs ++ zs) (more_left xs zs)
    (more_chain m (more_right xs zs))

module _ (g : grin.Program) (few_tags : length g.tags ≤ 2 ^ 32) (width : ℕ) (rs : List ℕ) where
  abbrev globals : ℕ
  globals = length g.globals

  module _ (scope : Scope) (ys : List ℕ) (m : More scope.words ys) where
    word_good : (a : W.Word) → WordFormed g scope a → WordRanged a → Good globals ys (operand_of a)
    word_good (word.Lit k) h r = (tt, pattern_small k r)
    word_good (word.Var x) h r = (m.by x.0 (among_in x.0 scope.words h), tt)
    word_good (word.Global i) h r = (h, tt)
    word_good (word.TagWord t) h r = (tt, omega (arith, h, few_tags))

    words_good : (ws : List W.Word) → AllOf (WordFormed g scope) ws → AllOf WordRanged ws
        → AllGood globals ys (operands_of_words ws)
    words_good [] h r = tt
    words_good (a ∷ ws) h r = (word_good a h.0 r.0, words_good ws h.1 r.1)

    value_good : (v : V.Val) → ValFormed g scope v → ValRanged v
        → AllGood globals ys (operands_of v)
    value_good (val.NodeVar x) h r = tt
    value_good (val.Node t ws) h r =
        ((tt, (let k = h.0 in omega (arith, k, few_tags))), words_good ws h.1 r)
    value_good (val.Vector ws) h r = words_good ws h r
    value_good (val.One a) h r = (word_good a h r, tt)

    cells_good : (cs : List C.Cell) → More (cell_vars cs) ys → AllOf (CellFormed g scope) cs
        → AllOf (λ c. ValRanged c.val) cs → AllOf (CellGood globals ys) cs
    cells_good [] l h r = tt
    cells_good (c ∷ cs) l h r = (
      (more_first c.var.0 (cell_vars cs) ys l, value_good c.val h.0 r.0),
      cells_good cs (more_rest c.var.0 (cell_vars cs) ys l) h.1 r.1,
    )

  tests_fine : (ys : List ℕ) (as' : List Operand) (s : S.Shape) → AllGood globals ys as'
      → ShapeFormed g s → ShapeRanged s → TestsFine globals ys (tests as' s) 2
  tests_fine ys as' (shape.Node t xs) a h r = tested_fine globals ys (nth_operand as' 0) t.0 1 []
      (nth_good globals as' 0 ys a) (omega (arith, h, few_tags)) (no_tests globals ys 1)
  tests_fine ys as' (shape.Int k) a h r = tested_fine globals ys (nth_operand as' 0) 0 1 _
      (nth_good globals as' 0 ys a) (omega arith)
      (tested_fine globals ys (nth_operand as' 1) (pattern k) 0 [] (nth_good globals as' 1 ys a)
      (pattern_small k r) (no_tests globals ys 0))
  tests_fine ys as' shape.Else a h r = no_tests globals ys 2

  -- ---- operations without blocks

  module _ (scope : Scope) (ys : List ℕ) (m : More scope.words ys) where
    failing : (xs : List ℕ) (c : low.Code) → Onward globals ys xs c
        → Fine globals ys (low.join xs low.fail c)
    failing xs c k = fine_join globals ys xs low.fail c (fine_fail globals ys)
        (k (xs ++ ys) (more_right xs ys) (more_left xs ys))

    calling : (f n r : ℕ) (as' : List Operand) (xs : List ℕ) (c : low.Code) → AllGood globals ys as'
        → Onward globals ys xs c → Fine globals ys
        (low.call f n as' (take r xs ++ numbers_from (suc n) (r - length xs))
        (set_all (drop r xs) [] c))
    calling f n r as' xs c h k =
        let more : List ℕ = numbers_from (suc n) (r - length xs) in
        let bound : List ℕ = take r xs ++ more in
        fine_call globals ys f n as' bound (set_all (drop r xs) [] c) h
        (sets_fine globals (drop r xs) [] (bound ++ ys) c tt
        (λ zs o l. k zs (more_chain (more_right bound ys) o)
        (more_parts r xs zs
        (more_chain (more_left (take r xs) more) (more_chain (more_left bound ys) o)) l)))

    plain_fine : (xs : List ℕ) (n : ℕ) (o : Act) (c : low.Code) → ActFormed g scope o
        → PlainRanged o → Onward globals ys xs c → Fine globals ys (plain_code width rs xs n o c)
    unfolding ActFormed
    plain_fine xs n (leaf (unit v)) c h r k = sets_fine globals xs (operands_of v) ys c
        (value_good scope ys m v h r) k
    plain_fine xs n (leaf (fetch a)) c h r k = loads_fine globals width xs (operand_of a) 0 ys c
        (word_good scope ys m a h r) k
    plain_fine xs n (leaf (fetch_word a i)) c h r k
        = first_fine globals xs (λ x. load_word width x (operand_of a) i) ys c
        (λ x b. word_fine globals width x (operand_of a) i ys b (word_good scope ys m a h r)) k
    plain_fine xs n (leaf (update a v)) c h r k = saves_fine globals (operand_of a) 0
        (padded_to_width width (operands_of v)) ys (set_all xs [] c)
        (word_good scope ys m a h.0 r.0)
        (fitted_good globals width (operands_of v) ys (value_good scope ys m v h.1 r.1))
        (sets_fine globals xs [] ys c tt k)
    plain_fine xs n (leaf (call f ws)) c h r k = calling f.0 n (results_of rs f.0)
        (operands_of_words ws) xs c (words_good scope ys m ws h.1 r) k
    plain_fine xs n (leaf (prim f a b)) c h r k = first_fine globals xs
        (λ x. low.prim (operation_of f) x (operand_of a) (operand_of b)) ys c
        (λ x e. fine_prim globals ys (operation_of f) x (operand_of a) (operand_of b) e
        (word_good scope ys m a h.0 r.0) (word_good scope ys m b h.1 r.1)) k
    plain_fine xs n (leaf read) c h r k = first_fine globals xs (λ x. low.get x) ys c
        (λ x b. fine_get globals ys x b) k
    plain_fine xs n (leaf (write a)) c h r k = fine_put globals ys (operand_of a) (set_all xs [] c)
        (word_good scope ys m a h r) (sets_fine globals xs [] ys c tt k)
    plain_fine xs n (leaf (eval a)) c h r k = failing xs c k
    plain_fine xs n (leaf (apply v a)) c h r k = failing xs c k
    plain_fine xs n (case v as') c h r k = failing xs c k
    plain_fine xs n (nested b) c h r k = failing xs c k
    plain_fine xs n (leaf fail) c h r k = failing xs c k

    through_fine : (goal : Goal) (n : ℕ) (o : Act) → ActFormed g scope o → PlainRanged o
        → Fine globals ys (through width rs goal n o)
    through_fine goal n o h r =
        let xs : List ℕ = numbers_from n (end_words width rs goal.words o) in
        plain_fine xs (n + end_words width rs goal.words o) o
        (low.give (padded_to_width goal.words (variables_of xs))) h r
        (λ zs l k. fine_give globals zs (padded_to_width goal.words (variables_of xs))
        (fitted_good globals goal.words (variables_of xs) zs (variables_good globals xs zs k)))

    plain_end_fine : (goal : Goal) (n : ℕ) (o : Act) → ActFormed g scope o → PlainRanged o
        → Fine globals ys (plain_end width rs goal n o)
    unfolding ActFormed
    plain_end_fine goal n (leaf (unit v)) h r = fine_give globals ys
        (padded_to_width goal.words (operands_of v))
        (fitted_good globals goal.words (operands_of v) ys (value_good scope ys m v h r))
    plain_end_fine goal n (leaf fail) h r = fine_fail globals ys
    plain_end_fine goal n (leaf (eval w)) h r = fine_fail globals ys
    plain_end_fine goal n (leaf (apply v w)) h r = fine_fail globals ys
    plain_end_fine goal n (leaf (call f ws)) h r = by goal.leaves
      where
        by : (b : Bool) → Fine globals ys
            (elim b [
              | true ↦ low.tail f.0 n (operands_of_words ws)
              | false ↦ through width rs goal n
                  (leaf (call f ws))
            ])
        by true = fine_tail globals ys f.0 n (operands_of_words ws) (words_good scope ys m ws h.1 r)
        by false = through_fine goal n (leaf (call f ws)) h r
    plain_end_fine goal n (leaf (fetch a)) h r = through_fine goal n (leaf (fetch a)) h r
    plain_end_fine goal n (leaf (fetch_word a i)) h r
        = through_fine goal n (leaf (fetch_word a i)) h r
    plain_end_fine goal n (leaf (update a v)) h r = through_fine goal n (leaf (update a v)) h r
    plain_end_fine goal n (leaf (prim f a b)) h r = through_fine goal n (leaf (prim f a b)) h r
    plain_end_fine goal n (leaf read) h r = through_fine goal n (leaf read) h r
    plain_end_fine goal n (leaf (write a)) h r = through_fine goal n (leaf (write a)) h r
    plain_end_fine goal n (case v as') h r = through_fine goal n (case v as') h r
    plain_end_fine goal n (nested b) h r = through_fine goal n (nested b) h r

  -- ---- all pieces

  mutual
    unfolding ActFormed EachAct ActRanged act_code act_numbers

    act_fine : (scope : Scope) (ys : List ℕ) (m : More scope.words ys) (xs : List ℕ) (n : ℕ)
        (o : Act) (c : low.Code) → ActFormed g scope o → ActRanged o → ActVectorised o
        → Onward globals ys xs c → Fine globals ys (act_code width rs xs n o c)
    act_fine scope ys m xs n (case v as') c h r e k
        = fine_join globals ys xs _ c
        (fine_choose globals ys _
        (arms_fine scope ys m (to_join xs) n (operands_of v) as' (value_good scope ys m v h.0 r.0)
        h.1 r.1 e.2)) (k (xs ++ ys) (more_right xs ys) (more_left xs ys))
    act_fine scope ys m xs n (nested b) c h r e k = fine_join globals ys xs _ c
        (code_fine scope ys m (to_join xs) n b h r e.1)
        (k (xs ++ ys) (more_right xs ys) (more_left xs ys))
    act_fine scope ys m xs n (leaf (unit v)) c h r e k
        = plain_fine scope ys m xs n (leaf (unit v)) c h r k
    act_fine scope ys m xs n (leaf (fetch a)) c h r e k
        = plain_fine scope ys m xs n (leaf (fetch a)) c h r k
    act_fine scope ys m xs n (leaf (fetch_word a i)) c h r e k
        = plain_fine scope ys m xs n (leaf (fetch_word a i)) c h r k
    act_fine scope ys m xs n (leaf (update a v)) c h r e k
        = plain_fine scope ys m xs n (leaf (update a v)) c h r k
    act_fine scope ys m xs n (leaf (eval a)) c h r e k
        = plain_fine scope ys m xs n (leaf (eval a)) c h r k
    act_fine scope ys m xs n (leaf (apply v a)) c h r e k
        = plain_fine scope ys m xs n (leaf (apply v a)) c h r k
    act_fine scope ys m xs n (leaf (call f ws)) c h r e k
        = plain_fine scope ys m xs n (leaf (call f ws)) c h r k
    act_fine scope ys m xs n (leaf (prim f a b)) c h r e k
        = plain_fine scope ys m xs n (leaf (prim f a b)) c h r k
    act_fine scope ys m xs n (leaf read) c h r e k = plain_fine scope ys m xs n (leaf read) c h r k
    act_fine scope ys m xs n (leaf (write a)) c h r e k
        = plain_fine scope ys m xs n (leaf (write a)) c h r k
    act_fine scope ys m xs n (leaf fail) c h r e k = plain_fine scope ys m xs n (leaf fail) c h r k

    end_fine : (scope : Scope) (ys : List ℕ) (m : More scope.words ys) (goal : Goal) (n : ℕ)
        (o : Act) → ActFormed g scope o → ActRanged o → ActVectorised o
        → Fine globals ys (end_code width rs goal n o)
    end_fine scope ys m goal n (case v as') h r e = fine_choose globals ys _
        (arms_fine scope ys m goal n (operands_of v) as' (value_good scope ys m v h.0 r.0) h.1 r.1
        e.2)
    end_fine scope ys m goal n (nested b) h r e = code_fine scope ys m goal n b h r e.1
    end_fine scope ys m goal n (leaf (unit v)) h r e
        = plain_end_fine scope ys m goal n (leaf (unit v)) h r
    end_fine scope ys m goal n (leaf (fetch a)) h r e
        = plain_end_fine scope ys m goal n (leaf (fetch a)) h r
    end_fine scope ys m goal n (leaf (fetch_word a i)) h r e
        = plain_end_fine scope ys m goal n (leaf (fetch_word a i)) h r
    end_fine scope ys m goal n (leaf (update a v)) h r e
        = plain_end_fine scope ys m goal n (leaf (update a v)) h r
    end_fine scope ys m goal n (leaf (eval a)) h r e
        = plain_end_fine scope ys m goal n (leaf (eval a)) h r
    end_fine scope ys m goal n (leaf (apply v a)) h r e
        = plain_end_fine scope ys m goal n (leaf (apply v a)) h r
    end_fine scope ys m goal n (leaf (call f ws)) h r e
        = plain_end_fine scope ys m goal n (leaf (call f ws)) h r
    end_fine scope ys m goal n (leaf (prim f a b)) h r e
        = plain_end_fine scope ys m goal n (leaf (prim f a b)) h r
    end_fine scope ys m goal n (leaf read) h r e = plain_end_fine scope ys m goal n (leaf read) h r
    end_fine scope ys m goal n (leaf (write a)) h r e
        = plain_end_fine scope ys m goal n (leaf (write a)) h r
    end_fine scope ys m goal n (leaf fail) h r e = plain_end_fine scope ys m goal n (leaf fail) h r

    pub code_fine : (scope : Scope) (ys : List ℕ) (m : More scope.words ys) (goal : Goal) (n : ℕ)
        (b : grin.Code) → CodeFormed g scope b → CodeRanged b → CodeVectorised b
        → Fine globals ys (code_code width rs goal n b)
    code_fine scope ys m goal n (end o) h r e = end_fine scope ys m goal n o h r e
    code_fine scope ys m goal n (store cs b) h r e =
        let zs : List ℕ = cell_vars cs ++ ys in
        let k : More (cell_vars cs ++ scope.words) zs = more_both (cell_vars cs) scope.words ys m in
        taken_fine globals (cell_vars cs) ys _
        (stores_fine globals width cs zs _
        (cells_good (with_word_variables (cell_vars cs) scope) zs k cs
        (more_left (cell_vars cs) ys) h.0 r.0)
        (code_fine (with_word_variables (cell_vars cs) scope) zs k goal n b h.1 r.1 e.1))
    code_fine scope ys m goal n (bind t o b) h r e = act_fine scope ys m (target_vars t) n o _ h.0
        r.0 e.1
        (λ zs l k. code_fine (with_target t scope) zs (more_target t scope zs (more_chain m l) k)
        goal (n + act_numbers width rs (length (target_vars t)) o) b h.1 r.1 e.2)

    arms_fine : (scope : Scope) (ys : List ℕ) (m : More scope.words ys) (goal : Goal) (n : ℕ)
        (as' : List Operand) (l : grin.Arms) → AllGood globals ys as' → ArmsFormed g scope l
        → ArmsRanged l → ArmsVectorised l → ArmsFine globals ys (arms_code width rs goal n as' l)
    arms_fine scope ys m goal n as' no_arm a h r e = fine_otherwise globals ys low.fail
        (fine_fail globals ys)
    arms_fine scope ys m goal n as' (arm s b no_arm) a h r e
        = fine_otherwise globals ys _
        (code_fine (with_word_variables (shape_vars s) scope) ys
        (subst (λ l. More (l ++ scope.words) ys) (sym e.0) m) goal n b h.1 r.1 e.1)
    arms_fine scope ys m goal n as' (arm s b (arm s' b' more)) a h r e
        = fine_arm globals ys (tests as' s) _ _ (tests_fine ys as' s a h.0 r.0)
        (code_fine (with_word_variables (shape_vars s) scope) ys
        (subst (λ l. More (l ++ scope.words) ys) (sym e.0) m) goal n b h.1 r.1 e.1)
        (arms_fine scope ys m goal (n + code_numbers width rs goal b) as' (arm s' b' more) a h.2 r.2
        e.2)

  -- ---- procedures

  pub record AllFine (qs : List low.Procedure) : Type 0 where
    pub scoped : AllScoped globals qs
    pub small : AllSmall qs
    pub few : AllFewTests qs

  pub procedures_fine : (n : ℕ) (ks : List ℕ) (qs : List grin.Procedure)
      → AllOf (ProcedureFormed g) qs → AllOf (λ q. CodeRanged q.body) qs
      → AllOf (λ q. CodeVectorised q.body) qs → AllFine (procedures_code width rs n ks qs)
  procedures_fine n [] qs h r e = record { scoped = tt; small = tt; few = tt }
  procedures_fine n (k ∷ ks) [] h r e = record { scoped = tt; small = tt; few = tt }
  procedures_fine n (k ∷ ks) (q ∷ qs) h r e =
      let f = code_fine (params_scope q) (numbers_of q.params) (more_self (numbers_of q.params))
      (record { words = k; leaves = true }) n q.body h.0 r.0 e.0 in
      let s = procedures_fine (n + procedure_numbers width rs k q) ks qs h.1 r.1 e.1 in
      record { scoped = (f.scoped, s.scoped); small = (f.small, s.small); few = (f.few, s.few) }
