-- What is known still holds where new variables are bound, and what a fit tells in an alternative.
use Rattle.std.proofs.Common.{◌≡◌, ℕ, zero, suc, ◌+◌, ◌≤◌, cond, nat_eq, List, [], ◌∷◌, map, length, Some, refl, sym, ap, ◌∙◌, subst, arith}
use Rattle.seq.proofs.Lists.{none_is_some, some_is}
use Rattle.seq.proofs.Order.{eq_self}
use Rattle.grin_syntax.specs.declared.program.VarId.{VarId}
use Rattle.grin_syntax.specs.declared.program.Target.{Target}
use Rattle.grin_syntax.specs.declared.program.Target.TheVariants as to
use Rattle.grin_syntax.specs.declared.program.Word as W
use Rattle.grin_syntax.specs.declared.program.Word.TheVariants.{Var}
use Rattle.grin_syntax.specs.declared.program.Val as V
use Rattle.grin_syntax.specs.Tree.{Program, Act, leaf, unit, case, nested, Procedure}
use Rattle.grin_syntax.specs.Binders.{numbers_of, target_vars, shape_vars}
use Rattle.grin_syntax.specs.Formed.{AllOf, Scope, WordFormed, ValFormed, ActFormed}
use Rattle.grin_meaning.specs.Values.{word_of, Datum, Value, node, words, Env, and_then, Binding, with_vars, one_each, padded, only_word, value_of, bindings_of, HeapCell, State, fits, fit_of}
use Rattle.grin_meaning.proofs.Bindings.{keys}
use Rattle.grin_meaning.proofs.Names.{Any}
use Rattle.grin_meaning.proofs.Plain.{Has, vars_have}
use Rattle.case_simplify.specs.Known.{Facts, told, note_known, note_copies, words_in, word_vars, known_after, facts_in_alternative}
use Rattle.case_simplify.proofs.Held.{some_and, one_each_keys, bindings_keys, datum_of, Holds, told_holds, IsHeld, data_of, Stand, no_word, next_word, value_stands, vars_other, holds_on, noted_holds}
use Rattle.case_simplify.proofs.Scoped.{noted_known, val_words, Inside, new_unknown}
use Rattle.seq.specs.Lists.{times}
use Rattle.grin_syntax.specs.declared.program.Shape.{Shape}
use Rattle.grin_syntax.specs.declared.program.Val.{Val}
use Rattle.grin_meaning.specs.Run.{Calls}
use Rattle.grin_meaning.specs.Ready.{NoNodeTarget}
use Rattle.grin_meaning.specs.Follows.{Same, same}
use Rattle.grin_meaning.proofs.Back.{CallsBack}
use Rattle.grin_meaning.proofs.Rules.{Relation, CallsFollow, FitsToo}
use Rattle.grin_meaning.proofs.Procedures.{side_by_side}
use Rattle.grin_meaning.proofs.Scopes.{Once}
use Rattle.grin_rewrite.proofs.Sides.{looking}
use Rattle.grin_rewrite.proofs.FactSides.{Gave}

-- the second has the variables of the first, and they hold what is known of them
abbrev pub Knowing : Program → Facts → Relation
Knowing g facts c env env' = Has Any env env' × Holds g facts env

module _ (g : Program) where
  -- ---- where variables are bound to data

  -- each of them stands for its own
  bound_there : (xs : List VarId) (ds : List Datum) (bs : List Binding) (env : Env)
      → one_each xs ds ≡ Some bs → ((y : ℕ) → times y (numbers_of xs) ≤ 1)
      → Stand g (with_vars bs env) (map Var xs) ds
  bound_there [] ds bs env e once = no_word ds
  bound_there (x ∷ xs) [] bs env e once = none_is_some e
  bound_there (x ∷ xs) (d ∷ ds) bs env e once =
      let z : (cs : List Binding) × (one_each xs ds ≡ Some cs)
      × (Some ((x.0, words (d ∷ [])) ∷ cs) ≡ Some bs)
      = some_and (one_each xs ds) (λ cs. Some ((x.0, words (d ∷ [])) ∷ cs)) bs e in
      let one : Env = with_vars ((x.0, words (d ∷ [])) ∷ []) env in
      let new : times x.0 (keys z.0) ≡ 0 = subst (λ l. times x.0 l ≡ 0)
      (sym (one_each_keys xs ds z.0 z.1))
      (let o : times x.0 (x.0 ∷ numbers_of xs) ≤ 1 = once x.0 in let c
      : cond {A = ℕ} (nat_eq x.0 x.0) 1 0 ≡ 1 = ap (λ b. cond {A = ℕ} b 1 0) (eq_self x.0)
      in omega (arith, o, c)) in
      let there : word_of g (with_vars z.0 one) (Var x) ≡ Some d
      = ap (λ o. and_then o only_word)
      (vars_other z.0 one x.0 new ∙ ap (λ b. cond b (Some (words (d ∷ []))) (env x.0))
      (eq_self x.0)) in
      subst (λ l. Stand g (with_vars l env) (map Var (x ∷ xs)) (d ∷ ds)) (some_is z.2)
      (next_word (Var x) d (map Var xs) ds there
      (bound_there xs ds z.0 one z.1
      (λ y. (let o : times y (x.0 ∷ numbers_of xs) ≤ 1 = once y in omega (arith, o)))))

  -- words in scope stand for what they did
  still_stand : (scope : Scope) (bs : List Binding) (env : Env)
      → ((y : ℕ) → times y scope.words + times y (keys bs) ≤ 1)
      → {ws : List W.Word} {ds : List Datum} → AllOf (WordFormed g scope) ws → Stand g env ws ds
      → Stand g (with_vars bs env) ws ds
  still_stand scope bs env once f (no_word ds) = no_word ds
  still_stand scope bs env once f (next_word w d ws ds e r)
      = next_word w d ws ds (past w f.0 ∙ e) (still_stand scope bs env once f.1 r)
    where
      past : (w : W.Word) → WordFormed g scope w → word_of g (with_vars bs env) w ≡ word_of g env w
      past (Var y) f = ap (λ o. and_then o only_word)
          (vars_other bs env y.0
          (let o : times y.0 scope.words + times y.0 (keys bs) ≤ 1 = once y.0
          in omega (arith, o, f)))
      past _ f = refl

  padded_stand : {env : Env} {ws : List W.Word} {ds : List Datum} (n : ℕ) → Stand g env ws ds
      → Stand g env ws (padded n ds)
  padded_stand n (no_word ds) = no_word (padded n ds)
  padded_stand zero (next_word w d ws ds e r) = next_word w d ws ds e r
  padded_stand (suc n) (next_word w d ws ds e r) = next_word w d ws (padded n ds) e
      (padded_stand n r)

  -- ---- the second's variables hold what is known too

  holds_too : (facts : Facts) (env env' : Env) → Has Any env env' → Holds g facts env
      → Holds g facts env'
  holds_too facts env env' r h y k e =
      let z : (v : Value) × (env y ≡ Some v) × (only_word v ≡ Some (datum_of g k))
      = some_and (env y) only_word (datum_of g k) (h y k e) in
      ap (λ o. and_then o only_word) (r y z.0 tt z.1) ∙ z.2

  module _ (env env' : Env) (has : Has Any env env') where
    copies_hold : (xs : List VarId) {ws : List W.Word} {ds : List Datum} (facts : Facts)
        → Stand g env (map Var xs) ds → Stand g env' ws ds → Holds g facts env
        → Holds g (note_copies xs ws facts) env
    copies_hold [] facts b r h = h
    copies_hold (x ∷ xs) facts b (no_word ds) h = h
    copies_hold (x ∷ xs) facts (next_word a c us es q b) (next_word w d ws ds e r) h =
        copies_hold xs (note_known x (told facts w) facts) b r
        (noted_known (IsHeld g env) facts x (told facts w)
        (λ k t. q ∙ sym e ∙ told_holds g facts env' (holds_too facts env env' has h) w k t) h)

  -- after a statement
  pub after_holds : (scope : Scope) (t : Target) (v : V.Val) (u : Value) (bs : List Binding)
      (facts : Facts) (env env' : Env) → Has Any env env' → value_of g env' v ≡ Some u
      → bindings_of g t u ≡ Some bs → ValFormed g scope v
      → ((y : ℕ) → times y scope.words + times y (target_vars t) ≤ 1)
      → Holds g facts (with_vars bs env) → Holds g
      (note_copies (word_vars t) (words_in v) facts) (with_vars bs env)
  after_holds scope t v u bs facts env env' has at e f once h =
      go t u e (λ y.
      (let o : times y scope.words + times y (target_vars t) ≤ 1 = once y in omega (arith, o)))
      (still_stand scope bs env'
      (λ y. subst (λ l. times y scope.words + times y l ≤ 1) (sym (bindings_keys g t u bs e))
      (once y)) (val_words g scope v f) (value_stands g env' v u at))
    where
      copied : (xs : List VarId) (ds : List Datum) → one_each xs ds ≡ Some bs
          → ((y : ℕ) → times y (numbers_of xs) ≤ 1) → Stand g (with_vars bs env') (words_in v) ds
          → Holds g (note_copies xs (words_in v) facts) (with_vars bs env)
      copied xs ds e o r = copies_hold (with_vars bs env) (with_vars bs env')
          (vars_have Any bs env env' has) xs facts (bound_there xs ds bs env e o) r h

      go : (t : Target) (u : Value) → bindings_of g t u ≡ Some bs
          → ((y : ℕ) → times y (target_vars t) ≤ 1)
          → Stand g (with_vars bs env') (words_in v) (data_of g u)
          → Holds g (note_copies (word_vars t) (words_in v) facts) (with_vars bs env)
      go to.Nothing u e o r = h
      go (to.Node x) u e o r = h
      go (to.One x) (words (d ∷ [])) e o r = copied (x ∷ []) (d ∷ []) e o r
      go (to.One x) _ e o r = none_is_some e
      go (to.Vector xs) (words ds) e o r = copied xs ds e o r
      go (to.Vector xs) (node m) e o r = copied xs _ e o (padded_stand (length xs) r)

  -- ---- two programs side by side

  -- new variables are bound alike
  pub knowing_on : (facts : Facts) (scope : Scope) (xs : List ℕ) (cells cells' : List HeapCell)
      (bs : List Binding) (env env' : Env) → Inside facts scope → Once scope xs → keys bs ≡ xs
      → Knowing g facts cells env env' → Knowing g facts cells' (with_vars bs env)
      (with_vars bs env')
  knowing_on facts scope xs cells cells' bs env env' inside once are r
      = (
        vars_have Any bs env env' r.0,
        holds_on g facts bs env
            (λ y k f. subst (λ l. times y l ≡ 0) (sym are) (new_unknown facts scope xs inside once y k f))
            r.1,
      )

  pub bound : (facts : Facts) (scope : Scope) (t : Target) (o : Act) (v : Value) (bs : List Binding)
      (c c' : List HeapCell) (env env' : Env) → Inside facts scope → Once scope (target_vars t)
      → NoNodeTarget t → ActFormed g scope o → Gave g env' o v → bindings_of g t v ≡ Some bs
      → Knowing g facts c env env' → Knowing g (known_after t o facts) c' (with_vars bs env)
      (with_vars bs env')
  unfolding ActFormed
  bound facts scope t (leaf (unit u)) v bs c c' env env' inside once no_node formed given e r =
      let on : Knowing g facts c' (with_vars bs env) (with_vars bs env')
      = knowing_on facts scope (target_vars t) c c' bs env env' inside once
      (bindings_keys g t v bs e) r in (
        on.0,
        after_holds scope t u v bs facts env env' r.0 given e formed
            (λ y. (let n : times y scope.nodes + times y scope.words + times y (target_vars t) ≤ 1
            = once y in omega (arith, n))) on.1,
      )
  bound facts scope t (leaf _) v bs c c' env env' inside once no_node formed given e r
      = knowing_on facts scope (target_vars t) c c' bs env env' inside once
      (bindings_keys g t v bs e) r
  bound facts scope t (case u as') v bs c c' env env' inside once no_node formed given e r
      = knowing_on facts scope (target_vars t) c c' bs env env' inside once
      (bindings_keys g t v bs e) r
  bound facts scope t (nested b) v bs c c' env env' inside once no_node formed given e r
      = knowing_on facts scope (target_vars t) c c' bs env env' inside once
      (bindings_keys g t v bs e) r

  -- over the value of a case
  abbrev pub OnOne : Facts → Val → Value → Relation
  OnOne facts v y cells env env' = Knowing g facts cells env env' × (value_of g env v ≡ Some y)

  module _ (facts : Facts) (v : Val) (s : Shape) (cells : List HeapCell) (env env' : Env)
      (bs : List Binding) (bare : shape_vars s ≡ []) where
    -- where a pattern fits, it binds nothing and tells what is noted
    pub fits_knowing : (y : Value) → OnOne facts v y cells env env' → fit_of g s y ≡ fits bs
        → Knowing g (facts_in_alternative v s facts) cells (with_vars bs env) env'
    fits_knowing y r e =
        let z : (bs ≡ []) × Holds g (facts_in_alternative v s facts) env
        = noted_holds g env v y r.1 facts s bs r.0.1 bare e in
        subst (λ l. Knowing g (facts_in_alternative v s facts) cells (with_vars l env) env')
        (sym z.0) (r.0.0, z.1)

    module _ (P : State → Type 0) (procs : List Procedure) (c c' : Calls) (cb : CallsBack P c)
        (cf : CallsFollow (looking g P procs) c c') where
      pub fits_both : {y y' : Value} → Same y y' → OnOne facts v y cells env env'
          → fit_of g s y ≡ fits bs → FitsToo (side_by_side (looking g P procs) c c' cb cf)
          (Knowing g (facts_in_alternative v s facts)) s env env' cells y' bs
      fits_both (same {a = y}) r e =
          let z : (bs ≡ []) × Holds g (facts_in_alternative v s facts) env
          = noted_holds g env v y r.1 facts s bs r.0.1 bare e in
          record {
            bs' = bs;
            fit = e;
            related = (
              vars_have Any bs env env' r.0.0,
              subst
                  (λ l. Holds g (facts_in_alternative v s facts) (with_vars l env)) (sym z.0) z.1,
            );
          }
