-- The caller fetches the fields of a cell before the call.
use Rattle.std.proofs.Common.{◌≡◌, ℕ, suc, ◌+◌, ◌≤◌, true, cond, nat_eq, List, [], ◌∷◌, ◌++◌, map, length, Option, Some, None, slice_get, refl, ap, ◌∙◌, subst, arith}
use Rattle.grin_syntax.specs.declared.program.Target.TheVariants as to
use Rattle.grin_syntax.specs.declared.program.Word.{Word}
use Rattle.grin_syntax.specs.declared.program.Word.TheVariants.{Var}
use Rattle.grin_syntax.specs.Tree.{Code, bind, leaf, fetch_word, Program}
use Rattle.grin_syntax.specs.Fresh.{variable, variables}
use Rattle.grin_meaning.specs.Values.{Datum, cell, Value, words, Env, HeapCell, State, World, Answer, gives, then_do, need, and_then, with_vars, only_word, word_of, words_of, bindings_of}
use Rattle.grin_meaning.specs.Run.{Calls, act_by, code_by, require_if_checked, with_state_seen, place_of, node_word, nth_or_zero}
use Rattle.grin_meaning.specs.Checks.{is_bound_well}
use Rattle.raise_theory.specs.Raising.{Raising, Decisions, field_fetches, fetches_for, arguments_for}
use Rattle.raise_theory.proofs.Related.{EachIs, each_same, Agrees, Held, ArgsFor, CellsReady}
use Rattle.raise_theory.proofs.Entry.{row_each}
use Rattle.grin_meaning.proofs.Bindings.{named, named_below}

agrees_self : (n : ℕ) (env : Env) → Agrees n env env
agrees_self n env y lt = refl

agrees_on : (n m : ℕ) (env env1 env2 : Env) → n ≤ m → Agrees n env env1 → Agrees m env1 env2
    → Agrees n env env2
agrees_on n m env env1 env2 le h k y lt = k y (omega (arith, le, lt)) ∙ h y lt

-- ---- words

-- a first word is there, and the others
record FirstWord (g : Program) (env : Env) (a : Word) (ws : List Word) (x : Datum) (xs : List Datum)
    : Type 0 where
  pub first : word_of g env a ≡ Some x
  pub others : words_of g env ws ≡ Some xs

first_word : (g : Program) (env : Env) (a : Word) (ws : List Word) (x : Datum) (xs : List Datum)
    → words_of g env (a ∷ ws) ≡ Some (x ∷ xs) → FirstWord g env a ws x xs
first_word g env a ws x xs e = go (word_of g env a) refl (words_of g env ws) refl e
  where
    go : (o : Option Datum) → word_of g env a ≡ o → (p : Option (List Datum))
        → words_of g env ws ≡ p → and_then o (λ b. and_then p (λ bs. Some (b ∷ bs))) ≡ Some (x ∷ xs)
        → FirstWord g env a ws x xs
    go None q p r k = cc
    go (Some b) q None r k = cc
    go (Some b) q (Some bs) r k =
        let h : b ≡ x = cc in
        let t : bs ≡ xs = cc in
        record { first = q ∙ ap Some h; others = r ∙ ap Some t }

no_words : (g : Program) (env : Env) (a : Word) (ws : List Word) → words_of g env (a ∷ ws) ≡ Some []
    → ⊥
no_words g env a ws e = go (word_of g env a) (words_of g env ws) e
  where
    go : (o : Option Datum) (p : Option (List Datum))
        → and_then o (λ b. and_then p (λ bs. Some (b ∷ bs))) ≡ Some [] → ⊥
    go None p k = cc
    go (Some b) None k = cc
    go (Some b) (Some bs) k = cc

words_more : (g : Program) (env : Env) (n : ℕ) (fs : List Datum) (ws : List Word) (xs : List Datum)
    → EachIs env n fs → words_of g env ws ≡ Some xs
    → words_of g env (map Var (variables n (length fs)) ++ ws) ≡ Some (fs ++ xs)
words_more g env n [] ws xs h e = e
words_more g env n (d ∷ fs) ws xs h e =
    ap (λ o. and_then (and_then o only_word)
    (λ b. and_then (words_of g env (map Var (variables (suc n) (length fs)) ++ ws))
    (λ bs. Some (b ∷ bs)))) h.0
    ∙ ap (λ o. and_then o (λ bs. Some (d ∷ bs))) (words_more g env (suc n) fs ws xs h.1 e)

-- ---- the fields of one cell

module _ (h : Program) (c' : Calls) (d' : ℕ) where
  -- the second comes from a block to another, by binding alone
  pub record Comes (env : Env) (w : World) (from to' : Code) (env2 : Env) : Type 0 where
    pub seen : List State
    pub is : code_by h c' true env d' from w ≡ code_by h c' true env2 d' to'
        (record w { seen = seen })

  one_fetch : (env : Env) (w : World) (a : Word) (c : ℕ) (y : HeapCell) (n i : ℕ) (x : Datum)
      (b : Code) → word_of h env a ≡ Some (cell c) → slice_get w.cells c ≡ Some y
      → nth_or_zero y.node.fields i ≡ x
      → code_by h c' true env d' (bind (to.One (variable n)) (leaf (fetch_word a (suc i))) b) w
      ≡ code_by h c' true (λ z. cond (nat_eq z n) (Some (words (x ∷ []))) (env z)) d' b
      (with_state_seen (λ z. cond (nat_eq z n) (Some (words (x ∷ []))) (env z)) w)
  unfolding act_by
  one_fetch env w a c y n i x b e q f =
      ap (λ o. then_do
      (need (and_then o place_of) w
      (λ k. need (slice_get w.cells k) w
      (λ z. gives (words (node_word z.node (suc i) ∷ [])) w))) rest) e
      ∙ ap (λ o. then_do (need o w (λ z. gives (words (node_word z.node (suc i) ∷ [])) w)) rest) q
      ∙ ap (λ u. rest (words (u ∷ [])) w) f
    where
      rest : Value → World → Answer
      rest v w' = require_if_checked true
          (is_bound_well h (to.One (variable n)) (leaf (fetch_word a (suc i))) v) w'
          (need (bindings_of h (to.One (variable n)) v) w'
          (λ bs. code_by h c' true (with_vars bs env) d' b (with_state_seen (with_vars bs env) w')))

  field_comes : (a : Word) (c : ℕ) (y : HeapCell) (b : Code) (fs : List Datum) (n i : ℕ) (env : Env)
      (w : World) → ((env2 : Env) → Agrees n env env2 → word_of h env2 a ≡ Some (cell c))
      → slice_get w.cells c ≡ Some y
      → ((j : ℕ) → nth_or_zero y.node.fields (i + j) ≡ nth_or_zero fs j)
      → Comes env w (field_fetches a n i (length fs) b) b (with_vars (named n fs) env)
  field_comes a c y b [] n i env w e q f = record { seen = w.seen; is = refl }
  field_comes a c y b (d ∷ fs) n i env w e q f =
      let rest : Comes env1 (with_state_seen env1 w) (field_fetches a (suc n) (suc i) (length fs) b)
      b (with_vars (named (suc n) fs) env1)
      = field_comes a c y b fs (suc n) (suc i) env1 (with_state_seen env1 w)
      (λ env2 g. e env2
      (agrees_on n (suc n) env env1 env2 (omega arith) (named_below n (d ∷ []) env) g)) q later
      in
      record {
        seen = rest.seen;
        is = one_fetch env w a c y n i d
            (field_fetches a (suc n) (suc i) (length fs) b) (e env (agrees_self n env)) q here ∙
            rest.is;
      }
    where
      here : nth_or_zero y.node.fields i ≡ d
      here = ap (nth_or_zero y.node.fields) (let z : i ≡ i + 0 = omega arith in z) ∙ f 0

      env1 : Env
      env1 = λ z. cond (nat_eq z n) (Some (words (d ∷ []))) (env z)

      later : (j : ℕ) → nth_or_zero y.node.fields (suc i + j) ≡ nth_or_zero fs j
      later j = ap (nth_or_zero y.node.fields) (let z : suc i + j ≡ i + suc j = omega arith in z) ∙
          f (suc j)

  -- ---- the fields for a call

  module _ (F : List HeapCell) where
    pub record Fetched (n : ℕ) (env : Env) (w : World) (from to' : Code) (ds : Decisions)
        (args : List Word) (xs : List Datum) : Type 0 where
      pub env2 : Env
      pub comes : Comes env w from to' env2
      pub agrees : Agrees n env env2
      pub xs' : List Datum
      pub there : words_of h env2 args ≡ Some xs'
      pub related : ArgsFor F ds xs xs'

    -- words that are there, whatever is bound from n on
    abbrev pub Steady : ℕ → Env → List Word → List Datum → Type 0
    Steady n env ws xs = (env2 : Env) → Agrees n env env2 → words_of h env2 ws ≡ Some xs

    stays_fetched : (b : Code) (ds : Decisions) (a : Word) (ws : List Word) (x : Datum)
        (xs : List Datum) (n : ℕ) (env : Env) (w : World) → Steady n env (a ∷ ws) (x ∷ xs)
        → Fetched (n + 0) env w (fetches_for (n + 0) ds ws b) b ds (arguments_for (n + 0) ds ws) xs
        → Fetched n env w (fetches_for n (None ∷ ds) (a ∷ ws) b) b (None ∷ ds)
        (arguments_for n (None ∷ ds) (a ∷ ws)) (x ∷ xs)
    stays_fetched b ds a ws x xs n env w s k = record {
      env2 = k.env2;
      comes = k.comes;
      agrees = agrees;
      xs' = x ∷ k.xs';
      there = ap
          (λ o. and_then o
          (λ b. and_then (words_of h k.env2 (arguments_for (n + 0) ds ws)) (λ bs. Some (b ∷ bs))))
          (first_word h k.env2 a ws x xs (s k.env2 agrees)).first ∙ ap
          (λ o. and_then o (λ bs. Some (x ∷ bs))) k.there;
      related = (k.xs', refl, k.related);
    }
      where
        agrees : Agrees n env k.env2
        agrees y lt = k.agrees y (omega (arith, lt))

    fields_fetched : (b : Code) (r : Raising) (ds : Decisions) (a : Word) (ws : List Word)
        (x : Datum) (xs : List Datum) (n : ℕ) (env : Env) (w : World) (held : Held F r x)
        (one : Comes env w (field_fetches a n 0 r.fields (fetches_for (n + r.fields) ds ws b))
        (fetches_for (n + r.fields) ds ws b) (with_vars (named n held.y.node.fields) env))
        → Fetched (n + r.fields) (with_vars (named n held.y.node.fields) env)
        (record w { seen = one.seen }) (fetches_for (n + r.fields) ds ws b) b ds
        (arguments_for (n + r.fields) ds ws) xs
        → Fetched n env w (fetches_for n (Some r ∷ ds) (a ∷ ws) b) b (Some r ∷ ds)
        (arguments_for n (Some r ∷ ds) (a ∷ ws)) (x ∷ xs)
    fields_fetched b r ds a ws x xs n env w held one k = record {
      env2 = k.env2;
      comes = record { seen = k.comes.seen; is = one.is ∙ k.comes.is };
      agrees = λ y lt. k.agrees y (omega (arith, lt)) ∙ named_below n fs env y lt;
      xs' = fs ++ k.xs';
      there = subst
          (λ m. words_of h k.env2 (map Var (variables n m) ++ arguments_for (n + r.fields) ds ws) ≡
          Some (fs ++ k.xs')) held.many
          (words_more h k.env2 n fs (arguments_for (n + r.fields) ds ws) k.xs' each k.there);
      related = (held, k.xs', refl, k.related);
    }
      where
        fs : List Datum
        fs = held.y.node.fields

        each : EachIs k.env2 n fs
        each = each_same (with_vars (named n fs) env) k.env2 n fs
            (λ j le lt. k.agrees j
            (let m : length fs ≡ r.fields = held.many in omega (arith, lt, m))) (row_each n fs env)

    pub args_come : (b : Code) (ds : Decisions) (ws : List Word) (xs : List Datum) (n : ℕ)
        (env : Env) (w : World) → Steady n env ws xs → CellsReady F w.cells ds xs
        → Fetched n env w (fetches_for n ds ws b) b ds (arguments_for n ds ws) xs
    args_come b [] ws xs n env w s q = record {
      env2 = env;
      comes = record { seen = w.seen; is = refl };
      agrees = agrees_self n env;
      xs'
          = xs;
      there = s env (agrees_self n env);
      related = refl;
    }
    args_come b (d ∷ ds) [] [] n env w s q = record {
      env2 = env;
      comes = record { seen = w.seen; is = refl };
      agrees = agrees_self n env;
      xs'
          = [];
      there = refl;
      related = refl;
    }
    args_come b (d ∷ ds) [] (x ∷ xs) n env w s q = let e : Some [] ≡ Some (x ∷ xs)
        = s env (agrees_self n env) in cc
    args_come b (d ∷ ds) (a ∷ ws) [] n env w s q = absurd
        (no_words h env a ws (s env (agrees_self n env)))
    args_come b (None ∷ ds) (a ∷ ws) (x ∷ xs) n env w s q
        = stays_fetched b ds a ws x xs n env w s
        (args_come b ds ws xs (n + 0) env w
        (λ env2 g. (first_word h env2 a ws x xs (s env2 (λ y lt. g y (omega (arith, lt))))).others)
        q)
    args_come b (Some r ∷ ds) (a ∷ ws) (x ∷ xs) n env w s q
        = fields_fetched b r ds a ws x xs n env w held one
        (args_come b ds ws xs (n + r.fields) (with_vars (named n held.y.node.fields) env)
        (record w { seen = one.seen })
        (λ env2 g. (first_word h env2 a ws x xs (s env2 (below env2 g))).others) q.2)
      where
        held : Held F r x
        held = q.0

        rest : Code
        rest = fetches_for (n + r.fields) ds ws b

        one : Comes env w (field_fetches a n 0 r.fields rest) rest
            (with_vars (named n held.y.node.fields) env)
        one = subst
            (λ m. Comes env w (field_fetches a n 0 m rest) rest
            (with_vars (named n held.y.node.fields) env)) held.many
            (field_comes a held.c held.y rest held.y.node.fields n 0 env w
            (λ env2 g. (first_word h env2 a ws x xs (s env2 g)).first ∙ ap Some held.is) q.1
            (λ j. ap (nth_or_zero held.y.node.fields) (let z : 0 + j ≡ j = omega arith in z)))

        below : (env2 : Env) → Agrees (n + r.fields) (with_vars (named n held.y.node.fields) env)
            env2 → Agrees n env env2
        below env2 g y lt = g y (omega (arith, lt)) ∙ named_below n held.y.node.fields env y lt
