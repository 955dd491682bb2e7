-- A program without nested blocks does the same.
use Rattle.std.proofs.Common.{◌≡◌, ℕ, suc, ◌+◌, ◌≤◌, true, List, [], ◌∷◌, ◌++◌, map, Some, sym, subst, arith}
use Rattle.seq.specs.Lists.{times}
use Rattle.seq.proofs.Counted.{times_append}
use Rattle.grin_syntax.specs.declared.program.Cell.{Cell}
use Rattle.grin_syntax.specs.declared.program.Target.{Target}
use Rattle.grin_syntax.specs.declared.program.Word as W
use Rattle.grin_syntax.specs.declared.program.Word.TheVariants.{Lit, Var, Global, TagWord}
use Rattle.grin_syntax.specs.declared.program.Val as V
use Rattle.grin_syntax.specs.declared.program.Val.TheVariants.{NodeVar, Node, Vector, One}
use Rattle.grin_syntax.specs.Tree.{Code, end, store, bind, Act, Leaf, leaf, unit, fetch, fetch_word, update, eval, apply, call, prim, read, write, case, nested, fail, Arms, no_arm, arm, Procedure, Program}
use Rattle.grin_syntax.specs.Binders.{numbers_of, target_vars, shape_vars, cell_vars, act_vars, code_vars, arms_vars, procs_vars}
use Rattle.grin_syntax.specs.Formed.{AllOf, Scope, InScope, with_word_variables, with_target, params_scope, WordFormed, ValFormed, CellFormed, ActFormed, CodeFormed, ArmsFormed, ProcedureFormed, Formed}
use Rattle.grin_meaning.specs.Values.{Datum, Value, Binding, with_vars, one_each}
use Rattle.grin_meaning.specs.Run.{Calls}
use Rattle.grin_meaning.specs.Checks.{is_given, is_bound_well}
use Rattle.grin_meaning.specs.Follows.{Same, same}
use Rattle.grin_meaning.specs.Keeps.{Keeps}
use Rattle.grin_meaning.specs.Looking.{checked_run, CheckedRunsNeverMissing}
use Rattle.grin_meaning.specs.Names.{WordOk, WordsOk, ValOk, CellsOk, ActOk}
use Rattle.grin_meaning.specs.Ready.{NoNodeTarget, NoNodeVar, EachAct, EachCode, EachArms, EveryBodyIsOfKind, IsVectorised, vectorised_kind}
use Rattle.grin_meaning.specs.Rewritten.{rewritten_procedure}
use Rattle.grin_meaning.specs.Spliced.{spliced}
use Rattle.grin_meaning.proofs.Back.{CallsBack}
use Rattle.grin_meaning.proofs.Beside.{no_deeper, Likewise, Seen}
use Rattle.grin_meaning.proofs.Rules.{Setting, CallsFollow, ActFollows, CodeFollows, ArmsFollow, end_follows}
use Rattle.grin_meaning.proofs.Procedures.{BodiesFollow, no_more, one_more, run_follows}
use Rattle.grin_meaning.proofs.Plain.{Has, IsPlain, On, having, leaf_follows, case_same, no_arm_same, arm_same}
use Rattle.grin_meaning.proofs.Bodies.{AnyState, every_any}
use Rattle.grin_meaning.proofs.KeptBy.{likewise_kept, looking_kept}
use Rattle.grin_meaning.proofs.Paired.{nothing}
use Rattle.pass_flat.specs.Flat.{flat_act, flat_code, flat_arms, flat}
use Rattle.pass_flat.proofs.Inside.{Apart, target_words, plan, it, R, SplicesTo, splices_end, splices_nested, splices_bind, splices_within, splices_store, code_store, code_nested, code_bind, code_within}

-- ---- what a well-formed piece mentions is in scope

module _ (g : Program) (scope : Scope) where
  word_ok : (a : W.Word) → WordFormed g scope a → WordOk (InScope scope.words) a
  word_ok (Var x) f = f
  word_ok (Lit k) f = tt
  word_ok (Global i) f = tt
  word_ok (TagWord t) f = tt

  words_ok : (ws : List W.Word) → AllOf (WordFormed g scope) ws → WordsOk (InScope scope.words) ws
  words_ok [] f = tt
  words_ok (a ∷ ws) f = (word_ok a f.0, words_ok ws f.1)

  val_ok : (v : V.Val) → NoNodeVar v → ValFormed g scope v → ValOk (InScope scope.words) v
  val_ok (NodeVar x) n f = absurd n
  val_ok (Node t ws) n f = words_ok ws f.1
  val_ok (Vector ws) n f = words_ok ws f
  val_ok (One a) n f = word_ok a f

  cells_ok : (cs : List Cell) → AllOf (λ c. NoNodeVar c.val) cs → AllOf (CellFormed g scope) cs
      → CellsOk (InScope scope.words) cs
  cells_ok [] n f = tt
  cells_ok (c ∷ cs) n f = (val_ok c.val n.0 f.0, cells_ok cs n.1 f.1)

-- ---- where variables stand

module _ (ws : List ℕ) where
  apart_left : (xs ys : List ℕ) → Apart ws (xs ++ ys) → Apart ws xs
  apart_left xs ys h y = let e : times y (xs ++ ys) ≡ times y xs + times y ys = times_append y xs ys
      in let a : times y ws + times y (xs ++ ys) ≤ 1 = h y in omega (arith, e, a)

  apart_right : (xs ys : List ℕ) → Apart ws (xs ++ ys) → Apart ws ys
  apart_right xs ys h y = let e : times y (xs ++ ys) ≡ times y xs + times y ys
      = times_append y xs ys in let a : times y ws + times y (xs ++ ys) ≤ 1 = h y
      in omega (arith, e, a)

  apart_on : (xs ys : List ℕ) → Apart ws (xs ++ ys) → Apart (xs ++ ws) ys
  apart_on xs ys h y =
      let e : times y (xs ++ ys) ≡ times y xs + times y ys = times_append y xs ys in
      let f : times y (xs ++ ws) ≡ times y xs + times y ws = times_append y xs ws in
      let a : times y ws + times y (xs ++ ys) ≤ 1 = h y in
      omega (arith, e, f, a)

  -- behind a target and an operation
  apart_past : (xs os ys : List ℕ) → Apart ws (xs ++ (os ++ ys)) → Apart ws (xs ++ ys)
  apart_past xs os ys h y =
      let e : times y (xs ++ (os ++ ys)) ≡ times y xs + times y (os ++ ys)
      = times_append y xs (os ++ ys) in
      let f : times y (os ++ ys) ≡ times y os + times y ys = times_append y os ys in
      let k : times y (xs ++ ys) ≡ times y xs + times y ys = times_append y xs ys in
      let a : times y ws + times y (xs ++ (os ++ ys)) ≤ 1 = h y in
      omega (arith, e, f, k, a)

module _ (g : Program) where
  abbrev procs : List Procedure
  procs = map (rewritten_procedure flat_code) g.procs

  plain : IsPlain (plan g procs)
  plain = record
      { heaps_are = λ h. h; same_heaps = λ c. same; args = λ f xs. same; results = λ f v v' u. u }

  module _ (c c' : Calls) (cb : CallsBack AnyState c) (cf : CallsFollow (plan g procs) c c') where
    abbrev st : Setting
    st = it g procs c c' cb cf

    abbrev Acts : List ℕ → Act → Act → Type 0
    Acts ws = ActFollows st (R g procs c c' cb cf ws) Same

    abbrev Codes : List ℕ → Code → Code → Type 0
    Codes ws = CodeFollows st (R g procs c c' cb cf ws) Same

    abbrev Splices : List ℕ → Code → Code → Type 0
    Splices ws = SplicesTo g procs c c' cb cf ws

    -- an operation and the block that gives what it gives, wherever it stands
    record ActGoes (ws : List ℕ) (o : Act) (b' : Code) : Type 0 where
      ends : Codes ws (end o) b'
      inside : Splices ws (end o) b'
      binds : (t : Target) (b k : Code) → NoNodeTarget t → Codes (target_vars t ++ ws) b k
          → Codes ws (bind t o b) (spliced b' t k)
      binds_inside : (t : Target) (b k : Code) → NoNodeTarget t → Apart ws (target_vars t)
          → Splices (target_vars t ++ ws) b k → Splices ws (bind t o b) (spliced b' t k)

    record CodeGoes (ws : List ℕ) (b b' : Code) : Type 0 where
      alone : Codes ws b b'
      within : Splices ws b b'

    -- an operation that stays one
    stays_act : (ws : List ℕ) (o o' : Act) →
        ((t : Target) (v : Value) → is_bound_well g t o v ≡ true → is_bound_well g t o' v ≡ true)
        → Acts ws o o' → ActGoes ws o (end o')
    unfolding spliced
    stays_act ws o o' well f = record {
      ends = end_follows st o o' f;
      inside = splices_end g procs c c' cb cf ws o o' f;
      binds = λ t b k none r. code_bind g procs c c' cb cf ws t o o' b k (well t) f r;
      binds_inside = λ t b k none apart r. splices_bind g procs c c' cb cf ws t o o' b k apart
          (well t) f r;
    }

    leaf_goes : (ws : List ℕ) (l : Leaf) → ActOk (InScope ws) (leaf l)
        → ActGoes ws (leaf l) (end (leaf l))
    leaf_goes ws l ok = stays_act ws (leaf l) (leaf l) (λ t v h. h)
        (leaf_follows st plain (having (InScope ws)) l ok)

    -- a nested block
    nested_goes : (ws : List ℕ) (b b' : Code) → CodeGoes ws b b' → ActGoes ws (nested b) b'
    nested_goes ws b b' f = record {
      ends = code_nested g procs c c' cb cf ws b b' f.alone;
      inside = splices_nested g procs c c' cb cf ws b b' f.within;
      binds = λ t b2 k none r. code_within g procs c c' cb cf ws t b b' b2 k none f.within r;
      binds_inside = λ t b2 k none apart r. splices_within g procs c c' cb cf ws t b b' b2 k none
          apart f.within r;
    }

    mutual
      unfolding flat_act ActFormed EachAct act_vars ActOk

      act_goes : (o : Act) (scope : Scope) → Apart scope.words (act_vars o) → ActFormed g scope o
          → EachAct vectorised_kind o → ActGoes scope.words o (flat_act o)
      act_goes (case v as') scope a f n = stays_act scope.words (case v as')
          (case v (flat_arms as')) (λ t v h. h)
          (case_same st plain (having (InScope scope.words)) v as' (flat_arms as')
          (val_ok g scope v n.1 f.0) (arms_go as' scope a f.1 n.2))
      act_goes (nested b) scope a f n = nested_goes scope.words b (flat_code b)
          (code_goes b scope a f n.1)
      act_goes (leaf (unit v)) scope a f n = leaf_goes scope.words (unit v) (val_ok g scope v n.1 f)
      act_goes (leaf (fetch w)) scope a f n = leaf_goes scope.words (fetch w) (word_ok g scope w f)
      act_goes (leaf (fetch_word w i)) scope a f n = leaf_goes scope.words (fetch_word w i)
          (word_ok g scope w f)
      act_goes (leaf (update w v)) scope a f n = leaf_goes scope.words (update w v)
          (word_ok g scope w f.0, val_ok g scope v n.1 f.1)
      act_goes (leaf (eval w)) scope a f n = leaf_goes scope.words (eval w) (word_ok g scope w f)
      act_goes (leaf (apply v w)) scope a f n = leaf_goes scope.words (apply v w)
          (val_ok g scope v n.1 f.0, word_ok g scope w f.1)
      act_goes (leaf (call p ws)) scope a f n = leaf_goes scope.words (call p ws)
          (words_ok g scope ws f.1)
      act_goes (leaf (prim p w u)) scope a f n = leaf_goes scope.words (prim p w u)
          (word_ok g scope w f.0, word_ok g scope u f.1)
      act_goes (leaf read) scope a f n = leaf_goes scope.words read tt
      act_goes (leaf (write w)) scope a f n = leaf_goes scope.words (write w) (word_ok g scope w f)
      act_goes (leaf fail) scope a f n = leaf_goes scope.words fail tt

      code_goes : (b : Code) (scope : Scope) → Apart scope.words (code_vars b)
          → CodeFormed g scope b → EachCode vectorised_kind b → CodeGoes scope.words b (flat_code b)
      code_goes (end o) scope a f n = let x = act_goes o scope a f n
          in record { alone = x.ends; within = x.inside }
      code_goes (store cs b) scope a f n =
          let inner : Scope = with_word_variables (cell_vars cs) scope in
          let x = code_goes b inner (apart_on scope.words (cell_vars cs) (code_vars b) a) f.1 n.1 in
          let ok : CellsOk (InScope inner.words) cs = cells_ok g inner cs n.0 f.0 in
          record {
            alone = code_store g procs c c' cb cf scope.words cs b (flat_code b) ok x.alone;
            within = splices_store g procs c c' cb cf scope.words cs b (flat_code b)
                (apart_left scope.words (cell_vars cs) (code_vars b) a) ok x.within;
          }
      code_goes (bind t o b) scope a f n =
          let later : Apart scope.words (target_vars t ++ code_vars b)
          = apart_past scope.words (target_vars t) (act_vars o) (code_vars b) a in
          let here : (with_target t scope).words ≡ target_vars t ++ scope.words
          = target_words t scope n.0 in
          let x = act_goes o scope
          (apart_left scope.words (act_vars o) (code_vars b)
          (apart_right scope.words (target_vars t) (act_vars o ++ code_vars b) a)) f.0 n.1 in
          let y : CodeGoes (target_vars t ++ scope.words) b (flat_code b)
          = subst (λ l. CodeGoes l b (flat_code b)) here
          (code_goes b (with_target t scope)
          (subst (λ l. Apart l (code_vars b)) (sym here)
          (apart_on scope.words (target_vars t) (code_vars b) later)) f.1 n.2) in
          record {
            alone = x.binds t b (flat_code b) n.0 y.alone;
            within = x.binds_inside t b (flat_code b) n.0
                (apart_left scope.words (target_vars t) (code_vars b) later) y.within;
          }

      arms_go : (as' : Arms) (scope : Scope) → Apart scope.words (arms_vars as')
          → ArmsFormed g scope as' → EachArms vectorised_kind as'
          → ArmsFollow st (On (R g procs c c' cb cf scope.words)) Same as' (flat_arms as')
      arms_go no_arm scope a f n = no_arm_same st plain (having (InScope scope.words))
      arms_go (arm s b as') scope a f n =
          let here : Apart scope.words (code_vars b ++ arms_vars as')
          = apart_right scope.words (shape_vars s) (code_vars b ++ arms_vars as') a in
          arm_same st plain (having (InScope scope.words)) s b (flat_code b) as' (flat_arms as')
          (code_goes b scope (apart_left scope.words (code_vars b) (arms_vars as') here)
          (subst (λ xs. CodeFormed g (with_word_variables xs scope) b) n.0 f.1) n.1).alone
          (arms_go as' scope (apart_right scope.words (code_vars b) (arms_vars as') here) f.2 n.2)

    enters_same : (q : Procedure) (ws : List ℕ) {xs xs' : List Datum} (bs : List Binding)
        → Same xs xs' → one_each q.params xs ≡ Some bs
        → (bs' : List Binding) × (one_each q.params xs' ≡ Some bs')
        × Has (InScope ws) (with_vars bs nothing) (with_vars bs' nothing)
    enters_same q ws bs same e = (bs, e, λ y v i k. k)

    given_same : {v v' : Value} → Same v v' → Seen true (is_given g v) → Seen true (is_given g v')
        × Same v v'
    given_same same seen = (seen, same)

    bodies_go : (f : ℕ) (qs : List Procedure) → ((y : ℕ) → times y (procs_vars qs) ≤ 1)
        → AllOf (ProcedureFormed g) qs → EveryBodyIsOfKind vectorised_kind qs
        → BodiesFollow st f qs (map (rewritten_procedure flat_code) qs)
    bodies_go f [] once fs ns = no_more
    bodies_go f (q ∷ qs) once fs ns = one_more {f = f} {q = q} {r = rewritten_procedure flat_code q}
        (record {
          R = R g procs c c' cb cf (numbers_of q.params);
          V = Same;
          enters = λ heap xs xs' bs a e known. enters_same q (numbers_of q.params) bs a e;
          body = (code_goes q.body (params_scope q)
              (λ y. (let o : times y (procs_vars (q ∷ qs)) ≤ 1 = once y in
              let e : times y (procs_vars (q ∷ qs)) ≡ times y (numbers_of q.params ++ code_vars q.body)
              + times y (procs_vars qs) = times_append y (numbers_of q.params ++ code_vars q.body)
              (procs_vars qs) in
              let k : times y (numbers_of q.params ++ code_vars q.body) ≡ times y (numbers_of q.params)
              + times y (code_vars q.body) = times_append y (numbers_of q.params) (code_vars q.body)
              in
              omega (arith, o, e, k))) fs.0 ns.0).alone;
          given = λ v v' u seen. given_same u seen;
        }) (bodies_go (suc f) qs (λ y. (let o : times y (procs_vars (q ∷ qs)) ≤ 1 = once y in
        let e : times y (procs_vars (q ∷ qs)) ≡ times y (numbers_of q.params ++ code_vars q.body) +
        times y (procs_vars qs) = times_append y (numbers_of q.params ++ code_vars q.body)
        (procs_vars qs) in
        omega (arith, o, e))) fs.1 ns.1)

  module _ (formed : Formed g) (vectorised : IsVectorised g) where
    goes_likewise : (i : List ℕ) (n : ℕ) → Likewise no_deeper Same (checked_run g i n)
        (checked_run (flat g) i n)
    goes_likewise i n = run_follows (plan g procs)
        (λ c c' cb cf. bodies_go c c' cb cf 0 g.procs formed.variables_once formed.procedures
        vectorised) i n same same (every_any _)

    pub flat_kept : CheckedRunsNeverMissing g → CheckedRunsNeverMissing (flat g) × Keeps g (flat g)
    flat_kept never = looking_kept g (flat g) never
        (λ i n. likewise_kept no_deeper Same (checked_run g i n) (checked_run (flat g) i n)
        (goes_likewise i n))
