-- Statements and alternatives that are split, one after the other.
use Rattle.std.proofs.Common.{◌≡◌, ℕ, suc, pos, ◌+◌, ◌<◌, ◌≤◌, List, [], ◌∷◌, ◌++◌, map, take, drop, length, get_or, refl, sym, ap, ◌∙◌, subst, arith}
use Rattle.std.proofs.lemmas.List.{take_all}
use Rattle.seq.proofs.Lists.{take_next, map_push}
use Rattle.grin_syntax.specs.declared.program.Cell.{Cell}
use Rattle.grin_syntax.specs.declared.program.Tag.{Tag}
use Rattle.grin_syntax.specs.declared.program.Word as W
use Rattle.grin_syntax.specs.declared.program.Word.TheVariants.{Lit}
use Rattle.grin_syntax.specs.declared.program.Target.{Target}
use Rattle.grin_syntax.specs.declared.program.Target.TheVariants as to
use Rattle.grin_syntax.specs.declared.program.Val.{Val}
use Rattle.grin_syntax.specs.declared.program.Alt.{Alt}
use Rattle.grin_syntax.specs.declared.program.Op.{Op}
use Rattle.grin_syntax.specs.declared.program.Op.TheVariants.{Case}
use Rattle.grin_syntax.specs.declared.program.Stmt.{Stmt}
use Rattle.grin_syntax.specs.declared.program.Stmt.TheVariants.{Store, Bind}
use Rattle.grin_syntax.specs.declared.program.Block.{Block}
use Rattle.grin_syntax.specs.declared.program.Proc.{Proc}
use Rattle.grin_syntax.specs.Tree.{Code, end, Act, leaf, fetch, case, Arms, no_arm, arm, Procedure, act_of, before_of, arm_of, code_of, all_before, procedure_of}
use Rattle.grin_syntax.proofs.TreeOf.{before_of-Store, before_of-Bind, code_of-parts, act_of-Case}
use Rattle.grin_syntax.proofs.Pieces.{all_arms, all_arms_none, all_arms_push}
use Rattle.fetch_passes.specs.Names.{Names, DeferredField, as_val, as_cells}
use Rattle.fetch_passes.specs.Waits.{deferred_fields_after}
use Rattle.fetch_passes.specs.Split.{front, front_names, names_after, cell_after, cell_from, bound, end_with, new_variables_of_end, made_act, made_code, made_arms, split_act, split_code, split_arms, split_procs}
use Rattle.fetch_passes.proofs.Firsts.{code_from, code_at, code_none}
use Rattle.fetch_passes.proofs.Pushed.{store_pushed}

module _ (ts : List Tag) where
  -- ---- an operation that is split is of the same kind

  names_kind : (ks : Names) (a : W.Word) (ps : List DeferredField) (n : ℕ) (o : Act) (t : Target)
      (b : Code) (js : Names) → names_after (split_act ts ks a ps n o) t b js ≡ names_after o t b js
  unfolding split_act
  names_kind ks a ps n (leaf (fetch c)) (to.Vector (x ∷ xs)) b js = refl
  names_kind ks a ps n (leaf (fetch c)) (to.Vector []) b js = refl
  names_kind ks a ps n (leaf (fetch c)) (to.One x) b js = refl
  names_kind ks a ps n (leaf (fetch c)) (to.Node x) b js = refl
  names_kind ks a ps n (leaf (fetch c)) to.Nothing b js = refl
  names_kind ks a ps n o t b js = refl

  waits_kind : (ks : Names) (a : W.Word) (ps : List DeferredField) (n : ℕ) (o : Act) (t : Target)
      (b : Code) (qs : List DeferredField) → deferred_fields_after (split_act ts ks a ps n o) t b qs
      ≡ deferred_fields_after o t b qs
  unfolding split_act
  waits_kind ks a ps n (leaf (fetch c)) (to.Vector (x ∷ xs)) b qs = refl
  waits_kind ks a ps n (leaf (fetch c)) (to.Vector []) b qs = refl
  waits_kind ks a ps n (leaf (fetch c)) (to.One x) b qs = refl
  waits_kind ks a ps n (leaf (fetch c)) (to.Node x) b qs = refl
  waits_kind ks a ps n (leaf (fetch c)) to.Nothing b qs = refl
  waits_kind ks a ps n o t b qs = refl

  cell_kind : (ks : Names) (a : W.Word) (ps : List DeferredField) (n : ℕ) (o : Act) (t : Target)
      (b : Code) → cell_from (split_act ts ks a ps n o) t b a ≡ cell_after ks o t b a
  unfolding split_act
  cell_kind ks a ps n (leaf (fetch c)) (to.Vector (x ∷ xs)) b = refl
  cell_kind ks a ps n (leaf (fetch c)) (to.Vector []) b = refl
  cell_kind ks a ps n (leaf (fetch c)) (to.One x) b = refl
  cell_kind ks a ps n (leaf (fetch c)) (to.Node x) b = refl
  cell_kind ks a ps n (leaf (fetch c)) to.Nothing b = refl
  cell_kind ks a ps n o t b = refl

  end_kind : (ks : Names) (a : W.Word) (ps : List DeferredField) (n : ℕ) (o : Act)
      → end_with ts (n + made_act ts ps o) (split_act ts ks a ps n o) ≡ end_with ts n
      (split_act ts ks a ps n o)
  unfolding split_act made_act
  end_kind ks a ps n (leaf (fetch c)) = ap
      (λ k. end_with ts k (split_act ts ks a ps n (leaf (fetch c))))
      (let e : n + 0 ≡ n = omega arith in e)
  end_kind ks a ps n o = refl

  made_kind : (ks : Names) (a : W.Word) (ps : List DeferredField) (n : ℕ) (o : Act)
      → new_variables_of_end ts (split_act ts ks a ps n o) ≡ new_variables_of_end ts o
  unfolding split_act
  made_kind ks a ps n (leaf (fetch c)) = refl
  made_kind ks a ps n o = refl

  -- ---- statements

  pub store_split : (ks : Names) (a : W.Word) (ps : List DeferredField) (n : ℕ) (cs : List Cell)
      (s : Stmt) (ss ss' : List Stmt) (k : Code) → s ≡ Store cs → ss' ≡ ss
      ++ Store (as_cells ks cs) ∷ []
      → all_before (map before_of ss') (split_code ts ks a [] n k) ≡ all_before (map before_of ss)
      (split_code ts ks a ps n (before_of s k))
  unfolding split_act
  store_split ks a ps n cs s ss ss' k e f = store_pushed ss ss' (as_cells ks cs)
      (split_code ts ks a [] n k) f ∙ ap
      (λ z. all_before (map before_of ss) (split_code ts ks a ps n z))
      (sym (ap (λ f. f k) (before_of-Store cs)) ∙ ap (λ u. before_of u k) (sym e))

  pub store_made : (ps : List DeferredField) (n : ℕ) (cs : List Cell) (s : Stmt) (k : Code)
      → s ≡ Store cs → n + made_code ts [] k ≡ n + made_code ts ps (before_of s k)
  unfolding made_act
  store_made ps n cs s k e = ap (λ z. n + made_code ts ps z)
      (sym (ap (λ f. f k) (before_of-Store cs)) ∙ ap (λ u. before_of u k) (sym e))

  pub bind_split : (ks js : Names) (a a' : W.Word) (ps qs : List DeferredField) (n m : ℕ)
      (t : Target) (o o' : Op) (s : Stmt) (ss ss' : List Stmt) (k : Code) → s ≡ Bind t o
      → act_of o' ≡ split_act ts ks a ps n (act_of o) → m ≡ n + made_act ts ps (act_of o)
      → ((c : Code) → all_before (map before_of ss') c ≡ all_before (map before_of ss)
      (bound (act_of o') t k c)) → js ≡ names_after (act_of o') t k ks
      → a' ≡ cell_from (act_of o') t k a → qs ≡ deferred_fields_after (act_of o') t k ps
      → all_before (map before_of ss') (split_code ts js a' qs m k) ≡ all_before (map before_of ss)
      (split_code ts ks a ps n (before_of s k))
  unfolding split_act
  bind_split ks js a a' ps qs n m t o o' s ss ss' k e f r b x y z =
      b (split_code ts js a' qs m k)
      ∙ (λ i. all_before (map before_of ss)
      (bound (f i) t k
      (split_code ts
      ((x ∙ ap (λ u. names_after u t k ks) f ∙ names_kind ks a ps n (act_of o) t k ks) i)
      ((y ∙ ap (λ u. cell_from u t k a) f ∙ cell_kind ks a ps n (act_of o) t k) i)
      ((z ∙ ap (λ u. deferred_fields_after u t k ps) f ∙ waits_kind ks a ps n (act_of o) t k ps)
      i) (r i) k)))
      ∙ ap (λ u. all_before (map before_of ss) (split_code ts ks a ps n u))
      (sym (ap (λ f. f k) (before_of-Bind t o)) ∙ ap (λ u. before_of u k) (sym e))

  pub bind_made : (ks : Names) (a : W.Word) (ps qs : List DeferredField) (n m : ℕ) (t : Target)
      (o o' : Op) (s : Stmt) (k : Code) → s ≡ Bind t o
      → act_of o' ≡ split_act ts ks a ps n (act_of o) → m ≡ n + made_act ts ps (act_of o)
      → qs ≡ deferred_fields_after (act_of o') t k ps
      → m + made_code ts qs k ≡ n + made_code ts ps (before_of s k)
  unfolding made_act
  bind_made ks a ps qs n m t o o' s k e f r z =
      (λ i. r i + made_code ts
      ((z ∙ ap (λ u. deferred_fields_after u t k ps) f ∙ waits_kind ks a ps n (act_of o) t k ps)
      i) k) ∙ assoc (made_act ts ps (act_of o))
      (made_code ts (deferred_fields_after (act_of o) t k ps) k)
      ∙ ap (λ u. n + made_code ts ps u)
      (sym (ap (λ f. f k) (before_of-Bind t o)) ∙ ap (λ u. before_of u k) (sym e))
    where
      assoc : (x y : ℕ) → n + x + y ≡ n + (x + y)
      assoc x y = omega arith

  -- the statements so far
  pub record BlockSoFar (ks js : Names) (a a' : W.Word) (qs : List DeferredField) (n m : ℕ)
      (stmts old made : List Stmt) (i : ℕ) (last : Code) : Type 0 where
    pub by : all_before (map before_of made) (split_code ts js a' qs m (code_from stmts i last)) ≡
        all_before (map before_of old) (split_code ts ks a [] n (code_from stmts 0 last))
    pub room : m + made_code ts qs (code_from stmts i last) ≡ n + made_code ts []
        (code_from stmts 0 last)

  pub block_none : (ks : Names) (a : W.Word) (n : ℕ) (stmts old : List Stmt) (last : Code)
      → BlockSoFar ks ks a a [] n n stmts old old 0 last
  block_none ks a n stmts old last = record { by = refl; room = refl }

  pub block_next : (ks js js' : Names) (a a' a2 : W.Word) (qs qs' : List DeferredField) (n m m' : ℕ)
      (stmts old made made' rest : List Stmt) (i : ℕ) (s : Stmt) (o l : Op) → i < length stmts
      → s ≡ get_or stmts i s → rest ≡ drop (suc i) stmts → o ≡ l
      → BlockSoFar ks js a a' qs n m stmts old made i (end (act_of l))
      → all_before (map before_of made')
      (split_code ts js' a2 qs' m' (all_before (map before_of rest) (end (act_of o)))) ≡
      all_before (map before_of made)
      (split_code ts js a' qs m
      (before_of s (all_before (map before_of rest) (end (act_of o)))))
      → m' + made_code ts qs' (all_before (map before_of rest) (end (act_of o))) ≡ m + made_code ts
      qs (before_of s (all_before (map before_of rest) (end (act_of o))))
      → BlockSoFar ks js' a a2 qs' n m' stmts old made' (i + 1) (end (act_of l))
  block_next ks js js' a a' a2 qs qs' n m m' stmts old made made' rest i s o l lt e d z f x y
      = subst (λ k. BlockSoFar ks js' a a2 qs' n m' stmts old made' k (end (act_of l)))
      (let q : suc i ≡ i + 1 = omega arith in q) (record {
        by = (λ j. all_before (map before_of made')
            (split_code ts js' a2 qs' m'
            (all_before (map before_of (sym d j)) (end (act_of (sym z j)))))) ∙ x ∙ ap
            (λ c. all_before (map before_of made) (split_code ts js a' qs m c)) here ∙ f.by;
        room = (λ j. m' + made_code ts qs'
            (all_before (map before_of (sym d j)) (end (act_of (sym z j))))) ∙ y ∙ ap
            (λ c. m + made_code ts qs c) here ∙ f.room;
      })
    where
      here : before_of s (all_before (map before_of rest) (end (act_of o))) ≡ code_from stmts i
          (end (act_of l))
      here = (λ j. before_of s (all_before (map before_of (d j)) (end (act_of (z j))))) ∙ sym
          (code_at stmts i s (end (act_of l)) lt e)

  pub block_done : (ks js : Names) (a a' : W.Word) (qs : List DeferredField) (n m m1 : ℕ)
      (b made : Block) (old mid ss : List Stmt) (i : ℕ) (o l : Op) → length b.stmts ≤ i
      → BlockSoFar ks js a a' qs n m b.stmts old mid i (end (act_of b.last.value))
      → act_of o ≡ split_act ts js a' qs m (act_of b.last.value)
      → m1 ≡ m + made_act ts qs (act_of b.last.value)
      → all_before (map before_of ss) (end (act_of l)) ≡ all_before (map before_of mid)
      (end_with ts m1 (act_of o)) → made.stmts ≡ ss → made.last.value ≡ l
      → code_of made ≡ all_before (map before_of old) (split_code ts ks a [] n (code_of b))
  unfolding split_act
  block_done ks js a a' qs n m m1 b made old mid ss i o l le f x y z p q =
      code_of-parts made ∙ (λ j. all_before (map before_of (p j)) (end (act_of (q j)))) ∙ z ∙
      (λ j. all_before (map before_of mid) (end_with ts (y j) (x j))) ∙ ap
      (all_before (map before_of mid)) (end_kind js a' qs m (act_of b.last.value))
      ∙ ap (λ c. all_before (map before_of mid) (split_code ts js a' qs m c))
      (sym (code_none b.stmts i (end (act_of b.last.value)) le))
      ∙ f.by ∙ ap (λ c. all_before (map before_of old) (split_code ts ks a [] n c))
      (sym (code_of-parts b))

  pub block_made : (ks js : Names) (a a' : W.Word) (qs : List DeferredField) (n m m1 m2 : ℕ)
      (b : Block) (old mid : List Stmt) (i : ℕ) (o : Op) → length b.stmts ≤ i
      → BlockSoFar ks js a a' qs n m b.stmts old mid i (end (act_of b.last.value))
      → act_of o ≡ split_act ts js a' qs m (act_of b.last.value)
      → m1 ≡ m + made_act ts qs (act_of b.last.value)
      → m2 ≡ m1 + new_variables_of_end ts (act_of o) → m2 ≡ n + made_code ts [] (code_of b)
  unfolding made_act
  block_made ks js a a' qs n m m1 m2 b old mid i o le f x y z =
      let e : m2 ≡ m + made_act ts qs (act_of b.last.value) + new_variables_of_end ts
      (act_of b.last.value) = z ∙
      (λ j. y j + (ap (new_variables_of_end ts) x ∙ made_kind js a' qs m (act_of b.last.value))
      j) in
      let g : m + made_code ts qs (end (act_of b.last.value)) ≡ n + made_code ts []
      (code_from b.stmts 0 (end (act_of b.last.value)))
      = ap (λ c. m + made_code ts qs c)
      (sym (code_none b.stmts i (end (act_of b.last.value)) le)) ∙ f.room in
      e ∙ turn (made_act ts qs (act_of b.last.value))
      (new_variables_of_end ts (act_of b.last.value)) ∙ g ∙ ap (λ c. n + made_code ts [] c)
      (sym (code_of-parts b))
    where
      turn : (x y : ℕ) → m + x + y ≡ m + (y + x)
      turn x y = omega arith

  -- ---- alternatives

  module _ (ks : Names) (a : W.Word) (ps : List DeferredField) where
    pub record ArmsSoFar (n m : ℕ) (alts made : List Alt) : Type 0 where
      pub by : (r : Arms) → all_arms (map arm_of made) (split_arms ts ks a ps m r) ≡ split_arms ts
          ks a ps n (all_arms (map arm_of alts) r)
      pub room : (r : Arms) → m + made_arms ts ps r ≡ n + made_arms ts ps
          (all_arms (map arm_of alts) r)

    pub arms_none : (n : ℕ) → ArmsSoFar n n [] []
    arms_none n = record { by = λ r. refl; room = λ r. refl }

    pub arms_next : (n m m' : ℕ) (alts made made' : List Alt) (i : ℕ) (x y : Alt) → i < length alts
        → x ≡ get_or alts i x → ArmsSoFar n m (take i alts) made → y.pattern ≡ x.pattern
        → code_of y.body ≡ front a m ps (code_of x.body)
        (split_code ts (front_names m ps (code_of x.body) ks) a [] (m + length ps)
        (code_of x.body)) → m' ≡ m + length ps + made_code ts [] (code_of x.body) → made' ≡ made
        ++ y ∷ [] → ArmsSoFar n m' (take (i + 1) alts) made'
    unfolding split_act made_act
    arms_next n m m' alts made made' i x y lt e f p b r q
        = subst (λ l. ArmsSoFar n m' l made') (sym (take_next alts i x lt e)) (record {
          by = λ u. ap (λ l. all_arms (map arm_of l) (split_arms ts ks a ps m' u)) q ∙ all_arms_push
              made y (split_arms ts ks a ps m' u) ∙
              (λ j. all_arms (map arm_of made) (arm (p j) (b j) (split_arms ts ks a ps (r j) u)))
              ∙ f.by (arm x.pattern (code_of x.body) u) ∙ ap (split_arms ts ks a ps n)
              (sym (all_arms_push (take i alts) x u));
          room = λ u. ap (λ k. k + made_arms ts ps u) r ∙ three (length ps)
              (made_code ts [] (code_of x.body)) (made_arms ts ps u) ∙ f.room
              (arm x.pattern (code_of x.body) u) ∙ ap (λ z. n + made_arms ts ps z)
              (sym (all_arms_push (take i alts) x u));
        })
      where
        three : (p c u : ℕ) → m + p + c + u ≡ m + (p + c + u)
        three p c u = omega arith

    pub case_done : (n m : ℕ) (o : Op) (v v' : Val) (alts made : List Alt) (i : ℕ) → o ≡ Case v alts
        → length alts ≤ i → v' ≡ as_val ks v → ArmsSoFar n m (take i alts) made
        → act_of (Case v' made) ≡ split_act ts ks a ps n (act_of o)
    unfolding split_act
    case_done n m o v v' alts made i q le e f =
        let h : ArmsSoFar n m alts made = subst (λ l. ArmsSoFar n m l made) (take_all i alts le) f
        in
        act_of-Case v' made ∙
        (λ j. case (e j)
        ((sym (all_arms_none (map arm_of made)) ∙ h.by no_arm ∙ ap (split_arms ts ks a ps n)
        (all_arms_none (map arm_of alts))) j)) ∙ ap (split_act ts ks a ps n)
        (sym (act_of-Case v alts) ∙ ap act_of (sym q))

    pub case_made : (n m : ℕ) (o : Op) (v : Val) (alts made : List Alt) (i : ℕ) → o ≡ Case v alts
        → length alts ≤ i → ArmsSoFar n m (take i alts) made → m ≡ n + made_act ts ps (act_of o)
    unfolding made_act
    case_made n m o v alts made i q le f =
        let h : ArmsSoFar n m alts made = subst (λ l. ArmsSoFar n m l made) (take_all i alts le) f
        in
        let z : m ≡ m + 0 = omega arith in
        z ∙ h.room no_arm ∙ ap (λ u. n + made_arms ts ps u) (all_arms_none (map arm_of alts)) ∙ ap
        (λ u. n + made_act ts ps u) (sym (act_of-Case v alts) ∙ ap act_of (sym q))

  -- ---- procedures

  -- the first new variable after these
  abbrev pub after : ℕ → List Procedure → ℕ
  after n [] = n
  after n (q ∷ qs) = after (n + made_code ts [] q.body) qs

  abbrev one_split : ℕ → Procedure → Procedure
  one_split n q = record q { body = split_code ts [] (Lit (pos 0)) [] n q.body }

  procs_push : (n : ℕ) (qs : List Procedure) (q : Procedure)
      → split_procs ts n (qs ++ q ∷ []) ≡ split_procs ts n qs ++ one_split (after n qs) q ∷ []
  procs_push n [] q = refl
  procs_push n (r ∷ qs) q = ap (λ l. one_split n r ∷ l)
      (procs_push (n + made_code ts [] r.body) qs q)

  after_push : (n : ℕ) (qs : List Procedure) (q : Procedure)
      → after n (qs ++ q ∷ []) ≡ after n qs + made_code ts [] q.body
  after_push n [] q = refl
  after_push n (r ∷ qs) q = after_push (n + made_code ts [] r.body) qs q

  pub record ProcsSoFar (n m : ℕ) (ps made : List Proc) : Type 0 where
    pub by : map procedure_of made ≡ split_procs ts n (map procedure_of ps)
    pub room : m ≡ after n (map procedure_of ps)

  pub procs_none : (n : ℕ) → ProcsSoFar n n [] []
  procs_none n = record { by = refl; room = refl }

  pub procs_next : (n m m' : ℕ) (ps made made' : List Proc) (i : ℕ) (p q : Proc) → i < length ps
      → p ≡ get_or ps i p → ProcsSoFar n m (take i ps) made → q.name ≡ p.name → q.params ≡ p.params
      → code_of q.body ≡ split_code ts [] (Lit (pos 0)) [] m (code_of p.body)
      → m' ≡ m + made_code ts [] (code_of p.body) → made' ≡ made ++ q ∷ []
      → ProcsSoFar n m' (take (i + 1) ps) made'
  procs_next n m m' ps made made' i p q lt e f x y z r w
      = subst (λ l. ProcsSoFar n m' l made') (sym (take_next ps i p lt e)) (record {
        by = ap (map procedure_of) w ∙ map_push procedure_of made q ∙
            (λ j. f.by j ++ record { name = x j; params = y j; body = z j } ∷ []) ∙ ap
            (λ k. split_procs ts n (map procedure_of (take i ps))
            ++ one_split k (procedure_of p) ∷ [])
            f.room
            ∙ sym (procs_push n (map procedure_of (take i ps)) (procedure_of p)) ∙ ap
            (split_procs ts n)
            (sym (map_push procedure_of (take i ps) p));
        room = r ∙ ap (λ k. k + made_code ts [] (code_of p.body)) f.room ∙ sym
            (after_push n (map procedure_of (take i ps)) (procedure_of p)) ∙ ap (after n)
            (sym (map_push procedure_of (take i ps) p));
      })

  pub procs_all : (n m : ℕ) (ps made : List Proc) (i : ℕ) → length ps ≤ i
      → ProcsSoFar n m (take i ps) made → map procedure_of made ≡ split_procs ts n
      (map procedure_of ps)
  procs_all n m ps made i le f = f.by ∙ ap (λ l. split_procs ts n (map procedure_of l))
      (take_all i ps le)
