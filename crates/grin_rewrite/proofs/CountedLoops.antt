-- What the loops over statements, alternatives and procedures have made so far, by a rule with
-- fresh variables.
use Rattle.std.proofs.Common.{◌≡◌, ℕ, ◌+◌, List, [], ◌∷◌, ◌++◌, map, refl, sym, ap, ◌∙◌, subst, arith}
use Rattle.std.specs.declared.alloc.Global.{Global}
use Rattle.std.specs.declared.boxed.Box.{Box}
use Rattle.grin_syntax.specs.declared.program.Alt.{Alt}
use Rattle.grin_syntax.specs.declared.program.Proc.{Proc}
use Rattle.grin_syntax.specs.declared.program.Grin.{Grin}
use Rattle.grin_syntax.specs.declared.program.Block.{Block}
use Rattle.grin_syntax.specs.declared.program.Cell.{Cell}
use Rattle.grin_syntax.specs.declared.program.Op.{Op}
use Rattle.grin_syntax.specs.declared.program.Op.TheVariants.{Case, Nested}
use Rattle.grin_syntax.specs.declared.program.Stmt.{Stmt}
use Rattle.grin_syntax.specs.declared.program.Stmt.TheVariants.{Store, Bind}
use Rattle.grin_syntax.specs.declared.program.Target.{Target}
use Rattle.grin_syntax.specs.declared.program.Val.{Val}
use Rattle.grin_syntax.specs.Tree.{Code, end, bind, Act, IsLeaf, Leaf, leaf, case, nested, Arms, no_arm, arm, Procedure, procedure_of, program_of, act_of, before_of, arm_of, code_of, all_before, arms_of}
use Rattle.grin_syntax.specs.Fresh.{past_procs}
use Rattle.grin_syntax.proofs.TreeOf.{before_of-Store, before_of-Bind, code_of-parts, act_of-Case, act_of-Nested}
use Rattle.grin_syntax.proofs.Pieces.{all_arms, all_arms_none, all_arms_push, all_before_push}
use Rattle.grin_rewrite.specs.Counted.{bound_before, CountedRule, act_room, code_room, all_room, before_act, counted_act, counted_code, counted_all, counted_procs, counted}
use Rattle.grin_rewrite.specs.InPlace.{InPlace}
use Rattle.grin_rewrite.proofs.Leaves.{op_of, leaf_seen}

module _ (R : CountedRule) where
  -- the statements `made`, and what becomes of what follows, with fresh variables from `next` on,
  -- are what becomes of the statements `from` and what follows
  pub record StmtsSoFar (start next : ℕ) (made from : List Stmt) : Type 0 where
    pub by : (c : Code) → all_before (map before_of made) (counted_code R next c) ≡ counted_code R
        start (all_before (map before_of from) c)
    pub room : (c : Code) → next + code_room R c ≡ start + code_room R
        (all_before (map before_of from) c)

  pub no_stmt_yet : (start : ℕ) → StmtsSoFar start start [] []
  no_stmt_yet start = record { by = λ c. refl; room = λ c. refl }

  pub one_more_stmt : (start next next' : ℕ) (made made' from : List Stmt) (s : Stmt)
      → StmtsSoFar start next made from
      → ((c : Code) → all_before (map before_of made') (counted_code R next' c) ≡ all_before
      (map before_of made) (counted_code R next (before_of s c)))
      → ((c : Code) → next' + code_room R c ≡ next + code_room R (before_of s c))
      → StmtsSoFar start next' made' (from ++ s ∷ [])
  one_more_stmt start next next' made made' from s f h r = record {
    by = λ c. h c ∙ f.by (before_of s c) ∙ ap (counted_code R start)
        (sym (all_before_push from s c));
    room = λ c. r c ∙ f.room (before_of s c) ∙ ap (λ b. start + code_room R b)
        (sym (all_before_push from s c));
  }

  pub store_done : (x : ℕ) (made made' : List Stmt) (cs : List Cell) (s : Stmt) (c : Code)
      → s ≡ Store cs → made' ≡ made ++ Store cs ∷ []
      → all_before (map before_of made') (counted_code R x c) ≡ all_before (map before_of made)
      (counted_code R x (before_of s c))
  unfolding counted_act
  store_done x made made' cs s c e m =
      ap (λ l. all_before (map before_of l) (counted_code R x c)) m ∙ all_before_push made
      (Store cs) (counted_code R x c) ∙ ap
      (λ f. all_before (map before_of made) (f (counted_code R x c))) (before_of-Store cs)
      ∙ sym (ap (λ f. all_before (map before_of made) (counted_code R x (f c)))
      (ap before_of e ∙ before_of-Store cs))

  pub store_room : (x : ℕ) (cs : List Cell) (s : Stmt) (c : Code) → s ≡ Store cs
      → x + code_room R c ≡ x + code_room R (before_of s c)
  unfolding act_room
  store_room x cs s c e = sym
      (ap (λ f. x + code_room R (f c)) (ap before_of e ∙ before_of-Store cs))

  pub bind_done : (x x' : ℕ) (made after made' : List Stmt) (t : Target) (op op' : Op) (s : Stmt)
      (c : Code) → s ≡ Bind t op → InPlace R x (act_of op) made after (act_of op')
      → x' ≡ x + act_room R (act_of op) → made' ≡ after ++ Bind t op' ∷ []
      → all_before (map before_of made') (counted_code R x' c) ≡ all_before (map before_of made)
      (counted_code R x (before_of s c))
  unfolding counted_act
  bind_done x x' made after made' t op op' s c e f n m =
      ap (λ l. all_before (map before_of l) (counted_code R x' c)) m ∙ all_before_push after
      (Bind t op') (counted_code R x' c) ∙ ap
      (λ g. all_before (map before_of after) (g (counted_code R x' c))) (before_of-Bind t op')
      ∙ f.bound t (counted_code R x' c)
      ∙ ap (λ k. all_before (map before_of made)
      (bound_before (before_act R x (act_of op))
      (bind t (counted_act R x (act_of op)) (counted_code R k c)))) n
      ∙ sym (ap (λ g. all_before (map before_of made) (counted_code R x (g c)))
      (ap before_of e ∙ before_of-Bind t op))

  pub bind_room : (x x' : ℕ) (t : Target) (op : Op) (s : Stmt) (c : Code) → s ≡ Bind t op
      → x' ≡ x + act_room R (act_of op) → x' + code_room R c ≡ x + code_room R (before_of s c)
  unfolding act_room
  bind_room x x' t op s c e n =
      let r : x' + code_room R c ≡ x + (act_room R (act_of op) + code_room R c) = omega arith in
      r ∙ sym (ap (λ g. x + code_room R (g c)) (ap before_of e ∙ before_of-Bind t op))

  pub block_done : (start next : ℕ) (b made : Block) (before from after : List Stmt)
      (last last' : Op) → StmtsSoFar start next before from → from ≡ b.stmts → last ≡ b.last.value
      → InPlace R next (act_of last) before after (act_of last')
      → made.stmts ≡ after → made.last.value ≡ last'
      → code_of made ≡ counted_code R start (code_of b)
  unfolding counted_act
  block_done start next b made before from after last last' s e l f m n =
      code_of-parts made ∙ (λ i. all_before (map before_of (m i)) (end (act_of (n i)))) ∙ f.ended ∙
      s.by (end (act_of last))
      ∙ (λ i. counted_code R start (all_before (map before_of (e i)) (end (act_of (l i))))) ∙ ap
      (counted_code R start) (sym (code_of-parts b))

  pub block_room : (start next next' : ℕ) (b : Block) (before from : List Stmt) (last : Op)
      → StmtsSoFar start next before from → from ≡ b.stmts → last ≡ b.last.value
      → next' ≡ next + act_room R (act_of last) → next' ≡ start + code_room R (code_of b)
  unfolding act_room
  block_room start next next' b before from last s e l n =
      n ∙ s.room (end (act_of last)) ∙
      (λ i. start + code_room R (all_before (map before_of (e i)) (end (act_of (l i))))) ∙ ap
      (λ c. start + code_room R c) (sym (code_of-parts b))

  -- ---- operations

  -- where nothing is bound before it
  pub alone_in_place : (x : ℕ) (ss : List Stmt) (l : Leaf) (made : Act) → R.before x l ≡ []
      → made ≡ R.becomes x l → InPlace R x (leaf l) ss ss made
  unfolding counted_act
  alone_in_place x ss l made e h = record {
    bound = λ t b i. all_before (map before_of ss) (bound_before (sym e i) (bind t (h i) b));
    ended = λ i. all_before (map before_of ss) (bound_before (sym e i) (end (h i)));
  }

  -- an operation that the rule leaves as it is
  pub record Untouched (x : ℕ) (l : Leaf) : Type 0 where
    pub before : R.before x l ≡ []
    pub becomes : leaf l ≡ R.becomes x l
    pub room : R.room l ≡ 0

  module _ (x : ℕ) (op : Op) (is_leaf : IsLeaf (act_of op))
      (untouched : (l : Leaf) → op ≡ op_of l → Untouched x l) where
    pub stays_in_place : (ss : List Stmt) → InPlace R x (act_of op) ss ss (act_of op)
    stays_in_place ss =
        let s = leaf_seen op is_leaf in
        let u = untouched s.at s.is in
        subst (λ o. InPlace R x o ss ss o) (sym s.tree)
        (alone_in_place x ss s.at (leaf s.at) u.before u.becomes)

    pub takes_no_room : x ≡ x + act_room R (act_of op)
    unfolding act_room
    takes_no_room =
        let s = leaf_seen op is_leaf in
        let r : R.room s.at ≡ 0 = (untouched s.at s.is).room in
        let e : x ≡ x + R.room s.at = omega arith in
        e ∙ ap (λ o. x + act_room R o) (sym s.tree)

  pub same_follows : (x : ℕ) (ss after : List Stmt) (o o' made made' : Act) → o ≡ o' → made ≡ made'
      → InPlace R x o' ss after made' → InPlace R x o ss after made
  same_follows x ss after o o' made made' e m f = subst (λ k. InPlace R x k ss after made) (sym e)
      (subst (InPlace R x o' ss after) (sym m) f)

  pub nested_follows : (x : ℕ) (ss : List Stmt) (b b' : Code) → b' ≡ counted_code R x b
      → InPlace R x (nested b) ss ss (nested b')
  unfolding counted_act
  nested_follows x ss b b' e = record {
    bound = λ t c. ap (λ k. all_before (map before_of ss) (bind t (nested k) c)) e;
    ended = ap (λ k. all_before (map before_of ss) (end (nested k))) e;
  }

  pub case_follows : (x : ℕ) (ss : List Stmt) (v : Val) (as' made : Arms)
      → made ≡ counted_all R x as' → InPlace R x (case v as') ss ss (case v made)
  unfolding counted_act
  case_follows x ss v as' made e = record {
    bound = λ t c. ap (λ k. all_before (map before_of ss) (bind t (case v k) c)) e;
    ended = ap (λ k. all_before (map before_of ss) (end (case v k))) e;
  }

  -- ---- alternatives

  pub record ArmsSoFar (start next : ℕ) (made from : List Alt) : Type 0 where
    pub by : (r : Arms) → all_arms (map arm_of made) (counted_all R next r) ≡ counted_all R start
        (all_arms (map arm_of from) r)
    pub room : (r : Arms) → next + all_room R r ≡ start + all_room R (all_arms (map arm_of from) r)

  pub no_arm_yet : (start : ℕ) → ArmsSoFar start start [] []
  no_arm_yet start = record { by = λ r. refl; room = λ r. refl }

  pub one_more_arm : (start next next' : ℕ) (made made' from : List Alt) (a one : Alt)
      → ArmsSoFar start next made from → one.pattern ≡ a.pattern
      → code_of one.body ≡ counted_code R next (code_of a.body)
      → next' ≡ next + code_room R (code_of a.body)
      → made' ≡ made ++ one ∷ [] → ArmsSoFar start next' made' (from ++ a ∷ [])
  unfolding counted_act act_room
  one_more_arm start next next' made made' from a one f e h n m = record {
    by = λ r. ap (λ l. all_arms (map arm_of l) (counted_all R next' r)) m ∙ all_arms_push made one
        (counted_all R next' r)
        ∙ (λ i. all_arms (map arm_of made) (arm (e i) (h i) (counted_all R (n i) r)))
        ∙ f.by (arm a.pattern (code_of a.body) r) ∙ ap (counted_all R start)
        (sym (all_arms_push from a r));
    room = λ r. one_room r ∙ f.room (arm a.pattern (code_of a.body) r) ∙ ap
        (λ k. start + all_room R k) (sym (all_arms_push from a r));
  }
    where
      one_room : (r : Arms) → next' + all_room R r ≡ next +
          (code_room R (code_of a.body) + all_room R r)
      one_room r = omega arith

  pub arms_done : (start next : ℕ) (made from : List Alt) → ArmsSoFar start next made from
      → arms_of (map arm_of made) ≡ counted_all R start (arms_of (map arm_of from))
  unfolding counted_act
  arms_done start next made from f = sym (all_arms_none (map arm_of made)) ∙ f.by no_arm ∙ ap
      (counted_all R start) (all_arms_none (map arm_of from))

  pub arms_room_done : (start next : ℕ) (made from : List Alt) → ArmsSoFar start next made from
      → next ≡ start + all_room R (arms_of (map arm_of from))
  unfolding act_room
  arms_room_done start next made from f =
      let r : next + 0 ≡ start + all_room R (all_arms (map arm_of from) no_arm) = f.room no_arm in
      let e : next ≡ start + all_room R (all_arms (map arm_of from) no_arm) = omega arith in
      e ∙ ap (λ k. start + all_room R k) (all_arms_none (map arm_of from))

  -- a case, when all alternatives are made
  pub case_done : (x : ℕ) (ss : List Stmt) (op : Op) (v : Val) (made alts : List Alt)
      → op ≡ Case v alts → arms_of (map arm_of made) ≡ counted_all R x (arms_of (map arm_of alts))
      → InPlace R x (act_of op) ss ss (act_of (Case v made))
  case_done x ss op v made alts e h =
      same_follows x ss ss (act_of op) (case v (arms_of (map arm_of alts))) (act_of (Case v made))
      (case v (arms_of (map arm_of made))) (ap act_of e ∙ act_of-Case v alts)
      (act_of-Case v made)
      (case_follows x ss v (arms_of (map arm_of alts)) (arms_of (map arm_of made)) h)

  pub case_room : (x next : ℕ) (op : Op) (v : Val) (alts : List Alt) → op ≡ Case v alts
      → next ≡ x + all_room R (arms_of (map arm_of alts)) → next ≡ x + act_room R (act_of op)
  unfolding act_room
  case_room x next op v alts e h = h ∙ sym
      (ap (λ o. x + act_room R o) (ap act_of e ∙ act_of-Case v alts))

  -- a nested block
  pub nested_done : (x : ℕ) (ss : List Stmt) (op : Op) (b b' : Box Block Global)
      (inner made : Block) → op ≡ Nested b → inner ≡ b.value
      → code_of made ≡ counted_code R x (code_of inner) → b'.value ≡ made
      → InPlace R x (act_of op) ss ss (act_of (Nested b'))
  nested_done x ss op b b' inner made e i h m =
      same_follows x ss ss (act_of op) (nested (code_of inner)) (act_of (Nested b'))
      (nested (code_of made))
      (ap act_of e ∙ act_of-Nested b ∙ ap (λ k. nested (code_of k)) (sym i))
      (act_of-Nested b' ∙ ap (λ k. nested (code_of k)) m)
      (nested_follows x ss (code_of inner) (code_of made) h)

  pub nested_room : (x next : ℕ) (op : Op) (b : Box Block Global) (inner : Block) → op ≡ Nested b
      → inner ≡ b.value → next ≡ x + code_room R (code_of inner) → next ≡ x + act_room R (act_of op)
  unfolding act_room
  nested_room x next op b inner e i h = h ∙ sym
      (ap (λ o. x + act_room R o)
      (ap act_of e ∙ act_of-Nested b ∙ ap (λ k. nested (code_of k)) (sym i)))

  -- ---- procedures

  pub record ProcsSoFar (start next : ℕ) (made from : List Proc) : Type 0 where
    pub by : (rest : List Procedure) → map procedure_of made
        ++ counted_procs R next rest ≡ counted_procs R start (map procedure_of from ++ rest)

  pub no_proc_yet : (start : ℕ) → ProcsSoFar start start [] []
  no_proc_yet start = record { by = λ rest. refl }

  procs_push : (qs : List Proc) (q : Proc) (rest : List Procedure) → map procedure_of (qs ++ q ∷ [])
      ++ rest ≡ map procedure_of qs ++ (procedure_of q ∷ rest)
  procs_push [] q rest = refl
  procs_push (r ∷ qs) q rest = ap (λ l. procedure_of r ∷ l) (procs_push qs q rest)

  pub one_more_proc : (start next next' : ℕ) (made made' from : List Proc) (q one : Proc)
      → ProcsSoFar start next made from → one.name ≡ q.name → one.params ≡ q.params
      → code_of one.body ≡ counted_code R next (code_of q.body)
      → next' ≡ next + code_room R (code_of q.body) → made' ≡ made ++ one ∷ []
      → ProcsSoFar start next' made' (from ++ q ∷ [])
  one_more_proc start next next' made made' from q one f n a h r m = record {
    by = λ rest. ap (λ l. map procedure_of l ++ counted_procs R next' rest) m ∙ procs_push made one
        (counted_procs R next' rest)
        ∙ (λ i. map procedure_of made ++
        (record { name = n i; params = a i; body = h i } ∷ counted_procs R (r i) rest))
        ∙ f.by (procedure_of q ∷ rest) ∙ ap (counted_procs R start) (sym (procs_push from q rest));
  }

  append_none : (qs : List Procedure) → qs ++ [] ≡ qs
  append_none [] = refl
  append_none (q ∷ qs) = ap (λ l. q ∷ l) (append_none qs)

  pub procs_done : (start next : ℕ) (made from : List Proc) → ProcsSoFar start next made from
      → map procedure_of made ≡ counted_procs R start (map procedure_of from)
  procs_done start next made from f = sym (append_none (map procedure_of made)) ∙ f.by [] ∙ ap
      (counted_procs R start) (append_none (map procedure_of from))

  -- the rule may be that of a program whose procedures were taken out
  pub whole : (g : Grin) (made : List Proc) (x : ℕ) (procs read : List Proc)
      → map procedure_of made ≡ counted_procs R x (map procedure_of procs)
      → x ≡ past_procs (map procedure_of read) → procs ≡ g.procs → read ≡ g.procs
      → program_of (record g { procs = made }) ≡ counted R (program_of g)
  whole g made x procs read e first moved same =
      let fresh : x ≡ past_procs (map procedure_of g.procs)
      = first ∙ ap (λ l. past_procs (map procedure_of l)) same in
      ap (λ l. record (program_of g) { procs = l })
      (e ∙ (λ i. counted_procs R (fresh i) (map procedure_of (moved i))))
