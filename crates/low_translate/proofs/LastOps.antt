-- The last operation of a block, and the alternatives of a case, one after the other.
use Rattle.std.proofs.Common.{◌≡◌, ◌⊎◌, inl, inr, ◌≤◌, ◌<◌, ℕ, zero, suc, ◌+◌, max, List, [], ◌∷◌, ◌++◌, map, length, take, get_or, refl, sym, ap, ◌∙◌, subst, arith}
use Rattle.grin_syntax.specs.declared.program.Alt.{Alt}
use Rattle.grin_syntax.specs.declared.program.Block.{Block}
use Rattle.grin_syntax.specs.declared.program.Cell.{Cell}
use Rattle.grin_syntax.specs.declared.program.Op.{Op}
use Rattle.grin_syntax.specs.declared.program.Op.TheVariants as op
use Rattle.grin_syntax.specs.declared.program.ProcId.{ProcId}
use Rattle.grin_syntax.specs.declared.program.Val.{Val}
use Rattle.grin_syntax.specs.declared.program.Word.{Word}
use Rattle.std.specs.declared.alloc.Global.{Global}
use Rattle.std.specs.declared.boxed.Box.{Box}
use Rattle.grin_syntax.specs.declared.program.Shape.{Shape}
use Rattle.grin_syntax.specs.declared.program.Stmt.{Stmt}
use Rattle.grin_syntax.specs.declared.program.Target.{Target}
use Rattle.grin_syntax.specs.declared.program.Op.TheOpen as open'
use Rattle.grin_syntax.specs.declared.program.Op.TheFolds.{fold_out-Stmt}
use Rattle.grin_syntax.specs.Tree.{Code, end, store, bind, Act, nested, case, act_of, before_of, arm_of, code_of, all_before, arms_of, act_step, stmt_step, alt_step, block_step}
use Rattle.grin_syntax.proofs.TreeOf.{arm_of-parts, code_of-parts, act_of-Call, act_of-Nested, act_of-Case}
use Rattle.grin_syntax.specs.Formed.{AllOf}
use Rattle.low_translate.specs.Translation.{results_of}
use Rattle.low_translate.specs.Ends.{ResultsCollected}
use Rattle.low_translate.specs.Lowered.{ActEnds, CodeEnds, ArmsEnd, ActGives, CodeGives, ArmsGive}
use Rattle.std.proofs.lemmas.List.{take_all}
use Rattle.seq.proofs.Lists.{all_push, take_next}

pub stmt_kind : (s : Stmt) → ((cs : List Cell) × (before_of s ≡ store cs))
    ⊎ ((t : Target) × (o : Act) × (before_of s ≡ bind t o))
unfolding before_of
stmt_kind s = go _
    (fold_out-Stmt Act (Code → Code) (Shape × Code) Code act_step stmt_step alt_step block_step s)
  where
    go : (x : open'.Stmt-F Act (Code → Code) (Shape × Code) Code) → before_of s ≡ stmt_step x
        → ((cs : List Cell) × (before_of s ≡ store cs))
        ⊎ ((t : Target) × (o : Act) × (before_of s ≡ bind t o))
    go (open'.Store cs) e = inl (cs, e)
    go (open'.Bind t o) e = inr (t, o, e)

module _ (n node most : ℕ) where
  ends_before : (ss : List Stmt) (c : Code) → CodeEnds n node most (all_before (map before_of ss) c)
      → CodeEnds n node most c
  unfolding ActEnds
  ends_before [] c h = h
  ends_before (s ∷ ss) c h = ends_before ss c (elim (stmt_kind s) [
    | inl k ↦ subst (λ f. CodeEnds n node most (f (all_before (map before_of ss) c))) k.1 h
    | inr k ↦ subst (λ f. CodeEnds n node most (f (all_before (map before_of ss) c))) k.2 h
  ])

  pub last_ends : (b : Block) → CodeEnds n node most (code_of b)
      → ActEnds n node most (act_of b.last.value)
  unfolding ActEnds
  last_ends b h = ends_before b.stmts (end (act_of b.last.value))
      (subst (CodeEnds n node most) (code_of-parts b) h)

  pub arm_ends : (alts : List Alt) (i : ℕ) (a : Alt) → i < length alts → a ≡ get_or alts i a
      → ArmsEnd n node most (arms_of (map arm_of alts))
      → ActEnds n node most (act_of a.body.last.value)
  unfolding ActEnds
  arm_ends [] i a lt e h = absurd (omega (arith, lt))
  arm_ends (b ∷ alts) zero a lt e h = last_ends a.body
      (subst (CodeEnds n node most)
      (ap (λ x. x.1) (arm_of-parts b) ∙ ap (λ x. code_of x.body) (sym e)) h.0)
  arm_ends (b ∷ alts) (suc i) a lt e h = arm_ends alts i a (omega (arith, lt)) e h.1

module _ (node : ℕ) (rs : List ℕ) (r : ℕ) where
  gives_before : (ss : List Stmt) (c : Code) → CodeGives node rs r c
      → CodeGives node rs r (all_before (map before_of ss) c)
  unfolding ActGives
  gives_before [] c h = h
  gives_before (s ∷ ss) c h = let g = gives_before ss c h in elim (stmt_kind s) [
    | inl k ↦ subst (λ f. CodeGives node rs r (f (all_before (map before_of ss) c))) (sym k.1) g
    | inr k ↦ subst (λ f. CodeGives node rs r (f (all_before (map before_of ss) c))) (sym k.2) g
  ]

  pub last_gives : (b : Block) → ActGives node rs r (act_of b.last.value)
      → CodeGives node rs r (code_of b)
  unfolding ActGives
  last_gives b h = subst (CodeGives node rs r) (sym (code_of-parts b))
      (gives_before b.stmts (end (act_of b.last.value)) h)

  pub arms_give_more : (alts : List Alt) (a : Alt) → ArmsGive node rs r (arms_of (map arm_of alts))
      → ActGives node rs r (act_of a.body.last.value)
      → ArmsGive node rs r (arms_of (map arm_of (alts ++ a ∷ [])))
  unfolding ActGives
  arms_give_more [] a h g =
      (subst (CodeGives node rs r) (sym (ap (λ x. x.1) (arm_of-parts a))) (last_gives a.body g), tt)
  arms_give_more (b ∷ alts) a h g = (h.0, arms_give_more alts a h.1 g)

all_so_far : (n node most : ℕ) (alts : List Alt) (i : ℕ)
    → ArmsEnd n node most (arms_of (map arm_of alts))
    → ArmsEnd n node most (arms_of (map arm_of (take i alts)))
unfolding ActEnds
all_so_far n node most [] zero h = h
all_so_far n node most [] (suc i) h = h
all_so_far n node most (a ∷ alts) zero h = tt
all_so_far n node most (a ∷ alts) (suc i) h = (h.0, all_so_far n node most alts i h.1)

-- what is learnt of the first alternatives of these
pub record SoFar (node node' : ℕ) (old calls : List ℕ) (width : ℕ) (alts : List Alt) (i : ℕ)
    : Type 0 where
  pub done : ResultsCollected node node' old calls width
      (λ n. ArmsEnd n node 13 (arms_of (map arm_of alts)))
      (λ rs r. ArmsGive node rs r (arms_of (map arm_of (take i alts))))

pub none_so_far : (node : ℕ) (old : List ℕ) (alts : List Alt) → SoFar node node old old 0 alts 0
unfolding ActGives
none_so_far node old alts = record {
  done = record {
    same_node = refl;
    known = λ n e h. h;
    narrow = λ n e. omega arith;
    before = λ rs r h. h;
    gives
        = λ rs r h le. none alts rs r;
  };
}
  where
    none : (alts : List Alt) (rs : List ℕ) (r : ℕ) → ArmsGive node rs r
        (arms_of (map arm_of (take 0 alts)))
    none [] rs r = tt
    none (a ∷ alts) rs r = tt

pub one_so_far : (node node1 node2 : ℕ) (old calls calls2 : List ℕ) (w v u : ℕ) (alts : List Alt)
    (i : ℕ) (a : Alt) (o : Op) → i < length alts → a ≡ get_or alts i a → o ≡ a.body.last.value
    → u ≡ max v w
    → SoFar node node1 old calls w alts i → ResultsCollected node1 node2 calls calls2 v
    (λ n. ActEnds n node1 13 (act_of o)) (λ rs r. ActGives node1 rs r (act_of o))
    → SoFar node node2 old calls2 u alts (i + 1)
one_so_far node node1 node2 old calls calls2 w v u alts i a o lt e l m s k =
    let d = s.done in
    let ends : (n : ℕ) → ArmsEnd n node 13 (arms_of (map arm_of alts))
    → ActEnds n node1 13 (act_of o) = λ n h. subst (λ q. ActEnds n node1 13 (act_of q)) (sym l)
    (subst (λ q. ActEnds n q 13 (act_of a.body.last.value)) (sym d.same_node)
    (arm_ends n node 13 alts i a lt e h)) in
    record {
      done = record {
        same_node = k.same_node ∙ d.same_node;
        known = λ n h b. k.known n (ends n h) (d.known n h b);
        narrow = λ n h. let p = d.narrow n h in let q = k.narrow n (ends n h)
            in omega (arith, m, p, q);
        before = λ rs r h. d.before rs r (k.before rs r h);
        gives = λ rs r h le. subst (λ l. ArmsGive node rs r (arms_of (map arm_of l)))
            (sym (take_next alts i a lt e))
            (arms_give_more node rs r (take i alts) a
            (d.gives rs r (k.before rs r h) (omega (arith, m, le)))
            (subst (λ q. ActGives node rs r (act_of q)) l
            (subst (λ q. ActGives q rs r (act_of o)) d.same_node
            (k.gives rs r h (omega (arith, m, le))))));
      };
    }

pub all_learnt : (node node' : ℕ) (old calls : List ℕ) (w : ℕ) (alts : List Alt) (i : ℕ)
    → length alts ≤ i → SoFar node node' old calls w alts i
    → ResultsCollected node node' old calls w (λ n. ArmsEnd n node 13 (arms_of (map arm_of alts)))
    (λ rs r. ArmsGive node rs r (arms_of (map arm_of alts)))
all_learnt node node' old calls w alts i le s = let d = s.done
    in record {
      same_node = d.same_node;
      known = d.known;
      narrow = d.narrow;
      before = d.before;
      gives
          = λ rs r h k. subst (λ l. ArmsGive node rs r (arms_of (map arm_of l))) (take_all i alts le)
          (d.gives rs r h k);
    }

-- ---- operations

all_pop : {A : Type 0} (P : A → Type 0) (xs : List A) (x : A) → AllOf P (xs ++ x ∷ []) → AllOf P xs
    × P x
all_pop P [] x h = (tt, h.0)
all_pop P (y ∷ xs) x h = let t = all_pop P xs x h.1 in ((h.0, t.0), t.1)

pub call_learnt : (node : ℕ) (old calls : List ℕ) (o : Op) (f : ProcId) (ws : List Word)
    → o ≡ op.Call f ws → calls ≡ old ++ f.0 ∷ [] → ResultsCollected node node old calls 0
    (λ n. ActEnds n node 13 (act_of o)) (λ rs r. ActGives node rs r (act_of o))
unfolding ActEnds ActGives
call_learnt node old calls o f ws e q = record {
  same_node = refl;
  known = λ n h b. subst (AllOf (λ k. k < n)) (sym q)
      (all_push (λ k. k < n) old f.0 b
      (subst (ActEnds n node 13) (ap act_of e ∙ act_of-Call f ws) h));
  narrow = λ n h. omega arith;
  before = λ rs r h.
      (all_pop (λ k. results_of rs k ≡ r) old f.0 (subst (AllOf (λ k. results_of rs k ≡ r)) q h)).0;
  gives = λ rs r h le. subst (ActGives node rs r) (sym (ap act_of e ∙ act_of-Call f ws))
      (all_pop (λ k. results_of rs k ≡ r) old f.0 (subst (AllOf (λ k. results_of rs k ≡ r)) q h)).1;
}

pub nested_learnt : (node node' : ℕ) (old calls : List ℕ) (w : ℕ) (o : Op) (b : Box Block Global)
    (t : Block) (last : Op) → o ≡ op.Nested b → t ≡ b.value → last ≡ t.last.value
    → ResultsCollected node node' old calls w (λ n. ActEnds n node 13 (act_of last))
    (λ rs r. ActGives node rs r (act_of last)) → ResultsCollected node node' old calls w
    (λ n. ActEnds n node 13 (act_of o)) (λ rs r. ActGives node rs r (act_of o))
unfolding ActEnds ActGives
nested_learnt node node' old calls w o b t last e q l d =
    let is : act_of o ≡ nested (code_of t) = ap act_of e ∙ act_of-Nested b ∙ ap
    (λ u. nested (code_of u)) (sym q) in
    let ends : (n : ℕ) → ActEnds n node 13 (act_of o) → ActEnds n node 13 (act_of last)
    = λ n h. subst (λ u. ActEnds n node 13 (act_of u)) (sym l)
    (last_ends n node 13 t (subst (ActEnds n node 13) is h)) in
    record {
      same_node = d.same_node;
      known = λ n h. d.known n (ends n h);
      narrow = λ n h. d.narrow n (ends n h);
      before = d.before;
      gives = λ rs r h le. subst (ActGives node rs r) (sym is)
          (last_gives node rs r t
          (subst (λ u. ActGives node rs r (act_of u)) l (d.gives rs r h le)));
    }

pub case_learnt : (node node' : ℕ) (old calls : List ℕ) (w : ℕ) (o : Op) (v : Val)
    (alts all : List Alt) → o ≡ op.Case v alts → all ≡ alts
    → ResultsCollected node node' old calls w (λ n. ArmsEnd n node 13 (arms_of (map arm_of all)))
    (λ rs r. ArmsGive node rs r (arms_of (map arm_of all)))
    → ResultsCollected node node' old calls w (λ n. ActEnds n node 13 (act_of o))
    (λ rs r. ActGives node rs r (act_of o))
unfolding ActEnds ActGives
case_learnt node node' old calls w o v alts all e q d =
    let is : act_of o ≡ case v (arms_of (map arm_of all))
    = ap act_of e ∙ act_of-Case v alts ∙ ap (λ l. case v (arms_of (map arm_of l))) (sym q) in
    record {
      same_node = d.same_node;
      known = λ n h. d.known n (subst (ActEnds n node 13) is h);
      narrow = λ n h. d.narrow n (subst (ActEnds n node 13) is h);
      before = d.before;
      gives = λ rs r h le. subst (ActGives node rs r) (sym is) (d.gives rs r h le);
    }
