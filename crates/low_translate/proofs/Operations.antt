-- Operations and statements.
use Rattle.std.proofs.Common.{◌≡◌, ◌⊎◌, inl, inr, ◌≤◌, ◌<◌, ℕ, zero, suc, ◌+◌, ◌-◌, true, false, List, [], ◌∷◌, ◌++◌, map, length, take, drop, get_or, refl, sym, ap, ◌∙◌, subst, arith}
use Rattle.std.specs.declared.alloc.Global.{Global}
use Rattle.std.specs.declared.boxed.Box.{Box}
use Rattle.std.proofs.lemmas.List.{drop_more, take_rest, take_all}
use Rattle.seq.proofs.Lists.{take_next}
use Rattle.grin_syntax.specs.declared.program.Block.{Block}
use Rattle.grin_syntax.specs.declared.program.Proc.{Proc}
use Rattle.grin_syntax.specs.declared.program.ProcId.{ProcId}
use Rattle.grin_syntax.specs.declared.program.Word.{Word}
use Rattle.grin_syntax.specs.declared.program.Val.{Val}
use Rattle.grin_syntax.specs.declared.program.Alt.{Alt}
use Rattle.grin_syntax.specs.declared.program.Stmt as S
use Rattle.grin_syntax.specs.declared.program.Target.{Target}
use Rattle.grin_syntax.specs.declared.program.Cell as C
use Rattle.grin_syntax.specs.declared.program.PrimOp as G
use Rattle.grin_syntax.specs.declared.program.Op.{Op}
use Rattle.grin_syntax.specs.declared.program.Op.TheVariants as op
use Rattle.grin_syntax.specs.declared.program.Stmt.TheVariants as stmt
use Rattle.grin_syntax.specs.Binders.{numbers_of, target_vars, cell_vars}
use Rattle.grin_syntax.specs.Formed.{AllOf}
use Rattle.grin_syntax.specs.Tree as grin
use Rattle.grin_syntax.specs.Tree.{Act, leaf, call, case, nested, fail, act_of, before_of, code_of, all_before, IsLeaf}
use Rattle.grin_syntax.proofs.TreeOf as grin_tree
use Rattle.low_code.specs.declared.program.LowStmt.{LowStmt}
use Rattle.low_code.specs.declared.program.LowStmt.TheVariants as low_stmt
use Rattle.low_code.specs.declared.program.LowEnd.TheVariants as low_end
use Rattle.low_code.specs.declared.program.LowBlock.{LowBlock}
use Rattle.low_code.specs.declared.program.Operand.{Operand}
use Rattle.low_code.specs.Tree as low
use Rattle.low_code.proofs.TreeOf as low_tree
use Rattle.low_translate.specs.declared.blocks.Goal.{Goal}
use Rattle.low_translate.specs.Translation.{operand_of, operands_of_words, operands_of, padded_to_width, variables_of, set_all, to_first, take_if_any, store_all, results_of, to_join, end_words, plain_numbers, through_numbers, act_numbers, code_numbers, arms_numbers, plain_code, through, act_code, code_code, arms_code}
use Rattle.low_translate.specs.Lowered.{WordRanged, ValRanged, ActRanged, CodeRanged, ArmsRanged}
use Rattle.low_translate.specs.Emitted.{emitted, AppendsBefore, PlainDone, ActDone, ThroughDone, PlainEndDone, EndDone, BlockDone, StmtDone, ArmsDone, ProcedureDone}
use Rattle.low_translate.proofs.Emitting.{adds_then}
use Rattle.seq.specs.Lists.{numbers_from}
use Rattle.seq.proofs.Counted.{length_numbers}

-- the first variable, then the others
pub first_done : (a b c : List LowStmt) (x : ℕ) (xs rest : List ℕ) (e : ℕ → low.Code → low.Code)
    → xs ≡ x ∷ rest → AppendsBefore a b (e x) → AppendsBefore b c (set_all rest [])
    → AppendsBefore a c (to_first xs e)
first_done a b c x xs rest e q h k = subst (λ l. AppendsBefore a c (to_first l e)) (sym q)
    (adds_then a b c (e x) (set_all rest []) h k)

pub first_rest : (xs : List ℕ) → 0 < length xs → xs ≡ get_or xs 0 0 ∷ take (length xs - 1)
    (drop 1 xs)
first_rest xs h = drop_more xs 0 0 h ∙ ap (λ l. get_or xs 0 0 ∷ l) (sym (take_rest xs 1))

pub length_fitted : (k : ℕ) (as' : List Operand) → length (padded_to_width k as') ≡ k
length_fitted zero as' = refl
length_fitted (suc k) [] = ap suc (length_fitted k [])
length_fitted (suc k) (a ∷ as') = ap suc (length_fitted k as')

pub plain_as : (o : Op) (t : Act) → act_of o ≡ t → IsLeaf t → IsLeaf (act_of o)
plain_as o t e h = subst IsLeaf (sym e) h

-- the operations without blocks, in three groups
pub plain_first : (o : Op) → ((v : Val) × (o ≡ op.Unit v))
    ⊎ (((w : Word) × (o ≡ op.Fetch w)) ⊎
    (((w : Word) × (i : ℕ) × (o ≡ op.FetchWord w i))
    ⊎ (((w : Word) × (v : Val) × (o ≡ op.Update w v)) ⊎ ((w : Word) × (o ≡ op.Eval w)))))
    → IsLeaf (act_of o)
plain_first o (inl h) = plain_as o _ (ap act_of h.1 ∙ grin_tree.act_of-Unit h.0) tt
plain_first o (inr (inl h)) = plain_as o _ (ap act_of h.1 ∙ grin_tree.act_of-Fetch h.0) tt
plain_first o (inr (inr (inl h))) = plain_as o _
    (ap act_of h.2 ∙ grin_tree.act_of-FetchWord h.0 h.1) tt
plain_first o (inr (inr (inr (inl h)))) = plain_as o _
    (ap act_of h.2 ∙ grin_tree.act_of-Update h.0 h.1) tt
plain_first o (inr (inr (inr (inr h)))) = plain_as o _ (ap act_of h.1 ∙ grin_tree.act_of-Eval h.0)
    tt

pub plain_second : (o : Op) → ((v : Val) × (w : Word) × (o ≡ op.Apply v w))
    ⊎ (((f : ProcId) × (ws : List Word) × (o ≡ op.Call f ws))
    ⊎ (((f : G.PrimOp) × (a : Word) × (b : Word) × (o ≡ op.Prim f a b)) ⊎ (o ≡ op.Read)))
    → IsLeaf (act_of o)
plain_second o (inl h) = plain_as o _ (ap act_of h.2 ∙ grin_tree.act_of-Apply h.0 h.1) tt
plain_second o (inr (inl h)) = plain_as o _ (ap act_of h.2 ∙ grin_tree.act_of-Call h.0 h.1) tt
plain_second o (inr (inr (inl h))) = plain_as o _
    (ap act_of h.3 ∙ grin_tree.act_of-Prim h.0 h.1 h.2) tt
plain_second o (inr (inr (inr h))) = plain_as o _ (ap act_of h ∙ grin_tree.act_of-Read) tt

pub plain_third : (o : Op) → ((w : Word) × (o ≡ op.Write w)) ⊎ (o ≡ op.Fail) → IsLeaf (act_of o)
plain_third o (inl h) = plain_as o _ (ap act_of h.1 ∙ grin_tree.act_of-Write h.0) tt
plain_third o (inr h) = plain_as o _ (ap act_of h ∙ grin_tree.act_of-Fail) tt

all_before_push : (ss : List S.Stmt) (s : S.Stmt) (c : grin.Code)
    → all_before (map before_of (ss ++ s ∷ [])) c ≡ all_before (map before_of ss) (before_of s c)
all_before_push [] s c = refl
all_before_push (x ∷ ss) s c = ap (before_of x) (all_before_push ss s c)

pub stmts_next : (ss : List S.Stmt) (i : ℕ) (s : S.Stmt) → i < length ss → s ≡ get_or ss i s
    → (x : grin.Code) → all_before (map before_of (take (i + 1) ss)) x ≡ all_before
    (map before_of (take i ss)) (before_of s x)
stmts_next ss i s lt e x = ap (λ l. all_before (map before_of l) x) (take_next ss i s lt e) ∙
    all_before_push (take i ss) s x

pub block_is : (b : Block) (ss : List S.Stmt) (i : ℕ) (o : Op) → length ss ≤ i → ss ≡ b.stmts
    → o ≡ b.last.value → code_of b ≡ all_before (map before_of (take i ss)) (grin.end (act_of o))
block_is b ss i o le e l = grin_tree.code_of-parts b ∙
    (λ j. all_before (map before_of (sym (take_all i ss le ∙ e) j)) (grin.end (act_of (sym l j))))

pub block_fails : (b : LowBlock) → b.stmts ≡ [] → b.last ≡ low_end.Fail → low.code_of b ≡ low.fail
block_fails b s l = low_tree.code_of-parts b ∙
    (λ i. low.all_before (map low.before_of (s i)) (low.end_of (l i))) ∙ low_tree.end_of-Fail

-- a block without statements
pub end_alone : (b : LowBlock) → b.stmts ≡ [] → low.code_of b ≡ low.end_of b.last
end_alone b s = low_tree.code_of-parts b ∙ ap
    (λ l. low.all_before (map low.before_of l) (low.end_of b.last)) s

module _ (w : ℕ) (rs : List ℕ) where
  pub call_done : (n n1 n2 : ℕ) (xs : List ℕ) (f : ProcId) (ws : List Word) (site count : ℕ)
      (front into more into' past : List ℕ) (arguments : List Operand) (a b c : List LowStmt)
      → site ≡ n → n1 ≡ suc n → count ≡ results_of rs f.0 → front ≡ take count xs → into ≡ front
      → more ≡ numbers_from n1 (count - length xs) → n2 ≡ n1 + (count - length xs)
      → into' ≡ into ++ more
      → arguments ≡ operands_of_words ws → AllOf WordRanged ws
      → AppendsBefore a b (low.before_of (low_stmt.Call f.0 site arguments into'))
      → past ≡ drop count xs → AppendsBefore b c (set_all past [])
      → PlainDone w rs n n2 xs (leaf (call f ws)) a c
  call_done n n1 n2 xs f ws site count front into more into' past arguments a b c es en ec ef ei em
      e2 ej ea r h ep k = record {
        is = record {
          by = λ x. k.by x ∙ h.by (set_all past [] x) ∙ ap (λ g. emitted a (g (set_all past [] x)))
              (low_tree.before_of-Call f.0 site arguments into')
              ∙ (λ i. emitted a (low.call f.0 (es i) (ea i) (whole i) (set_all (rest i) [] x)));
        };
        numbers = let m : count - length xs ≡ results_of rs f.0 - length xs = ap (λ q. q - length xs) ec
            in omega (arith, en, e2, m);
        ranged = r;
      }
    where
      whole : into' ≡ take (results_of rs f.0) xs ++ numbers_from (suc n)
          (results_of rs f.0 - length xs)
      whole = ej ∙
          (λ i. (ei ∙ ef ∙ ap (λ q. take q xs) ec) i
          ++ (em ∙ (λ j. numbers_from (en j) (ec j - length xs))) i)

      rest : past ≡ drop (results_of rs f.0) xs
      rest = ep ∙ ap (λ q. drop q xs) ec

  pub write_done : (n : ℕ) (xs : List ℕ) (o : Op) (word : Word) (v : Operand) (a b c : List LowStmt)
      → o ≡ op.Write word → v ≡ operand_of word → WordRanged word
      → AppendsBefore a b (low.before_of (low_stmt.Put v)) → AppendsBefore b c (set_all xs [])
      → PlainDone w rs n n xs (act_of o) a c
  write_done n xs o word v a b c q e r h k = subst (λ t. PlainDone w rs n n xs t a c)
      (sym (ap act_of q ∙ grin_tree.act_of-Write word)) (record {
        is = record {
          by = λ x. k.by x ∙ h.by (set_all xs [] x) ∙ ap (λ g. emitted a (g (set_all xs [] x)))
              (low_tree.before_of-Put v) ∙ ap (λ u. emitted a (low.put u (set_all xs [] x))) e;
        };
        numbers = omega arith;
        ranged = r;
      })

  pub through_done : (n n1 n2 : ℕ) (goal : Goal) (o : Act) (count : ℕ) (xs vars : List ℕ)
      (words given : List Operand) (a b : List LowStmt)
      → count ≡ end_words w rs goal.words o → vars ≡ numbers_from n count → n1 ≡ n + count
      → xs ≡ vars → PlainDone w rs n1 n2 xs o a b → words ≡ variables_of xs
      → given ≡ padded_to_width goal.words words
      → ThroughDone w rs n n2 goal o a b (low.end_of (low_end.Give given))
  through_done n n1 n2 goal o count xs vars words given a b ec ev en ex d ew eg = record {
    is = record {
      by = ap (emitted b)
          (low_tree.end_of-Give given ∙ ap low.give
          (eg ∙ ap (padded_to_width goal.words) (ew ∙ ap variables_of same))) ∙ d.is.by _
          ∙ (λ i. emitted a
          (plain_code w rs (same i) (first i) o
          (low.give
          (padded_to_width goal.words
          (variables_of (numbers_from n (end_words w rs goal.words o)))))));
    };
    numbers =
        let m : n2 ≡ n1 + plain_numbers w rs (end_words w rs goal.words o) o
        = d.numbers ∙ ap (λ k. n1 + plain_numbers w rs k o)
        (ap length same ∙ length_numbers n (end_words w rs goal.words o)) in
        omega (arith, m, first);
    ranged = d.ranged;
  }
    where
      same : xs ≡ numbers_from n (end_words w rs goal.words o)
      same = ex ∙ ev ∙ ap (numbers_from n) ec

      first : n1 ≡ n + end_words w rs goal.words o
      first = en ∙ ap (λ k. n + k) ec

  pub tail_done : (n n1 : ℕ) (goal : Goal) (f : ProcId) (ws : List Word) (site : ℕ)
      (arguments : List Operand) (a : List LowStmt) → goal.leaves ≡ true → site ≡ n → n1 ≡ suc n
      → arguments ≡ operands_of_words ws → AllOf WordRanged ws
      → PlainEndDone w rs n n1 goal (leaf (call f ws)) a a
      (low.end_of (low_end.Tail f.0 site arguments))
  tail_done n n1 goal f ws site arguments a l es en ea r = record {
    is = record {
      by = ap (emitted a)
          (low_tree.end_of-Tail f.0 site arguments ∙ (λ i. low.tail f.0 (es i) (ea i)) ∙ sym
          (ap (λ t. elim t [
            | true ↦ low.tail f.0 n (operands_of_words ws)
            | false ↦ through w rs goal n
                (leaf (call f ws))
          ]) l));
    };
    numbers = let m : n1 ≡ n + 1 = omega (arith, en)
        in m ∙ sym
        (ap (λ t. n + elim t [ true ↦ 1 | false ↦ through_numbers w rs goal (leaf (call f ws)) ])
        l);
    ranged = r;
  }

  pub unit_done : (n : ℕ) (goal : Goal) (o : Op) (v : Val) (words given : List Operand)
      (a : List LowStmt) → o ≡ op.Unit v → words ≡ operands_of v → ValRanged v
      → given ≡ padded_to_width goal.words words
      → PlainEndDone w rs n n goal (act_of o) a a (low.end_of (low_end.Give given))
  unit_done n goal o v words given a q e r g = subst
      (λ t. PlainEndDone w rs n n goal t a a (low.end_of (low_end.Give given)))
      (sym (ap act_of q ∙ grin_tree.act_of-Unit v)) (record {
        is = record {
          by = ap (emitted a)
              (low_tree.end_of-Give given ∙ ap low.give (g ∙ ap (padded_to_width goal.words) e));
        };
        numbers = omega arith;
        ranged = r;
      })

  pub eval_done : (n : ℕ) (goal : Goal) (o : Op) (u : Word) (a : List LowStmt) → o ≡ op.Eval u
      → PlainEndDone w rs n n goal (act_of o) a a (low.end_of low_end.Fail)
  eval_done n goal o u a q = subst (λ t. PlainEndDone w rs n n goal t a a (low.end_of low_end.Fail))
      (sym (ap act_of q ∙ grin_tree.act_of-Eval u))
      (record {
        is = record { by = ap (emitted a) low_tree.end_of-Fail };
        numbers
            = omega arith;
        ranged = tt;
      })

  pub apply_done : (n : ℕ) (goal : Goal) (o : Op) (v : Val) (u : Word) (a : List LowStmt)
      → o ≡ op.Apply v u → PlainEndDone w rs n n goal (act_of o) a a (low.end_of low_end.Fail)
  apply_done n goal o v u a q = subst
      (λ t. PlainEndDone w rs n n goal t a a (low.end_of low_end.Fail))
      (sym (ap act_of q ∙ grin_tree.act_of-Apply v u))
      (record {
        is = record { by = ap (emitted a) low_tree.end_of-Fail };
        numbers
            = omega arith;
        ranged = tt;
      })

  pub fail_done : (n : ℕ) (goal : Goal) (o : Op) (a : List LowStmt) → o ≡ op.Fail
      → PlainEndDone w rs n n goal (act_of o) a a (low.end_of low_end.Fail)
  fail_done n goal o a q = subst (λ t. PlainEndDone w rs n n goal t a a (low.end_of low_end.Fail))
      (sym (ap act_of q ∙ grin_tree.act_of-Fail))
      (record {
        is = record { by = ap (emitted a) low_tree.end_of-Fail };
        numbers
            = omega arith;
        ranged = tt;
      })

  -- ---- with blocks

  pub plain_act : (n n1 : ℕ) (xs : List ℕ) (o : Act) (a b : List LowStmt) → IsLeaf o
      → PlainDone w rs n n1 xs o a b → ActDone w rs n n1 xs o a b
  unfolding act_code act_numbers ActRanged
  plain_act n n1 xs (case v as') a b h d = absurd h
  plain_act n n1 xs (nested c) a b h d = absurd h
  plain_act n n1 xs o a b h d = record { is = d.is; numbers = d.numbers; ranged = d.ranged }

  pub plain_end_act : (n n1 : ℕ) (goal : Goal) (o : Act) (a b : List LowStmt) (e : low.Code)
      → IsLeaf o → PlainEndDone w rs n n1 goal o a b e → EndDone w rs n n1 goal o a b e
  unfolding act_code act_numbers ActRanged
  plain_end_act n n1 goal (case v as') a b e h d = absurd h
  plain_end_act n n1 goal (nested c) a b e h d = absurd h
  plain_end_act n n1 goal o a b e h d = record { is = d.is; numbers = d.numbers; ranged = d.ranged }

  pub case_done : (n n1 : ℕ) (xs : List ℕ) (o : Op) (v : Val) (alts alts' : List Alt)
      (words : List Operand) (block : LowBlock) (e : low.Code) (a b : List LowStmt)
      → o ≡ op.Case v alts → alts' ≡ alts → words ≡ operands_of v → ValRanged v
      → ArmsDone w rs n n1 (to_join xs) words (grin.arms_of (map grin.arm_of alts')) e
      → low.code_of block ≡ e → AppendsBefore a b (low.join xs (low.code_of block))
      → ActDone w rs n n1 xs (act_of o) a b
  unfolding act_code act_numbers ActRanged
  case_done n n1 xs o v alts alts' words block e a b q qa h r d k j
      = subst (λ t. ActDone w rs n n1 xs t a b) (sym (ap act_of q ∙ grin_tree.act_of-Case v alts))
      (record {
        is = record {
          by = λ c. j.by c ∙ ap (λ t. emitted a (low.join xs t c))
              (k ∙ d.is ∙
              (λ i. low.choose
              (arms_code w rs (to_join xs) n (h i) (grin.arms_of (map grin.arm_of (qa i))))));
        };
        numbers = d.numbers ∙ ap
            (λ l. n + arms_numbers w rs (to_join xs) (grin.arms_of (map grin.arm_of l))) qa;
        ranged = (r, subst (λ l. ArmsRanged (grin.arms_of (map grin.arm_of l))) qa d.ranged);
      })

  pub nested_done : (n n1 : ℕ) (xs : List ℕ) (o : Op) (inner : Box Block Global) (t : Block)
      (block : LowBlock) (a b : List LowStmt) → o ≡ op.Nested inner → t ≡ inner.value
      → BlockDone w rs n n1 (to_join xs) (code_of t) [] [] (low.code_of block)
      → AppendsBefore a b (low.join xs (low.code_of block))
      → ActDone w rs n n1 xs (act_of o) a b
  unfolding act_code act_numbers ActRanged
  nested_done n n1 xs o inner t block a b q e d j = subst (λ u. ActDone w rs n n1 xs u a b)
      (sym (ap act_of q ∙ grin_tree.act_of-Nested inner ∙ ap (λ u. nested (code_of u)) (sym e)))
      (record {
        is = record { by = λ c. j.by c ∙ ap (λ u. emitted a (low.join xs u c)) d.is.by };
        numbers = d.numbers;
        ranged = d.ranged;
      })

  pub case_ends : (n n1 : ℕ) (goal : Goal) (o : Op) (v : Val) (alts alts' : List Alt)
      (words : List Operand) (a : List LowStmt) (e : low.Code) → o ≡ op.Case v alts → alts' ≡ alts
      → words ≡ operands_of v → ValRanged v
      → ArmsDone w rs n n1 goal words (grin.arms_of (map grin.arm_of alts')) e
      → EndDone w rs n n1 goal (act_of o) a a e
  unfolding act_code act_numbers ActRanged
  case_ends n n1 goal o v alts alts' words a e q qa h r d
      = subst (λ t. EndDone w rs n n1 goal t a a e)
      (sym (ap act_of q ∙ grin_tree.act_of-Case v alts)) (record {
        is = record {
          by = ap (emitted a)
              (d.is ∙ (λ i. low.choose
              (arms_code w rs goal n (h i) (grin.arms_of (map grin.arm_of (qa i))))));
        };
        numbers = d.numbers ∙ ap (λ l. n + arms_numbers w rs goal (grin.arms_of (map grin.arm_of l)))
            qa;
        ranged = (r, subst (λ l. ArmsRanged (grin.arms_of (map grin.arm_of l))) qa d.ranged);
      })

  pub nested_ends : (n n1 : ℕ) (goal : Goal) (o : Op) (inner : Box Block Global) (t : Block)
      (a b : List LowStmt) (e : low.Code) → o ≡ op.Nested inner → t ≡ inner.value
      → BlockDone w rs n n1 goal (code_of t) a b e → EndDone w rs n n1 goal (act_of o) a b e
  unfolding act_code act_numbers ActRanged
  nested_ends n n1 goal o inner t a b e q h d = subst (λ u. EndDone w rs n n1 goal u a b e)
      (sym (ap act_of q ∙ grin_tree.act_of-Nested inner ∙ ap (λ u. nested (code_of u)) (sym h)))
      (record { is = d.is; numbers = d.numbers; ranged = d.ranged })

  -- ---- statements

  pub store_done : (n : ℕ) (s : S.Stmt) (cells : List C.Cell) (a b : List LowStmt)
      → s ≡ stmt.Store cells → AppendsBefore a b
      (λ c. take_if_any (cell_vars cells) (store_all w cells c))
      → AllOf (λ c. ValRanged c.val) cells → StmtDone w rs n n (before_of s) a b
  unfolding code_code code_numbers CodeRanged
  store_done n s cells a b q h r = subst (λ f. StmtDone w rs n n f a b)
      (sym (ap before_of q ∙ grin_tree.before_of-Store cells)) (record {
        is = λ goal c. record { by = h.by (code_code w rs goal n c) };
        numbers = λ goal c. refl;
        ranged = λ c k. (r, k);
      })

  pub bind_done : (n n1 : ℕ) (s : S.Stmt) (t : Target) (o : Op) (xs : List ℕ) (a b : List LowStmt)
      → s ≡ stmt.Bind t o → xs ≡ target_vars t → ActDone w rs n n1 xs (act_of o) a b
      → StmtDone w rs n n1 (before_of s) a b
  unfolding code_code code_numbers CodeRanged
  bind_done n n1 s t o xs a b q e d = subst (λ f. StmtDone w rs n n1 f a b)
      (sym (ap before_of q ∙ grin_tree.before_of-Bind t o)) (record {
        is = λ goal c. record {
          by = d.is.by (code_code w rs goal n1 c) ∙
              (λ i. emitted a (act_code w rs (e i) n (act_of o) (code_code w rs goal (m i) c)));
        };
        numbers = λ goal c. omega (arith, m);
        ranged = λ c k. (d.ranged, k);
      })
    where
      m : n1 ≡ n + act_numbers w rs (length (target_vars t)) (act_of o)
      m = d.numbers ∙ ap (λ l. n + act_numbers w rs (length l) (act_of o)) e

  pub no_stmts : (n : ℕ) (a : List LowStmt) → StmtDone w rs n n (λ c. c) a a
  no_stmts n a = record
      { is = λ goal b. record { by = refl }; numbers = λ goal b. refl; ranged = λ b h. h }

  pub stmts_then : (n n1 n2 : ℕ) (f g h : grin.Code → grin.Code) (a b c : List LowStmt)
      → StmtDone w rs n n1 f a b → StmtDone w rs n1 n2 g b c → ((x : grin.Code) → h x ≡ f (g x))
      → StmtDone w rs n n2 h a c
  stmts_then n n1 n2 f g h a b c d k e = record {
    is = λ goal x. record {
      by = (k.is goal x).by ∙ (d.is goal (g x)).by ∙ ap
          (λ t. emitted a (code_code w rs goal n t)) (sym (e x));
    };
    numbers = λ goal x. k.numbers goal x ∙ d.numbers goal (g x) ∙ ap
        (λ t. n + code_numbers w rs goal t) (sym (e x));
    ranged = λ x r. subst CodeRanged (sym (e x)) (d.ranged (g x) (k.ranged x r));
  }

  pub block_done : (n n1 n2 : ℕ) (goal : Goal) (t : Block) (f : grin.Code → grin.Code) (o : Op)
      (a b c : List LowStmt) (e : low.Code) → StmtDone w rs n n1 f a b
      → EndDone w rs n1 n2 goal (act_of o) b c e
      → code_of t ≡ f (grin.end (act_of o)) → BlockDone w rs n n2 goal (code_of t) a c e
  unfolding code_code code_numbers CodeRanged
  block_done n n1 n2 goal t f o a b c e d k q = subst (λ u. BlockDone w rs n n2 goal u a c e)
      (sym q) (record {
        is = record { by = k.is.by ∙ (d.is goal (grin.end (act_of o))).by };
        numbers = k.numbers ∙ d.numbers goal (grin.end (act_of o));
        ranged = d.ranged (grin.end (act_of o)) k.ranged;
      })

  -- a block of its own
  pub whole_block : (n n1 : ℕ) (goal : Goal) (t : grin.Code) (block : LowBlock) (old : List LowStmt)
      → old ≡ [] → BlockDone w rs n n1 goal t old block.stmts (low.end_of block.last)
      → BlockDone w rs n n1 goal t [] [] (low.code_of block)
  whole_block n n1 goal t block old e d = record {
    is = record {
      by = low_tree.code_of-parts block ∙ d.is.by ∙ ap
          (λ l. emitted l (code_code w rs goal n t)) e;
    };
    numbers = d.numbers;
    ranged = d.ranged;
  }

  pub procedure_done : (n n1 r : ℕ) (q : Proc) (params : List ℕ) (block : LowBlock)
      → params ≡ numbers_of q.params → BlockDone w rs n n1 (record { words = r; leaves = true })
      (code_of q.body) [] [] (low.code_of block)
      → ProcedureDone w rs n n1 r (grin.procedure_of q)
      (record { params = params; results = r; body = low.code_of block })
  procedure_done n n1 r q params block e d = record {
    is = λ i. record { params = e i; results = r; body = d.is.by i };
    numbers = d.numbers;
    ranged = d.ranged;
  }
