-- What the loops keep.
use Rattle.std.proofs.Common.{◌≡◌, ℕ, zero, suc, ◌+◌, ◌<◌, ◌≤◌, List, [], ◌∷◌, ◌++◌, map, take, length, length-take, get_or, replicate, slice_get, slice_set, refl, sym, ap, ◌∙◌, subst, arith}
use Rattle.std.proofs.lemmas.List.{take_more, take_all}
use Rattle.seq.proofs.Lists.{take_next, map_push}
use Rattle.grin_syntax.specs.declared.program.VarId.{VarId}
use Rattle.grin_syntax.specs.declared.program.Word as W
use Rattle.grin_syntax.specs.declared.program.Shape.{Shape}
use Rattle.grin_syntax.specs.declared.program.Val.{Val}
use Rattle.grin_syntax.specs.declared.program.Alt.{Alt}
use Rattle.grin_syntax.specs.declared.program.Stmt.{Stmt}
use Rattle.grin_syntax.specs.declared.program.Block.{Block}
use Rattle.grin_syntax.specs.declared.program.Proc.{Proc}
use Rattle.grin_syntax.specs.declared.program.Op.TheVariants.{Case}
use Rattle.grin_syntax.specs.Tree.{Code, end, Arms, no_arm, arm, case, Procedure, act_of, before_of, arm_of, code_of, all_before, arms_of, procedure_of}
use Rattle.grin_syntax.proofs.TreeOf.{code_of-parts, act_of-Case}
use Rattle.grin_syntax.proofs.Pieces.{all_arms, all_arms_none, all_arms_push, all_before_push}
use Rattle.vectorise.specs.declared.known.Known.{Known}
use Rattle.vectorise.specs.declared.known.Known.TheVariants.{Field}
use Rattle.vectorise.specs.Known.{Layout, Table, word_or_zero, noted_fields, noted_shape, noted_act, noted_code, noted_arms, noted_procs}
use Rattle.vectorise.specs.Vectors.{wide_val, without_binders, wide_act, wide_code, wide_arms, wide_arm}

-- ---- what is known

pub replicate_push : (n : ℕ) (x : Known) → replicate n x ++ x ∷ [] ≡ replicate (n + 1) x
replicate_push zero x = refl
replicate_push (suc n) x = ap (λ l. x ∷ l) (replicate_push n x) ∙
    (let e : suc (n + 1) ≡ suc n + 1 = omega arith in ap (λ k. replicate k x) e)

pub set_past : (k : Table) (i : ℕ) (x : Known) → length k ≤ i → k ≡ slice_set k i x
set_past [] i x h = refl
set_past (y ∷ k) zero x h = absurd (omega arith)
set_past (y ∷ k) (suc i) x h = ap (λ l. y ∷ l) (set_past k i x (omega arith))

fields_push : (ws : List W.Word) (xs : List VarId) (x : VarId) (k : Table)
    → noted_fields ws (xs ++ x ∷ []) k ≡ slice_set (noted_fields ws xs k) x.0
    (Field (word_or_zero (slice_get ws (length xs))))
fields_push [] [] x k = refl
fields_push (w ∷ ws) [] x k = refl
fields_push [] (y ∷ xs) x k = fields_push [] xs x _
fields_push (w ∷ ws) (y ∷ xs) x k = fields_push ws xs x _

pub fields_next : (ws : List W.Word) (xs : List VarId) (i : ℕ) (d : VarId) (at : ℕ) (w : W.Word)
    (k0 old new : Table) → i < length xs → at ≡ i → w ≡ word_or_zero (slice_get ws at)
    → new ≡ slice_set old (get_or xs i d).0 (Field w) → old ≡ noted_fields ws (take i xs) k0
    → new ≡ noted_fields ws (take (i + 1) xs) k0
fields_next ws xs i d at w k0 old new lt same f n h =
    let x : VarId = get_or xs i d in
    let many : length (take i xs) ≡ i = omega (arith, length-take i xs) in
    let word : w ≡ word_or_zero (slice_get ws (length (take i xs)))
    = f ∙ ap (λ j. word_or_zero (slice_get ws j)) (same ∙ sym many) in
    n ∙ (λ j. slice_set (h j) x.0 (Field (word j))) ∙ sym (fields_push ws (take i xs) x k0) ∙ ap
    (λ l. noted_fields ws l k0) (sym (take_more xs i d lt))

module _ (l : Layout) where
  pub record StmtsNoted (ss : List Stmt) (old new : Table) : Type 0 where
    pub by : (c : Code) → noted_code l (all_before (map before_of ss) c) old ≡ noted_code l c new

  pub no_stmts : (k : Table) → StmtsNoted [] k k
  no_stmts k = record { by = λ c. refl }

  pub stmts_next : (ss : List Stmt) (i : ℕ) (s : Stmt) (k0 old new : Table) → i < length ss
      → s ≡ get_or ss i s → StmtsNoted (take i ss) k0 old
      → ((c : Code) → noted_code l c new ≡ noted_code l (before_of s c) old)
      → StmtsNoted (take (i + 1) ss) k0 new
  stmts_next ss i s k0 old new lt at p h = subst (λ x. StmtsNoted x k0 new)
      (sym (take_next ss i s lt at))
      (record {
        by = λ c. ap (λ x. noted_code l x k0) (all_before_push (take i ss) s c) ∙ p.by
            (before_of s c) ∙ sym (h c);
      })

  pub block_noted : (b : Block) (i : ℕ) (k0 mid new : Table) → length b.stmts ≤ i
      → StmtsNoted (take i b.stmts) k0 mid → new ≡ noted_act l (act_of b.last.value) mid
      → new ≡ noted_code l (code_of b) k0
  unfolding noted_act
  block_noted b i k0 mid new le p e =
      let q : StmtsNoted b.stmts k0 mid = subst (λ x. StmtsNoted x k0 mid) (take_all i b.stmts le) p
      in
      e ∙ sym (q.by (end (act_of b.last.value))) ∙ ap (λ x. noted_code l x k0)
      (sym (code_of-parts b))

  pub record ArmsNoted (ws : List W.Word) (as' : List Alt) (old new : Table) : Type 0 where
    pub by : (r : Arms) → noted_arms l ws (all_arms (map arm_of as') r) old ≡ noted_arms l ws r new

  pub no_arms : (ws : List W.Word) (k : Table) → ArmsNoted ws [] k k
  no_arms ws k = record { by = λ r. refl }

  pub arms_next : (ws : List W.Word) (as' : List Alt) (i : ℕ) (a : Alt) (k0 old mid new : Table)
      → i < length as' → a ≡ get_or as' i a → mid ≡ noted_shape ws a.pattern old
      → new ≡ noted_code l (code_of a.body) mid → ArmsNoted ws (take i as') k0 old
      → ArmsNoted ws (take (i + 1) as') k0 new
  unfolding noted_act
  arms_next ws as' i a k0 old mid new lt at e f p = subst (λ x. ArmsNoted ws x k0 new)
      (sym (take_next as' i a lt at))
      (record {
        by = λ r. ap (λ x. noted_arms l ws x k0) (all_arms_push (take i as') a r) ∙ p.by
            (arm a.pattern (code_of a.body) r) ∙ ap (noted_arms l ws r)
            (sym (f ∙ ap (noted_code l (code_of a.body)) e));
      })

  pub arms_noted : (ws : List W.Word) (as' : List Alt) (i : ℕ) (k0 new : Table) → length as' ≤ i
      → ArmsNoted ws (take i as') k0 new → new ≡ noted_arms l ws (arms_of (map arm_of as')) k0
  unfolding noted_act
  arms_noted ws as' i k0 new le p =
      let q : ArmsNoted ws as' k0 new = subst (λ x. ArmsNoted ws x k0 new) (take_all i as' le) p in
      sym (q.by no_arm) ∙ ap (λ x. noted_arms l ws x k0) (all_arms_none (map arm_of as'))

  procs_push : (qs : List Procedure) (q : Procedure) (k : Table)
      → noted_procs l (qs ++ q ∷ []) k ≡ noted_code l q.body (noted_procs l qs k)
  procs_push [] q k = refl
  procs_push (r ∷ qs) q k = procs_push qs q _

  pub procs_next : (ps : List Proc) (i : ℕ) (p : Proc) (k0 old new : Table) → i < length ps
      → p ≡ get_or ps i p → new ≡ noted_code l (code_of p.body) old
      → old ≡ noted_procs l (map procedure_of (take i ps)) k0
      → new ≡ noted_procs l (map procedure_of (take (i + 1) ps)) k0
  procs_next ps i p k0 old new lt at n h =
      n ∙ ap (noted_code l (code_of p.body)) h ∙ sym
      (procs_push (map procedure_of (take i ps)) (procedure_of p) k0)
      ∙ ap (λ x. noted_procs l x k0)
      (sym (map_push procedure_of (take i ps) p) ∙ ap (map procedure_of)
      (sym (take_next ps i p lt at)))

-- ---- blocks

module _ (l : Layout) (k : Table) where
  pub record Widens (made from : List Stmt) : Type 0 where
    pub by : (c : Code) → all_before (map before_of made) (wide_code l k c) ≡ wide_code l k
        (all_before (map before_of from) c)

  pub none_widens : Widens [] []
  none_widens = record { by = λ c. refl }

  pub one_more_widens : (made from : List Stmt) (m s : Stmt) → Widens made from
      → ((c : Code) → before_of m (wide_code l k c) ≡ wide_code l k (before_of s c))
      → Widens (made ++ m ∷ []) (from ++ s ∷ [])
  one_more_widens made from m s u h = record {
    by = λ c. all_before_push made m (wide_code l k c) ∙ ap (all_before (map before_of made)) (h c)
        ∙ u.by (before_of s c) ∙ ap (wide_code l k) (sym (all_before_push from s c));
  }

  arms_widen : (as' : List (Shape × Code)) → arms_of (map (wide_arm l k) as') ≡ wide_arms l k
      (arms_of as')
  unfolding wide_act
  arms_widen [] = refl
  arms_widen (a ∷ as') = ap (arm (without_binders a.0) (wide_code l k a.1)) (arms_widen as')

  pub case_widens : (v v' : Val) (made alts : List Alt) → v' ≡ wide_val l k v
      → map arm_of made ≡ map (wide_arm l k) (map arm_of alts)
      → act_of (Case v' made) ≡ wide_act l k (act_of (Case v alts))
  unfolding wide_act
  case_widens v v' made alts f e =
      act_of-Case v' made ∙ (λ i. case (f i) (arms_of (e i))) ∙ ap (case (wide_val l k v))
      (arms_widen (map arm_of alts)) ∙ ap (wide_act l k) (sym (act_of-Case v alts))
