-- What walks over programs collect: for each piece a list, those of its parts one after the other.
use Rattle.std.proofs.Common.{◌≡◌, ℕ, ◌+◌, ◌<◌, ◌≤◌, List, [], ◌∷◌, ◌++◌, map, take, length, get_or, sym, ap, ◌∙◌, subst, append_assoc}
use Rattle.std.proofs.lemmas.List.{take_all, append-nil}
use Rattle.grin_syntax.specs.declared.program.Alt.{Alt}
use Rattle.grin_syntax.specs.declared.program.Block.{Block}
use Rattle.grin_syntax.specs.declared.program.Op.{Op}
use Rattle.grin_syntax.specs.declared.program.Proc.{Proc}
use Rattle.grin_syntax.specs.declared.program.Shape.{Shape}
use Rattle.grin_syntax.specs.declared.program.Stmt.{Stmt}
use Rattle.grin_syntax.specs.declared.program.Stmt.TheVariants.{Bind}
use Rattle.grin_syntax.specs.declared.program.Target.{Target}
use Rattle.grin_syntax.specs.Tree.{Code, end, bind, Act, Arms, no_arm, arm, act_of, before_of, arm_of, code_of, all_before, arms_of, Procedure, procedure_of}
use Rattle.grin_syntax.proofs.TreeOf.{code_of-parts, before_of-Bind}
use Rattle.grin_syntax.proofs.Pieces.{all_arms, all_arms_none, all_arms_push, all_before_push}
use Rattle.seq.proofs.Lists.{take_next, map_push}

-- lists for the pieces of a program
pub record Folds {X : Type 0} (acts : Act → List X) (codes : Code → List X) (arms : Arms → List X)
    : Type 0 where
  pub of_end : (o : Act) → codes (end o) ≡ acts o
  pub of_bind : (t : Target) (o : Act) (b : Code) → codes (bind t o b) ≡ acts o ++ codes b
  pub of_none : arms no_arm ≡ []
  pub of_arm : (s : Shape) (b : Code) (as' : Arms) → arms (arm s b as') ≡ codes b ++ arms as'

module _ {X : Type 0} {acts : Act → List X} {codes : Code → List X} {arms : Arms → List X}
    (L : Folds acts codes arms) where
  pub record StmtsSoFar (old new : List X) (ss : List Stmt) : Type 0 where
    pub by : (c : Code) → old ++ codes (all_before (map before_of ss) c) ≡ new ++ codes c

  pub record ArmsSoFar (old new : List X) (as' : List Alt) : Type 0 where
    pub by : (r : Arms) → old ++ arms (all_arms (map arm_of as') r) ≡ new ++ arms r

  pub stmts_next : (old new newer : List X) (ss : List Stmt) (i : ℕ) (s : Stmt) → i < length ss
      → s ≡ get_or ss i s → StmtsSoFar old new (take i ss)
      → ((c : Code) → new ++ codes (before_of s c) ≡ newer ++ codes c)
      → StmtsSoFar old newer (take (i + 1) ss)
  stmts_next old new newer ss i s lt e u h = subst (StmtsSoFar old newer)
      (sym (take_next ss i s lt e))
      (record {
        by = λ c. ap (λ b. old ++ codes b) (all_before_push (take i ss) s c) ∙ u.by
            (before_of s c) ∙ h c;
      })

  pub bind_done : (old new : List X) (s : Stmt) (t : Target) (o : Op) (c : Code) → s ≡ Bind t o
      → new ≡ old ++ acts (act_of o) → old ++ codes (before_of s c) ≡ new ++ codes c
  bind_done old new s t o c e h =
      ap (λ s. old ++ codes (before_of s c)) e ∙ ap (λ f. old ++ codes (f c)) (before_of-Bind t o) ∙
      ap (λ l. old ++ l) (L.of_bind t (act_of o) c) ∙ sym
      (append_assoc old (acts (act_of o)) (codes c)) ∙ ap (λ l. l ++ codes c) (sym h)

  pub block_done : (old new last : List X) (b : Block) (i : ℕ) → length b.stmts ≤ i
      → StmtsSoFar old new (take i b.stmts) → last ≡ new ++ acts (act_of b.last.value) → last ≡ old
      ++ codes (code_of b)
  block_done old new last b i le u h =
      let v : StmtsSoFar old new b.stmts = subst (StmtsSoFar old new) (take_all i b.stmts le) u in
      h ∙ ap (λ l. new ++ l) (sym (L.of_end (act_of b.last.value))) ∙ sym
      (v.by (end (act_of b.last.value))) ∙ ap (λ c. old ++ codes c) (sym (code_of-parts b))

  pub arms_next : (old new newer : List X) (as' : List Alt) (i : ℕ) (a : Alt) → i < length as'
      → a ≡ get_or as' i a → ArmsSoFar old new (take i as') → newer ≡ new ++ codes (code_of a.body)
      → ArmsSoFar old newer (take (i + 1) as')
  arms_next old new newer as' i a lt e u h = subst (ArmsSoFar old newer)
      (sym (take_next as' i a lt e)) (record {
        by = λ r. ap (λ b. old ++ arms b) (all_arms_push (take i as') a r) ∙ u.by
            (arm a.pattern (code_of a.body) r) ∙ ap (λ l. new ++ l)
            (L.of_arm a.pattern (code_of a.body) r)
            ∙ sym (append_assoc new (codes (code_of a.body)) (arms r)) ∙ ap (λ l. l ++ arms r) (sym h);
      })

  pub arms_done : (old new : List X) (as' : List Alt) (i : ℕ) → length as' ≤ i
      → ArmsSoFar old new (take i as') → new ≡ old ++ arms (arms_of (map arm_of as'))
  arms_done old new as' i le u =
      let v : ArmsSoFar old new as' = subst (ArmsSoFar old new) (take_all i as' le) u in
      sym (append-nil new) ∙ ap (λ l. new ++ l) (sym L.of_none) ∙ sym (v.by no_arm) ∙ ap
      (λ r. old ++ arms r) (all_arms_none (map arm_of as'))

  -- the lists of procedures
  abbrev pub all : List Procedure → List X
  all [] = []
  all (q ∷ qs) = codes q.body ++ all qs

  all_push : (qs : List Procedure) (q : Procedure) → all (qs ++ q ∷ []) ≡ all qs ++ codes q.body
  all_push [] q = append-nil (codes q.body)
  all_push (r ∷ qs) q = ap (λ l. codes r.body ++ l) (all_push qs q) ∙ sym
      (append_assoc (codes r.body) (all qs) (codes q.body))

  pub procs_next : (ps : List Proc) (i : ℕ) (p : Proc) (old new : List X) → i < length ps
      → p ≡ get_or ps i p → new ≡ old ++ codes (code_of p.body)
      → old ≡ all (map procedure_of (take i ps)) → new ≡ all (map procedure_of (take (i + 1) ps))
  procs_next ps i p old new lt e n o =
      n ∙ ap (λ l. l ++ codes (code_of p.body)) o ∙ sym
      (all_push (map procedure_of (take i ps)) (procedure_of p))
      ∙ ap all (sym
      (ap (map procedure_of) (take_next ps i p lt e) ∙ map_push procedure_of (take i ps) p))
