-- What the loops over procedures have made so far.
use Rattle.std.proofs.Common.{◌≡◌, ℕ, suc, ◌+◌, ◌<◌, ◌≤◌, Bool, List, [], ◌∷◌, ◌++◌, map, take, length, get_or, append_assoc, sym, ap, ◌∙◌, subst, arith}
use Rattle.std.proofs.lemmas.List.{take_all}
use Rattle.seq.proofs.Lists.{take_next, append_nil}
use Rattle.grin_syntax.specs.declared.program.Proc.{Proc}
use Rattle.grin_syntax.specs.declared.program.Grin.{Grin}
use Rattle.grin_syntax.specs.declared.program.Block.{Block}
use Rattle.grin_syntax.specs.Tree.{Procedure, procedure_of, code_of, program_of}
use Rattle.flow_system.specs.Solution.{Solution}
use Rattle.unbox.specs.declared.ties.Tie.{Tie}
use Rattle.unbox_theory.specs.Ends.{Procedures}
use Rattle.unbox.specs.Ties.{code_ties, body_tie, ties_from}
use Rattle.unbox_theory.specs.Unboxing.{unbox_code, unboxed_from, unboxed}
use Rattle.flow_system.proofs.SoFar.{procs_snoc}

-- ---- ties

module _ (A : Solution) where
  -- the ties of these procedures, and the number of the next one
  pub record TiesMade (made : List Tie) (ps : List Proc) (n : ℕ) : Type 0 where
    pub by : (rest : List Procedure) → ties_from A 0 (map procedure_of ps ++ rest) ≡ made
        ++ ties_from A n rest

  pub no_ties : (made : List Tie) → made ≡ [] → TiesMade made [] 0
  no_ties made e = record { by = λ rest. ap (λ l. l ++ ties_from A 0 rest) (sym e) }

  pub ties_next : (made mid newer : List Tie) (ps : List Proc) (i n m : ℕ) (q : Proc) (tie : Tie)
      → i < length ps → q ≡ get_or ps i q → m ≡ n + 1 → tie ≡ body_tie A n (procedure_of q)
      → mid ≡ made ++ tie ∷ []
      → newer ≡ mid ++ code_ties A (code_of q.body) → TiesMade made (take i ps) n
      → TiesMade newer (take (i + 1) ps) m
  ties_next made mid newer ps i n m q tie lt e u h k l f =
      let s : suc n ≡ m = omega arith in
      rw (take_next ps i q lt e) (subst (TiesMade newer (take i ps ++ q ∷ [])) s (record {
        by = λ rest. ap (ties_from A 0) (procs_snoc (take i ps) q rest) ∙ f.by
            (procedure_of q ∷ rest)
            ∙ sym (append_assoc made (body_tie A n (procedure_of q) ∷ [])
            (code_ties A (code_of q.body) ++ ties_from A (suc n) rest))
            ∙ ap (λ l. l ++ (code_ties A (code_of q.body) ++ ties_from A (suc n) rest))
            (ap (λ t. made ++ t ∷ []) (sym h) ∙ sym k)
            ∙ sym (append_assoc mid (code_ties A (code_of q.body)) (ties_from A (suc n) rest)) ∙ ap
            (λ l. l ++ ties_from A (suc n) rest) (sym l);
      }))

  pub ties_done : (made : List Tie) (ps : List Proc) (i n : ℕ) → length ps ≤ i
      → TiesMade made (take i ps) n → made ≡ ties_from A 0 (map procedure_of ps)
  ties_done made ps i n le f =
      let g : TiesMade made ps n = subst (λ l. TiesMade made l n) (take_all i ps le) f in
      sym (append_nil made) ∙ sym (g.by []) ∙ ap (ties_from A 0) (append_nil (map procedure_of ps))

-- ---- procedures made anew

module _ (S : Procedures) where
  -- what becomes of these procedures, and the number of the next one
  pub record ProcsMade (made ps : List Proc) (n : ℕ) : Type 0 where
    pub by : (rest : List Procedure) → unboxed_from S 0 (map procedure_of ps ++ rest) ≡ map
        procedure_of made ++ unboxed_from S n rest

  pub no_procs : (made : List Proc) → made ≡ [] → ProcsMade made [] 0
  no_procs made e = record
      { by = λ rest. ap (λ l. map procedure_of l ++ unboxed_from S 0 rest) (sym e) }

  pub procs_next : (made newer ps : List Proc) (n m : ℕ) (q : Proc) (bare : Bool) (body : Block)
      → m ≡ n + 1 → bare ≡ S n → code_of body ≡ unbox_code S bare (code_of q.body)
      → newer ≡ made ++ record { name = q.name; params = q.params; body = body } ∷ []
      → ProcsMade made ps n → ProcsMade newer (ps ++ q ∷ []) m
  procs_next made newer ps n m q bare body e b h k f =
      let s : suc n ≡ m = omega arith in
      let is : code_of body ≡ unbox_code S (S n) (code_of q.body)
      = h ∙ ap (λ b. unbox_code S b (code_of q.body)) b in
      subst (ProcsMade newer (ps ++ q ∷ [])) s (record {
        by = λ rest. ap (unboxed_from S 0) (procs_snoc ps q rest) ∙ f.by (procedure_of q ∷ rest)
            ∙ (λ i. map procedure_of made ++
            (record { name = q.name; params = q.params; body = sym is i } ∷ unboxed_from S
            (suc n) rest))
            ∙ sym (procs_snoc made (record { name = q.name; params = q.params; body = body })
            (unboxed_from S (suc n) rest)) ∙ ap
            (λ l. map procedure_of l ++ unboxed_from S (suc n) rest) (sym k);
      })

  procs_done : (made ps : List Proc) (n : ℕ) → ProcsMade made ps n
      → map procedure_of made ≡ unboxed_from S 0 (map procedure_of ps)
  procs_done made ps n f = sym (append_nil (map procedure_of made)) ∙ sym (f.by []) ∙ ap
      (unboxed_from S 0) (append_nil (map procedure_of ps))

  pub program_made : (g : Grin) (made ps : List Proc) (n : ℕ) → ps ≡ g.procs → ProcsMade made ps n
      → program_of
      (record {
        tags = g.tags;
        globals = g.globals;
        procs = made;
        start = g.start;
        argument
            = g.argument;
      }) ≡ unboxed S (program_of g)
  program_made g made ps n e f =
      let same : map procedure_of made ≡ unboxed_from S 0 (map procedure_of g.procs)
      = procs_done made ps n f ∙ ap (λ l. unboxed_from S 0 (map procedure_of l)) e in
      λ i. record {
        tags = g.tags;
        globals = g.globals;
        procs = same i;
        start = g.start;
        argument
            = g.argument;
      }
