-- What loops over statements and alternatives have done so far.
use Rattle.std.proofs.Common.{◌≡◌, ℕ, zero, suc, ◌+◌, ◌<◌, ◌≤◌, Bool, false, ◌||◌, List, [], ◌∷◌, ◌++◌, map, take, length, get_or, append_assoc, refl, sym, ap, ◌∙◌, subst, arith}
use Rattle.std.specs.Prelude.{slice_get}
use Rattle.std.specs.Option.{option_map}
use Rattle.std.proofs.lemmas.List.{take_all}
use Rattle.seq.proofs.Truth.{or_assoc, or_false}
use Rattle.seq.proofs.Lists.{append_nil, take_next}
use Rattle.grin_syntax.specs.declared.program.Stmt.{Stmt}
use Rattle.grin_syntax.specs.declared.program.Alt.{Alt}
use Rattle.grin_syntax.specs.declared.program.Val.{Val}
use Rattle.grin_syntax.specs.declared.program.Block.{Block}
use Rattle.grin_syntax.specs.declared.program.Op.TheVariants.{Case}
use Rattle.grin_syntax.specs.declared.program.Shape.{Shape}
use Rattle.grin_syntax.specs.Tree.{Code, end, act_of, before_of, arm_of, code_of, all_before, arms_of}
use Rattle.grin_syntax.specs.declared.program.Target.{Target}
use Rattle.grin_syntax.specs.declared.program.Op.{Op}
use Rattle.grin_syntax.specs.declared.program.Stmt.TheVariants.{Store, Bind}
use Rattle.grin_syntax.proofs.TreeOf.{before_of-Store, before_of-Bind, code_of-parts, arm_of-parts, act_of-Case}
use Rattle.grin_syntax.proofs.Pieces.{all_before_push}
use Rattle.grin_syntax.specs.declared.program.Cell.{Cell}
use Rattle.grin_syntax.specs.declared.program.Proc.{Proc}
use Rattle.grin_syntax.specs.declared.program.GlobalCell.{GlobalCell}
use Rattle.grin_syntax.specs.Tree.{Program, Procedure, procedure_of}
use Rattle.flow_system.specs.Inclusions.{Inclusion, FlowSink, to, into_result}
use Rattle.flow_system.specs.System.{act_evals, code_evals, arms_eval, procs_eval, cells_flow, shape_flows, act_flows, code_flows, arms_flow, globals_flow, procs_flow}

pub record EvalsSoFar (ss : List Stmt) (found : Bool) : Type 0 where
  pub by : (c : Code) → code_evals (all_before (map before_of ss) c) ≡ (found || code_evals c)

pub record ArmsEvalSoFar (as' : List Alt) (found : Bool) : Type 0 where
  pub by : (rest : List (Shape × Code)) → arms_eval (arms_of (map arm_of as' ++ rest)) ≡
      (found || arms_eval (arms_of rest))

pub no_statements : EvalsSoFar [] false
no_statements = record { by = λ c. refl }

pub no_alternatives : ArmsEvalSoFar [] false
no_alternatives = record { by = λ rest. refl }

pub arms_snoc : (as' : List Alt) (a : Alt) (rest : List (Shape × Code)) → map arm_of (as' ++ a ∷ [])
    ++ rest ≡ map arm_of as' ++ (arm_of a ∷ rest)
arms_snoc [] a rest = refl
arms_snoc (x ∷ as') a rest = ap (λ l. arm_of x ∷ l) (arms_snoc as' a rest)

pub statement_more : (ss : List Stmt) (s : Stmt) (found here : Bool) → EvalsSoFar ss found
    → ((c : Code) → code_evals (before_of s c) ≡ (here || code_evals c))
    → EvalsSoFar (ss ++ s ∷ []) (found || here)
statement_more ss s found here f h = record {
  by = λ c. ap code_evals (all_before_push ss s c) ∙ f.by (before_of s c) ∙ ap (λ b. found || b)
      (h c) ∙ or_assoc found here (code_evals c);
}

pub alternative_more : (as' : List Alt) (a : Alt) (found here : Bool) → ArmsEvalSoFar as' found
    → here ≡ code_evals (code_of a.body) → ArmsEvalSoFar (as' ++ a ∷ []) (found || here)
unfolding act_evals
alternative_more as' a found here f h = record {
  by = λ rest. ap (λ l. arms_eval (arms_of l)) (arms_snoc as' a rest) ∙ f.by (arm_of a ∷ rest) ∙ ap
      (λ b. found || b) (one rest) ∙ or_assoc found here (arms_eval (arms_of rest));
}
  where
    one : (rest : List (Shape × Code)) → arms_eval (arms_of (arm_of a ∷ rest)) ≡
        (here || arms_eval (arms_of rest))
    one rest = ap (λ x. arms_eval (arms_of (x ∷ rest))) (arm_of-parts a) ∙ ap
        (λ b. b || arms_eval (arms_of rest)) (sym h)

pub block_evals : (b : Block) (found here : Bool) → EvalsSoFar b.stmts found
    → here ≡ act_evals (act_of b.last.value) → (found || here) ≡ code_evals (code_of b)
unfolding act_evals
block_evals b found here f h = ap (λ x. found || x) h ∙ sym (f.by (end (act_of b.last.value))) ∙ ap
    code_evals (sym (code_of-parts b))

pub arms_evals : (v : Val) (as' : List Alt) (found : Bool) → ArmsEvalSoFar as' found
    → found ≡ act_evals (act_of (Case v as'))
unfolding act_evals
arms_evals v as' found f = sym (or_false found) ∙ sym (f.by []) ∙ ap (λ l. arms_eval (arms_of l))
    (append_nil (map arm_of as')) ∙ ap act_evals (sym (act_of-Case v as'))
  where
    append_nil : (l : List (Shape × Code)) → l ++ [] ≡ l
    append_nil [] = refl
    append_nil (x ∷ l) = ap (λ k. x ∷ k) (append_nil l)

pub statement_next : (ss : List Stmt) (i : ℕ) (s : Stmt) (found here both : Bool) → i < length ss
    → s ≡ get_or ss i s → both ≡ (found || here) → EvalsSoFar (take i ss) found
    → ((c : Code) → code_evals (before_of s c) ≡ (here || code_evals c))
    → EvalsSoFar (take (i + 1) ss) both
statement_next ss i s found here both lt e b f h = rw (take_next ss i s lt e, b)
    (statement_more (take i ss) s found here f h)

pub alternative_next : (as' : List Alt) (i : ℕ) (a : Alt) (found here both : Bool) → i < length as'
    → a ≡ get_or as' i a → both ≡ (found || here) → ArmsEvalSoFar (take i as') found
    → here ≡ code_evals (code_of a.body) → ArmsEvalSoFar (take (i + 1) as') both
alternative_next as' i a found here both lt e b f h
    = rw (take_next as' i a lt e, b) (alternative_more (take i as') a found here f h)

pub block_done : (b : Block) (i : ℕ) (found here both : Bool) → length b.stmts ≤ i
    → EvalsSoFar (take i b.stmts) found → here ≡ act_evals (act_of b.last.value)
    → both ≡ (found || here) → both ≡ code_evals (code_of b)
block_done b i found here both le f h e = e ∙ block_evals b found here
    (subst (λ ss. EvalsSoFar ss found) (take_all i b.stmts le) f) h

pub alternatives_done : (as' : List Alt) (i : ℕ) (found : Bool) → length as' ≤ i
    → ArmsEvalSoFar (take i as') found → found ≡ arms_eval (arms_of (map arm_of as'))
unfolding act_evals
alternatives_done as' i found le f =
    let g : ArmsEvalSoFar as' found = subst (λ l. ArmsEvalSoFar l found) (take_all i as' le) f in
    sym (or_false found) ∙ sym (g.by []) ∙ ap (λ l. arms_eval (arms_of l))
    (append_nil (map arm_of as'))

-- procedures
pub record ProcsEvalSoFar (ps : List Proc) (found : Bool) : Type 0 where
  pub by : (rest : List Procedure) → procs_eval (map procedure_of ps ++ rest) ≡
      (found || procs_eval rest)

pub no_procs : ProcsEvalSoFar [] false
no_procs = record { by = λ rest. refl }

pub procs_snoc : (ps : List Proc) (q : Proc) (rest : List Procedure)
    → map procedure_of (ps ++ q ∷ []) ++ rest ≡ map procedure_of ps ++ (procedure_of q ∷ rest)
procs_snoc [] q rest = refl
procs_snoc (x ∷ ps) q rest = ap (λ l. procedure_of x ∷ l) (procs_snoc ps q rest)

pub proc_next : (ps : List Proc) (i : ℕ) (q : Proc) (found here both : Bool) → i < length ps
    → q ≡ get_or ps i q → both ≡ (found || here) → ProcsEvalSoFar (take i ps) found
    → here ≡ code_evals (code_of q.body) → ProcsEvalSoFar (take (i + 1) ps) both
proc_next ps i q found here both lt e b f h = rw (take_next ps i q lt e, b) (record {
  by = λ rest. ap procs_eval (procs_snoc (take i ps) q rest) ∙ f.by (procedure_of q ∷ rest) ∙ ap
      (λ x. found || (x || procs_eval rest)) (sym h) ∙ or_assoc found here (procs_eval rest);
})

pub procs_done : (ps : List Proc) (i : ℕ) (found : Bool) → length ps ≤ i
    → ProcsEvalSoFar (take i ps) found → found ≡ procs_eval (map procedure_of ps)
procs_done ps i found le f =
    let g : ProcsEvalSoFar ps found = subst (λ l. ProcsEvalSoFar l found) (take_all i ps le) f in
    sym (or_false found) ∙ sym (g.by []) ∙ ap procs_eval (append_nil (map procedure_of ps))

-- inclusions, from those that were there
pub record FlowsSoFar (p : Program) (k : FlowSink) (old new : List Inclusion) (ss : List Stmt)
    : Type 0 where
  pub by : (c : Code) → old ++ code_flows p k (all_before (map before_of ss) c) ≡ new
      ++ code_flows p k c

pub record ArmsFlowSoFar (p : Program) (k : FlowSink) (v : Val) (old new : List Inclusion)
    (as' : List Alt) : Type 0 where
  pub by : (rest : List (Shape × Code)) → old ++ arms_flow p k v (arms_of (map arm_of as' ++ rest))
      ≡ new ++ arms_flow p k v (arms_of rest)

pub record CellsFlowSoFar (p : Program) (old new : List Inclusion) (cs : List Cell) : Type 0 where
  pub by : (rest : List Cell) → old ++ cells_flow p (cs ++ rest) ≡ new ++ cells_flow p rest

pub no_flows : (p : Program) (k : FlowSink) (old : List Inclusion) → FlowsSoFar p k old old []
no_flows p k old = record { by = λ c. refl }

pub no_arms_flow : (p : Program) (k : FlowSink) (v : Val) (old : List Inclusion)
    → ArmsFlowSoFar p k v old old []
no_arms_flow p k v old = record { by = λ rest. refl }

pub no_cells_flow : (p : Program) (old : List Inclusion) → CellsFlowSoFar p old old []
no_cells_flow p old = record { by = λ rest. refl }

pub flows_next : (p : Program) (k : FlowSink) (old new newer : List Inclusion) (ss : List Stmt)
    (i : ℕ) (s : Stmt) → i < length ss → s ≡ get_or ss i s → FlowsSoFar p k old new (take i ss)
    → ((c : Code) → new ++ code_flows p k (before_of s c) ≡ newer ++ code_flows p k c)
    → FlowsSoFar p k old newer (take (i + 1) ss)
flows_next p k old new newer ss i s lt e f h = rw (take_next ss i s lt e)
    (record {
      by = λ c. ap (λ b. old ++ code_flows p k b) (all_before_push (take i ss) s c) ∙ f.by
          (before_of s c) ∙ h c;
    })

pub flows_done : (p : Program) (k : FlowSink) (old new last : List Inclusion) (b : Block) (i : ℕ)
    → length b.stmts ≤ i → FlowsSoFar p k old new (take i b.stmts) → last ≡ new
    ++ act_flows p k (act_of b.last.value) → last ≡ old ++ code_flows p k (code_of b)
unfolding act_flows
flows_done p k old new last b i le f h =
    let g : FlowsSoFar p k old new b.stmts = subst (FlowsSoFar p k old new) (take_all i b.stmts le)
    f in
    h ∙ sym (g.by (end (act_of b.last.value))) ∙ ap (λ c. old ++ code_flows p k c)
    (sym (code_of-parts b))

pub arms_flow_next : (p : Program) (k : FlowSink) (v : Val) (old new one newer : List Inclusion)
    (as' : List Alt) (i : ℕ) (a : Alt) → i < length as' → a ≡ get_or as' i a
    → ArmsFlowSoFar p k v old new (take i as')
    → one ≡ new ++ shape_flows v a.pattern → newer ≡ one ++ code_flows p k (code_of a.body)
    → ArmsFlowSoFar p k v old newer (take (i + 1) as')
unfolding act_flows
arms_flow_next p k v old new one newer as' i a lt e f h h' = rw (take_next as' i a lt e) (record {
  by = λ rest. ap (λ l. old ++ arms_flow p k v (arms_of l)) (arms_snoc (take i as') a rest) ∙ f.by
      (arm_of a ∷ rest) ∙ ap (λ x. new ++ arms_flow p k v (arms_of (x ∷ rest))) (arm_of-parts a)
      ∙ sym (append_assoc new (shape_flows v a.pattern) _) ∙ ap
      (λ l. l ++ (code_flows p k (code_of a.body) ++ arms_flow p k v (arms_of rest))) (sym h)
      ∙ sym (append_assoc one (code_flows p k (code_of a.body)) (arms_flow p k v (arms_of rest))) ∙
      ap (λ l. l ++ arms_flow p k v (arms_of rest)) (sym h');
})

pub arms_flow_done : (p : Program) (k : FlowSink) (v : Val) (old new : List Inclusion)
    (as' : List Alt) (i : ℕ) → length as' ≤ i → ArmsFlowSoFar p k v old new (take i as') → new ≡ old
    ++ arms_flow p k v (arms_of (map arm_of as'))
unfolding act_flows
arms_flow_done p k v old new as' i le f =
    let g : ArmsFlowSoFar p k v old new as' = subst (ArmsFlowSoFar p k v old new)
    (take_all i as' le) f in
    sym (append_nil new) ∙ sym (g.by []) ∙ ap (λ l. old ++ arms_flow p k v (arms_of l))
    (append_nil (map arm_of as'))

pub cells_done : (p : Program) (old new : List Inclusion) (cs : List Cell) (i : ℕ) → length cs ≤ i
    → CellsFlowSoFar p old new (take i cs) → new ≡ old ++ cells_flow p cs
cells_done p old new cs i le f =
    let g : CellsFlowSoFar p old new cs = subst (CellsFlowSoFar p old new) (take_all i cs le) f in
    sym (append_nil new) ∙ sym (g.by []) ∙ ap (λ l. old ++ cells_flow p l) (append_nil cs)

pub store_flows : (p : Program) (k : FlowSink) (old new : List Inclusion) (s : Stmt)
    (cs : List Cell) → s ≡ Store cs → new ≡ old ++ cells_flow p cs → (c : Code) → old
    ++ code_flows p k (before_of s c) ≡ new ++ code_flows p k c
unfolding act_flows
store_flows p k old new s cs e h c =
    ap (λ s. old ++ code_flows p k (before_of s c)) e ∙ ap (λ b. old ++ code_flows p k b)
    (ap (λ f. f c) (before_of-Store cs)) ∙ sym
    (append_assoc old (cells_flow p cs) (code_flows p k c)) ∙ ap (λ l. l ++ code_flows p k c)
    (sym h)

pub bind_flows : (p : Program) (k : FlowSink) (old new : List Inclusion) (s : Stmt) (t : Target)
    (o : Op) → s ≡ Bind t o → new ≡ old ++ act_flows p (to t) (act_of o) → (c : Code) → old
    ++ code_flows p k (before_of s c) ≡ new ++ code_flows p k c
unfolding act_flows
bind_flows p k old new s t o e h c =
    ap (λ s. old ++ code_flows p k (before_of s c)) e ∙ ap (λ b. old ++ code_flows p k b)
    (ap (λ f. f c) (before_of-Bind t o)) ∙ sym
    (append_assoc old (act_flows p (to t) (act_of o)) (code_flows p k c)) ∙ ap
    (λ l. l ++ code_flows p k c) (sym h)

pub record GlobalsFlowSoFar (p : Program) (old new : List Inclusion) (cs : List GlobalCell)
    : Type 0 where
  pub by : (rest : List GlobalCell) → old ++ globals_flow p (cs ++ rest) ≡ new
      ++ globals_flow p rest

pub record ProcsFlowSoFar (p : Program) (old new : List Inclusion) (ps : List Proc) (n : ℕ)
    : Type 0 where
  pub by : (rest : List Procedure) → old ++ procs_flow p 0 (map procedure_of ps ++ rest) ≡ new
      ++ procs_flow p n rest

pub globals_done : (p : Program) (old new : List Inclusion) (cs : List GlobalCell) (i : ℕ)
    → length cs ≤ i → GlobalsFlowSoFar p old new (take i cs) → new ≡ old ++ globals_flow p cs
globals_done p old new cs i le f =
    let g : GlobalsFlowSoFar p old new cs = subst (GlobalsFlowSoFar p old new) (take_all i cs le) f
    in
    sym (append_nil new) ∙ sym (g.by []) ∙ ap (λ l. old ++ globals_flow p l) (append_nil cs)

pub procs_flow_next : (p : Program) (old new newer : List Inclusion) (ps : List Proc) (i : ℕ)
    (q : Proc) → i < length ps → q ≡ get_or ps i q → ProcsFlowSoFar p old new (take i ps) i
    → newer ≡ new ++ code_flows p (into_result i) (code_of q.body)
    → ProcsFlowSoFar p old newer (take (i + 1) ps) (i + 1)
procs_flow_next p old new newer ps i q lt e f h =
    let n : suc i ≡ i + 1 = omega arith in
    rw (take_next ps i q lt e) (subst (ProcsFlowSoFar p old newer (take i ps ++ q ∷ [])) n (record {
      by = λ rest. ap (λ l. old ++ procs_flow p 0 l) (procs_snoc (take i ps) q rest) ∙ f.by
          (procedure_of q ∷ rest)
          ∙ sym (append_assoc new (code_flows p (into_result i) (code_of q.body))
          (procs_flow p (suc i) rest)) ∙ ap (λ l. l ++ procs_flow p (suc i) rest) (sym h);
    }))

pub procs_flow_done : (p : Program) (old new : List Inclusion) (ps : List Proc) (i n : ℕ)
    → length ps ≤ i → ProcsFlowSoFar p old new (take i ps) n → new ≡ old
    ++ procs_flow p 0 (map procedure_of ps)
procs_flow_done p old new ps i n le f =
    let g : ProcsFlowSoFar p old new ps n = subst (λ l. ProcsFlowSoFar p old new l n)
    (take_all i ps le) f in
    sym (append_nil new) ∙ sym (g.by []) ∙ ap (λ l. old ++ procs_flow p 0 l)
    (append_nil (map procedure_of ps))

-- the parameters of a procedure, through both maps
pub params_there : (qs : List Proc) (f : ℕ) → slice_get (map (λ q. q.params) (map procedure_of qs))
    f ≡ option_map (λ q. q.params) (slice_get qs f)
params_there [] f = refl
params_there (q ∷ qs) zero = refl
params_there (q ∷ qs) (suc f) = params_there qs f

pub all_params : (qs : List Proc) → map (λ q. q.params) qs ≡ map (λ q. q.params)
    (map procedure_of qs)
all_params [] = refl
all_params (q ∷ qs) = ap (λ rest. q.params ∷ rest) (all_params qs)
