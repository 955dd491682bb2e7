-- What is decided of a parameter, of those of a procedure, and of all.
use Rattle.std.proofs.Common.{◌≡◌, ℕ, zero, suc, ◌+◌, ◌<◌, ◌≤◌, List, [], ◌∷◌, ◌++◌, map, take, length, get_or, Option, Some, None, refl, sym, ap, ◌∙◌, subst, append_assoc, arith}
use Rattle.std.proofs.lemmas.List.{take_more, take_all, append-nil}
use Rattle.seq.proofs.Lists.{take_next, map_push}
use Rattle.grin_syntax.specs.declared.program.VarId.{VarId}
use Rattle.grin_syntax.specs.declared.program.Proc.{Proc}
use Rattle.grin_syntax.specs.Fresh.{variable, variables, past_procs}
use Rattle.grin_syntax.specs.Tree.{Procedure, Program, procedure_of}
use Rattle.flow_system.specs.Solution.{Solution}
use Rattle.raise_theory.specs.Raisable.{Raisable}
use Rattle.raise_theory.specs.declared.raising.Raising.{Raising}
use Rattle.raise_theory.specs.Raising.{Decisions, fields_of}
use Rattle.raise_theory.specs.Decided.{AllStay, Decided, ProcedureDecided, AllDecided, new_params, all_new_params, IsDecided}
use Rattle.arity_raise.specs.Fixed.{Fixed}
use Rattle.arity_raise.specs.Deciding.{parameter_count_after, DecidedOf, AreConsecutive, NoneRaised}

-- ---- variables in a row

variables_two : (a n m b : ℕ) → m ≡ n + a → variables n a ++ variables m b ≡ variables n (a + b)
variables_two zero n m b e =
    let m' : m ≡ n = omega arith in
    let b' : b ≡ 0 + b = omega arith in
    λ i. variables (m' i) (b' i)
variables_two (suc a) n m b e =
    let m' : m ≡ suc n + a = omega arith in
    let s : suc (a + b) ≡ suc a + b = omega arith in
    ap (λ l. variable n ∷ l) (variables_two a (suc n) m b m') ∙ ap (variables n) s

rows_join : (xs ys : List VarId) (n m k : ℕ) → AreConsecutive xs n m → AreConsecutive ys m k
    → AreConsecutive (xs ++ ys) n k
rows_join xs ys n m k u v = record {
  count = u.count + v.count;
  are = (λ i. u.are i ++ v.are i) ∙ variables_two u.count n m v.count u.next;
  next = let e : m ≡ n + u.count = u.next in let f : k ≡ m + v.count = v.next in omega arith;
}

new_params_push : (ds : Decisions) (d : Option Raising) → new_params (ds ++ d ∷ []) ≡ new_params ds
    ++ new_params (d ∷ [])
new_params_push [] d = refl
new_params_push (None ∷ ds) d = new_params_push ds d
new_params_push (Some r ∷ ds) d = ap (λ l. fields_of r ++ l) (new_params_push ds d) ∙ sym
    (append_assoc (fields_of r) (new_params ds) (new_params (d ∷ [])))

all_new_push : (dss : List Decisions) (ds : Decisions)
    → all_new_params (dss ++ ds ∷ []) ≡ all_new_params dss ++ new_params ds
all_new_push [] ds = append-nil (new_params ds)
all_new_push (es ∷ dss) ds = ap (λ l. new_params es ++ l) (all_new_push dss ds) ∙ sym
    (append_assoc (new_params es) (all_new_params dss) (new_params ds))

-- ---- parameters that stay

stay_push : (xs : List VarId) (ds : Decisions) (x : VarId) → AllStay xs ds
    → AllStay (xs ++ x ∷ []) (ds ++ None ∷ [])
stay_push [] [] x h = tt
stay_push [] (d ∷ ds) x h = absurd h
stay_push (y ∷ xs) [] x h = absurd h
stay_push (y ∷ xs) (None ∷ ds) x h = stay_push xs ds x h
stay_push (y ∷ xs) (Some r ∷ ds) x h = absurd h

pub one_stays_more : (xs : List VarId) (i : ℕ) (d : VarId) (ds more : Decisions) → i < length xs
    → more ≡ ds ++ None ∷ [] → NoneRaised (take i xs) ds → NoneRaised (take (i + 1) xs) more
one_stays_more xs i d ds more lt e u = rw (e, take_more xs i d lt) (record {
  stay = stay_push (take i xs) ds (get_or xs i d) u.stay;
  no_new = new_params_push ds None ∙ append-nil (new_params ds) ∙ u.no_new;
})

pub none_stay : NoneRaised [] []
none_stay = record { stay = tt; no_new = refl }

pub all_stay_done : (xs : List VarId) (i : ℕ) (ds : Decisions) → length xs ≤ i
    → NoneRaised (take i xs) ds → NoneRaised xs ds
all_stay_done xs i ds le u = subst (λ l. NoneRaised l ds) (take_all i xs le) u

module _ (A : Solution) (g : Program) where
  -- ---- one parameter

  pub raisable_fixed : (q : Procedure) (x t k : ℕ) → Raisable A g q x t k → Fixed A g x t k
  raisable_fixed q x t k r = record {
    alone = r.cells_alone;
    unchanged = r.unchanged;
    has = record { cell = r.cell; there = r.there; has_tag = r.has_tag };
    only = r.one_tag;
    value = r.value;
  }

  -- ---- the parameters of a procedure

  turn_first : (q : Procedure) (x : VarId) (count : ℕ) (d : Option Raising) (xs : List VarId)
      (ds : Decisions) → DecidedOf A g q x count d → Decided A g q (parameter_count_after count d)
      xs ds → Decided A g q count (x ∷ xs) (d ∷ ds)
  turn_first q x count None xs ds t h = (t, h)
  turn_first q x count (Some r) xs ds t h = (t.0, t.1, h)

  -- the turns before this place, and the new parameters from n to m
  pub record TurnsSoFar (q : Procedure) (xs : List VarId) (start count : ℕ) (ds : Decisions)
      (n m : ℕ) : Type 0 where
    pub by : (ys : List VarId) (es : Decisions) → Decided A g q count ys es
        → Decided A g q start (xs ++ ys) (ds ++ es)
    pub row : AreConsecutive (new_params ds) n m

  pub one_turn_more : (q : Procedure) (xs : List VarId) (i : ℕ) (x0 : VarId) (start count after : ℕ)
      (ds more : Decisions) (d : Option Raising) (n m k : ℕ) → i < length xs
      → TurnsSoFar q (take i xs) start count ds n m → DecidedOf A g q (get_or xs i x0) count d
      → AreConsecutive (new_params (d ∷ [])) m k → more ≡ ds ++ d ∷ []
      → after ≡ parameter_count_after count d → TurnsSoFar q (take (i + 1) xs) start after more
      n k
  one_turn_more q xs i x0 start count after ds more d n m k lt u t r e f =
      let x : VarId = get_or xs i x0 in
      let taken : take (i + 1) xs ≡ take i xs ++ x ∷ [] = take_more xs i x0 lt in
      record {
        by = λ ys es h.
            let before : Decided A g q start (take i xs ++ (x ∷ ys)) (ds ++ (d ∷ es))
            = u.by (x ∷ ys) (d ∷ es)
            (turn_first q x count d ys es t (subst (λ c. Decided A g q c ys es) f h)) in
            let params : take i xs ++ (x ∷ ys) ≡ take (i + 1) xs ++ ys
            = sym (append_assoc (take i xs) (x ∷ []) ys) ∙ ap (λ l. l ++ ys) (sym taken) in
            let made : ds ++ (d ∷ es) ≡ more ++ es = sym (append_assoc ds (d ∷ []) es) ∙ ap
            (λ l. l ++ es) (sym e) in
            subst (λ l. Decided A g q start l (more ++ es)) params
            (subst (Decided A g q start (take i xs ++ (x ∷ ys))) made before);
        row = subst (λ l. AreConsecutive l n k) (sym (ap new_params e ∙ new_params_push ds d))
            (rows_join (new_params ds) (new_params (d ∷ [])) n m k u.row r);
      }

  pub turns_done : (q : Procedure) (xs : List VarId) (i start count : ℕ) (ds : Decisions) (n m : ℕ)
      → length xs ≤ i → TurnsSoFar q (take i xs) start count ds n m → Decided A g q start xs ds
  turns_done q xs i start count ds n m le u =
      let h : Decided A g q start (take i xs ++ []) (ds ++ []) = u.by [] [] tt in
      let params : take i xs ++ [] ≡ xs = append-nil (take i xs) ∙ take_all i xs le in
      subst (λ l. Decided A g q start l ds) params
      (subst (Decided A g q start (take i xs ++ [])) (append-nil ds) h)

  -- ---- all procedures

  pub record PlanSoFar (ps : List Proc) (f : ℕ) (dss : List Decisions) (n m : ℕ) : Type 0 where
    pub by : (qs : List Procedure) (ess : List Decisions) → AllDecided A g f qs ess
        → AllDecided A g 0 (map procedure_of ps ++ qs) (dss ++ ess)
    pub row : AreConsecutive (all_new_params dss) n m

  pub one_proc_more : (ps : List Proc) (f : ℕ) (p : Proc) (ds : Decisions)
      (dss more : List Decisions) (n m k : ℕ) → f < length ps → p ≡ get_or ps f p
      → PlanSoFar (take f ps) f dss n m
      → ProcedureDecided A g f (procedure_of p) ds → AreConsecutive (new_params ds) m k → more ≡ dss
      ++ ds ∷ [] → PlanSoFar (take (f + 1) ps) (f + 1) more n k
  one_proc_more ps f p ds dss more n m k lt here u d r e =
      let next : f + 1 ≡ suc f = omega arith in
      let taken : map procedure_of (take (f + 1) ps) ≡ map procedure_of (take f ps)
      ++ procedure_of p ∷ [] = ap (map procedure_of) (take_next ps f p lt here) ∙ map_push
      procedure_of (take f ps) p in
      record {
        by = λ qs ess h.
            let before : AllDecided A g 0 (map procedure_of (take f ps) ++ (procedure_of p ∷ qs))
            (dss ++ (ds ∷ ess)) = u.by (procedure_of p ∷ qs) (ds ∷ ess)
            (d, subst (λ c. AllDecided A g c qs ess) next h) in
            let procs : map procedure_of (take f ps)
            ++ (procedure_of p ∷ qs) ≡ map procedure_of (take (f + 1) ps) ++ qs
            = sym (append_assoc (map procedure_of (take f ps)) (procedure_of p ∷ []) qs) ∙ ap
            (λ l. l ++ qs) (sym taken) in
            let made : dss ++ (ds ∷ ess) ≡ more ++ ess
            = sym (append_assoc dss (ds ∷ []) ess) ∙ ap (λ l. l ++ ess) (sym e) in
            subst (λ l. AllDecided A g 0 l (more ++ ess)) procs
            (subst (AllDecided A g 0 (map procedure_of (take f ps) ++ (procedure_of p ∷ qs)))
            made before);
        row = subst (λ l. AreConsecutive l n k) (sym (ap all_new_params e ∙ all_new_push dss ds))
            (rows_join (all_new_params dss) (new_params ds) n m k u.row r);
      }

  pub plan_done : (ps : List Proc) (i f : ℕ) (dss : List Decisions) (n m : ℕ) → length ps ≤ i
      → map procedure_of ps ≡ g.procs → n ≡ past_procs g.procs → PlanSoFar (take i ps) f dss n m
      → IsDecided A g dss m
  plan_done ps i f dss n m le e past u =
      let h : AllDecided A g 0 (map procedure_of (take i ps) ++ []) (dss ++ []) = u.by [] [] tt in
      let procs : map procedure_of (take i ps) ++ [] ≡ g.procs
      = append-nil (map procedure_of (take i ps)) ∙ ap (map procedure_of) (take_all i ps le) ∙ e
      in
      record {
        decided = subst (λ l. AllDecided A g 0 l dss) procs
            (subst (AllDecided A g 0 (map procedure_of (take i ps) ++ [])) (append-nil dss) h);
        numbered = record {
          count = u.row.count;
          in_a_row = u.row.are ∙ ap (λ x. variables x u.row.count) past;
          next = u.row.next ∙ ap (λ x. x + u.row.count) past;
        };
      }

  pub as_many : (f : ℕ) (qs : List Procedure) (dss : List Decisions) → AllDecided A g f qs dss
      → length dss ≡ length qs
  as_many f [] [] h = refl
  as_many f [] (ds ∷ dss) h = absurd h
  as_many f (q ∷ qs) [] h = absurd h
  as_many f (q ∷ qs) (ds ∷ dss) h = ap suc (as_many (suc f) qs dss h.1)
