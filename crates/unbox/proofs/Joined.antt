-- A set is closed exactly where it heeds the ties.
use Rattle.std.proofs.Common.{◌≡◌, ℕ, suc, Bool, true, false, ◌&&◌, ◌||◌, List, [], ◌∷◌, ◌++◌, map, length, refl, sym, ap, ◌∙◌, subst}
use Rattle.std.proofs.lemmas.List.{length-map}
use Rattle.seq.proofs.Truth.{and_assoc, or_assoc, or_false, and_from, and_left, and_right}
use Rattle.seq.proofs.Lists.{all_append as all_both}
use Rattle.grin_syntax.specs.declared.program.ProcId.{ProcId}
use Rattle.grin_syntax.specs.declared.program.Proc.{Proc}
use Rattle.grin_syntax.specs.declared.program.Grin.{Grin}
use Rattle.grin_syntax.specs.Tree.{Code, end, store, bind, Act, leaf, unit, fetch, fetch_word, update, eval, apply, call, prim, read, write, case, nested, fail, Arms, no_arm, arm, Procedure, procedure_of, Program, program_of}
use Rattle.grin_syntax.specs.Formed.{AllOf}
use Rattle.flow_system.specs.Solution.{Solution}
use Rattle.pass_ground.proofs.Tests.{all_front, all_back}
use Rattle.unbox.specs.declared.ties.Tie.{Tie}
use Rattle.unbox_theory.specs.Ends.{Procedures, is_int, has_int, act_calls, code_calls, arms_calls, IntAct, IntCode, IntArms}
use Rattle.unbox_theory.specs.Members.{ActClosed, CodeClosed, ArmsClosed, ProcedureClosed, ProceduresClosed, IsGreatestClosedSet}
use Rattle.unbox.specs.Ties.{act_called, code_called, arms_called, act_ints, code_ints, arms_ints, act_ties, code_ties, arms_ties, body_tie, ties_from, any_in, all_in, RespectsTie, IsGreatestRespecting}

spread : (a b c d : Bool) → (a && c) ≡ true → (b && d) ≡ true → ((a && b) && (c && d)) ≡ true
spread a b c d h k = and_from (a && b) (c && d) (and_from a b (and_left a c h) (and_left b d k))
    (and_from c d (and_right a c h) (and_right b d k))

module _ (A : Solution) (S : Procedures) where
  any_append : (xs ys : List ProcId) → any_in S (xs ++ ys) ≡ (any_in S xs || any_in S ys)
  any_append [] ys = refl
  any_append (x ∷ xs) ys = ap (λ b. S x.0 || b) (any_append xs ys) ∙ or_assoc (S x.0) (any_in S xs)
      (any_in S ys)

  all_append : (xs ys : List ProcId) → all_in S (xs ++ ys) ≡ (all_in S xs && all_in S ys)
  all_append [] ys = refl
  all_append (x ∷ xs) ys = ap (λ b. S x.0 && b) (all_append xs ys) ∙ sym
      (and_assoc (S x.0) (all_in S xs) (all_in S ys))

  mutual
    unfolding act_calls act_called

    act_any : (o : Act) → any_in S (act_called o) ≡ act_calls S o
    act_any (leaf (call f ws)) = or_false (S f.0)
    act_any (case v as') = arms_any as'
    act_any (nested b) = code_any b
    act_any (leaf (unit v)) = refl
    act_any (leaf (fetch a)) = refl
    act_any (leaf (fetch_word a i)) = refl
    act_any (leaf (update a v)) = refl
    act_any (leaf (eval a)) = refl
    act_any (leaf (apply v a)) = refl
    act_any (leaf (prim p a b)) = refl
    act_any (leaf read) = refl
    act_any (leaf (write a)) = refl
    act_any (leaf fail) = refl

    code_any : (b : Code) → any_in S (code_called b) ≡ code_calls S b
    code_any (end o) = act_any o
    code_any (store cs b) = code_any b
    code_any (bind t o b) = code_any b

    arms_any : (as' : Arms) → any_in S (arms_called as') ≡ arms_calls S as'
    arms_any no_arm = refl
    arms_any (arm s b as') = any_append (code_called b) (arms_called as') ∙
        (λ i. code_any b i || arms_any as' i)

  mutual
    unfolding IntAct act_ints act_called

    int_act : (o : Act) → (act_ints A o && all_in S (act_called o)) ≡ true → IntAct S A o
    int_act (leaf (unit v)) h = and_left (is_int A v) true h
    int_act (leaf (call f ws)) h = and_left (S f.0) true h
    int_act (case v as') h = int_arms as' h
    int_act (nested b) h = int_code b h
    int_act (leaf fail) h = tt
    int_act (leaf (fetch a)) h = cc
    int_act (leaf (fetch_word a i)) h = cc
    int_act (leaf (update a v)) h = cc
    int_act (leaf (eval a)) h = cc
    int_act (leaf (apply v a)) h = cc
    int_act (leaf (prim p a b)) h = cc
    int_act (leaf read) h = cc
    int_act (leaf (write a)) h = cc

    int_code : (b : Code) → (code_ints A b && all_in S (code_called b)) ≡ true → IntCode S A b
    int_code (end o) h = int_act o h
    int_code (store cs b) h = int_code b h
    int_code (bind t o b) h = int_code b h

    int_arms : (as' : Arms) → (arms_ints A as' && all_in S (arms_called as')) ≡ true
        → IntArms S A as'
    int_arms no_arm h = tt
    int_arms (arm s b as') h =
        let i : (code_ints A b && arms_ints A as') ≡ true
        = and_left (code_ints A b && arms_ints A as')
        (all_in S (code_called b ++ arms_called as')) h in
        let k : (all_in S (code_called b) && all_in S (arms_called as')) ≡ true
        = sym (all_append (code_called b) (arms_called as')) ∙ and_right
        (code_ints A b && arms_ints A as') (all_in S (code_called b ++ arms_called as')) h in (
          int_code b
              (and_from (code_ints A b) (all_in S (code_called b))
              (and_left (code_ints A b) (arms_ints A as') i)
              (and_left (all_in S (code_called b)) (all_in S (arms_called as')) k)),
          int_arms as'
              (and_from (arms_ints A as') (all_in S (arms_called as'))
              (and_right (code_ints A b) (arms_ints A as') i)
              (and_right (all_in S (code_called b)) (all_in S (arms_called as')) k)),
        )

  mutual
    unfolding IntAct act_ints act_called

    act_int : (o : Act) → IntAct S A o → (act_ints A o && all_in S (act_called o)) ≡ true
    act_int (leaf (unit v)) h = and_from (is_int A v) true h refl
    act_int (leaf (call f ws)) h = and_from (S f.0) true h refl
    act_int (case v as') h = arms_int as' h
    act_int (nested b) h = code_int b h
    act_int (leaf fail) h = refl
    act_int (leaf (fetch a)) h = absurd h
    act_int (leaf (fetch_word a i)) h = absurd h
    act_int (leaf (update a v)) h = absurd h
    act_int (leaf (eval a)) h = absurd h
    act_int (leaf (apply v a)) h = absurd h
    act_int (leaf (prim p a b)) h = absurd h
    act_int (leaf read) h = absurd h
    act_int (leaf (write a)) h = absurd h

    code_int : (b : Code) → IntCode S A b → (code_ints A b && all_in S (code_called b)) ≡ true
    code_int (end o) h = act_int o h
    code_int (store cs b) h = code_int b h
    code_int (bind t o b) h = code_int b h

    arms_int : (as' : Arms) → IntArms S A as' → (arms_ints A as' && all_in S (arms_called as')) ≡
        true
    arms_int no_arm h = refl
    arms_int (arm s b as') h = ap (λ x. (code_ints A b && arms_ints A as') && x)
        (all_append (code_called b) (arms_called as')) ∙ spread (code_ints A b) (arms_ints A as')
        (all_in S (code_called b)) (all_in S (arms_called as')) (code_int b h.0) (arms_int as' h.1)

  mutual
    unfolding ActClosed act_ties

    act_heeds : (o : Act) → ActClosed A S o → AllOf (RespectsTie S) (act_ties A o)
    act_heeds (case v as') h = arms_heed as' h
    act_heeds (nested b) h = code_heeds b h
    act_heeds (leaf (unit v)) h = tt
    act_heeds (leaf (call f ws)) h = tt
    act_heeds (leaf (fetch a)) h = tt
    act_heeds (leaf (fetch_word a i)) h = tt
    act_heeds (leaf (update a v)) h = tt
    act_heeds (leaf (eval a)) h = tt
    act_heeds (leaf (apply v a)) h = tt
    act_heeds (leaf (prim p a b)) h = tt
    act_heeds (leaf read) h = tt
    act_heeds (leaf (write a)) h = tt
    act_heeds (leaf fail) h = tt

    code_heeds : (b : Code) → CodeClosed A S b → AllOf (RespectsTie S) (code_ties A b)
    code_heeds (end o) h = act_heeds o h
    code_heeds (store cs b) h = code_heeds b h
    code_heeds (bind t o b) h = (
      (λ e. act_int o (h.0 (sym (act_any o) ∙ e))),
      all_both (RespectsTie S) (act_ties A o) (code_ties A b) (act_heeds o h.1)
          (code_heeds b h.2),
    )

    arms_heed : (as' : Arms) → ArmsClosed A S as' → AllOf (RespectsTie S) (arms_ties A as')
    arms_heed no_arm h = tt
    arms_heed (arm s b as') h = all_both (RespectsTie S) (code_ties A b) (arms_ties A as')
        (code_heeds b h.0) (arms_heed as' h.1)

  mutual
    unfolding ActClosed act_ties

    act_closed : (o : Act) → AllOf (RespectsTie S) (act_ties A o) → ActClosed A S o
    act_closed (case v as') h = arms_closed as' h
    act_closed (nested b) h = code_closed b h
    act_closed (leaf (unit v)) h = tt
    act_closed (leaf (call f ws)) h = tt
    act_closed (leaf (fetch a)) h = tt
    act_closed (leaf (fetch_word a i)) h = tt
    act_closed (leaf (update a v)) h = tt
    act_closed (leaf (eval a)) h = tt
    act_closed (leaf (apply v a)) h = tt
    act_closed (leaf (prim p a b)) h = tt
    act_closed (leaf read) h = tt
    act_closed (leaf (write a)) h = tt
    act_closed (leaf fail) h = tt

    code_closed : (b : Code) → AllOf (RespectsTie S) (code_ties A b) → CodeClosed A S b
    code_closed (end o) h = act_closed o h
    code_closed (store cs b) h = code_closed b h
    code_closed (bind t o b) h = (
      (λ e. int_act o (h.0 (act_any o ∙ e))),
      act_closed o
          (all_front (RespectsTie S) (act_ties A o) (code_ties A b) h.1),
      code_closed b (all_back (RespectsTie S) (act_ties A o) (code_ties A b) h.1),
    )

    arms_closed : (as' : Arms) → AllOf (RespectsTie S) (arms_ties A as') → ArmsClosed A S as'
    arms_closed no_arm h = tt
    arms_closed (arm s b as') h = (
      code_closed b (all_front (RespectsTie S) (code_ties A b) (arms_ties A as') h),
      arms_closed as' (all_back (RespectsTie S) (code_ties A b) (arms_ties A as') h),
    )

  body_heeds : (f : ℕ) (q : Procedure) → ProcedureClosed A S f q → RespectsTie S (body_tie A f q)
  body_heeds f q k e =
      let m : S f ≡ true = member (S f) refl e in
      spread (has_int A f) (code_ints A q.body) (S f) (all_in S (code_called q.body))
      (and_from (has_int A f) (S f) (k.some m) m) (code_int q.body (k.ints m))
    where
      member : (b : Bool) → S f ≡ b → (S f || any_in S (code_called q.body)) ≡ true → S f ≡ true
      member true r e = r
      member false r e = k.member
          (sym (code_any q.body) ∙ sym (ap (λ b. b || any_in S (code_called q.body)) r) ∙ e)

  body_closed : (f : ℕ) (q : Procedure) → RespectsTie S (body_tie A f q)
      → AllOf (RespectsTie S) (code_ties A q.body) → ProcedureClosed A S f q
  body_closed f q h k = record {
    member = λ e. and_left (S f) (all_in S (code_called q.body))
        (and_right (has_int A f && code_ints A q.body) (S f && all_in S (code_called q.body))
        (h (called e (S f) refl)));
    ints = λ e. int_code q.body (and_from (code_ints A q.body) (all_in S (code_called q.body))
        (and_right (has_int A f) (code_ints A q.body)
        (and_left (has_int A f && code_ints A q.body) (S f && all_in S (code_called q.body))
        (h (itself e))))
        (and_right (S f) (all_in S (code_called q.body))
        (and_right (has_int A f && code_ints A q.body) (S f && all_in S (code_called q.body))
        (h (itself e)))));
    some = λ e. and_left (has_int A f) (code_ints A q.body)
        (and_left (has_int A f && code_ints A q.body) (S f && all_in S (code_called q.body))
        (h (itself e)));
    blocks = code_closed q.body k;
  }
    where
      itself : S f ≡ true → (S f || any_in S (code_called q.body)) ≡ true
      itself e = ap (λ b. b || any_in S (code_called q.body)) e

      called : code_calls S q.body ≡ true → (b : Bool) → S f ≡ b
          → (S f || any_in S (code_called q.body)) ≡ true
      called e true r = itself r
      called e false r = ap (λ b. b || any_in S (code_called q.body)) r ∙ (code_any q.body ∙ e)

  pub closed_heeds : (f : ℕ) (qs : List Procedure) → ProceduresClosed A S f qs
      → AllOf (RespectsTie S) (ties_from A f qs)
  closed_heeds f [] h = tt
  closed_heeds f (q ∷ qs) h = (
    body_heeds f q h.0,
    all_both (RespectsTie S) (code_ties A q.body) (ties_from A (suc f) qs)
        (code_heeds q.body h.0.blocks) (closed_heeds (suc f) qs h.1),
  )

  pub heeds_closed : (f : ℕ) (qs : List Procedure) → AllOf (RespectsTie S) (ties_from A f qs)
      → ProceduresClosed A S f qs
  heeds_closed f [] h = tt
  heeds_closed f (q ∷ qs) h = (
    body_closed f q h.0
        (all_front (RespectsTie S) (code_ties A q.body) (ties_from A (suc f) qs) h.1),
    heeds_closed (suc f) qs
        (all_back (RespectsTie S) (code_ties A q.body) (ties_from A (suc f) qs) h.1),
  )

pub greatest_members : (A : Solution) (g : Program) (M : Procedures)
    → IsGreatestRespecting (length g.procs) (ties_from A 0 g.procs) M → IsGreatestClosedSet A g M
greatest_members A g M k = record {
  closed = heeds_closed A M 0 g.procs k.heeds;
  greatest
      = λ T within closed. k.greatest T within (closed_heeds A T 0 g.procs closed);
}

pub greatest_of : (A : Solution) (g : Grin) (M : Procedures) (ps : List Proc) (ts us : List Tie)
    (n : ℕ) → ps ≡ g.procs → ts ≡ ties_from A 0 (map procedure_of ps) → us ≡ ts → n ≡ length g.procs
    → IsGreatestRespecting n us M
    → IsGreatestClosedSet A (program_of g) M
greatest_of A g M ps ts us n p t u e k =
    let count : n ≡ length (map procedure_of g.procs) = e ∙ sym (length-map g.procs procedure_of) in
    let same : us ≡ ties_from A 0 (map procedure_of g.procs)
    = u ∙ t ∙ ap (λ ps. ties_from A 0 (map procedure_of ps)) p in
    greatest_members A (program_of g) M
    (subst (λ l. IsGreatestRespecting (length (map procedure_of g.procs)) l M) same
    (subst (λ n. IsGreatestRespecting n us M) count k))
