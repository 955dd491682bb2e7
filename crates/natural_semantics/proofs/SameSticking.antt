-- What nothing accepts is met by the relation of Core where it is met by that of its moves.
use Rattle.std.proofs.Common.{◌≡◌, ℕ, Bool, true, false, List, [], ◌∷◌, ◌++◌, map, length, Option, Some, None, refl, ap, sym, subst}
use Rattle.std.specs.Prelude.{ℤ, slice_get}
use Rattle.arity_check.specs.Program.{Program, Function, Term, App, Let, Case, Branches, NoMore, OnCon, OnInt, OnAny}
use Rattle.core_meaning.specs.Heap.{Value, Int, Part, Delayed, Call, Prim, Known, Waiting, Heap, Env, with_local, with_locals}
use Rattle.core_meaning.specs.Evaluation.{binding, with_group, parameters, is_con, fields_of, is_int}
use Rattle.natural_semantics.specs.World.{World, extended}
use Rattle.natural_semantics.specs.Stuck.{ForceSticks, RunSticks, TakingSticks, EvaluationSticks, SelectionSticks, Becoming, Calling, Sharing, AtHead, AtArguments, AtFirst, FirstIsNone, AtSecond, SecondIsNone, TakesNone, Waiting', Entering, Behind, Computing, Binding as Binding', AtTested, AtBranches, NoneLeft, InCon, InInt, InAny, InNamed, PastCon', PastInt'}
use Rattle.natural_semantics.specs.any.Moves.{Moves, Ends, Adds, Demands, Then, Refuses, Absent}
use Rattle.natural_semantics.specs.any.Stuck as any
use Rattle.natural_semantics.specs.CoreMoves.{moves_of, choice_of, body_of, core_program}
use Rattle.natural_semantics.proofs.SameRelation.{end_in, more_in, next_in, first_in, then_in, one_of, forces_to, runs_to, evaluates_to, From, forces_from, runs_from, yields_from}

module _ (p : Program) where
  -- ---- from Core to its moves

  mutual
    pub force_sticks_to : (w : World) (a : ℕ) → ForceSticks p w a
        → any.ForceSticks (core_program p) w a
    force_sticks_to w a (Becoming {t = t} i r) = any.Becoming i (run_sticks_to w t r)

    run_sticks_to : (w : World) (t : Delayed) → RunSticks p w t
        → any.RunSticks (core_program p) w t
    run_sticks_to w t (Calling {f = f} {xs = xs} g i r) =
        any.Calling (subst (λ o. any.YieldSticks (core_program p) w (body_of p o xs)) (sym i)
        (evaluation_sticks_to w (parameters xs) g.body r))
    run_sticks_to w t (Sharing {f = f} g i r) =
        any.Sharing (subst (λ o. any.YieldSticks (core_program p) w (body_of p o [])) (sym i)
        (evaluation_sticks_to w (parameters []) g.body r))
    run_sticks_to w t (AtHead {a = a} r) = any.AtHead (force_sticks_to w a r)
    run_sticks_to w t (AtArguments {w' = w1} {a = a} {bs = bs} {u = u} r r') =
        any.AtArguments (forces_to p w w1 a u r) (taking_sticks_to w1 u bs r')
    run_sticks_to w t (AtFirst {a = a} r) = any.AtFirst (force_sticks_to w a r)
    run_sticks_to w t (FirstIsNone {w' = w1} {a = a} {u = u} r n) =
        any.FirstIsNone (forces_to p w w1 a u r) n
    run_sticks_to w t (AtSecond {w' = w1} {a = a} {b = b} {i = i} r r') =
        any.AtSecond (forces_to p w w1 a (Int i) r) (force_sticks_to w1 b r')
    run_sticks_to w t (SecondIsNone {w' = w1} {w'' = w2} {a = a} {b = b} {i = i} {v = v} r r' n) =
        any.SecondIsNone (forces_to p w w1 a (Int i) r) (forces_to p w1 w2 b v r') n

    taking_sticks_to : (w : World) (u : Value) (bs : List ℕ) → TakingSticks p w u bs
        → any.TakingSticks (core_program p) w u bs
    taking_sticks_to w u bs (TakesNone n) = any.TakesNone n
    taking_sticks_to w u bs (Waiting' {f = f} {b = b} {xs = xs} {bs = cs} lt r) =
        any.Waiting' lt (taking_sticks_to w (Part f (xs ++ b ∷ [])) cs r)
    taking_sticks_to w u bs (Entering {f = f} {b = b} {xs = xs} {bs = cs} less r) =
        any.Entering less (run_sticks_to w (Call f (xs ++ b ∷ [])) r)
    taking_sticks_to w u bs
        (Behind {w' = w1} {f = f} {b = b} {xs = xs} {bs = cs} {u = u'} less r r') =
        any.Behind less (runs_to p w w1 (Call f (xs ++ b ∷ [])) u' r)
        (taking_sticks_to w1 u' cs r')

    pub evaluation_sticks_to : (w : World) (env : Env) (e : Term) → EvaluationSticks p w env e
        → any.YieldSticks (core_program p) w (moves_of p e env)
    evaluation_sticks_to w env e (Computing {t = t} i r) =
        subst (λ b. any.YieldSticks (core_program p) w (Ends b)) (sym i)
        (any.Computing (run_sticks_to w t r))
    evaluation_sticks_to w env e (Binding' {group = group} {body = body} inner i r) =
        any.Binding (subst (λ x. any.YieldSticks (core_program p)
        (extended w (map (λ b. binding p x b.flat) group)) (moves_of p body x)) i
        (evaluation_sticks_to (extended w (map (λ b. binding p inner b.flat) group)) inner body r))
    evaluation_sticks_to w env e (AtTested {tested = tested} r) =
        any.AtMoves (evaluation_sticks_to w env tested r)
    evaluation_sticks_to w env e
        (AtBranches {w' = w1} {tested = tested} {branches = branches} {u = u} r r') =
        any.BehindMoves (evaluates_to p w w1 env tested u r)
        (selection_sticks_to w1 env branches u r')

    selection_sticks_to : (w : World) (env : Env) (bs : Branches) (u : Value)
        → SelectionSticks p w env bs u
        → any.YieldSticks (core_program p) w (choice_of p bs u env)
    selection_sticks_to w env bs u NoneLeft = any.Refused
    selection_sticks_to w env bs u (InCon {xs = xs} {body = body} {rest = rest} i r) =
        subst (λ l. any.YieldSticks (core_program p) w
        (one_of p (moves_of p body (with_locals env xs (fields_of u))) (choice_of p rest u env) l))
        (sym i) (evaluation_sticks_to w (with_locals env xs (fields_of u)) body r)
    selection_sticks_to w env bs u (InInt {body = body} {rest = rest} i r) =
        subst (λ l. any.YieldSticks (core_program p) w
        (one_of p (moves_of p body env) (choice_of p rest u env) l))
        (sym i) (evaluation_sticks_to w env body r)
    selection_sticks_to w env bs u (InAny {body = body} r) = evaluation_sticks_to w env body r
    selection_sticks_to w env bs u (InNamed {x = x} {body = body} r) =
        any.Binding (evaluation_sticks_to (extended w (Known u ∷ []))
        (with_local env x (length w.heap)) body r)
    selection_sticks_to w env bs u (PastCon' {xs = xs} {body = body} {rest = rest} i r) =
        subst (λ l. any.YieldSticks (core_program p) w
        (one_of p (moves_of p body (with_locals env xs (fields_of u))) (choice_of p rest u env) l))
        (sym i) (selection_sticks_to w env rest u r)
    selection_sticks_to w env bs u (PastInt' {body = body} {rest = rest} i r) =
        subst (λ l. any.YieldSticks (core_program p) w
        (one_of p (moves_of p body env) (choice_of p rest u env) l))
        (sym i) (selection_sticks_to w env rest u r)

  -- ---- from its moves to Core

  -- what is met, where the moves are those of an expression, or of a branch that has a name for
  -- every value
  record Met (w : World) (m : Moves ℕ) : Type 0 where
    pub expression : (e : Term) (env : Env) → m ≡ moves_of p e env → EvaluationSticks p w env e
    pub named : (x : ℕ) (body : Term) (env : Env) (u : Value)
        → m ≡ Adds (λ k. Known u ∷ []) (λ k. moves_of p body (with_local env x k))
        → EvaluationSticks p (extended w (Known u ∷ [])) (with_local env x (length w.heap)) body
    pub is_not_absent : m ≡ Absent → ⊥

  refused_met : (w : World) (e : Term) (env : Env) → Refuses ≡ moves_of p e env
      → EvaluationSticks p w env e
  refused_met w (App f) env q = cc
  refused_met w (Let group body) env q = cc
  refused_met w (Case tested branches) env q = cc

  waiting_met : (w : World) (t : Delayed) → RunSticks p w t → (e : Term) (env : Env)
      → Ends (Waiting t) ≡ moves_of p e env → EvaluationSticks p w env e
  waiting_met w t r (App f) env q = Computing (sym (ap (end_in (Waiting t)) q)) r
  waiting_met w t r (Let group body) env q = cc
  waiting_met w t r (Case tested branches) env q = cc

  binds_met : (w : World) (more : ℕ → Heap) (next : ℕ → Moves ℕ)
      → Met (extended w (more (length w.heap))) (next (length w.heap)) → (e : Term)
      (env : Env) → Adds more next ≡ moves_of p e env → EvaluationSticks p w env e
  binds_met w more next r (App f) env q = cc
  binds_met w more next r (Let group body) env q =
      let inner : Env = with_group p env group (length w.heap) in
      Binding' inner refl
      (subst (λ m. EvaluationSticks p (extended w (m (length w.heap))) inner body)
      (ap (more_in more) q)
      (r.expression body inner (ap (λ m. next_in next m (length w.heap)) q)))
  binds_met w more next r (Case tested branches) env q = cc

  demands_met : (w : World) (a : ℕ) (next : Value → Moves ℕ) (e : Term) (env : Env)
      → Demands a next ≡ moves_of p e env → EvaluationSticks p w env e
  demands_met w a next (App f) env q = cc
  demands_met w a next (Let group body) env q = cc
  demands_met w a next (Case tested branches) env q = cc

  con_met : (w : World) (m : Moves ℕ) (u : Value) (c : ℕ) (xs : List ℕ) (body : Term)
      (rest : Branches) (env : Env) → Met w m
      → (m ≡ choice_of p rest u env → SelectionSticks p w env rest u) → (l : Bool) → is_con c u ≡ l
      → m ≡ one_of p (moves_of p body (with_locals env xs (fields_of u))) (choice_of p rest u env) l
      → SelectionSticks p w env (OnCon c xs body rest) u
  con_met w m u c xs body rest env r past true i q =
      InCon i (r.expression body (with_locals env xs (fields_of u)) q)
  con_met w m u c xs body rest env r past false i q = PastCon' i (past q)

  int_met : (w : World) (m : Moves ℕ) (u : Value) (k : ℤ) (body : Term)
      (rest : Branches) (env : Env) → Met w m
      → (m ≡ choice_of p rest u env → SelectionSticks p w env rest u) → (l : Bool) → is_int k u ≡ l
      → m ≡ one_of p (moves_of p body env) (choice_of p rest u env) l
      → SelectionSticks p w env (OnInt k body rest) u
  int_met w m u k body rest env r past true i q = InInt i (r.expression body env q)
  int_met w m u k body rest env r past false i q = PastInt' i (past q)

  selection_met : (w : World) (m : Moves ℕ) (u : Value) → Met w m → (bs : Branches) (env : Env)
      → m ≡ choice_of p bs u env → SelectionSticks p w env bs u
  selection_met w m u r NoMore env q = NoneLeft
  selection_met w m u r (OnCon c xs body rest) env q =
      con_met w m u c xs body rest env r (selection_met w m u r rest env) (is_con c u) refl q
  selection_met w m u r (OnInt k body rest) env q =
      int_met w m u k body rest env r (selection_met w m u r rest env) (is_int k u) refl q
  selection_met w m u r (OnAny None body rest) env q = InAny (r.expression body env q)
  selection_met w m u r (OnAny (Some x) body rest) env q = InNamed (r.named x body env u q)

  at_moves_met : (w : World) (moves : Moves ℕ) (next : Value → Moves ℕ) → Met w moves → (e : Term)
      (env : Env) → Then moves next ≡ moves_of p e env → EvaluationSticks p w env e
  at_moves_met w moves next r (App f) env q = cc
  at_moves_met w moves next r (Let group body) env q = cc
  at_moves_met w moves next r (Case tested branches) env q =
      AtTested (r.expression tested env (ap (first_in moves) q))

  behind_moves_met : (w w' : World) (moves : Moves ℕ) (next : Value → Moves ℕ) (u : Value)
      → From p w w' moves u → Met w' (next u) → (e : Term) (env : Env)
      → Then moves next ≡ moves_of p e env → EvaluationSticks p w env e
  behind_moves_met w w' moves next u r r' (App f) env q = cc
  behind_moves_met w w' moves next u r r' (Let group body) env q = cc
  behind_moves_met w w' moves next u r r' (Case tested branches) env q =
      AtBranches (r.expression tested env (ap (first_in moves) q))
      (selection_met w' (next u) u r' branches env (ap (λ m. then_in next m u) q))

  called_met : (w : World) (f : ℕ) (xs : List ℕ) → Met w (body_of p (slice_get p.funs f) xs)
      → (o : Option Function) → slice_get p.funs f ≡ o → (g : Function)
      × ((slice_get p.funs f ≡ Some g) × EvaluationSticks p w (parameters xs) g.body)
  called_met w f xs r None i = absurd (r.is_not_absent (ap (λ o. body_of p o xs) i))
  called_met w f xs r (Some g) i =
      (g, (i, r.expression g.body (parameters xs) (ap (λ o. body_of p o xs) i)))

  mutual
    pub force_sticks_from : (w : World) (a : ℕ) → any.ForceSticks (core_program p) w a
        → ForceSticks p w a
    force_sticks_from w a (any.NoName x i) = let z : false ≡ true = x in cc
    force_sticks_from w a (any.Becoming {t = t} i r) = Becoming i (run_sticks_from w t r)

    run_sticks_from : (w : World) (t : Delayed) → any.RunSticks (core_program p) w t
        → RunSticks p w t
    run_sticks_from w t (any.Calling {f = f} {xs = xs} r) =
        let c = called_met w f xs (yield_sticks_from w _ r) (slice_get p.funs f) refl in
        Calling c.0 c.1.0 c.1.1
    run_sticks_from w t (any.Sharing {f = f} r) =
        let c = called_met w f [] (yield_sticks_from w _ r) (slice_get p.funs f) refl in
        Sharing c.0 c.1.0 c.1.1
    run_sticks_from w t (any.AtHead {a = a} r) = AtHead (force_sticks_from w a r)
    run_sticks_from w t (any.AtArguments {w' = w1} {a = a} {bs = bs} {u = u} r r') =
        AtArguments (forces_from p w w1 a u r) (taking_sticks_from w1 u bs r')
    run_sticks_from w t (any.AtFirst {a = a} r) = AtFirst (force_sticks_from w a r)
    run_sticks_from w t (any.FirstIsNone {w' = w1} {a = a} {u = u} r n) =
        FirstIsNone (forces_from p w w1 a u r) n
    run_sticks_from w t (any.AtSecond {w' = w1} {a = a} {b = b} {i = i} r r') =
        AtSecond (forces_from p w w1 a (Int i) r) (force_sticks_from w1 b r')
    run_sticks_from w t
        (any.SecondIsNone {w' = w1} {w'' = w2} {a = a} {b = b} {i = i} {v = v} r r' n) =
        SecondIsNone (forces_from p w w1 a (Int i) r) (forces_from p w1 w2 b v r') n

    taking_sticks_from : (w : World) (u : Value) (bs : List ℕ)
        → any.TakingSticks (core_program p) w u bs → TakingSticks p w u bs
    taking_sticks_from w u bs (any.TakesNone n) = TakesNone n
    taking_sticks_from w u bs (any.Waiting' {f = f} {b = b} {xs = xs} {bs = cs} lt r) =
        Waiting' lt (taking_sticks_from w (Part f (xs ++ b ∷ [])) cs r)
    taking_sticks_from w u bs (any.Entering {f = f} {b = b} {xs = xs} {bs = cs} less r) =
        Entering less (run_sticks_from w (Call f (xs ++ b ∷ [])) r)
    taking_sticks_from w u bs
        (any.Behind {w' = w1} {f = f} {b = b} {xs = xs} {bs = cs} {u = u'} less r r') =
        Behind less (runs_from p w w1 (Call f (xs ++ b ∷ [])) u' r)
        (taking_sticks_from w1 u' cs r')

    yield_sticks_from : (w : World) (m : Moves ℕ) → any.YieldSticks (core_program p) w m → Met w m
    yield_sticks_from w m any.Refused = record {
      expression = refused_met w;
      named = λ x body env u q. cc;
      is_not_absent = λ q. cc;
    }
    yield_sticks_from w m (any.NoFunction' x) = let z : false ≡ true = x in cc
    yield_sticks_from w m (any.Computing {t = t} r) = record {
      expression = waiting_met w t (run_sticks_from w t r);
      named = λ x body env u q. cc;
      is_not_absent = λ q. cc;
    }
    yield_sticks_from w m (any.Binding {more = more} {next = next} r) =
        let f = yield_sticks_from (extended w (more (length w.heap))) (next (length w.heap)) r in
        record {
          expression = binds_met w more next f;
          named = λ x body env u q.
              subst (λ m. EvaluationSticks p (extended w (m (length w.heap)))
              (with_local env x (length w.heap)) body) (ap (more_in more) q)
              (f.expression body (with_local env x (length w.heap))
              (ap (λ m. next_in next m (length w.heap)) q));
          is_not_absent = λ q. cc;
        }
    yield_sticks_from w m (any.AtDemand {a = a} {next = next} r) = record {
      expression = demands_met w a next;
      named = λ x body env u q. cc;
      is_not_absent = λ q. cc;
    }
    yield_sticks_from w m (any.BehindDemand {a = a} {next = next} r r') = record {
      expression = demands_met w a next;
      named = λ x body env u q. cc;
      is_not_absent = λ q. cc;
    }
    yield_sticks_from w m (any.AtMoves {moves = moves} {next = next} r) = record {
      expression = at_moves_met w moves next (yield_sticks_from w moves r);
      named = λ x body env u q. cc;
      is_not_absent = λ q. cc;
    }
    yield_sticks_from w m (any.BehindMoves {w' = w1} {moves = moves} {next = next} {u = u} r r') =
        record {
          expression = behind_moves_met w w1 moves next u (yields_from p w w1 moves u r)
              (yield_sticks_from w1 (next u) r');
          named = λ x body env u q. cc;
          is_not_absent = λ q. cc;
        }

  pub evaluation_sticks_from : (w : World) (env : Env) (e : Term)
      → any.YieldSticks (core_program p) w (moves_of p e env) → EvaluationSticks p w env e
  evaluation_sticks_from w env e r = (yield_sticks_from w (moves_of p e env) r).expression e env
      refl
