-- The relation of Core and that of its moves derive the same.
use Rattle.std.proofs.Common.{◌≡◌, ℕ, Bool, true, false, List, [], ◌∷◌, ◌++◌, map, length, Option, Some, None, refl, ap, sym, subst}
use Rattle.std.specs.Prelude.{ℤ, slice_get}
use Rattle.arity_check.specs.Program.{Program, Function, Term, App, Let, Case, Branches, NoMore, OnCon, OnInt, OnAny}
use Rattle.core_meaning.specs.Heap.{Value, Int, Part, Delayed, Call, Prim, Binding, Known, Waiting, Heap, Env, with_local, with_locals}
use Rattle.core_meaning.specs.Evaluation.{binding, with_group, parameters, is_con, fields_of, is_int}
use Rattle.natural_semantics.specs.World.{World, extended}
use Rattle.natural_semantics.specs.Natural.{Forces, Runs, Takes, Evaluates, Selects, Is, Becomes, Calls, Shared, Applies, Computes, NoByte, Byte, Nothing, Waits, Enters, AtOnce, Computed, Binds, Chooses, OfCon, OfInt, OfAny, OfNamed, PastCon, PastInt}
use Rattle.natural_semantics.specs.any.Moves.{Moves, Ends, Adds, Demands, Then, Refuses, Absent}
use Rattle.natural_semantics.specs.any.Natural as any
use Rattle.natural_semantics.specs.CoreMoves.{moves_of, choice_of, body_of, core_program}

-- what stands in moves
abbrev pub end_in : Binding → Moves ℕ → Binding
end_in b (Ends c) = c
end_in b (Adds more next) = b
end_in b (Demands a next) = b
end_in b (Then moves next) = b
end_in b Refuses = b
end_in b Absent = b

abbrev pub more_in : (ℕ → Heap) → Moves ℕ → ℕ → Heap
more_in m (Ends c) = m
more_in m (Adds more next) = more
more_in m (Demands a next) = m
more_in m (Then moves next) = m
more_in m Refuses = m
more_in m Absent = m

abbrev pub next_in : (ℕ → Moves ℕ) → Moves ℕ → ℕ → Moves ℕ
next_in m (Ends c) = m
next_in m (Adds more next) = next
next_in m (Demands a next) = m
next_in m (Then moves next) = m
next_in m Refuses = m
next_in m Absent = m

abbrev pub first_in : Moves ℕ → Moves ℕ → Moves ℕ
first_in m (Ends c) = m
first_in m (Adds more next) = m
first_in m (Demands a next) = m
first_in m (Then moves next) = moves
first_in m Refuses = m
first_in m Absent = m

abbrev pub then_in : (Value → Moves ℕ) → Moves ℕ → Value → Moves ℕ
then_in m (Ends c) = m
then_in m (Adds more next) = m
then_in m (Demands a next) = m
then_in m (Then moves next) = next
then_in m Refuses = m
then_in m Absent = m

module _ (p : Program) where
  -- ---- from Core to its moves

  abbrev pub one_of : Moves ℕ → Moves ℕ → Bool → Moves ℕ
  one_of m n b = elim b as (λ z. Moves ℕ) [ true ↦ m | false ↦ n ]

  mutual
    pub forces_to : (w w' : World) (a : ℕ) (v : Value) → Forces p w a v w'
        → any.Forces (core_program p) w a v w'
    forces_to w w' a v (Is i) = any.Is i
    forces_to w w' a v (Becomes {w' = w1} {t = t} i r) = any.Becomes i (runs_to w w1 t v r)

    pub runs_to : (w w' : World) (t : Delayed) (v : Value) → Runs p w t v w'
        → any.Runs (core_program p) w t v w'
    runs_to w w' t v (Calls {f = f} {xs = xs} g i r) =
        any.Calls (subst (λ o. any.Yields (core_program p) w (body_of p o xs) v w') (sym i)
        (evaluates_to w w' (parameters xs) g.body v r))
    runs_to w w' t v (Shared {f = f} g i r) =
        any.Shared (subst (λ o. any.Yields (core_program p) w (body_of p o []) v w') (sym i)
        (evaluates_to w w' (parameters []) g.body v r))
    runs_to w w' t v (Applies {w' = w1} {a = a} {bs = bs} {u = u} r r') =
        any.Applies (forces_to w w1 a u r) (takes_to w1 w' u bs v r')
    runs_to w w' t v (Computes {w' = w1} {a = a} {b = b} {i = i} {j = j} r r') =
        any.Computes (forces_to w w1 a (Int i) r) (forces_to w1 w' b (Int j) r')
    runs_to w w' t v (NoByte i) = any.NoByte i
    runs_to w w' t v (Byte i) = any.Byte i

    pub takes_to : (w w' : World) (u : Value) (bs : List ℕ) (v : Value) → Takes p w u bs v w'
        → any.Takes (core_program p) w u bs v w'
    takes_to w w' u bs v Nothing = any.Nothing
    takes_to w w' u bs v (Waits {f = f} {b = b} {xs = xs} {bs = cs} lt r) =
        any.Waits lt (takes_to w w' (Part f (xs ++ b ∷ [])) cs v r)
    takes_to w w' u bs v (Enters {w' = w1} {f = f} {b = b} {xs = xs} {bs = cs} {u = u'} le r r') =
        any.Enters le (runs_to w w1 (Call f (xs ++ b ∷ [])) u' r) (takes_to w1 w' u' cs v r')

    pub evaluates_to : (w w' : World) (env : Env) (e : Term) (v : Value)
        → Evaluates p w env e v w' → any.Yields (core_program p) w (moves_of p e env) v w'
    evaluates_to w w' env e v (AtOnce i) =
        subst (λ b. any.Yields (core_program p) w (Ends b) v w') (sym i) any.AtOnce
    evaluates_to w w' env e v (Computed {t = t} i r) =
        subst (λ b. any.Yields (core_program p) w (Ends b) v w') (sym i)
        (any.Computed (runs_to w w' t v r))
    evaluates_to w w' env e v (Binds {group = group} {body = body} inner i r) =
        any.Binds (subst (λ x. any.Yields (core_program p)
        (extended w (map (λ b. binding p x b.flat) group)) (moves_of p body x) v w') i
        (evaluates_to (extended w (map (λ b. binding p inner b.flat) group)) w' inner body v r))
    evaluates_to w w' env e v
        (Chooses {w' = w1} {tested = tested} {branches = branches} {u = u} r r') =
        any.GoesOn (evaluates_to w w1 env tested u r) (selects_to w1 w' env branches u v r')

    selects_to : (w w' : World) (env : Env) (bs : Branches) (u v : Value)
        → Selects p w env bs u v w' → any.Yields (core_program p) w (choice_of p bs u env) v w'
    selects_to w w' env bs u v (OfCon {xs = xs} {body = body} {rest = rest} i r) =
        subst (λ l. any.Yields (core_program p) w
        (one_of (moves_of p body (with_locals env xs (fields_of u))) (choice_of p rest u env) l) v
        w')
        (sym i) (evaluates_to w w' (with_locals env xs (fields_of u)) body v r)
    selects_to w w' env bs u v (OfInt {body = body} {rest = rest} i r) =
        subst (λ l. any.Yields (core_program p) w
        (one_of (moves_of p body env) (choice_of p rest u env) l) v w')
        (sym i) (evaluates_to w w' env body v r)
    selects_to w w' env bs u v (OfAny {body = body} r) = evaluates_to w w' env body v r
    selects_to w w' env bs u v (OfNamed {x = x} {body = body} r) =
        any.Binds (evaluates_to (extended w (Known u ∷ [])) w' (with_local env x (length w.heap))
        body v r)
    selects_to w w' env bs u v (PastCon {xs = xs} {body = body} {rest = rest} i r) =
        subst (λ l. any.Yields (core_program p) w
        (one_of (moves_of p body (with_locals env xs (fields_of u))) (choice_of p rest u env) l) v
        w')
        (sym i) (selects_to w w' env rest u v r)
    selects_to w w' env bs u v (PastInt {body = body} {rest = rest} i r) =
        subst (λ l. any.Yields (core_program p) w
        (one_of (moves_of p body env) (choice_of p rest u env) l) v w')
        (sym i) (selects_to w w' env rest u v r)

  -- ---- from its moves to Core

  -- what a derivation says where its moves are those of an expression, or of a branch that has a
  -- name for every value
  pub record From (w w' : World) (m : Moves ℕ) (v : Value) : Type 0 where
    pub expression : (e : Term) (env : Env) → m ≡ moves_of p e env → Evaluates p w env e v w'
    pub named : (x : ℕ) (body : Term) (env : Env) (u : Value)
        → m ≡ Adds (λ k. Known u ∷ []) (λ k. moves_of p body (with_local env x k))
        → Evaluates p (extended w (Known u ∷ [])) (with_local env x (length w.heap)) body v w'
    pub is_not_absent : m ≡ Absent → ⊥
    pub is_not_refused : m ≡ Refuses → ⊥

  known_from : (w : World) (v : Value) (e : Term) (env : Env) → Ends (Known v) ≡ moves_of p e env
      → Evaluates p w env e v w
  known_from w v (App f) env q = AtOnce (sym (ap (end_in (Known v)) q))
  known_from w v (Let group body) env q = cc
  known_from w v (Case tested branches) env q = cc

  waiting_from : (w w' : World) (t : Delayed) (v : Value) → Runs p w t v w' → (e : Term)
      (env : Env) → Ends (Waiting t) ≡ moves_of p e env → Evaluates p w env e v w'
  waiting_from w w' t v r (App f) env q = Computed (sym (ap (end_in (Waiting t)) q)) r
  waiting_from w w' t v r (Let group body) env q = cc
  waiting_from w w' t v r (Case tested branches) env q = cc

  binds_from : (w w' : World) (more : ℕ → Heap) (next : ℕ → Moves ℕ) (v : Value)
      → From (extended w (more (length w.heap))) w' (next (length w.heap)) v → (e : Term)
      (env : Env) → Adds more next ≡ moves_of p e env → Evaluates p w env e v w'
  binds_from w w' more next v r (App f) env q = cc
  binds_from w w' more next v r (Let group body) env q =
      let inner : Env = with_group p env group (length w.heap) in
      Binds inner refl
      (subst (λ m. Evaluates p (extended w (m (length w.heap))) inner body v w')
      (ap (more_in more) q)
      (r.expression body inner (ap (λ m. next_in next m (length w.heap)) q)))
  binds_from w w' more next v r (Case tested branches) env q = cc

  demands_from : (w w' : World) (a : ℕ) (next : Value → Moves ℕ) (v : Value) (e : Term) (env : Env)
      → Demands a next ≡ moves_of p e env → Evaluates p w env e v w'
  demands_from w w' a next v (App f) env q = cc
  demands_from w w' a next v (Let group body) env q = cc
  demands_from w w' a next v (Case tested branches) env q = cc

  con_from : (w w' : World) (m : Moves ℕ) (u v : Value) (c : ℕ) (xs : List ℕ) (body : Term)
      (rest : Branches) (env : Env) → From w w' m v
      → (m ≡ choice_of p rest u env → Selects p w env rest u v w') → (l : Bool) → is_con c u ≡ l
      → m ≡ one_of (moves_of p body (with_locals env xs (fields_of u))) (choice_of p rest u env) l
      → Selects p w env (OnCon c xs body rest) u v w'
  con_from w w' m u v c xs body rest env r past true i q =
      OfCon i (r.expression body (with_locals env xs (fields_of u)) q)
  con_from w w' m u v c xs body rest env r past false i q = PastCon i (past q)

  int_from : (w w' : World) (m : Moves ℕ) (u v : Value) (k : ℤ) (body : Term)
      (rest : Branches) (env : Env) → From w w' m v
      → (m ≡ choice_of p rest u env → Selects p w env rest u v w') → (l : Bool) → is_int k u ≡ l
      → m ≡ one_of (moves_of p body env) (choice_of p rest u env) l
      → Selects p w env (OnInt k body rest) u v w'
  int_from w w' m u v k body rest env r past true i q = OfInt i (r.expression body env q)
  int_from w w' m u v k body rest env r past false i q = PastInt i (past q)

  selects_from : (w w' : World) (m : Moves ℕ) (u v : Value) → From w w' m v → (bs : Branches)
      (env : Env) → m ≡ choice_of p bs u env → Selects p w env bs u v w'
  selects_from w w' m u v r NoMore env q = absurd (r.is_not_refused q)
  selects_from w w' m u v r (OnCon c xs body rest) env q =
      con_from w w' m u v c xs body rest env r (selects_from w w' m u v r rest env)
      (is_con c u) refl q
  selects_from w w' m u v r (OnInt k body rest) env q =
      int_from w w' m u v k body rest env r (selects_from w w' m u v r rest env)
      (is_int k u) refl q
  selects_from w w' m u v r (OnAny None body rest) env q = OfAny (r.expression body env q)
  selects_from w w' m u v r (OnAny (Some x) body rest) env q = OfNamed (r.named x body env u q)

  then_from : (w w' w'' : World) (moves : Moves ℕ) (next : Value → Moves ℕ) (u v : Value)
      → From w w' moves u → From w' w'' (next u) v → (e : Term) (env : Env)
      → Then moves next ≡ moves_of p e env → Evaluates p w env e v w''
  then_from w w' w'' moves next u v r r' (App f) env q = cc
  then_from w w' w'' moves next u v r r' (Let group body) env q = cc
  then_from w w' w'' moves next u v r r' (Case tested branches) env q =
      Chooses (r.expression tested env (ap (first_in moves) q))
      (selects_from w' w'' (next u) u v r' branches env (ap (λ m. then_in next m u) q))

  called_from : (w w' : World) (f : ℕ) (xs : List ℕ) (v : Value)
      → From w w' (body_of p (slice_get p.funs f) xs) v → (o : Option Function)
      → slice_get p.funs f ≡ o → (g : Function)
      × ((slice_get p.funs f ≡ Some g) × Evaluates p w (parameters xs) g.body v w')
  called_from w w' f xs v r None i = absurd (r.is_not_absent (ap (λ o. body_of p o xs) i))
  called_from w w' f xs v r (Some g) i =
      (g, (i, r.expression g.body (parameters xs) (ap (λ o. body_of p o xs) i)))

  mutual
    pub forces_from : (w w' : World) (a : ℕ) (v : Value) → any.Forces (core_program p) w a v w'
        → Forces p w a v w'
    forces_from w w' a v (any.Is i) = Is i
    forces_from w w' a v (any.Becomes {w' = w1} {t = t} i r) = Becomes i (runs_from w w1 t v r)

    pub runs_from : (w w' : World) (t : Delayed) (v : Value)
        → any.Runs (core_program p) w t v w' → Runs p w t v w'
    runs_from w w' t v (any.Calls {f = f} {xs = xs} r) =
        let c = called_from w w' f xs v (yields_from w w' _ v r) (slice_get p.funs f) refl in
        Calls c.0 c.1.0 c.1.1
    runs_from w w' t v (any.Shared {f = f} r) =
        let c = called_from w w' f [] v (yields_from w w' _ v r) (slice_get p.funs f) refl in
        Shared c.0 c.1.0 c.1.1
    runs_from w w' t v (any.Applies {w' = w1} {a = a} {bs = bs} {u = u} r r') =
        Applies (forces_from w w1 a u r) (takes_from w1 w' u bs v r')
    runs_from w w' t v (any.Computes {w' = w1} {a = a} {b = b} {i = i} {j = j} r r') =
        Computes (forces_from w w1 a (Int i) r) (forces_from w1 w' b (Int j) r')
    runs_from w w' t v (any.NoByte i) = NoByte i
    runs_from w w' t v (any.Byte i) = Byte i

    pub takes_from : (w w' : World) (u : Value) (bs : List ℕ) (v : Value)
        → any.Takes (core_program p) w u bs v w' → Takes p w u bs v w'
    takes_from w w' u bs v any.Nothing = Nothing
    takes_from w w' u bs v (any.Waits {f = f} {b = b} {xs = xs} {bs = cs} lt r) =
        Waits lt (takes_from w w' (Part f (xs ++ b ∷ [])) cs v r)
    takes_from w w' u bs v
        (any.Enters {w' = w1} {f = f} {b = b} {xs = xs} {bs = cs} {u = u'} le r r') =
        Enters le (runs_from w w1 (Call f (xs ++ b ∷ [])) u' r) (takes_from w1 w' u' cs v r')

    pub yields_from : (w w' : World) (m : Moves ℕ) (v : Value)
        → any.Yields (core_program p) w m v w' → From w w' m v
    yields_from w w' m v any.AtOnce = record {
      expression = known_from w v;
      named = λ x body env u q. cc;
      is_not_absent = λ q. cc;
      is_not_refused = λ q. cc;
    }
    yields_from w w' m v (any.Computed {t = t} r) = record {
      expression = waiting_from w w' t v (runs_from w w' t v r);
      named = λ x body env u q. cc;
      is_not_absent = λ q. cc;
      is_not_refused = λ q. cc;
    }
    yields_from w w' m v (any.Binds {more = more} {next = next} r) =
        let f = yields_from (extended w (more (length w.heap))) w' (next (length w.heap)) v r in
        record {
          expression = binds_from w w' more next v f;
          named = λ x body env u q.
              subst (λ m. Evaluates p (extended w (m (length w.heap)))
              (with_local env x (length w.heap)) body v w') (ap (more_in more) q)
              (f.expression body (with_local env x (length w.heap))
              (ap (λ m. next_in next m (length w.heap)) q));
          is_not_absent = λ q. cc;
          is_not_refused = λ q. cc;
        }
    yields_from w w' m v (any.Needs {a = a} {next = next} r r') = record {
      expression = demands_from w w' a next v;
      named = λ x body env u q. cc;
      is_not_absent = λ q. cc;
      is_not_refused = λ q. cc;
    }
    yields_from w w' m v (any.GoesOn {w' = w1} {moves = moves} {next = next} {u = u} r r')
        = record {
          expression = then_from w w1 w' moves next u v (yields_from w w1 moves u r)
              (yields_from w1 w' (next u) v r');
          named = λ x body env u q. cc;
          is_not_absent = λ q. cc;
          is_not_refused = λ q. cc;
        }

  pub evaluates_from : (w w' : World) (env : Env) (e : Term) (v : Value)
      → any.Yields (core_program p) w (moves_of p e env) v w' → Evaluates p w env e v w'
  evaluates_from w w' env e v r = (yields_from w w' (moves_of p e env) v r).expression e env refl
