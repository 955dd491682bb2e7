-- What holds of the text of a program.
use Rattle.std.proofs.Common.{◌≡◌, ℕ, suc, ◌≤◌, Bool, true, false, List, [], ◌∷◌, ◌++◌, length, refl, sym, ◌∙◌, arith}
use Rattle.grin_syntax.specs.declared.program.VarId.{VarId}
use Rattle.grin_syntax.specs.declared.program.Val.{Val}
use Rattle.grin_syntax.specs.declared.program.Val.TheVariants.{NodeVar, Node, Vector, One}
use Rattle.grin_syntax.specs.declared.program.Word.{Word}
use Rattle.grin_syntax.specs.declared.program.Target.{Target}
use Rattle.grin_syntax.specs.declared.program.Target.TheVariants as to
use Rattle.grin_syntax.specs.Tree.{Code, end, store, bind, Act, leaf, unit, fetch, fetch_word, update, eval, apply, call, prim, read, write, case, nested, fail, Arms, no_arm, arm, Procedure}
use Rattle.grin_syntax.specs.Formed.{AllOf}
use Rattle.grin_meaning.specs.Ready.{EachAct, EachCode, EachArms, val_width, NarrowAct, NarrowCode, NarrowArms, PieceKind, EveryBodyIsOfKind, inlined_kind, without_node_fetches, vectorised_kind, narrow_kind}
use Rattle.flow_system.specs.Solution.{Solution}
use Rattle.unbox_theory.specs.Ends.{Procedures, act_calls, IntAct, IntCode, IntArms}
use Rattle.unbox_theory.specs.Members.{ActClosed, CodeClosed, ArmsClosed, ProcedureClosed, ProceduresClosed}
use Rattle.unbox_theory.specs.Unboxing.{given, boxed, bound, unbox_act, unbox_code, unbox_arms, unboxed_from}
use Rattle.unbox_theory.specs.Unboxed.{OneWordAct, OneWordCode, OneWordArms, BoundAct, BoundCode, BoundArms, OneWordFrom, updates_of}
use Rattle.unbox_theory.proofs.Stays.{act_stays, code_stays}

module _ (M : Procedures) where
  -- ---- what is asked of each operation, target and value

  -- what is asked of an operation does not look into its blocks or at what a unit gives, and what
  -- is asked of a target of
  -- two variables or more is met by the two in its place
  record Blind (K : PieceKind) : Type 0 where
    cases : (v : Val) (as' bs' : Arms) → K.operation (case v as') → K.operation (case v bs')
    blocks : (b b' : Code) → K.operation (nested b) → K.operation (nested b')
    units : (v : Val) → K.operation (leaf (unit v))
    ones : (a : Word) → K.value (One a)
    vectors : (ws : List Word) → K.value (Vector ws)
    second : (x y : VarId) (zs : List VarId) → K.target (to.Vector (x ∷ y ∷ zs))
        → K.target (to.One y)
    others : (x y : VarId) (zs : List VarId) → K.target (to.Vector (x ∷ y ∷ zs))
        → K.target (to.Vector (x ∷ zs))

  module _ (K : PieceKind) (blind : Blind K) where
    abbrev Acts : Act → Type 0
    Acts = EachAct K

    abbrev Codes : Code → Type 0
    Codes = EachCode K

    abbrev AllArms : Arms → Type 0
    AllArms = EachArms K

    given_each : (bare : Bool) (v : Val) → K.value v → K.value (given bare v)
    given_each true (NodeVar x) h = blind.ones _
    given_each true (Node t ws) h = blind.ones _
    given_each true (Vector ws) h = blind.ones _
    given_each true (One a) h = blind.ones _
    given_each false v h = h

    boxed_each : (t : Target) (o : Act) (b : Code) → K.target t → Acts o → Codes b
        → Codes (boxed t o b)
    unfolding EachAct
    boxed_each to.Nothing o b h ho hb = (h, ho, hb)
    boxed_each (to.Node x) o b h ho hb = (h, ho, hb)
    boxed_each (to.One x) o b h ho hb = (h, ho, hb)
    boxed_each (to.Vector []) o b h ho hb = (h, ho, hb)
    boxed_each (to.Vector (x ∷ [])) o b h ho hb = (h, ho, hb)
    boxed_each (to.Vector (x ∷ y ∷ zs)) o b h ho hb
        = (blind.second x y zs h, ho, (blind.others x y zs h, (blind.units _, blind.vectors _), hb))

    bound_each : (q : Bool) (t : Target) (o : Act) (b : Code) → K.target t → Acts o → Codes b
        → Codes (bound q t o b)
    unfolding EachAct
    bound_each true t o b h ho hb = boxed_each t o b h ho hb
    bound_each false t o b h ho hb = (h, ho, hb)

    mutual
      unfolding unbox_act EachAct

      act_each : (bare : Bool) (o : Act) → Acts o → Acts (unbox_act M bare o)
      act_each bare (case v as') h =
          (blind.cases v as' (unbox_arms M bare as') h.0, h.1, arms_each bare as' h.2)
      act_each bare (nested b) h = (blind.blocks b (unbox_code M bare b) h.0, code_each bare b h.1)
      act_each bare (leaf (unit v)) h = (blind.units _, given_each bare v h.1)
      act_each bare (leaf (update a v)) h = h
      act_each bare (leaf (fetch a)) h = h
      act_each bare (leaf (fetch_word a i)) h = h
      act_each bare (leaf (eval a)) h = h
      act_each bare (leaf (apply v a)) h = h
      act_each bare (leaf (call f ws)) h = h
      act_each bare (leaf (prim f a b)) h = h
      act_each bare (leaf read) h = h
      act_each bare (leaf (write a)) h = h
      act_each bare (leaf fail) h = h

      code_each : (bare : Bool) (b : Code) → Codes b → Codes (unbox_code M bare b)
      code_each bare (end o) h = act_each bare o h
      code_each bare (store cs b) h = (h.0, code_each bare b h.1)
      code_each bare (bind t o b) h = bound_each (act_calls M o) t (unbox_act M (act_calls M o) o)
          (unbox_code M bare b) h.0 (act_each (act_calls M o) o h.1) (code_each bare b h.2)

      arms_each : (bare : Bool) (as' : Arms) → AllArms as' → AllArms (unbox_arms M bare as')
      arms_each bare no_arm h = tt
      arms_each bare (arm s b as') h = (h.0, code_each bare b h.1, arms_each bare as' h.2)

    procs_each : (f : ℕ) (qs : List Procedure) → AllOf (λ q. Codes q.body) qs
        → AllOf (λ q. Codes q.body) (unboxed_from M f qs)
    procs_each f [] h = tt
    procs_each f (q ∷ qs) h = (code_each (M f) q.body h.0, procs_each (suc f) qs h.1)

  pub procs_inlined : (qs : List Procedure) → EveryBodyIsOfKind inlined_kind qs
      → EveryBodyIsOfKind inlined_kind (unboxed_from M 0 qs)
  procs_inlined = procs_each inlined_kind
      (record {
        cases = λ v as' bs' h. tt;
        blocks = λ b b' h. tt;
        units = λ v. tt;
        ones
            = λ a. tt;
        vectors = λ ws. tt;
        second = λ x y zs h. tt;
        others = λ x y zs h. tt;
      }) 0

  pub procs_by_words : (qs : List Procedure) → EveryBodyIsOfKind without_node_fetches qs
      → EveryBodyIsOfKind without_node_fetches (unboxed_from M 0 qs)
  procs_by_words = procs_each without_node_fetches
      (record {
        cases = λ v as' bs' h. tt;
        blocks = λ b b' h. tt;
        units = λ v. tt;
        ones
            = λ a. tt;
        vectors = λ ws. tt;
        second = λ x y zs h. tt;
        others = λ x y zs h. tt;
      }) 0

  pub procs_vectorised : (qs : List Procedure) → EveryBodyIsOfKind vectorised_kind qs
      → EveryBodyIsOfKind vectorised_kind (unboxed_from M 0 qs)
  procs_vectorised = procs_each vectorised_kind
      (record {
        cases = λ v as' bs' h. tt;
        blocks = λ b b' h. tt;
        units = λ v. tt;
        ones
            = λ a. tt;
        vectors = λ ws. tt;
        second = λ x y zs h. tt;
        others = λ x y zs h. tt;
      }) 0

  pub procs_narrow : (most : ℕ) (qs : List Procedure) → EveryBodyIsOfKind (narrow_kind most) qs
      → EveryBodyIsOfKind (narrow_kind most) (unboxed_from M 0 qs)
  procs_narrow most = procs_each (narrow_kind most)
      (record {
        cases = λ v as' bs' h. tt;
        blocks = λ b b' h. tt;
        units = λ v. tt;
        ones
            = λ a. tt;
        vectors = λ ws. tt;
        second = λ x y zs h. omega (arith, h);
        others
            = λ x y zs h. omega (arith, h);
      }) 0

  -- ---- results

  module _ (width most : ℕ) (some : 1 ≤ most) where
    given_narrow : (bare : Bool) (v : Val) → val_width width v ≤ most
        → val_width width (given bare v) ≤ most
    given_narrow true v h = some
    given_narrow false v h = h

    bound_gives : (q : Bool) (t : Target) (o : Act) (b : Code) → NarrowCode width most b
        → NarrowCode width most (bound q t o b)
    unfolding NarrowAct
    bound_gives false t o b h = h
    bound_gives true to.Nothing o b h = h
    bound_gives true (to.Node x) o b h = h
    bound_gives true (to.One x) o b h = h
    bound_gives true (to.Vector []) o b h = h
    bound_gives true (to.Vector (x ∷ [])) o b h = h
    bound_gives true (to.Vector (x ∷ y ∷ zs)) o b h = h

    mutual
      unfolding unbox_act NarrowAct

      act_gives : (bare : Bool) (o : Act) → NarrowAct width most o
          → NarrowAct width most (unbox_act M bare o)
      act_gives bare (case v as') h = arms_give bare as' h
      act_gives bare (nested b) h = code_gives bare b h
      act_gives bare (leaf (unit v)) h = given_narrow bare v h
      act_gives bare (leaf (update a v)) h = h
      act_gives bare (leaf (fetch a)) h = h
      act_gives bare (leaf (fetch_word a i)) h = h
      act_gives bare (leaf (eval a)) h = h
      act_gives bare (leaf (apply v a)) h = h
      act_gives bare (leaf (call f ws)) h = h
      act_gives bare (leaf (prim f a b)) h = h
      act_gives bare (leaf read) h = h
      act_gives bare (leaf (write a)) h = h
      act_gives bare (leaf fail) h = h

      code_gives : (bare : Bool) (b : Code) → NarrowCode width most b
          → NarrowCode width most (unbox_code M bare b)
      code_gives bare (end o) h = act_gives bare o h
      code_gives bare (store cs b) h = code_gives bare b h
      code_gives bare (bind t o b) h = bound_gives (act_calls M o) t (unbox_act M (act_calls M o) o)
          (unbox_code M bare b) (code_gives bare b h)

      arms_give : (bare : Bool) (as' : Arms) → NarrowArms width most as'
          → NarrowArms width most (unbox_arms M bare as')
      arms_give bare no_arm h = tt
      arms_give bare (arm s b as') h = (code_gives bare b h.0, arms_give bare as' h.1)

    procs_give_from : (f : ℕ) (qs : List Procedure) → AllOf (λ q. NarrowCode width most q.body) qs
        → AllOf (λ q. NarrowCode width most q.body) (unboxed_from M f qs)
    procs_give_from f [] h = tt
    procs_give_from f (q ∷ qs) h = (code_gives (M f) q.body h.0, procs_give_from (suc f) qs h.1)

    pub procs_give : (qs : List Procedure) → AllOf (λ q. NarrowCode width most q.body) qs
        → AllOf (λ q. NarrowCode width most q.body) (unboxed_from M 0 qs)
    procs_give = procs_give_from 0

  pub procs_params : (most f : ℕ) (qs : List Procedure) → AllOf (λ q. length q.params ≤ most) qs
      → AllOf (λ q. length q.params ≤ most) (unboxed_from M f qs)
  procs_params most f [] h = tt
  procs_params most f (q ∷ qs) h = (h.0, procs_params most (suc f) qs h.1)

  -- ---- updates

  pub updates_stay : (f : ℕ) (qs : List Procedure) → updates_of (unboxed_from M f qs) ≡ updates_of
      qs
  updates_stay f [] = refl
  updates_stay f (q ∷ qs) = λ i. (code_stays M (M f) q.body).updates i ++ updates_stay (suc f) qs i

  -- ---- one word

  module _ (A : Solution) where
    bound_one_word : (q : Bool) (t : Target) (o : Act) (b : Code) → OneWordCode M b
        → OneWordCode M (bound q t o b)
    unfolding OneWordAct
    bound_one_word false t o b h = h
    bound_one_word true to.Nothing o b h = h
    bound_one_word true (to.Node x) o b h = h
    bound_one_word true (to.One x) o b h = h
    bound_one_word true (to.Vector []) o b h = h
    bound_one_word true (to.Vector (x ∷ [])) o b h = h
    bound_one_word true (to.Vector (x ∷ y ∷ zs)) o b h = h

    mutual
      unfolding unbox_act IntAct OneWordAct

      act_one_word : (o : Act) → IntAct M A o → OneWordAct M (unbox_act M true o)
      act_one_word (case v as') h = arms_one_word as' h
      act_one_word (nested b) h = code_one_word b h
      act_one_word (leaf (unit v)) h = tt
      act_one_word (leaf (call f ws)) h = h
      act_one_word (leaf fail) h = tt
      act_one_word (leaf (update a v)) h = absurd h
      act_one_word (leaf (fetch a)) h = absurd h
      act_one_word (leaf (fetch_word a i)) h = absurd h
      act_one_word (leaf (eval a)) h = absurd h
      act_one_word (leaf (apply v a)) h = absurd h
      act_one_word (leaf (prim f a b)) h = absurd h
      act_one_word (leaf read) h = absurd h
      act_one_word (leaf (write a)) h = absurd h

      code_one_word : (b : Code) → IntCode M A b → OneWordCode M (unbox_code M true b)
      code_one_word (end o) h = act_one_word o h
      code_one_word (store cs b) h = code_one_word b h
      code_one_word (bind t o b) h = bound_one_word (act_calls M o) t
          (unbox_act M (act_calls M o) o) (unbox_code M true b) (code_one_word b h)

      arms_one_word : (as' : Arms) → IntArms M A as' → OneWordArms M (unbox_arms M true as')
      arms_one_word no_arm h = tt
      arms_one_word (arm s b as') h = (code_one_word b h.0, arms_one_word as' h.1)

    one_word_if : (o : Act) (q : Bool) → act_calls M o ≡ q → (act_calls M o ≡ true → IntAct M A o)
        → act_calls M (unbox_act M q o) ≡ true → OneWordAct M (unbox_act M q o)
    one_word_if o true e h k = act_one_word o (h e)
    one_word_if o false e h k = let m : act_calls M o ≡ true = sym (act_stays M false o).calls ∙ k
        in cc

    bound_bound : (q : Bool) (t : Target) (o : Act) (b : Code)
        → (act_calls M o ≡ true → OneWordAct M o) → BoundAct M o → BoundCode M b
        → BoundCode M (bound q t o b)
    unfolding BoundAct act_calls
    bound_bound false t o b h k l = (h, k, l)
    bound_bound true to.Nothing o b h k l = (h, k, l)
    bound_bound true (to.Node x) o b h k l = (h, k, l)
    bound_bound true (to.One x) o b h k l = (h, k, l)
    bound_bound true (to.Vector []) o b h k l = (h, k, l)
    bound_bound true (to.Vector (x ∷ [])) o b h k l = (h, k, l)
    bound_bound true (to.Vector (x ∷ y ∷ zs)) o b h k l = (h, k, ((λ e. not_so e), tt, l))
      where
        not_so : {P : Type 0} → false ≡ true → P
        not_so e = cc

    mutual
      unfolding unbox_act ActClosed BoundAct

      act_bound : (bare : Bool) (o : Act) → ActClosed A M o → BoundAct M (unbox_act M bare o)
      act_bound bare (case v as') h = arms_bound bare as' h
      act_bound bare (nested b) h = code_bound bare b h
      act_bound bare (leaf l) h = tt

      code_bound : (bare : Bool) (b : Code) → CodeClosed A M b → BoundCode M (unbox_code M bare b)
      code_bound bare (end o) h = act_bound bare o h
      code_bound bare (store cs b) h = code_bound bare b h
      code_bound bare (bind t o b) h = bound_bound (act_calls M o) t (unbox_act M (act_calls M o) o)
          (unbox_code M bare b) (one_word_if o (act_calls M o) refl h.0)
          (act_bound (act_calls M o) o h.1) (code_bound bare b h.2)

      arms_bound : (bare : Bool) (as' : Arms) → ArmsClosed A M as'
          → BoundArms M (unbox_arms M bare as')
      arms_bound bare no_arm h = tt
      arms_bound bare (arm s b as') h = (code_bound bare b h.0, arms_bound bare as' h.1)

    body_one_word : (f : ℕ) (q : Procedure) → ProcedureClosed A M f q → (b : Bool) → M f ≡ b
        → M f ≡ true → OneWordCode M (unbox_code M b q.body)
    body_one_word f q k true e m = code_one_word q.body (k.ints e)
    body_one_word f q k false e m = cc

    pub procs_one_word : (f : ℕ) (qs : List Procedure) → ProceduresClosed A M f qs
        → OneWordFrom M f (unboxed_from M f qs)
    procs_one_word f [] h = tt
    procs_one_word f (q ∷ qs) h = (
      body_one_word f q h.0 (M f) refl,
      code_bound (M f) q.body h.0.blocks,
      procs_one_word (suc f) qs h.1,
    )
