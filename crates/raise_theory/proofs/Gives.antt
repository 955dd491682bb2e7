-- What stands in the text of a program with parameters raised.
use Rattle.std.proofs.Common.{◌≡◌, ℕ, zero, suc, ◌+◌, ◌≤◌, List, [], ◌∷◌, ◌++◌, map, length, Option, Some, None, refl, ap, ◌∙◌, arith}
use Rattle.grin_syntax.specs.declared.program.VarId.{VarId}
use Rattle.grin_syntax.specs.declared.program.ProcId.{ProcId}
use Rattle.grin_syntax.specs.declared.program.Word as W
use Rattle.grin_syntax.specs.declared.program.Word.TheVariants.{Lit, Var, Global, TagWord}
use Rattle.grin_syntax.specs.declared.program.Val as V
use Rattle.grin_syntax.specs.declared.program.Val.TheVariants.{One}
use Rattle.grin_syntax.specs.declared.program.Target.TheVariants as to
use Rattle.grin_syntax.specs.Tree.{Code, end, store, bind, Act, leaf, unit, fetch, fetch_word, update, eval, apply, call, prim, read, write, case, nested, fail, Arms, no_arm, arm, Procedure}
use Rattle.grin_syntax.specs.Binders.{act_sites, code_sites, arms_sites, procs_sites}
use Rattle.grin_syntax.specs.Formed.{AllOf}
use Rattle.grin_syntax.specs.SameOutside.{names_of}
use Rattle.grin_meaning.specs.Ready.{EachAct, EachCode, EachArms, NarrowAct, NarrowCode, NarrowArms, PieceKind, EveryBodyIsOfKind, inlined_kind, without_node_fetches, vectorised_kind, narrow_kind}
use Rattle.pass_ground.specs.OpenUpdates.{act_update_sum, code_update_sum, arms_update_sum, procs_update_sum}
use Rattle.raise_theory.specs.Raising.{Raising, Decisions, decided, raised_fetch_of, fetched, new_variables_of, field_fetches, fetches_for, decisions_at, new_before, fetches_before, new_act, new_code, raised_act, raised_code, raised_arms, raised_procs}

-- what is asked of an operation doesn't look into its blocks and the words of a call, and a fetch
-- of a
-- word, a unit of a word and a target of one variable meet it
pub record Blind (K : PieceKind) : Type 0 where
  pub cases : (v : V.Val) (as' bs : Arms) → K.operation (case v as') → K.operation (case v bs)
  pub blocks : (b c : Code) → K.operation (nested b) → K.operation (nested c)
  pub calls : (f : ProcId) (ws vs : List W.Word) → K.operation (leaf (call f ws))
      → K.operation (leaf (call f vs))
  pub words : (a : W.Word) (i : ℕ) → K.operation (leaf (fetch_word a i))
  pub units : (a : W.Word) → K.operation (leaf (unit (One a)))
  pub one : (x : VarId) → K.target (to.One x)
  pub word : (a : W.Word) → K.value (One a)

module _ (D : List Decisions) where
  module _ (K : PieceKind) (ok : Blind K) where
    abbrev Acts : Act → Type 0
    Acts = EachAct K

    abbrev Codes : Code → Type 0
    Codes = EachCode K

    fields_each : (a : W.Word) (n i k : ℕ) (c : Code) → Codes c → Codes (field_fetches a n i k c)
    unfolding EachAct
    fields_each a n i zero c h = h
    fields_each a n i (suc k) c h =
        (ok.one _, ok.words a (suc i), fields_each a (suc n) (suc i) k c h)

    fetches_each : (n : ℕ) (ds : Decisions) (ws : List W.Word) (c : Code) → Codes c
        → Codes (fetches_for n ds ws c)
    fetches_each n [] ws c h = h
    fetches_each n (d ∷ ds) [] c h = h
    fetches_each n (d ∷ ds) (a ∷ ws) c h = fields_each a n 0 (new_variables_of d)
        (fetches_for (n + new_variables_of d) ds ws c)
        (fetches_each (n + new_variables_of d) ds ws c h)

    before_each : (n : ℕ) (o : Act) (c : Code) → Codes c → Codes (fetches_before D n o c)
    before_each n (leaf (call f ws)) c h = fetches_each n (decisions_at D f.0) ws c h
    before_each n o c h = h

    fetched_each : (N : ℕ → Option Raising) (a : W.Word) (i : ℕ) → Acts (fetched N a i)
    unfolding EachAct
    fetched_each N (Lit k) i = ok.words (Lit k) i
    fetched_each N (Global j) i = ok.words (Global j) i
    fetched_each N (TagWord t) i = ok.words (TagWord t) i
    fetched_each N (Var x) i = go (N x.0)
      where
        go : (o : Option Raising) → Acts (raised_fetch_of o (Var x) i)
        go None = ok.words (Var x) i
        go (Some r) = (ok.units _, ok.word _)

    module _ (N : ℕ → Option Raising) where
      mutual
        unfolding raised_act EachAct new_act

        act_each : (o : Act) (n : ℕ) → Acts o → Acts (raised_act D N n o)
        act_each (case v as') n h =
            (ok.cases v as' (raised_arms D N n as') h.0, h.1, arms_each as' n h.2)
        act_each (nested b) n h = (ok.blocks b (raised_code D N n b) h.0, code_each b n h.1)
        act_each (leaf (fetch_word a i)) n h = fetched_each N a i
        act_each (leaf (call f ws)) n h = ok.calls f ws _ h
        act_each (leaf (unit v)) n h = h
        act_each (leaf (fetch a)) n h = h
        act_each (leaf (update a v)) n h = h
        act_each (leaf (eval a)) n h = h
        act_each (leaf (apply v a)) n h = h
        act_each (leaf (prim f a b)) n h = h
        act_each (leaf read) n h = h
        act_each (leaf (write a)) n h = h
        act_each (leaf fail) n h = h

        code_each : (b : Code) (n : ℕ) → Codes b → Codes (raised_code D N n b)
        code_each (end o) n h = before_each n o (end (raised_act D N n o)) (act_each o n h)
        code_each (store cs b) n h = (h.0, code_each b n h.1)
        code_each (bind t o b) n h = before_each n o
            (bind t (raised_act D N n o) (raised_code D N (n + (new_before D o + new_act D o)) b))
            (h.0, act_each o n h.1, code_each b (n + (new_before D o + new_act D o)) h.2)

        arms_each : (as' : Arms) (n : ℕ) → EachArms K as' → EachArms K (raised_arms D N n as')
        arms_each no_arm n h = tt
        arms_each (arm s b as') n h = (h.0, code_each b n h.1, arms_each as' (n + new_code D b) h.2)

    pub procs_each : (dss : List Decisions) (qs : List Procedure) (n : ℕ)
        → AllOf (λ q. Codes q.body) qs → AllOf (λ q. Codes q.body) (raised_procs D n dss qs)
    procs_each [] qs n h = h
    procs_each (ds ∷ dss) [] n h = tt
    procs_each (ds ∷ dss) (q ∷ qs) n h = (
      code_each (decided ds q.params) q.body n h.0,
      procs_each dss qs (n + new_code D q.body) h.1,
    )

  pub procs_inlined : (dss : List Decisions) (qs : List Procedure) (n : ℕ)
      → EveryBodyIsOfKind inlined_kind qs → EveryBodyIsOfKind inlined_kind (raised_procs D n dss qs)
  procs_inlined = procs_each inlined_kind
      (record {
        cases = λ v as' bs h. tt;
        blocks = λ b c h. tt;
        calls = λ f ws vs h. tt;
        words
            = λ a i. tt;
        units = λ a. tt;
        one = λ x. tt;
        word = λ a. tt;
      })

  pub procs_vectorised : (dss : List Decisions) (qs : List Procedure) (n : ℕ)
      → EveryBodyIsOfKind vectorised_kind qs
      → EveryBodyIsOfKind vectorised_kind (raised_procs D n dss qs)
  procs_vectorised = procs_each vectorised_kind
      (record {
        cases = λ v as' bs h. tt;
        blocks = λ b c h. tt;
        calls = λ f ws vs h. tt;
        words
            = λ a i. tt;
        units = λ a. tt;
        one = λ x. tt;
        word = λ a. tt;
      })

  pub procs_by_words : (dss : List Decisions) (qs : List Procedure) (n : ℕ)
      → EveryBodyIsOfKind without_node_fetches qs → EveryBodyIsOfKind without_node_fetches
      (raised_procs D n dss qs)
  procs_by_words = procs_each without_node_fetches
      (record {
        cases = λ v as' bs h. tt;
        blocks = λ b c h. tt;
        calls = λ f ws vs h. tt;
        words
            = λ a i. tt;
        units = λ a. tt;
        one = λ x. tt;
        word = λ a. tt;
      })

  pub procs_narrow : (most : ℕ) → 1 ≤ most → (dss : List Decisions) (qs : List Procedure) (n : ℕ)
      → EveryBodyIsOfKind (narrow_kind most) qs
      → EveryBodyIsOfKind (narrow_kind most) (raised_procs D n dss qs)
  procs_narrow most le = procs_each (narrow_kind most)
      (record {
        cases = λ v as' bs h. tt;
        blocks = λ b c h. tt;
        calls = λ f ws vs h. tt;
        words
            = λ a i. tt;
        units = λ a. tt;
        one = λ x. le;
        word = λ a. tt;
      })

  -- ---- how many words are given

  module _ (width most : ℕ) (one : 1 ≤ most) where
    fields_give : (a : W.Word) (n i k : ℕ) (c : Code) → NarrowCode width most c
        → NarrowCode width most (field_fetches a n i k c)
    unfolding NarrowAct
    fields_give a n i zero c h = h
    fields_give a n i (suc k) c h = fields_give a (suc n) (suc i) k c h

    fetches_give : (n : ℕ) (ds : Decisions) (ws : List W.Word) (c : Code) → NarrowCode width most c
        → NarrowCode width most (fetches_for n ds ws c)
    fetches_give n [] ws c h = h
    fetches_give n (d ∷ ds) [] c h = h
    fetches_give n (d ∷ ds) (a ∷ ws) c h = fields_give a n 0 (new_variables_of d)
        (fetches_for (n + new_variables_of d) ds ws c)
        (fetches_give (n + new_variables_of d) ds ws c h)

    before_give : (n : ℕ) (o : Act) (c : Code) → NarrowCode width most c
        → NarrowCode width most (fetches_before D n o c)
    before_give n (leaf (call f ws)) c h = fetches_give n (decisions_at D f.0) ws c h
    before_give n o c h = h

    fetched_gives : (N : ℕ → Option Raising) (a : W.Word) (i : ℕ)
        → NarrowAct width most (fetched N a i)
    unfolding NarrowAct
    fetched_gives N (Lit k) i = tt
    fetched_gives N (Global j) i = tt
    fetched_gives N (TagWord t) i = tt
    fetched_gives N (Var x) i = go (N x.0)
      where
        go : (o : Option Raising) → NarrowAct width most (raised_fetch_of o (Var x) i)
        go None = tt
        go (Some r) = one

    module _ (N : ℕ → Option Raising) where
      mutual
        unfolding raised_act NarrowAct new_act

        act_gives : (o : Act) (n : ℕ) → NarrowAct width most o
            → NarrowAct width most (raised_act D N n o)
        act_gives (case v as') n h = arms_give as' n h
        act_gives (nested b) n h = code_gives b n h
        act_gives (leaf (fetch_word a i)) n h = fetched_gives N a i
        act_gives (leaf (unit v)) n h = h
        act_gives (leaf (fetch a)) n h = h
        act_gives (leaf (update a v)) n h = h
        act_gives (leaf (eval a)) n h = h
        act_gives (leaf (apply v a)) n h = h
        act_gives (leaf (call f ws)) n h = tt
        act_gives (leaf (prim f a b)) n h = h
        act_gives (leaf read) n h = h
        act_gives (leaf (write a)) n h = h
        act_gives (leaf fail) n h = h

        code_gives : (b : Code) (n : ℕ) → NarrowCode width most b
            → NarrowCode width most (raised_code D N n b)
        code_gives (end o) n h = before_give n o (end (raised_act D N n o)) (act_gives o n h)
        code_gives (store cs b) n h = code_gives b n h
        code_gives (bind t o b) n h = before_give n o
            (bind t (raised_act D N n o) (raised_code D N (n + (new_before D o + new_act D o)) b))
            (code_gives b (n + (new_before D o + new_act D o)) h)

        arms_give : (as' : Arms) (n : ℕ) → NarrowArms width most as'
            → NarrowArms width most (raised_arms D N n as')
        arms_give no_arm n h = tt
        arms_give (arm s b as') n h = (code_gives b n h.0, arms_give as' (n + new_code D b) h.1)

    pub procs_give : (dss : List Decisions) (qs : List Procedure) (n : ℕ)
        → AllOf (λ q. NarrowCode width most q.body) qs
        → AllOf (λ q. NarrowCode width most q.body) (raised_procs D n dss qs)
    procs_give [] qs n h = h
    procs_give (ds ∷ dss) [] n h = tt
    procs_give (ds ∷ dss) (q ∷ qs) n h = (
      code_gives (decided ds q.params) q.body n h.0,
      procs_give dss qs (n + new_code D q.body) h.1,
    )

  -- ---- sites and names

  fields_sites : (a : W.Word) (n i k : ℕ) (c : Code)
      → code_sites (field_fetches a n i k c) ≡ code_sites c
  unfolding act_sites
  fields_sites a n i zero c = refl
  fields_sites a n i (suc k) c = fields_sites a (suc n) (suc i) k c

  fetches_sites : (n : ℕ) (ds : Decisions) (ws : List W.Word) (c : Code)
      → code_sites (fetches_for n ds ws c) ≡ code_sites c
  fetches_sites n [] ws c = refl
  fetches_sites n (d ∷ ds) [] c = refl
  fetches_sites n (d ∷ ds) (a ∷ ws) c = fields_sites a n 0 (new_variables_of d)
      (fetches_for (n + new_variables_of d) ds ws c) ∙ fetches_sites (n + new_variables_of d) ds ws
      c

  before_sites : (n : ℕ) (o : Act) (c : Code) → code_sites (fetches_before D n o c) ≡ code_sites c
  before_sites n (leaf (call f ws)) c = fetches_sites n (decisions_at D f.0) ws c
  before_sites n o c = refl

  fetched_sites : (N : ℕ → Option Raising) (a : W.Word) (i : ℕ) → act_sites (fetched N a i) ≡ []
  unfolding act_sites
  fetched_sites N (Lit k) i = refl
  fetched_sites N (Global j) i = refl
  fetched_sites N (TagWord t) i = refl
  fetched_sites N (Var x) i = go (N x.0)
    where
      go : (o : Option Raising) → act_sites (raised_fetch_of o (Var x) i) ≡ []
      go None = refl
      go (Some r) = refl

  module _ (N : ℕ → Option Raising) where
    mutual
      unfolding raised_act act_sites new_act

      act_sites_stay : (o : Act) (n : ℕ) → act_sites (raised_act D N n o) ≡ act_sites o
      act_sites_stay (case v as') n = arms_sites_stay as' n
      act_sites_stay (nested b) n = code_sites_stay b n
      act_sites_stay (leaf (fetch_word a i)) n = fetched_sites N a i
      act_sites_stay o n = refl

      code_sites_stay : (b : Code) (n : ℕ) → code_sites (raised_code D N n b) ≡ code_sites b
      code_sites_stay (end o) n = before_sites n o (end (raised_act D N n o)) ∙ act_sites_stay o n
      code_sites_stay (store cs b) n = ap (λ l. map (λ c. c.site.0) cs ++ l) (code_sites_stay b n)
      code_sites_stay (bind t o b) n = before_sites n o
          (bind t (raised_act D N n o) (raised_code D N (n + (new_before D o + new_act D o)) b))
          ∙ (λ i. act_sites_stay o n i ++ code_sites_stay b (n + (new_before D o + new_act D o)) i)

      arms_sites_stay : (as' : Arms) (n : ℕ) → arms_sites (raised_arms D N n as') ≡ arms_sites as'
      arms_sites_stay no_arm n = refl
      arms_sites_stay (arm s b as') n = λ i. code_sites_stay b n i
          ++ arms_sites_stay as' (n + new_code D b) i

  pub sites_stay : (dss : List Decisions) (qs : List Procedure) (n : ℕ)
      → procs_sites (raised_procs D n dss qs) ≡ procs_sites qs
  sites_stay [] qs n = refl
  sites_stay (ds ∷ dss) [] n = refl
  sites_stay (ds ∷ dss) (q ∷ qs) n = λ i. code_sites_stay (decided ds q.params) q.body n i
      ++ sites_stay dss qs (n + new_code D q.body) i

  pub names_stay : (dss : List Decisions) (qs : List Procedure) (n : ℕ)
      → names_of (raised_procs D n dss qs) ≡ names_of qs
  names_stay [] qs n = refl
  names_stay (ds ∷ dss) [] n = refl
  names_stay (ds ∷ dss) (q ∷ qs) n = ap (λ l. q.name ∷ l)
      (names_stay dss qs (n + new_code D q.body))

  pub as_many : (dss : List Decisions) (qs : List Procedure) (n : ℕ)
      → length (raised_procs D n dss qs) ≡ length qs
  as_many [] qs n = refl
  as_many (ds ∷ dss) [] n = refl
  as_many (ds ∷ dss) (q ∷ qs) n = ap suc (as_many dss qs (n + new_code D q.body))

  -- ---- updates

  module _ (count : V.Val → ℕ) where
    fields_sum : (a : W.Word) (n i k : ℕ) (c : Code)
        → code_update_sum count (field_fetches a n i k c) ≡ code_update_sum count c
    unfolding act_update_sum
    fields_sum a n i zero c = refl
    fields_sum a n i (suc k) c = let h : code_update_sum count (field_fetches a (suc n) (suc i) k c)
        ≡ code_update_sum count c = fields_sum a (suc n) (suc i) k c in omega (arith, h)

    fetches_sum : (n : ℕ) (ds : Decisions) (ws : List W.Word) (c : Code)
        → code_update_sum count (fetches_for n ds ws c) ≡ code_update_sum count c
    fetches_sum n [] ws c = refl
    fetches_sum n (d ∷ ds) [] c = refl
    fetches_sum n (d ∷ ds) (a ∷ ws) c = fields_sum a n 0 (new_variables_of d)
        (fetches_for (n + new_variables_of d) ds ws c) ∙ fetches_sum (n + new_variables_of d) ds ws
        c

    before_sum : (n : ℕ) (o : Act) (c : Code) → code_update_sum count (fetches_before D n o c) ≡
        code_update_sum count c
    before_sum n (leaf (call f ws)) c = fetches_sum n (decisions_at D f.0) ws c
    before_sum n o c = refl

    fetched_sum : (N : ℕ → Option Raising) (a : W.Word) (i : ℕ)
        → act_update_sum count (fetched N a i) ≡ 0
    unfolding act_update_sum
    fetched_sum N (Lit k) i = refl
    fetched_sum N (Global j) i = refl
    fetched_sum N (TagWord t) i = refl
    fetched_sum N (Var x) i = go (N x.0)
      where
        go : (o : Option Raising) → act_update_sum count (raised_fetch_of o (Var x) i) ≡ 0
        go None = refl
        go (Some r) = refl

    module _ (N : ℕ → Option Raising) where
      mutual
        unfolding raised_act act_update_sum new_act

        act_sum_stays : (o : Act) (n : ℕ) → act_update_sum count (raised_act D N n o) ≡
            act_update_sum count o
        act_sum_stays (case v as') n = arms_sum_stays as' n
        act_sum_stays (nested b) n = code_sum_stays b n
        act_sum_stays (leaf (fetch_word a i)) n = fetched_sum N a i
        act_sum_stays o n = refl

        code_sum_stays : (b : Code) (n : ℕ) → code_update_sum count (raised_code D N n b) ≡
            code_update_sum count b
        code_sum_stays (end o) n = before_sum n o (end (raised_act D N n o)) ∙ act_sum_stays o n
        code_sum_stays (store cs b) n = code_sum_stays b n
        code_sum_stays (bind t o b) n = before_sum n o
            (bind t (raised_act D N n o) (raised_code D N (n + (new_before D o + new_act D o)) b))
            ∙ (λ i. act_sum_stays o n i + code_sum_stays b (n + (new_before D o + new_act D o)) i)

        arms_sum_stays : (as' : Arms) (n : ℕ) → arms_update_sum count (raised_arms D N n as') ≡
            arms_update_sum count as'
        arms_sum_stays no_arm n = refl
        arms_sum_stays (arm s b as') n = λ i. code_sum_stays b n i + arms_sum_stays as'
            (n + new_code D b) i

    pub sums_stay : (dss : List Decisions) (qs : List Procedure) (n : ℕ)
        → procs_update_sum count (raised_procs D n dss qs) ≡ procs_update_sum count qs
    sums_stay [] qs n = refl
    sums_stay (ds ∷ dss) [] n = refl
    sums_stay (ds ∷ dss) (q ∷ qs) n = λ i. code_sum_stays (decided ds q.params) q.body n i +
        sums_stay dss qs (n + new_code D q.body) i
