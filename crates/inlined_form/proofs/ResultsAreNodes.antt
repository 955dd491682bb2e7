-- Runs of a program of which the text tells that its results are evaluated nodes: each result is
-- one.
use Rattle.std.proofs.Common.{◌≡◌, ℕ, zero, suc, Bool, true, false, cond, List, [], ◌∷◌, map, length, Option, Some, None, slice_get, slice_set, refl, sym, ap, ◌∙◌, subst, arith}
use Rattle.std.specs.Prelude.{IfSome, nat_eq}
use Rattle.std.proofs.lemmas.Bool.Decides.{nat_tests}
use Rattle.seq.proofs.Lists.{all_append}
use Rattle.numbers.specs.Numbers.{same_number}
use Rattle.grin_syntax.specs.declared.program.VarId.{VarId}
use Rattle.grin_syntax.specs.declared.program.PrimOp.{PrimOp}
use Rattle.grin_syntax.specs.declared.program.Cell.{Cell}
use Rattle.grin_syntax.specs.declared.program.GlobalCell.{GlobalCell}
use Rattle.grin_syntax.specs.declared.program.Shape.{Shape}
use Rattle.grin_syntax.specs.declared.program.Shape.TheVariants as shape
use Rattle.grin_syntax.specs.declared.program.Target.{Target}
use Rattle.grin_syntax.specs.declared.program.Target.TheVariants as to
use Rattle.grin_syntax.specs.declared.program.Word as W
use Rattle.grin_syntax.specs.declared.program.Word.TheVariants.{Lit, Var, Global, TagWord}
use Rattle.grin_syntax.specs.declared.program.Val as V
use Rattle.grin_syntax.specs.declared.program.Val.TheVariants.{NodeVar, Node as NodeVal, Vector, One}
use Rattle.grin_syntax.specs.Tree.{Code, end, store, bind, Act, leaf, unit, fetch, fetch_word, update, eval, apply, call, prim, read, write, case, nested, fail, Arms, no_arm, arm, Program}
use Rattle.grin_syntax.specs.Formed.{AllOf}
use Rattle.grin_meaning.specs.Values.{Datum, number, tag, cell, Node, Value, node, words, Env, HeapCell, World, Answer, gives, stops, then_do, need, and_then, Binding, with_vars, one_each, MatchOutcome, fits, fits_not, unclear, fit_of, fits_if, fields_fit, node_fit, number_fit, only_word, fields_of, made_node, as_node, word_of, words_of, value_of, node_of, bindings_of}
use Rattle.grin_meaning.specs.Run.{Calls, act, code, arms, calls, choose, spend, spent, with_state_seen, places, cells_of, with_cells, place_of, number_of, apply_arithmetic, byte_or_end, after_read, start_world}
use Rattle.flow_system.proofs.Lying.{from_some, if_map, if_is}
use Rattle.inlined_form.proofs.Sorts.{Sort, anything, a_number, a_node, evaluated, Sorts, nothing_known, sorted, vars_sorted, cells_sorted, target_sorted, sort_of, IsNode, TargetFits, IsNumber, WordsFit, KeptFits, ScrutineeFits, delayed, GivenFits, alternative_sorted, ActFits, CodeFits, ArmsFit, ProcedureFits}
use Rattle.grin_meaning.proofs.Fullness.{if_and}

-- ---- lists

pub all_get : {A : Type 0} (P : A → Type 0) (xs : List A) → AllOf P xs → (i : ℕ)
    → IfSome (slice_get xs i) P
all_get P [] all i = tt
all_get P (x ∷ xs) all zero = all.0
all_get P (x ∷ xs) all (suc i) = all_get P xs all.1 i

all_set : {A : Type 0} (P : A → Type 0) (xs : List A) → AllOf P xs → (i : ℕ) (y : A) → P y
    → AllOf P (slice_set xs i y)
all_set P [] all i y py = tt
all_set P (x ∷ xs) all zero y py = (py, all.1)
all_set P (x ∷ xs) all (suc i) y py = (all.0, all_set P xs all.1 i y py)

-- ---- values and states

abbrev pub OneNumber : List Datum → Type 0
OneNumber (number k ∷ []) = Unit {0}
OneNumber _ = ⊥

-- a node with tag 0 has one field, a number
abbrev pub PlainNode : Node → Type 0
PlainNode n = n.tag ≡ 0 → OneNumber n.fields

abbrev pub PlainCell : HeapCell → Type 0
PlainCell c = PlainNode c.node

-- the values of a sort
abbrev pub HasSort : Program → Sort → Value → Type 0
HasSort p anything v = Unit {0}
HasSort p a_number (words ds) = OneNumber ds
HasSort p a_number (node n) = ⊥
HasSort p a_node (node n) = PlainNode n
HasSort p a_node (words ds) = ⊥
HasSort p evaluated (node n) = PlainNode n × (delayed p.tags n.tag ≡ false)
HasSort p evaluated (words ds) = ⊥

not_zero : (t : ℕ) → suc t ≡ 0 → ⊥
not_zero t e = cc

module _ (p : Program) where
  pub record Fine (w : World) : Type 0 where
    pub plain : AllOf PlainCell w.cells

  -- each variable's value has its sort
  abbrev pub Fits : Sorts → Env → Type 0
  Fits Γ env = (x : ℕ) → IfSome (env x) (HasSort p (Γ x))

  one_more : (Γ : Sorts) (env : Env) (x : ℕ) (s : Sort) (v : Value) → Fits Γ env → HasSort p s v
      → Fits (sorted x s Γ) (λ y. cond (nat_eq y x) (Some v) (env y))
  one_more Γ env x s v f h y = on (nat_eq y x)
    where
      on : (b : Bool) → IfSome (cond b (Some v) (env y)) (HasSort p (cond b s (Γ y)))
      on true = h
      on false = f y

  -- of a variable more is known
  better : (Γ : Sorts) (env : Env) (x : ℕ) (s : Sort) (v : Value) → env x ≡ Some v → HasSort p s v
      → Fits Γ env → Fits (sorted x s Γ) env
  better Γ env x s v e h f y = on (nat_eq y x) refl
    where
      on : (b : Bool) → nat_eq y x ≡ b → IfSome (env y) (HasSort p (cond b s (Γ y)))
      on true q = let r : y ≡ x = grind (arith, nat_tests) in rw (r, e) h
      on false q = f y

  pub words_more : (xs : List VarId) (ds : List Datum) (Γ : Sorts) (env : Env) → Fits Γ env
      → IfSome (one_each xs ds) (λ bs. Fits (vars_sorted xs Γ) (with_vars bs env))
  words_more [] [] Γ env f = f
  words_more [] (d ∷ ds) Γ env f = tt
  words_more (x ∷ xs) [] Γ env f = tt
  words_more (x ∷ xs) (d ∷ ds) Γ env f =
      let Γ' = sorted x.0 anything Γ in
      let env' : Env = λ y. cond (nat_eq y x.0) (Some (words (d ∷ []))) (env y) in
      if_and (λ bs. Fits (vars_sorted xs Γ') (with_vars bs env'))
      (λ bs. Fits (vars_sorted xs Γ') (with_vars bs env)) (one_each xs ds) _
      (words_more xs ds Γ' env' (one_more Γ env x.0 anything (words (d ∷ [])) f tt)) (λ bs b. b)

  pub places_more : (cs : List Cell) (a : ℕ) (Γ : Sorts) (env : Env) → Fits Γ env
      → Fits (cells_sorted cs Γ) (with_vars (places a cs) env)
  places_more [] a Γ env f = f
  places_more (c ∷ cs) a Γ env f = places_more cs (suc a) (sorted c.var.0 anything Γ)
      (λ y. cond (nat_eq y c.var.0) (Some (words (cell a ∷ []))) (env y))
      (one_more Γ env c.var.0 anything (words (cell a ∷ [])) f tt)

  number_there : (Γ : Sorts) (env : Env) → Fits Γ env → (a : W.Word) → IsNumber Γ a
      → IfSome (word_of p env a) (λ d. OneNumber (d ∷ []))
  number_there Γ env f (Lit k) h = tt
  number_there Γ env f (Var x) h = if_and (HasSort p a_number) (λ d. OneNumber (d ∷ [])) (env x.0)
      only_word (subst (λ s. IfSome (env x.0) (HasSort p s)) h (f x.0)) only
    where
      only : (v : Value) → HasSort p a_number v → IfSome (only_word v) (λ d. OneNumber (d ∷ []))
      only (words (number k ∷ [])) h = tt
      only (words []) h = tt
      only (words (d ∷ (d' ∷ ds))) h = tt
      only (words (tag t ∷ [])) h = h
      only (words (cell a ∷ [])) h = h
      only (node n) h = tt
  number_there Γ env f (Global i) h = absurd h
  number_there Γ env f (TagWord t) h = absurd h

  words_plain : (Γ : Sorts) (env : Env) → Fits Γ env → (t : ℕ) (ws : List W.Word) → WordsFit Γ t ws
      → IfSome (words_of p env ws) (λ ds. PlainNode (record { tag = t; fields = ds }))
  words_plain Γ env f (suc t) ws h = if_is (λ ds. PlainNode (record { tag = suc t; fields = ds }))
      (words_of p env ws) (λ ds e z. absurd (not_zero t z))
  words_plain Γ env f zero [] h = absurd h
  words_plain Γ env f zero (a ∷ []) h = if_and (λ d. OneNumber (d ∷ []))
      (λ ds. PlainNode (record { tag = 0; fields = ds })) (word_of p env a) _
      (number_there Γ env f a h) (λ d o z. o)
  words_plain Γ env f zero (a ∷ (b ∷ ws)) h = absurd h

  made_there : (t : ℕ) (ds : List Datum) (P : Node → Type 0) → P (record { tag = t; fields = ds })
      → IfSome (made_node p t ds) P
  made_there t ds P h = if_and (λ k. Unit {0}) P (fields_of p t) _
      (if_is (λ k. Unit {0}) (fields_of p t) (λ k e. tt)) (λ k u. on (nat_eq k (length ds)))
    where
      on : (b : Bool) → IfSome (cond b (Some (record { tag = t; fields = ds })) None) P
      on true = h
      on false = tt

  node_there : (Γ : Sorts) (env : Env) → Fits Γ env → (t : ℕ) (ws : List W.Word) → WordsFit Γ t ws
      → (P : Node → Type 0) →
      ((ds : List Datum) → PlainNode (record { tag = t; fields = ds })
      → P (record { tag = t; fields = ds }))
      → IfSome (and_then (words_of p env ws)
      (λ ds. and_then (made_node p t ds) (λ n. Some (node n))))
      (λ v. (n : Node) × (v ≡ node n) × P n)
  node_there Γ env f t ws h P g =
      if_and (λ ds. PlainNode (record { tag = t; fields = ds }))
      (λ v. (n : Node) × (v ≡ node n) × P n) (words_of p env ws) _ (words_plain Γ env f t ws h)
      (λ ds pl. if_and P (λ v. (n : Node) × (v ≡ node n) × P n) (made_node p t ds) _
      (made_there t ds P (g ds pl)) (λ n pn. (n, refl, pn)))

  node_plain : (s : Sort) (v : Value) → IsNode s → HasSort p s v → (n : Node) × (v ≡ node n)
      × PlainNode n
  node_plain a_node (node n) i h = (n, refl, h)
  node_plain a_node (words ds) i h = absurd h
  node_plain evaluated (node n) i h = (n, refl, h.0)
  node_plain evaluated (words ds) i h = absurd h
  node_plain anything v i h = absurd i
  node_plain a_number v i h = absurd i

  as_plain : (v : Value) → ((n : Node) × (v ≡ node n) × PlainNode n)
      → IfSome (as_node p v) PlainNode
  as_plain v h = subst (λ v. IfSome (as_node p v) PlainNode) (sym h.1) h.2

  -- what is kept in a cell is plain
  kept : (Γ : Sorts) (env : Env) → Fits Γ env → (v : V.Val) → KeptFits Γ v
      → IfSome (node_of p env v) PlainNode
  kept Γ env f (NodeVar x) h = if_and (HasSort p (Γ x.0)) PlainNode (env x.0) (as_node p) (f x.0)
      (λ v s. as_plain v (node_plain (Γ x.0) v h s))
  kept Γ env f (NodeVal t ws) h = if_and (λ v. (n : Node) × (v ≡ node n) × PlainNode n) PlainNode
      (value_of p env (NodeVal t ws)) (as_node p)
      (node_there Γ env f t.0 ws h PlainNode (λ ds pl. pl)) as_plain
  kept Γ env f (Vector ws) h = absurd h
  kept Γ env f (One a) h = absurd h

  pub all_kept : (Γ : Sorts) (env : Env) → Fits Γ env → (cs : List Cell)
      → AllOf (λ c. KeptFits Γ c.val) cs → IfSome (cells_of p env cs) (AllOf PlainCell)
  all_kept Γ env f [] h = tt
  all_kept Γ env f (c ∷ cs) h = if_and PlainCell (AllOf PlainCell)
      (and_then (node_of p env c.val) (λ n. Some (record { site = c.site.0; node = n }))) _
      (if_and PlainNode PlainCell (node_of p env c.val) _ (kept Γ env f c.val h.0) (λ n pl. pl))
      (λ x px. if_and (AllOf PlainCell) (AllOf PlainCell) (cells_of p env cs) _
      (all_kept Γ env f cs h.1) (λ hs all. (px, all)))

  -- what is given is evaluated
  given_there : (Γ : Sorts) (env : Env) → Fits Γ env → (v : V.Val) → GivenFits p.tags Γ v
      → IfSome (value_of p env v) (HasSort p evaluated)
  given_there Γ env f (NodeVar x) h = subst (λ s. IfSome (env x.0) (HasSort p s)) h (f x.0)
  given_there Γ env f (NodeVal t ws) h = if_map _ (HasSort p evaluated)
      (value_of p env (NodeVal t ws))
      (node_there Γ env f t.0 ws h.1 (λ n. PlainNode n × (delayed p.tags n.tag ≡ false))
      (λ ds pl. (pl, h.0)))
      (λ v q. subst (HasSort p evaluated) (sym q.1) q.2)
  given_there Γ env f (Vector ws) h = absurd h
  given_there Γ env f (One a) h = absurd h

  -- ---- answers

  -- a value that is given has the sort, and the world is fine
  abbrev pub GivesSort : Sort → Answer → Type 0
  GivesSort s (gives v w) = Fine w × HasSort p s v
  GivesSort s (stops r w) = Unit {0}

  need_goes : {B : Type 0} (P : B → Type 0) (s : Sort) (w : World) (o : Option B) (k : B → Answer)
      → IfSome o P → ((x : B) → P x → GivesSort s (k x)) → GivesSort s (need o w k)
  need_goes P s w None k h f = tt
  need_goes P s w (Some x) k h f = f x h

  need_is : {B : Type 0} (s : Sort) (w : World) (o : Option B) (k : B → Answer)
      → ((x : B) → o ≡ Some x → GivesSort s (k x)) → GivesSort s (need o w k)
  need_is s w o k f = need_goes (λ x. o ≡ Some x) s w o k (if_is (λ x. o ≡ Some x) o (λ a e. e)) f

  then_goes : (s s' : Sort) (a : Answer) (k : Value → World → Answer) → GivesSort s a
      → ((v : Value) (w : World) → Fine w → HasSort p s v → GivesSort s' (k v w))
      → GivesSort s' (then_do a k)
  then_goes s s' (gives v w) k g f = f v w g.0 g.1
  then_goes s s' (stops r w) k g f = tt

  spend_goes : (s : Sort) (left : ℕ) (w : World) (k : ℕ → Answer) → ((m : ℕ) → GivesSort s (k m))
      → GivesSort s (spend left w k)
  spend_goes s zero w k f = tt
  spend_goes s (suc m) w k f = f m

  -- what a target binds
  pub target_more : (t : Target) (s : Sort) (Γ : Sorts) (env : Env) (v : Value) → TargetFits t s
      → Fits Γ env → HasSort p s v → IfSome (bindings_of p t v)
      (λ bs. Fits (target_sorted t s Γ) (with_vars bs env))
  target_more to.Nothing s Γ env (words []) h f hv = f
  target_more to.Nothing s Γ env (words (d ∷ ds)) h f hv = tt
  target_more to.Nothing s Γ env (node n) h f hv = tt
  target_more (to.Node x) s Γ env v h f hv = go (node_plain s v h hv)
    where
      go : ((n : Node) × (v ≡ node n) × PlainNode n)
          → IfSome (bindings_of p (to.Node x) v) (λ bs. Fits (sorted x.0 s Γ) (with_vars bs env))
      go q = let hn : HasSort p s (node q.0) = subst (HasSort p s) q.1 hv in
          subst (λ v. IfSome (bindings_of p (to.Node x) v)
          (λ bs. Fits (sorted x.0 s Γ) (with_vars bs env))) (sym q.1)
          (one_more Γ env x.0 s (node q.0) f hn)
  target_more (to.One x) s Γ env (words []) h f hv = tt
  target_more (to.One x) s Γ env (words (d ∷ [])) h f hv
      = one_more Γ env x.0 s (words (d ∷ [])) f hv
  target_more (to.One x) s Γ env (words (d ∷ (d' ∷ ds))) h f hv = tt
  target_more (to.One x) s Γ env (node n) h f hv = tt
  target_more (to.Vector xs) s Γ env v h f hv = absurd h

  -- a case is on a node variable, whose node is plain
  pub record IsOn (env : Env) (v : V.Val) (n : Node) : Type 0 where
    pub var : VarId
    pub is_var : v ≡ NodeVar var
    pub has : env var.0 ≡ Some (node n)
    pub plain : PlainNode n

  abbrev pub FitGoes : Sorts → Env → MatchOutcome → Type 0
  FitGoes Γ env (fits bs) = Fits Γ (with_vars bs env)
  FitGoes Γ env fits_not = Unit {0}
  FitGoes Γ env unclear = Unit {0}

  fields_goes : (Γ : Sorts) (env : Env) → Fits Γ env → (xs : List VarId) (ds : List Datum)
      → FitGoes (vars_sorted xs Γ) env (fields_fit xs ds)
  fields_goes Γ env f [] ds = f
  fields_goes Γ env f (x ∷ xs) ds = on (one_each (x ∷ xs) ds) (words_more (x ∷ xs) ds Γ env f)
    where
      on : (o : Option (List Binding)) → IfSome o
          (λ bs. Fits (vars_sorted (x ∷ xs) Γ) (with_vars bs env))
          → FitGoes (vars_sorted (x ∷ xs) Γ) env (fits_if o)
      on None h = tt
      on (Some bs) h = h

  -- what a pattern binds
  pub pattern_more : (s : Shape) (v : V.Val) (Γ : Sorts) (env : Env) (n : Node) → IsOn env v n
      → Fits Γ env → FitGoes (alternative_sorted p.tags s v Γ) env (fit_of p s (node n))
  pattern_more shape.Else v Γ env n on f = f
  pattern_more (shape.Int k) v Γ env n on f = by_tag (nat_eq n.tag 0) n.fields
    where
      by_test : (b : Bool) → FitGoes Γ env (cond b (fits []) fits_not)
      by_test true = f
      by_test false = tt

      by_number : (ds : List Datum) → FitGoes Γ env (number_fit k ds)
      by_number [] = tt
      by_number (number j ∷ ds) = by_test (same_number k j)
      by_number (tag t ∷ ds) = tt
      by_number (cell a ∷ ds) = tt

      by_tag : (b : Bool) (ds : List Datum) → FitGoes Γ env (cond b (number_fit k ds) fits_not)
      by_tag true ds = by_number ds
      by_tag false ds = tt
  pattern_more (shape.Node t xs) v Γ env n on f = subst
      (λ v. FitGoes (alternative_sorted p.tags (shape.Node t xs) v Γ) env
      (node_fit t.0 xs (Some n))) (sym on.is_var) (by_tag (nat_eq n.tag t.0) refl)
    where
      Γ' : Sorts
      Γ' = cond (delayed p.tags t.0) Γ (sorted on.var.0 evaluated Γ)

      known : (b : Bool) → delayed p.tags t.0 ≡ b → n.tag ≡ t.0
          → Fits (cond b Γ (sorted on.var.0 evaluated Γ)) env
      known true e same = f
      known false e same = better Γ env on.var.0 evaluated (node n) on.has
          (on.plain, ap (delayed p.tags) same ∙ e) f

      by_tag : (b : Bool) → nat_eq n.tag t.0 ≡ b → FitGoes (vars_sorted xs Γ') env
          (cond b (fields_fit xs n.fields) fits_not)
      by_tag true e = fields_goes Γ' env
          (known (delayed p.tags t.0) refl (grind (arith, nat_tests))) xs n.fields
      by_tag false e = tt

  choose_goes : (s : Sort) (Γ : Sorts) (env : Env) (f : MatchOutcome) (w : World)
      (k : List Binding → Answer) (other : Answer) → FitGoes Γ env f
      → ((bs : List Binding) → Fits Γ (with_vars bs env) → GivesSort s (k bs)) → GivesSort s other
      → GivesSort s (choose f w k other)
  choose_goes s Γ env (fits bs) w k other h f o = f bs h
  choose_goes s Γ env fits_not w k other h f o = o
  choose_goes s Γ env unclear w k other h f o = tt

  pub scrutinee : (Γ : Sorts) (env : Env) → Fits Γ env → (v : V.Val) → ScrutineeFits Γ v
      → IfSome (value_of p env v) (λ x. (n : Node) × (x ≡ node n) × IsOn env v n)
  scrutinee Γ env f (NodeVar x) h = if_is (λ v. (n : Node) × (v ≡ node n) × IsOn env (NodeVar x) n)
      (env x.0)
      (λ v e. on v e (node_plain (Γ x.0) v h (from_some (HasSort p (Γ x.0)) (env x.0) v (f x.0) e)))
    where
      on : (v : Value) → env x.0 ≡ Some v → ((n : Node) × (v ≡ node n) × PlainNode n) → (n : Node)
          × (v ≡ node n) × IsOn env (NodeVar x) n
      on v e q = (q.0, q.1, record { var = x; is_var = refl; has = e ∙ ap Some q.1; plain = q.2 })
  scrutinee Γ env f (NodeVal t ws) h = absurd h
  scrutinee Γ env f (Vector ws) h = absurd h
  scrutinee Γ env f (One a) h = absurd h

  calculated : (f : PrimOp) (x y : Datum) → IfSome (apply_arithmetic f x y) (HasSort p a_number)
  calculated f (number i) (number j) = tt
  calculated f (number i) (tag t) = tt
  calculated f (number i) (cell a) = tt
  calculated f (tag t) y = tt
  calculated f (cell a) y = tt

  reading_goes : (bs : List ℕ) (w : World) → Fine w
      → GivesSort a_number (gives (words (number (byte_or_end bs) ∷ [])) (after_read bs w))
  reading_goes [] w g = (g, tt)
  reading_goes (b ∷ bs) w g = (record { plain = g.plain }, tt)

  -- ---- operations, blocks and alternatives

  pub record CallsGo (c : Calls) : Type 0 where
    pub by : (f : ℕ) (xs : List Datum) (d : ℕ) (w : World) → Fine w
        → GivesSort evaluated (c f xs d w)

  module _ (c : Calls) (cg : CallsGo c) where
    mutual
      unfolding act ActFits

      pub act_goes : (o : Act) (Γ : Sorts) (env : Env) (d : ℕ) (w : World) → Fine w → Fits Γ env
          → ActFits p.tags ⊥ ⊥ Γ o → GivesSort (sort_of o) (act p c env d o w)
      act_goes (leaf (unit v)) Γ env d w g f h = need_goes (HasSort p evaluated) evaluated w
          (value_of p env v) _ (given_there Γ env f v h) (λ x l. (g, l))
      act_goes (leaf (fetch a)) Γ env d w g f h = need_is a_node w
          (and_then (word_of p env a) place_of) _
          (λ i _. need_goes PlainCell a_node w (slice_get w.cells i) _
          (all_get PlainCell w.cells g.plain i) (λ x l. (g, l)))
      act_goes (leaf (fetch_word a j)) Γ env d w g f h = absurd h
      act_goes (leaf (update a v)) Γ env d w g f h = need_is anything w
          (and_then (word_of p env a) place_of) _
          (λ i _. need_is anything w (slice_get w.cells i) _ (λ x _.
          need_goes PlainNode anything w (node_of p env v) _ (kept Γ env f v h)
          (λ n l. (
            record {
              plain = all_set PlainCell w.cells g.plain i (record { site = x.site; node = n })
                  l;
            },
            tt,
          ))))
      act_goes (leaf (eval a)) Γ env d w g f h = absurd h
      act_goes (leaf (apply v a)) Γ env d w g f h = absurd h.0
      act_goes (leaf (call q ws)) Γ env d w g f h = need_is evaluated w (words_of p env ws) _
          (λ xs _. cg.by q.0 xs d w g)
      act_goes (leaf (prim q a b)) Γ env d w g f h = need_is a_number w (word_of p env a) _
          (λ x _. need_is a_number w (word_of p env b) _
          (λ y _. need_goes (HasSort p a_number) a_number w (apply_arithmetic q x y) _
          (calculated q x y) (λ v l. (g, l))))
      act_goes (leaf read) Γ env d w g f h = reading_goes w.input w g
      act_goes (leaf (write a)) Γ env d w g f h = need_is anything w
          (and_then (word_of p env a) number_of) _ (λ k _. (record { plain = g.plain }, tt))
      act_goes (case v as') Γ env d w g f h = need_goes
          (λ x. (n : Node) × (x ≡ node n) × IsOn env v n) evaluated w (value_of p env v) _
          (scrutinee Γ env f v h.0)
          (λ x q. subst (λ x. GivesSort evaluated (arms p c env d x as' w)) (sym q.1)
          (arms_go as' Γ env v q.0 d w q.2 g f h.1))
      act_goes (nested b) Γ env d w g f h = code_goes b Γ env d w g f h
      act_goes (leaf fail) Γ env d w g f h = tt

      pub code_goes : (b : Code) (Γ : Sorts) (env : Env) (d : ℕ) (w : World) → Fine w → Fits Γ env
          → CodeFits p.tags ⊥ ⊥ Γ b → GivesSort evaluated (code p c env d b w)
      code_goes (end o) Γ env d w g f h = subst (λ s. GivesSort s (act p c env d o w)) h.0
          (act_goes o Γ env d w g f h.1)
      code_goes (store cs b) Γ env d w g f h =
          let env' = with_vars (places (length w.cells) cs) env in
          let f' : Fits (cells_sorted cs Γ) env' = places_more cs (length w.cells) Γ env f in
          need_goes (AllOf PlainCell) evaluated w (cells_of p env' cs) _
          (all_kept (cells_sorted cs Γ) env' f' cs h.0)
          (λ hs l. code_goes b (cells_sorted cs Γ) env' d (with_state_seen env' (with_cells hs w))
          (record { plain = all_append PlainCell w.cells hs g.plain l }) f' h.1)
      code_goes (bind t o b) Γ env d w g f h = then_goes (sort_of o) evaluated
          (act p c env (suc d) o w) _ (act_goes o Γ env (suc d) w g f h.1)
          (λ v w' g' hv. need_goes (λ bs. Fits (target_sorted t (sort_of o) Γ) (with_vars bs env))
          evaluated w' (bindings_of p t v) _ (target_more t (sort_of o) Γ env v h.0 f hv)
          (λ bs f'. code_goes b (target_sorted t (sort_of o) Γ) (with_vars bs env) d
          (with_state_seen (with_vars bs env) w') (record { plain = g'.plain }) f' h.2))

      pub arms_go : (as' : Arms) (Γ : Sorts) (env : Env) (v : V.Val) (n : Node) (d : ℕ) (w : World)
          → IsOn env v n → Fine w → Fits Γ env → ArmsFit p.tags ⊥ ⊥ Γ v as'
          → GivesSort evaluated (arms p c env d (node n) as' w)
      arms_go no_arm Γ env v n d w on g f h = tt
      arms_go (arm s b as') Γ env v n d w on g f h = choose_goes evaluated
          (alternative_sorted p.tags s v Γ) env (fit_of p s (node n)) w _ _
          (pattern_more s v Γ env n on f)
          (λ bs f'. code_goes b (alternative_sorted p.tags s v Γ) (with_vars bs env) d
          (with_state_seen (with_vars bs env) w) (record { plain = g.plain }) f' h.0)
          (arms_go as' Γ env v n d w on g f h.1)

  -- calls, by any number of units
  pub calls_go : AllOf (ProcedureFits p.tags ⊥ ⊥) p.procs → (n : ℕ) → CallsGo (calls p n)
  unfolding calls
  calls_go h zero = record { by = λ f xs d w g. tt }
  calls_go h (suc n) = record {
    by = λ f xs d w g. spend_goes evaluated w.left w _
        (λ left. need_goes (ProcedureFits p.tags ⊥ ⊥) evaluated w (slice_get p.procs f) _
        (all_get (ProcedureFits p.tags ⊥ ⊥) p.procs h f)
        (λ q hq. need_goes
        (λ bs. Fits (vars_sorted q.params nothing_known) (with_vars bs (λ y. None))) evaluated w
        (one_each q.params xs) _ (words_more q.params xs nothing_known (λ y. None) (λ y. tt))
        (λ bs f'. code_goes (calls p n) (calls_go h n) q.body (vars_sorted q.params nothing_known)
        (with_vars bs (λ y. None)) d
        (with_state_seen (with_vars bs (λ y. None)) (spent f d left w))
        (record { plain = g.plain }) f' hq)));
  }

  globals_plain : (cs : List GlobalCell) → AllOf (λ c. WordsFit nothing_known c.tag.0 []) cs
      → AllOf PlainCell
      (map (λ c. record { site = c.site.0; node = record { tag = c.tag.0; fields = [] } }) cs)
  globals_plain [] h = tt
  globals_plain (c ∷ cs) h = (one c.tag.0 h.0, globals_plain cs h.1)
    where
      one : (t : ℕ) → WordsFit nothing_known t [] → PlainNode (record { tag = t; fields = [] })
      one zero h = absurd h
      one (suc t) h = λ e. absurd (not_zero t e)

  pub start_fine : AllOf (λ c. WordsFit nothing_known c.tag.0 []) p.globals → (i : List ℕ) (n : ℕ)
      → Fine (start_world p i n)
  start_fine h i n = record { plain = globals_plain p.globals h }
