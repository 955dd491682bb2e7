-- Operations that become cases over the tags of a value.
use Rattle.std.proofs.Common.{◌≡◌, ℕ, ◌<◌, Bool, true, false, cond, ◌&&◌, nat_eq, List, [], ◌∷◌, ◌++◌, map, length, Option, Some, None, slice_get, refl, sym, ap, ◌∙◌, subst, inl, inr, arith}
use Rattle.std.specs.Prelude.{◌⊎◌}
use Rattle.std.proofs.lemmas.Bool.Decides.{nat_tests}
use Rattle.seq.specs.Lists.{In}
use Rattle.seq.proofs.Member.{none_in, cons_in}
use Rattle.grin_syntax.specs.declared.program.Alt.{Alt}
use Rattle.grin_syntax.specs.declared.program.Op.TheVariants.{Case}
use Rattle.grin_syntax.specs.declared.program.Target.{Target}
use Rattle.grin_syntax.specs.declared.program.Val.{Val}
use Rattle.grin_syntax.specs.declared.program.Val.TheVariants.{NodeVar, Node as Node', Vector, One}
use Rattle.grin_syntax.specs.declared.program.Word.{Word}
use Rattle.grin_syntax.specs.Tree.{end, arm, act_of, arm_of, arms_of, Leaf, leaf, update, apply, case, Procedure, Program}
use Rattle.grin_syntax.specs.Binders.{act_vars, arms_vars, act_sites, arms_sites}
use Rattle.grin_syntax.specs.Formed.{AllOf, Scope, ActFormed, ArmsFormed}
use Rattle.grin_syntax.proofs.TreeOf.{act_of-Case}
use Rattle.grin_meaning.specs.Values.{Node, Value, words, Env, State, World, Answer, gives, stops, need, and_then, with_vars, fits, fits_not, node_fit, as_node, word_of, words_of, value_of, node_of}
use Rattle.grin_meaning.specs.Run.{Calls, act_by, code_by, arms_by, require_if_checked, choose, with_state_seen, place_of, with_node}
use Rattle.grin_meaning.specs.Checks.{is_none_or, is_filled, fills, is_given, not_delayed, is_bound_well, is_node_target}
use Rattle.grin_meaning.specs.Follows.{Same}
use Rattle.grin_meaning.specs.Ready.{PieceKind, EachAct, EachArms, inlined_kind, without_node_fetches, vectorised_kind, NarrowAct, NarrowArms}
use Rattle.grin_meaning.proofs.Back.{CallsBack}
use Rattle.grin_meaning.proofs.Names.{Any, any_act, any_val}
use Rattle.grin_meaning.proofs.Beside.{beside, no_deeper, Sim, need_first}
use Rattle.grin_meaning.proofs.Rules.{Here, CallsFollow, Setting, h, ActFollows}
use Rattle.grin_meaning.proofs.Procedures.{side_by_side}
use Rattle.grin_meaning.proofs.Plain.{node_has, having, leaf_follows}
use Rattle.pass_ground.specs.OpenUpdates.{act_update_sum, arms_update_sum}
use Rattle.grin_rewrite.specs.Expanding.{Expansion, alternative, alternatives, expanded}
use Rattle.grin_rewrite.proofs.Text.{AddsNothing}
use Rattle.grin_rewrite.proofs.Sides.{looking, is_plain, All, Stands}

-- ---- the code's case over these tags

arms_are : (f : ℕ → Leaf) (ts : List ℕ) → arms_of (map (alternative f) ts) ≡ alternatives f ts
arms_are f [] = refl
arms_are f (t ∷ ts) = ap (arm (alternative f t).0 (alternative f t).1) (arms_are f ts)

pub case_over : (l : Leaf) (x : Expansion) (alts : List Alt)
    → map arm_of alts ≡ map (alternative x.each) x.tags
    → act_of (Case x.value alts) ≡ expanded l (Some x)
case_over l x alts e = act_of-Case x.value alts ∙ ap (λ as'. case x.value (arms_of as')) e ∙ ap
    (case x.value) (arms_are x.each x.tags)

-- ---- values and operations that do the same

module _ (p : Program) (env : Env) where
  -- words that stand for the same
  abbrev pub WordsAlike : List Word → List Word → Type 0
  WordsAlike [] [] = Unit {0}
  WordsAlike (a ∷ as') (b ∷ bs) = (word_of p env b ≡ word_of p env a) × WordsAlike as' bs
  WordsAlike _ _ = ⊥

  abbrev pub ValsAlike : Val → Val → Type 0
  ValsAlike (Vector ws) (Vector ws') = WordsAlike ws ws'
  ValsAlike (One a) (One b) = word_of p env b ≡ word_of p env a
  ValsAlike v v' = v' ≡ v

  pub words_alike : (ws : List Word) → WordsAlike ws ws
  words_alike [] = tt
  words_alike (a ∷ ws) = (refl, words_alike ws)

  same_words : (ws ws' : List Word) → WordsAlike ws ws' → words_of p env ws' ≡ words_of p env ws
  same_words [] [] h = refl
  same_words [] (b ∷ bs) h = absurd h
  same_words (a ∷ as') [] h = absurd h
  same_words (a ∷ as') (b ∷ bs) h = λ i. and_then (h.0 i)
      (λ d. and_then (same_words as' bs h.1 i) (λ ds. Some (d ∷ ds)))

  pub record Alike (v v' : Val) : Type 0 where
    pub value : value_of p env v' ≡ value_of p env v
    pub filled : fills p env v' ≡ fills p env v

  pub alike : (v v' : Val) → ValsAlike v v' → Alike v v'
  alike (Vector ws) (Vector ws') h = record {
    value = ap (λ o. and_then o (λ ds. Some (words ds))) (same_words ws ws' h);
    filled
        = ap (λ o. is_none_or o (is_filled p)) (same_words ws ws' h);
  }
  alike (One a) (One b) h = record
      { value = ap (λ o. and_then o (λ d. Some (words (d ∷ [])))) h; filled = refl }
  alike (Vector ws) (One b) h = cc
  alike (Vector ws) (NodeVar y) h = cc
  alike (Vector ws) (Node' t us) h = cc
  alike (One a) (Vector ws) h = cc
  alike (One a) (NodeVar y) h = cc
  alike (One a) (Node' t us) h = cc
  alike (NodeVar x) v' h = record { value = ap (value_of p env) h; filled = ap (fills p env) h }
  alike (Node' t us) v' h = record { value = ap (value_of p env) h; filled = ap (fills p env) h }

  pub update_alike : (c : Calls) (looks : Bool) (d : ℕ) (a : Word) (v v' : Val) (w : World)
      → Alike v v' → act_by p c looks env d (leaf (update a v')) w ≡ act_by p c looks env d
      (leaf (update a v)) w
  unfolding act_by
  update_alike c looks d a v v' w e = λ j. need (and_then (word_of p env a) place_of) w
      (λ i. need (slice_get w.cells i) w
      (λ y. need (and_then (e.value j) (as_node p)) w
      (λ n. require_if_checked looks (e.filled j) w (gives (words []) (with_node i n y w)))))

-- ---- operations that take a node

pub data TakesNode : Val → Leaf → Type 0 where
  by_update : {a : Word} {v : Val} → TakesNode v (update a v)
  by_apply : {a : Word} {v : Val} → TakesNode v (apply v a)

-- an update gives nothing
abbrev GivesNothing : Answer → Type 0
GivesNothing (gives v w) = v ≡ words []
GivesNothing (stops s w) = Unit {0}

need_nothing : {A : Type 0} (o : Option A) (w : World) (k : A → Answer)
    → ((a : A) → GivesNothing (k a)) → GivesNothing (need o w k)
need_nothing None w k f = tt
need_nothing (Some a) w k f = f a

looking_nothing : (looks b : Bool) (w : World) (a : Answer) → GivesNothing a
    → GivesNothing (require_if_checked looks b w a)
looking_nothing false b w a f = f
looking_nothing true true w a f = f
looking_nothing true false w a f = tt

pub update_given : (g : Program) (c : Calls) (looks : Bool) (env : Env) (d : ℕ) (a : Word) (v : Val)
    (w w' : World) (y : Value) → act_by g c looks env d (leaf (update a v)) w ≡ gives y w'
    → is_given g y ≡ true
unfolding act_by
update_given g c looks env d a v w w' y e = ap (is_given g)
    (subst GivesNothing e
    (need_nothing (and_then (word_of g env a) place_of) w _
    (λ i. need_nothing (slice_get w.cells i) w _
    (λ k. need_nothing (node_of g env v) w _
    (λ n. looking_nothing looks (fills g env v) w _ refl)))))

-- ---- the case comes to the operation of its tag

module _ (p : Program) (c : Calls) (looks : Bool) (env : Env) (d : ℕ) (f : ℕ → Leaf) (l : Leaf)
    (n : Node)
    (does : (w : World) → act_by p c looks env d (leaf (f n.tag)) w ≡ act_by p c looks env d
    (leaf l) w) where
  arms_come : (y : Value) (ts : List ℕ) (w : World) → as_node p y ≡ Some n → In n.tag ts
      → arms_by p c looks env d y (alternatives f ts) w ≡ act_by p c looks env d (leaf l)
      (with_state_seen env w)
  unfolding act_by
  arms_come y [] w e h = none_in h
  arms_come y (t ∷ ts) w e h = ap
      (λ o. choose (node_fit t [] o) w
      (λ bs. code_by p c looks (with_vars bs env) d (end (leaf (f t)))
      (with_state_seen (with_vars bs env) w)) (arms_by p c looks env d y (alternatives f ts) w)) e
      ∙ go (nat_eq n.tag t) refl (cons_in t ts h) (λ m. arms_come y ts w e m)
    where
      go : (b : Bool) → nat_eq n.tag t ≡ b → (n.tag ≡ t) ⊎ In n.tag ts
          → (In n.tag ts → arms_by p c looks env d y (alternatives f ts) w ≡ act_by p c looks env d
          (leaf l) (with_state_seen env w))
          → choose (cond b (fits []) fits_not) w
          (λ bs. code_by p c looks (with_vars bs env) d (end (leaf (f t)))
          (with_state_seen (with_vars bs env) w))
          (arms_by p c looks env d y (alternatives f ts) w) ≡ act_by p c looks env d (leaf l)
          (with_state_seen env w)
      go true r h later = let same : n.tag ≡ t = grind (arith, nat_tests)
          in subst (λ k. act_by p c looks env d (leaf (f k)) (with_state_seen env w) ≡ act_by p c
          looks env d (leaf l) (with_state_seen env w)) same (does (with_state_seen env w))
      go false r (inl s) later = let not : nat_eq n.tag t ≡ true = grind (arith, nat_tests) in cc
      go false r (inr m) later = later m

  case_comes : (v : Val) (ts : List ℕ) (w : World) → node_of p env v ≡ Some n → In n.tag ts
      → act_by p c looks env d (case v (alternatives f ts)) w ≡ act_by p c looks env d (leaf l)
      (with_state_seen env w)
  unfolding act_by
  case_comes v ts w q m = go (value_of p env v) refl q
    where
      go : (o : Option Value) → value_of p env v ≡ o → and_then o (as_node p) ≡ Some n
          → need o w (λ y. arms_by p c looks env d y (alternatives f ts) w) ≡ act_by p c looks env d
          (leaf l) (with_state_seen env w)
      go None r k = cc
      go (Some y) r k = arms_come y ts w k m

-- ---- what is asked of an operation that is expanded

-- P is known of all states of the program
pub record Expands (g : Program) (P : State → Type 0) (l : Leaf) (x : Expansion) : Type 0 where
  -- the operation takes the value as a node, and what it gives may be given by a block
  pub takes : TakesNode x.value l
  pub given : (c : Calls) (env : Env) (d : ℕ) (w w' : World) (y : Value)
      → act_by g c true env d (leaf l) w ≡ gives y w' → is_given g y ≡ true
  -- the node's tag is one of the tags, and the operation for it does the same
  pub listed : (s : State) → P s → (n : Node) → node_of g s.env x.value ≡ Some n → In n.tag x.tags
  pub does : (p : Program) (c : Calls) (env : Env) (d : ℕ) (w : World) (n : Node)
      → node_of p env x.value ≡ Some n → act_by p c true env d (leaf (x.each n.tag)) w ≡ act_by p c
      true env d (leaf l) w
  -- the text
  pub known : AllOf (λ t. t < length g.tags) x.tags
  pub formed : (scope : Scope) (t : ℕ) → t < length g.tags → ActFormed g scope (leaf l)
      → ActFormed g scope (leaf (x.each t))
  pub inlined : (t : ℕ) → EachAct inlined_kind (leaf (x.each t))
  pub by_words : (t : ℕ) → EachAct without_node_fetches (leaf (x.each t))
  pub vectorised : (t : ℕ) → EachAct vectorised_kind (leaf l)
      → EachAct vectorised_kind (leaf (x.each t))
  pub results : (width most t : ℕ) → NarrowAct width most (leaf (x.each t))

module _ (g : Program) (P : State → Type 0) (procs : List Procedure) (c c' : Calls)
    (cb : CallsBack P c) (cf : CallsFollow (looking g P procs) c c') where
  abbrev it : Setting
  it = side_by_side (looking g P procs) c c' cb cf

  pub itself_stands : (l : Leaf) → Stands it l (leaf l)
  itself_stands l = record {
    follows = leaf_follows it (is_plain g P procs) (having Any) l (any_act (leaf l));
    bound
        = λ x t d y w e k. k;
  }

  none_some : {n : Node} → None ≡ Some n → ⊥
  none_some q = cc

  -- where the value is no node, something is missing
  nothing_there : (x : Here it.plan All) {v : Val} {l : Leaf} (b : Answer) → TakesNode v l
      → node_of g x.env v ≡ None → Sim P no_deeper Same (act_by g c true x.env x.d (leaf l) x.w) b
  unfolding act_by
  nothing_there x b (by_update {a} {v}) e = need_first P no_deeper Same
      (and_then (word_of g x.env a) place_of) x.w _ b
      (λ i _. need_first P no_deeper Same (slice_get x.w.cells i) x.w _ b (λ k _.
      need_first P no_deeper Same (node_of g x.env v) x.w _ b
      (λ n q. absurd (none_some (sym e ∙ q)))))
  nothing_there x b (by_apply {a} {v}) e = need_first P no_deeper Same (node_of g x.env v) x.w _ b
      (λ n q. absurd (none_some (sym e ∙ q)))

  -- and where it is one, the case comes to the operation of its tag
  expansion_follows : (l : Leaf) (e : Expansion) → Expands g P l e
      → ActFollows it All Same (leaf l) (expanded l (Some e))
  expansion_follows l e k = record { by = λ x. go x (node_of g x.env e.value) refl }
    where
      go : (x : Here it.plan All) (o : Option Node) → node_of g x.env e.value ≡ o
          → Sim P no_deeper Same (act_by g c true x.env x.d (leaf l) x.w)
          (act_by (h it) c' true x.env' x.d' (case e.value (alternatives e.each e.tags))
          (beside x.b))
      go x None q = nothing_there x _ k.takes q
      go x (Some n) q =
          let listed : In n.tag e.tags = k.listed (record { env = x.env; heap = x.w.cells }) x.known
          n q in
          let too : node_of g x.env' e.value ≡ Some n
          = node_has g Any x.env x.env' x.related e.value (any_val e.value) n q in
          subst (Sim P no_deeper Same (act_by g c true x.env x.d (leaf l) x.w))
          (sym (case_comes (h it) c' true x.env' x.d' e.each l n
          (λ w. k.does (h it) c' x.env' x.d' w n too) e.value e.tags (beside x.b) too listed))
          ((itself_stands l).follows.by (record {
            env = x.env;
            env' = x.env';
            d = x.d;
            d' = x.d';
            w = x.w;
            b = record {
              cells = x.b.cells;
              seen = x.b.seen
                  ++ record { env = x.env'; heap = x.b.cells } ∷ [];
              depth = x.b.depth;
              heaps
                  = x.b.heaps;
              deep = x.b.deep;
            };
            related = x.related;
            known = x.known;
            nest = x.nest;
          }))

  -- what may be given may be bound
  given_bound : (t : Target) (v : Val) (e : Expansion) (l : Leaf) (y : Value) → is_given g y ≡ true
      → is_bound_well (h it) t (expanded l (Some e)) y ≡ true
  given_bound t v e l y k = go (is_node_target t) (not_delayed g y) _ k
    where
      go : (n b p : Bool) → (b && p) ≡ true → (cond true (b && p) true && cond (n && true) b true) ≡
          true
      go true true p k = rw k refl
      go true false p k = cc
      go false b p k = rw k refl

  pub expansion_stands : (l : Leaf) (e : Expansion) → Expands g P l e
      → Stands it l (expanded l (Some e))
  expansion_stands l e k = record {
    follows = expansion_follows l e k;
    bound = λ x t d y w gave seen. given_bound t e.value e l
        y (k.given c x.env d x.w w y gave);
  }

-- ---- the text

adds_nothing : (f : ℕ → Leaf) (ts : List ℕ) → (arms_vars (alternatives f ts) ≡ [])
    × (arms_sites (alternatives f ts) ≡ [])
unfolding act_vars act_sites
adds_nothing f [] = (refl, refl)
adds_nothing f (t ∷ ts) = adds_nothing f ts

pub expansion_adds : (l : Leaf) (o : Option Expansion) → AddsNothing (expanded l o)
unfolding act_vars act_sites
expansion_adds l None = (refl, refl)
expansion_adds l (Some x) = adds_nothing x.each x.tags

module _ (g : Program) (scope : Scope) (f : ℕ → Leaf)
    (formed : (t : ℕ) → t < length g.tags → ActFormed g scope (leaf (f t))) where
  pub all_formed : (ts : List ℕ) → AllOf (λ t. t < length g.tags) ts
      → ArmsFormed g scope (alternatives f ts)
  unfolding ActFormed
  all_formed [] lt = tt
  all_formed (t ∷ ts) lt = (lt.0, formed t lt.0, all_formed ts lt.1)

module _ (K : PieceKind) (none_ok : K.pattern []) (f : ℕ → Leaf)
    (each : (t : ℕ) → EachAct K (leaf (f t))) where
  pub all_each : (ts : List ℕ) → EachArms K (alternatives f ts)
  unfolding EachAct
  all_each [] = tt
  all_each (t ∷ ts) = (none_ok, each t, all_each ts)

pub all_give : (width most : ℕ) (f : ℕ → Leaf) → ((t : ℕ) → NarrowAct width most (leaf (f t)))
    → (ts : List ℕ) → NarrowArms width most (alternatives f ts)
unfolding NarrowAct
all_give width most f each [] = tt
all_give width most f each (t ∷ ts) = (each t, all_give width most f each ts)

pub no_sum : (count : Val → ℕ) (f : ℕ → Leaf) → ((t : ℕ) → act_update_sum count (leaf (f t)) ≡ 0)
    → (ts : List ℕ) → arms_update_sum count (alternatives f ts) ≡ 0
unfolding act_update_sum
no_sum count f each [] = refl
no_sum count f each (t ∷ ts) = let e : act_update_sum count (leaf (f t)) ≡ 0 = each t in let r
    : arms_update_sum count (alternatives f ts) ≡ 0 = no_sum count f each ts in omega arith
