-- The rule by which words stand for their copies is sound: each is in scope, and has what its
-- variable has.
use Rattle.std.proofs.Common.{◌≡◌, ℕ, ◌+◌, ◌≤◌, Bool, true, false, cond, nat_eq, List, [], ◌∷◌, Option, Some, None, refl, sym, ap, ◌∙◌, subst, arith}
use Rattle.seq.proofs.Lists.{none_is_some, some_is}
use Rattle.seq.proofs.Counted.{counts, one_at}
use Rattle.seq.specs.Lists.{AllOf, times, is_among}
use Rattle.grin_syntax.specs.declared.program.Target.{Target}
use Rattle.grin_syntax.specs.declared.program.Target.TheVariants as to
use Rattle.grin_syntax.specs.declared.program.Val.{Val}
use Rattle.grin_syntax.specs.declared.program.Word.{Word}
use Rattle.grin_syntax.specs.declared.program.Word.TheVariants.{Lit, Var, Global, TagWord}
use Rattle.grin_syntax.specs.Tree.{Act, leaf, unit, Program}
use Rattle.grin_syntax.specs.Binders.{numbers_of, target_vars}
use Rattle.grin_syntax.specs.Formed.{Scope, InScope, with_word_variables, with_target, WordFormed, ValFormed, ActFormed}
use Rattle.grin_meaning.specs.Values.{Datum, Value, words, Env, and_then, only_word, Binding, with_vars, word_of, value_of, bindings_of}
use Rattle.grin_meaning.specs.Ready.{PieceKind}
use Rattle.grin_meaning.proofs.Bindings.{keys}
use Rattle.grin_meaning.proofs.Bodies.{AnyState}
use Rattle.grin_meaning.proofs.Names.{Any}
use Rattle.grin_meaning.proofs.Plain.{Has, vars_have, word_has}
use Rattle.grin_meaning.proofs.Scopes.{Once, scope_left, scope_right}
use Rattle.grin_rewrite.specs.ByWords.{val_by}
use Rattle.grin_rewrite.specs.Table.{nothing_known, note}
use Rattle.grin_rewrite.proofs.FactText.{ByWords, Places}
use Rattle.grin_rewrite.proofs.FactSides.{Gave, Holding}
use Rattle.grin_rewrite.proofs.CasesStay.{case_stays}
use Rattle.grin_rewrite.proofs.FactSound.{FactsAreSound, inlined_vectors}
use Rattle.copy_prop.specs.Copies.{Alias, copies_of_val, copies_of}
use Rattle.copy_prop.specs.Resolved.{Standing, word_for, as_word, note_all, noted_copies, copies_stand}
use Rattle.copy_prop.proofs.Bound.{others_stay, names_target, binds_nothing}
use Rattle.copy_prop.proofs.Noted.{all_noted}
use Rattle.copy_prop.proofs.Taken.{alias_vars, copy_is, copy_vars, WordsFormed, val_words, Given, copy_given}
use Rattle.copy_prop.proofs.Used.{stands_in}

-- words alone change
pub by_words : ByWords copies_stand as_word
by_words = record { leafs = λ stands l. refl; values = λ stands v. refl; cells = λ stands cs. refl }

module _ (g : Program) where
  -- ---- what is in scope

  -- each variable for which a word stands, and what this word names
  abbrev pub Place : Standing → Scope → Type 0
  Place stands scope = (y : ℕ) (w : Word) → stands y ≡ Some w → InScope scope.words y
      × WordFormed g scope w

  abbrev Wider : Scope → Scope → Type 0
  Wider scope other = (y : ℕ) → InScope scope.words y → InScope other.words y

  word_wider : (scope other : Scope) → Wider scope other → (w : Word) → WordFormed g scope w
      → WordFormed g other w
  word_wider scope other wider (Lit k) h = h
  word_wider scope other wider (Var x) h = wider x.0 h
  word_wider scope other wider (Global i) h = h
  word_wider scope other wider (TagWord t) h = h

  pub place_wider : (stands : Standing) (scope other : Scope) → Wider scope other
      → Place stands scope → Place stands other
  place_wider stands scope other wider at y w e =
      (wider y (at y w e).0, word_wider scope other wider w (at y w e).1)

  wider_target : (t : Target) (scope : Scope) → Wider scope (with_target t scope)
  wider_target to.Nothing scope y i = i
  wider_target (to.Node x) scope y i = i
  wider_target (to.One x) scope y i = scope_right (x.0 ∷ []) scope.words y i
  wider_target (to.Vector xs) scope y i = scope_right (numbers_of xs) scope.words y i

  copied_in : (t : Target) (v : Val) (as' : List Alias) (scope : Scope)
      → copies_of_val t v ≡ Some as' → (y : ℕ) → InScope (target_vars t) y
      → InScope (with_target t scope).words y
  copied_in to.Nothing v as' scope e y i = none_is_some e
  copied_in (to.Node x) v as' scope e y i = none_is_some e
  copied_in (to.One x) v as' scope e y i = scope_left (x.0 ∷ []) scope.words y i
  copied_in (to.Vector xs) v as' scope e y i = scope_left (numbers_of xs) scope.words y i

  copies_in : (scope other : Scope) → Wider scope other → (as' : List Alias)
      → WordsFormed g scope as' → ((y : ℕ) → InScope (alias_vars as') y → InScope other.words y)
      → AllOf (λ a. InScope other.words a.var.0 × WordFormed g other a.word) as'
  copies_in scope other wider [] f i = tt
  copies_in scope other wider (a ∷ as') f i = (
    (
      i a.var.0 (let c : counts (nat_eq a.var.0 a.var.0) ≡ 1 = one_at a.var.0 in omega (arith, c)),
      word_wider scope other wider a.word f.0,
    ),
    copies_in scope other wider as' f.1 (λ y j. i y (omega (arith, j))),
  )

  pub unit_formed : (scope : Scope) (v : Val) (o : Act) → o ≡ leaf (unit v) → ActFormed g scope o
      → ValFormed g scope v
  unfolding ActFormed
  unit_formed scope v o e f = subst (ActFormed g scope) e f

  pub place_after : (stands : Standing) (scope : Scope) (t : Target) (o : Act) → ActFormed g scope o
      → Place stands scope → Place (noted_copies (copies_of t o) stands) (with_target t scope)
  place_after stands scope t o formed at = go (copies_of t o) refl
    where
      same : Place stands (with_target t scope)
      same = place_wider stands scope (with_target t scope) (wider_target t scope) at

      go : (q : Option (List Alias)) → copies_of t o ≡ q
          → Place (noted_copies q stands) (with_target t scope)
      go None e = same
      go (Some as') e =
          let z : (v : Val) × (o ≡ leaf (unit v)) × (copies_of_val t v ≡ Some as')
          = copy_is t o as' e in
          all_noted
          (λ y w. InScope (with_target t scope).words y × WordFormed g (with_target t scope) w)
          as' stands
          (copies_in scope (with_target t scope) (wider_target t scope) as'
          (val_words g scope t z.0 as' z.2 (unit_formed scope z.0 o z.1 formed))
          (λ y i. copied_in t z.0 as' scope z.2 y
          (subst (λ xs. InScope xs y) (copy_vars t o as' e) i))) same

  pub word_formed : (stands : Standing) (scope : Scope) → Place stands scope → (a : Word)
      → WordFormed g scope a → WordFormed g scope (as_word stands a)
  word_formed stands scope at (Lit k) f = f
  word_formed stands scope at (Global i) f = f
  word_formed stands scope at (TagWord t) f = f
  word_formed stands scope at (Var x) f = go (stands x.0) refl
    where
      go : (o : Option Word) → stands x.0 ≡ o → WordFormed g scope (word_for x o)
      go None e = f
      go (Some w) e = (at x.0 w e).1

  unfoldable pub places : (K : PieceKind) → Places copies_stand as_word g nothing_known K
  unfolding ActFormed
  places K = record {
    Place = Place;
    begins = λ scope y w e. none_is_some e;
    stores = λ stands scope xs. place_wider stands scope (with_word_variables xs scope)
        (λ y i. scope_right xs scope.words y i);
    after = place_after;
    inside = λ stands scope v s fv fs at. at;
    words = word_formed;
    cases = λ stands scope v as' fv k h. (fv, h);
  }

  -- ---- what is bound

  -- in an environment, variables have what their words have in another
  abbrev StandIn : Env → Standing → Env → Type 0
  StandIn there stands env = (y : ℕ) (w : Word) → stands y ≡ Some w
      → and_then (env y) only_word ≡ word_of g there w

  -- the second program has all that the first one has, and words stand for their variables there
  abbrev Holds : Standing → Env → Env → Type 0
  Holds stands env env' = Has Any env env' × StandIn env' stands env'

  word_too : (stands : Standing) (env env' : Env) → Holds stands env env' → (a : Word) (d : Datum)
      → word_of g env a ≡ Some d → word_of g env' (as_word stands a) ≡ Some d
  word_too stands env env' r (Lit k) d e = e
  word_too stands env env' r (Global i) d e = e
  word_too stands env env' r (TagWord t) d e = e
  word_too stands env env' r (Var x) d e = go (stands x.0) refl
    where
      there : word_of g env' (Var x) ≡ Some d
      there = word_has g Any env env' r.0 (Var x) tt d e

      go : (o : Option Word) → stands x.0 ≡ o → word_of g env' (word_for x o) ≡ Some d
      go None q = there
      go (Some w) q = sym (r.1 x.0 w q) ∙ there

  not_bound : (scope : Scope) (xs : List ℕ) → Once scope xs → (y : ℕ) → InScope scope.words y
      → is_among y xs ≡ false
  not_bound scope xs once y i = go (is_among y xs) refl
    where
      go : (b : Bool) → is_among y xs ≡ b → is_among y xs ≡ false
      go false q = q
      go true q = let s : InScope xs y = stands_in y xs q in let o
          : times y scope.nodes + times y scope.words + times y xs ≤ 1 = once y
          in absurd (omega (arith, i, s, o))

  module _ (scope : Scope) (bs : List Binding) (env : Env) (once : Once scope (keys bs)) where
    word_on : (w : Word) → WordFormed g scope w → word_of g (with_vars bs env) w ≡ word_of g env w
    word_on (Lit k) f = refl
    word_on (Var x) f = ap (λ o. and_then o only_word)
        (others_stay bs env x.0 (not_bound scope (keys bs) once x.0 f))
    word_on (Global i) f = refl
    word_on (TagWord t) f = refl

    old_stand : (stands : Standing) → Place stands scope → StandIn env stands env
        → StandIn env stands (with_vars bs env)
    old_stand stands at h y w e = ap (λ o. and_then o only_word)
        (others_stay bs env y (not_bound scope (keys bs) once y (at y w e).0)) ∙ h y w e

    all_stand : (stands : Standing) →
        ((y : ℕ) (w : Word) → stands y ≡ Some w → WordFormed g scope w)
        → StandIn env stands (with_vars bs env) → StandIn (with_vars bs env) stands
        (with_vars bs env)
    all_stand stands formed h y w e = h y w e ∙ sym (word_on w (formed y w e))

    bound_alike : (stands : Standing) → Place stands scope → StandIn env stands env
        → StandIn (with_vars bs env) stands (with_vars bs env)
    bound_alike stands at h = all_stand stands (λ y w e. (at y w e).1) (old_stand stands at h)

  given_stand : (there : Env) (as' : List Alias) (bs : List Binding) (stands : Standing) (env : Env)
      → Given g there as' bs → StandIn there stands env
      → StandIn there (note_all as' stands) (with_vars bs env)
  given_stand there [] [] stands env given h = h
  given_stand there [] (b ∷ bs) stands env given h = absurd given
  given_stand there (a ∷ as') [] stands env given h = absurd given
  given_stand there (a ∷ as') (b ∷ bs) stands env given h =
      let d : Datum = given.0.0 in
      subst (λ c. StandIn there (note_all (a ∷ as') stands) (with_vars (c ∷ bs) env))
      (sym given.0.2)
      (given_stand there as' bs (note a.var a.word stands)
      (λ y. cond (nat_eq y a.var.0) (Some (words (d ∷ []))) (env y)) given.1
      (λ y w e. go d given.0.1 y w (nat_eq y a.var.0) e))
    where
      go : (d : Datum) → word_of g there a.word ≡ Some d → (y : ℕ) (w : Word) (b : Bool)
          → cond b (Some a.word) (stands y) ≡ Some w
          → and_then (cond b (Some (words (d ∷ []))) (env y)) only_word ≡ word_of g there w
      go d f y w true e = sym f ∙ ap (word_of g there) (some_is e)
      go d f y w false e = h y w e

  bound : (stands : Standing) (scope : Scope) (t : Target) (o : Act) (v : Value) (bs : List Binding)
      (env env' : Env) → Place stands scope → Once scope (keys bs) → ActFormed g scope o
      → Gave g env' o v → bindings_of g t v ≡ Some bs → Holds stands env env'
      → Holds (noted_copies (copies_of t o) stands) (with_vars bs env) (with_vars bs env')
  bound stands scope t o v bs env env' at once formed gave e r
      = (vars_have Any bs env env' r.0, go (copies_of t o) refl)
    where
      go : (q : Option (List Alias)) → copies_of t o ≡ q
          → StandIn (with_vars bs env') (noted_copies q stands) (with_vars bs env')
      go None q = bound_alike scope bs env' once stands at r.1
      go (Some as') q =
          let z : (u : Val) × (o ≡ leaf (unit u)) × (copies_of_val t u ≡ Some as')
          = copy_is t o as' q in
          let given : value_of g env' z.0 ≡ Some v = subst (λ o. Gave g env' o v) z.1 gave in
          all_stand scope bs env' once (note_all as' stands)
          (all_noted (λ y w. WordFormed g scope w) as' stands
          (val_words g scope t z.0 as' z.2 (unit_formed scope z.0 o z.1 formed))
          (λ y w n. (at y w n).1))
          (given_stand env' as' bs stands env' (copy_given g env' t z.0 as' v bs z.2 given e) r.1)

  -- ---- the whole rule

  holding : Holding copies_stand as_word g nothing_known inlined_vectors (places inlined_vectors)
      AnyState
  unfolding places
  holding = record {
    Holds = λ stands cells. Holds stands;
    has = λ stands c env env' r. r.0;
    begins = λ c env. ((λ x v _ k. k), (λ y w e. none_is_some e));
    words = λ stands s env' _. word_too stands s.env env';
    stored = λ stands scope bs c c' env env' at once r.
        (vars_have Any bs env env' r.0, bound_alike scope bs env' once stands at r.1);
    bound = λ stands scope t o v bs c c' env env' at once kind formed gave e. bound stands scope t o
        v bs env env' at (subst (Once scope) (sym (names_target g t v bs e)) once) formed gave e;
    inlined = λ o h. h;
    no_nodes = λ t n. n;
    cases = λ c c' cb cf stands scope v as' bs' at. case_stays copies_stand as_word g nothing_known
        inlined_vectors (places inlined_vectors) AnyState (λ stands cells. Holds stands)
        (λ stands v s y bs cells env env' bare value e r. subst
        (λ l. Holds stands (with_vars l env) (with_vars l env'))
        (sym (binds_nothing g s y bs bare e)) r) c c' cb cf stands v (val_by (as_word stands) v)
        as' bs';
  }

  pub sound : FactsAreSound copies_stand as_word g nothing_known AnyState
  sound = record {
    by = by_words;
    cases = λ q stands v v' as' bs' h k. q.cases v v' as' bs' h k;
    places = places inlined_vectors;
    holding = holding;
  }
