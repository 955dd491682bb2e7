-- Nobody uses what a copy binds, once its words stand for it.
use Rattle.std.proofs.Common.{◌≡◌, ◌≢◌, ℕ, ◌+◌, ◌≤◌, List, [], ◌∷◌, ◌++◌, map, Option, Some, None, refl, sym, ap, ◌∙◌, subst, arith}
use Rattle.seq.proofs.Lists.{none_is_some}
use Rattle.seq.proofs.Counted.{times_append}
use Rattle.seq.specs.Lists.{AllOf, times}
use Rattle.grin_syntax.specs.declared.program.Target.{Target}
use Rattle.grin_syntax.specs.declared.program.Val.{Val}
use Rattle.grin_syntax.specs.declared.program.Val.TheVariants.{NodeVar, Node, Vector, One}
use Rattle.grin_syntax.specs.declared.program.Word.{Word}
use Rattle.grin_syntax.specs.declared.program.Word.TheVariants.{Lit, Var, Global, TagWord}
use Rattle.grin_syntax.specs.Tree.{Code, Act, leaf, unit, Procedure, Program}
use Rattle.grin_syntax.specs.Binders.{numbers_of, target_vars, shape_vars, cell_vars, act_vars, code_vars, arms_vars, procs_vars}
use Rattle.grin_syntax.specs.Formed.{Scope, with_word_variables, with_target, params_scope, WordFormed, ActFormed, CodeFormed, ArmsFormed, ProcedureFormed}
use Rattle.grin_meaning.specs.Names.{WordOk, WordsOk, ValOk, ActOk, CodeOk, ArmsOk}
use Rattle.grin_meaning.specs.Ready.{EachAct, EachCode, EachArms, EveryBodyIsOfKind, vectorised_kind}
use Rattle.grin_meaning.specs.Rewritten.{rewritten_procedure}
use Rattle.grin_meaning.proofs.Scopes.{Once, once_left, once_words}
use Rattle.grin_rewrite.specs.WithFacts.{walk_act, walk_code}
use Rattle.grin_rewrite.specs.Table.{nothing_known}
use Rattle.grin_rewrite.proofs.Walked.{Relating, code_walked}
use Rattle.grin_rewrite.proofs.NamedByWords.{val_ok, cells_ok, leaf_ok}
use Rattle.grin_rewrite.proofs.FactText.{act_formed}
use Rattle.grin_rewrite.proofs.FactSides.{once_last, once_target}
use Rattle.copy_prop.specs.Copies.{Alias, copies_of_val, copies_of}
use Rattle.copy_prop.specs.Resolved.{Standing, word_for, as_word, note_all, noted_copies, copies_stand}
use Rattle.copy_prop.specs.Copied.{IsCopy, Unused, BoundAct, BoundCode, BoundArms}
use Rattle.copy_prop.proofs.Noted.{Stood, all_noted, still_stood, copies_stood, others_stand}
use Rattle.copy_prop.proofs.Standing.{by_words, Place, places, unit_formed}
use Rattle.copy_prop.proofs.Taken.{alias_vars, copy_found, copy_is, copy_vars, val_each, val_words}

-- the block after a copy doesn't use what this binds
abbrev pub CopyIsUnused : Target → Act → Code → Type 0
CopyIsUnused t o b = IsCopy t o → AllOf (Unused b) (target_vars t)

-- a variable that isn't x
abbrev pub Other : ℕ → ℕ → Type 0
Other x y = y ≢ x

-- it names no variable for which a word stands
abbrev Free : Standing → Word → Type 0
Free stands u = (x : ℕ) (w : Word) → stands x ≡ Some w → WordOk (Other x) u

-- no word stands for a variable of a word that stands for one
abbrev Settled : Standing → Type 0
Settled stands = (y : ℕ) (u : Word) → stands y ≡ Some u → Free stands u

differs : (stands : Standing) (x y : ℕ) (w : Word) → stands x ≡ Some w → stands y ≡ None → y ≢ x
differs stands x y w e n same = none_is_some (sym n ∙ ap stands same ∙ e)

word_free : (stands : Standing) → Settled stands → (x : ℕ) (w : Word) → stands x ≡ Some w
    → (a : Word) → WordOk (Other x) (as_word stands a)
word_free stands settled x w e (Lit k) = tt
word_free stands settled x w e (Global i) = tt
word_free stands settled x w e (TagWord t) = tt
word_free stands settled x w e (Var y) = go (stands y.0) refl
  where
    go : (o : Option Word) → stands y.0 ≡ o → WordOk (Other x) (word_for y o)
    go None q = differs stands x y.0 w e q
    go (Some u) q = settled y.0 u q x w e

-- ---- the words of a copy

words_free : (stands : Standing) (ws : List Word) →
    ((x : ℕ) (w : Word) → stands x ≡ Some w → WordsOk (Other x) ws) → AllOf (Free stands) ws
words_free stands [] h = tt
words_free stands (a ∷ ws) h = ((λ x w e. (h x w e).0), words_free stands ws (λ x w e. (h x w e).1))

unit_free : (stands : Standing) (t : Target) (v : Val) (as' : List Alias)
    → copies_of_val t v ≡ Some as' → ((x : ℕ) (w : Word) → stands x ≡ Some w → ValOk (Other x) v)
    → AllOf (λ a. Free stands a.word) as'
unit_free stands t (NodeVar y) as' e h = val_each (Free stands) (λ i x w q. tt) t (NodeVar y) as' e
    tt
unit_free stands t (Node k ws) as' e h = val_each (Free stands) (λ i x w q. tt) t (Node k ws) as' e
    ((λ x w q. tt), words_free stands ws h)
unit_free stands t (Vector ws) as' e h = val_each (Free stands) (λ i x w q. tt) t (Vector ws) as' e
    (words_free stands ws h)
unit_free stands t (One a) as' e h = val_each (Free stands) (λ i x w q. tt) t (One a) as' e h

named_unit : (stands : Standing) (v : Val) (o : Act) → o ≡ leaf (unit v)
    → ((x : ℕ) (w : Word) → stands x ≡ Some w → ActOk (Other x) o) → (x : ℕ) (w : Word)
    → stands x ≡ Some w → ValOk (Other x) v
unfolding ActOk
named_unit stands v o q h x w e = subst (ActOk (Other x)) q (h x w e)

each_unused : (stands : Standing) (b : Code) → ((x : ℕ) (w : Word) → stands x ≡ Some w → Unused b x)
    → (xs : List ℕ) → AllOf (Stood stands) xs → AllOf (Unused b) xs
each_unused stands b h [] s = tt
each_unused stands b h (x ∷ xs) s = (h x s.0.0 s.0.1, each_unused stands b h xs s.1)

module _ (g : Program) where
  -- a word that is in scope, where the variables of copies are new
  still_free : (as' : List Alias) (stands : Standing) (scope : Scope) → Once scope (alias_vars as')
      → (u : Word) → WordFormed g scope u → Free stands u → Free (note_all as' stands) u
  still_free as' stands scope once (Lit k) f h x w e = tt
  still_free as' stands scope once (Global i) f h x w e = tt
  still_free as' stands scope once (TagWord t) f h x w e = tt
  still_free as' stands scope once (Var z) f h x w e = go (stands z.0) refl
    where
      new : times z.0 (alias_vars as') ≡ 0
      new = let o : times z.0 scope.nodes + times z.0 scope.words + times z.0 (alias_vars as') ≤ 1
          = once z.0 in omega (arith, o, f)

      go : (o : Option Word) → stands z.0 ≡ o → z.0 ≢ x
      go None q = differs (note_all as' stands) x z.0 w e (others_stand as' stands z.0 new ∙ q)
      go (Some u) q = absurd (h z.0 u q refl)

  settled_after : (stands : Standing) (scope : Scope) (t : Target) (o : Act) → Place g stands scope
      → Once scope (target_vars t) → ActFormed g scope o
      → ((x : ℕ) (w : Word) → stands x ≡ Some w → ActOk (Other x) o) → Settled stands
      → Settled (noted_copies (copies_of t o) stands)
  settled_after stands scope t o at once formed named settled = go (copies_of t o) refl
    where
      go : (q : Option (List Alias)) → copies_of t o ≡ q → Settled (noted_copies q stands)
      go None e = settled
      go (Some as') e =
          let z : (v : Val) × (o ≡ leaf (unit v)) × (copies_of_val t v ≡ Some as')
          = copy_is t o as' e in
          let once' : Once scope (alias_vars as') = subst (Once scope) (sym (copy_vars t o as' e))
          once in
          all_noted (λ y u. Free (note_all as' stands) u) as' stands
          (both as' once' as'
          (val_words g scope t z.0 as' z.2 (unit_formed g scope z.0 o z.1 formed))
          (unit_free stands t z.0 as' z.2 (named_unit stands z.0 o z.1 named)))
          (λ y u n. still_free as' stands scope once' u (at y u n).1 (settled y u n))
        where
          both : (all : List Alias) → Once scope (alias_vars all) → (as' : List Alias)
              → AllOf (λ a. WordFormed g scope a.word) as' → AllOf (λ a. Free stands a.word) as'
              → AllOf (λ a. Free (note_all all stands) a.word) as'
          both all once [] f h = tt
          both all once (a ∷ as') f h =
              (still_free all stands scope once a.word f.0 h.0, both all once as' f.1 h.1)

  copy_unused : (stands : Standing) (t : Target) (o : Act) (b : Code)
      → ((x : ℕ) (w : Word) → noted_copies (copies_of t o) stands x ≡ Some w → Unused b x)
      → CopyIsUnused t o b
  copy_unused stands t o b h is = go (copies_of t o) refl h
    where
      go : (q : Option (List Alias)) → copies_of t o ≡ q
          → ((x : ℕ) (w : Word) → noted_copies q stands x ≡ Some w → Unused b x)
          → AllOf (Unused b) (target_vars t)
      go None e h = absurd (copy_found t o e is)
      go (Some as') e h = subst (AllOf (Unused b)) (copy_vars t o as' e)
          (each_unused (note_all as' stands) b h (alias_vars as') (copies_stood as' stands))

  stood_after : (stands : Standing) (q : Option (List Alias)) (x : ℕ) → Stood stands x
      → Stood (noted_copies q stands) x
  stood_after stands None x h = h
  stood_after stands (Some as') x h = still_stood as' stands x h

  -- ---- all pieces

  record Good (stands : Standing) (scope : Scope) (is_formed is_of_kind : Type 0) (xs : List ℕ)
      : Type 0 where
    place : Place g stands scope
    settled : Settled stands
    formed : is_formed
    kind : is_of_kind
    once : Once scope xs

  -- a piece names no variable for which a word stands, and its copies are unused
  relating : Relating copies_stand
  unfolding ActFormed EachAct act_vars ActOk BoundAct places
  relating = record {
    act = λ stands scope o o'. Good stands scope (ActFormed g scope o) (EachAct vectorised_kind o)
        (act_vars o) → ((x : ℕ) (w : Word) → stands x ≡ Some w → ActOk (Other x) o')
        × BoundAct CopyIsUnused o';
    code = λ stands scope b b'. Good stands scope (CodeFormed g scope b)
        (EachCode vectorised_kind b) (code_vars b) →
        ((x : ℕ) (w : Word) → stands x ≡ Some w → CodeOk (Other x) b') × BoundCode CopyIsUnused b';
    arms = λ stands scope v as' bs'. Good stands scope (ArmsFormed g scope as')
        (EachArms vectorised_kind as') (arms_vars as')
        → ((x : ℕ) (w : Word) → stands x ≡ Some w → ArmsOk (Other x) bs')
        × BoundArms CopyIsUnused bs';
    leafs = λ stands scope l q. (
      (λ x w e. leaf_ok (as_word stands) (Other x) (word_free stands q.settled x w e) l q.kind),
      tt,
    );
    cases = λ stands scope v as' bs' go q.
        let made = go
        (record {
          place = q.place;
          settled = q.settled;
          formed = q.formed.1;
          kind
              = q.kind.2;
          once = q.once;
        }) in (
          (λ x w e. (
            val_ok (as_word stands) (Other x) (word_free stands q.settled x w e) v q.kind.1,
            made.0 x w e,
          )),
          made.1,
        );
    blocks = λ stands scope b b' go q. go
        (record {
          place = q.place;
          settled = q.settled;
          formed = q.formed;
          kind = q.kind.1;
          once
              = q.once;
        });
    ends = λ stands scope o o' go q. go
        (record {
          place = q.place;
          settled = q.settled;
          formed = q.formed;
          kind = q.kind;
          once
              = q.once;
        });
    stores = λ stands scope cs b b' go q.
        let made = go
        (record {
          place = (places g vectorised_kind).stores stands scope (cell_vars cs) q.place;
          settled = q.settled;
          formed = q.formed.1;
          kind = q.kind.1;
          once
              = once_words scope (cell_vars cs) (code_vars b) q.once;
        }) in (
          (λ x w e. (
            cells_ok (as_word stands) (Other x) (word_free stands q.settled x w e) cs q.kind.0,
            made.0 x w e,
          )),
          made.1,
        );
    binds = λ stands scope t o b b' go later q.
        let o' : Act = walk_act copies_stand stands o in
        let formed : ActFormed g scope o' = act_formed copies_stand as_word g nothing_known
        vectorised_kind by_words (places g vectorised_kind) o stands scope q.place q.kind.1
        q.formed.0 in
        let first = go
        (record {
          place = q.place;
          settled = q.settled;
          formed = q.formed.0;
          kind
              = q.kind.1;
          once = once_left scope (act_vars o) (code_vars b)
              (once_last scope (target_vars t) (act_vars o ++ code_vars b) q.once);
        }) in
        let rest = later (record {
          place = (places g vectorised_kind).after stands scope t o' formed q.place;
          settled = settled_after stands scope t o' q.place
              (once_left scope (target_vars t) (act_vars o ++ code_vars b) q.once) formed first.0
              q.settled;
          formed = q.formed.1;
          kind = q.kind.2;
          once = once_last (with_target t scope) (act_vars o) (code_vars b)
              (once_target t scope (act_vars o ++ code_vars b) q.once);
        }) in (
          (λ x w e. (
            first.0 x w e,
            (let s : Stood (noted_copies (copies_of t o') stands) x
                = stood_after stands (copies_of t o') x (w, e) in rest.0 x s.0 s.1),
          )),
          (copy_unused stands t o' b' rest.0, first.1, rest.1),
        );
    none_left = λ stands scope v q. ((λ x w e. tt), tt);
    more = λ stands scope v s b b' as' bs' go later q.
        let first = go (record {
          place = (places g vectorised_kind).stores stands scope (shape_vars s) q.place;
          settled = q.settled;
          formed = q.formed.1;
          kind = q.kind.1;
          once = once_left (with_word_variables (shape_vars s) scope) (code_vars b) (arms_vars as')
              (once_words scope (shape_vars s) (code_vars b ++ arms_vars as') q.once);
        }) in
        let rest = later
        (record {
          place = q.place;
          settled = q.settled;
          formed = q.formed.2;
          kind
              = q.kind.2;
          once = once_last scope (code_vars b) (arms_vars as')
              (once_last scope (shape_vars s) (code_vars b ++ arms_vars as') q.once);
        }) in
        ((λ x w e. (first.0 x w e, rest.0 x w e)), (first.1, rest.1));
  }

  body_unused : (q : Procedure) → ProcedureFormed g q → EachCode vectorised_kind q.body
      → Once (params_scope q) (code_vars q.body) → BoundCode CopyIsUnused
      (walk_code copies_stand nothing_known q.body)
  unfolding relating places
  body_unused q formed kind once =
      (code_walked copies_stand relating q.body nothing_known (params_scope q)
      (record {
        place = λ y w e. none_is_some e;
        settled = λ y u e. none_is_some e;
        formed
            = formed;
        kind = kind;
        once = once;
      })).1

  pub procs_unused : (qs : List Procedure) → AllOf (ProcedureFormed g) qs
      → EveryBodyIsOfKind vectorised_kind qs → ((y : ℕ) → times y (procs_vars qs) ≤ 1)
      → AllOf (λ q. BoundCode CopyIsUnused q.body)
      (map (rewritten_procedure (walk_code copies_stand nothing_known)) qs)
  procs_unused [] f k once = tt
  procs_unused (q ∷ qs) f k once = (
    body_unused q f.0 k.0 (λ y. first y (once y)),
    procs_unused qs f.1 k.1 (λ y. later y (once y)),
  )
    where
      all : (y : ℕ) → times y (procs_vars (q ∷ qs)) ≡ times y (numbers_of q.params) + times y
          (code_vars q.body) + times y (procs_vars qs)
      all y =
          let e : times y ((numbers_of q.params ++ code_vars q.body) ++ procs_vars qs) ≡ times y
          (numbers_of q.params ++ code_vars q.body) + times y (procs_vars qs)
          = times_append y (numbers_of q.params ++ code_vars q.body) (procs_vars qs) in
          let k : times y (numbers_of q.params ++ code_vars q.body) ≡ times y (numbers_of q.params)
          + times y (code_vars q.body) = times_append y (numbers_of q.params) (code_vars q.body)
          in
          omega (arith, e, k)

      first : (y : ℕ) → times y (procs_vars (q ∷ qs)) ≤ 1
          → 0 + times y (numbers_of q.params) + times y (code_vars q.body) ≤ 1
      first y o = let e = all y in omega (arith, o, e)

      later : (y : ℕ) → times y (procs_vars (q ∷ qs)) ≤ 1 → times y (procs_vars qs) ≤ 1
      later y o = let e = all y in omega (arith, o, e)
