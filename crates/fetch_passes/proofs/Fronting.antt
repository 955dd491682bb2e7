-- Each word that is used is fetched.
use Rattle.std.proofs.Common.{◌≡◌, ℕ, zero, suc, pos, ◌+◌, ◌≤◌, Bool, true, false, cond, List, [], ◌∷◌, length, refl, sym, ◌∙◌, subst, inl, inr, arith}
use Rattle.grin_syntax.specs.declared.program.VarId.{VarId}
use Rattle.grin_syntax.specs.declared.program.Tag.{Tag}
use Rattle.grin_syntax.specs.declared.program.Word as W
use Rattle.grin_syntax.specs.declared.program.Word.TheVariants.{Lit}
use Rattle.grin_syntax.specs.declared.program.Target.TheVariants as to
use Rattle.grin_syntax.specs.Tree.{Code, end, store, bind, Act, leaf, fetch, fetch_word, case, nested, Arms, no_arm, arm, Procedure}
use Rattle.grin_syntax.specs.Formed.{AllOf}
use Rattle.grin_syntax.specs.Fresh.{variable}
use Rattle.grin_meaning.specs.Ready.{EachAct, EachCode, EachArms, EveryBodyIsOfKind}
use Rattle.pass_ground.specs.Uses.{code_uses}
use Rattle.fetch_passes.specs.Windows.{owns, outside}
use Rattle.fetch_passes.specs.Names.{Names, DeferredField, as_word, with_hidden}
use Rattle.fetch_passes.specs.Waits.{deferred_fields_of}
use Rattle.fetch_passes.specs.Split.{fetched_if, word_fetches, front, front_names, split_act, split_code, split_arms, split_procs, made_act, made_code}
use Rattle.fetch_passes.specs.Placed.{no_word_fetch_kind}
use Rattle.fetch_passes.specs.Fronts.{IsFetchedFirst, after_word_fetches, OutsideUsesFetchedFirst, DeferredWordsFetched, ActsFetch, CodesFetch, ArmsFetch, ProcsFetch}

-- none is the tag
abbrev Late : List DeferredField → Type 0
Late = AllOf (λ p. 1 ≤ p.place)

waits_late : (t : ℕ) (b : Code) (i : ℕ) (xs : List VarId) → Late (deferred_fields_of t b (suc i) xs)
waits_late t b i [] = tt
waits_late t b i (x ∷ xs) = go (outside t x.0 b) (waits_late t b (suc i) xs)
  where
    go : (o : Bool) → Late (deferred_fields_of t b (suc (suc i)) xs)
        → Late (cond o (deferred_fields_of t b (suc (suc i)) xs)
        (record { var = x; place = suc i } ∷ deferred_fields_of t b (suc (suc i)) xs))
    go true h = h
    go false h = (omega arith, h)

-- ---- directly after a tag

past_fetch : (o : Bool) (x : VarId) (a : W.Word) (i : ℕ) (c : Code) → 1 ≤ i
    → after_word_fetches (fetched_if o x a i c) ≡ after_word_fetches c
past_fetch true x a zero c le = absurd (omega (arith, le))
past_fetch true x a (suc i) c le = refl
past_fetch false x a i c le = refl

begins_more : (j : ℕ) (o : Bool) (x : VarId) (a : W.Word) (i : ℕ) (c : Code) → 1 ≤ i
    → IsFetchedFirst j c → IsFetchedFirst j (fetched_if o x a i c)
begins_more j true x a zero c le h = absurd (omega (arith, le))
begins_more j true x a (suc i) c le h = inr h
begins_more j false x a i c le h = h

begins_now : (x : VarId) (a : W.Word) (i : ℕ) (c : Code) → 1 ≤ i
    → IsFetchedFirst i (fetched_if true x a i c)
begins_now x a zero c le = absurd (omega (arith, le))
begins_now x a (suc i) c le = inl refl

past_kept : (t : ℕ) (b : Code) (a : W.Word) (i : ℕ) (xs : List VarId) (c : Code)
    → after_word_fetches (word_fetches t b a (suc i) xs c) ≡ after_word_fetches c
past_kept t b a i [] c = refl
past_kept t b a i (x ∷ xs) c = past_fetch (outside t x.0 b) x a (suc i)
    (word_fetches t b a (suc (suc i)) xs c) (omega arith) ∙ past_kept t b a (suc i) xs c

outside_more : (t : ℕ) (b : Code) (i : ℕ) (xs : List VarId) (c c' : Code)
    → ((j : ℕ) → IsFetchedFirst j c → IsFetchedFirst j c') → OutsideUsesFetchedFirst t b i xs c
    → OutsideUsesFetchedFirst t b i xs c'
outside_more t b i [] c c' f h = tt
outside_more t b i (x ∷ xs) c c' f h = (λ e. f i (h.0 e), outside_more t b (suc i) xs c c' f h.1)

outside_fetched : (t : ℕ) (b : Code) (a : W.Word) (i : ℕ) (xs : List VarId) (c : Code)
    → OutsideUsesFetchedFirst t b (suc i) xs (word_fetches t b a (suc i) xs c)
outside_fetched t b a i [] c = tt
outside_fetched t b a i (x ∷ xs) c = (
  go (outside t x.0 b),
  outside_more t b (suc (suc i)) xs rest (fetched_if (outside t x.0 b) x a (suc i) rest)
      (λ j h. begins_more j (outside t x.0 b) x a (suc i) rest (omega arith) h)
      (outside_fetched t b a (suc i) xs c),
)
  where
    rest : Code
    rest = word_fetches t b a (suc (suc i)) xs c

    go : (o : Bool) → o ≡ true → IsFetchedFirst (suc i) (fetched_if o x a (suc i) rest)
    go true e = inl refl
    go false e = cc

-- ---- at the front of an alternative

past_front : (a : W.Word) (n : ℕ) (ps : List DeferredField) (b c : Code) → Late ps
    → after_word_fetches (front a n ps b c) ≡ after_word_fetches c
past_front a n [] b c h = refl
past_front a n (p ∷ ps) b c h = past_fetch (code_uses p.var.0 b) (variable n) a p.place
    (front a (suc n) ps b c) h.0 ∙ past_front a (suc n) ps b c h.1

left_more : (ps : List DeferredField) (b c c' : Code)
    → ((j : ℕ) → IsFetchedFirst j c → IsFetchedFirst j c') → DeferredWordsFetched ps b c
    → DeferredWordsFetched ps b c'
left_more [] b c c' f h = tt
left_more (p ∷ ps) b c c' f h = (λ e. f p.place (h.0 e), left_more ps b c c' f h.1)

left_fetched : (a : W.Word) (n : ℕ) (ps : List DeferredField) (b c : Code) → Late ps
    → DeferredWordsFetched ps b (front a n ps b c)
left_fetched a n [] b c h = tt
left_fetched a n (p ∷ ps) b c h = (
  go (code_uses p.var.0 b),
  left_more ps b rest (fetched_if (code_uses p.var.0 b) (variable n) a p.place rest)
      (λ j k. begins_more j (code_uses p.var.0 b) (variable n) a p.place rest h.0 k)
      (left_fetched a (suc n) ps b c h.1),
)
  where
    rest : Code
    rest = front a (suc n) ps b c

    go : (o : Bool) → o ≡ true → IsFetchedFirst p.place (fetched_if o (variable n) a p.place rest)
    go true e = begins_now (variable n) a p.place rest h.0
    go false e = cc

-- ---- pieces

module _ (ts : List Tag) where
  -- a block that is split doesn't begin with words
  no_words : (b : Code) (ks : Names) (a : W.Word) (ps : List DeferredField) (n : ℕ)
      → EachCode no_word_fetch_kind b → after_word_fetches (split_code ts ks a ps n b) ≡ split_code
      ts ks a ps n b
  unfolding split_act EachAct made_act
  no_words (end (leaf (fetch c))) ks a ps n k = refl
  no_words (end o) ks a ps n k = refl
  no_words (store cs b) ks a ps n k = refl
  no_words (bind (to.Vector (v ∷ vs)) (leaf (fetch c)) b) ks a ps n k = refl
  no_words (bind (to.Vector []) (leaf (fetch c)) b) ks a ps n k = refl
  no_words (bind to.Nothing (leaf (fetch c)) b) ks a ps n k = refl
  no_words (bind (to.One u) (leaf (fetch c)) b) ks a ps n k = refl
  no_words (bind (to.Node u) (leaf (fetch c)) b) ks a ps n k = refl
  no_words (bind t (leaf (fetch_word c i)) b) ks a ps n k = absurd k.1
  no_words (bind t o b) ks a ps n k = refl

  mutual
    unfolding split_act CodesFetch EachAct made_act

    act_fetch : (o : Act) (ks : Names) (a : W.Word) (ps : List DeferredField) (n : ℕ) → Late ps
        → EachAct no_word_fetch_kind o → ActsFetch ps o (split_act ts ks a ps n o)
    act_fetch (case v as') ks a ps n l k = arms_fetch as' ks a ps n l k.2
    act_fetch (nested b) ks a ps n l k = code_fetch b ks a [] n tt k.1
    act_fetch o ks a ps n l k = tt

    code_fetch : (b : Code) (ks : Names) (a : W.Word) (ps : List DeferredField) (n : ℕ) → Late ps
        → EachCode no_word_fetch_kind b → CodesFetch ps b (split_code ts ks a ps n b)
    code_fetch (end (leaf (fetch c))) ks a ps n l k = tt
    code_fetch (end o) ks a ps n l k = act_fetch o ks a ps n l k
    code_fetch (store cs b) ks a ps n l k = code_fetch b ks a [] n tt k.1
    code_fetch (bind (to.Vector (v ∷ vs)) (leaf (fetch c)) b) ks a ps n l k = (
      tt,
      outside_fetched v.0 b (as_word ks c) 0 vs
          (split_code ts (with_hidden (deferred_fields_of v.0 b 1 vs) ks)
          (cond (owns v.0 b) (as_word ks c) a)
          (cond (owns v.0 b) (deferred_fields_of v.0 b 1 vs) ps) (n + 0) b),
      subst (CodesFetch (cond (owns v.0 b) (deferred_fields_of v.0 b 1 vs) ps) b)
          (sym (past_kept v.0 b (as_word ks c) 0 vs
          (split_code ts (with_hidden (deferred_fields_of v.0 b 1 vs) ks)
          (cond (owns v.0 b) (as_word ks c) a)
          (cond (owns v.0 b) (deferred_fields_of v.0 b 1 vs) ps) (n + 0) b)
          ∙ no_words b (with_hidden (deferred_fields_of v.0 b 1 vs) ks)
          (cond (owns v.0 b) (as_word ks c) a)
          (cond (owns v.0 b) (deferred_fields_of v.0 b 1 vs) ps) (n + 0) k.2))
          (code_fetch b (with_hidden (deferred_fields_of v.0 b 1 vs) ks)
          (cond (owns v.0 b) (as_word ks c) a)
          (cond (owns v.0 b) (deferred_fields_of v.0 b 1 vs) ps) (n + 0) (go (owns v.0 b)) k.2),
    )
      where
        go : (o : Bool) → Late (cond o (deferred_fields_of v.0 b 1 vs) ps)
        go true = waits_late v.0 b 0 vs
        go false = l
    code_fetch (bind (to.Vector []) (leaf (fetch c)) b) ks a ps n l k
        = (
          tt,
          tt,
          subst (CodesFetch ps b) (sym (no_words b ks a ps (n + 0) k.2))
              (code_fetch b ks a ps (n + 0) l k.2),
        )
    code_fetch (bind to.Nothing (leaf (fetch c)) b) ks a ps n l k
        = (
          tt,
          tt,
          subst (CodesFetch ps b) (sym (no_words b ks a ps (n + 0) k.2))
              (code_fetch b ks a ps (n + 0) l k.2),
        )
    code_fetch (bind (to.One u) (leaf (fetch c)) b) ks a ps n l k
        = (
          tt,
          tt,
          subst (CodesFetch ps b) (sym (no_words b ks a ps (n + 0) k.2))
              (code_fetch b ks a ps (n + 0) l k.2),
        )
    code_fetch (bind (to.Node u) (leaf (fetch c)) b) ks a ps n l k
        = (
          tt,
          tt,
          subst (CodesFetch ps b) (sym (no_words b ks a ps (n + 0) k.2))
              (code_fetch b ks a ps (n + 0) l k.2),
        )
    code_fetch (bind t (leaf (fetch_word c i)) b) ks a ps n l k = absurd k.1
    code_fetch (bind t o b) ks a ps n l k = (
      act_fetch o ks a ps n l k.1,
      tt,
      subst (CodesFetch [] b)
          (sym (no_words b ks a [] (n + made_act ts ps o) k.2))
          (code_fetch b ks a [] (n + made_act ts ps o) tt k.2),
    )

    arms_fetch : (as' : Arms) (ks : Names) (a : W.Word) (ps : List DeferredField) (n : ℕ) → Late ps
        → EachArms no_word_fetch_kind as' → ArmsFetch ps as' (split_arms ts ks a ps n as')
    arms_fetch no_arm ks a ps n l k = tt
    arms_fetch (arm s b as') ks a ps n l k = (
      left_fetched a n ps b (split_code ts (front_names n ps b ks) a [] (n + length ps) b) l,
      subst (CodesFetch [] b)
          (sym (past_front a n ps b (split_code ts (front_names n ps b ks) a [] (n + length ps) b) l
          ∙ no_words b (front_names n ps b ks) a [] (n + length ps) k.1))
          (code_fetch b (front_names n ps b ks) a [] (n + length ps) tt k.1),
      arms_fetch as' ks a ps (n + length ps + made_code ts [] b) l k.2,
    )

  pub procs_fronts : (qs : List Procedure) (n : ℕ) → EveryBodyIsOfKind no_word_fetch_kind qs
      → ProcsFetch qs (split_procs ts n qs)
  procs_fronts [] n k = tt
  procs_fronts (q ∷ qs) n k = (
    code_fetch q.body [] (Lit (pos 0)) [] n tt k.0,
    procs_fronts qs (n + made_code ts [] q.body) k.1,
  )
