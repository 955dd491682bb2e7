-- A fetch of a whole node: it becomes a fetch of its tag, and the fetches of its fields wait for
-- the cases that need them.
use Rattle.std.proofs.Common.{◌≡◌, ◌≢◌, ℕ, zero, suc, pos, ◌+◌, ◌<◌, ◌≤◌, Bool, true, false, cond, nat_eq, List, [], ◌∷◌, ◌++◌, length, Some, slice_get, refl, sym, ap, ◌∙◌, subst, inl, inr, ◌⊎◌, arith}
use Rattle.seq.proofs.Truth.{neither_left, neither_right}
use Rattle.seq.proofs.Order.{eq_from}
use Rattle.grin_syntax.specs.declared.program.VarId.{VarId}
use Rattle.grin_syntax.specs.declared.program.Target.TheVariants as to
use Rattle.grin_syntax.specs.declared.program.Val as V
use Rattle.grin_syntax.specs.declared.program.Word as W
use Rattle.grin_syntax.specs.declared.program.Word.TheVariants.{Lit, Var, Global, TagWord}
use Rattle.grin_syntax.specs.Tree.{Code, bind, leaf, fetch, fetch_word, Procedure, Program}
use Rattle.grin_syntax.specs.Binders.{numbers_of, act_vars, code_vars}
use Rattle.grin_syntax.specs.Formed.{AllOf, Scope, InScope, WordFormed, ActFormed}
use Rattle.grin_meaning.specs.Values.{tag, node, words, Env, HeapCell, and_then, padded, Binding, with_vars, word_of, bindings_of}
use Rattle.grin_meaning.specs.Run.{Calls, place_of}
use Rattle.grin_meaning.specs.Follows.{Same}
use Rattle.grin_meaning.specs.Full.{FullState}
use Rattle.grin_meaning.proofs.Back.{CallsBack}
use Rattle.grin_meaning.proofs.Rules.{Relation, Here, Setting, CallsFollow, CodeFollows}
use Rattle.grin_meaning.proofs.Plain.{then_has}
use Rattle.grin_meaning.proofs.OneSided.{left_follows}
use Rattle.pass_ground.specs.Uses.{word_is, code_uses, act_mentions}
use Rattle.fetch_passes.specs.Windows.{owns, outside}
use Rattle.fetch_passes.specs.Names.{Names, DeferredField, as_word, with_hidden}
use Rattle.fetch_passes.specs.Waits.{deferred_fields_of}
use Rattle.fetch_passes.specs.Split.{word_fetches}
use Rattle.pass_ground.proofs.Tests.{never_both}
use Rattle.pass_ground.proofs.Bound.{bound_names}
use Rattle.fetch_passes.proofs.Found.{is_var, is_waiting, hiding_is}
use Rattle.fetch_passes.proofs.Near.{Sound, sound_more, Held, held_more, held_as, Waits, Near}
use Rattle.fetch_passes.proofs.Steps.{bound_each, numbered, node_waits, near_with, near_fetched}
use Rattle.fetch_passes.proofs.Words.{Clear, word_goes}
use Rattle.fetch_passes.proofs.Waiting.{waits_outside, waits_in, waits_too, waits_some, outside_uses, both_own, sound_new, sound_hiding}
use Rattle.fetch_passes.proofs.Fetching.{Fetches, fetch_gave, plan_of, it, kept_follows, words_follow}
use Rattle.seq.specs.Lists.{times}
use Rattle.seq.proofs.Counted.{counts, times_append, one_at}
use Rattle.fetch_passes.proofs.Pieces.{by_waiting, Ctx, Window, PieceCode, in_more, in_first, low_more, target_new}

module _ (g : Program) (base : ℕ) (procs : List Procedure)
    (same_count : length procs ≡ length g.procs) where
  module _ (c c' : Calls) (cb : CallsBack (FullState g) c) (cf : CallsFollow (plan_of g procs) c c')
    where
      abbrev st : Setting
      st = it g procs c c' cb cf

      abbrev NearR : List ℕ → Names → W.Word → List DeferredField → Relation
      NearR zs ks a ps = λ cells. Near g zs ks [] a ps cells

      module _ (scope : Scope) (ks : Names) (a : W.Word) (ps : List DeferredField) (n : ℕ)
          (x : Ctx g base scope.words ks a ps n) (t : ℕ) (v : VarId) (vs : List VarId) (d : W.Word)
          (b : Code)
          (q : PieceCode g base scope (bind (to.Vector (v ∷ vs)) (leaf (fetch d)) b))
          (w : Window g base scope.words ks ps t
          (λ z. code_uses z (bind (to.Vector (v ∷ vs)) (leaf (fetch d)) b))
          (λ z. outside t z (bind (to.Vector (v ∷ vs)) (leaf (fetch d)) b))) where
        abbrev ws : List DeferredField
        ws = deferred_fields_of v.0 b 1 vs

        abbrev ys : List ℕ
        ys = numbers_of (v ∷ vs)

        abbrev zs : List ℕ
        zs = ys ++ scope.words

        abbrev ks2 : Names
        ks2 = with_hidden ws ks

        abbrev own : Bool
        own = owns v.0 b

        abbrev a2 : W.Word
        a2 = cond own (as_word ks d) a

        abbrev ps2 : List DeferredField
        ps2 = cond own ws ps

        abbrev t2 : ℕ
        t2 = cond own v.0 t

        clear_word : Clear ks (λ z. word_is z d)
        unfolding act_mentions outside
        clear_word = by_waiting ks ps (λ z. word_is z d)
            (λ z e i. neither_left (word_is z.0 d) (code_uses z.0 b) (w.hidden z e i))
            (λ z i. neither_left (word_is z d) (outside t z b) (w.waits z i))

        hidden_on : (z : VarId) → is_var (as_word ks (Var z)) ≡ false → is_waiting ps z.0 ≡ false
            → code_uses z.0 b ≡ false
        unfolding act_mentions
        hidden_on z e i = neither_right (word_is z.0 d) (code_uses z.0 b) (w.hidden z e i)

        waits_on : (z : ℕ) → is_waiting ps z ≡ true → outside t z b ≡ false
        unfolding act_mentions outside
        waits_on z i = neither_right (word_is z d) (outside t z b) (w.waits z i)

        fresh : (y : ℕ) → InScope ys y → times y scope.words ≡ 0 × y < base
        fresh = target_new g base (to.Vector (v ∷ vs)) (leaf (fetch d)) b scope q

        low2 : (y : ℕ) → InScope zs y → y < base
        low2 = low_more g base ys scope.words (λ y i. (fresh y i).1) x.low

        distinct : (y : ℕ) → times y ys ≤ 1
        unfolding act_vars
        distinct y =
            let o : times y scope.words + times y (ys ++ ([] ++ code_vars b)) ≤ 1 = q.once y in
            let e : times y (ys ++ ([] ++ code_vars b)) ≡ times y ys + times y ([] ++ code_vars b)
            = times_append y ys ([] ++ code_vars b) in
            omega (arith, o, e)

        rest_in : (y : ℕ) → InScope (numbers_of vs) y → InScope ys y
        rest_in y i = omega (arith, i)

        first_in : InScope ys v.0
        first_in = let e : counts (nat_eq v.0 v.0) ≡ 1 = one_at v.0 in omega (arith, e)

        first_alone : times v.0 (numbers_of vs) ≡ 0
        first_alone = let e : counts (nat_eq v.0 v.0) ≡ 1 = one_at v.0 in let o : times v.0 ys ≤ 1
            = distinct v.0 in omega (arith, e, o)

        sound2 : Sound base n zs ks2
        sound2 = sound_hiding base n zs ks ws
            (sound_more base n n scope.words zs ks (omega arith) (in_more g base ys scope.words)
            x.sound)
            (λ z i. in_first g base ys scope.words z (rest_in z (waits_in v.0 b 1 vs z i)))

        -- a held word of what was there has none of the new variables
        apart : (u : W.Word) → Held base n scope.words u → (y : ℕ) → word_is y u ≡ true
            → times y ys ≡ 0
        apart u h y e = go (times y ys) refl (h y e)
          where
            go : (m : ℕ) → times y ys ≡ m → InScope scope.words y ⊎ (base ≤ y × y < n)
                → times y ys ≡ 0
            go zero r k = r
            go (suc m) r (inl i) = let f : times y scope.words ≡ 0 = (fresh y (omega (arith, r))).0
                in absurd (omega (arith, f, i))
            go (suc m) r (inr k) = let f : y < base = (fresh y (omega (arith, r))).1 in let l
                : base ≤ y = k.0 in absurd (omega (arith, f, l))

        held_word : Held base n scope.words (as_word ks d)
        unfolding ActFormed
        held_word = held_as base n scope.words ks d x.sound (λ y e. in_scope d q.formed.0 y e)
          where
            in_scope : (u : W.Word) → WordFormed g scope u → (y : ℕ) → word_is y u ≡ true
                → InScope scope.words y
            in_scope (Var z) f y e = subst (InScope scope.words) (eq_from z.0 y e) f
            in_scope (Lit k) f y e = cc
            in_scope (Global k) f y e = cc
            in_scope (TagWord k) f y e = cc

        held2 : Held base n scope.words a2
        held2 = go own
          where
            go : (o : Bool) → Held base n scope.words (cond o (as_word ks d) a)
            go true = held_word
            go false = x.held

        waiting_ws : (us : List VarId) (i : ℕ) →
            ((y : ℕ) → InScope (numbers_of us) y → InScope zs y)
            → AllOf (λ p. InScope zs p.var.0) (deferred_fields_of v.0 b i us)
        waiting_ws us i f = waits_some (λ p. InScope zs p.var.0) v.0 b i us numbered
            (λ i x xs. refl)
            (all_in us i f)
          where
            all_in : (us : List VarId) (i : ℕ) →
                ((y : ℕ) → InScope (numbers_of us) y → InScope zs y)
                → AllOf (λ p. InScope zs p.var.0) (numbered i us)
            all_in [] i f = tt
            all_in (u ∷ us) i f = (
              f u.0 (let e : counts (nat_eq u.0 u.0) ≡ 1 = one_at u.0 in omega (arith, e)),
              all_in us (suc i) (λ y k. f y (omega (arith, k))),
            )

        pub ctx2 : (m : ℕ) → n ≤ m → Ctx g base zs ks2 a2 ps2 m
        ctx2 m le = record {
          low = low2;
          sound = sound_more base n m zs zs ks2 le (λ y i. i) sound2;
          from = omega (arith, le, x.from);
          held = held_more base n m scope.words zs a2 le (in_more g base ys scope.words) held2;
          waiting = go own;
        }
          where
            old : (qs : List DeferredField) → AllOf (λ p. InScope scope.words p.var.0) qs
                → AllOf (λ p. InScope zs p.var.0) qs
            old [] h = tt
            old (p ∷ qs) h = (in_more g base ys scope.words p.var.0 h.0, old qs h.1)

            go : (o : Bool) → AllOf (λ p. InScope zs p.var.0) (cond o ws ps)
            go true = waiting_ws vs 1 (λ y i. in_first g base ys scope.words y (rest_in y i))
            go false = old ps x.waiting

        -- where the case on v comes next, the one on t does not
        not_both : (z : ℕ) → is_waiting ps z ≡ true → own ≡ true → owns t b ≡ false
        not_both z i o = go (owns t b) refl
          where
            go : (p : Bool) → owns t b ≡ p → p ≡ false
            go false e = refl
            go true e =
                let s : t ≡ v.0 = both_own t v.0 b e o in
                let f : times v.0 scope.words ≡ 0 = (fresh v.0 first_in).0 in
                let k : InScope scope.words t = w.tagged z i in
                let l : InScope scope.words v.0 = subst (InScope scope.words) s k
                in absurd (omega (arith, f, l))

        pub window2 : Window g base zs ks2 ps2 t2 (λ z. code_uses z b) (λ z. outside t2 z b)
        window2 = record {
          hidden = λ z e i. hid z e i own refl;
          waits = λ z i. wait z own i;
          tagged
              = λ z i. tagged z own i;
        }
          where
            wait : (z : ℕ) (o : Bool) → is_waiting (cond o ws ps) z ≡ true
                → outside (cond o v.0 t) z b ≡ false
            wait z true i = waits_outside v.0 b 1 vs z i
            wait z false i = waits_on z i

            tagged : (z : ℕ) (o : Bool) → is_waiting (cond o ws ps) z ≡ true
                → InScope zs (cond o v.0 t)
            tagged z true i = in_first g base ys scope.words v.0 first_in
            tagged z false i = in_more g base ys scope.words t (w.tagged z i)

            old : (z : VarId) → is_var (as_word ks (Var z)) ≡ false → (o : Bool) → own ≡ o
                → is_waiting (cond o ws ps) z.0 ≡ false → (p : Bool) → is_waiting ps z.0 ≡ p
                → code_uses z.0 b ≡ false
            old z e o r i false k = hidden_on z e k
            old z e true r i true k = sym (outside_uses t z.0 b (not_both z.0 k r)) ∙ waits_on z.0 k
            old z e false r i true k = never_both k i

            hid : (z : VarId) → is_var (as_word ks2 (Var z)) ≡ false → is_waiting ps2 z.0 ≡ false
                → (o : Bool) → own ≡ o → code_uses z.0 b ≡ false
            hid z e i o r = at (is_waiting ws z.0) refl o r
                (ap (λ o. is_waiting (cond o ws ps) z.0) (sym r) ∙ i)
              where
                at : (m : Bool) → is_waiting ws z.0 ≡ m → (o : Bool) → own ≡ o
                    → is_waiting (cond o ws ps) z.0 ≡ false → code_uses z.0 b ≡ false
                at true k true r i = never_both k i
                at true k false r i = sym (outside_uses v.0 z.0 b r) ∙ waits_outside v.0 b 1 vs z.0
                    k
                at false k o r i = old z
                    (ap is_var
                    (sym (hiding_is ws ks z ∙ ap (λ m. cond m (Lit (pos 0)) (as_word ks (Var z)))
                    k))
                    ∙ e) o r i (is_waiting ps z.0) refl

        -- what stands for the variables of the node
        stays_new : (y : VarId) → InScope ys y.0 → is_waiting ws y.0 ≡ false
            → as_word ks2 (Var y) ≡ Var y
        stays_new y i k = hiding_is ws ks y ∙ ap (λ m. cond m (Lit (pos 0)) (as_word ks (Var y))) k
            ∙
            sound_new base n scope.words ks x.sound y (fresh y.0 i).0

        not_waiting : (y : ℕ) → outside v.0 y b ≡ true → is_waiting ws y ≡ false
        not_waiting y o = go (is_waiting ws y) refl
          where
            go : (m : Bool) → is_waiting ws y ≡ m → m ≡ false
            go true k = never_both o (waits_outside v.0 b 1 vs y k)
            go false k = refl

        tag_stays : is_waiting ws v.0 ≡ false
        tag_stays = go (is_waiting ws v.0) refl
          where
            go : (m : Bool) → is_waiting ws v.0 ≡ m → m ≡ false
            go true k =
                (let i : InScope (numbers_of vs) v.0 = waits_in v.0 b 1 vs v.0 k
                in absurd (omega (arith, i, first_alone)))
            go false k = refl

        -- once the first has fetched the node
        fetched : (h : Here (plan_of g procs) (NearR scope.words ks a ps)) (bs : List Binding)
            (i : ℕ)
            (y : HeapCell) → and_then (word_of g h.env d) place_of ≡ Some i
            → slice_get h.w.cells i ≡ Some y → bindings_of g (to.Vector (v ∷ vs)) (node y.node) ≡
            Some
            bs
            → Near g zs ks2 ys a2 ps2 h.w.cells (with_vars bs h.env) h.env'
            × AllOf (Waits g (as_word ks d) h.w.cells (with_vars bs h.env) h.env')
            (numbered 0 (v ∷ vs))
        unfolding ActFormed
        fetched h bs i y p r e =
            let place : and_then (word_of g h.env' (as_word ks d)) place_of ≡ Some i
            = then_has (word_of g h.env d) (word_of g h.env' (as_word ks d)) place_of place_of i
            (word_goes g scope ks base n x.sound a ps h.w.cells h.env h.env' h.related d
            q.formed.0 clear_word) (λ d q. q) p in
            let all : AllOf (Waits g (as_word ks d) h.w.cells (with_vars bs h.env) h.env')
            (numbered 0 (v ∷ vs))
            = node_waits g (as_word ks d) h.w.cells (with_vars bs h.env) h.env' i y place r v vs
            (bound_each (v ∷ vs) (padded (suc (length vs)) (tag y.node.tag ∷ y.node.fields)) bs
            h.env e distinct) in
            let near : Near g zs ks2 ys a ps h.w.cells (with_vars bs h.env) h.env'
            = near_fetched g scope.words ks a ps ws h.w.cells h.env h.env' bs ys
            (bound_names g (to.Vector (v ∷ vs)) (node y.node) bs e) old x.waiting h.related in (
              near_with g zs ks2 ys a a2 ps ps2 h.w.cells (with_vars bs h.env) h.env'
                  (go own all near.waits) near,
              all,
            )
          where
            old : (y : ℕ) → InScope scope.words y → times y ys ≡ 0
            old y k = at (times y ys) refl
              where
                at : (m : ℕ) → times y ys ≡ m → m ≡ 0
                at zero r = refl
                at (suc m) r = let f : times y scope.words ≡ 0 = (fresh y (omega (arith, r))).0
                    in absurd (omega (arith, f, k))

            go : {env env' : Env} {cells : List HeapCell} (o : Bool)
                → AllOf (Waits g (as_word ks d) cells env env') (numbered 0 (v ∷ vs))
                → AllOf (Waits g a cells env env') ps
                → AllOf (Waits g (cond o (as_word ks d) a) cells env env') (cond o ws ps)
            go {env} {env'} {cells} true all old = waits_some
                (Waits g (as_word ks d) cells env env')
                v.0 b 1 vs numbered (λ i x xs. refl) all.1
            go false all old = old

        pub node_bind : (b' : Code) → CodeFollows st (NearR zs ks2 a2 ps2) Same b b'
            → CodeFollows st (NearR scope.words ks a ps) Same
            (bind (to.Vector (v ∷ vs)) (leaf (fetch d)) b)
            (bind (to.One v) (leaf (fetch_word (as_word ks d) 0))
            (word_fetches v.0 b (as_word ks d) 1 vs b'))
        node_bind b' f = left_follows st {R = NearR scope.words ks a ps}
            {R' = λ cells env env'. Near g zs ks2 ys a2 ps2 cells env env'
            × AllOf (Waits g (as_word ks d) cells env env') (numbered 0 (v ∷ vs))} {V = Same}
            (to.Vector (v ∷ vs)) (leaf (fetch d)) b
            (bind (to.One v) (leaf (fetch_word (as_word ks d) 0))
            (word_fetches v.0 b (as_word ks d) 1 vs b')) tt
            (kept_follows g procs c c' cb cf base n zs low2 ks2 sound2 (as_word ks d) a2 ps2 v 0
            (numbers_of vs) (numbered 1 vs) b (word_fetches v.0 b (as_word ks d) 1 vs b')
            (fresh v.0 first_in).1 (stays_new v first_in tag_stays)
            (λ y e. first_not y (apart (as_word ks d) held_word y e))
            (λ y e. first_not y (apart a2 held2 y e))
            (words_follow g procs c c' cb cf base n zs low2 ks2 sound2 (as_word ks d) a2 ps2 v.0 b
            vs
            1 b b' (λ y i. (fresh y.0 (rest_in y.0 i)).1)
            (λ y i o. stays_new y (rest_in y.0 i) (not_waiting y.0 o))
            (λ y i o. ap is_var
            (hiding_is ws ks y ∙ ap (λ m. cond m (Lit (pos 0)) (as_word ks (Var y)))
            (waits_too v.0 b 1 vs y.0 i o)))
            (λ y e. rest_not y (apart (as_word ks d) held_word y e))
            (λ y e. rest_not y (apart a2 held2 y e)) f))
            (λ h u bs e l r at.
            (let z : Fetches g h.env d h.w (λ y. node y.node) u h.w
            = fetch_gave g c h.env (suc h.d) d h.w h.w u e
            in fetched h bs z.i z.y z.place z.there
            (ap (bindings_of g (to.Vector (v ∷ vs))) (sym z.value) ∙ r)))
          where
            rest_not : (y : ℕ) → times y ys ≡ 0 → times y (numbers_of vs) ≡ 0
            rest_not y e = omega (arith, e)

            first_not : (y : ℕ) → times y ys ≡ 0 → y ≢ v.0
            first_not y e s = let k : times v.0 ys ≡ 0 = ap (λ z. times z ys) (sym s) ∙ e
                in absurd (omega (arith, k, first_in))
