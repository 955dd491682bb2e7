-- Steps of the two programs with fetches, side by side.
use Rattle.std.proofs.Common.{◌≡◌, ◌≢◌, ℕ, suc, ◌<◌, ◌≤◌, Bool, true, false, nat_eq, List, [], ◌∷◌, Option, Some, None, slice_get, refl, sym, ap, ◌∙◌, arith}
use Rattle.grin_syntax.specs.declared.program.VarId.{VarId}
use Rattle.grin_syntax.specs.declared.program.Target.TheVariants as to
use Rattle.grin_syntax.specs.declared.program.Word as W
use Rattle.grin_syntax.specs.declared.program.Word.TheVariants.{Var}
use Rattle.grin_syntax.specs.Tree.{Code, bind, leaf, fetch, fetch_word, Procedure, Program}
use Rattle.grin_syntax.specs.Binders.{numbers_of}
use Rattle.grin_syntax.specs.Formed.{AllOf, InScope}
use Rattle.grin_syntax.specs.Fresh.{variable}
use Rattle.grin_meaning.specs.Values.{Datum, Value, node, words, Env, HeapCell, World, gives, need, and_then, word_of}
use Rattle.grin_meaning.specs.Run.{Calls, act_by, node_word, place_of}
use Rattle.grin_meaning.specs.Follows.{Same}
use Rattle.grin_meaning.specs.Full.{FullState}
use Rattle.grin_meaning.proofs.Back.{CallsBack}
use Rattle.grin_meaning.proofs.Beside.{no_deeper, Beside, beside}
use Rattle.grin_meaning.proofs.Rules.{Relation, Plan, Setting, CallsFollow, CodeFollows, code_more}
use Rattle.grin_meaning.proofs.Procedures.{side_by_side}
use Rattle.grin_meaning.proofs.OneSided.{right_follows}
use Rattle.pass_ground.specs.Uses.{word_is, code_uses}
use Rattle.fetch_passes.specs.Windows.{outside}
use Rattle.fetch_passes.specs.Names.{Names, DeferredField, as_word, named_if}
use Rattle.fetch_passes.specs.Split.{fetched_if, word_fetches, front, front_names}
use Rattle.fetch_passes.proofs.Found.{is_var, naming}
use Rattle.fetch_passes.proofs.Near.{Sound, sound_more, Held, held_more, Waits, Near, waits_more}
use Rattle.fetch_passes.proofs.Steps.{plus, plus_out, numbered, near_dropped, near_hidden, near_kept, near_named}
use Rattle.fetch_passes.proofs.Waiting.{sound_naming}
use Rattle.grin_meaning.proofs.Plain.{same_is}
use Rattle.seq.specs.Lists.{times}
use Rattle.seq.proofs.Counted.{counts, one_at}

-- what a fetch gives, in the world in which it begins
pub record Fetches (g : Program) (env : Env) (a : W.Word) (w : World) (v : HeapCell → Value)
    (x : Value) (w' : World) : Type 0 where
  pub i : ℕ
  pub y : HeapCell
  pub place : and_then (word_of g env a) place_of ≡ Some i
  pub there : slice_get w.cells i ≡ Some y
  pub value : x ≡ v y
  pub world : w' ≡ w

gave : (g : Program) (env : Env) (a : W.Word) (w : World) (v : HeapCell → Value) (x : Value)
    (w' : World) (o : Option ℕ) → and_then (word_of g env a) place_of ≡ o
    → need o w (λ i. need (slice_get w.cells i) w (λ y. gives (v y) w)) ≡ gives x w'
    → Fetches g env a w v x w'
gave g env a w v x w' None q e = cc
gave g env a w v x w' (Some i) q e = go (slice_get w.cells i) refl e
  where
    go : (o : Option HeapCell) → slice_get w.cells i ≡ o
        → need o w (λ y. gives (v y) w) ≡ gives x w' → Fetches g env a w v x w'
    go None r k = cc
    go (Some y) r k = record {
      i = i;
      y = y;
      place = q;
      there = r;
      value = (let h : v y ≡ x = cc in sym h);
      world
          = (let h : w ≡ w' = cc in sym h);
    }

pub fetch_gave : (g : Program) (c : Calls) (env : Env) (d : ℕ) (a : W.Word) (w w' : World)
    (x : Value) → act_by g c true env d (leaf (fetch a)) w ≡ gives x w'
    → Fetches g env a w (λ y. node y.node) x w'
unfolding act_by
fetch_gave g c env d a w w' x e = gave g env a w (λ y. node y.node) x w'
    (and_then (word_of g env a) place_of) refl e

pub fetch_word_gave : (g : Program) (c : Calls) (env : Env) (d : ℕ) (a : W.Word) (k : ℕ)
    (w w' : World) (x : Value) → act_by g c true env d (leaf (fetch_word a k)) w ≡ gives x w'
    → Fetches g env a w (λ y. words (node_word y.node k ∷ [])) x w'
unfolding act_by
fetch_word_gave g c env d a k w w' x e = gave g env a w (λ y. words (node_word y.node k ∷ [])) x w'
    (and_then (word_of g env a) place_of) refl e

pub fetches : (g : Program) (c : Calls) (env : Env) (d : ℕ) (a : W.Word) (k : ℕ) (w : World) (i : ℕ)
    (y : HeapCell) → and_then (word_of g env a) place_of ≡ Some i → slice_get w.cells i ≡ Some y
    → act_by g c true env d (leaf (fetch_word a k)) w ≡ gives (words (node_word y.node k ∷ [])) w
unfolding act_by
fetches g c env d a k w i y p t = ap
    (λ o. need o w
    (λ i. need (slice_get w.cells i) w (λ y. gives (words (node_word y.node k ∷ [])) w))) p ∙ ap
    (λ o. need o w (λ y. gives (words (node_word y.node k ∷ [])) w)) t

-- arguments, results and heaps are the same
abbrev pub plan_of : Program → List Procedure → Plan
plan_of g procs = record {
  looks = true;
  K = no_deeper;
  P = FullState g;
  Args = λ f. Same;
  Result = λ f. Same;
  g
      = g;
  procs = procs;
}

module _ (g : Program) (procs : List Procedure) (c c' : Calls) (cb : CallsBack (FullState g) c)
    (cf : CallsFollow (plan_of g procs) c c') where
  abbrev pub it : Setting
  it = side_by_side (plan_of g procs) c c' cb cf

  pub cells_same : {w : World} (b : Beside no_deeper w) → b.cells ≡ w.cells
  cells_same b = same_is b.heaps

  -- the second fetches a word alone
  pub right_word : {R R' : Relation} (x : VarId) (a : W.Word) (p : DeferredField) (b b' : Code)
      → CodeFollows it R' Same b b'
      → ((cells : List HeapCell) (env env' : Env) → R cells env env'
      → (w : Waits g a cells env env' p) × R' cells env
      (plus x.0 (node_word w.y.node p.place) env'))
      → CodeFollows it R Same b (bind (to.One x) (leaf (fetch_word a p.place)) b')
  right_word {R} {R'} x a p b b' f r = right_follows it {R = R} {R' = R'} {V = Same} (to.One x)
      (leaf (fetch_word a p.place)) b b' f (λ h.
      let z : (w : Waits g a h.w.cells h.env h.env' p)
      × R' h.w.cells h.env (plus x.0 (node_word w.y.node p.place) h.env')
      = r h.w.cells h.env h.env' h.related in
      record {
        v' = words (node_word z.0.y.node p.place ∷ []);
        bs' = (x.0, words (node_word z.0.y.node p.place ∷ [])) ∷ [];
        gave = fetches (record g { procs = procs }) c' h.env' (suc h.d') a p.place (beside h.b)
            z.0.i z.0.y z.0.place (ap (λ cs. slice_get cs z.0.i) (cells_same h.b) ∙ z.0.there);
        seen = λ _. refl;
        binds = refl;
        related = z.1;
      })

  module _ (base n : ℕ) (zs : List ℕ) (low : (y : ℕ) → InScope zs y → y < base) where
    module _ (ks : Names) (sound : Sound base n zs ks) (a a2 : W.Word) (ps : List DeferredField)
      where
        -- the second lacks these, and has not fetched these words of the cell a
        abbrev pub Mid : List ℕ → List DeferredField → Relation
        Mid lacks ws = λ cells env env'. Near g zs ks lacks a2 ps cells env env'
            × AllOf (Waits g a cells env env') ws

        waits_on : (x : VarId) (d : Datum) (b : W.Word) (cells : List HeapCell) (env env' : Env)
            → ((y : ℕ) → word_is y b ≡ true → y ≢ x.0) → (ws : List DeferredField)
            → AllOf (Waits g b cells env env') ws → AllOf (Waits g b cells env (plus x.0 d env')) ws
        waits_on x d b cells env env' f ws h = waits_more g b cells env env' env (plus x.0 d env')
            (λ y k. plus_out x.0 d env' y (f y k)) ws (all_same ws) h
          where
            all_same : (qs : List DeferredField) → AllOf (λ p. env p.var.0 ≡ env p.var.0) qs
            all_same [] = tt
            all_same (q ∷ qs) = (refl, all_same qs)

        -- the second fetches the next word
        pub kept_follows : (x : VarId) (k : ℕ) (lacks : List ℕ) (ws : List DeferredField)
            (b b' : Code) → x.0 < base → as_word ks (Var x) ≡ Var x
            → ((y : ℕ) → word_is y a ≡ true → y ≢ x.0) → ((y : ℕ) → word_is y a2 ≡ true → y ≢ x.0)
            → CodeFollows it (Mid lacks ws) Same b b'
            → CodeFollows it (Mid (x.0 ∷ lacks) (record { var = x; place = k } ∷ ws)) Same b
            (bind (to.One x) (leaf (fetch_word a k)) b')
        kept_follows x k lacks ws b b' lt own f f2 h = right_word
            {R = Mid (x.0 ∷ lacks) (record { var = x; place = k } ∷ ws)} {R' = Mid lacks ws} x a
            (record { var = x; place = k }) b b' h (λ cells env env' r. (
              r.1.0,
              (
                near_kept g base n zs ks sound low x k lacks a2 a ps cells env env' r.1.0 lt own f2
                    r.0,
                waits_on x (node_word r.1.0.y.node k) a cells env env' f ws r.1.1,
              ),
            ))

        -- directly after the tag
        pub words_follow : (t : ℕ) (bt : Code) (xs : List VarId) (i : ℕ) (b b' : Code)
            → ((y : VarId) → InScope (numbers_of xs) y.0 → y.0 < base)
            → ((y : VarId) → InScope (numbers_of xs) y.0 → outside t y.0 bt ≡ true
            → as_word ks (Var y) ≡ Var y) →
            ((y : VarId) → InScope (numbers_of xs) y.0 → outside t y.0 bt ≡ false
            → is_var (as_word ks (Var y)) ≡ false)
            → ((y : ℕ) → word_is y a ≡ true → times y (numbers_of xs) ≡ 0)
            → ((y : ℕ) → word_is y a2 ≡ true → times y (numbers_of xs) ≡ 0)
            → CodeFollows it (λ cells. Near g zs ks [] a2 ps cells) Same b b'
            → CodeFollows it (Mid (numbers_of xs) (numbered i xs)) Same b
            (word_fetches t bt a i xs b')
        words_follow t bt [] i b b' lt kept gone f f2 h
            = code_more it {R = λ cells. Near g zs ks [] a2 ps cells} {R' = Mid [] []} b b'
            (λ cells env env' r. r.0) (λ v v' u. u) h
        words_follow t bt (x ∷ xs) i b b' lt kept gone f f2 h = go (outside t x.0 bt) refl
            (words_follow t bt xs (suc i) b b' (λ y k. lt y (later y.0 k))
            (λ y k. kept y (later y.0 k)) (λ y k. gone y (later y.0 k)) (λ y k. rest y (f y k))
            (λ y k. rest y (f2 y k)) h)
          where
            later : (y : ℕ) → InScope (numbers_of xs) y → InScope (x.0 ∷ numbers_of xs) y
            later y k = omega (arith, k)

            rest : (y : ℕ) → times y (x.0 ∷ numbers_of xs) ≡ 0 → times y (numbers_of xs) ≡ 0
            rest y k = omega (arith, k)

            first : InScope (x.0 ∷ numbers_of xs) x.0
            first = let e : counts (nat_eq x.0 x.0) ≡ 1 = one_at x.0 in omega (arith, e)

            other : (y : ℕ) → times y (x.0 ∷ numbers_of xs) ≡ 0 → y ≢ x.0
            other y k q = let e : times x.0 (x.0 ∷ numbers_of xs) ≡ 0
                = ap (λ z. times z (x.0 ∷ numbers_of xs)) (sym q) ∙ k
                in absurd (omega (arith, e, first))

            go : (o : Bool) → outside t x.0 bt ≡ o → CodeFollows it
                (Mid (numbers_of xs) (numbered (suc i) xs)) Same b
                (word_fetches t bt a (suc i) xs b')
                → CodeFollows it (Mid (numbers_of (x ∷ xs)) (numbered i (x ∷ xs))) Same b
                (fetched_if o x a i (word_fetches t bt a (suc i) xs b'))
            go true q r = kept_follows x i (numbers_of xs) (numbered (suc i) xs) b
                (word_fetches t bt a (suc i) xs b') (lt x first) (kept x first q)
                (λ y k. other y (f y k)) (λ y k. other y (f2 y k)) r
            go false q r = code_more it {R = Mid (numbers_of xs) (numbered (suc i) xs)}
                {R' = Mid (numbers_of (x ∷ xs)) (numbered i (x ∷ xs))} b
                (word_fetches t bt a (suc i) xs b')
                (λ cells env env' m. (
                  near_hidden g zs ks x (numbers_of xs) a2 ps cells env env' (gone x first q) m.0,
                  m.1.1,
                )) (λ v v' u. u) r

  -- at the front of an alternative
  pub front_follows : (base n : ℕ) (zs : List ℕ) (low : (y : ℕ) → InScope zs y → y < base)
      (ks : Names) (a : W.Word) (ps : List DeferredField) (bt b b' : Code) → Sound base n zs ks
      → base ≤ n → Held base n zs a → AllOf (λ p. InScope zs p.var.0) ps
      → CodeFollows it (λ cells. Near g zs (front_names n ps bt ks) [] a [] cells) Same b b'
      → CodeFollows it (λ cells. Near g zs ks [] a ps cells) Same b (front a n ps bt b')
  front_follows base n zs low ks a [] bt b b' s le held i f = f
  front_follows base n zs low ks a (p ∷ ps) bt b b' s le held i f = go (code_uses p.var.0 bt)
      (λ r. front_follows base (suc n) zs low (named_if (code_uses p.var.0 bt) p.var n ks) a ps bt b
      b' r (omega (arith, le)) (held_more base n (suc n) zs zs a (omega arith) (λ y k. k) held)
      i.1 f)
    where
      go : (o : Bool) →
          (Sound base (suc n) zs (named_if o p.var n ks)
          → CodeFollows it (λ cells. Near g zs (named_if o p.var n ks) [] a ps cells) Same b
          (front a (suc n) ps bt b'))
          → CodeFollows it (λ cells. Near g zs ks [] a (p ∷ ps) cells) Same b
          (fetched_if o (variable n) a p.place (front a (suc n) ps bt b'))
      go true r = right_word {R = λ cells. Near g zs ks [] a (p ∷ ps) cells}
          {R' = λ cells. Near g zs (naming p.var n ks) [] a ps cells} (variable n) a p b
          (front a (suc n) ps bt b') (r (sound_naming base n zs ks p.var s le i.0))
          (λ cells env env' m.
          (m.waits.0, near_named g base n zs ks s low p a ps cells env env' m le held))
      go false r = code_more it {R = λ cells. Near g zs ks [] a ps cells}
          {R' = λ cells. Near g zs ks [] a (p ∷ ps) cells} b (front a (suc n) ps bt b')
          (λ cells env env' m. near_dropped g zs ks [] a p ps cells env env' m) (λ v v' u. u)
          (r (sound_more base n (suc n) zs zs ks (omega arith) (λ y k. k) s))
