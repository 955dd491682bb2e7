-- A fetch that ends a block, against fetches of all words and a case over all tags.
use Rattle.std.proofs.Common.{◌≡◌, ◌≢◌, ℕ, zero, suc, ◌+◌, ◌<◌, ◌≤◌, Bool, true, false, cond, nat_eq, nat_le, take, List, [], ◌∷◌, ◌++◌, map, length, Option, Some, None, slice_get, refl, sym, ap, ◌∙◌, subst, arith}
use Rattle.std.proofs.lemmas.Bool.Decides.{nat_tests}
use Rattle.seq.proofs.Order.{eq_self, eq_false}
use Rattle.seq.proofs.Lists.{all_get}
use Rattle.grin_syntax.specs.declared.program.VarId.{VarId}
use Rattle.grin_syntax.specs.declared.program.Tag.{Tag}
use Rattle.grin_syntax.specs.declared.program.Target.TheVariants as to
use Rattle.grin_syntax.specs.declared.program.Shape.TheVariants as shape
use Rattle.grin_syntax.specs.declared.program.Val.TheVariants.{Node as NodeVal, Vector}
use Rattle.grin_syntax.specs.declared.program.Word as W
use Rattle.grin_syntax.specs.declared.program.Word.TheVariants.{Var}
use Rattle.grin_syntax.specs.Tree.{Code, end, leaf, unit, fetch, fetch_word, case, Procedure, Program}
use Rattle.grin_syntax.specs.Tags.{tag_id}
use Rattle.grin_syntax.specs.Fresh.{variable, variables}
use Rattle.grin_meaning.specs.Values.{Datum, Node, Value, node, words, Env, HeapCell, World, gives, need, and_then, only_word, with_vars, MatchOutcome, fits, fits_not, unclear, node_fit, made_node, as_node, fit_of, word_of, words_of, value_of}
use Rattle.grin_meaning.specs.Run.{Calls, act_by, code_by, arms_by, choose, with_state_seen, node_word, nth_or_zero, place_of}
use Rattle.grin_meaning.specs.Ready.{most_fields}
use Rattle.grin_meaning.specs.Follows.{Same, same}
use Rattle.grin_meaning.specs.Full.{FullState, FullCell, FullNode}
use Rattle.grin_meaning.proofs.Back.{CallsBack}
use Rattle.grin_meaning.proofs.Beside.{no_deeper, beside, gives_too, Sim, need_first}
use Rattle.grin_meaning.proofs.Rules.{Relation, Here, Setting, CallsFollow, ActFollows, CodeFollows, end_follows}
use Rattle.grin_meaning.proofs.OneSided.{right_follows}
use Rattle.fetch_passes.specs.Split.{fetch_all_words, node_arms, whole_node}
use Rattle.fetch_passes.proofs.Steps.{plus, plus_out, plus_in}
use Rattle.fetch_passes.proofs.Fetching.{fetches, plan_of, it, cells_same}
use Rattle.grin_meaning.proofs.Fields.{fields_fit}

-- so many words of a node, from the j-th on
abbrev pub words_from : Node → ℕ → ℕ → List Datum
words_from n j zero = []
words_from n j (suc m) = node_word n j ∷ words_from n (suc j) m

words_length : (n : Node) (j m : ℕ) → length (words_from n j m) ≡ m
words_length n j zero = refl
words_length n j (suc m) = let e : length (words_from n (suc j) m) ≡ m = words_length n (suc j) m
    in omega (arith, e)

fields_taken : (n : Node) (fs : List Datum) (j m : ℕ)
    → ((i : ℕ) → nth_or_zero n.fields (j + i) ≡ nth_or_zero fs i) → length fs ≤ m
    → take (length fs) (words_from n (suc j) m) ≡ fs
fields_taken n [] j m f le = refl
fields_taken n (d ∷ fs) j zero f le = absurd (omega (arith, le))
fields_taken n (d ∷ fs) j (suc m) f le =
    let e : j + 0 ≡ j = omega arith in
    λ i. (ap (nth_or_zero n.fields) (sym e) ∙ f 0) i ∷ fields_taken n fs (suc j) m
    (λ i. (let k : suc j + i ≡ j + suc i = omega arith in ap (nth_or_zero n.fields) k) ∙ f
    (suc i)) (omega (arith, le)) i

module _ (g : Program) where
  words_taken : (env : Env) (xs : List VarId) (ds : List Datum) (k : ℕ)
      → words_of g env (map Var xs) ≡ Some ds → words_of g env (map Var (take k xs)) ≡ Some
      (take k ds)
  words_taken env xs ds zero e = refl
  words_taken env [] ds (suc k) e = let h : [] ≡ ds = cc in ap (λ l. Some (take (suc k) l)) h
  words_taken env (x ∷ xs) ds (suc k) e = go (word_of g env (Var x)) refl
      (words_of g env (map Var xs)) refl e (λ es q. words_taken env xs es k q)
    where
      go : (o : Option Datum) → word_of g env (Var x) ≡ o → (r : Option (List Datum))
          → words_of g env (map Var xs) ≡ r → and_then o (λ d. and_then r (λ es. Some (d ∷ es))) ≡
          Some ds
          → ((es : List Datum) → words_of g env (map Var xs) ≡ Some es
          → words_of g env (map Var (take k xs)) ≡ Some (take k es))
          → words_of g env (map Var (take (suc k) (x ∷ xs))) ≡ Some (take (suc k) ds)
      go None p r q e f = cc
      go (Some d) p None q e f = cc
      go (Some d) p (Some es) q e f =
          let h : d ∷ es ≡ ds = cc in
          (λ i. and_then (p i) (λ b. and_then (f es q i) (λ bs. Some (b ∷ bs)))) ∙ ap
          (λ l. Some (take (suc k) l)) h

  module _ (procs : List Procedure) (c c' : Calls) (cb : CallsBack (FullState g) c)
      (cf : CallsFollow (plan_of g procs) c c') (d a : W.Word) where
    abbrev st : Setting
    st = it g procs c c' cb cf

    abbrev h : Program
    h = record g { procs = procs }

    -- the node that the first fetches, of which the second has these words
    record Known (n j : ℕ) (cells : List HeapCell) (env env' : Env) : Type 0 where
      i : ℕ
      y : HeapCell
      first : and_then (word_of g env d) place_of ≡ Some i
      there : slice_get cells i ≡ Some y
      second : and_then (word_of g env' a) place_of ≡ Some i
      have : (k : ℕ) → k < j → env' (n + k) ≡ Some (words (node_word y.node k ∷ []))

    words_known : (env' : Env) (y : Node) (n j m z : ℕ) → z ≡ n + j
        → ((k : ℕ) → k < j + m → env' (n + k) ≡ Some (words (node_word y k ∷ [])))
        → words_of g env' (map Var (variables z m)) ≡ Some (words_from y j m)
    words_known env' y n j zero z e f = refl
    words_known env' y n j (suc m) z e f =
        let first : and_then (env' z) only_word ≡ Some (node_word y j)
        = ap (λ u. and_then (env' u) only_word) e ∙ ap (λ o. and_then o only_word)
        (f j (omega arith)) in
        λ i. and_then (first i)
        (λ b. and_then
        (words_known env' y n (suc j) m (suc z) (omega (arith, e))
        (λ k l. f k (omega (arith, l))) i) (λ bs. Some (b ∷ bs)))

    -- the first has not yet fetched
    peek : {R : Relation} (n : ℕ) (b' : Code) →
        ((x : Here (plan_of g procs) R) (i : ℕ) → and_then (word_of g x.env d) place_of ≡ Some i
        → and_then (word_of g x.env' a) place_of ≡ Some i)
        → CodeFollows st (Known n 0) Same (end (leaf (fetch d))) b'
        → CodeFollows st R Same (end (leaf (fetch d))) b'
    unfolding act_by
    peek {R} n b' place f = record {
      by = λ x. need_first (FullState g) no_deeper Same (and_then (word_of g x.env d) place_of) x.w
          _ _ (λ i e. need_first (FullState g) no_deeper Same (slice_get x.w.cells i) x.w _ _
          (λ y r.
          subst (λ q. Sim (FullState g) no_deeper Same q
          (code_by h c' true x.env' x.d' b' (beside x.b))) (there x i y e r)
          (f.by (record {
            env = x.env;
            env' = x.env';
            d = x.d;
            d' = x.d';
            w = x.w;
            b = x.b;
            related
                = record {
                  i = i;
                  y = y;
                  first = e;
                  there = r;
                  second = place x i e;
                  have
                      = λ k l. absurd (omega (arith, l));
                };
            known = x.known;
            nest = x.nest;
          }))));
    }
      where
        there : (x : Here (plan_of g procs) R) (i : ℕ) (y : HeapCell)
            → and_then (word_of g x.env d) place_of ≡ Some i → slice_get x.w.cells i ≡ Some y
            → code_by g c true x.env x.d (end (leaf (fetch d))) x.w ≡ gives (node y.node) x.w
        there x i y e r = ap
            (λ o. need o x.w (λ i. need (slice_get x.w.cells i) x.w (λ y. gives (node y.node) x.w)))
            e ∙ ap (λ o. need o x.w (λ y. gives (node y.node) x.w)) r

    -- the second fetches the words
    words_follow : (n m j z : ℕ) → z ≡ n + j →
        ((env' : Env) (x : ℕ) (e : Datum) → n ≤ x → word_of g (plus x e env') a ≡ word_of g env' a)
        → (b b' : Code) → CodeFollows st (Known n (j + m)) Same b b'
        → CodeFollows st (Known n j) Same b (fetch_all_words a j (variables z m) b')
    words_follow n zero j z e kept b b' f = subst (λ k. CodeFollows st (Known n k) Same b b')
        (let q : j + 0 ≡ j = omega arith in q) f
    words_follow n (suc m) j z e kept b b' f = right_follows st {R = Known n j}
        {R' = Known n (suc j)} {V = Same} (to.One (variable z)) (leaf (fetch_word a j)) b
        (fetch_all_words a (suc j) (variables (suc z) m) b')
        (words_follow n m (suc j) (suc z) (omega (arith, e)) kept b b'
        (subst (λ k. CodeFollows st (Known n k) Same b b')
        (let q : j + suc m ≡ suc j + m = omega arith in q) f))
        (λ x.
        let y : HeapCell = x.related.y in
        let w : Datum = node_word y.node j in
        record {
          v' = words (w ∷ []);
          bs' = (z, words (w ∷ [])) ∷ [];
          gave = fetches h c' x.env' (suc x.d') a j (beside x.b) x.related.i y x.related.second
              (ap (λ cs. slice_get cs x.related.i) (cells_same g procs c c' cb cf x.b) ∙
              x.related.there);
          seen = λ _. refl;
          binds = refl;
          related = record {
            i = x.related.i;
            y = y;
            first = x.related.first;
            there = x.related.there;
            second = ap (λ o. and_then o place_of) (kept x.env' z w (omega (arith, e))) ∙
                x.related.second;
            have = λ k l. more x.env' y k l w refl (λ l. x.related.have k l) (nat_eq k j) refl;
          };
        })
      where
        more : (env' : Env) (y : HeapCell) (k : ℕ) → k < suc j → (w : Datum)
            → w ≡ node_word y.node j →
            (k < j → env' (n + k) ≡ Some (words (node_word y.node k ∷ []))) → (b : Bool)
            → nat_eq k j ≡ b → plus z w env' (n + k) ≡ Some (words (node_word y.node k ∷ []))
        more env' y k l w q f true t =
            let s : k ≡ j = grind (arith, nat_tests) in
            let u : n + k ≡ z = omega (arith, s, e) in
            ap (plus z w env') u ∙ plus_in z w env' ∙ ap (λ v. Some (words (v ∷ [])))
            (q ∙ ap (node_word y.node) (sym s))
        more env' y k l w q f false t =
            let s : k ≢ j = λ s.
            (let r : nat_eq k j ≡ true = grind (arith, nat_tests) in not_both r t) in
            plus_out z w env' (n + k) (λ u. s (omega (arith, u, e))) ∙ f (less s)
          where
            not_both : {A : Type 0} → nat_eq k j ≡ true → nat_eq k j ≡ false → A
            not_both r t = cc

            less : k ≢ j → k < j
            less s = omega (arith, l, s)

    module _ (n : ℕ) (env' : Env) (y : Node) (full : FullNode g y)
        (have : (k : ℕ) → k < suc (most_fields g.tags)
        → env' (n + k) ≡ Some (words (node_word y k ∷ []))) where
      abbrev M : ℕ
      M = most_fields g.tags

      abbrev xs : List VarId
      xs = variables (suc n) M

      few : length y.fields ≤ M
      few = fields_fit g.tags y.tag (length y.fields) full

      all_there : words_of g env' (map Var (variables n (suc M))) ≡ Some (words_from y 0 (suc M))
      all_there = words_known env' y n 0 (suc M) n (omega arith) (λ k l. have k (omega (arith, l)))

      fields_there : words_of g env' (map Var xs) ≡ Some (words_from y 1 M)
      fields_there = words_known env' y n 1 M (suc n) (omega arith)
          (λ k l. have k (omega (arith, l)))

      taken : take (length y.fields) (words_from y 1 M) ≡ y.fields
      taken = fields_taken y y.fields 0 M
          (λ i. (let e : 0 + i ≡ i = omega arith in ap (nth_or_zero y.fields) e)) few

      vector_is : as_node g (words (words_from y 0 (suc M))) ≡ Some y
      vector_is = ap
          (λ o. and_then o
          (λ k. cond (nat_le k (length (words_from y 1 M)))
          (Some (record { tag = y.tag; fields = take k (words_from y 1 M) })) None)) full
          ∙ ap (λ b. cond b
          (Some (record { tag = y.tag; fields = take (length y.fields) (words_from y 1 M) }))
          None) enough
          ∙ ap (λ fs. Some (record { tag = y.tag; fields = fs })) taken
        where
          enough : nat_le (length y.fields) (length (words_from y 1 M)) ≡ true
          enough = let e : length (words_from y 1 M) ≡ M = words_length y 1 M in let l
              : length y.fields ≤ length (words_from y 1 M) = omega (arith, e, few)
              in grind (arith, nat_tests)

      made : (t : ℕ) → t ≡ y.tag → (i : Tag) → i.fields ≡ length y.fields
          → value_of g env' (NodeVal (tag_id t) (map Var (take i.fields xs))) ≡ Some (node y)
      made t e i f =
          ap (λ k. value_of g env' (NodeVal (tag_id t) (map Var (take k xs)))) f
          ∙ ap (λ o. and_then o (λ ds. and_then (made_node g t ds) (λ m. Some (node m))))
          (words_taken env' xs (words_from y 1 M) (length y.fields) fields_there ∙ ap Some
          taken)
          ∙ ap (λ t. and_then (made_node g t y.fields) (λ m. Some (node m))) e
          ∙ ap (λ o. and_then
          (and_then o
          (λ k. cond (nat_eq k (length y.fields))
          (Some (record { tag = y.tag; fields = y.fields })) None)) (λ m. Some (node m))) full
          ∙ ap (λ b. and_then (cond b (Some (record { tag = y.tag; fields = y.fields })) None)
          (λ m. Some (node m))) (eq_self (length y.fields))

      abbrev v' : Value
      v' = words (words_from y 0 (suc M))

      -- one of the alternatives gives the node
      arms_give : (ts : List Tag) (i k : ℕ) (t : Tag) (d' : ℕ) (w : World) → y.tag ≡ i + k
          → slice_get ts k ≡ Some t → t.fields ≡ length y.fields
          → arms_by h c' true env' d' v' (node_arms xs i ts) w ≡ gives (node y)
          (with_state_seen env' w)
      unfolding act_by
      arms_give [] i k t d' w e r f = cc
      arms_give (u ∷ ts) i zero t d' w e r f =
          let s : u ≡ t = cc in
          let q : i ≡ y.tag = omega (arith, e) in
          let z : fit_of h (shape.Node (tag_id i) []) v' ≡ fits []
          = ap (λ o. fit_at o) vector_is ∙ ap (λ b. cond b (fits []) fits_not)
          (ap (nat_eq y.tag) q ∙ eq_self y.tag) in
          ap (λ o. choose o w
          (λ bs. code_by h c' true (with_vars bs env') d'
          (end (leaf (unit (NodeVal (tag_id i) (map Var (take u.fields xs))))))
          (with_state_seen (with_vars bs env') w))
          (arms_by h c' true env' d' v' (node_arms xs (suc i) ts) w)) z
          ∙ ap (λ o. need o (with_state_seen env' w) (λ x. gives x (with_state_seen env' w)))
          (made i q u (ap (λ t. t.fields) s ∙ f))
        where
          fit_at : Option Node → MatchOutcome
          fit_at o = elim o [ None ↦ unclear | Some m ↦ cond (nat_eq m.tag i) (fits []) fits_not ]
      arms_give (u ∷ ts) i (suc k) t d' w e r f =
          ap (λ o. choose o w
          (λ bs. code_by h c' true (with_vars bs env') d'
          (end (leaf (unit (NodeVal (tag_id i) (map Var (take u.fields xs))))))
          (with_state_seen (with_vars bs env') w))
          (arms_by h c' true env' d' v' (node_arms xs (suc i) ts) w))
          (ap (λ o. node_fit i [] o) vector_is ∙ ap (λ b. cond b (fits []) fits_not)
          (eq_false y.tag i (λ q. omega (arith, q, e))))
          ∙ arms_give ts (suc i) k t d' w (omega (arith, e)) r f

    -- the tag of a full node
    tag_there : (y : Node) (o : Option Tag) → slice_get g.tags y.tag ≡ o
        → and_then o (λ i. Some i.fields) ≡ Some (length y.fields) → (t : Tag)
        × (slice_get g.tags y.tag ≡ Some t) × (t.fields ≡ length y.fields)
    tag_there y None q e = cc
    tag_there y (Some t) q e = (t, q, (let s : t.fields ≡ length y.fields = cc in s))

    case_gives : (n : ℕ) → ActFollows st (Known n (suc (most_fields g.tags))) Same (leaf (fetch d))
        (case (Vector (map Var (variables n (suc (most_fields g.tags)))))
        (node_arms (variables (suc n) (most_fields g.tags)) 0 g.tags))
    unfolding act_by
    case_gives n = record { by = λ x. go x x.related }
      where
        go : (x : Here (plan_of g procs) (Known n (suc (most_fields g.tags))))
            → Known n (suc (most_fields g.tags)) x.w.cells x.env x.env'
            → Sim (FullState g) no_deeper Same (act_by g c true x.env x.d (leaf (fetch d)) x.w)
            (act_by h c' true x.env' x.d'
            (case (Vector (map Var (variables n (suc (most_fields g.tags)))))
            (node_arms (variables (suc n) (most_fields g.tags)) 0 g.tags)) (beside x.b))
        go x r =
            let y : HeapCell = r.y in
            let full : FullNode g y.node = all_get (FullCell g) x.w.cells r.i y x.known.cells
            r.there in
            let t : (t : Tag) × (slice_get g.tags y.node.tag ≡ Some t)
            × (t.fields ≡ length y.node.fields)
            = tag_there y.node (slice_get g.tags y.node.tag) refl full in
            let first : act_by g c true x.env x.d (leaf (fetch d)) x.w ≡ gives (node y.node) x.w
            = ap (λ o. need o x.w
            (λ i. need (slice_get x.w.cells i) x.w (λ y. gives (node y.node) x.w))) r.first ∙ ap
            (λ o. need o x.w (λ y. gives (node y.node) x.w)) r.there in
            let second : act_by h c' true x.env' x.d'
            (case (Vector (map Var (variables n (suc (most_fields g.tags)))))
            (node_arms (variables (suc n) (most_fields g.tags)) 0 g.tags)) (beside x.b) ≡ gives
            (node y.node) (with_state_seen x.env' (beside x.b))
            = ap (λ o. need (and_then o (λ ds. Some (words ds))) (beside x.b)
            (λ v. arms_by h c' true x.env' x.d' v
            (node_arms (variables (suc n) (most_fields g.tags)) 0 g.tags) (beside x.b)))
            (all_there n x.env' y.node full r.have)
            ∙ arms_give n x.env' y.node full r.have g.tags 0 y.node.tag t.0 x.d' (beside x.b)
            (omega arith) t.1 t.2 in
            subst (λ q. Sim (FullState g) no_deeper Same q
            (act_by h c' true x.env' x.d'
            (case (Vector (map Var (variables n (suc (most_fields g.tags)))))
            (node_arms (variables (suc n) (most_fields g.tags)) 0 g.tags)) (beside x.b)))
            (sym first)
            (subst (λ q. Sim (FullState g) no_deeper Same (gives (node y.node) x.w) q) (sym second)
            (λ _. gives_too
            (record {
              cells = x.b.cells;
              seen = x.b.seen
                  ++ record { env = x.env'; heap = x.b.cells } ∷ [];
              depth = x.b.depth;
              heaps
                  = x.b.heaps;
              deep = x.b.deep;
            }) same))

    pub ending_follows : {R : Relation} (n : ℕ) →
        ((x : Here (plan_of g procs) R) (i : ℕ) → and_then (word_of g x.env d) place_of ≡ Some i
        → and_then (word_of g x.env' a) place_of ≡ Some i)
        → ((env' : Env) (x : ℕ) (e : Datum) → n ≤ x
        → word_of g (plus x e env') a ≡ word_of g env' a)
        → CodeFollows st R Same (end (leaf (fetch d))) (whole_node g.tags n a)
    ending_follows {R} n place kept = peek {R = R} n (whole_node g.tags n a) place
        (words_follow n (suc (most_fields g.tags)) 0 n (omega arith) kept (end (leaf (fetch d)))
        (end (case (Vector (map Var (variables n (suc (most_fields g.tags)))))
        (node_arms (variables (suc n) (most_fields g.tags)) 0 g.tags)))
        (subst (λ k. CodeFollows st (Known n k) Same (end (leaf (fetch d)))
        (end (case (Vector (map Var (variables n (suc (most_fields g.tags)))))
        (node_arms (variables (suc n) (most_fields g.tags)) 0 g.tags))))
        (let q : suc (most_fields g.tags) ≡ 0 + suc (most_fields g.tags) = omega arith in q)
        (end_follows st (leaf (fetch d))
        (case (Vector (map Var (variables n (suc (most_fields g.tags)))))
        (node_arms (variables (suc n) (most_fields g.tags)) 0 g.tags)) (case_gives n))))
