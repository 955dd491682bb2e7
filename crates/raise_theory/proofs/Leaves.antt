-- Operations without blocks, stores, targets and patterns: the second program does as the first.
use Rattle.std.proofs.Common.{◌≡◌, ℕ, zero, suc, pos, ◌+◌, ◌<◌, ◌≤◌, Bool, true, false, cond, nat_lt, List, [], ◌∷◌, ◌++◌, length, Option, Some, None, slice_get, slice_set, refl, sym, ap, ◌∙◌, subst, arith}
use Rattle.seq.proofs.Order.{lt_from, le_from}
use Rattle.grin_syntax.specs.declared.program.Cell.{Cell}
use Rattle.grin_syntax.specs.declared.program.PrimOp.{PrimOp}
use Rattle.grin_syntax.specs.declared.program.Shape.{Shape}
use Rattle.grin_syntax.specs.declared.program.Target.{Target}
use Rattle.grin_syntax.specs.declared.program.VarId.{VarId}
use Rattle.grin_syntax.specs.declared.program.Val.{Val}
use Rattle.grin_syntax.specs.declared.program.Val.TheVariants.{One}
use Rattle.grin_syntax.specs.declared.program.Word.{Word}
use Rattle.grin_syntax.specs.declared.program.Word.TheVariants.{Lit, Var, Global, TagWord}
use Rattle.grin_syntax.specs.Tree.{Code, store, Act, leaf, unit, fetch, fetch_word, update, eval, apply, call, prim, read, write, case, nested, fail, Arms, no_arm, arm, Procedure, Program}
use Rattle.grin_syntax.specs.Binders.{shape_vars, cell_vars}
use Rattle.grin_syntax.specs.Formed.{AllOf}
use Rattle.grin_syntax.specs.Fresh.{variable, past_procs}
use Rattle.grin_meaning.specs.Values.{Datum, number, tag, cell, Node, Value, node, words, Env, HeapCell, World, gives, need, and_then, Binding, with_vars, fits, fit_of, only_word, word_of}
use Rattle.grin_meaning.specs.Run.{Calls, act_by, node_word, nth_or_zero, places, place_of, cells_of}
use Rattle.grin_meaning.specs.Checks.{all_fill, is_bound_well}
use Rattle.grin_meaning.specs.Follows.{Same, same}
use Rattle.grin_meaning.specs.Names.{WordOk, ValOk, CellsOk}
use Rattle.grin_meaning.proofs.Back.{CallsBack}
use Rattle.grin_meaning.proofs.Beside.{Beside, beside, gives_too, no_deeper, Sim, need_first}
use Rattle.grin_meaning.proofs.Procedures.{side_by_side}
use Rattle.grin_meaning.proofs.Rules.{Relation, Plan, Here, Setting, CallsFollow, ActFollows, CodeFollows, ArmsFollow, FitsToo, CellToo, unit_follows, fetch_word_follows, update_follows, prim_follows, read_follows, write_follows, fail_follows, store_follows, case_follows, no_arm_follows, arm_follows}
use Rattle.grin_meaning.proofs.Plain.{then_has, word_has, value_has, node_has, cells_have, fills_too, node_fills, all_fill_too, On, same_is}
use Rattle.flow_system.specs.declared.fact.Element.TheVariants.{Cell as cell_of}
use Rattle.flow_system.specs.declared.fact.Place.TheVariants.{Var as var}
use Rattle.flow_system.specs.declared.fact.Part.TheVariants.{Word as word}
use Rattle.flow_system.specs.Solution.{Solution, At}
use Rattle.flow_system.specs.Covers.{ValueIn, StateIsCovered}
use Rattle.flow_system.proofs.Lying.{from_some}
use Rattle.raise_theory.specs.Raising.{Raising, Decisions, word_at, raised_fetch_of, fetched, decisions_at, raised_act, raised_procs}
use Rattle.raise_theory.specs.Raisable.{Raisable}
use Rattle.pass_ground.proofs.Bound.{places_names}
use Rattle.raise_theory.proofs.Facts.{fit_names}
use Rattle.raise_theory.proofs.Frozen.{Later}
use Rattle.raise_theory.proofs.Related.{EachIs, Held, ArgsFor, FieldsOf, NewOnes, Plain, Related, related_bind}
use Rattle.raise_theory.proofs.Piece.{Stays}
use Rattle.flow_system.proofs.Covered.{site_is}

is_same : {X : Type 0} {a b : X} → b ≡ a → Same a b
is_same {a = a} e = subst (Same a) (sym e) same

each_nth : (env : Env) (k : ℕ) (ds : List Datum) (i : ℕ) → EachIs env k ds → i < length ds
    → env (k + i) ≡ Some (words (nth_or_zero ds i ∷ []))
each_nth env k [] i h lt = absurd (omega (arith, lt))
each_nth env k (d ∷ ds) zero h lt = ap env (let z : k + 0 ≡ k = omega arith in z) ∙ h.0
each_nth env k (d ∷ ds) (suc i) h lt = ap env (let z : k + suc i ≡ suc k + i = omega arith in z) ∙
    each_nth env (suc k) ds i h.1 (omega (arith, lt))

nth_past : (ds : List Datum) (i : ℕ) → length ds ≤ i → nth_or_zero ds i ≡ number (pos 0)
nth_past [] i h = refl
nth_past (d ∷ ds) zero h = absurd (omega (arith, h))
nth_past (d ∷ ds) (suc i) h = nth_past ds i (omega (arith, h))

-- a variable that stands for a cell
record IsPlace (env : Env) (x k : ℕ) : Type 0 where
  pub bound : env x ≡ Some (words (cell k ∷ []))

place_bound : (env : Env) (x k : ℕ) → and_then (and_then (env x) only_word) place_of ≡ Some k
    → IsPlace env x k
place_bound env x k e = go (env x) refl e
  where
    one : (d : Datum) → env x ≡ Some (words (d ∷ [])) → place_of d ≡ Some k → IsPlace env x k
    one (number i) q f = cc
    one (tag t) q f = cc
    one (cell a) q f = let s : a ≡ k = cc in record
        { bound = q ∙ ap (λ a. Some (words (cell a ∷ []))) s }

    many : (ds : List Datum) → env x ≡ Some (words ds)
        → and_then (only_word (words ds)) place_of ≡ Some k → IsPlace env x k
    many [] q f = cc
    many (d ∷ []) q f = one d q f
    many (d ∷ d' ∷ ds) q f = cc

    go : (o : Option Value) → env x ≡ o → and_then (and_then o only_word) place_of ≡ Some k
        → IsPlace env x k
    go None q f = cc
    go (Some (node n)) q f = cc
    go (Some (words ds)) q f = many ds q f

-- what is looked at of what is bound
fetched_block : (g : Program) (t : Target) (v : Value) (N : ℕ → Option Raising) (a : Word) (i : ℕ)
    → is_bound_well g t (fetched N a i) v ≡ is_bound_well g t (leaf (fetch_word a i)) v
fetched_block g t v N (Lit k) i = refl
fetched_block g t v N (Global k) i = refl
fetched_block g t v N (TagWord k) i = refl
fetched_block g t v N (Var x) i = go (N x.0)
  where
    go : (o : Option Raising) → is_bound_well g t (raised_fetch_of o (Var x) i) v ≡ is_bound_well g
        t (leaf (fetch_word (Var x) i)) v
    go None = refl
    go (Some r) = refl

pub bound_alike : (g : Program) (t : Target) (v : Value) (D : List Decisions)
    (N : ℕ → Option Raising) (n : ℕ) (o : Act) → is_bound_well g t (raised_act D N n o) v ≡
    is_bound_well g t o v
unfolding raised_act
bound_alike g t v D N n (leaf (unit y)) = refl
bound_alike g t v D N n (leaf (fetch a)) = refl
bound_alike g t v D N n (leaf (fetch_word a i)) = fetched_block g t v N a i
bound_alike g t v D N n (leaf (update a y)) = refl
bound_alike g t v D N n (leaf (eval a)) = refl
bound_alike g t v D N n (leaf (apply y a)) = refl
bound_alike g t v D N n (leaf (call f ws)) = refl
bound_alike g t v D N n (leaf (prim q a b)) = refl
bound_alike g t v D N n (leaf read) = refl
bound_alike g t v D N n (leaf (write a)) = refl
bound_alike g t v D N n (case y as') = refl
bound_alike g t v D N n (nested b) = refl
bound_alike g t v D N n (leaf fail) = refl

module _ (g : Program) (A : Solution) (D : List Decisions) (top : ℕ) (F : List HeapCell) where
  abbrev pub base : ℕ
  base = past_procs g.procs

  abbrev pub procs : List Procedure
  procs = raised_procs D top D g.procs

  -- looking runs, in states that lie in the solution and whose cells, where never updated, are
  -- those at the end
  abbrev pub plan : Plan
  plan = record {
    looks = true;
    K = no_deeper;
    P = λ s. StateIsCovered g A s × Later g A s.heap F;
    Args
        = λ f. ArgsFor F (decisions_at D f);
    Result = λ f. Same;
    g = g;
    procs = procs;
  }

  abbrev pub after : Program
  after = record g { procs = procs }

  module _ (c c' : Calls) (cb : CallsBack plan.P c) (cf : CallsFollow plan c c') where
    abbrev pub it : Setting
    it = side_by_side plan c c' cb cf

    module _ (N : ℕ → Option Raising) (new : NewOnes base top N) where
      abbrev pub R : Relation
      R = λ cells. Related F base N

      abbrev pub ActLike : Act → Act → Type 0
      ActLike = ActFollows it R Same

      abbrev pub CodeLike : Code → Code → Type 0
      CodeLike = CodeFollows it R Same

      cells_same : {w : World} (b : Beside no_deeper w) → b.cells ≡ w.cells
      cells_same b = same_is b.heaps

      abbrev cell_too : (x : Here plan R) (a : Word) → WordOk (Stays N) a → (i : ℕ) (y : HeapCell)
          → and_then (word_of g x.env a) place_of ≡ Some i → slice_get x.w.cells i ≡ Some y
          → CellToo it a x.env' x.b.cells
      cell_too x a ok i y e q = record {
        i' = i;
        y' = y;
        place = then_has (word_of g x.env a) (word_of g x.env' a) place_of place_of i
            (word_has g (Stays N) x.env x.env' x.related.same a ok) (λ d q. q) e;
        there = ap (λ c. slice_get c i) (cells_same x.b) ∙ q;
      }

      pub unit_like : (v : Val) → ValOk (Stays N) v → ActLike (leaf (unit v)) (leaf (unit v))
      unit_like v ok = unit_follows it v v
          (λ x y e seen. (
            λ l. fills_too g (Stays N) x.env x.env' x.related.same v ok y e ∙ seen l,
            y,
            value_has g (Stays N) x.env x.env' x.related.same v ok y e,
            same,
          ))

      pub fetch_word_like : (a : Word) (k : ℕ) → WordOk (Stays N) a
          → ActLike (leaf (fetch_word a k)) (leaf (fetch_word a k))
      fetch_word_like a k ok = fetch_word_follows it a a k k
          (λ x i y e q. (cell_too x a ok i y e q, same))

      pub update_like : (a : Word) (v : Val) → WordOk (Stays N) a → ValOk (Stays N) v
          → ActLike (leaf (update a v)) (leaf (update a v))
      update_like a v ok okv = update_follows it a a v v same (λ x i y e q. (
        cell_too x a ok i y e q,
        λ n m seen. record {
          n' = n;
          made = node_has g (Stays N) x.env x.env' x.related.same v okv n m;
          seen = λ l. node_fills g (Stays N) x.env x.env' x.related.same v okv n m ∙ seen l;
          heaps = is_same
              (ap (λ c. slice_set c i (record { site = y.site; node = n })) (cells_same x.b));
        },
      ))

      pub prim_like : (q : PrimOp) (a b : Word) → WordOk (Stays N) a → WordOk (Stays N) b
          → ActLike (leaf (prim q a b)) (leaf (prim q a b))
      prim_like q a b oka okb = prim_follows it q a b a b
          (λ x. word_has g (Stays N) x.env x.env' x.related.same a oka)
          (λ x. word_has g (Stays N) x.env x.env' x.related.same b okb) (λ k. same)

      pub read_like : ActLike (leaf read) (leaf read)
      read_like = read_follows it (λ k. same)

      pub write_like : (a : Word) → WordOk (Stays N) a → ActLike (leaf (write a)) (leaf (write a))
      write_like a ok = write_follows it a a
          (λ x. word_has g (Stays N) x.env x.env' x.related.same a ok) same

      pub fail_like : ActLike (leaf fail) (leaf fail)
      fail_like = fail_follows it

      -- ---- a fetch of a word from the cell of a raised parameter

      -- its node is that at the end
      cell_at_end : (q : Procedure) (x : ℕ) (r : Raising) → Raisable A g q x r.tag.0 r.fields
          → (z : Here plan R) (k : ℕ) (y : HeapCell) → z.env x ≡ Some (words (cell k ∷ []))
          → slice_get z.w.cells k ≡ Some y → slice_get F k ≡ Some y
      cell_at_end q x r ra z k y e there = z.known.1.kept k y there (ra.unchanged y.site here)
        where
          lie : ValueIn g z.w.cells (At A (var x)) (words (cell k ∷ []))
          lie = from_some (ValueIn g z.w.cells (At A (var x))) (z.env x) (words (cell k ∷ []))
              (z.known.0.variables x) e

          here : At A (var x) (word 0) (cell_of y.site)
          here = subst (λ s. At A (var x) (word 0) (cell_of s))
              (site_is z.w.cells k lie.0.0 y lie.0.1 there) lie.0.2

      word_there : (env' : Env) (r : Raising) (n : Node) (i : ℕ) → n.tag ≡ r.tag.0
          → length n.fields ≡ r.fields → EachIs env' r.first.0 n.fields
          → word_of after env' (word_at r i) ≡ Some (node_word n i)
      word_there env' r n zero t m h = ap (λ t. Some (tag t)) (sym t)
      word_there env' r n (suc i) t m h = go (nat_lt i r.fields) refl
        where
          go : (b : Bool) → nat_lt i r.fields ≡ b → word_of after env'
              (cond b (Var (variable (r.first.0 + i))) (Lit (pos 0))) ≡ Some
              (nth_or_zero n.fields i)
          go true e = ap (λ o. and_then o only_word)
              (each_nth env' r.first.0 n.fields i h
              (let l : i < r.fields = lt_from i r.fields e in omega (arith, l, m)))
          go false e = ap Some
              (sym (nth_past n.fields i
              (let l : r.fields ≤ i = le_from i r.fields e in omega (arith, l, m))))

      fetched_word : (q : Procedure) (x : ℕ) (r : Raising) (i : ℕ) → N x ≡ Some r
          → Raisable A g q x r.tag.0 r.fields → (z : Here plan R) (k : ℕ) (y : HeapCell)
          → and_then (and_then (z.env x) only_word) place_of ≡ Some k
          → slice_get z.w.cells k ≡ Some y
          → word_of after z.env' (word_at r i) ≡ Some (node_word y.node i)
      fetched_word q x r i n ra z k y e there = by f.x is f.held f.each
        where
          bound : z.env x ≡ Some (words (cell k ∷ []))
          bound = (place_bound z.env x k e).bound

          f : FieldsOf F r (words (cell k ∷ [])) z.env'
          f = z.related.fields x r (words (cell k ∷ [])) n bound

          is : f.x ≡ cell k
          is = let q : words (cell k ∷ []) ≡ words (f.x ∷ []) = f.is in cc

          by : (d : Datum) → d ≡ cell k → (h : Held F r d) → EachIs z.env' r.first.0 h.y.node.fields
              → word_of after z.env' (word_at r i) ≡ Some (node_word y.node i)
          by d is h each =
              let both : cell h.c ≡ cell k = sym h.is ∙ is in
              let same_place : h.c ≡ k = cc in
              let at : slice_get F k ≡ Some h.y = ap (slice_get F) (sym same_place) ∙ h.there in
              let two : Some h.y ≡ Some y = sym at ∙ cell_at_end q x r ra z k y bound there in
              let one : h.y ≡ y = cc in
              word_there z.env' r h.y.node i h.its_tag h.many each ∙ ap
              (λ u. Some (node_word u.node i)) one

      fetch_raised : (q : Procedure) (x : VarId) (r : Raising) (i : ℕ) → N x.0 ≡ Some r
          → Raisable A g q x.0 r.tag.0 r.fields → ActLike (leaf (fetch_word (Var x) i))
          (leaf (unit (One (word_at r i))))
      unfolding act_by
      fetch_raised q x r i n ra = record {
        by = λ z. need_first plan.P no_deeper Same (and_then (word_of g z.env (Var x)) place_of) z.w
            _ _ (λ k e. need_first plan.P no_deeper Same (slice_get z.w.cells k) z.w _ _ (λ y there.
            subst (λ o. Sim plan.P no_deeper Same (gives (words (node_word y.node i ∷ [])) z.w)
            (need (and_then o (λ d. Some (words (d ∷ [])))) (beside z.b)
            (λ u. gives u (beside z.b))))
            (sym (fetched_word q x.0 r i n ra z k y e there)) (λ _. gives_too z.b same)));
      }

      pub fetched_like : (q : Procedure) →
          ((y : ℕ) (r : Raising) → N y ≡ Some r → Raisable A g q y r.tag.0 r.fields)
          → (a : Word) (i : ℕ) → ActLike (leaf (fetch_word a i)) (fetched N a i)
      fetched_like q ra (Lit k) i = fetch_word_like (Lit k) i tt
      fetched_like q ra (Global k) i = fetch_word_like (Global k) i tt
      fetched_like q ra (TagWord t) i = fetch_word_like (TagWord t) i tt
      fetched_like q ra (Var x) i = go (N x.0) refl
        where
          go : (o : Option Raising) → N x.0 ≡ o → ActLike (leaf (fetch_word (Var x) i))
              (raised_fetch_of o (Var x) i)
          go None e = fetch_word_like (Var x) i e
          go (Some r) e = fetch_raised q x r i e (ra x.0 r e)

      -- ---- stores and cases

      pub store_like : (cs : List Cell) (b b' : Code) → CellsOk (Stays N) cs
          → AllOf (Plain base N) (cell_vars cs) → CodeLike b b'
          → CodeLike (store cs b) (store cs b')
      store_like cs b b' ok pl f = store_follows it {R = R} {R' = R} {V = Same} cs cs b b' f (λ x y.
          let bs : List Binding = places (length x.w.cells) cs in
          let hold : Related F base N (with_vars bs x.env) (with_vars bs x.env')
          = related_bind F base top N new bs x.env x.env'
          (subst (AllOf (Plain base N)) (sym (places_names (length x.w.cells) cs)) pl) x.related
          in
          let many : length x.w.cells ≡ length x.b.cells = ap length (sym (cells_same x.b)) in
          record {
            hs' = y.hs;
            cells = subst (λ k. cells_of g (with_vars (places k cs) x.env') cs ≡ Some y.hs) many
                (cells_have g (Stays N) (with_vars bs x.env) (with_vars bs x.env') hold.same cs ok
                y.hs y.cells);
            seen = λ l. subst (λ k. all_fill g (with_vars (places k cs) x.env') cs ≡ true) many
                (all_fill_too g (Stays N) (with_vars bs x.env) (with_vars bs x.env') hold.same cs ok
                y.hs y.cells ∙ y.seen l);
            heaps = is_same (ap (λ c. c ++ y.hs) (cells_same x.b));
            related = subst
                (λ k. Related F base N (with_vars bs x.env) (with_vars (places k cs) x.env')) many
                hold;
          })

      pub case_like : (v : Val) (as' bs' : Arms) → ValOk (Stays N) v
          → ArmsFollow it (On R) Same as' bs' → ActLike (case v as') (case v bs')
      case_like v as' bs' ok f = case_follows it {R = R} {U = On R} {V = Same} v v as' bs' f
          (λ x y e.
          (y, value_has g (Stays N) x.env x.env' x.related.same v ok y e, (same, x.related)))

      pub no_arm_like : ArmsFollow it (On R) Same no_arm no_arm
      no_arm_like = no_arm_follows it no_arm

      pub arm_like : (s : Shape) (b b' : Code) (as' bs' : Arms)
          → AllOf (Plain base N) (shape_vars s) → CodeLike b b' → ArmsFollow it (On R) Same as' bs'
          → ArmsFollow it (On R) Same (arm s b as') (arm s b' bs')
      arm_like s b b' as' bs' pl f k = arm_follows it {U = On R} {U' = On R} {R' = R} {V = Same} s s
          b b' as' bs' f k
          (λ v v' x bs e known. on x.w.cells x.env x.env' bs x.related.0 x.related.1 e)
          (λ v v' x e. (sym (ap (fit_of g s) (sym (same_is x.related.0))) ∙ e, x.related))
        where
          on : (cells : List HeapCell) (env env' : Env) (bs : List Binding) {v v' : Value}
              → Same v v' → Related F base N env env' → fit_of g s v ≡ fits bs
              → FitsToo it R s env env' cells v' bs
          on cells env env' bs (same {a = v}) r e = record {
            bs' = bs;
            fit = e;
            related = related_bind F base top N new bs env env'
                (fit_names (Plain base N) g s v bs pl e) r;
          }
