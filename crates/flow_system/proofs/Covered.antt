-- A solution covers each run.
--
-- The invariant of a run: each variable, cell and result lies in its set of the solution. Each
-- step of a run keeps it, since an inclusion of the system speaks of just that statement.
use Rattle.std.proofs.Common.{◌≡◌, ◌+◌, ℕ, zero, suc, Bool, true, false, cond, not, List, [], ◌∷◌, ◌++◌, length, Option, Some, None, slice_get, slice_set, refl, sym, ap, ◌∙◌, subst, arith}
use Rattle.std.specs.Prelude.{IfSome, IsTrue, nat_eq}
use Rattle.numbers.specs.Numbers.{same_number}
use Rattle.std.proofs.lemmas.Bool.Decides.{nat_tests}
use Rattle.seq.proofs.Truth.{true_left, true_right}
use Rattle.grin_syntax.specs.declared.program.ProcId.{ProcId}
use Rattle.grin_syntax.specs.declared.program.PrimOp.{PrimOp}
use Rattle.grin_syntax.specs.declared.program.Tag.{Tag}
use Rattle.grin_syntax.specs.declared.program.Cell.{Cell}
use Rattle.grin_syntax.specs.declared.program.Shape.{Shape}
use Rattle.grin_syntax.specs.declared.program.Shape.TheVariants.{Node as NodeShape, Int, Else}
use Rattle.grin_syntax.specs.declared.program.VarId.{VarId}
use Rattle.grin_syntax.specs.declared.program.Word.{Word}
use Rattle.grin_syntax.specs.declared.program.Val.{Val}
use Rattle.grin_syntax.specs.declared.program.Val.TheVariants.{Vector as VectorVal}
use Rattle.grin_syntax.specs.Tree.{Code, end, store, bind, Act, leaf, unit, fetch, fetch_word, update, eval, apply, call, prim, read, write, case, nested, fail, Arms, no_arm, arm, Procedure, Program}
use Rattle.grin_meaning.specs.Values.{Datum, number, tag as tag', cell, Node, Value, node, words, Env, HeapCell, World, Answer, gives, stops, then_do, need, and_then, Binding, with_vars, one_each, MatchOutcome, fits, fits_not, unclear, fit_of, fits_if, fields_fit, node_fit, number_fit, int_fit, fields_of, made_node, as_node, word_of, words_of, value_of, node_of, bindings_of}
use Rattle.grin_meaning.specs.Run.{Calls, act, code, arms, calls, run, choose, spend, spent, with_state_seen, places, cells_of, with_cells, with_node, place_of, number_of, apply_arithmetic, byte_or_end, after_read, node_word, eval_cell, eval_tag, updated, apply_part, is_fun_kind, is_part_kind, is_evaluated, is_some_and, part_from, start_words, start_world, global_cells, nth_or_zero}
use Rattle.grin_meaning.specs.Keeps.{world_of}
use Rattle.grin_meaning.specs.Follows.{HoldsInEveryState}
use Rattle.flow_system.specs.Tables.{tables, params_of}
use Rattle.flow_system.specs.Inclusions.{cell_of, tag, site, var, result, tags, field, word, value, a_number, held, nodes_at, word_at, evaluated, extended, arguments, FlowSink, to, into_site, into_result, flows, applies}
use Rattle.flow_system.specs.System.{system, act_evals, code_evals, arms_eval, procs_eval, has_eval, cells_flow, shape_flows, act_flows, code_flows, arms_flow, globals_flow, procs_flow, start_flows}
use Rattle.flow_system.specs.Solution.{Solution, Sets, At, one_word, AsNodes, node_tag, node_field, AsWords, word_word, IsEvaluated, evaluated_tag, evaluated_field, Waits, StandsFor, WordAmong, first, ValueGives, FetchGives, its_tag, extended_tag, extended_field, extended_last, ArgumentsGive, field_argument, word_argument, of_words, width, Gives, FlowsTo, Meets, AllMet, Solves}
use Rattle.flow_system.specs.Covers.{site_at, DatumIn, WordsAreInSets, NodeIn, ValueIn, GlobalCellsComeFirst, StateIsCovered, CanBeStarted, Covers, SolutionsCover}
use Rattle.flow_system.proofs.Lying.{from_some, if_map, if_is, datum_mono, all_mono, all_snoc, Extends, extends_self, extends_on, node_on, value_on, node_mono, Narrow, value_as_node, made_if, BindingsLie, words_bound, Lands, lands, nothing_lands, ArgumentsLie, parameters_lie, nth_lies, EnvLies, env_with, WordsLie, GivenIn, word_lies, words_lie, value_lies, node_lies, place_lies}
use Rattle.flow_system.proofs.Heap.{set_extends, set_cells, append_extends, append_cells, EachCell, SitesAre, has_sites, sites_are, CellLies, cell_on, met_front, met_back, places_lie, cells_lie}
use Rattle.grin_meaning.proofs.Fullness.{every_and}
use Rattle.flow_system.proofs.Started.{global_sites, globals_good, argument_lies, no_arguments}

pub site_is : (h : List HeapCell) (i s : ℕ) (c : HeapCell) → site_at h i ≡ Some s
    → slice_get h i ≡ Some c → s ≡ c.site
site_is h i s c e q =
    let f : site_at h i ≡ Some c.site = ap (λ o. and_then o (λ k. Some k.site)) q in
    let g : Some s ≡ Some c.site = sym e ∙ f in
    cc

module _ (p : Program) (A : Solution) where
  -- a run has come this far, and all lies in the solution
  pub record Good (w : World) : Type 0 where
    pub cells_good : (a : ℕ) → IfSome (slice_get w.cells a) (CellLies p A w.cells)
    pub globals_there : GlobalCellsComeFirst p w.cells
    pub seen_good : HoldsInEveryState (StateIsCovered p A) w.seen

  -- an answer, whose value is as Y says
  abbrev Goes : (List HeapCell → Value → Type 0) → World → Answer → Type 0
  Goes Y w (gives v w') = Extends w.cells w'.cells × Good w' × Y w'.cells v
  Goes Y w (stops s w') = Good w'

  goes_on : (Y : List HeapCell → Value → Type 0) (w w' : World) (a : Answer)
      → Extends w.cells w'.cells → Goes Y w' a → Goes Y w a
  goes_on Y w w' (gives v w'') e g = (extends_on w.cells w'.cells w''.cells e g.0, g.1, g.2)
  goes_on Y w w' (stops s w'') e g = g

  then_goes : (Y Z : List HeapCell → Value → Type 0) (w : World) (a : Answer)
      (k : Value → World → Answer) → Goes Y w a
      → ((v : Value) (w' : World) → Extends w.cells w'.cells → Good w' → Y w'.cells v
      → Goes Z w' (k v w')) → Goes Z w (then_do a k)
  then_goes Y Z w (gives v w') k g f = goes_on Z w w' (k v w') g.0 (f v w' g.0 g.1 g.2)
  then_goes Y Z w (stops s w') k g f = g

  goes_map : (Y Z : List HeapCell → Value → Type 0) (w : World) (a : Answer) → Goes Y w a
      → ((v : Value) (w' : World) → Y w'.cells v → Z w'.cells v) → Goes Z w a
  goes_map Y Z w (gives v w') g f = (g.0, g.1, f v w' g.2)
  goes_map Y Z w (stops s w') g f = g

  need_goes : {B : Type 0} (P : B → Type 0) (Y : List HeapCell → Value → Type 0) (w : World)
      (o : Option B) (k : B → Answer) → Good w → IfSome o P → ((x : B) → P x → Goes Y w (k x))
      → Goes Y w (need o w k)
  need_goes P Y w None k g h f = g
  need_goes P Y w (Some x) k g h f = f x h

  need_is : {B : Type 0} (Y : List HeapCell → Value → Type 0) (w : World) (o : Option B)
      (k : B → Answer) → Good w → ((x : B) → o ≡ Some x → Goes Y w (k x)) → Goes Y w (need o w k)
  need_is Y w o k g f = need_goes (λ x. o ≡ Some x) Y w o k g (if_is (λ x. o ≡ Some x) o (λ a e. e))
      f

  cond_goes : (Y : List HeapCell → Value → Type 0) (w : World) (b : Bool) (x y : Answer)
      → (b ≡ true → Goes Y w x) → (b ≡ false → Goes Y w y) → Goes Y w (cond b x y)
  cond_goes Y w true x y f g = f refl
  cond_goes Y w false x y f g = g refl

  pass : (env : Env) (w : World) → Good w → EnvLies p w.cells A env → Good (with_state_seen env w)
  pass env w g el = record {
    cells_good = g.cells_good;
    globals_there = g.globals_there;
    seen_good = every_and (StateIsCovered p A) w.seen _ g.seen_good
        (record {
          variables = el;
          cells = λ a. if_map (CellLies p A w.cells)
              (λ c. NodeIn p w.cells (At A (site c.site)) c.node) (slice_get w.cells a)
              (g.cells_good a)
              (λ c l. l.0);
          globals = g.globals_there;
        });
  }

  env_on : (h h' : List HeapCell) → Extends h h' → (env : Env) → EnvLies p h A env
      → EnvLies p h' A env
  env_on h h' e env el x = if_map (ValueIn p h (At A (var x))) (ValueIn p h' (At A (var x))) (env x)
      (el x) (value_on h h' e p (At A (var x)))

  there_on : (h h' : List HeapCell) → Extends h h' → GlobalCellsComeFirst p h
      → GlobalCellsComeFirst p h'
  there_on h h' e g i = if_map (λ c. site_at h i ≡ Some c.site.0)
      (λ c. site_at h' i ≡ Some c.site.0) (slice_get p.globals i) (g i) (λ c q. e.by i c.site.0 q)

  here : (w : World) (i : ℕ) (c : HeapCell) → Good w → slice_get w.cells i ≡ Some c
      → CellLies p A w.cells c
  here w i c g q = from_some (CellLies p A w.cells) (slice_get w.cells i) c (g.cells_good i) q

  set_good : (w : World) (i : ℕ) (c : HeapCell) (n : Node) → Good w → slice_get w.cells i ≡ Some c
      → NodeIn p w.cells (At A (site c.site)) n → Good (with_node i n c w)
  set_good w i c n g q l =
      let h' = slice_set w.cells i (record { site = c.site; node = n }) in
      let e : Extends w.cells h' = set_extends w.cells i c n q in
      record {
        cells_good = set_cells (CellLies p A h') w.cells i (record { site = c.site; node = n })
            (λ a. if_map (CellLies p A w.cells) (CellLies p A h') (slice_get w.cells a)
            (g.cells_good a) (λ k. cell_on p A w.cells h' e k))
            (node_on w.cells h' e p (At A (site c.site)) n l, (here w i c g q).1);
        globals_there = there_on w.cells h' e g.globals_there;
        seen_good = g.seen_good;
      }

  -- the result of a call
  abbrev Returns : ℕ → List HeapCell → Value → Type 0
  Returns f h v = ValueIn p h (At A (result f)) v

  abbrev At_sink : FlowSink → List HeapCell → Value → Type 0
  At_sink k h v = Lands p h A v k

  record CallsGo (c : Calls) : Type 0 where
    pub by : (f : ℕ) (xs : List Datum) (d : ℕ) (w : World) → Good w → ArgumentsLie p w.cells A f xs
        → Goes (Returns f) w (c f xs d w)

  evaluated_is : (n : Node) → is_evaluated p n ≡ true → IsEvaluated (tables p) n.tag
  evaluated_is n e = go (slice_get p.tags n.tag) refl e
    where
      not_is : (b : Bool) → not b ≡ true → b ≡ false
      not_is true q = cc
      not_is false q = refl

      go : (o : Option Tag) → slice_get p.tags n.tag ≡ o
          → is_some_and o (λ t. not (is_fun_kind t.kind)) ≡ true → IsEvaluated (tables p) n.tag
      go None q r = cc
      go (Some t) q r = record { info = t; is_tag = q; not_delayed = not_is (is_fun_kind t.kind) r }

  module _ (c : Calls) (cg : CallsGo c) where
    -- a cell's node is evaluated
    eval_goes : (a : Word) (k : FlowSink) (env : Env) (d : ℕ) (w : World) → Good w
        → EnvLies p w.cells A env → Meets (tables p) A (flows (evaluated (nodes_at a)) k)
        → IsTrue (has_eval p) → Goes (At_sink k) w
        (need (and_then (word_of p env a) place_of) w (λ i. eval_cell p c d i w))
    eval_goes a k env d w g el m ev = need_goes _ (At_sink k) w
        (and_then (word_of p env a) place_of) _ g (place_lies p w.cells A g.globals_there env el a)
        (λ i pl. need_is (At_sink k) w (slice_get w.cells i) _ g
        (λ x q. need_is (At_sink k) w (slice_get p.tags x.node.tag) _ g (on i pl x q)))
      where
        -- an evaluated node that lies at the site is as the sink wants it
        given : (h : List HeapCell) (s : ℕ) (n : Node) → StandsFor (tables p) A a (cell_of s)
            → IsEvaluated (tables p) n.tag → NodeIn p h (At A (site s)) n → Lands p h A (node n) k
        given h s n st ise l = lands p h A (Some 1) (Gives (tables p) A (evaluated (nodes_at a))) k
            (node n) m
            (node_mono p h (At A (site s)) (Gives (tables p) A (evaluated (nodes_at a))) n
            (λ y. evaluated_tag ise (node_tag (s, st, y)))
            (λ i u y. evaluated_field ise (node_field (s, st, y))) l) tt

        on : (i : ℕ) →
            ((s : ℕ) × (site_at w.cells i ≡ Some s) × StandsFor (tables p) A a (cell_of s))
            → (x : HeapCell) → slice_get w.cells i ≡ Some x → (t : Tag)
            → slice_get p.tags x.node.tag ≡ Some t → Goes (At_sink k) w
            (eval_tag p c d i x.node t w)
        on i pl x q t r = cond_goes (At_sink k) w (is_fun_kind t.kind) _ _ delayed done
          where
            lies : CellLies p A w.cells x
            lies = here w i x g q

            st : StandsFor (tables p) A a (cell_of x.site)
            st = subst (λ s. StandsFor (tables p) A a (cell_of s)) (site_is w.cells i pl.0 x pl.1 q)
                pl.2

            done : is_fun_kind t.kind ≡ false → Goes (At_sink k) w (gives (node x.node) w)
            done e = (
              extends_self w.cells,
              g,
              given w.cells x.site x.node st
                  (record { info = t; is_tag = r; not_delayed = e }) lies.0,
            )

            stays : (w' : World) → Extends w.cells w'.cells → (y : HeapCell)
                → slice_get w'.cells i ≡ Some y → x.site ≡ y.site
            stays w' e y z = site_is w'.cells i x.site y
                (e.by i x.site (ap (λ o. and_then o (λ k. Some k.site)) q)) z

            delayed : is_fun_kind t.kind ≡ true → Goes (At_sink k) w
                (need t.proc w (λ f. then_do (c f.0 x.node.fields (suc d) w) (updated p c i)))
            delayed e = need_is (At_sink k) w t.proc _ g enters
              where
                enters : (f : ProcId) → t.proc ≡ Some f
                    → Goes (At_sink k) w (then_do (c f.0 x.node.fields (suc d) w) (updated p c i))
                enters f z = then_goes (Returns f.0) (At_sink k) w (c f.0 x.node.fields (suc d) w)
                    (updated p c i) (cg.by f.0 x.node.fields (suc d) w g args) back
                  where
                    both : FlowsTo (tables p) A (arguments (held (site x.site)) x.node.tag [])
                        (to (params_of (tables p) f.0))
                        × FlowsTo (tables p) A (evaluated (held (result f.0))) (into_site x.site)
                    both = lies.1 ev x.node.tag f.0 lies.0.tag_in
                        (record {
                          info = t;
                          is_tag = r;
                          delayed = e;
                          proc = f;
                          is_proc = z;
                          is_f
                              = refl;
                        })

                    args : ArgumentsLie p w.cells A f.0 x.node.fields
                    args = parameters_lie p w.cells A (Some 1)
                        (Gives (tables p) A (arguments (held (site x.site)) x.node.tag [])) f.0
                        x.node.fields both.0
                        (all_mono w.cells (λ i. At A (site x.site) (field x.node.tag i))
                        (λ j. Gives (tables p) A (arguments (held (site x.site)) x.node.tag [])
                        (word j))
                        (λ j u y. field_argument (node_tag lies.0.tag_in) (node_field y)) 0
                        x.node.fields lies.0.fields_in)

                    back : (v : Value) (w' : World) → Extends w.cells w'.cells → Good w'
                        → Returns f.0 w'.cells v → Goes (At_sink k) w' (updated p c i v w')
                    back v w' ex g' ret = need_goes
                        (NodeIn p w'.cells (AsNodes (tables p) None (At A (result f.0))))
                        (At_sink k) w' (as_node p v) _ g'
                        (value_as_node p w'.cells None (At A (result f.0)) v ret (any v))
                        (λ n l. need_is (At_sink k) w' (slice_get w'.cells i) _ g'
                        (λ y u. cond_goes (At_sink k) w' (is_evaluated p n) _ _
                        (λ ise. put n l y u (evaluated_is n ise)) (λ _. g')))
                      where
                        any : (v : Value) → Narrow None v
                        any (node n) = tt
                        any (words ds) = tt

                        put : (n : Node) → NodeIn p w'.cells
                            (AsNodes (tables p) None (At A (result f.0))) n → (y : HeapCell)
                            → slice_get w'.cells i ≡ Some y → IsEvaluated (tables p) n.tag
                            → Goes (At_sink k) w' (gives (node n) (with_node i n y w'))
                        put n l y u ise =
                            let same : x.site ≡ y.site = stays w' ex y u in
                            let at_x : NodeIn p w'.cells (At A (site x.site)) n
                            = node_mono p w'.cells (AsNodes (tables p) None (At A (result f.0)))
                            (At A (site x.site)) n
                            (λ b. both.1 tags (tag n.tag) (node_tag (evaluated_tag ise b)))
                            (λ i u b. both.1 (field n.tag i) u
                            (node_field (evaluated_field ise b))) l in
                            let at_y : NodeIn p w'.cells (At A (site y.site)) n
                            = subst (λ s. NodeIn p w'.cells (At A (site s)) n) same at_x in
                            let e' : Extends w'.cells
                            (slice_set w'.cells i (record { site = y.site; node = n }))
                            = set_extends w'.cells i y n u in (
                              e',
                              set_good w' i y n g' u at_y,
                              given _ x.site n st ise
                                  (node_on w'.cells _ e' p (At A (site x.site)) n at_x),
                            )

    -- a function takes one argument more
    part_goes : (v : Val) (a : Word) (k : FlowSink) (d : ℕ) (n : Node) (x : Datum) (w : World)
        → Good w → Meets (tables p) A (flows (extended v a) k) → Meets (tables p) A (applies v a k)
        → NodeIn p w.cells (AsNodes (tables p) (width (value v)) (ValueGives (tables p) A v)) n
        → DatumIn w.cells (StandsFor (tables p) A a) x → (f : ProcId) (t : Tag)
        → slice_get p.tags n.tag ≡ Some t → is_part_kind t.kind ≡ true → t.proc ≡ Some f
        → (r : ℕ) → t.missing ≡ r → Goes (At_sink k) w (apply_part p c d n x f.0 r w)
    part_goes v a k d n x w g m m' l y f t e e' e'' zero q = g
    part_goes v a k d n x w g m m' l y f t e e' e'' (suc zero) q =
        let ws : Waits (tables p) n.tag f.0 1 = record {
          info = t;
          is_tag = e;
          waiting = e';
          proc = f;
          is_proc = e'';
          is_f = refl;
          is_missing
              = q;
        } in
        let X = AsNodes (tables p) (width (value v)) (ValueGives (tables p) A v) in
        let Y = Gives (tables p) A (arguments (value v) n.tag (a ∷ [])) in
        let fields : WordsAreInSets w.cells (λ j. Y (word j)) 0 n.fields
        = all_mono w.cells (λ i. X (field n.tag i)) (λ j. Y (word j))
        (λ j u b. field_argument l.tag_in b) 0 n.fields l.fields_in in
        let last : DatumIn w.cells (Y (word (length n.fields))) x
        = datum_mono w.cells (StandsFor (tables p) A a) (Y (word (length n.fields)))
        (λ u b. word_argument {j = 0} l.tag_in l.full (first b) (omega arith)) x y in
        goes_map (Returns f.0) (At_sink k) w (c f.0 (n.fields ++ x ∷ []) d w)
        (cg.by f.0 (n.fields ++ x ∷ []) d w g
        (parameters_lie p w.cells A (Some 1) Y f.0 (n.fields ++ x ∷ [])
        (m' n.tag f.0 l.tag_in ws).0
        (all_snoc w.cells (λ j. Y (word j)) 0 (length n.fields) n.fields x (omega arith) fields
        last)))
        (λ v' w' b. lands p w'.cells A None (At A (result f.0)) k v' (m' n.tag f.0 l.tag_in ws).1 b
        (any v'))
      where
        any : (v : Value) → Narrow None v
        any (node n) = tt
        any (words ds) = tt
    part_goes v a k d n x w g m m' l y f t e e' e'' (suc (suc r)) q =
        need_is (At_sink k) w (part_from 0 p.tags f.0 (suc r)) _ g
        (λ t' z. need_goes (NodeIn p w.cells (Gives (tables p) A (extended v a))) (At_sink k) w
        (made_node p t' (n.fields ++ x ∷ [])) _ g
        (made_if p w.cells t' (n.fields ++ x ∷ [])
        (NodeIn p w.cells (Gives (tables p) A (extended v a))) (made t' z))
        (λ n' b. (
          extends_self w.cells,
          g,
          lands p w.cells A (Some 1)
              (Gives (tables p) A (extended v a)) k (node n') m b tt,
        )))
      where
        ws : Waits (tables p) n.tag f.0 (suc (suc r))
        ws = record {
          info = t;
          is_tag = e;
          waiting = e';
          proc = f;
          is_proc = e'';
          is_f = refl;
          is_missing
              = q;
        }

        made : (t' : ℕ) → part_from 0 p.tags f.0 (suc r) ≡ Some t'
            → fields_of p t' ≡ Some (length (n.fields ++ x ∷ []))
            → NodeIn p w.cells (Gives (tables p) A (extended v a))
            (record { tag = t'; fields = n.fields ++ x ∷ [] })
        made t' z full = record {
          full = full;
          tag_in = extended_tag l.tag_in ws z;
          fields_in = all_snoc w.cells (λ i. Gives (tables p) A (extended v a) (field t' i)) 0
              (length n.fields) n.fields x (omega arith)
              (all_mono w.cells
              (λ i. AsNodes (tables p) (width (value v)) (ValueGives (tables p) A v)
              (field n.tag i)) (λ i. Gives (tables p) A (extended v a) (field t' i))
              (λ i u b. extended_field l.tag_in ws z b) 0 n.fields l.fields_in)
              (datum_mono w.cells (StandsFor (tables p) A a)
              (Gives (tables p) A (extended v a) (field t' (length n.fields)))
              (λ u b. extended_last l.tag_in ws z l.full b) x y);
        }

    -- what a pattern binds
    abbrev FitLies : List HeapCell → MatchOutcome → Type 0
    FitLies h (fits bs) = BindingsLie p h A bs
    FitLies h fits_not = Unit {0}
    FitLies h unclear = Unit {0}

    choose_goes : (Y : List HeapCell → Value → Type 0) (f : MatchOutcome) (w : World)
        (k : List Binding → Answer) (other : Answer) → Good w → FitLies w.cells f
        → ((bs : List Binding) → BindingsLie p w.cells A bs → Goes Y w (k bs)) → Goes Y w other
        → Goes Y w (choose f w k other)
    choose_goes Y (fits bs) w k other g l f o = f bs l
    choose_goes Y fits_not w k other g l f o = o
    choose_goes Y unclear w k other g l f o = g

    same_tag : (t u : ℕ) → nat_eq t u ≡ true → t ≡ u
    same_tag t u e = grind (arith, nat_tests)

    fit_lies : (h : List HeapCell) (v : Val) (s : Shape) (x : Value)
        → AllMet (tables p) A (shape_flows v s) → ValueIn p h (ValueGives (tables p) A v) x
        → Narrow (width (value v)) x → FitLies h (fit_of p s x)
    fit_lies h v Else x m l nw = tt
    fit_lies h v (Int i) x m l nw = on (as_node p x)
      where
        by_number : (ds : List Datum) → FitLies h (number_fit i ds)
        by_number [] = tt
        by_number (number j ∷ ds) = by_test (same_number i j)
          where
            by_test : (b : Bool) → FitLies h (cond b (fits []) fits_not)
            by_test true = tt
            by_test false = tt
        by_number (tag' t ∷ ds) = tt
        by_number (cell a ∷ ds) = tt

        by_tag : (b : Bool) (ds : List Datum) → FitLies h (cond b (number_fit i ds) fits_not)
        by_tag true ds = by_number ds
        by_tag false ds = tt

        on : (o : Option Node) → FitLies h (int_fit i o)
        on None = tt
        on (Some n) = by_tag (nat_eq n.tag 0) n.fields
    fit_lies h v (NodeShape t xs) x m l nw = on (as_node p x)
        (value_as_node p h (width (value v)) (ValueGives (tables p) A v) x l nw)
      where
        X : Sets
        X = AsNodes (tables p) (width (value v)) (ValueGives (tables p) A v)

        Y : Sets
        Y = Gives (tables p) A (arguments (value v) t.0 [])

        by_fields : (xs : List VarId) (ds : List Datum)
            → IfSome (one_each xs ds) (BindingsLie p h A) → FitLies h (fits_if (one_each xs ds))
        by_fields xs ds b = go (one_each xs ds) b
          where
            go : (o : Option (List Binding)) → IfSome o (BindingsLie p h A) → FitLies h (fits_if o)
            go None b = tt
            go (Some bs) b = b

        bound : (n : Node) → n.tag ≡ t.0 → NodeIn p h X n
            → IfSome (one_each xs n.fields) (BindingsLie p h A)
        bound n e b = words_bound p h A Y 0 xs n.fields m.0
            (all_mono h (λ i. X (field n.tag i)) (AsWords (tables p) Y)
            (λ i u z. word_word
            (subst (λ t. ArgumentsGive (tables p) A X t [] (word i) u) e
            (field_argument b.tag_in z))) 0 n.fields b.fields_in)

        fits_them : (ys : List VarId) (ds : List Datum)
            → IfSome (one_each ys ds) (BindingsLie p h A) → FitLies h (fields_fit ys ds)
        fits_them [] ds b = tt
        fits_them (y ∷ ys) ds b = by_fields (y ∷ ys) ds b

        tested : (n : Node) → NodeIn p h X n → (b : Bool) → nat_eq n.tag t.0 ≡ b
            → FitLies h (cond b (fields_fit xs n.fields) fits_not)
        tested n z true e = fits_them xs n.fields (bound n (same_tag n.tag t.0 e) z)
        tested n z false e = tt

        on : (o : Option Node) → IfSome o (NodeIn p h X) → FitLies h (node_fit t.0 xs o)
        on None z = tt
        on (Some n) z = tested n z (nat_eq n.tag t.0) refl

    calculated : (f : PrimOp) (x y : Datum) (h : List HeapCell)
        → IfSome (apply_arithmetic f x y)
        (λ v. ValueIn p h (Gives (tables p) A a_number) v × Narrow (Some 1) v)
    calculated f (number i) (number j) h = ((one_word refl, tt), omega arith)
    calculated f (number i) (tag' t) h = tt
    calculated f (number i) (cell a) h = tt
    calculated f (tag' t) y h = tt
    calculated f (cell a) y h = tt

    reading_goes : (k : FlowSink) (bs : List ℕ) (w : World) → Good w
        → Meets (tables p) A (flows a_number k) → Goes (At_sink k) w
        (gives (words (number (byte_or_end bs) ∷ [])) (after_read bs w))
    reading_goes k [] w g m = (
      extends_self w.cells,
      g,
      lands p w.cells A (Some 1) (Gives (tables p) A a_number) k _ m
          (one_word refl, tt) (omega arith),
    )
    reading_goes k (b ∷ bs) w g m = (
      extends_self w.cells,
      record
          { cells_good = g.cells_good; globals_there = g.globals_there; seen_good = g.seen_good },
      lands p w.cells A (Some 1) (Gives (tables p) A a_number) k _ m (one_word refl, tt)
          (omega arith),
    )

    any : (v : Value) → Narrow None v
    any (node n) = tt
    any (words ds) = tt

    -- a cell that a word stands for, with the site that it has
    at_cell : (a : Word) (env : Env) (w : World) (i : ℕ) (x : HeapCell)
        → ((s : ℕ) × (site_at w.cells i ≡ Some s) × StandsFor (tables p) A a (cell_of s))
        → slice_get w.cells i ≡ Some x → StandsFor (tables p) A a (cell_of x.site)
    at_cell a env w i x pl q = subst (λ s. StandsFor (tables p) A a (cell_of s))
        (site_is w.cells i pl.0 x pl.1 q) pl.2

    fetched : (a : Word) (i : ℕ) (h : List HeapCell) (s : ℕ) (n : Node)
        → StandsFor (tables p) A a (cell_of s) → NodeIn p h (At A (site s)) n
        → DatumIn h (Gives (tables p) A (word_at a i) (word 0)) (node_word n i)
    fetched a zero h s n st l = one_word (its_tag st l.tag_in)
    fetched a (suc i) h s n st l = datum_mono h (FetchGives (tables p) A a (suc i))
        (Gives (tables p) A (word_at a (suc i)) (word 0)) (λ u. one_word) (nth_or_zero n.fields i)
        (nth_lies p h A a s n.tag (length n.fields) i 0 i n.fields st l.tag_in l.full (omega arith)
        (omega arith) l.fields_in)

    -- a group of cells is there
    stored : (cs : List Cell) (env : Env) (w : World) → Good w → EnvLies p w.cells A env
        → AllMet (tables p) A (cells_flow p cs) → (hs : List HeapCell)
        → cells_of p (with_vars (places (length w.cells) cs) env) cs ≡ Some hs
        → Good (with_cells hs w) × EnvLies p (w.cells ++ hs) A
        (with_vars (places (length w.cells) cs) env)
    stored cs env w g el met hs q =
        let env' : Env = with_vars (places (length w.cells) cs) env in
        let h' : List HeapCell = w.cells ++ hs in
        let e : Extends w.cells h' = append_extends w.cells hs in
        let gs : GlobalCellsComeFirst p h' = there_on w.cells h' e g.globals_there in
        let el' : EnvLies p h' A env' = env_with p h' A (places (length w.cells) cs) env
        (env_on w.cells h' e env el)
        (places_lie p A h' (length w.cells) cs met
        (has_sites w.cells cs hs
        (from_some (SitesAre cs) (cells_of p env' cs) hs (sites_are p env' cs) q))) in
        let new : EachCell (CellLies p A h') hs = from_some (EachCell (CellLies p A h'))
        (cells_of p env' cs) hs (cells_lie p A h' gs env' el' cs met) q in (
          record {
            cells_good = append_cells (CellLies p A h') w.cells hs
                (λ a. if_map (CellLies p A w.cells) (CellLies p A h') (slice_get w.cells a)
                (g.cells_good a) (λ x. cell_on p A w.cells h' e x)) new;
            globals_there = gs;
            seen_good = g.seen_good;
          },
          el',
        )

    mutual
      unfolding act act_flows act_evals

      act_goes : (k : FlowSink) (o : Act) (env : Env) (d : ℕ) (w : World) → Good w
          → EnvLies p w.cells A env → AllMet (tables p) A (act_flows p k o)
          → (IsTrue (act_evals o) → IsTrue (has_eval p)) → Goes (At_sink k) w (act p c env d o w)
      act_goes k (leaf (unit v)) env d w g el m ev = need_goes
          (GivenIn p w.cells A g.globals_there env el v) (At_sink k) w (value_of p env v) _ g
          (value_lies p w.cells A g.globals_there env el v)
          (λ x l. (
            extends_self w.cells,
            g,
            lands p w.cells A (width (value v))
                (ValueGives (tables p) A v) k x m.0 l.0 l.1,
          ))
      act_goes k (leaf (fetch a)) env d w g el m ev
          = need_goes _ (At_sink k) w (and_then (word_of p env a) place_of) _ g
          (place_lies p w.cells A g.globals_there env el a)
          (λ i pl. need_is (At_sink k) w (slice_get w.cells i) _ g
          (λ x q. (
            extends_self w.cells,
            g,
            lands p w.cells A (Some 1) (Gives (tables p) A (nodes_at a)) k (node x.node) m.0
                (node_mono p w.cells (At A (site x.site)) (Gives (tables p) A (nodes_at a)) x.node
                (λ y. (x.site, at_cell a env w i x pl q, y))
                (λ i' u y. (x.site, at_cell a env w i x pl q, y)) (here w i x g q).0) tt,
          )))
      act_goes k (leaf (fetch_word a j)) env d w g el m ev
          = need_goes _ (At_sink k) w (and_then (word_of p env a) place_of) _ g
          (place_lies p w.cells A g.globals_there env el a)
          (λ i pl. need_is (At_sink k) w (slice_get w.cells i) _ g
          (λ x q. (
            extends_self w.cells,
            g,
            lands p w.cells A (Some 1)
                (Gives (tables p) A (word_at a j)) k (words (node_word x.node j ∷ [])) m.0 (
                  fetched a j w.cells x.site x.node (at_cell a env w i x pl q) (here w i x g q).0,
                  tt,
                )
                (omega arith),
          )))
      act_goes k (leaf (update a v)) env d w g el m ev
          = need_goes _ (At_sink k) w (and_then (word_of p env a) place_of) _ g
          (place_lies p w.cells A g.globals_there env el a)
          (λ i pl. need_is (At_sink k) w (slice_get w.cells i) _ g
          (λ x q. need_goes
          (NodeIn p w.cells (AsNodes (tables p) (width (value v)) (ValueGives (tables p) A v)))
          (At_sink k) w (node_of p env v) _ g (node_lies p w.cells A g.globals_there env el v)
          (λ n l. (
            set_extends w.cells i x n q,
            set_good w i x n g q
                (node_mono p w.cells
                (AsNodes (tables p) (width (value v)) (ValueGives (tables p) A v))
                (At A (site x.site)) n (m.0 x.site (at_cell a env w i x pl q) tags (tag n.tag))
                (λ i'. m.0 x.site (at_cell a env w i x pl q) (field n.tag i')) l),
            nothing_lands p _ A k,
          ))))
      act_goes k (leaf (eval a)) env d w g el m ev = eval_goes a k env d w g el m.0 (ev refl)
      act_goes k (leaf (apply v a)) env d w g el m ev
          = need_goes
          (NodeIn p w.cells (AsNodes (tables p) (width (value v)) (ValueGives (tables p) A v)))
          (At_sink k) w (node_of p env v) _ g (node_lies p w.cells A g.globals_there env el v)
          (λ n l. need_goes (DatumIn w.cells (StandsFor (tables p) A a)) (At_sink k) w
          (word_of p env a) _ g (word_lies p w.cells A g.globals_there env el a)
          (λ x y. need_is (At_sink k) w (slice_get p.tags n.tag) _ g
          (λ t e. cond_goes (At_sink k) w (is_part_kind t.kind) _ _
          (λ e'. need_is (At_sink k) w t.proc _ g
          (λ f e''. part_goes v a k d n x w g m.0 m.1.0 l y f t e e' e'' t.missing refl))
          (λ _. g))))
      act_goes k (leaf (call f ws)) env d w g el m ev
          = need_goes (WordsLie p w.cells A g.globals_there env el ws) (At_sink k) w
          (words_of p env ws) _ g (words_lie p w.cells A g.globals_there env el ws)
          (λ xs l. goes_map (Returns f.0) (At_sink k) w (c f.0 xs d w)
          (cg.by f.0 xs d w g
          (parameters_lie p w.cells A (Some (length ws))
          (ValueGives (tables p) A (VectorVal ws)) f.0 xs m.0
          (all_mono w.cells (WordAmong (tables p) A ws)
          (λ j. ValueGives (tables p) A (VectorVal ws) (word j)) (λ j u. of_words) 0 xs l.0)))
          (λ v w' b. lands p w'.cells A None (At A (result f.0)) k v m.1.0 b (any v)))
      act_goes k (leaf (prim f a b)) env d w g el m ev
          = need_goes (DatumIn w.cells (StandsFor (tables p) A a)) (At_sink k) w (word_of p env a) _
          g (word_lies p w.cells A g.globals_there env el a)
          (λ x _. need_goes (DatumIn w.cells (StandsFor (tables p) A b)) (At_sink k) w
          (word_of p env b) _ g (word_lies p w.cells A g.globals_there env el b)
          (λ y _. need_goes _ (At_sink k) w (apply_arithmetic f x y) _ g (calculated f x y w.cells)
          (λ v l. (
            extends_self w.cells,
            g,
            lands p w.cells A (Some 1) (Gives (tables p) A a_number)
                k v m.0 l.0 l.1,
          ))))
      act_goes k (leaf read) env d w g el m ev = reading_goes k w.input w g m.0
      act_goes k (leaf (write a)) env d w g el m ev
          = need_is (At_sink k) w (and_then (word_of p env a) number_of) _ g
          (λ i _. (
            extends_self w.cells,
            record {
              cells_good = g.cells_good;
              globals_there = g.globals_there;
              seen_good
                  = g.seen_good;
            },
            nothing_lands p _ A k,
          ))
      act_goes k (case v as') env d w g el m ev = need_goes
          (GivenIn p w.cells A g.globals_there env el v) (At_sink k) w (value_of p env v) _ g
          (value_lies p w.cells A g.globals_there env el v)
          (λ x l. arms_go k v as' env d x w g el l.0 l.1 m ev)
      act_goes k (nested b) env d w g el m ev = code_goes k b env d w g el m ev
      act_goes k (leaf fail) env d w g el m ev = g

      code_goes : (k : FlowSink) (b : Code) (env : Env) (d : ℕ) (w : World) → Good w
          → EnvLies p w.cells A env → AllMet (tables p) A (code_flows p k b)
          → (IsTrue (code_evals b) → IsTrue (has_eval p)) → Goes (At_sink k) w (code p c env d b w)
      code_goes k (end o) env d w g el m ev = act_goes k o env d w g el m ev
      code_goes k (store cs b) env d w g el m ev = need_is (At_sink k) w
          (cells_of p (with_vars (places (length w.cells) cs) env) cs) _ g (λ hs q.
          let env' = with_vars (places (length w.cells) cs) env in
          let new = stored cs env w g el (met_front p A (cells_flow p cs) (code_flows p k b) m) hs q
          in
          goes_on (At_sink k) w (with_cells hs w)
          (code p c env' d b (with_state_seen env' (with_cells hs w)))
          (append_extends w.cells hs)
          (code_goes k b env' d (with_state_seen env' (with_cells hs w))
          (pass env' (with_cells hs w) new.0 new.1) new.1
          (met_back p A (cells_flow p cs) (code_flows p k b) m) ev))
      code_goes k (bind t o b) env d w g el m ev = then_goes (At_sink (to t)) (At_sink k) w
          (act p c env (suc d) o w) _
          (act_goes (to t) o env (suc d) w g el
          (met_front p A (act_flows p (to t) o) (code_flows p k b) m)
          (λ e. ev (true_left (act_evals o) (code_evals b) e)))
          (λ v w' e g' l. need_goes (BindingsLie p w'.cells A) (At_sink k) w' (bindings_of p t v) _
          g' l
          (λ bs bl. let el' : EnvLies p w'.cells A (with_vars bs env)
          = env_with p w'.cells A bs env (env_on w.cells w'.cells e env el) bl in
          code_goes k b (with_vars bs env) d (with_state_seen (with_vars bs env) w')
          (pass (with_vars bs env) w' g' el') el'
          (met_back p A (act_flows p (to t) o) (code_flows p k b) m)
          (λ e. ev (true_right (act_evals o) (code_evals b) e))))

      arms_go : (k : FlowSink) (v : Val) (as' : Arms) (env : Env) (d : ℕ) (x : Value) (w : World)
          → Good w → EnvLies p w.cells A env → ValueIn p w.cells (ValueGives (tables p) A v) x
          → Narrow (width (value v)) x → AllMet (tables p) A (arms_flow p k v as')
          → (IsTrue (arms_eval as') → IsTrue (has_eval p))
          → Goes (At_sink k) w (arms p c env d x as' w)
      arms_go k v no_arm env d x w g el l nw m ev = g
      arms_go k v (arm s b as') env d x w g el l nw m ev =
          let m1 : AllMet (tables p) A (code_flows p k b ++ arms_flow p k v as')
          = met_back p A (shape_flows v s) (code_flows p k b ++ arms_flow p k v as') m in
          choose_goes (At_sink k) (fit_of p s x) w _ _ g
          (fit_lies w.cells v s x
          (met_front p A (shape_flows v s) (code_flows p k b ++ arms_flow p k v as') m) l nw)
          (λ bs bl. let el' : EnvLies p w.cells A (with_vars bs env)
          = env_with p w.cells A bs env el bl in
          code_goes k b (with_vars bs env) d (with_state_seen (with_vars bs env) w)
          (pass (with_vars bs env) w g el') el'
          (met_front p A (code_flows p k b) (arms_flow p k v as') m1)
          (λ e. ev (true_left (code_evals b) (arms_eval as') e)))
          (arms_go k v as' env d x w g el l nw
          (met_back p A (code_flows p k b) (arms_flow p k v as') m1)
          (λ e. ev (true_right (code_evals b) (arms_eval as') e)))

  spend_goes : (Y : List HeapCell → Value → Type 0) (l : ℕ) (w : World) (k : ℕ → Answer) → Good w
      → ((m : ℕ) → Goes Y w (k m)) → Goes Y w (spend l w k)
  spend_goes Y zero w k g f = g
  spend_goes Y (suc m) w k g f = f m

  -- the inclusions of each procedure are met
  body_met : (qs : List Procedure) (i : ℕ) → AllMet (tables p) A (procs_flow p i qs) → (f j : ℕ)
      → j ≡ i + f → IfSome (slice_get qs f)
      (λ q. AllMet (tables p) A (code_flows p (into_result j) q.body))
  body_met [] i m f j e = tt
  body_met (q ∷ qs) i m zero j e = subst
      (λ k. AllMet (tables p) A (code_flows p (into_result k) q.body)) (omega arith)
      (met_front p A (code_flows p (into_result i) q.body) (procs_flow p (suc i) qs) m)
  body_met (q ∷ qs) i m (suc f) j e = body_met qs (suc i)
      (met_back p A (code_flows p (into_result i) q.body) (procs_flow p (suc i) qs) m) f j
      (omega arith)

  body_evals : (qs : List Procedure) (f : ℕ) → IfSome (slice_get qs f)
      (λ q. IsTrue (code_evals q.body) → IsTrue (procs_eval qs))
  body_evals [] f = tt
  body_evals (q ∷ qs) zero = λ e. true_left (code_evals q.body) (procs_eval qs) e
  body_evals (q ∷ qs) (suc f) = if_map (λ r. IsTrue (code_evals r.body) → IsTrue (procs_eval qs))
      (λ r. IsTrue (code_evals r.body) → IsTrue (procs_eval (q ∷ qs))) (slice_get qs f)
      (body_evals qs f) (λ r g e. true_right (code_evals q.body) (procs_eval qs) (g e))

  -- calls, by any number of units
  calls_go : AllMet (tables p) A (procs_flow p 0 p.procs) → (n : ℕ) → CallsGo (calls p n)
  unfolding calls
  calls_go m zero = record { by = λ f xs d w g l. g }
  calls_go m (suc n) = record {
    by = λ f xs d w g l. spend_goes (Returns f) w.left w _ g
        (λ left. need_is (Returns f) w (slice_get p.procs f) _ g (λ q e.
        need_goes (BindingsLie p w.cells A) (Returns f) w (one_each q.params xs) _ g
        (from_some (λ q. IfSome (one_each q.params xs) (BindingsLie p w.cells A))
        (slice_get p.procs f) q l e)
        (λ bs b. body f d left w g q e (with_vars bs (λ y. None))
        (env_with p w.cells A bs (λ y. None) (λ y. tt) b) (calls_go m n))));
  }
    where
      body : (f d left : ℕ) (w : World) → Good w → (q : Procedure) → slice_get p.procs f ≡ Some q
          → (env : Env) → EnvLies p w.cells A env → CallsGo (calls p n)
          → Goes (Returns f) w
          (code p (calls p n) env d q.body (with_state_seen env (spent f d left w)))
      body f d left w g q e env el cg =
          code_goes (calls p n) cg (into_result f) q.body env d
          (with_state_seen env (spent f d left w))
          (pass env (spent f d left w)
          (record {
            cells_good = g.cells_good;
            globals_there = g.globals_there;
            seen_good
                = g.seen_good;
          }) el) el
          (from_some (λ q. AllMet (tables p) A (code_flows p (into_result f) q.body))
          (slice_get p.procs f) q (body_met p.procs 0 m f f (omega arith)) e)
          (from_some (λ q. IsTrue (code_evals q.body) → IsTrue (procs_eval p.procs))
          (slice_get p.procs f) q (body_evals p.procs f) e)

  goes_good : (Y : List HeapCell → Value → Type 0) (w : World) (a : Answer) → Goes Y w a
      → Good (world_of a)
  goes_good Y w (gives v w') g = g.1
  goes_good Y w (stops s w') g = g

  run_good : CanBeStarted p → Solves (tables p) (system p) A → (i : List ℕ) (n : ℕ)
      → Good (world_of (run p i n))
  unfolding run
  run_good s m i n =
      let start = start_flows p p.argument in
      let rest = globals_flow p p.globals ++ procs_flow p 0 p.procs in
      let m1 : AllMet (tables p) A rest = met_back p A start rest m in
      let gs : GlobalCellsComeFirst p (global_cells p) = global_sites p A p.globals in
      let g : Good (start_world p i n) = record {
        cells_good = globals_good p A (global_cells p) p.globals
            (met_front p A (globals_flow p p.globals) (procs_flow p 0 p.procs) m1) s.no_fields;
        globals_there = gs;
        seen_good = tt;
      } in
      goes_good (Returns p.start.0) (start_world p i n) _
      ((calls_go (met_back p A (globals_flow p p.globals) (procs_flow p 0 p.procs) m1) n).by
      p.start.0 (start_words p.argument) 0 (start_world p i n) g
      (argument_lies p A (global_cells p) gs p.argument (met_front p A start rest m)
      s.argument_there
      p.start.0 refl (λ _. no_arguments p A (global_cells p) p.start.0)))

  pub covers : CanBeStarted p → Solves (tables p) (system p) A → Covers p A
  covers s m = record {
    passed = λ i n. (run_good s m i n).seen_good;
    at_end = λ i n a. if_map (CellLies p A (world_of (run p i n)).cells)
        (λ c. NodeIn p (world_of (run p i n)).cells (At A (site c.site)) c.node)
        (slice_get (world_of (run p i n)).cells a) ((run_good s m i n).cells_good a) (λ c l. l.0);
  }

pub solutions_cover : SolutionsCover
solutions_cover p A s m = covers p A s m
