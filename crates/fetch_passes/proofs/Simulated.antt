-- A program with its fetches split does what the program does, with no deeper nesting.
--
-- Between the fetch of a tag and the fetches in the alternatives, words of a node *wait*: the old
-- program has them in variables, the new one still has to fetch them. Nothing may wait across an
-- operation that could change the heap. The relation of variables has two parts, those that are
-- the same and those that wait.
use Rattle.std.proofs.Common.{◌≡◌, ◌≢◌, ℕ, suc, ◌+◌, ◌<◌, ◌≤◌, Bool, true, false, cond, ◌||◌, List, [], ◌∷◌, ◌++◌, length, Some, slice_get, slice_set, refl, sym, ap, ◌∙◌, subst, inl, inr, ◌⊎◌, arith}
use Rattle.seq.proofs.Truth.{neither_left, neither_right}
use Rattle.seq.proofs.Order.{eq_from}
use Rattle.grin_syntax.specs.declared.program.VarId.{VarId}
use Rattle.grin_syntax.specs.declared.program.Cell.{Cell}
use Rattle.grin_syntax.specs.declared.program.Target.{Target}
use Rattle.grin_syntax.specs.declared.program.Target.TheVariants as to
use Rattle.grin_syntax.specs.declared.program.Shape.{Shape}
use Rattle.grin_syntax.specs.declared.program.Val as V
use Rattle.grin_syntax.specs.declared.program.Word as W
use Rattle.grin_syntax.specs.declared.program.Word.TheVariants.{Lit, Var, Global, TagWord}
use Rattle.grin_syntax.specs.Tree.{Code, end, store, bind, Act, leaf, unit, fetch, fetch_word, update, eval, apply, call, prim, read, write, case, nested, fail, Arms, no_arm, arm, Procedure, Program}
use Rattle.grin_syntax.specs.Binders.{target_vars, shape_vars, cell_vars, act_vars, code_vars, arms_vars}
use Rattle.grin_syntax.specs.Formed.{AllOf, Scope, InScope, with_word_variables, with_target, WordFormed, ValFormed, CellFormed, ActFormed, CodeFormed, ArmsFormed}
use Rattle.grin_meaning.specs.Values.{Datum, cell, Node, Value, node, words, Env, HeapCell, and_then, Binding, with_vars, fits, word_of, value_of, bindings_of}
use Rattle.grin_meaning.specs.Run.{Calls, places, cells_of, place_of}
use Rattle.grin_meaning.specs.Checks.{has_block, all_fill, is_bound_well}
use Rattle.grin_meaning.specs.Ready.{NoNodeTarget, NoNodeVar, EachAct}
use Rattle.grin_meaning.specs.Follows.{Same, same}
use Rattle.grin_meaning.specs.Full.{FullState}
use Rattle.grin_meaning.proofs.Back.{CallsBack}
use Rattle.grin_meaning.proofs.Rules.{Relation, Here, Setting, CallsFollow, ActFollows, CodeFollows, ArmsFollow, code_more, BindsToo, CellToo, unit_follows, fetch_follows, fetch_word_follows, update_follows, call_follows, prim_follows, read_follows, write_follows, fail_follows, nested_follows, end_follows, store_follows, bind_follows, case_follows, no_arm_follows, arm_follows}
use Rattle.grin_meaning.proofs.Plain.{then_has}
use Rattle.grin_meaning.proofs.OneSided.{left_follows}
use Rattle.pass_ground.specs.Uses.{word_is, words_use, val_uses, cells_use, act_uses, code_uses, arms_use, act_mentions}
use Rattle.fetch_passes.specs.Windows.{begins_with, is_passed, owns, tests_number, vector_uses, act_outside, outside}
use Rattle.fetch_passes.specs.Names.{Names, DeferredField, as_word, as_words, as_val, as_cells, with_hidden}
use Rattle.fetch_passes.specs.Waits.{deferred_fields_of}
use Rattle.fetch_passes.specs.Split.{front, front_names, whole_node, split_act, split_code, split_arms, made_act, made_code}
use Rattle.pass_ground.proofs.Bound.{bound_names, places_names}
use Rattle.fetch_passes.proofs.Found.{is_var, is_waiting}
use Rattle.fetch_passes.proofs.Near.{Sound, sound_more, held_more, held_as, Near, near_bind, word_kept}
use Rattle.fetch_passes.proofs.Steps.{plus, plus_out, near_heap}
use Rattle.fetch_passes.proofs.Words.{Clear, clear_left, clear_right, SameFits, same_fits, arms_same, fit_nothing, fewer_uses, word_goes, words_go, value_goes, node_goes, fills_go, node_fills, cells_go, all_fill_goes, own_goes}
use Rattle.fetch_passes.proofs.Waiting.{front_sound, front_hidden}
use Rattle.fetch_passes.proofs.LastFetch.{ending_follows}
use Rattle.fetch_passes.proofs.Fetching.{Fetches, fetch_gave, fetch_word_gave, plan_of, it, cells_same, front_follows}
use Rattle.seq.specs.Lists.{times}
use Rattle.grin_meaning.proofs.Following.{is_same}
use Rattle.fetch_passes.proofs.Pieces.{target_words, bound_too, by_waiting, Ctx, Window, PieceAct, PieceCode, PieceArms, ctx_on, ctx_none, none_waits, new_left, once_left, once_right, once_moved, below_left, below_right, in_more, low_more, after_target, ctx_after, first_act, target_new}
use Rattle.fetch_passes.proofs.NodeFetched.{node_bind, ctx2, window2}

module _ (g : Program) (base : ℕ) (procs : List Procedure)
    (same_count : length procs ≡ length g.procs) where
  module _ (c c' : Calls) (cb : CallsBack (FullState g) c) (cf : CallsFollow (plan_of g procs) c c')
    where
      abbrev pub st : Setting
      st = it g procs c c' cb cf

      abbrev pub NearR : List ℕ → Names → W.Word → List DeferredField → Relation
      NearR zs ks a ps = λ cells. Near g zs ks [] a ps cells

      -- ---- statements

      -- an operation that may change the heap: nothing waits after it
      plain_bind : (t : Target) (o o' : Act) (b b' : Code) (scope : Scope) (ks : Names) (a : W.Word)
          (ps : List DeferredField) (n : ℕ) → Ctx g base scope.words ks a ps n → NoNodeTarget t
          → ((y : ℕ) → InScope (target_vars t) y → times y scope.words ≡ 0 × y < base)
          → has_block o' ≡ has_block o
          → ActFollows st (NearR scope.words ks a ps) Same o o'
          → CodeFollows st (NearR (with_target t scope).words ks a []) Same b b'
          → CodeFollows st (NearR scope.words ks a ps) Same (bind t o b) (bind t o' b')
      plain_bind t o o' b b' scope ks a ps n x nt new bl f k
          = bind_follows st {R = NearR scope.words ks a ps}
          {R' = NearR (with_target t scope).words ks a []} {U = Same} {V = Same} t t o o' b b' f k
          (λ h y. on h.w.cells y.w.cells h.env h.env' y.bs y.values (y.seen refl) y.binds h.related)
        where
          on : (cells cells2 : List HeapCell) (env env' : Env) {v v' : Value} (bs : List Binding)
              → Same v v' → is_bound_well g t o v ≡ true → bindings_of g t v ≡ Some bs
              → Near g scope.words ks [] a ps cells env env'
              → BindsToo st (NearR (with_target t scope).words ks a []) t o' env env' cells2 v' bs
          on cells cells2 env env' bs (same {a = v}) l e r = record {
            seen = λ _. bound_too g t o o' v nt bl l;
            bs' = bs;
            binds = e;
            related = subst
                (λ zs. Near g zs ks [] a [] cells2 (with_vars bs env) (with_vars bs env'))
                (sym (target_words t scope nt))
                (near_bind g base n scope.words ks x.sound x.low a [] cells2 env env' bs
                (target_vars t) (bound_names g t v bs e) new x.held tt
                (near_heap g scope.words ks [] a a ps cells cells2 env env' r));
          }

      -- a fetch of a word
      passed_bind : (t : Target) (d : W.Word) (i : ℕ) (b b' : Code) (scope : Scope) (ks : Names)
          (a : W.Word) (ps : List DeferredField) (n : ℕ) → Ctx g base scope.words ks a ps n
          → NoNodeTarget t
          → ((y : ℕ) → InScope (target_vars t) y → times y scope.words ≡ 0 × y < base)
          → ActFollows st (NearR scope.words ks a ps) Same (leaf (fetch_word d i))
          (leaf (fetch_word (as_word ks d) i)) → CodeFollows st
          (NearR (with_target t scope).words ks a ps) Same b b'
          → CodeFollows st (NearR scope.words ks a ps) Same (bind t (leaf (fetch_word d i)) b)
          (bind t (leaf (fetch_word (as_word ks d) i)) b')
      passed_bind t d i b b' scope ks a ps n x nt new f k
          = bind_follows st {R = NearR scope.words ks a ps}
          {R' = NearR (with_target t scope).words ks a ps} {U = Same} {V = Same} t t
          (leaf (fetch_word d i)) (leaf (fetch_word (as_word ks d) i)) b b' f k
          (λ h y. on h.w.cells y.w.cells
          (let z : Fetches g h.env d h.w _ y.v y.w
          = fetch_word_gave g c h.env (suc h.d) d i h.w y.w y.v y.gave
          in ap (λ w. w.cells) z.world) h.env h.env' y.bs y.values (y.seen refl) y.binds
          h.related)
        where
          on : (cells cells2 : List HeapCell) → cells2 ≡ cells
              → (env env' : Env) {v v' : Value} (bs : List Binding) → Same v v'
              → is_bound_well g t (leaf (fetch_word d i)) v ≡ true → bindings_of g t v ≡ Some bs
              → Near g scope.words ks [] a ps cells env env'
              → BindsToo st (NearR (with_target t scope).words ks a ps) t
              (leaf (fetch_word (as_word ks d) i)) env env' cells2 v' bs
          on cells cells2 w env env' bs (same {a = v}) l e r = record {
            seen = λ _. bound_too g t (leaf (fetch_word d i)) (leaf (fetch_word (as_word ks d) i)) v
                nt refl l;
            bs' = bs;
            binds = e;
            related = subst
                (λ zs. Near g zs ks [] a ps cells2 (with_vars bs env) (with_vars bs env'))
                (sym (target_words t scope nt))
                (near_bind g base n scope.words ks x.sound x.low a ps cells2 env env' bs
                (target_vars t) (bound_names g t v bs e) new x.held x.waiting
                (subst (λ cs. Near g scope.words ks [] a ps cs env env') (sym w) r));
          }

      -- a fetch of a node whose target takes none
      never_bind : {R : Relation} (t : Target) (d : W.Word) (b b' : Code)
          → ((m : Node) (bs : List Binding) → bindings_of g t (node m) ≡ Some bs → ⊥)
          → CodeFollows st R Same (bind t (leaf (fetch d)) b) b'
      never_bind {R} t d b b' none = left_follows st {R = R} {R' = λ cells env env'. ⊥} {V = Same} t
          (leaf (fetch d)) b b' tt (record { by = λ h. absurd h.related })
          (λ h v bs e l q at.
          (let z : Fetches g h.env d h.w (λ y. node y.node) v h.w
          = fetch_gave g c h.env (suc h.d) d h.w h.w v e
          in none z.y.node bs (ap (bindings_of g t) (sym z.value) ∙ q)))

      places_stay : (ks : Names) (i : ℕ) (cs : List Cell) → places i (as_cells ks cs) ≡ places i cs
      places_stay ks i [] = refl
      places_stay ks i (d ∷ cs) = ap (λ l. (d.var.0, words (cell i ∷ [])) ∷ l)
          (places_stay ks (suc i) cs)

      stores : (cs : List Cell) (b b' : Code) (scope : Scope) (ks : Names) (a : W.Word)
          (ps : List DeferredField) (n : ℕ) → Ctx g base scope.words ks a ps n
          → AllOf (CellFormed g (with_word_variables (cell_vars cs) scope)) cs
          → AllOf (λ d. NoNodeVar d.val) cs → Clear ks (λ z. cells_use z cs)
          → ((y : ℕ) → InScope (cell_vars cs) y → times y scope.words ≡ 0 × y < base)
          → CodeFollows st (NearR (cell_vars cs ++ scope.words) ks a []) Same b b'
          → CodeFollows st (NearR scope.words ks a ps) Same (store cs b)
          (store (as_cells ks cs) b')
      stores cs b b' scope ks a ps n x fc nc clear new k
          = store_follows st {R = NearR scope.words ks a ps}
          {R' = NearR (cell_vars cs ++ scope.words) ks a []} {V = Same} cs (as_cells ks cs) b b' k
          (λ h y.
          let many : length h.w.cells ≡ length h.b.cells
          = ap length (sym (cells_same g procs c c' cb cf h.b)) in
          let bs : List Binding = places (length h.w.cells) cs in
          let same_places : places (length h.b.cells) (as_cells ks cs) ≡ bs
          = places_stay ks (length h.b.cells) cs ∙ ap (λ i. places i cs) (sym many) in
          let r : Near g (cell_vars cs ++ scope.words) ks [] a [] (h.w.cells ++ y.hs)
          (with_vars bs h.env) (with_vars bs h.env')
          = near_bind g base n scope.words ks x.sound x.low a [] (h.w.cells ++ y.hs) h.env h.env' bs
          (cell_vars cs) (places_names (length h.w.cells) cs) new x.held tt
          (near_heap g scope.words ks [] a a ps h.w.cells (h.w.cells ++ y.hs) h.env h.env'
          h.related) in
          let scope1 : Scope = with_word_variables (cell_vars cs) scope in
          let s : Sound base n scope1.words ks = sound_more base n n scope.words
          (cell_vars cs ++ scope.words) ks (omega arith) (in_more g base (cell_vars cs) scope.words)
          x.sound in
          record {
            hs' = y.hs;
            cells = subst (λ bs2. cells_of g (with_vars bs2 h.env') (as_cells ks cs) ≡ Some y.hs)
                (sym same_places)
                (cells_go g scope1 ks base n s a [] (h.w.cells ++ y.hs) (with_vars bs h.env)
                (with_vars bs h.env') r cs fc nc clear y.hs y.cells);
            seen = λ l. subst (λ bs2. all_fill g (with_vars bs2 h.env') (as_cells ks cs) ≡ true)
                (sym same_places)
                (all_fill_goes g scope1 ks base n s a [] (h.w.cells ++ y.hs) (with_vars bs h.env)
                (with_vars bs h.env') r cs fc nc clear y.hs y.cells ∙ y.seen l);
            heaps = is_same (h.w.cells ++ y.hs) (h.b.cells ++ y.hs)
                (ap (λ cs. cs ++ y.hs) (cells_same g procs c c' cb cf h.b));
            related = subst
                (λ bs2. Near g (cell_vars cs ++ scope.words) ks [] a [] (h.w.cells ++ y.hs)
                (with_vars bs h.env) (with_vars bs2 h.env')) (sym same_places) r;
          })

      -- ---- operations without blocks

      module _ (scope : Scope) (ks : Names) (a : W.Word) (ps : List DeferredField) (n : ℕ)
          (x : Ctx g base scope.words ks a ps n) where
        abbrev R : Relation
        R = NearR scope.words ks a ps

        abbrev cell_too : (h : Here (plan_of g procs) R) (d : W.Word) → WordFormed g scope d
            → Clear ks (λ z. word_is z d) → (i : ℕ) (y : HeapCell)
            → and_then (word_of g h.env d) place_of ≡ Some i → slice_get h.w.cells i ≡ Some y
            → CellToo st (as_word ks d) h.env' h.b.cells
        cell_too h d f clear i y e q = record {
          i' = i;
          y' = y;
          place = then_has (word_of g h.env d) (word_of g h.env' (as_word ks d)) place_of place_of i
              (word_goes g scope ks base n x.sound a ps h.w.cells h.env h.env' h.related d f clear)
              (λ d q. q) e;
          there = ap (λ cs. slice_get cs i) (cells_same g procs c c' cb cf h.b) ∙ q;
        }

        word_too : (h : Here (plan_of g procs) R) (d : W.Word) → WordFormed g scope d
            → Clear ks (λ z. word_is z d) → (m : Datum) → word_of g h.env d ≡ Some m
            → word_of g h.env' (as_word ks d) ≡ Some m
        word_too h d f clear m e = word_goes g scope ks base n x.sound a ps h.w.cells h.env h.env'
            h.related d f clear m e

        units : (v : V.Val) → ValFormed g scope v → NoNodeVar v → Clear ks (λ z. val_uses z v)
            → ActFollows st R Same (leaf (unit v)) (leaf (unit (as_val ks v)))
        units v f m clear = unit_follows st v (as_val ks v) (λ h y e seen. (
          λ l. fills_go g scope ks base n x.sound a ps h.w.cells h.env h.env' h.related v f m clear
              y
              e ∙ seen l,
          y,
          value_goes g scope ks base n x.sound a ps h.w.cells h.env h.env' h.related v f m clear y
              e,
          same,
        ))

        word_fetched : (d : W.Word) (k : ℕ) → WordFormed g scope d → Clear ks (λ z. word_is z d)
            → ActFollows st R Same (leaf (fetch_word d k)) (leaf (fetch_word (as_word ks d) k))
        word_fetched d k f clear = fetch_word_follows st d (as_word ks d) k k
            (λ h i y e q. (cell_too h d f clear i y e q, same))

        updates : (d : W.Word) (v : V.Val) → WordFormed g scope d → ValFormed g scope v
            → NoNodeVar v
            → Clear ks (λ z. word_is z d) → Clear ks (λ z. val_uses z v)
            → ActFollows st R Same (leaf (update d v)) (leaf (update (as_word ks d) (as_val ks v)))
        updates d v f fv m clear cv = update_follows st d (as_word ks d) v (as_val ks v) same
            (λ h i y e q. (
              cell_too h d f clear i y e q,
              λ k made seen. record {
                n' = k;
                made = node_goes g scope ks base n x.sound a ps h.w.cells h.env h.env' h.related v
                    fv m cv
                    k made;
                seen = λ l. node_fills g scope ks base n x.sound a ps h.w.cells h.env h.env'
                    h.related v
                    fv m cv k made ∙ seen l;
                heaps = is_same _ _
                    (ap (λ cs. slice_set cs i (record { site = y.site; node = k }))
                    (cells_same g procs c c' cb cf h.b));
              },
            ))

        calls : (f : _) (ws : List W.Word) → AllOf (WordFormed g scope) ws
            → Clear ks (λ z. words_use z ws) → ActFollows st R Same (leaf (call f ws))
            (leaf (call f (as_words ks ws)))
        calls f ws fw clear = call_follows st f ws (as_words ks ws)
            (λ h xs e. (
              xs,
              words_go g scope ks base n x.sound a ps h.w.cells h.env h.env' h.related ws fw clear
                  xs e,
              same,
            ))

        -- the value of a case, with the same alternative
        case_value : (t : ℕ) (v : V.Val) (as' : Arms) → PieceAct g base scope (case v as')
            → Window g base scope.words ks ps t (λ z. act_uses z (case v as'))
            (λ z. act_outside t z (case v as')) → (h : Here (plan_of g procs) R) (y : Value)
            → value_of g h.env v ≡ Some y
            → (y' : Value) × (value_of g h.env' (as_val ks v) ≡ Some y')
            × (Near g scope.words ks [] a ps h.w.cells h.env h.env' × SameFits g as' y y')
        unfolding act_mentions ActFormed EachAct
        case_value t v as' q w h y e = go (begins_with t v) refl
          where
            go : (b : Bool) → begins_with t v ≡ b → (y' : Value)
                × (value_of g h.env' (as_val ks v) ≡ Some y')
                × (Near g scope.words ks [] a ps h.w.cells h.env h.env' × SameFits g as' y y')
            go true b =
                let z : (y' : Value) × (value_of g h.env' (as_val ks v) ≡ Some y')
                × SameFits g as' y y' = own_goes g scope ks base n x.sound a ps h.w.cells h.env
                h.env' h.related as' (arms_same g as' q.bare.2) v q.formed.0 q.bare.1
                (by_waiting ks ps (λ z. vector_uses (tests_number as') z v)
                (λ z i j. fewer_uses (tests_number as') z.0 v
                (neither_left (val_uses z.0 v) (arms_use z.0 as') (w.hidden z i j)))
                (λ z i. ap
                (λ b. cond b (vector_uses (tests_number as') z v)
                (val_uses z v || arms_use z as')) (sym b) ∙ w.waits z i)) y e in
                (z.0, z.1, (h.related, z.2))
            go false b = (
              y,
              value_goes g scope ks base n x.sound a ps h.w.cells h.env h.env' h.related v
                  q.formed.0
                  q.bare.1 (by_waiting ks ps (λ z. val_uses z v)
                  (λ z i j. neither_left (val_uses z.0 v) (arms_use z.0 as') (w.hidden z i j))
                  (λ z i. neither_left (val_uses z v) (arms_use z as')
                  (ap (λ b. cond b (vector_uses (tests_number as') z v)
                  (val_uses z v || arms_use z as')) (sym b) ∙ w.waits z i))) y e,
              (h.related, same_fits g as' y),
            )

      -- ---- pieces

      at_end : (o : Act) (scope : Scope) → PieceCode g base scope (end o) → PieceAct g base scope o
      unfolding CodeFormed EachAct act_vars
      at_end o scope q = record
          { formed = q.formed; inlined = q.inlined; bare = q.bare; once = q.once; below = q.below }

      in_nested : (b : Code) (scope : Scope) → PieceAct g base scope (nested b)
          → PieceCode g base scope b
      unfolding ActFormed EachAct act_vars
      in_nested b scope q = record {
        formed = q.formed;
        inlined = q.inlined.1;
        bare = q.bare.1;
        once = q.once;
        below
            = q.below;
      }

      in_case : (v : V.Val) (as' : Arms) (scope : Scope) → PieceAct g base scope (case v as')
          → PieceArms g base scope as'
      unfolding ActFormed EachAct act_vars
      in_case v as' scope q = record {
        formed = q.formed.1;
        inlined = q.inlined.2;
        bare = q.bare.2;
        once = q.once;
        below
            = q.below;
      }

      in_store : (cs : List Cell) (b : Code) (scope : Scope) → PieceCode g base scope (store cs b)
          → PieceCode g base (with_word_variables (cell_vars cs) scope) b
      unfolding CodeFormed EachAct act_vars
      in_store cs b scope q = record {
        formed = q.formed.1;
        inlined = q.inlined.1;
        bare = q.bare.1;
        once = once_moved g base scope.words (cell_vars cs) (code_vars b) q.once;
        below = below_right g base (cell_vars cs) (code_vars b) q.below;
      }

      in_arm : (s : Shape) (b : Code) (as' : Arms) (scope : Scope)
          → PieceArms g base scope (arm s b as')
          → PieceCode g base scope b
      unfolding ArmsFormed EachAct act_vars
      in_arm s b as' scope q = record {
        formed = subst (λ xs. CodeFormed g (with_word_variables xs scope) b) q.bare.0 q.formed.1;
        inlined = q.inlined.1;
        bare = q.bare.1;
        once = once_left g base scope.words (code_vars b) (arms_vars as')
            (once_right g base scope.words (shape_vars s) (code_vars b ++ arms_vars as') q.once);
        below = below_left g base (code_vars b) (arms_vars as')
            (below_right g base (shape_vars s) (code_vars b ++ arms_vars as') q.below);
      }

      next_arms : (s : Shape) (b : Code) (as' : Arms) (scope : Scope)
          → PieceArms g base scope (arm s b as')
          → PieceArms g base scope as'
      unfolding ArmsFormed EachAct act_vars
      next_arms s b as' scope q = record {
        formed = q.formed.2;
        inlined = q.inlined.2;
        bare = q.bare.2;
        once = once_right g base scope.words (code_vars b) (arms_vars as')
            (once_right g base scope.words (shape_vars s) (code_vars b ++ arms_vars as') q.once);
        below = below_right g base (code_vars b) (arms_vars as')
            (below_right g base (shape_vars s) (code_vars b ++ arms_vars as') q.below);
      }

      abbrev ActWindow : Scope → Names → List DeferredField → ℕ → Act → Type 0
      ActWindow scope ks ps t o = Window g base scope.words ks ps t (λ z. act_uses z o)
          (λ z. act_outside t z o)

      abbrev pub CodeWindow : Scope → Names → List DeferredField → ℕ → Code → Type 0
      CodeWindow scope ks ps t b = Window g base scope.words ks ps t (λ z. code_uses z b)
          (λ z. outside t z b)

      -- of an operation that ends a window, and of what comes after it
      act_window : (u : Target) (o : Act) (b : Code) (scope : Scope) (ks : Names)
          (ps : List DeferredField) (t : ℕ) → is_passed o ≡ false
          → CodeWindow scope ks ps t (bind u o b) → ActWindow scope ks ps t o
      unfolding act_mentions outside
      act_window u o b scope ks ps t e w = record {
        hidden = λ z i j. neither_left (act_uses z.0 o) (code_uses z.0 b) (w.hidden z i j);
        waits = λ z i. neither_left (act_outside t z o) (code_uses z b)
            (ap (λ p. cond p (act_uses z o || outside t z b) (act_outside t z o || code_uses z b))
            (sym e) ∙ w.waits z i);
        tagged = w.tagged;
      }

      clear_after : (u : Target) (o : Act) (b : Code) (scope : Scope) (ks : Names)
          (ps : List DeferredField) (t : ℕ) → is_passed o ≡ false
          → CodeWindow scope ks ps t (bind u o b) → Clear ks (λ z. code_uses z b)
      unfolding act_mentions outside
      clear_after u o b scope ks ps t e w = by_waiting ks ps (λ z. code_uses z b)
          (λ z i j. neither_right (act_uses z.0 o) (code_uses z.0 b) (w.hidden z i j))
          (λ z i. neither_right (act_outside t z o) (code_uses z b)
          (ap (λ p. cond p (act_uses z o || outside t z b) (act_outside t z o || code_uses z b))
          (sym e) ∙ w.waits z i))

      end_window : (o : Act) (scope : Scope) (ks : Names) (ps : List DeferredField) (t : ℕ)
          → CodeWindow scope ks ps t (end o) → ActWindow scope ks ps t o
      unfolding act_mentions outside
      end_window o scope ks ps t w = record
          { hidden = w.hidden; waits = w.waits; tagged = w.tagged }

      store_clear : (cs : List Cell) (b : Code) (scope : Scope) (ks : Names)
          (ps : List DeferredField)
          (t : ℕ) → CodeWindow scope ks ps t (store cs b) → Clear ks (λ z. cells_use z cs)
          × Clear ks (λ z. code_uses z b)
      unfolding act_mentions outside
      store_clear cs b scope ks ps t w = (
        by_waiting ks ps (λ z. cells_use z cs)
            (λ z i j. neither_left (cells_use z.0 cs) (code_uses z.0 b) (w.hidden z i j))
            (λ z i. neither_left (cells_use z cs) (code_uses z b) (w.waits z i)),
        by_waiting ks ps (λ z. code_uses z b)
            (λ z i j. neither_right (cells_use z.0 cs) (code_uses z.0 b) (w.hidden z i j))
            (λ z i. neither_right (cells_use z cs) (code_uses z b) (w.waits z i)),
      )

      -- of an operation that is no case
      plain_clear : (o : Act) (scope : Scope) (ks : Names) (ps : List DeferredField) (t : ℕ)
          → ((z : ℕ) → act_outside t z o ≡ act_uses z o) → ActWindow scope ks ps t o
          → Clear ks (λ z. act_uses z o)
      plain_clear o scope ks ps t e w = by_waiting ks ps (λ z. act_uses z o) w.hidden
          (λ z i. sym (e z) ∙ w.waits z i)

      store_once : (cs : List Cell) (b : Code) (scope : Scope) → PieceCode g base scope (store cs b)
          → (y : ℕ) → times y scope.words + times y (cell_vars cs ++ code_vars b) ≤ 1
      unfolding act_vars
      store_once cs b scope q = q.once

      store_below : (cs : List Cell) (b : Code) (scope : Scope)
          → PieceCode g base scope (store cs b)
          → (y : ℕ) → InScope (cell_vars cs ++ code_vars b) y → y < base
      unfolding act_vars
      store_below cs b scope q = q.below

      passed_clear : (u : Target) (d : W.Word) (i : ℕ) (b : Code) (scope : Scope) (ks : Names)
          (ps : List DeferredField) (t : ℕ) → CodeWindow scope ks ps t
          (bind u (leaf (fetch_word d i)) b) → Clear ks (λ z. word_is z d)
      unfolding act_mentions outside
      passed_clear u d i b scope ks ps t w = by_waiting ks ps (λ z. word_is z d)
          (λ z e j. neither_left (word_is z.0 d) (code_uses z.0 b) (w.hidden z e j))
          (λ z j. neither_left (word_is z d) (outside t z b) (w.waits z j))

      passed_window : (u : Target) (d : W.Word) (i : ℕ) (b : Code) (scope : Scope) (ks : Names)
          (ps : List DeferredField) (t : ℕ) → NoNodeTarget u
          → CodeWindow scope ks ps t (bind u (leaf (fetch_word d i)) b)
          → CodeWindow (with_target u scope) ks ps t b
      unfolding act_mentions outside
      passed_window u d i b scope ks ps t nt w = record {
        hidden = λ z e j. neither_right (word_is z.0 d) (code_uses z.0 b) (w.hidden z e j);
        waits = λ z j. neither_right (word_is z d) (outside t z b) (w.waits z j);
        tagged = λ z j. subst (λ zs. InScope zs t) (sym (target_words u scope nt))
            (in_more g base (target_vars u) scope.words t (w.tagged z j));
      }

      -- at the front of an alternative
      arm_ctx : (scope : Scope) (ks : Names) (a : W.Word) (ps : List DeferredField) (n : ℕ)
          (b : Code)
          → Ctx g base scope.words ks a ps n → Ctx g base scope.words (front_names n ps b ks) a []
          (n + length ps)
      arm_ctx scope ks a ps n b x = record {
        low = x.low;
        sound = front_sound base n scope.words ks ps b x.sound x.from x.waiting;
        from = (let f : base ≤ n = x.from in omega (arith, f));
        held = held_more base n (n + length ps) scope.words scope.words a (omega arith) (λ y i. i)
            x.held;
        waiting = tt;
      }

      arm_clear : (s : Shape) (b : Code) (as' : Arms) (ks : Names) (ps : List DeferredField) (n : ℕ)
          → ((z : VarId) → is_var (as_word ks (Var z)) ≡ false → is_waiting ps z.0 ≡ false
          → arms_use z.0 (arm s b as') ≡ false) → Clear (front_names n ps b ks) (λ z. code_uses z b)
      unfolding act_mentions
      arm_clear s b as' ks ps n w z e =
          (let k : (is_var (as_word ks (Var z)) ≡ false)
          × (is_waiting ps z.0 ≡ true → code_uses z.0 b ≡ false) = front_hidden n ks ps b z e
          in go k.0 k.1 (is_waiting ps z.0) refl)
        where
          go : is_var (as_word ks (Var z)) ≡ false →
              (is_waiting ps z.0 ≡ true → code_uses z.0 b ≡ false) → (m : Bool)
              → is_waiting ps z.0 ≡ m → code_uses z.0 b ≡ false
          go i f true j = f j
          go i f false j = neither_left (code_uses z.0 b) (arms_use z.0 as') (w z i j)

      -- a fetch that ends a block
      ending : (scope : Scope) (ks : Names) (a : W.Word) (ps : List DeferredField) (n : ℕ)
          → Ctx g base scope.words ks a ps n → (d : W.Word) → WordFormed g scope d
          → Clear ks (λ z. word_is z d) → CodeFollows st (NearR scope.words ks a ps) Same
          (end (leaf (fetch d))) (whole_node g.tags n (as_word ks d))
      ending scope ks a ps n x d f clear = ending_follows g procs c c' cb cf d (as_word ks d)
          {R = NearR scope.words ks a ps} n
          (λ h i e. then_has (word_of g h.env d) (word_of g h.env' (as_word ks d)) place_of place_of
          i
          (word_goes g scope ks base n x.sound a ps h.w.cells h.env h.env' h.related d f clear)
          (λ d q. q) e)
          (λ env' y e le. word_kept g env' (plus y e env') (as_word ks d)
          (λ z k. plus_out y e env' z
          (other y le z (held_as base n scope.words ks d x.sound (in_scope d f) z k))))
        where
          in_scope : (u : W.Word) → WordFormed g scope u → (y : ℕ) → word_is y u ≡ true
              → InScope scope.words y
          in_scope (Var z) f y e = subst (InScope scope.words) (eq_from z.0 y e) f
          in_scope (Lit k) f y e = cc
          in_scope (Global k) f y e = cc
          in_scope (TagWord k) f y e = cc

          other : (y : ℕ) → n ≤ y → (z : ℕ) → InScope scope.words z ⊎ (base ≤ z × z < n) → z ≢ y
          other y le z (inl i) s = let l : z < base = x.low z i in let m : base ≤ n = x.from
              in omega (arith, l, m, le, s)
          other y le z (inr k) s = let l : z < n = k.1 in omega (arith, l, le, s)

      -- over the value of a case
      abbrev On : List ℕ → Names → W.Word → List DeferredField → Arms → Value → Value → Relation
      On zs ks a ps as' v v' cells env env' = Near g zs ks [] a ps cells env env'
          × SameFits g as' v v'

      mutual
        unfolding split_act ActFormed EachAct act_mentions made_act

        act_goes : (o : Act) (scope : Scope) (ks : Names) (a : W.Word) (ps : List DeferredField)
            (n t : ℕ) → Ctx g base scope.words ks a ps n → PieceAct g base scope o
            → ActWindow scope ks ps t o
            → ActFollows st (NearR scope.words ks a ps) Same o (split_act g.tags ks a ps n o)
        act_goes (case v as') scope ks a ps n t x q w
            = case_follows st {R = NearR scope.words ks a ps} {U = On scope.words ks a ps as'}
            {V = Same} v (as_val ks v) as' (split_arms g.tags ks a ps n as')
            (arms_go as' scope ks a ps n x (in_case v as' scope q)
            (λ z i j. neither_right (val_uses z.0 v) (arms_use z.0 as') (w.hidden z i j)))
            (λ h y e. case_value scope ks a ps n x t v as' q w h y e)
        act_goes (nested b) scope ks a ps n t x q w = nested_follows st b
            (split_code g.tags ks a [] n b)
            (code_more st {R = NearR scope.words ks a []} {R' = NearR scope.words ks a ps} b
            (split_code g.tags ks a [] n b)
            (λ cells env env' r. near_heap g scope.words ks [] a a ps cells cells env env' r)
            (λ v v' u. u)
            (code_goes b scope ks a [] n 0 (ctx_none g base scope.words ks a ps n x)
            (in_nested b scope q)
            (none_waits g base scope.words ks 0 (λ z. code_uses z b) (λ z. outside 0 z b)
            (plain_clear (nested b) scope ks ps t (λ z. refl) w))))
        act_goes (leaf (unit v)) scope ks a ps n t x q w
            = units scope ks a ps n x v q.formed q.bare.1
            (plain_clear (leaf (unit v)) scope ks ps t (λ z. refl) w)
        act_goes (leaf (fetch d)) scope ks a ps n t x q w
            = fetch_follows st d (as_word ks d)
            (λ h i y e r. (
              cell_too scope ks a ps n x h d q.formed
                  (plain_clear (leaf (fetch d)) scope ks ps t (λ z. refl) w) i y e r,
              same,
            ))
        act_goes (leaf (fetch_word d k)) scope ks a ps n t x q w
            = word_fetched scope ks a ps n x d k q.formed
            (plain_clear (leaf (fetch_word d k)) scope ks ps t (λ z. refl) w)
        act_goes (leaf (update d v)) scope ks a ps n t x q w =
            let f : Clear ks (λ z. word_is z d || val_uses z v)
            = plain_clear (leaf (update d v)) scope ks ps t (λ z. refl) w in
            updates scope ks a ps n x d v q.formed.0 q.formed.1 q.bare.1
            (clear_left ks (λ z. word_is z d) (λ z. val_uses z v) f)
            (clear_right ks (λ z. word_is z d) (λ z. val_uses z v) f)
        act_goes (leaf (eval d)) scope ks a ps n t x q w = absurd q.inlined
        act_goes (leaf (apply v d)) scope ks a ps n t x q w = absurd q.inlined.0
        act_goes (leaf (call f ws)) scope ks a ps n t x q w
            = calls scope ks a ps n x f ws q.formed.1
            (plain_clear (leaf (call f ws)) scope ks ps t (λ z. refl) w)
        act_goes (leaf (prim f d e)) scope ks a ps n t x q w =
            let k : Clear ks (λ z. word_is z d || word_is z e)
            = plain_clear (leaf (prim f d e)) scope ks ps t (λ z. refl) w in
            prim_follows st f d e (as_word ks d) (as_word ks e)
            (λ h. word_too scope ks a ps n x h d q.formed.0
            (clear_left ks (λ z. word_is z d) (λ z. word_is z e) k))
            (λ h. word_too scope ks a ps n x h e q.formed.1
            (clear_right ks (λ z. word_is z d) (λ z. word_is z e) k)) (λ i. same)
        act_goes (leaf read) scope ks a ps n t x q w = read_follows st (λ i. same)
        act_goes (leaf (write d)) scope ks a ps n t x q w
            = write_follows st d (as_word ks d)
            (λ h. word_too scope ks a ps n x h d q.formed
            (plain_clear (leaf (write d)) scope ks ps t (λ z. refl) w)) same
        act_goes (leaf fail) scope ks a ps n t x q w = fail_follows st

        pub code_goes : (b : Code) (scope : Scope) (ks : Names) (a : W.Word)
            (ps : List DeferredField)
            (n t : ℕ) → Ctx g base scope.words ks a ps n → PieceCode g base scope b
            → CodeWindow scope ks ps t b
            → CodeFollows st (NearR scope.words ks a ps) Same b (split_code g.tags ks a ps n b)
        code_goes (end (leaf (fetch d))) scope ks a ps n t x q w
            = ending scope ks a ps n x d q.formed
            (plain_clear (leaf (fetch d)) scope ks ps t (λ z. refl)
            (end_window (leaf (fetch d)) scope ks ps t w))
        code_goes (end o) scope ks a ps n t x q w = end_follows st o (split_act g.tags ks a ps n o)
            (act_goes o scope ks a ps n t x (at_end o scope q) (end_window o scope ks ps t w))
        code_goes (store cs b) scope ks a ps n t x q w =
            let f : Clear ks (λ z. cells_use z cs) × Clear ks (λ z. code_uses z b)
            = store_clear cs b scope ks ps t w in
            let new : (y : ℕ) → InScope (cell_vars cs) y → times y scope.words ≡ 0 × y < base
            = λ y i. (
              new_left g base scope.words (cell_vars cs) (code_vars b) (store_once cs b scope q)
                  y i,
              below_left g base (cell_vars cs) (code_vars b) (store_below cs b scope q) y i,
            ) in
            stores cs b (split_code g.tags ks a [] n b) scope ks a ps n x q.formed.0 q.bare.0 f.0
            new
            (code_goes b (with_word_variables (cell_vars cs) scope) ks a [] n 0
            (ctx_on g base scope.words (cell_vars cs ++ scope.words) ks a [] n n (omega arith)
            (in_more g base (cell_vars cs) scope.words)
            (low_more g base (cell_vars cs) scope.words (λ y i. (new y i).1) x.low)
            (ctx_none g base scope.words ks a ps n x))
            (in_store cs b scope q)
            (none_waits g base (cell_vars cs ++ scope.words) ks 0 (λ z. code_uses z b)
            (λ z. outside 0 z b) f.1))
        code_goes (bind (to.Vector (v ∷ vs)) (leaf (fetch d)) b) scope ks a ps n t x q w =
            node_bind g base procs same_count c c' cb cf scope ks a ps n x t v vs d b q w
            (split_code g.tags (with_hidden (deferred_fields_of v.0 b 1 vs) ks)
            (cond (owns v.0 b) (as_word ks d) a)
            (cond (owns v.0 b) (deferred_fields_of v.0 b 1 vs) ps) (n + 0) b)
            (code_goes b (with_target (to.Vector (v ∷ vs)) scope)
            (with_hidden (deferred_fields_of v.0 b 1 vs) ks) (cond (owns v.0 b) (as_word ks d) a)
            (cond (owns v.0 b) (deferred_fields_of v.0 b 1 vs) ps) (n + 0)
            (cond (owns v.0 b) v.0 t)
            (ctx2 g base procs same_count c c' cb cf scope ks a ps n x t v vs d b q w (n + 0)
            (omega arith))
            (after_target g base (to.Vector (v ∷ vs)) (leaf (fetch d)) b scope q)
            (window2 g base procs same_count c c' cb cf scope ks a ps n x t v vs d b q w))
        code_goes (bind (to.Vector []) (leaf (fetch d)) b) scope ks a ps n t x q w
            = never_bind (to.Vector []) d b _ (λ m bs e. cc)
        code_goes (bind to.Nothing (leaf (fetch d)) b) scope ks a ps n t x q w
            = never_bind to.Nothing d b _ (λ m bs e. cc)
        code_goes (bind (to.One y) (leaf (fetch d)) b) scope ks a ps n t x q w
            = never_bind (to.One y) d b _ (λ m bs e. cc)
        code_goes (bind (to.Node y) (leaf (fetch d)) b) scope ks a ps n t x q w = absurd q.bare.0
        code_goes (bind u (leaf (fetch_word d i)) b) scope ks a ps n t x q w =
            passed_bind u d i b (split_code g.tags ks a ps (n + 0) b) scope ks a ps n x q.bare.0
            (target_new g base u (leaf (fetch_word d i)) b scope q)
            (word_fetched scope ks a ps n x d i q.formed.0 (passed_clear u d i b scope ks ps t w))
            (code_goes b (with_target u scope) ks a ps (n + 0) t
            (ctx_after g base u scope ks a ps n (n + 0) (omega arith) q.bare.0
            (λ y j. (target_new g base u (leaf (fetch_word d i)) b scope q y j).1) x)
            (after_target g base u (leaf (fetch_word d i)) b scope q)
            (passed_window u d i b scope ks ps t q.bare.0 w))
        code_goes (bind u o b) scope ks a ps n t x q w =
            plain_bind u o (split_act g.tags ks a ps n o) b
            (split_code g.tags ks a [] (n + made_act g.tags ps o) b) scope ks a ps n x q.bare.0
            (target_new g base u o b scope q) refl
            (act_goes o scope ks a ps n t x (first_act g base u o b scope q)
            (act_window u o b scope ks ps t refl w))
            (code_goes b (with_target u scope) ks a [] (n + made_act g.tags ps o) 0
            (ctx_after g base u scope ks a [] n (n + made_act g.tags ps o) (omega arith) q.bare.0
            (λ y i. (target_new g base u o b scope q y i).1)
            (ctx_none g base scope.words ks a ps n x))
            (after_target g base u o b scope q)
            (none_waits g base (with_target u scope).words ks 0 (λ z. code_uses z b)
            (λ z. outside 0 z b)
            (clear_after u o b scope ks ps t refl w)))

        arms_go : (as' : Arms) (scope : Scope) (ks : Names) (a : W.Word) (ps : List DeferredField)
            (n : ℕ) → Ctx g base scope.words ks a ps n → PieceArms g base scope as'
            → ((z : VarId) → is_var (as_word ks (Var z)) ≡ false → is_waiting ps z.0 ≡ false
            → arms_use z.0 as' ≡ false) → ArmsFollow st (On scope.words ks a ps as') Same as'
            (split_arms g.tags ks a ps n as')
        arms_go no_arm scope ks a ps n x q w = no_arm_follows st no_arm
        arms_go (arm s b as') scope ks a ps n x q w =
            arm_follows st {U = On scope.words ks a ps (arm s b as')}
            {U' = On scope.words ks a ps as'} {R' = NearR scope.words ks a ps} {V = Same} s s b
            (front a n ps b (split_code g.tags (front_names n ps b ks) a [] (n + length ps) b))
            as' (split_arms g.tags ks a ps (n + length ps + made_code g.tags [] b) as')
            (front_follows g procs c c' cb cf base n scope.words x.low ks a ps b b
            (split_code g.tags (front_names n ps b ks) a [] (n + length ps) b) x.sound x.from
            x.held x.waiting
            (code_goes b scope (front_names n ps b ks) a [] (n + length ps) 0
            (arm_ctx scope ks a ps n b x) (in_arm s b as' scope q)
            (none_waits g base scope.words (front_names n ps b ks) 0 (λ z. code_uses z b)
            (λ z. outside 0 z b) (arm_clear s b as' ks ps n w))))
            (arms_go as' scope ks a ps (n + length ps + made_code g.tags [] b)
            (ctx_on g base scope.words scope.words ks a ps n (n + length ps + made_code g.tags [] b)
            (omega arith) (λ y i. i) x.low x) (next_arms s b as' scope q)
            (λ z i j. neither_right (code_uses z.0 b) (arms_use z.0 as') (w z i j)))
            (λ v v' h bs e at. (let none : bs ≡ [] = fit_nothing g s q.bare.0 v bs e in record {
              bs' = [];
              fit = h.related.1.0 ∙ e ∙ ap fits none;
              related = subst
                  (λ l. Near g scope.words ks [] a ps h.w.cells (with_vars l h.env) h.env')
                  (sym none)
                  h.related.0;
            }))
            (λ v v' h e. (h.related.1.0 ∙ e, (h.related.0, h.related.1.1)))
