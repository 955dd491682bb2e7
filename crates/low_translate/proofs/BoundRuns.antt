-- What is bound in a block: the words of a join, of a target and of new cells.
use Rattle.std.proofs.Common.{◌≡◌, inl, inr, ◌≤◌, ◌<◌, ℕ, suc, ◌+◌, Bool, true, false, cond, List, [], ◌∷◌, ◌++◌, map, length, replicate, Option, Some, None, refl, sym, ap, ◌∙◌, subst, arith}
use Rattle.std.proofs.lemmas.List.{length-map}
use Rattle.seq.proofs.Lists.{map_append, all_append}
use Rattle.seq.proofs.Order.{le_or_lt}
use Rattle.grin_syntax.specs.declared.program.Cell as C
use Rattle.grin_syntax.specs.declared.program.Target.{Target}
use Rattle.grin_syntax.specs.Binders.{target_vars, cell_vars}
use Rattle.grin_syntax.specs.Formed.{AllOf}
use Rattle.grin_syntax.specs.Tree as grin_tree
use Rattle.grin_syntax.specs.Tree.{Act, Code, store}
use Rattle.grin_meaning.specs.Values as grin
use Rattle.grin_meaning.specs.Values.{cell, Value, HeapCell, Binding, with_vars, bindings_of}
use Rattle.grin_meaning.specs.Run as grin_run
use Rattle.grin_meaning.specs.Run.{code_by, require_if_checked, with_state_seen, cells_of}
use Rattle.grin_meaning.specs.Checks.{all_fill, is_bound_well}
use Rattle.grin_meaning.specs.Ready.{NoNodeTarget, NoNodeVar, most_fields}
use Rattle.low_code.specs.Tree as low_tree
use Rattle.low_code.specs.Values as low
use Rattle.low_code.specs.Values.{need, with_var}
use Rattle.low_code.specs.Run as low_run
use Rattle.low_code.specs.Run.{Calls, code}
use Rattle.low_translate.specs.Translation.{take_if_any, store_all}
use Rattle.low_translate.specs.Writes.{cells_write, procs_write, written_width}
use Rattle.low_translate.specs.Lowered.{ValRanged}
use Rattle.low_translate.proofs.Images.{images, words_of_value, fit, length_fit, cell_image, world_image, zeros, SoundCell, SoundValue, SoundWorld}
use Rattle.low_translate.proofs.Operands.{bound, with_vars_bound, Agrees, agrees_alike, agrees_more, agrees_var}
use Rattle.low_translate.proofs.Stored.{Placed, placed, stores_run, taken_run}
use Rattle.low_translate.proofs.Bindings.{bindings_are, target_many, agrees_target}
use Rattle.low_translate.proofs.Matches as m
use Rattle.low_translate.proofs.Matches.{free, Match, missed, fails, ran_out, given}
use Rattle.seq.specs.Lists.{times}
use Rattle.seq.proofs.Counted.{times_append}

-- new cells stand for their places
pub agrees_places : (first : ℕ) (cs : List C.Cell) (a : ℕ) (scope : List ℕ) (env : grin.Env)
    (e : low.Env) → AllOf (λ x. x < first) (cell_vars cs) → Agrees first scope env e
    → Agrees first (cell_vars cs ++ scope) (with_vars (grin_run.places a cs) env)
    (bound (cell_vars cs) (low_run.places a (cell_vars cs)) e)
agrees_places first [] a scope env e lt h = h
agrees_places first (c ∷ cs) a scope env e lt h =
    agrees_more first _ _ _ _ inner
    (agrees_places first cs (suc a) (c.var.0 ∷ scope) _ (with_var c.var.0 (low.cell a) e) lt.1
    (agrees_var first scope env e c.var.0 (cell a) lt.0 tt h))
  where
    inner : (y : ℕ) → 0 < times y (cell_vars cs ++ (c.var.0 ∷ scope))
        → 0 < times y (c.var.0 ∷ (cell_vars cs ++ scope))
    inner y h = omega (
      arith,
      h,
      times_append y (cell_vars cs) (c.var.0 ∷ scope),
      times_append y (cell_vars cs) scope,
    )

module _ (g : grin_tree.Program) (p : low_tree.Program) (fw : ℕ → ℕ) (most : ℕ) (rs : List ℕ)
    (first : ℕ) (same_globals : length p.globals ≡ length g.globals) (width : ℕ)
    (wide : width ≡ 1 + most_fields g.tags)
    (gcalls : grin_run.Calls) (lcalls : Calls) (top : ℕ) (under : Option ℕ) where
  abbrev does : low.Env → low_tree.Code → low.World → low.Answer
  does e c w = code p fw free lcalls e top under c w

  abbrev Matches : (P : Value → Type 0) → ℕ → grin.Answer → low.Answer → Type 0
  Matches = Match g p fw most rs first same_globals width wide

  abbrev At : List ℕ → grin.Env → low.Env → grin.World → ℕ → Type 0
  At = m.Here g p fw most rs first same_globals width wide gcalls lcalls top under

  -- ---- a join

  -- where a value has more words than there are variables
  abbrev pub Passes : (P : Value → Type 0) → (k : ℕ) → (xs : List ℕ)
      → (Value → grin.World → grin.Answer) → Type 0
  Passes P k xs goes = (v : Value) (w : grin.World) → SoundValue g v → SoundWorld g w
      → length xs < length (words_of_value v) → (a : low.Answer) → Matches P k (goes v w) a

  module _ (P : Value → Type 0) (k n : ℕ) (xs : List ℕ) (e : low.Env) (c : low_tree.Code)
      (goes : Value → grin.World → grin.Answer) where
    abbrev after_join : List low.Word → low.World → low.Answer
    after_join vs w = need (low.with_vars xs vs e) w (λ env. does env c w)

    pub join_goes : m.Goes g p fw most rs first same_globals width wide gcalls lcalls top under P k
        n xs e c goes → Passes P k xs goes → (ga : grin.Answer) (la : low.Answer)
        → Matches (λ v. length (words_of_value v) ≤ length xs) (length xs) ga la
        → Matches P k (grin.then_do ga goes) (low.then_do la after_join)
    join_goes go skip _ _ missed = missed
    join_goes go skip _ _ (fails h) = fails h
    join_goes go skip _ _ (ran_out h) = ran_out h
    join_goes go skip _ _ (given {v = v} {w = w} {a = a} sv sw reached)
        = elim (le_or_lt (length (words_of_value v)) (length xs)) [
          | inl le ↦
              let q = reached le in
              let path : low.then_do a after_join ≡ does
              (bound xs (fit (length xs) (images (words_of_value v))) e) c
              (world_image width q.frames w) =
              ap (λ l. low.then_do l after_join) q.is
              ∙ (λ t. need
              (with_vars_bound xs (fit (length xs) (images (words_of_value v))) e
              (length_fit (length xs) (images (words_of_value v))) t) (world_image width q.frames w)
              (λ env. does env c (world_image width q.frames w))) in
              subst (Matches P k (goes v w)) (sym path)
              (go v w q.frames _ sv sw le q.within (λ x lt. refl))
          | inr lt ↦ skip v w sv sw lt _
        ]

  -- ---- a target

  module _ (P : Value → Type 0) (k n : ℕ) (t : Target) (o : Act) (nn : NoNodeTarget t)
      (scope : List ℕ) (env : grin.Env) (d : ℕ) (b : Code) where
    abbrev pub after_bound : Value → grin.World → grin.Answer
    after_bound v w = require_if_checked true (is_bound_well g t o v) w
        (grin.need (bindings_of g t v) w
        (λ bs. code_by g gcalls true (with_vars bs env) d b (with_state_seen (with_vars bs env) w)))

    pub bound_passes : Passes P k (target_vars t) after_bound
    bound_passes v w sv sw lt a = looks (is_bound_well g t o v)
      where
        binds : (o : Option (List Binding)) → bindings_of g t v ≡ o
            → Matches P k
            (grin.need o w
            (λ bs. code_by g gcalls true (with_vars bs env) d b
            (with_state_seen (with_vars bs env) w))) a
        binds None q = missed
        binds (Some bs) q = let f = bindings_are g t v bs q nn sv in let m = target_many t
            in absurd (let few = f.few in omega (arith, lt, few, m))

        looks : (b' : Bool) → Matches P k
            (cond b' (grin.need (bindings_of g t v) w
            (λ bs. code_by g gcalls true (with_vars bs env) d b
            (with_state_seen (with_vars bs env) w))) (grin.stops grin.missing w)) a
        looks false = missed
        looks true = binds (bindings_of g t v) refl

    pub bound_goes : (e : low.Env) (c : low_tree.Code) → first ≤ n
        → AllOf (λ x. x < first) (target_vars t) → Agrees first scope env e
        → ((env' : grin.Env) (e' : low.Env) (w : grin.World) (frames : ℕ)
        → At (target_vars t ++ scope) env' e' w frames
        → Matches P k (code_by g gcalls true env' d b w)
        (does e' c (world_image width frames w)))
        → m.Goes g p fw most rs first same_globals width wide gcalls lcalls top under P k n
        (target_vars t) e c after_bound
    bound_goes e c nf lts agrees rest v w frames e' sv sw le wi same = looks (is_bound_well g t o v)
      where
        binds : (o : Option (List Binding)) → bindings_of g t v ≡ o
            → Matches P k
            (grin.need o w
            (λ bs. code_by g gcalls true (with_vars bs env) d b
            (with_state_seen (with_vars bs env) w))) (does e' c (world_image width frames w))
        binds None q = missed
        binds (Some bs) q = rest (with_vars bs env) e' (with_state_seen (with_vars bs env) w) frames
            (record {
              agrees = agrees_alike first (target_vars t ++ scope) (with_vars bs env) _ e'
                  (agrees_target g first t v bs scope env e (bindings_are g t v bs q nn sv) lts agrees)
                  (λ x lt. same x (omega (arith, lt, nf)));
              sound = record { cells = sw.cells; bytes = sw.bytes };
              within = wi;
            })

        looks : (b' : Bool) → Matches P k
            (cond b' (grin.need (bindings_of g t v) w
            (λ bs. code_by g gcalls true (with_vars bs env) d b
            (with_state_seen (with_vars bs env) w))) (grin.stops grin.missing w))
            (does e' c (world_image width frames w))
        looks false = missed
        looks true = binds (bindings_of g t v) refl

  -- ---- new cells

  module _ (same_width : p.width ≡ width) (P : Value → Type 0) (k : ℕ) (cs : List C.Cell) (d : ℕ)
      (b : Code) (c : low_tree.Code) where
    module _ (scope : List ℕ) (env : grin.Env) (e : low.Env) (w : grin.World) (frames : ℕ)
        (h : At scope env e w frames) (once : (x : ℕ) → times x (cell_vars cs) ≤ 1)
        (lts : AllOf (λ x. x < first) (cell_vars cs)) (nn : AllOf (λ c. NoNodeVar c.val) cs)
        (r : AllOf (λ c. ValRanged c.val) cs)
        (few : cells_write g.tags cs ≤ procs_write g.tags g.procs) where
      abbrev pub env' : grin.Env
      env' = with_vars (grin_run.places (length w.cells) cs) env

      abbrev pub e' : low.Env
      e' = bound (cell_vars cs) (low_run.places (length w.cells) (cell_vars cs)) e

      abbrev old : List (List low.Word)
      old = map (λ c. cell_image width c.node) w.cells

      agrees' : Agrees first (cell_vars cs ++ scope) env' e'
      agrees' = agrees_places first cs (length w.cells) scope env e lts h.agrees

      many : length old ≡ length w.cells
      many = length-map w.cells (λ c. cell_image width c.node)

      -- the variables are set, and the cells are empty
      taken_step : does e (take_if_any (cell_vars cs) (store_all (written_width g) cs c))
          (world_image width frames w) ≡ does e' (store_all (written_width g) cs c)
          (record (world_image width frames w)
          { cells = old ++ replicate (length cs) (zeros width) })
      taken_step =
          taken_run g p fw same_globals width wide free lcalls top under (cell_vars cs) e
          (store_all (written_width g) cs c) (world_image width frames w) refl
          ∙ (λ i. does (bound (cell_vars cs) (low_run.places (many i) (cell_vars cs)) e)
          (store_all (written_width g) cs c)
          (record (world_image width frames w) {
            cells = old ++ replicate (length-map cs (λ c. c.var.0) i)
                (replicate (same_width i) (low.number 0));
          }))

      pub stores_go : (hs : List HeapCell) → cells_of g env' cs ≡ Some hs
          → all_fill g env' cs ≡ true
          → ((w' : grin.World) → At (cell_vars cs ++ scope) env' e' w' frames
          → Matches P k (code_by g gcalls true env' d b w')
          (does e' c (world_image width frames w')))
          → Matches P k
          (code_by g gcalls true env' d b (with_state_seen env' (grin_run.with_cells hs w)))
          (does e (take_if_any (cell_vars cs) (store_all (written_width g) cs c))
          (world_image width frames w))
      stores_go hs q f rest =
          let next : grin.World = with_state_seen env' (grin_run.with_cells hs w) in
          let run = stores_run g p fw same_globals width wide free lcalls top under first
          (cell_vars cs ++ scope) env' e' agrees' cs hs old c (world_image width frames w) q f
          nn r
          (subst (λ a. Placed e' a cs) (sym many) (placed cs (length w.cells) e once)) few in
          let path : does e (take_if_any (cell_vars cs) (store_all (written_width g) cs c))
          (world_image width frames w) ≡ does e' c (world_image width frames next) =
          taken_step ∙ run.0 ∙
          (λ i. does e' c
          (record (world_image width frames w)
          { cells = sym (map_append (λ c. cell_image width c.node) w.cells hs) i })) in
          subst (Matches P k (code_by g gcalls true env' d b next)) (sym path) (rest next (record {
            agrees = agrees';
            sound = record {
              cells = all_append (λ c. SoundCell g c.node) w.cells hs h.sound.cells run.1;
              bytes
                  = h.sound.bytes;
            };
            within = h.within;
          }))

      pub store_runs :
          ((env' : grin.Env) (e' : low.Env) (w' : grin.World)
          → At (cell_vars cs ++ scope) env' e' w' frames
          → Matches P k (code_by g gcalls true env' d b w')
          (does e' c (world_image width frames w')))
          → Matches P k (code_by g gcalls true env d (store cs b) w)
          (does e (take_if_any (cell_vars cs) (store_all (written_width g) cs c))
          (world_image width frames w))
      unfolding code_by
      store_runs rest = by (cells_of g env' cs) refl
        where
          by : (o : Option (List HeapCell)) → cells_of g env' cs ≡ o
              → Matches P k
              (grin.need o w
              (λ hs. require_if_checked true (all_fill g env' cs) w
              (code_by g gcalls true env' d b
              (with_state_seen env' (grin_run.with_cells hs w)))))
              (does e (take_if_any (cell_vars cs) (store_all (written_width g) cs c))
              (world_image width frames w))
          by None q = missed
          by (Some hs) q = looks (all_fill g env' cs) refl
            where
              looks : (b' : Bool) → all_fill g env' cs ≡ b'
                  → Matches P k
                  (cond b' (code_by g gcalls true env' d b
                  (with_state_seen env' (grin_run.with_cells hs w))) (grin.stops grin.missing w))
                  (does e (take_if_any (cell_vars cs) (store_all (written_width g) cs c))
                  (world_image width frames w))
              looks false f = missed
              looks true f = stores_go hs q f (λ w' at. rest env' e' w' at)
