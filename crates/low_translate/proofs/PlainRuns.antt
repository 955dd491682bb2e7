-- Operations without blocks, whose words go to variables.
use Rattle.std.proofs.Common.{◌≡◌, inl, inr, ◌≤◌, ◌<◌, ℕ, suc, ◌+◌, ◌-◌, ◌*◌, true, List, [], ◌++◌, length, take, drop, Option, Some, None, refl, sym, ap, ◌∙◌, subst, arith}
use Rattle.std.proofs.lemmas.List.{length-map}
use Rattle.seq.proofs.Order.{le_or_lt}
use Rattle.grin_syntax.specs.declared.program.ProcId.{ProcId}
use Rattle.grin_syntax.specs.declared.program.Word as W
use Rattle.grin_syntax.specs.Formed.{AllOf}
use Rattle.grin_syntax.specs.Tree as grin_tree
use Rattle.grin_syntax.specs.Tree.{Act, leaf, unit, fetch, fetch_word, update, eval, apply, call, prim, read, write, case, nested, fail, IsLeaf}
use Rattle.grin_meaning.specs.Values as grin
use Rattle.grin_meaning.specs.Values.{Datum, Value, words_of}
use Rattle.grin_meaning.specs.Run as grin_run
use Rattle.grin_meaning.specs.Run.{act_by}
use Rattle.grin_meaning.specs.Ready.{EachAct, most_fields, inlined_kind, vectorised_kind}
use Rattle.low_code.specs.Tree as low_tree
use Rattle.low_code.specs.Values as low
use Rattle.low_code.specs.Values.{need}
use Rattle.low_code.specs.Run.{Calls, code}
use Rattle.low_translate.specs.Translation.{set_all, results_of, plain_code}
use Rattle.low_translate.specs.Writes.{act_writes, procs_write, written_width}
use Rattle.low_translate.specs.Lowered.{WordRanged, PlainRanged}
use Rattle.low_translate.proofs.Images.{word_image, images, words_of_value, fit, length_fit, world_image}
use Rattle.low_translate.proofs.Operands.{bound, with_vars_bound, words_are}
use Rattle.low_translate.proofs.Pieces.{sets_run}
use Rattle.low_translate.proofs.OwnVariables.{call_bound, call_many}
use Rattle.low_translate.proofs.Matches as m
use Rattle.low_translate.proofs.Matches.{free, Match, missed, fails, ran_out, given, CallsMatch}
use Rattle.low_translate.proofs.Singles as one
use Rattle.seq.specs.Lists.{numbers_from, times}

module _ (g : grin_tree.Program) (p : low_tree.Program) (fw : ℕ → ℕ) (most : ℕ) (rs : List ℕ)
    (first : ℕ) (same_globals : length p.globals ≡ length g.globals) (width : ℕ)
    (wide : width ≡ 1 + most_fields g.tags)
    (gcalls : grin_run.Calls) (lcalls : Calls)
    (calls_match : CallsMatch g p fw most rs first same_globals width wide gcalls lcalls)
    (top : ℕ) (under : Option ℕ) where
  abbrev does : low.Env → low_tree.Code → low.World → low.Answer
  does e c w = code p fw free lcalls e top under c w

  abbrev Matches : (P : Value → Type 0) → ℕ → grin.Answer → low.Answer → Type 0
  Matches = Match g p fw most rs first same_globals width wide

  abbrev pub Going : (P : Value → Type 0) → (k n : ℕ) → (xs : List ℕ) → low.Env → low_tree.Code
      → (Value → grin.World → grin.Answer) → Type 0
  Going = m.Goes g p fw most rs first same_globals width wide gcalls lcalls top under

  abbrev pub Skipping : (P : Value → Type 0) → (k : ℕ) → (xs : List ℕ) → Act
      → (Value → grin.World → grin.Answer) → Type 0
  Skipping = m.Skips g p fw most rs first same_globals width wide gcalls lcalls top under

  abbrev At : List ℕ → grin.Env → low.Env → grin.World → ℕ → Type 0
  At = m.Here g p fw most rs first same_globals width wide gcalls lcalls top under

  -- a call at nesting d lies over few frames
  abbrev pub Lies : Act → ℕ → Type 0
  Lies (leaf (call f ws)) d = top ≤ d * most
  Lies _ d = Unit {0}

  module _ (P : Value → Type 0) (k n : ℕ) (xs : List ℕ) (e : low.Env) (c : low_tree.Code)
      (goes : Value → grin.World → grin.Answer) where
    -- what comes after the words of a call are there
    abbrev after_call : ℕ → List low.Word → low.World → low.Answer
    after_call r vs w = need
        (low.with_vars (take r xs ++ numbers_from (suc n) (r - length xs)) vs e) w
        (λ env. does env (set_all (drop r xs) [] c) w)

    call_goes : (f : ProcId) (ws : List W.Word) → Going P k n xs e c goes
        → Skipping P k xs (leaf (call f ws)) goes → (ga : grin.Answer) (la : low.Answer)
        → Matches (λ v. Unit {0}) (results_of rs f.0) ga la
        → Matches P k (grin.then_do ga goes) (low.then_do la (after_call (results_of rs f.0)))
    call_goes f ws go skip _ _ missed = missed
    call_goes f ws go skip _ _ (fails h) = fails h
    call_goes f ws go skip _ _ (ran_out h) = ran_out h
    call_goes f ws go skip _ _ (given {v = v} {w = w} {a = a} sv sw reached) = by (reached tt)
      where
        r : ℕ
        r = results_of rs f.0

        ys : List ℕ
        ys = take r xs ++ numbers_from (suc n) (r - length xs)

        vs : List low.Word
        vs = images (words_of_value v)

        by : m.Reached g p fw most rs first same_globals width wide (results_of rs f.0) v w a
            → Matches P k (goes v w) (low.then_do a (after_call (results_of rs f.0)))
        by q = elim (le_or_lt (length (words_of_value v)) (length xs)) [
          | inl le ↦
              let path : low.then_do a (after_call r) ≡ does
              (bound (drop r xs) (fit (length (drop r xs)) []) (bound ys (fit r vs) e)) c
              (world_image width q.frames w) =
              ap (λ l. low.then_do l (after_call r)) q.is
              ∙ (λ t. need
              (with_vars_bound ys (fit r vs) e (length_fit r vs ∙ sym (call_many r xs (suc n)))
              t) (world_image width q.frames w)
              (λ env. does env (set_all (drop r xs) [] c) (world_image width q.frames w)))
              ∙ sets_run p fw free lcalls top under (drop r xs) [] [] (bound ys (fit r vs) e) c
              (world_image width q.frames w) refl tt in
              subst (Matches P k (goes v w)) (sym path)
              (go v w q.frames _ sv sw le q.within
              (λ x lt. call_bound r xs (suc n) vs e (image_few q.few) x (omega (arith, lt))))
          | inr lt ↦ skip v w sv sw q.few lt _
        ]
          where
            image_few : length (words_of_value v) ≤ r → length vs ≤ r
            image_few h = let s = length-map (words_of_value v) word_image in omega (arith, h, s)

    module _ (scope : List ℕ) (env : grin.Env) (w : grin.World) (frames d : ℕ)
        (apart : (x : ℕ) → 0 < times x scope → times x xs ≡ 0) (h : At scope env e w frames) where
      call_runs : (f : ProcId) (ws : List W.Word) → AllOf WordRanged ws → top ≤ d * most
          → Going P k n xs e c goes → Skipping P k xs (leaf (call f ws)) goes
          → Matches P k (grin.then_do (act_by g gcalls true env d (leaf (call f ws)) w) goes)
          (does e (plain_code (written_width g) rs xs n (leaf (call f ws)) c)
          (world_image width frames w))
      unfolding act_by code
      call_runs f ws r le go skip = by (words_of g env ws) refl
        where
          by : (o : Option (List Datum)) → words_of g env ws ≡ o
              → Matches P k (grin.then_do (grin.need o w (λ ds. gcalls f.0 ds d w)) goes)
              (does e (plain_code (written_width g) rs xs n (leaf (call f ws)) c)
              (world_image width frames w))
          by None q = missed
          by (Some ds) q =
              let u = words_are g p fw same_globals first scope env e h.agrees ws ds q r in
              let path : does e (plain_code (written_width g) rs xs n (leaf (call f ws)) c)
              (world_image width frames w) ≡ low.then_do
              (lcalls f.0 (images ds) top (world_image width frames w))
              (after_call (results_of rs f.0)) =
              λ t. need (u.are t) (world_image width frames w)
              (λ vs. low.then_do (lcalls f.0 vs top (world_image width frames w))
              (after_call (results_of rs f.0))) in
              subst (Matches P k (grin.then_do (gcalls f.0 ds d w) goes)) (sym path)
              (call_goes f ws go skip _ _
              (calls_match f.0 ds d w top frames u.ranged h.sound le h.within))

      fail_runs : Matches P k (grin.then_do (act_by g gcalls true env d (leaf fail) w) goes)
          (does e (plain_code (written_width g) rs xs n (leaf fail) c) (world_image width frames w))
      unfolding act_by code
      fail_runs = fails h.within

      pub plain_runs : (o : Act) → IsLeaf o → EachAct inlined_kind o → EachAct vectorised_kind o
          → PlainRanged o → act_writes g.tags o ≤ procs_write g.tags g.procs → Lies o d
          → Going P k n xs e c goes → Skipping P k xs o goes
          → Matches P k (grin.then_do (act_by g gcalls true env d o w) goes)
          (does e (plain_code (written_width g) rs xs n o c) (world_image width frames w))
      unfolding EachAct act_writes
      plain_runs (leaf (unit v)) pl inl' vec r few le go skip
          = m.unit_runs g p fw most rs first same_globals width wide gcalls lcalls top under P k n
          xs e c goes scope env w frames d apart h v vec.1 r go skip
      plain_runs (leaf (fetch a)) pl inl' vec r few le go skip
          = m.fetch_runs g p fw most rs first same_globals width wide gcalls lcalls top under P k n
          xs e c goes scope env w frames d apart h a r go skip
      plain_runs (leaf (fetch_word a i)) pl inl' vec r few le go skip
          = one.fetch_word_runs g p fw most rs first same_globals width wide gcalls lcalls top under
          P k n e c goes xs scope env w frames d apart h a i r go skip
      plain_runs (leaf (update a v)) pl inl' vec r few le go skip
          = m.update_runs g p fw most rs first same_globals width wide gcalls lcalls top under P k n
          xs e c goes scope env w frames d apart h a v r.0 vec.1 r.1 few go skip
      plain_runs (leaf (eval a)) pl inl' vec r few le go skip = absurd inl'
      plain_runs (leaf (apply v a)) pl inl' vec r few le go skip = absurd inl'.0
      plain_runs (leaf (call f ws)) pl inl' vec r few le go skip = call_runs f ws r le go skip
      plain_runs (leaf (prim f a b)) pl inl' vec r few le go skip
          = one.prim_runs g p fw most rs first same_globals width wide gcalls lcalls top under P k n
          e c goes xs scope env w frames d apart h f a b r.0 r.1 go skip
      plain_runs (leaf read) pl inl' vec r few le go skip
          = one.read_runs g p fw most rs first same_globals width wide gcalls lcalls top under P k n
          e c goes xs scope env w frames d apart h go skip
      plain_runs (leaf (write a)) pl inl' vec r few le go skip
          = m.write_runs g p fw most rs first same_globals width wide gcalls lcalls top under P k n
          xs e c goes scope env w frames d apart h a r go skip
      plain_runs (case v as') pl inl' vec r few le go skip = absurd pl
      plain_runs (nested b) pl inl' vec r few le go skip = absurd pl
      plain_runs (leaf fail) pl inl' vec r few le go skip = fail_runs
