-- Operations without blocks at the end of a block.
use Rattle.std.proofs.Common.{◌≡◌, ◌≤◌, ◌<◌, ℕ, ◌+◌, Bool, true, false, cond, List, length, Option, Some, None, refl, sym, ap, ◌∙◌, subst, arith}
use Rattle.std.proofs.lemmas.List.{length-map}
use Rattle.grin_syntax.specs.declared.program.ProcId.{ProcId}
use Rattle.grin_syntax.specs.declared.program.Word as W
use Rattle.grin_syntax.specs.declared.program.Val as V
use Rattle.grin_syntax.specs.Formed.{AllOf}
use Rattle.grin_syntax.specs.Tree as grin_tree
use Rattle.grin_syntax.specs.Tree.{Act, leaf, unit, fetch, fetch_word, update, eval, apply, call, prim, read, write, case, nested, fail, IsLeaf}
use Rattle.grin_meaning.specs.Values as grin
use Rattle.grin_meaning.specs.Values.{Datum, Node, Value, node, words_of, value_of}
use Rattle.grin_meaning.specs.Run as grin_run
use Rattle.grin_meaning.specs.Run.{act_by, require_if_checked}
use Rattle.grin_meaning.specs.Checks.{fills}
use Rattle.grin_meaning.specs.Ready.{NoNodeVar, EachAct, most_fields, inlined_kind, vectorised_kind}
use Rattle.low_code.specs.declared.program.Operand.{Operand}
use Rattle.low_code.specs.Tree as low_tree
use Rattle.low_code.specs.Values as low
use Rattle.low_code.specs.Values.{need}
use Rattle.low_code.specs.Run.{Calls, code, operands}
use Rattle.low_translate.specs.declared.blocks.Goal.{Goal}
use Rattle.low_translate.specs.Translation.{operands_of, operands_of_words, padded_to_width, variables_of, results_of, end_words, through, plain_end}
use Rattle.low_translate.specs.Writes.{act_writes, procs_write, written_width}
use Rattle.low_translate.specs.Lowered.{WordRanged, ValRanged, PlainRanged, ActGives}
use Rattle.low_translate.proofs.Images.{word_image, images, words_of_value, fit, fit_again, length_fit, world_image, SoundValue}
use Rattle.low_translate.proofs.Operands.{words_are, value_is, fitted_are}
use Rattle.low_translate.proofs.OwnVariables.{apart_numbers, numbered}
use Rattle.low_translate.proofs.Standings.{Standing, Giving, Gives, ends_fit, node_fits_goal, value_fits_goal}
use Rattle.low_translate.proofs.Matches as m
use Rattle.low_translate.proofs.Matches.{free, Match, missed, fails, ran_out, given, CallsMatch}
use Rattle.low_translate.proofs.PlainRuns as plain
use Rattle.seq.specs.Lists.{numbers_from, times}
use Rattle.seq.proofs.Counted.{length_numbers}

-- goes through variables of its own
abbrev pub IsThrough : Act → Type 0
IsThrough (leaf (unit v)) = ⊥
IsThrough (leaf (eval a)) = ⊥
IsThrough (leaf (apply v a)) = ⊥
IsThrough (case v as') = ⊥
IsThrough (nested b) = ⊥
IsThrough (leaf fail) = ⊥
IsThrough _ = Unit {0}

through_plain : (o : Act) → IsThrough o → IsLeaf o
through_plain (leaf (unit v)) h = absurd h
through_plain (leaf (eval a)) h = absurd h
through_plain (leaf (apply v a)) h = absurd h
through_plain (case v as') h = absurd h
through_plain (nested b) h = absurd h
through_plain (leaf fail) h = absurd h
through_plain _ h = tt

then_gives : (a : grin.Answer) → grin.then_do a (λ v w. grin.gives v w) ≡ a
then_gives (grin.gives v w) = refl
then_gives (grin.stops s w) = refl

module _ (g : grin_tree.Program) (p : low_tree.Program) (fw : ℕ → ℕ) (most : ℕ) (rs : List ℕ)
    (first : ℕ) (same_globals : length p.globals ≡ length g.globals) (width : ℕ)
    (wide : width ≡ 1 + most_fields g.tags)
    (gcalls : grin_run.Calls) (lcalls : Calls)
    (calls_match : CallsMatch g p fw most rs first same_globals width wide gcalls lcalls)
    (top : ℕ) (under : Option ℕ) where
  abbrev does : low.Env → low_tree.Code → low.World → low.Answer
  does e c w = code p fw free lcalls e top under c w

  abbrev Matches : (P : Value → Type 0) → ℕ → grin.Answer → low.Answer → Type 0
  Matches = Match g p fw most rs first same_globals width wide

  abbrev Wide : Act → Value → Type 0
  Wide = m.Wide g p fw most rs first same_globals width wide gcalls lcalls top under

  abbrev At : List ℕ → grin.Env → low.Env → grin.World → ℕ → Type 0
  At = m.Here g p fw most rs first same_globals width wide gcalls lcalls top under

  -- what a procedure gives is given on
  any_match : (P : Value → Type 0) (k : ℕ) (a : grin.Answer) (l : low.Answer)
      → Matches (λ v. Unit {0}) k a l → Matches P k a l
  any_match P k _ _ missed = missed
  any_match P k _ _ (fails h) = fails h
  any_match P k _ _ (ran_out h) = ran_out h
  any_match P k _ _ (given sv sw r) = given sv sw (λ pv. r tt)

  give_is : (e : low.Env) (as' : List Operand) (vs : List low.Word) (w : low.World)
      → operands p fw e as' ≡ Some vs → does e (low_tree.give as') w ≡ low.gives vs w
  unfolding code
  give_is e as' vs w q = ap (λ o. need o w (λ vs. low.gives vs w)) q

  -- of a fetch
  abbrev OnFetch : Act → Type 0 → Type 0
  OnFetch (leaf (fetch a)) T = T
  OnFetch _ T = Unit {0}

  -- an operation gives few words, if they fit
  few_words : (k : ℕ) (o : Act) (v : Value) → IsThrough o → Wide o v → SoundValue g v
      → OnFetch o ((n : Node) → v ≡ node n → length (words_of_value v) ≤ k)
      → length (words_of_value v) ≤ end_words (written_width g) rs k o
  few_words k (leaf (unit u)) v th wd sv f = absurd th
  few_words k (leaf (eval a)) v th wd sv f = absurd th
  few_words k (leaf (apply u a)) v th wd sv f = absurd th
  few_words k (case u as') v th wd sv f = absurd th
  few_words k (nested b) v th wd sv f = absurd th
  few_words k (leaf fail) v th wd sv f = absurd th
  few_words k (leaf (fetch a)) v th wd sv f =
      let le = f wd.0 wd.1 in
      let s : length (words_of_value v) ≡ length (words_of_value (node wd.0))
      = ap (λ x. length (words_of_value x)) wd.1 in
      let n = wd.2 in
      omega (arith, le, n, s)
  few_words k _ v th wd sv f = wd

  module _ (P : Value → Type 0) (goal : Goal) (d : ℕ)
      (s : Standing g rs (written_width g) most P goal d top under) (n : ℕ) (n_first : first ≤ n)
    where
      fetch_fits : (o : Act) (v : Value) → P v → SoundValue g v
          → Giving g rs (written_width g) most goal (Gives g rs (written_width g) most o)
          → OnFetch o ((m : Node) → v ≡ node m → length (words_of_value v) ≤ goal.words)
      unfolding ActGives
      fetch_fits (leaf (fetch a)) v pv sv gives = λ m e. subst
          (λ x. length (words_of_value x) ≤ goal.words) (sym e)
          (node_fits_goal g rs (written_width g) most P goal d top under s m
          (subst (SoundValue g) e sv) gives (subst P e pv))
      fetch_fits _ v pv sv gives = tt

      module _ (scope : List ℕ) (below : (x : ℕ) → 0 < times x scope → x < first) (env : grin.Env)
          (e : low.Env) (w : grin.World) (frames : ℕ) (h : At scope env e w frames) where
        through_runs : (o : Act) → IsThrough o → EachAct inlined_kind o → EachAct vectorised_kind o
            → PlainRanged o → act_writes g.tags o ≤ procs_write g.tags g.procs
            → plain.Lies g p fw most rs first same_globals width wide gcalls lcalls calls_match top
            under o d
            → Giving g rs (written_width g) most goal (Gives g rs (written_width g) most o)
            → Matches P goal.words (act_by g gcalls true env d o w)
            (does e (through (written_width g) rs goal n o) (world_image width frames w))
        through_runs o th inl' vec r few lies gives = subst
            (λ a. Matches P goal.words a
            (does e (through (written_width g) rs goal n o) (world_image width frames w)))
            (then_gives (act_by g gcalls true env d o w))
            (plain.plain_runs g p fw most rs first same_globals width wide gcalls lcalls calls_match
            top under P goal.words (n + ew) xs e c (λ v w. grin.gives v w) scope env w frames d
            (λ x lt. apart_numbers n ew x (let b = below x lt in omega (arith, b, n_first))) h o
            (through_plain o th) inl' vec r few lies go skip)
          where
            ew : ℕ
            ew = end_words (written_width g) rs goal.words o

            xs : List ℕ
            xs = numbers_from n ew

            c : low_tree.Code
            c = low_tree.give (padded_to_width goal.words (variables_of xs))

            go : plain.Going g p fw most rs first same_globals width wide gcalls lcalls calls_match
                top under P goal.words (n + ew) xs e c (λ v w. grin.gives v w)
            go v w' frames' e' sv sw le wi same = given sv sw (λ pv. record {
              few = ends_fit g rs (written_width g) most P goal d top under s o gives v pv
                  (let m = length_numbers n ew in omega (arith, le, m));
              frames = frames';
              within = wi;
              is = give_is e' _ _ (world_image width frames' w')
                  (fitted_are g p fw same_globals goal.words e' (variables_of xs) _
                  (numbered p fw n ew (fit (length xs) (images (words_of_value v))) e e'
                  (length_fit (length xs) _ ∙ length_numbers n ew) same))
                  ∙ ap (λ l. low.gives l (world_image width frames' w'))
                  (fit_again goal.words (length xs) (images (words_of_value v))
                  (let i = length-map (words_of_value v) word_image in omega (arith, le, i)));
            })

            skip : plain.Skipping g p fw most rs first same_globals width wide gcalls lcalls
                calls_match top under P goal.words xs o (λ v w. grin.gives v w)
            skip v w' sv sw wd lt a = given sv sw
                (λ pv. absurd
                (let m = length_numbers n ew in let f
                = few_words goal.words o v th wd sv (fetch_fits o v pv sv gives)
                in omega (arith, lt, m, f)))

        unit_ends : (v : V.Val) → NoNodeVar v → ValRanged v
            → Giving g rs (written_width g) most goal
            (Gives g rs (written_width g) most (leaf (unit v)))
            → Matches P goal.words (act_by g gcalls true env d (leaf (unit v)) w)
            (does e (plain_end (written_width g) rs goal n (leaf (unit v)))
            (world_image width frames w))
        unfolding act_by ActGives
        unit_ends v nn r gives = by (value_of g env v) refl
          where
            low_answer : low.Answer
            low_answer = does e (plain_end (written_width g) rs goal n (leaf (unit v)))
                (world_image width frames w)

            by : (o : Option Value) → value_of g env v ≡ o
                → Matches P goal.words
                (grin.need o w (λ x. require_if_checked true (fills g env v) w (grin.gives x w)))
                low_answer
            by None q = missed
            by (Some x) q = looks (fills g env v)
              where
                looks : (b : Bool) → Matches P goal.words
                    (cond b (grin.gives x w) (grin.stops grin.missing w)) low_answer
                looks false = missed
                looks true =
                    let u = value_is g p fw same_globals first scope env e h.agrees v x q nn r in
                    given u.sound h.sound (λ pv. record {
                      few = value_fits_goal g rs (written_width g) most P goal d top under s env v x q
                          nn u.sound gives pv;
                      frames = frames;
                      within = h.within;
                      is = give_is e _ _ (world_image width frames w)
                          (fitted_are g p fw same_globals goal.words e (operands_of v) _ u.words.are);
                    })

        tail_ends : (f : ProcId) (ws : List W.Word) → AllOf WordRanged ws → goal.leaves ≡ true
            → results_of rs f.0 ≡ goal.words → Matches P goal.words
            (act_by g gcalls true env d (leaf (call f ws)) w)
            (does e (low_tree.tail f.0 n (operands_of_words ws)) (world_image width frames w))
        unfolding act_by code
        tail_ends f ws r lv same = by (words_of g env ws) refl
          where
            by : (o : Option (List Datum)) → words_of g env ws ≡ o
                → Matches P goal.words (grin.need o w (λ ds. gcalls f.0 ds d w))
                (does e (low_tree.tail f.0 n (operands_of_words ws)) (world_image width frames w))
            by None q = missed
            by (Some ds) q =
                let u = words_are g p fw same_globals first scope env e h.agrees ws ds q r in
                let b = s.below lv in
                let path : does e (low_tree.tail f.0 n (operands_of_words ws))
                (world_image width frames w) ≡ lcalls f.0 (images ds) b.0
                (world_image width frames w) =
                (λ t. need (b.1 t) (world_image width frames w)
                (λ l. need (u.are t) (world_image width frames w)
                (λ vs. lcalls f.0 vs l (world_image width frames w)))) in
                subst (Matches P goal.words (gcalls f.0 ds d w)) (sym path)
                (any_match P goal.words _ _
                (subst (λ k. Matches (λ v. Unit {0}) k (gcalls f.0 ds d w)
                (lcalls f.0 (images ds) b.0 (world_image width frames w))) same
                (calls_match f.0 ds d w b.0 frames u.ranged h.sound b.2 h.within)))

        call_ends : (f : ProcId) (ws : List W.Word) → EachAct inlined_kind (leaf (call f ws))
            → EachAct vectorised_kind (leaf (call f ws)) → AllOf WordRanged ws
            → act_writes g.tags (leaf (call f ws)) ≤ procs_write g.tags g.procs
            → Giving g rs (written_width g) most goal
            (Gives g rs (written_width g) most (leaf (call f ws)))
            → Matches P goal.words (act_by g gcalls true env d (leaf (call f ws)) w)
            (does e (plain_end (written_width g) rs goal n (leaf (call f ws)))
            (world_image width frames w))
        unfolding ActGives
        call_ends f ws inl' vec r few gives = by goal.leaves refl
          where
            by : (b : Bool) → goal.leaves ≡ b → Matches P goal.words
                (act_by g gcalls true env d (leaf (call f ws)) w)
                (does e (elim b [
                  | true ↦ low_tree.tail f.0 n (operands_of_words ws)
                  | false ↦ through
                      (written_width g) rs goal n (leaf (call f ws))
                ]) (world_image width frames w))
            by true q = tail_ends f ws r q (gives q)
            by false q = through_runs (leaf (call f ws)) tt inl' vec r few (s.inside q) gives

        fail_ends : Matches P goal.words (act_by g gcalls true env d (leaf fail) w)
            (does e low_tree.fail (world_image width frames w))
        unfolding act_by code
        fail_ends = fails h.within

        pub end_runs : (o : Act) → IsLeaf o → EachAct inlined_kind o → EachAct vectorised_kind o
            → PlainRanged o → act_writes g.tags o ≤ procs_write g.tags g.procs
            → Giving g rs (written_width g) most goal (Gives g rs (written_width g) most o)
            → Matches P goal.words (act_by g gcalls true env d o w)
            (does e (plain_end (written_width g) rs goal n o) (world_image width frames w))
        unfolding EachAct
        end_runs (leaf (unit v)) pl inl' vec r few gives = unit_ends v vec.1 r gives
        end_runs (leaf (fetch a)) pl inl' vec r few gives
            = through_runs (leaf (fetch a)) tt inl' vec r few tt gives
        end_runs (leaf (fetch_word a i)) pl inl' vec r few gives
            = through_runs (leaf (fetch_word a i)) tt inl' vec r few tt gives
        end_runs (leaf (update a v)) pl inl' vec r few gives
            = through_runs (leaf (update a v)) tt inl' vec r few tt gives
        end_runs (leaf (eval a)) pl inl' vec r few gives = absurd inl'
        end_runs (leaf (apply v a)) pl inl' vec r few gives = absurd inl'.0
        end_runs (leaf (call f ws)) pl inl' vec r few gives = call_ends f ws inl' vec r few gives
        end_runs (leaf (prim f a b)) pl inl' vec r few gives
            = through_runs (leaf (prim f a b)) tt inl' vec r few tt gives
        end_runs (leaf read) pl inl' vec r few gives = through_runs (leaf read) tt inl' vec r few tt
            gives
        end_runs (leaf (write a)) pl inl' vec r few gives
            = through_runs (leaf (write a)) tt inl' vec r few tt gives
        end_runs (case v as') pl inl' vec r few gives = absurd pl
        end_runs (nested b) pl inl' vec r few gives = absurd pl
        end_runs (leaf fail) pl inl' vec r few gives = fail_ends
