-- A run of low code does what a looking run of GRIN does: answers, and operations without blocks.
--
-- A tag is its number, a number its bit pattern, a cell its place with one word for the tag and
-- one for each field. A block of low code gives the words of what the block of GRIN gives. Depth
-- is counted in levels there and in words here, so it is compared by the largest frame.
use Rattle.std.proofs.Common.{◌≡◌, inl, inr, ◌≤◌, ◌<◌, ℕ, ℤ, zero, suc, ◌+◌, ◌*◌, Bool, true, false, cond, List, [], ◌∷◌, ◌++◌, length, Option, Some, None, slice_get, refl, sym, ap, ◌∙◌, subst, arith, lit<}
use Rattle.seq.proofs.Lists.{all_get, all_set, map_get}
use Rattle.seq.proofs.Order.{le_or_lt}
use Rattle.grin_syntax.specs.declared.program.Word as W
use Rattle.grin_syntax.specs.declared.program.Val as V
use Rattle.grin_syntax.specs.Formed.{AllOf}
use Rattle.grin_syntax.specs.Tree as grin_tree
use Rattle.grin_syntax.specs.Tree.{Act, leaf, unit, fetch, update, write}
use Rattle.grin_meaning.specs.Values as grin
use Rattle.grin_meaning.specs.Values.{Datum, number, tag, cell, Node, Value, node, words, HeapCell, word_of, value_of, node_of}
use Rattle.grin_meaning.specs.Run as grin_run
use Rattle.grin_meaning.specs.Run.{act_by, require_if_checked, place_of, node_word, nth_or_zero}
use Rattle.grin_meaning.specs.Checks.{fills}
use Rattle.grin_meaning.specs.Ready.{NoNodeVar, most_fields}
use Rattle.low_code.specs.Tree as low_tree
use Rattle.low_code.specs.Values as low
use Rattle.low_code.specs.Values.{Word, Room, need, and_then}
use Rattle.low_code.specs.Run.{Calls, code, written}
use Rattle.low_translate.specs.Translation.{operand_of, operands_of, padded_to_width, set_all, load_all, save_all, results_of, end_words}
use Rattle.low_translate.specs.Writes.{fields_in, procs_write, written_width}
use Rattle.low_translate.specs.Lowered.{WordRanged, ValRanged}
use Rattle.low_translate.proofs.Images.{word_image, images, words_of_value, fit, nth_word, cell_image, world_image, InRange, SoundCell, SoundValue, SoundWorld, cell_narrow, none_some, some_same}
use Rattle.low_translate.proofs.Operands.{bound, Agrees, Word', operand_is, value_is}
use Rattle.low_translate.proofs.Pieces.{sets_run, loads_run, map_set}
use Rattle.low_translate.proofs.Stored.{update_run}
use Rattle.low_translate.proofs.Figures.{low_of_pattern}
use Rattle.seq.specs.Lists.{times}

-- no limits
abbrev pub free : Room
free = record { cells = None; stack = None }

-- what a node's word is in its cell
pub node_word_image : (m : Node) (i : ℕ) → word_image (node_word m i) ≡ nth_word
    (images (tag m.tag ∷ m.fields)) i
node_word_image m zero = refl
node_word_image m (suc i) = nth m.fields i
  where
    nth : (ds : List Datum) (i : ℕ) → word_image (nth_or_zero ds i) ≡ nth_word (images ds) i
    nth [] i = refl
    nth (d ∷ ds) zero = refl
    nth (d ∷ ds) (suc i) = nth ds i

pub node_word_ranged : (m : Node) (i : ℕ) → AllOf InRange m.fields → InRange (node_word m i)
node_word_ranged m zero h = tt
node_word_ranged m (suc i) h = nth m.fields i h
  where
    nth : (ds : List Datum) (i : ℕ) → AllOf InRange ds → InRange (nth_or_zero ds i)
    nth [] i h = lit< tt
    nth (d ∷ ds) zero h = h.0
    nth (d ∷ ds) (suc i) h = nth ds i h.1

module _ (g : grin_tree.Program) (p : low_tree.Program) (fw : ℕ → ℕ) (most : ℕ) (rs : List ℕ)
    (first : ℕ) (same_globals : length p.globals ≡ length g.globals) (width : ℕ)
    (wide : width ≡ 1 + most_fields g.tags) where
  -- ---- answers

  -- the words of a value are given
  pub record Reached (k : ℕ) (v : Value) (w : grin.World) (a : low.Answer) : Type 0 where
    pub few : length (words_of_value v) ≤ k
    pub frames : ℕ
    pub within : frames ≤ (w.depth + 1) * most
    pub is : a ≡ low.gives (fit k (images (words_of_value v))) (world_image width frames w)

  -- the answer of low code to one of GRIN, where a block gives k words; of a value it is known that
  -- P
  pub data Match (P : Value → Type 0) (k : ℕ) : grin.Answer → low.Answer → Type 0 where
    missed : {w : grin.World} {a : low.Answer} → Match P k (grin.stops grin.missing w) a
    fails : {w : grin.World} {f : ℕ} → f ≤ (w.depth + 1) * most
        → Match P k (grin.stops grin.no_alternative w)
        (low.stops low.no_alternative (world_image width f w))
    ran_out : {w : grin.World} {f : ℕ} → f ≤ (w.depth + 1) * most
        → Match P k (grin.stops grin.out_of_units w)
        (low.stops low.out_of_units (world_image width f w))
    given : {v : Value} {w : grin.World} {a : low.Answer} → SoundValue g v → SoundWorld g w
        → (P v → Reached k v w a) → Match P k (grin.gives v w) a

  -- calls of low code over so many words of frames do what calls of GRIN do
  abbrev pub CallsMatch : grin_run.Calls → Calls → Type 0
  CallsMatch gcalls lcalls = (f : ℕ) (xs : List Datum) (d : ℕ) (w : grin.World) (u frames : ℕ)
      → AllOf InRange xs → SoundWorld g w → u ≤ d * most → frames ≤ (w.depth + 1) * most
      → Match (λ v. Unit {0}) (results_of rs f) (gcalls f xs d w)
      (lcalls f (images xs) u (world_image width frames w))

  module _ (gcalls : grin_run.Calls) (lcalls : Calls) (top : ℕ) (under : Option ℕ) where
    abbrev pub does : low.Env → low_tree.Code → low.World → low.Answer
    does e c w = code p fw free lcalls e top under c w

    -- what goes on with the words of a value in variables
    abbrev pub Goes : (P : Value → Type 0) → (k n : ℕ) → (xs : List ℕ) → low.Env → low_tree.Code
        → (Value → grin.World → grin.Answer) → Type 0
    Goes P k n xs e c goes = (v : Value) (w : grin.World) (frames : ℕ) (e' : low.Env)
        → SoundValue g v → SoundWorld g w → length (words_of_value v) ≤ length xs
        → frames ≤ (w.depth + 1) * most
        → ((x : ℕ) → x < n → e' x ≡ bound xs (fit (length xs) (images (words_of_value v))) e x)
        → Match P k (goes v w) (does e' c (world_image width frames w))

    -- what is known of a value by the operation without blocks that gives it: a fetch gives a node,
    -- and others few words
    abbrev pub Wide : Act → Value → Type 0
    Wide (leaf (unit x)) v = Unit {0}
    Wide (leaf (fetch a)) v = (m : Node) × (v ≡ node m) × (1 + length m.fields ≤ written_width g)
    Wide o v = length (words_of_value v) ≤ end_words (written_width g) rs 0 o

    -- where a value has more words than there are variables
    abbrev pub Skips : (P : Value → Type 0) → (k : ℕ) → (xs : List ℕ) → Act
        → (Value → grin.World → grin.Answer) → Type 0
    Skips P k xs o goes = (v : Value) (w : grin.World) → SoundValue g v → SoundWorld g w → Wide o v
        → length xs < length (words_of_value v) → (a : low.Answer) → Match P k (goes v w) a

    -- where a run stands: the variables, the state, and the nesting
    pub record Here (scope : List ℕ) (env : grin.Env) (e : low.Env) (w : grin.World) (frames : ℕ)
        : Type 0 where
      pub agrees : Agrees first scope env e
      pub sound : SoundWorld g w
      pub within : frames ≤ (w.depth + 1) * most

    module _ (P : Value → Type 0) (k n : ℕ) (xs : List ℕ) (e : low.Env) (c : low_tree.Code)
        (goes : Value → grin.World → grin.Answer) where
      pub finish : (o : Act) → Goes P k n xs e c goes → Skips P k xs o goes
          → (v : Value) (w : grin.World) (frames : ℕ) → SoundValue g v → SoundWorld g w → Wide o v
          → frames ≤ (w.depth + 1) * most
          → Match P k (goes v w)
          (does (bound xs (fit (length xs) (images (words_of_value v))) e) c
          (world_image width frames w))
      finish o go skip v w frames sv sw wd wi = elim
          (le_or_lt (length (words_of_value v)) (length xs)) [
            | inl le ↦ go v w frames _ sv sw le wi (λ x lt. refl)
            | inr lt ↦ skip v w sv sw wd lt _
          ]

      module _ (scope : List ℕ) (env : grin.Env) (w : grin.World) (frames d : ℕ)
          (apart : (x : ℕ) → 0 < times x scope → times x xs ≡ 0) (h : Here scope env e w frames)
        where
          pub unit_runs : (v : V.Val) → NoNodeVar v → ValRanged v → Goes P k n xs e c goes
              → Skips P k xs (leaf (unit v)) goes → Match P k
              (grin.then_do (act_by g gcalls true env d (leaf (unit v)) w) goes)
              (does e (set_all xs (operands_of v) c) (world_image width frames w))
          unfolding act_by
          unit_runs v nn r go skip = by (value_of g env v) refl
            where
              by : (o : Option Value) → value_of g env v ≡ o
                  → Match P k
                  (grin.then_do
                  (grin.need o w (λ x. require_if_checked true (fills g env v) w (grin.gives x w)))
                  goes) (does e (set_all xs (operands_of v) c) (world_image width frames w))
              by None q = missed
              by (Some x) q = looks (fills g env v)
                where
                  looks : (b : Bool) → Match P k
                      (grin.then_do (cond b (grin.gives x w) (grin.stops grin.missing w)) goes)
                      (does e (set_all xs (operands_of v) c) (world_image width frames w))
                  looks false = missed
                  looks true =
                      let u = value_is g p fw same_globals first scope env e h.agrees v x q nn r in
                      subst (Match P k (goes x w))
                      (sym (sets_run p fw free lcalls top under xs (operands_of v)
                      (images (words_of_value x)) e c (world_image width frames w) u.words.are
                      (u.words.avoid xs apart)))
                      (finish (leaf (unit v)) go skip x w frames u.sound h.sound tt h.within)

          -- the place that a word stands for
          pub place_is : (a : W.Word) (i : ℕ) → grin.and_then (word_of g env a) place_of ≡ Some i
              → WordRanged a → Word' g p fw same_globals scope e (operand_of a) (cell i)
          place_is a i q r = by (word_of g env a) refl q
            where
              by : (o : Option Datum) → word_of g env a ≡ o → grin.and_then o place_of ≡ Some i
                  → Word' g p fw same_globals scope e (operand_of a) (cell i)
              by None z m = absurd (none_some m)
              by (Some (number j)) z m = absurd (none_some m)
              by (Some (tag t)) z m = absurd (none_some m)
              by (Some (cell j)) z m = operand_is g p fw same_globals first scope env e h.agrees a
                  (cell i) (z ∙ ap (λ k. Some (cell k)) (some_same m)) r

          pub fetch_runs : (a : W.Word) → WordRanged a → Goes P k n xs e c goes
              → Skips P k xs (leaf (fetch a)) goes → Match P k
              (grin.then_do (act_by g gcalls true env d (leaf (fetch a)) w) goes)
              (does e (load_all (written_width g) xs (operand_of a) 0 c) (world_image width frames w))
          unfolding act_by
          fetch_runs a r go skip = by (grin.and_then (word_of g env a) place_of) refl
            where
              by : (o : Option ℕ) → grin.and_then (word_of g env a) place_of ≡ o
                  → Match P k
                  (grin.then_do
                  (grin.need o w
                  (λ i. grin.need (slice_get w.cells i) w (λ u. grin.gives (node u.node) w))) goes)
                  (does e (load_all (written_width g) xs (operand_of a) 0 c)
                  (world_image width frames w))
              by None q = missed
              by (Some i) q = inner (slice_get w.cells i) refl
                where
                  inner : (o : Option HeapCell) → slice_get w.cells i ≡ o
                      → Match P k
                      (grin.then_do (grin.need o w (λ u. grin.gives (node u.node) w)) goes)
                      (does e (load_all (written_width g) xs (operand_of a) 0 c)
                      (world_image width frames w))
                  inner None z = missed
                  inner (Some u) z =
                      let o = place_is a i q r in
                      let s : SoundCell g u.node = all_get (λ x. SoundCell g x.node) w.cells i u
                      h.sound.cells z in
                      subst (Match P k (goes (node u.node) w))
                      (sym (loads_run p fw free lcalls top under (written_width g) width
                      (omega (arith, wide)) xs (operand_of a) 0 i
                      (images (tag u.node.tag ∷ u.node.fields)) e c (world_image width frames w)
                      o.is (o.avoids xs apart)
                      (map_get (λ x. cell_image width x.node) w.cells i u z)
                      (cell_narrow g u.node s)))
                      (finish (leaf (fetch a)) go skip (node u.node) w frames s.sound h.sound
                      (u.node, refl, s.narrow) h.within)

          pub write_runs : (a : W.Word) → WordRanged a → Goes P k n xs e c goes
              → Skips P k xs (leaf (write a)) goes → Match P k
              (grin.then_do (act_by g gcalls true env d (leaf (write a)) w) goes)
              (does e (low_tree.put (operand_of a) (set_all xs [] c)) (world_image width frames w))
          unfolding act_by code
          write_runs a r go skip = by (grin.and_then (word_of g env a) grin_run.number_of) refl
            where
              by : (o : Option ℤ) → grin.and_then (word_of g env a) grin_run.number_of ≡ o
                  → Match P k
                  (grin.then_do (grin.need o w (λ j. grin.gives (words []) (grin_run.written j w)))
                  goes) (does e (low_tree.put (operand_of a) (set_all xs [] c))
                  (world_image width frames w))
              by None q = missed
              by (Some j) q = inner (word_of g env a) refl q
                where
                  inner : (o : Option Datum) → word_of g env a ≡ o
                      → grin.and_then o grin_run.number_of ≡ Some j
                      → Match P k (goes (words []) (grin_run.written j w))
                      (does e (low_tree.put (operand_of a) (set_all xs [] c))
                      (world_image width frames w))
                  inner None z m = absurd (none_some m)
                  inner (Some (tag t)) z m = absurd (none_some m)
                  inner (Some (cell t)) z m = absurd (none_some m)
                  inner (Some (number l)) z m =
                      let o = operand_is g p fw same_globals first scope env e h.agrees a (number j)
                      (z ∙ ap (λ k. Some (number k)) (some_same m)) r in
                      let path : does e (low_tree.put (operand_of a) (set_all xs [] c))
                      (world_image width frames w) ≡ does (bound xs (fit (length xs) []) e) c
                      (world_image width frames (grin_run.written j w)) =
                      (λ t. need (and_then (o.is t) low.number_of) (world_image width frames w)
                      (λ b. does e (set_all xs [] c) (written b (world_image width frames w))))
                      ∙ (λ t. does e (set_all xs [] c)
                      (record (world_image width frames w)
                      { out = w.out ++ low_of_pattern j o.ranged t ∷ [] }))
                      ∙ sets_run p fw free lcalls top under xs [] [] e c
                      (world_image width frames (grin_run.written j w)) refl tt in
                      subst (Match P k (goes (words []) (grin_run.written j w))) (sym path)
                      (finish (leaf (write a)) go skip (words []) (grin_run.written j w) frames tt
                      (record { cells = h.sound.cells; bytes = h.sound.bytes }) (omega arith)
                      h.within)

          pub update_runs : (a : W.Word) (v : V.Val) → WordRanged a → NoNodeVar v → ValRanged v
              → fields_in g.tags v ≤ procs_write g.tags g.procs → Goes P k n xs e c goes
              → Skips P k xs (leaf (update a v)) goes
              → Match P k (grin.then_do (act_by g gcalls true env d (leaf (update a v)) w) goes)
              (does e (save_all (operand_of a) 0
              (padded_to_width (written_width g) (operands_of v)) (set_all xs [] c))
              (world_image width frames w))
          unfolding act_by
          update_runs a v ra nn r few go skip = by (grin.and_then (word_of g env a) place_of) refl
            where
              low_code : low_tree.Code
              low_code = save_all (operand_of a) 0 (padded_to_width (written_width g) (operands_of v))
                  (set_all xs [] c)

              by : (o : Option ℕ) → grin.and_then (word_of g env a) place_of ≡ o
                  → Match P k
                  (grin.then_do
                  (grin.need o w
                  (λ i. grin.need (slice_get w.cells i) w
                  (λ u. grin.need (node_of g env v) w
                  (λ m. require_if_checked true (fills g env v) w
                  (grin.gives (words []) (grin_run.with_node i m u w)))))) goes)
                  (does e (save_all (operand_of a) 0
                  (padded_to_width (written_width g) (operands_of v)) (set_all xs [] c))
                  (world_image width frames w))
              by None q = missed
              by (Some i) q = at_cell (slice_get w.cells i) refl
                where
                  at_cell : (o : Option HeapCell) → slice_get w.cells i ≡ o
                      → Match P k
                      (grin.then_do
                      (grin.need o w
                      (λ u. grin.need (node_of g env v) w
                      (λ m. require_if_checked true (fills g env v) w
                      (grin.gives (words []) (grin_run.with_node i m u w))))) goes)
                      (does e (save_all (operand_of a) 0
                      (padded_to_width (written_width g) (operands_of v)) (set_all xs [] c))
                      (world_image width frames w))
                  at_cell None z = missed
                  at_cell (Some u) z = with_node (node_of g env v) refl
                    where
                      with_node : (o : Option Node) → node_of g env v ≡ o
                          → Match P k
                          (grin.then_do
                          (grin.need o w
                          (λ m. require_if_checked true (fills g env v) w
                          (grin.gives (words []) (grin_run.with_node i m u w)))) goes)
                          (does e (save_all (operand_of a) 0
                          (padded_to_width (written_width g) (operands_of v)) (set_all xs [] c))
                          (world_image width frames w))
                      with_node None y = missed
                      with_node (Some m) y = looks (fills g env v) refl
                        where
                          looks : (b : Bool) → fills g env v ≡ b
                              → Match P k
                              (grin.then_do
                              (cond b (grin.gives (words []) (grin_run.with_node i m u w))
                              (grin.stops grin.missing w)) goes)
                              (does e (save_all (operand_of a) 0
                              (padded_to_width (written_width g) (operands_of v)) (set_all xs [] c))
                              (world_image width frames w))
                          looks false f = missed
                          looks true f =
                              let o = place_is a i q ra in
                              let next : grin.World = grin_run.with_node i m u w in
                              let run = update_run g p fw same_globals width wide free lcalls top
                              under first scope env e h.agrees (operand_of a) v i m
                              (images (tag u.node.tag ∷ u.node.fields)) (set_all xs [] c)
                              (world_image width frames w) o.is
                              (map_get (λ x. cell_image width x.node) w.cells i u z)
                              (cell_narrow g u.node
                              (all_get (λ x. SoundCell g x.node) w.cells i u h.sound.cells z)) y f
                              nn r few in
                              let path : does e
                              (save_all (operand_of a) 0
                              (padded_to_width (written_width g) (operands_of v))
                              (set_all xs [] c)) (world_image width frames w) ≡ does
                              (bound xs (fit (length xs) []) e) c (world_image width frames next)
                              =
                              run.0
                              ∙ (λ t. does e (set_all xs [] c)
                              (record (world_image width frames w) {
                                cells = sym
                                    (map_set (λ x. cell_image width x.node) w.cells i
                                    (record { site = u.site; node = m })) t;
                              }))
                              ∙ sets_run p fw free lcalls top under xs [] [] e c
                              (world_image width frames next) refl tt in
                              subst (Match P k (goes (words []) next)) (sym path)
                              (finish (leaf (update a v)) go skip (words []) next frames tt
                              (record {
                                cells = all_set (λ x. SoundCell g x.node) w.cells i _
                                    h.sound.cells run.1;
                                bytes = h.sound.bytes;
                              }) (omega arith)
                              h.within)
