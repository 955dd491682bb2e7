-- Operations that give one word.
use Rattle.std.proofs.Common.{◌≡◌, ◌≤◌, ◌<◌, ℕ, suc, ◌+◌, ◌*◌, true, List, [], ◌∷◌, length, Option, Some, None, slice_get, refl, sym, ap, ◌∙◌, subst, arith, lit<}
use Rattle.seq.proofs.Lists.{map_get, all_get}
use Rattle.headline.specs.Carries.{IsBytes}
use Rattle.grin_syntax.specs.declared.program.PrimOp as G
use Rattle.grin_syntax.specs.declared.program.Word as W
use Rattle.grin_syntax.specs.Tree as grin_tree
use Rattle.grin_syntax.specs.Tree.{Act, leaf, fetch_word, prim, read}
use Rattle.grin_meaning.specs.Values as grin
use Rattle.grin_meaning.specs.Values.{Datum, number, tag, cell, Value, node, words, HeapCell, word_of}
use Rattle.grin_meaning.specs.Run as grin_run
use Rattle.grin_meaning.specs.Run.{act_by, apply_arithmetic, place_of, node_word, byte_or_end, after_read}
use Rattle.grin_meaning.specs.Ready.{most_fields}
use Rattle.low_code.specs.Arithmetic as low_arithmetic
use Rattle.low_code.specs.Tree as low_tree
use Rattle.low_code.specs.Values as low
use Rattle.low_code.specs.Values.{with_var, need, and_then}
use Rattle.low_code.specs.Run.{Calls, code, next_byte, byte_taken}
use Rattle.low_translate.specs.Translation.{operand_of, operation_of, set_all, to_first, load_word}
use Rattle.low_translate.specs.Writes.{written_width}
use Rattle.low_translate.specs.Lowered.{Has32Bits, WordRanged}
use Rattle.low_translate.proofs.Images.{word_image, images, fit, fit_from, cell_image, world_image, InRange, SoundCell, SoundWorld, cell_narrow}
use Rattle.low_translate.proofs.Operands.{bound, operand_is}
use Rattle.low_translate.proofs.Pieces.{sets_run, loads_run}
use Rattle.low_translate.proofs.Figures.{arithmetic_same, arithmetic_has}
use Rattle.low_translate.proofs.Matches.{free, node_word_image, node_word_ranged, Match, missed, Goes, Skips, Wide, Here, finish, place_is}
use Rattle.seq.specs.Lists.{times}

module _ (g : grin_tree.Program) (p : low_tree.Program) (fw : ℕ → ℕ) (most : ℕ) (rs : List ℕ)
    (first : ℕ) (same_globals : length p.globals ≡ length g.globals) (width : ℕ)
    (wide : width ≡ 1 + most_fields g.tags) (gcalls : grin_run.Calls) (lcalls : Calls) (top : ℕ)
    (under : Option ℕ) where
  abbrev does : low.Env → low_tree.Code → low.World → low.Answer
  does e c w = code p fw free lcalls e top under c w

  abbrev Matches : (P : Value → Type 0) → ℕ → grin.Answer → low.Answer → Type 0
  Matches = Match g p fw most rs first same_globals width wide

  abbrev Going : (P : Value → Type 0) → (k n : ℕ) → (xs : List ℕ) → low.Env → low_tree.Code
      → (Value → grin.World → grin.Answer) → Type 0
  Going = Goes g p fw most rs first same_globals width wide gcalls lcalls top under

  abbrev Skipping : (P : Value → Type 0) → (k : ℕ) → (xs : List ℕ) → Act
      → (Value → grin.World → grin.Answer) → Type 0
  Skipping = Skips g p fw most rs first same_globals width wide gcalls lcalls top under

  abbrev At : List ℕ → grin.Env → low.Env → grin.World → ℕ → Type 0
  At = Here g p fw most rs first same_globals width wide gcalls lcalls top under

  module _ (P : Value → Type 0) (k n : ℕ) (e : low.Env) (c : low_tree.Code)
      (goes : Value → grin.World → grin.Answer) where
    -- one word in the first variable
    one_word : (o : Act) (xs : List ℕ) (body : ℕ → low_tree.Code → low_tree.Code) (d : Datum)
        (w w' : grin.World) (frames : ℕ) → Wide g p fw most rs first same_globals width wide gcalls
        lcalls top under o (words (d ∷ [])) → InRange d → SoundWorld g w'
        → frames ≤ (w'.depth + 1) * most
        → Going P k n xs e c goes → Skipping P k xs o goes
        → ((x : ℕ) (rest : List ℕ) (c' : low_tree.Code) → xs ≡ x ∷ rest
        → does e (body x c') (world_image width frames w) ≡ does (with_var x (word_image d) e)
        c' (world_image width frames w'))
        → Matches P k (goes (words (d ∷ [])) w')
        (does e (to_first xs body c) (world_image width frames w))
    one_word o [] body d w w' frames wd r s wi go skip step
        = skip (words (d ∷ [])) w' (r, tt) s wd (omega arith) _
    one_word o (x ∷ xs) body d w w' frames wd r s wi go skip step =
        let path : does e (body x (set_all xs [] c)) (world_image width frames w) ≡ does
        (bound (x ∷ xs) (fit (suc (length xs)) (word_image d ∷ [])) e) c
        (world_image width frames w') =
        step x xs (set_all xs [] c) refl ∙ sets_run p fw free lcalls top under xs [] []
        (with_var x (word_image d) e) c (world_image width frames w') refl tt in
        subst (Matches P k (goes (words (d ∷ [])) w')) (sym path)
        (finish g p fw most rs first same_globals width wide gcalls lcalls top under P k n (x ∷ xs)
        e c goes o go skip (words (d ∷ [])) w' frames (r, tt) s wd wi)

    module _ (xs : List ℕ) (scope : List ℕ) (env : grin.Env) (w : grin.World) (frames d : ℕ)
        (apart : (x : ℕ) → 0 < times x scope → times x xs ≡ 0) (h : At scope env e w frames) where
      pub read_runs : Going P k n xs e c goes → Skipping P k xs (leaf read) goes
          → Matches P k (grin.then_do (act_by g gcalls true env d (leaf read) w) goes)
          (does e (to_first xs (λ x. low_tree.get x) c) (world_image width frames w))
      unfolding act_by code
      read_runs go skip = one_word (leaf read) xs (λ x. low_tree.get x)
          (number (byte_or_end w.input)) w (after_read w.input w) frames (omega arith)
          (ranged w.input h.sound.bytes) (sound w.input refl) (depth w.input refl) go skip
          (λ x rest c' eq. step w.input refl x c')
        where
          ranged : (i : List ℕ) → IsBytes i → Has32Bits (byte_or_end i)
          ranged [] b = lit< tt
          ranged (x ∷ i) b = let lt = b.0 in omega (arith, lt)

          sound : (i : List ℕ) → w.input ≡ i → SoundWorld g (after_read i w)
          sound [] q = h.sound
          sound (x ∷ i) q = record
              { cells = h.sound.cells; bytes = (subst IsBytes q h.sound.bytes).1 }

          depth : (i : List ℕ) → w.input ≡ i → frames ≤ ((after_read i w).depth + 1) * most
          depth [] q = h.within
          depth (x ∷ i) q = h.within

          step : (i : List ℕ) → w.input ≡ i → (x : ℕ) (c' : low_tree.Code)
              → does (with_var x (low.number (next_byte i)) e) c'
              (byte_taken i (world_image width frames w)) ≡ does
              (with_var x (word_image (number (byte_or_end i))) e) c'
              (world_image width frames (after_read i w))
          step [] q x c' = refl
          step (b ∷ i) q x c' = let one : w.used + 1 ≡ suc w.used = omega arith
              in ap (λ u. does (with_var x (low.number b) e) c'
              (record (world_image width frames w) { input = i; used = u })) one

      first_only : (x : ℕ) (rest : List ℕ) (y : ℕ) → xs ≡ x ∷ rest → times y xs ≡ 0
          → times y (x ∷ []) ≡ 0
      first_only x rest y e h = let k : times y (x ∷ rest) ≡ 0 = ap (times y) (sym e) ∙ h
          in omega (arith, k)

      pub fetch_word_runs : (a : W.Word) (j : ℕ) → WordRanged a → Going P k n xs e c goes
          → Skipping P k xs (leaf (fetch_word a j)) goes
          → Matches P k (grin.then_do (act_by g gcalls true env d (leaf (fetch_word a j)) w) goes)
          (does e (to_first xs (λ x. load_word (written_width g) x (operand_of a) j) c)
          (world_image width frames w))
      unfolding act_by
      fetch_word_runs a j r go skip = by (grin.and_then (word_of g env a) place_of) refl
        where
          by : (o : Option ℕ) → grin.and_then (word_of g env a) place_of ≡ o
              → Matches P k
              (grin.then_do
              (grin.need o w
              (λ i. grin.need (slice_get w.cells i) w
              (λ u. grin.gives (words (node_word u.node j ∷ [])) w))) goes)
              (does e (to_first xs (λ x. load_word (written_width g) x (operand_of a) j) c)
              (world_image width frames w))
          by None q = missed
          by (Some i) q = inner (slice_get w.cells i) refl
            where
              inner : (o : Option HeapCell) → slice_get w.cells i ≡ o
                  → Matches P k
                  (grin.then_do
                  (grin.need o w (λ u. grin.gives (words (node_word u.node j ∷ [])) w)) goes)
                  (does e (to_first xs (λ x. load_word (written_width g) x (operand_of a) j) c)
                  (world_image width frames w))
              inner None z = missed
              inner (Some u) z =
                  let o = place_is g p fw most rs first same_globals width wide gcalls lcalls top
                  under P k n xs e c goes scope env w frames d apart h a i q r in
                  let s : SoundCell g u.node = all_get (λ x. SoundCell g x.node) w.cells i u
                  h.sound.cells z in
                  let ws = images (tag u.node.tag ∷ u.node.fields) in
                  one_word (leaf (fetch_word a j)) xs
                  (λ x. load_word (written_width g) x (operand_of a) j) (node_word u.node j) w w
                  frames (omega arith) (node_word_ranged u.node j s.sound.ranged) h.sound
                  h.within go skip
                  (λ x rest c' eq. loads_run p fw free lcalls top under (written_width g) width
                  (omega (arith, wide)) (x ∷ []) (operand_of a) j i ws e c'
                  (world_image width frames w) o.is
                  (o.avoids (x ∷ []) (λ y m. first_only x rest y eq (apart y m)))
                  (map_get (λ x. cell_image width x.node) w.cells i u z)
                  (cell_narrow g u.node s)
                  ∙ (λ t. does (bound (x ∷ []) (fit_from 0 j ws t) e) c'
                  (world_image width frames w)) ∙ ap
                  (λ v. does (with_var x v e) c' (world_image width frames w))
                  (sym (node_word_image u.node j)))

      pub prim_runs : (f : G.PrimOp) (a b : W.Word) → WordRanged a → WordRanged b
          → Going P k n xs e c goes → Skipping P k xs (leaf (prim f a b)) goes
          → Matches P k (grin.then_do (act_by g gcalls true env d (leaf (prim f a b)) w) goes)
          (does e (to_first xs
          (λ x. low_tree.prim (operation_of f) x (operand_of a) (operand_of b)) c)
          (world_image width frames w))
      unfolding act_by code
      prim_runs f a b ra rb go skip = by (word_of g env a) refl
        where
          by : (o : Option Datum) → word_of g env a ≡ o
              → Matches P k
              (grin.then_do
              (grin.need o w
              (λ x. grin.need (word_of g env b) w
              (λ y. grin.need (apply_arithmetic f x y) w (λ v. grin.gives v w)))) goes)
              (does e (to_first xs
              (λ x. low_tree.prim (operation_of f) x (operand_of a) (operand_of b)) c)
              (world_image width frames w))
          by None q = missed
          by (Some x) q = second (word_of g env b) refl x q
            where
              second : (o : Option Datum) → word_of g env b ≡ o → (x : Datum)
                  → word_of g env a ≡ Some x → Matches P k
                  (grin.then_do
                  (grin.need o w (λ y. grin.need (apply_arithmetic f x y) w (λ v. grin.gives v w)))
                  goes) (does e
                  (to_first xs (λ x. low_tree.prim (operation_of f) x (operand_of a) (operand_of b))
                  c) (world_image width frames w))
              second None z x q = missed
              second (Some (tag t)) z (number i) q = missed
              second (Some (cell t)) z (number i) q = missed
              second (Some y) z (tag t) q = missed
              second (Some y) z (cell t) q = missed
              second (Some (number j)) z (number i) q =
                  let oa = operand_is g p fw same_globals first scope env e h.agrees a (number i) q
                  ra in
                  let ob = operand_is g p fw same_globals first scope env e h.agrees b (number j) z
                  rb in
                  one_word (leaf (prim f a b)) xs
                  (λ x. low_tree.prim (operation_of f) x (operand_of a) (operand_of b))
                  (number (grin_run.arithmetic f i j)) w w frames (omega arith)
                  (arithmetic_has f i j oa.ranged ob.ranged) h.sound h.within go skip
                  (λ x rest c' eq.
                  (λ t. need (and_then (oa.is t) low.number_of) (world_image width frames w)
                  (λ m. need (and_then (ob.is t) low.number_of) (world_image width frames w)
                  (λ l. does
                  (with_var x (low.number (low_arithmetic.arithmetic (operation_of f) m l)) e)
                  c' (world_image width frames w))))
                  ∙ (λ t. does
                  (with_var x (low.number (arithmetic_same f i j oa.ranged ob.ranged t)) e) c'
                  (world_image width frames w)))
