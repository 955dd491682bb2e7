-- What words, values, cells and states of GRIN are in low code.
use Rattle.std.proofs.Common.{◌≡◌, ◌≤◌, ◌<◌, ℕ, zero, suc, ◌+◌, true, false, List, [], ◌∷◌, map, length, drop, replicate, Option, Some, None, slice_get, refl, ap, arith}
use Rattle.std.proofs.lemmas.List.{length-map}
use Rattle.headline.specs.Carries.{IsBytes}
use Rattle.numbers.specs.Numbers.{pattern}
use Rattle.grin_syntax.specs.declared.program.Tag.{Tag}
use Rattle.grin_syntax.specs.declared.program.TagKind.{TagKind}
use Rattle.grin_syntax.specs.declared.program.TagKind.TheVariants as kind
use Rattle.grin_syntax.specs.Tags.{is_fun_kind}
use Rattle.grin_syntax.specs.Tree.{Program}
use Rattle.grin_syntax.specs.Formed.{AllOf}
use Rattle.grin_meaning.specs.Checks.{is_some_and, is_delayed}
use Rattle.grin_meaning.specs.Ready.{most_fields, most_value_fields, value_fields}
use Rattle.grin_meaning.specs.Values as grin
use Rattle.grin_meaning.specs.Values.{Datum, number, tag, cell, Node, Value, node, words}
use Rattle.low_code.specs.Values as low
use Rattle.low_code.specs.Values.{Word}
use Rattle.low_translate.specs.Lowered.{Has32Bits}
use Rattle.low_translate.specs.Writes.{written_width}
use Rattle.grin_meaning.proofs.Fields.{field_bound}

abbrev pub word_image : Datum → Word
word_image (number k) = low.number (pattern k)
word_image (tag t) = low.number t
word_image (cell a) = low.cell a

abbrev pub images : List Datum → List Word
images ds = map word_image ds

-- the words of a value: of a node its tag, then its fields
abbrev pub words_of_value : Value → List Datum
words_of_value (node n) = tag n.tag ∷ n.fields
words_of_value (words ds) = ds

-- exactly k words, with zeros at the end
abbrev pub fit : ℕ → List Word → List Word
fit zero ws = []
fit (suc k) [] = low.number 0 ∷ fit k []
fit (suc k) (w ∷ ws) = w ∷ fit k ws

abbrev pub cell_image : (width : ℕ) → Node → List Word
cell_image width n = fit width (images (tag n.tag ∷ n.fields))

abbrev pub world_image : (width frames : ℕ) → grin.World → low.World
world_image width frames w = record {
  cells = map (λ c. cell_image width c.node) w.cells;
  input = w.input;
  used = w.used;
  out = w.out;
  left = w.left;
  frames = frames;
  entered = w.entered;
}

-- ---- lists of so many words

pub length_fit : (k : ℕ) (ws : List Word) → length (fit k ws) ≡ k
length_fit zero ws = refl
length_fit (suc k) [] = ap suc (length_fit k [])
length_fit (suc k) (w ∷ ws) = ap suc (length_fit k ws)

-- a word, or zero past the last one
abbrev pub nth_word : List Word → ℕ → Word
nth_word [] i = low.number 0
nth_word (w ∷ ws) zero = w
nth_word (w ∷ ws) (suc i) = nth_word ws i

pub fit_from : (k j : ℕ) (ws : List Word) → fit (suc k) (drop j ws) ≡ nth_word ws j ∷ fit k
    (drop (suc j) ws)
fit_from k zero [] = refl
fit_from k (suc j) [] = refl
fit_from k zero (w ∷ ws) = refl
fit_from k (suc j) (w ∷ ws) = fit_from k j ws

pub get_fit : (k j : ℕ) (ws : List Word) → j < k → slice_get (fit k ws) j ≡ Some (nth_word ws j)
get_fit zero j ws lt = absurd (omega (arith, lt))
get_fit (suc k) zero [] lt = refl
get_fit (suc k) (suc j) [] lt = get_fit k j [] (omega (arith, lt))
get_fit (suc k) zero (w ∷ ws) lt = refl
get_fit (suc k) (suc j) (w ∷ ws) lt = get_fit k j ws (omega (arith, lt))

pub nth_past : (ws : List Word) (j : ℕ) → length ws ≤ j → nth_word ws j ≡ low.number 0
nth_past [] j le = refl
nth_past (w ∷ ws) zero le = absurd (omega (arith, le))
nth_past (w ∷ ws) (suc j) le = nth_past ws j (omega (arith, le))

pub fit_whole : (ws : List Word) (k : ℕ) → length ws ≡ k → fit k ws ≡ ws
fit_whole [] zero e = refl
fit_whole [] (suc k) e = absurd (omega (arith, e))
fit_whole (w ∷ ws) zero e = absurd (omega (arith, e))
fit_whole (w ∷ ws) (suc k) e = ap (λ l. w ∷ l) (fit_whole ws k (omega (arith, e)))

-- words that are fitted already
pub fit_again : (k m : ℕ) (ws : List Word) → length ws ≤ m → fit k (fit m ws) ≡ fit k ws
fit_again zero m ws le = refl
fit_again (suc k) zero [] le = refl
fit_again (suc k) zero (w ∷ ws) le = absurd (omega (arith, le))
fit_again (suc k) (suc m) [] le = ap (λ l. low.number 0 ∷ l) (fit_again k m [] (omega arith))
fit_again (suc k) (suc m) (w ∷ ws) le = ap (λ l. w ∷ l) (fit_again k m ws (omega (arith, le)))

-- the first k words, and zeros behind them
abbrev pub zeros : ℕ → List Word
zeros k = replicate k (low.number 0)

pub fit_none : (k : ℕ) → fit k [] ≡ zeros k
fit_none zero = refl
fit_none (suc k) = ap (λ l. low.number 0 ∷ l) (fit_none k)

-- ---- what is sound

abbrev pub InRange : Datum → Type 0
InRange (number k) = Has32Bits k
InRange _ = Unit {0}

-- a node has no more fields than its tag
pub record SoundNode (g : Program) (n : Node) : Type 0 where
  pub count : ℕ
  pub has : grin.fields_of g n.tag ≡ Some count
  pub few : length n.fields ≤ count
  pub ranged : AllOf InRange n.fields

abbrev pub SoundValue : Program → Value → Type 0
SoundValue g (node n) = SoundNode g n
SoundValue g (words ds) = AllOf InRange ds

-- the node of a cell has no more words than the program writes
pub record SoundCell (g : Program) (n : Node) : Type 0 where
  pub sound : SoundNode g n
  pub narrow : 1 + length n.fields ≤ written_width g

pub record SoundWorld (g : Program) (w : grin.World) : Type 0 where
  pub cells : AllOf (λ c. SoundCell g c.node) w.cells
  pub bytes : IsBytes w.input

pub sound_words : (g : Program) (v : Value) → SoundValue g v → AllOf InRange (words_of_value v)
sound_words g (node n) h = (tt, h.ranged)
sound_words g (words ds) h = h

-- ---- how many fields

pub none_some : {A : Type 0} {a : A} → None ≡ Some a → ⊥
none_some h = cc

pub some_same : {A : Type 0} {a b : A} → Some a ≡ Some b → a ≡ b
some_same h = cc

pub fields_most : (g : Program) (t k : ℕ) → grin.fields_of g t ≡ Some k → k ≤ most_fields g.tags
fields_most g t k e = go (slice_get g.tags t) refl e
  where
    go : (o : Option Tag) → slice_get g.tags t ≡ o → grin.and_then o (λ i. Some i.fields) ≡ Some k
        → k ≤ most_fields g.tags
    go None q e = absurd (none_some e)
    go (Some i) q e = let h = field_bound g.tags t i q in let m : i.fields ≡ k = some_same e
        in omega (arith, h, m)

-- a sound node fits in a cell
pub node_fits : (g : Program) (n : Node) → SoundNode g n
    → length (images (tag n.tag ∷ n.fields)) ≤ 1 + most_fields g.tags
node_fits g n s = let a = fields_most g n.tag s.count s.has in let b
    = length-map n.fields word_image in omega (arith, a, b, s.few)

-- the words of a cell's node
pub cell_narrow : (g : Program) (n : Node) → SoundCell g n
    → length (images (tag n.tag ∷ n.fields)) ≤ written_width g
cell_narrow g n s = let b = length-map n.fields word_image in omega (arith, b, s.narrow)

most_value_at : (ts : List Tag) (t : ℕ) (i : Tag) → slice_get ts t ≡ Some i
    → is_fun_kind i.kind ≡ false → i.fields ≤ most_value_fields ts
most_value_at [] t i e f = absurd (none_some e)
most_value_at (x ∷ ts) zero i e f = let h = kind_fields i.kind i.fields f in let q
    : value_fields x.kind x.fields ≡ value_fields i.kind i.fields
    = ap (λ u. value_fields u.kind u.fields) (some_same e) in omega (arith, h, q)
  where
    kind_fields : (k : TagKind) (n : ℕ) → is_fun_kind k ≡ false → n ≤ value_fields k n
    kind_fields kind.Con n f = omega arith
    kind_fields kind.Part n f = omega arith
    kind_fields kind.Fun n f = absurd (let z : true ≡ false = f in cc)
most_value_at (x ∷ ts) (suc t) i e f = let h = most_value_at ts t i e f in omega (arith, h)

-- a sound node that is no delayed call has few words
pub given_fits : (g : Program) (n : Node) → SoundNode g n → is_delayed g n.tag ≡ false
    → length (words_of_value (node n)) ≤ 1 + most_value_fields g.tags
given_fits g n s d = go (slice_get g.tags n.tag) refl s.has d
  where
    go : (o : Option Tag) → slice_get g.tags n.tag ≡ o
        → grin.and_then o (λ i. Some i.fields) ≡ Some s.count
        → is_some_and o (λ i. is_fun_kind i.kind) ≡ false
        → length (words_of_value (node n)) ≤ 1 + most_value_fields g.tags
    go None q e d = absurd (none_some e)
    go (Some i) q e d = let h = most_value_at g.tags n.tag i q d in let m : i.fields ≡ s.count
        = some_same e in omega (arith, h, m, s.few)
