-- Rows of words, and the items that they hold.
use Rattle.std.proofs.Common.{◌≡◌, ◌+◌, ◌*◌, ◌/◌, ◌%◌, ◌<◌, ◌≤◌, ℕ, zero, suc, Bool, true, false, cond, nat_lt, List, [], ◌∷◌, ◌++◌, map, refl, sym, ap, ◌∙◌, subst, inl, inr, ⊎_elim, arith}
use Rattle.std.specs.Prelude.{IsTrue}
use Rattle.std.specs.List.{flat_map}
use Rattle.std.proofs.lemmas.Bool.{cases_lt}
use Rattle.std.proofs.lemmas.Bool.Decides.{nat_tests}
use Rattle.flow_system.specs.declared.fact.Element.{Element}
use Rattle.flow_system.specs.declared.fact.Element.TheVariants.{Cell, Tag, Number}
use Rattle.flow_system.specs.declared.fact.Part.{Part}
use Rattle.points_to.specs.declared.items.Row.{Row}
use Rattle.points_to.specs.declared.runs.ItemRun.{ItemRun}
use Rattle.points_to.specs.Runs.{items_of_item_run}
use Rattle.points_to.specs.Held.{In, item, same_part, words_in_part, in_part}
use Rattle.points_to.specs.Bits.{block_numbers, block_words, number_or_tag, number_of, word_of}
use Rattle.points_to.specs.Rows.{numbers_in, row_words, row_items, GainsMembers}
use Rattle.seq.proofs.Member.{in_map, map_in}
use Rattle.seq.proofs.Lists.{map_append}

-- the lower half of 128 numbers is of the number alone and the tags, the upper half of cells
low_word : (n : ℕ) → n % 128 < 64 → word_of n ≡ number_or_tag (n / 128 * 64 + n % 64)
low_word n lt = ap
    (λ b. cond b (number_or_tag (n / 128 * 64 + n % 64)) (Cell (n / 128 * 64 + n % 64)))
    (below (n % 128) 64 lt)
  where
    below : (x y : ℕ) → x < y → nat_lt x y ≡ true
    below x y h = grind (arith, nat_tests)

high_word : (n : ℕ) → 64 ≤ n % 128 → word_of n ≡ Cell (n / 128 * 64 + n % 64)
high_word n le = ap
    (λ b. cond b (number_or_tag (n / 128 * 64 + n % 64)) (Cell (n / 128 * 64 + n % 64)))
    (above (n % 128) 64 le)
  where
    above : (x y : ℕ) → y ≤ x → nat_lt x y ≡ false
    above x y h = grind (arith, nat_tests)

tag_number : (t : ℕ) → word_of ((t + 1) / 64 * 128 + (t + 1) % 64) ≡ Tag t
tag_number t = low_word ((t + 1) / 64 * 128 + (t + 1) % 64) (omega arith) ∙ ap number_or_tag back
  where
    back : ((t + 1) / 64 * 128 + (t + 1) % 64) / 128 * 64 + ((t + 1) / 64 * 128 + (t + 1) % 64) % 64
        ≡ suc t
    back = omega arith

cell_number : (s : ℕ) → word_of (s / 64 * 128 + 64 + s % 64) ≡ Cell s
cell_number s = high_word (s / 64 * 128 + 64 + s % 64) (omega arith) ∙ ap Cell back
  where
    back : (s / 64 * 128 + 64 + s % 64) / 128 * 64 + (s / 64 * 128 + 64 + s % 64) % 64 ≡ s
    back = omega arith

low_number : (k : ℕ) → number_of (number_or_tag k) ≡ k / 64 * 128 + k % 64
low_number zero = refl
low_number (suc t) = ap (λ m. m / 64 * 128 + m % 64) next
  where
    next : t + 1 ≡ suc t
    next = omega arith

pub number_word : (n : ℕ) → number_of (word_of n) ≡ n
number_word n = ⊎_elim
    (λ lt. let l : n % 128 < 64 = lt in ap number_of (low_word n l) ∙ low_number
    (n / 128 * 64 + n % 64) ∙ omega (arith, l))
    (λ le. let l : 64 ≤ n % 128 = le in ap number_of (high_word n l) ∙ omega (arith, l))
    (cases_lt (n % 128) 64)

-- the words of blocks are those of their numbers
pub words_are : (es : List (ℕ × ℕ)) → flat_map block_words es ≡ map word_of
    (flat_map block_numbers es)
words_are [] = refl
words_are (e ∷ es) = ap (λ l. block_words e ++ l) (words_are es) ∙ sym
    (map_append word_of (block_numbers e) (flat_map block_numbers es))

-- words and their numbers
pub word_number : (u : Element) → word_of (number_of u) ≡ u
word_number (Cell s) = cell_number s
word_number (Tag t) = tag_number t
word_number Number = refl

-- a function of the members
map_gets : {X Y : Type 0} (f : X → Y) (old new xs : List X) → GainsMembers old new xs
    → GainsMembers (map f old) (map f new) (map f xs)
map_gets f old new xs g = record {
  kept = λ y h. let w = map_in f old h in subst (λ z. In z (map f new)) (sym w.2)
      (in_map f new (g.kept w.0 w.1));
  put = λ y h. let w = map_in f xs h in subst (λ z. In z (map f new)) (sym w.2)
      (in_map f new (g.put w.0 w.1));
  only = λ y h. let w = map_in f new h in ⊎_elim
      (λ a. inl (subst (λ z. In z (map f old)) (sym w.2) (in_map f old a)))
      (λ a. inr (subst (λ z. In z (map f xs)) (sym w.2) (in_map f xs a))) (g.only w.0 w.1);
}

-- the words of blocks that get numbers
pub gets_words : (es es' : List (ℕ × ℕ)) (ns : List ℕ)
    → GainsMembers (flat_map block_numbers es) (flat_map block_numbers es') ns
    → GainsMembers (flat_map block_words es) (flat_map block_words es') (map word_of ns)
gets_words es es' ns g =
    subst (λ l. GainsMembers l (flat_map block_words es') (map word_of ns)) (sym (words_are es))
    (subst (λ l. GainsMembers (map word_of (flat_map block_numbers es)) l (map word_of ns))
    (sym (words_are es'))
    (map_gets word_of (flat_map block_numbers es) (flat_map block_numbers es') ns g))

-- blocks whose words are all there bring no numbers
pub within_gets : (es bs : List (ℕ × ℕ)) →
    ((u : Element) → In u (flat_map block_words bs) → In u (flat_map block_words es))
    → GainsMembers (flat_map block_numbers es) (flat_map block_numbers es)
    (flat_map block_numbers bs)
within_gets es bs there' = record {
  kept = λ n h. h;
  put = λ n h.
      let u = there' (word_of n)
      (subst (In (word_of n)) (sym (words_are bs))
      (in_map word_of (flat_map block_numbers bs) h)) in
      let w = map_in word_of (flat_map block_numbers es) (subst (In (word_of n)) (words_are es) u)
      in
      let same : w.0 ≡ n = sym (number_word w.0) ∙ ap number_of (sym w.2) ∙ number_word n in
      subst (λ m. In m (flat_map block_numbers es)) same w.1;
  only = λ n h. inl h;
}

-- a word of a row
pub has_word : (r : Row) (u : Element) (n : ℕ) (b : Bool) → n ≡ number_of u
    → (IsTrue b → In n (numbers_in r.words)) × (In n (numbers_in r.words) → IsTrue b)
    → (IsTrue b → In u (row_words r)) × (In u (row_words r) → IsTrue b)
has_word r u n b q t =
    let words : row_words r ≡ map word_of (numbers_in r.words) = words_are r.words.blocks.items in
    let its : word_of n ≡ u = ap word_of q ∙ word_number u in (
      λ h. subst (In u) (sym words)
          (subst (λ v. In v (map word_of (numbers_in r.words))) its
          (in_map word_of (numbers_in r.words) (t.0 h))),
      λ h.
          let v = map_in word_of (numbers_in r.words) (subst (In u) words h) in
          let same : v.0 ≡ n = sym (number_word v.0) ∙ ap number_of (sym v.2) ∙ sym q in
          t.1 (subst (λ m. In m (numbers_in r.words)) same v.1),
    )

-- a row that gets words
pub row_gets : (r r' : Row) (run : ItemRun) → r.part ≡ run.part → r'.part ≡ r.part
    → GainsMembers (numbers_in r.words) (numbers_in r'.words) (block_numbers run.block)
    → GainsMembers (row_items r) (row_items r') (items_of_item_run run)
row_gets r r' run e e' g =
    subst (λ q. GainsMembers (row_items r) (row_items r') (in_part q (block_words run.block))) e
    (subst (λ q. GainsMembers (row_items r) (in_part q (row_words r'))
    (in_part r.part (block_words run.block))) (sym e')
    (map_gets (item r.part) (row_words r) (row_words r') (block_words run.block)
    (gets_words r.words.blocks.items r'.words.blocks.items (block_numbers run.block) g)))

pub row_gains : (r r' : Row) (bs : List (ℕ × ℕ)) → r'.part ≡ r.part
    → GainsMembers (numbers_in r.words) (numbers_in r'.words) (flat_map block_numbers bs)
    → GainsMembers (row_items r) (row_items r') (in_part r.part (flat_map block_words bs))
row_gains r r' bs e g =
    subst (λ q. GainsMembers (row_items r) (in_part q (row_words r'))
    (in_part r.part (flat_map block_words bs))) (sym e)
    (map_gets (item r.part) (row_words r) (row_words r') (flat_map block_words bs)
    (subst (GainsMembers (row_words r) (row_words r')) (sym (words_are bs))
    (gets_words r.words.blocks.items r'.words.blocks.items (flat_map block_numbers bs) g)))

-- a new row
pub row_none : (r : Row) → numbers_in r.words ≡ [] → row_items r ≡ []
row_none r e = ap (in_part r.part) (words_are r.words.blocks.items ∙ ap (map word_of) e)

-- one part of a row
pub picked_row : (q : Part) (r : Part) (ks : List Element) → same_part q r ≡ true
    → words_in_part q (in_part r ks) ≡ ks
picked_row q r [] e = refl
picked_row q r (k ∷ ks) e = ap (λ b. cond b (k ∷ []) [] ++ words_in_part q (in_part r ks)) e ∙ ap
    (λ l. k ∷ l) (picked_row q r ks e)

pub none_picked : (q : Part) (r : Part) (ks : List Element) → same_part q r ≡ false
    → words_in_part q (in_part r ks) ≡ []
none_picked q r [] e = refl
none_picked q r (k ∷ ks) e = ap (λ b. cond b (k ∷ []) [] ++ words_in_part q (in_part r ks)) e ∙
    none_picked q r ks e
