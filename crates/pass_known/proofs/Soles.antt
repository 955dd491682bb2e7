-- The tag that is all that a set has: that the code finds it, and that a variable holds it in
-- states that lie in the solution.
use Rattle.std.proofs.Common.{◌≡◌, ℕ, ◌<◌, Bool, true, false, cond, List, [], ◌∷◌, map, length, get_or, Option, Some, None, refl, sym, ap, ◌∙◌, subst, arith}
use Rattle.std.specs.Prelude.{◌↔◌, nat_lt}
use Rattle.std.specs.List.Sorted.{IsStrictlyIncreasing}
use Rattle.seq.specs.Lists.{In, here, there}
use Rattle.seq.proofs.Lists.{none_is_some, some_is}
use Rattle.seq.proofs.Member.{none_in, one_in}
use Rattle.seq.proofs.Order.{eq_self, lt_from}
use Rattle.seq.proofs.Truth.{and_left, and_right, and_from, or_left}
use Rattle.grin_syntax.specs.declared.program.Site.{Site}
use Rattle.grin_syntax.specs.declared.program.TagId.{TagId}
use Rattle.grin_syntax.specs.Tags.{tag_id}
use Rattle.grin_syntax.specs.Tree.{Program}
use Rattle.grin_meaning.specs.Values.{Datum, number, tag as tag', cell, State, and_then, only_word}
use Rattle.flow_system.specs.declared.fact.Element.{Element as AbstractWord}
use Rattle.flow_system.specs.declared.fact.Element.TheVariants.{Cell as cell_of, Tag as tag, Number as num}
use Rattle.flow_system.specs.declared.fact.Place.TheVariants.{Var as var}
use Rattle.flow_system.specs.declared.fact.Part.TheVariants.{Word as word}
use Rattle.flow_system.specs.Solution.{Solution, same_word, At}
use Rattle.flow_system.specs.Covers.{StateIsCovered, DatumIn}
use Rattle.points_to.proofs.Solved.{among_in, in_among}
use Rattle.update_special.proofs.Special.{word_at}
use Rattle.case_simplify.specs.declared.known.Known.{Known}
use Rattle.case_simplify.specs.declared.known.Known.TheVariants.{Tag}
use Rattle.case_simplify.proofs.Held.{some_and, datum_of}
use Rattle.pass_known.specs.Told.{all_are_tag, sole, only_tag}

-- ---- the sole tag of a set

pub record IsSole (us : List AbstractWord) (t : ℕ) : Type 0 where
  pub there : In (tag t) us
  pub alone : (u : AbstractWord) → In u us → u ≡ tag t

all_in : (t : ℕ) (us : List AbstractWord) → all_are_tag t us ≡ true → (u : AbstractWord) → In u us
    → u ≡ tag t
all_in t [] h u m = none_in m
all_in t (x ∷ us) h u here = sym
    (one_in x
    (among_in (tag t) (x ∷ [])
    (or_left (same_word (tag t) x) false (and_left (same_word (tag t) x) (all_are_tag t us) h))))
all_in t (x ∷ us) h u (there m) = all_in t us (and_right (same_word (tag t) x) (all_are_tag t us) h)
    u m

all_are : (t : ℕ) (us : List AbstractWord) → ((u : AbstractWord) → In u us → u ≡ tag t)
    → all_are_tag t us ≡ true
all_are t [] h = refl
all_are t (x ∷ us) h = and_from (same_word (tag t) x) (all_are_tag t us)
    (ap (same_word (tag t)) (h x here) ∙ eq_self t) (all_are t us (λ u m. h u (there m)))

is_sole : (us : List AbstractWord) (t : ℕ) → sole us ≡ Some t → IsSole us t
is_sole [] t e = none_is_some e
is_sole (cell_of s ∷ us) t e = none_is_some e
is_sole (num ∷ us) t e = none_is_some e
is_sole (tag k ∷ us) t e = go (all_are_tag k us) refl e
  where
    go : (b : Bool) → all_are_tag k us ≡ b → cond b (Some k) None ≡ Some t → IsSole (tag k ∷ us) t
    go true q e = subst (IsSole (tag k ∷ us)) (some_is e)
        (record {
          there = here;
          alone = λ u m. all_in k (tag k ∷ us)
              (and_from (same_word (tag k) (tag k)) (all_are_tag k us) (eq_self k) q) u m;
        })
    go false q e = none_is_some e

sole_is : (us : List AbstractWord) (t : ℕ) → IsSole us t → sole us ≡ Some t
sole_is [] t h = none_in h.there
sole_is (x ∷ us) t h = ap (λ u. sole (u ∷ us)) (h.alone x here) ∙ ap (λ b. cond b (Some t) None)
    (all_are t us (λ u m. h.alone u (there m)))

none_sole : (us : List AbstractWord) → ((t : ℕ) → IsSole us t → ⊥) → None ≡ sole us
none_sole us h = go (sole us) refl
  where
    go : (o : Option ℕ) → sole us ≡ o → None ≡ sole us
    go None e = sym e
    go (Some t) e = absurd (h t (is_sole us t e))

-- ---- what the code finds

module _ (A : Solution) (x : ℕ) where
  abbrev set : List AbstractWord
  set = A (var x) (word 0)

  other_there : (u : AbstractWord) → ((t : ℕ) → u ≡ tag t → ⊥) → At A (var x) (word 0) u
      → None ≡ sole set
  other_there u differs h = none_sole set
      (λ t only. differs t (only.alone u (among_in u set h.there)))

  pub number_there : At A (var x) (word 0) num → None ≡ sole set
  number_there h = other_there num (λ t e. cc) h

  abbrev CellsExact : List Site → Type 0
  CellsExact cells = (s : ℕ) → In s (map (λ (s : Site). s.0) cells) ↔ At A (var x) (word 0)
      (cell_of s)

  pub some_cell : (cells : List Site) → (length cells ≡ 0 → ⊥) → CellsExact cells → None ≡ sole set
  some_cell [] n exact = absurd (n refl)
  some_cell (s ∷ cells) n exact = other_there (cell_of s.0) (λ t e. cc) ((exact s.0).0 here)

  abbrev numbers : List TagId → List ℕ
  numbers ts = map (λ (t : TagId). t.0) ts

  abbrev TagsExact : List TagId → Type 0
  TagsExact ts = (t : ℕ) → In t (numbers ts) ↔ At A (var x) (word 0) (tag t)

  pub not_one : (ts : List TagId) → (length ts ≡ 1 → ⊥) → IsStrictlyIncreasing (numbers ts)
      → TagsExact ts → None ≡ sole set
  not_one [] n up exact = none_sole set
      (λ t only. none_in ((exact t).1 (record { there = in_among (tag t) set only.there })))
  not_one (t ∷ []) n up exact = absurd (n refl)
  not_one (t ∷ u ∷ ts) n up exact = none_sole set (λ k only.
      let p : tag t.0 ≡ tag k = only.alone (tag t.0)
      (among_in (tag t.0) set ((exact t.0).0 here).there) in
      let q : tag u.0 ≡ tag k = only.alone (tag u.0)
      (among_in (tag u.0) set ((exact u.0).0 (there here)).there) in
      let lt : t.0 < u.0 = up 0 (omega arith) in
      let same : t.0 ≡ u.0 = cc in
      omega (arith, lt, same))

  pub just_one : (cells : List Site) (ts : List TagId) (d : TagId) → (At A (var x) (word 0) num → ⊥)
      → length cells ≡ 0 → CellsExact cells → length ts ≡ 1 → TagsExact ts
      → Some (get_or ts 0 d).0 ≡ sole set
  just_one (s ∷ cells) ts d no_number c cells_exact n exact = cc
  just_one [] [] d no_number c cells_exact n exact = cc
  just_one [] (t ∷ u ∷ ts) d no_number c cells_exact n exact = cc
  just_one [] (t ∷ []) d no_number c cells_exact n exact
      = sym (sole_is set t.0
      (record { there = among_in (tag t.0) set ((exact t.0).0 here).there; alone = alone }))
    where
      alone : (u : AbstractWord) → In u set → u ≡ tag t.0
      alone num m = absurd (no_number (record { there = in_among num set m }))
      alone (cell_of s) m = none_in
          ((cells_exact s).1 (record { there = in_among (cell_of s) set m }))
      alone (tag k) m = ap tag
          (one_in t.0 ((exact k).1 (record { there = in_among (tag k) set m })))

-- ---- what is told

-- what is told of a variable is a tag of the program, which is all that its set has
pub record IsOnlyTag (count : ℕ) (A : Solution) (x : ℕ) (k : Known) : Type 0 where
  pub t : ℕ
  pub below : t < count
  pub is : Tag (tag_id t) ≡ k
  pub sole : IsSole (A (var x) (word 0)) t

pub is_only_tag : (count : ℕ) (A : Solution) (x : ℕ) (k : Known) → only_tag count A x ≡ Some k
    → IsOnlyTag count A x k
is_only_tag count A x k e =
    let z = some_and (sole (A (var x) (word 0)))
    (λ t. cond (nat_lt t count) (Some (Tag (tag_id t))) None) k e in
    go z.0 z.1 (nat_lt z.0 count) refl z.2
  where
    go : (t : ℕ) → sole (A (var x) (word 0)) ≡ Some t → (b : Bool) → nat_lt t count ≡ b
        → cond b (Some (Tag (tag_id t))) None ≡ Some k → IsOnlyTag count A x k
    go t q true r e = record {
      t = t;
      below = lt_from t count r;
      is = some_is e;
      sole
          = is_sole (A (var x) (word 0)) t q;
    }
    go t q false r e = none_is_some e

pub only_datum : (g : Program) (A : Solution) (s : State) → StateIsCovered g A s
    → (count x : ℕ) (k : Known) (d : Datum) → only_tag count A x ≡ Some k
    → and_then (s.env x) only_word ≡ Some d → d ≡ datum_of g k
only_datum g A s lies count x k d q e = datum d (word_at g A s lies x d e) ∙ ap (datum_of g) o.is
  where
    o : IsOnlyTag count A x k
    o = is_only_tag count A x k q

    alone : (u : AbstractWord) → At A (var x) (word 0) u → u ≡ tag o.t
    alone u h = o.sole.alone u (among_in u (A (var x) (word 0)) h.there)

    datum : (d : Datum) → DatumIn s.heap (At A (var x) (word 0)) d → d ≡ tag' o.t
    datum (number i) h = let e : num ≡ tag o.t = alone num h in cc
    datum (tag' i) h = let e : tag i ≡ tag o.t = alone (tag i) h in let same : i ≡ o.t = cc
        in ap tag' same
    datum (cell i) h = let e : cell_of h.0 ≡ tag o.t = alone (cell_of h.0) h.2 in cc
