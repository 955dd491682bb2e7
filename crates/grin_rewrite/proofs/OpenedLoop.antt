-- What the loop over the tags that a node may have has made so far.
use Rattle.std.proofs.Common.{◌≡◌, ℕ, suc, ◌+◌, ◌<◌, ◌≤◌, Bool, true, false, cond, List, [], ◌∷◌, ◌++◌, map, take, length, get_or, Some, slice_get, refl, sym, ap, ◌∙◌, arith}
use Rattle.std.specs.List.{filter}
use Rattle.std.proofs.Math.Seq.{take-suc}
use Rattle.std.proofs.lemmas.List.{append-nil, take_all}
use Rattle.std.proofs.lemmas.List.Elements.{filter-append}
use Rattle.seq.proofs.Lists.{map_push}
use Rattle.grin_syntax.specs.declared.program.Alt.{Alt}
use Rattle.grin_syntax.specs.declared.program.Tag.{Tag}
use Rattle.grin_syntax.specs.declared.program.TagId.{TagId}
use Rattle.grin_syntax.specs.Tree.{Arms, arm, arm_of, arms_of, code_of}
use Rattle.grin_syntax.proofs.Pieces.{all_arms, all_arms_push}
use Rattle.grin_rewrite.specs.Opening.{Opening, fields_at, opening_arm, opening_arms, opening_room}

-- ---- tags that pass a test, one more looked at

kept_push : (g : ℕ → Bool) (ts : List TagId) (t : TagId) (b : Bool) → g t.0 ≡ b
    → filter g (map (λ t. t.0) (ts ++ t ∷ [])) ≡ filter g (map (λ t. t.0) ts)
    ++ cond b (t.0 ∷ []) []
kept_push g ts t b e =
    ap (filter g) (map_push (λ t. t.0) ts t) ∙ filter-append g (map (λ t. t.0) ts) (t.0 ∷ []) ∙ ap
    (λ c. filter g (map (λ t. t.0) ts) ++ cond c (t.0 ∷ []) []) e

take_at : {X : Type 0} (xs : List X) (i : ℕ) (d : X) → i < length xs → take (i + 1) xs ≡ take i xs
    ++ get_or xs i d ∷ []
take_at xs i d lt = let e : suc i ≡ i + 1 = omega arith
    in ap (λ n. take n xs) (sym e) ∙ take-suc xs i d lt

pub kept_yes : (g : ℕ → Bool) (ts : List TagId) (i : ℕ) (d : TagId) → i < length ts
    → g (get_or ts i d).0 ≡ true → filter g (map (λ t. t.0) (take (i + 1) ts)) ≡ filter g
    (map (λ t. t.0) (take i ts)) ++ (get_or ts i d).0 ∷ []
kept_yes g ts i d lt e = ap (λ l. filter g (map (λ t. t.0) l)) (take_at ts i d lt) ∙ kept_push g
    (take i ts) (get_or ts i d) true e

pub kept_no : (g : ℕ → Bool) (ts : List TagId) (i : ℕ) (d : TagId) → i < length ts
    → g (get_or ts i d).0 ≡ false → filter g (map (λ t. t.0) (take (i + 1) ts)) ≡ filter g
    (map (λ t. t.0) (take i ts))
kept_no g ts i d lt e = ap (λ l. filter g (map (λ t. t.0) l)) (take_at ts i d lt) ∙ kept_push g
    (take i ts) (get_or ts i d) false e ∙ append-nil (filter g (map (λ t. t.0) (take i ts)))

pub kept_all : (g : ℕ → Bool) (ts : List TagId) (i : ℕ) → length ts ≤ i
    → filter g (map (λ t. t.0) (take i ts)) ≡ filter g (map (λ t. t.0) ts)
kept_all g ts i le = ap (λ l. filter g (map (λ t. t.0) l)) (take_all i ts le)

-- ---- alternatives

behind : (as' more : List Alt) → arms_of (map arm_of (as' ++ more)) ≡ all_arms (map arm_of as')
    (arms_of (map arm_of more))
behind [] more = refl
behind (a ∷ as') more = ap (arm (arm_of a).0 (arm_of a).1) (behind as' more)

module _ (tags : List Tag) (O : Opening) where
  abbrev with_last : Arms → Opening
  with_last l = record { more = O.more; body = O.body; last = l }

  -- the alternatives for the tags that were met
  pub record OpenedSoFar (x : ℕ) (alts : List Alt) (ts : List ℕ) (y : ℕ) : Type 0 where
    pub by : (last : Arms) → all_arms (map arm_of alts) last ≡ opening_arms tags (with_last last) x
        ts
    pub room : y ≡ x + opening_room tags O.more ts

  pub none_yet : (x : ℕ) → OpenedSoFar x [] [] x
  none_yet x = record { by = λ last. refl; room = omega arith }

  arms_push : (x : ℕ) (ts : List ℕ) (t : ℕ) (last : Arms)
      → opening_arms tags (with_last last) x (ts ++ t ∷ []) ≡ opening_arms tags
      (with_last (opening_arm tags O (x + opening_room tags O.more ts) t (slice_get tags t) last)) x
      ts
  arms_push x [] t last = let e : x ≡ x + 0 = omega arith
      in ap (λ y. opening_arm tags O y t (slice_get tags t) last) e
  arms_push x (s ∷ ts) t last =
      let y = O.more + (x + fields_at (slice_get tags s)) in
      let e : y + opening_room tags O.more ts ≡ x + opening_room tags O.more (s ∷ ts) = omega arith
      in
      ap (opening_arm tags O x s (slice_get tags s))
      (arms_push y ts t last ∙ ap
      (λ z. opening_arms tags (with_last (opening_arm tags O z t (slice_get tags t) last)) y ts)
      e)

  room_push : (ts : List ℕ) (t : ℕ) → opening_room tags O.more (ts ++ t ∷ []) ≡ opening_room tags
      O.more ts + (O.more + fields_at (slice_get tags t))
  room_push [] t = omega arith
  room_push (s ∷ ts) t = let h = room_push ts t in omega arith

  pub one_more : (x : ℕ) (alts : List Alt) (ts : List ℕ) (y : ℕ) (alt : Alt) (t : ℕ) (i : Tag)
      (z : ℕ) → OpenedSoFar x alts ts y → slice_get tags t ≡ Some i
      → ((rest : Arms) → arm alt.pattern (code_of alt.body) rest ≡ opening_arm tags O y t (Some i)
      rest) → z ≡ O.more + (y + i.fields) → OpenedSoFar x (alts ++ alt ∷ []) (ts ++ t ∷ []) z
  one_more x alts ts y alt t i z u e h f = record {
    by = λ last.
        all_arms_push alts alt last ∙ ap (all_arms (map arm_of alts)) (h last) ∙ u.by
        (opening_arm tags O y t (Some i) last)
        ∙ (λ j. opening_arms tags (with_last (opening_arm tags O (u.room j) t (sym e j) last)) x ts)
        ∙ sym (arms_push x ts t last);
    room = let r : opening_room tags O.more (ts ++ t ∷ []) ≡ opening_room tags O.more ts +
        (O.more + i.fields) = room_push ts t ∙ ap
        (λ o. opening_room tags O.more ts + (O.more + fields_at o)) e in let s = u.room
        in omega arith;
  }

  pub opened : (x : ℕ) (alts more made : List Alt) (ts us : List ℕ) (y : ℕ)
      → OpenedSoFar x alts ts y → ts ≡ us → made ≡ alts ++ more → arms_of (map arm_of more) ≡ O.last
      → arms_of (map arm_of made) ≡ opening_arms tags O x us
  opened x alts more made ts us y u e m l = ap (λ as'. arms_of (map arm_of as')) m ∙ behind alts
      more ∙ ap (all_arms (map arm_of alts)) l ∙ u.by O.last ∙ ap (opening_arms tags O x) e
