-- What texts have the names of the program that equations become, and those of the one where each
-- equation is a
-- function of its own: a text of the source, `_`, or one that begins with `match'`.
use Rattle.std.proofs.Common.{◌≡◌, ℕ, zero, suc, ◌+◌, ◌≤◌, Bool, true, false, cond, List, [], ◌∷◌, ◌++◌, map, length, refl, sym, ap, subst, ◌∙◌, arith, Option, Some, None, ◌⊎◌, inl, inr, ⊎_elim}
use Rattle.std.specs.Prelude.{slice_get, codes, decimal, nat_lt, not, if◌then◌else◌}
use Rattle.std.specs.List.{position, position_or_len, range_with_len}
use Rattle.std.specs.Str.{bytes_eq}
use Rattle.std.proofs.lemmas.Slice.Eq.{bytes_eq-Decides}
use Rattle.seq.specs.Lists.{AllOf, In, here, there}
use Rattle.seq.proofs.Lists.{some_is, get_left, get_within, all_get}
use Rattle.seq.proofs.Member.{none_in, one_in, in_split, map_in}
use Rattle.seq.proofs.Order.{lt_false}
use Rattle.seq.proofs.Truth.{two_ways, both_ways}
use Rattle.core_reader.specs.Tree.{Program}
use Rattle.arity_check.specs.declared.normal.PrimOp.{PrimOp}
use Rattle.arity_check.specs.declared.meaning.Meaning.TheVariants.{Primitive, Unbound}
use Rattle.arity_check.specs.Scope.{is_named, primitives, primitive_from}
use Rattle.match_compile.specs.Source.{Source}
use Rattle.match_compile.specs.Sound.{name_of_equation, equations_as_functions}
use Rattle.match_compile.specs.Decisions.{decisions}
use Rattle.match_compile.specs.Translated.{is_nameless, param_name, field_name, most_params, most_fields_of, with_nameless, numbered_texts, translated}

-- ---- lists

pub is_in : {X : Type 0} {x : X} (xs : List X) (i : ℕ) → slice_get xs i ≡ Some x → In x xs
is_in [] i e = absurd cc
is_in {x = x} (y ∷ xs) zero e = subst (λ z. In z (y ∷ xs)) (some_is e) here
is_in (y ∷ xs) (suc i) e = there (is_in xs i e)

pub in_at : {X : Type 0} {x : X} (xs : List X) → In x xs → (i : ℕ) × (slice_get xs i ≡ Some x)
in_at [] h = none_in h
in_at (y ∷ xs) here = (0, refl)
in_at (y ∷ xs) (there h) = let r = in_at xs h in (suc r.0, r.1)

-- an item of two lists is one of the first, or stands behind them
pub get_split : {X : Type 0} {y : X} (xs ys : List X) (i : ℕ) → slice_get (xs ++ ys) i ≡ Some y
    → (slice_get xs i ≡ Some y) ⊎ ((length xs ≤ i) × In y ys)
get_split [] ys i e = inr (omega arith, is_in ys i e)
get_split (x ∷ xs) ys zero e = inl e
get_split (x ∷ xs) ys (suc i) e = ⊎_elim (λ l. inl l)
    (λ r. let le = r.0 in inr (omega (arith, le), r.1)) (get_split xs ys i e)

-- ---- texts that are made

abbrev pub IsNew : List ℕ → Type 0
IsNew w = (m : List ℕ) × (w ≡ codes "match'" ++ m)

abbrev pub IsMade : List ℕ → Type 0
IsMade w = (w ≡ codes "_") ⊎ IsNew w

-- no such text is this one
abbrev pub IsApart : List ℕ → Type 0
IsApart w = (b : List ℕ) → IsMade b → bytes_eq b w ≡ false

made_apart : (w : List ℕ) → bytes_eq (codes "_") w ≡ false
    → ((m : List ℕ) → bytes_eq (codes "match'" ++ m) w ≡ false) → IsApart w
made_apart w e f b (inl h) = ap (λ v. bytes_eq v w) h ∙ e
made_apart w e f b (inr h) = ap (λ v. bytes_eq v w) h.1 ∙ f h.0

pub main_apart : IsApart (codes "main")
main_apart = made_apart (codes "main") refl (λ m. refl)

pub int_apart : IsApart (codes "Int")
int_apart = made_apart (codes "Int") refl (λ m. refl)

pub nil_apart : IsApart (codes "Nil")
nil_apart = made_apart (codes "Nil") refl (λ m. refl)

pub cons_apart : IsApart (codes "Cons")
cons_apart = made_apart (codes "Cons") refl (λ m. refl)

-- that of each primitive
pub all_apart : AllOf (λ (q : List ℕ × PrimOp). IsApart q.0) primitives
all_apart = (
  made_apart (codes "add") refl (λ m. refl),
  (
    made_apart (codes "sub") refl (λ m. refl),
    (
      made_apart (codes "mul") refl (λ m. refl),
      (
        made_apart (codes "quot") refl (λ m. refl),
        (
          made_apart (codes "rem") refl (λ m. refl),
          (
            made_apart (codes "eq") refl (λ m. refl),
            (made_apart (codes "lt") refl (λ m. refl), tt),
          ),
        ),
      ),
    ),
  ),
)

pub primitive_apart : {q : List ℕ × PrimOp} (n : ℕ) → slice_get primitives n ≡ Some q → IsApart q.0
primitive_apart {q = q} n e = all_get (λ q. IsApart q.0) primitives n q all_apart e

-- ---- the tables

texts_new : (n : ℕ) (f : ℕ → List ℕ) → ((k : ℕ) → IsNew (f k)) → {b : List ℕ}
    → In b (numbered_texts n f) → IsNew b
texts_new n f g h = let r = map_in f (range_with_len 0 n) h in (((g r.0).0), r.2 ∙ (g r.0).1)

equation_new : (k : ℕ) → IsNew (name_of_equation k)
equation_new k = (decimal k, refl)

param_new : (k : ℕ) → IsNew (param_name k)
param_new k = (codes "p" ++ decimal k, refl)

field_new : (k : ℕ) → IsNew (field_name k)
field_new k = (codes "q" ++ decimal k, refl)

nameless_split : (ns : List (List ℕ)) {b : List ℕ} (x : ℕ) → slice_get (with_nameless ns) x ≡ Some b
    → (slice_get ns x ≡ Some b) ⊎ (b ≡ codes "_")
nameless_split ns {b = b} x e = go (position is_nameless ns) e
  where
    go : (o : Option ℕ) → slice_get (elim o [ Some n ↦ ns | None ↦ ns ++ codes "_" ∷ [] ]) x ≡ Some
        b → (slice_get ns x ≡ Some b) ⊎ (b ≡ codes "_")
    go (Some n) f = inl f
    go None f = ⊎_elim (λ l. inl l) (λ r. inr (one_in (codes "_") r.1))
        (get_split ns (codes "_" ∷ []) x f)

nameless_left : (ns : List (List ℕ)) {b : List ℕ} (x : ℕ) → slice_get ns x ≡ Some b
    → slice_get (with_nameless ns) x ≡ Some b
nameless_left ns {b = b} x e = go (position is_nameless ns)
  where
    go : (o : Option ℕ) → slice_get (elim o [ Some n ↦ ns | None ↦ ns ++ codes "_" ∷ [] ]) x ≡ Some
        b
    go (Some n) = e
    go None = get_left ns (codes "_" ∷ []) x b e

pub nameless_length : (ns : List (List ℕ)) → length ns ≤ length (with_nameless ns)
nameless_length ns = go (position is_nameless ns)
  where
    go : (o : Option ℕ) → length ns ≤ length {A = List ℕ}
        (elim o [ Some n ↦ ns | None ↦ ns ++ codes "_" ∷ [] ])
    go (Some n) = omega arith
    go None = longer ns
      where
        longer : (xs : List (List ℕ)) → length xs ≤ length (xs ++ codes "_" ∷ [])
        longer [] = omega arith
        longer (x ∷ xs) = omega (arith, longer xs)

module _ (c : Source) where
  abbrev spread_texts : List (List ℕ)
  spread_texts = map name_of_equation (range_with_len 0 (length c.equations))

  pub text_of_spread : {b : List ℕ} (x : ℕ) → slice_get (equations_as_functions c).names x ≡ Some b
      → (slice_get c.names x ≡ Some b) ⊎ IsNew b
  text_of_spread x e = ⊎_elim (λ l. inl l)
      (λ r. inr (texts_new (length c.equations) name_of_equation equation_new r.1))
      (get_split c.names spread_texts x e)

  -- those behind the source's texts
  abbrev new_texts : List (List ℕ)
  new_texts =
      numbered_texts (length c.equations) name_of_equation
      ++ (numbered_texts (most_params c.equations) param_name
      ++ numbered_texts (most_fields_of (decisions c)) field_name)

  texts_are_new : {b : List ℕ} → In b new_texts → IsNew b
  texts_are_new h = elim
      (in_split (numbered_texts (length c.equations) name_of_equation)
      (numbered_texts (most_params c.equations) param_name
      ++ numbered_texts (most_fields_of (decisions c)) field_name) h) [
        | inl k ↦ texts_new (length c.equations) name_of_equation equation_new k
        | inr k ↦ ⊎_elim (texts_new (most_params c.equations) param_name param_new)
            (texts_new (most_fields_of (decisions c)) field_name field_new)
            (in_split (numbered_texts (most_params c.equations) param_name)
            (numbered_texts (most_fields_of (decisions c)) field_name) k)
      ]

  pub text_of_translated : {b : List ℕ} (x : ℕ) → slice_get (translated c).names x ≡ Some b
      → (slice_get c.names x ≡ Some b) ⊎ IsMade b
  text_of_translated {b = b} x e = elim (get_split (with_nameless c.names) new_texts x e) [
    | inl l ↦ ⊎_elim (λ h. inl h) (λ h. inr (inl h)) (nameless_split c.names x l)
    | inr r ↦ inr (inr (texts_are_new r.1))
  ]

  pub translated_text : {b : List ℕ} (x : ℕ) → slice_get c.names x ≡ Some b
      → slice_get (translated c).names x ≡ Some b
  translated_text {b = b} x e = get_left (with_nameless c.names) new_texts x b
      (nameless_left c.names x e)

  pub spread_text : {b : List ℕ} (x : ℕ) → slice_get c.names x ≡ Some b
      → slice_get (equations_as_functions c).names x ≡ Some b
  spread_text {b = b} x e = get_left c.names spread_texts x b e

  -- ---- what is named how

  pub named_text : (p : Program) (w : List ℕ) (x : ℕ) → is_named p w x ≡ true → (b : List ℕ)
      × (slice_get p.names x ≡ Some b) × (bytes_eq b w ≡ true)
  named_text p w x e = go (slice_get p.names x) refl e
    where
      go : (o : Option (List ℕ)) → slice_get p.names x ≡ o
          → elim o [ Some b ↦ bytes_eq b w | None ↦ false ] ≡ true → (b : List ℕ)
          × (slice_get p.names x ≡ Some b) × (bytes_eq b w ≡ true)
      go (Some b) f g = (b, f, g)
      go None f g = absurd cc

  pub named_by : (p : Program) (w b : List ℕ) (x : ℕ) → slice_get p.names x ≡ Some b
      → is_named p w x ≡ bytes_eq b w
  named_by p w b x e = ap (λ o. elim o [ Some b ↦ bytes_eq b w | None ↦ false ]) e

  no_made : {P : Type 0} (w b : List ℕ) → IsApart w → IsMade b → bytes_eq b w ≡ true → P
  no_made w b a m e = let f : bytes_eq b w ≡ false = a b m in absurd cc

  -- for a text that is not made it is the same in both programs
  pub same_named : (w : List ℕ) → IsApart w → (x : ℕ)
      → is_named (translated c) w x ≡ is_named (equations_as_functions c) w x
  same_named w a x = both_ways (is_named (translated c) w x)
      (is_named (equations_as_functions c) w x) there_too back_too
    where
      there_too : is_named (translated c) w x ≡ true
          → is_named (equations_as_functions c) w x ≡ true
      there_too e =
          let t = named_text (translated c) w x e in
          ⊎_elim (λ l. named_by (equations_as_functions c) w t.0 x (spread_text x l) ∙ t.2)
          (λ m. no_made w t.0 a m t.2) (text_of_translated x t.1)

      back_too : is_named (equations_as_functions c) w x ≡ true → is_named (translated c) w x ≡ true
      back_too e =
          let t = named_text (equations_as_functions c) w x e in
          ⊎_elim (λ l. named_by (translated c) w t.0 x (translated_text x l) ∙ t.2)
          (λ m. no_made w t.0 a (inr m) t.2) (text_of_spread x t.1)

  -- a name of the source is named by its text
  pub old_named : (w b : List ℕ) (x : ℕ) → slice_get c.names x ≡ Some b
      → is_named (translated c) w x ≡ is_named (equations_as_functions c) w x
  old_named w b x e = named_by (translated c) w b x (translated_text x e) ∙ sym
      (named_by (equations_as_functions c) w b x (spread_text x e))

  -- what a name behind them is not
  new_behind : (w : List ℕ) → ((b : List ℕ) → IsNew b → bytes_eq b w ≡ false) → (x : ℕ)
      → length (with_nameless c.names) ≤ x → is_named (translated c) w x ≡ false
  new_behind w a x le = elim (two_ways (is_named (translated c) w x)) [
    | inr f ↦ f
    | inl e ↦ let t = named_text (translated c) w x e
        in is_behind t.0 t.2 (get_split (with_nameless c.names) new_texts x t.1)
  ]
    where
      is_behind : (b : List ℕ) → bytes_eq b w ≡ true
          → (slice_get (with_nameless c.names) x ≡ Some b)
          ⊎ ((length (with_nameless c.names) ≤ x) × In b new_texts)
          → is_named (translated c) w x ≡ false
      is_behind b e (inl l) = absurd (omega (arith, le, get_within (with_nameless c.names) x b l))
      is_behind b e (inr r) = let f : bytes_eq b w ≡ false = a b (texts_are_new r.1) in absurd cc

  pub new_named : (x : ℕ) → length (with_nameless c.names) ≤ x
      → is_named (translated c) (codes "_") x ≡ false
  new_named x le = new_behind (codes "_") (λ b n. ap (λ v. bytes_eq v (codes "_")) n.1) x le

  pub new_apart : (w : List ℕ) → IsApart w → (x : ℕ) → length (with_nameless c.names) ≤ x
      → is_named (translated c) w x ≡ false
  new_apart w a x le = new_behind w (λ b n. a b (inr n)) x le

  -- the name `_`, which no such text has
  nameless_at : (ns : List (List ℕ)) → (position_or_len is_nameless ns ≡ length ns)
      ⊎ ((w : List ℕ) × (slice_get ns (position_or_len is_nameless ns) ≡ Some w)
      × (is_nameless w ≡ true))
  nameless_at [] = inl refl
  nameless_at (w ∷ ns) = go (is_nameless w) refl (nameless_at ns)
    where
      n : ℕ
      n = position_or_len is_nameless ns

      next : 1 + n ≡ suc n
      next = omega arith

      go : (b : Bool) → is_nameless w ≡ b → (n ≡ length ns)
          ⊎ ((v : List ℕ) × (slice_get ns n ≡ Some v) × (is_nameless v ≡ true))
          → (cond (not b) (1 + n) 0 ≡ suc (length ns))
          ⊎ ((v : List ℕ) × (slice_get (w ∷ ns) (cond (not b) (1 + n) 0) ≡ Some v)
          × (is_nameless v ≡ true))
      go true h r = inr (w, refl, h)
      go false h (inl l) = inl (next ∙ ap suc l)
      go false h (inr r) = inr (r.0, ap (slice_get (w ∷ ns)) next ∙ r.1, r.2)

  pub nameless_text : (w : List ℕ) ×
      (slice_get (with_nameless c.names) (position_or_len is_nameless c.names) ≡ Some w)
      × (is_nameless w ≡ true)
  nameless_text = go (nameless_at c.names)
    where
      n : ℕ
      n = position_or_len is_nameless c.names

      last : (ns : List (List ℕ)) → slice_get (ns ++ codes "_" ∷ []) (length ns) ≡ Some (codes "_")
      last [] = refl
      last (x ∷ ns) = last ns

      added : nat_lt n (length c.names) ≡ false → with_nameless c.names ≡ c.names ++ codes "_" ∷ []
      added e = ap
          (λ b. elim (cond b (Some n) None) [ Some k ↦ c.names | None ↦ c.names ++ codes "_" ∷ [] ])
          e

      go : (n ≡ length c.names) ⊎
          ((w : List ℕ) × (slice_get c.names n ≡ Some w) × (is_nameless w ≡ true)) → (w : List ℕ)
          × (slice_get (with_nameless c.names) n ≡ Some w) × (is_nameless w ≡ true)
      go (inl l) = (
        codes "_",
        (λ i. slice_get (added (lt_false n (length c.names) (omega (arith, l))) i) (l i)) ∙ last
            c.names,
        refl,
      )
      go (inr r) = (r.0, nameless_left c.names n r.1, r.2)

  pub nameless_named : is_named (translated c) (codes "_") (position_or_len is_nameless c.names) ≡
      true
  nameless_named =
      let t = nameless_text in
      let at : slice_get (translated c).names (position_or_len is_nameless c.names) ≡ Some t.0
      = get_left (with_nameless c.names) new_texts (position_or_len is_nameless c.names) t.0 t.1
      in
      named_by (translated c) (codes "_") t.0 (position_or_len is_nameless c.names) at ∙ t.2

  pub nameless_apart : (w : List ℕ) → IsApart w → is_named (translated c) w
      (position_or_len is_nameless c.names) ≡ false
  nameless_apart w a =
      let t = nameless_text in
      let at : slice_get (translated c).names (position_or_len is_nameless c.names) ≡ Some t.0
      = get_left (with_nameless c.names) new_texts (position_or_len is_nameless c.names) t.0 t.1
      in
      named_by (translated c) w t.0 (position_or_len is_nameless c.names) at ∙ a t.0
      (inl ((bytes_eq-Decides t.0 (codes "_")).0 t.2))

  -- ---- primitives

  primitive_same : (qs : List (List ℕ × PrimOp)) → AllOf (λ (q : List ℕ × PrimOp). IsApart q.0) qs
      → (x : ℕ) → primitive_from (translated c) qs x ≡ primitive_from (equations_as_functions c) qs
      x
  primitive_same [] h x = refl
  primitive_same (q ∷ qs) h x = λ i. if same_named q.0 h.0 x i then Primitive q.1
      else primitive_same qs h.1 x i

  pub same_primitive : (x : ℕ) → primitive_from (translated c) primitives x ≡ primitive_from
      (equations_as_functions c) primitives x
  same_primitive x = primitive_same primitives all_apart x

  -- a name behind those of the source is that of no primitive
  none_primitive : (qs : List (List ℕ × PrimOp)) → AllOf (λ (q : List ℕ × PrimOp). IsApart q.0) qs
      → (x : ℕ) → length (with_nameless c.names) ≤ x → primitive_from (translated c) qs x ≡ Unbound
  none_primitive [] h x le = refl
  none_primitive (q ∷ qs) h x le = ap
      (λ b. if b then Primitive q.1 else primitive_from (translated c) qs x)
      (new_apart q.0 h.0 x le) ∙ none_primitive qs h.1 x le

  pub new_primitive : (x : ℕ) → length (with_nameless c.names) ≤ x
      → primitive_from (translated c) primitives x ≡ Unbound
  new_primitive x le = none_primitive primitives all_apart x le
