-- Modules whose texts are too long.
use Rattle.std.proofs.Common.{◌≡◌, ℕ, zero, suc, ◌==◌, ◌<◌, Bool, true, false, List, [], ◌∷◌, length, Some, if◌then◌else◌, slice_get, refl, sym, ◌∙◌, subst, arith}
use mathlib.Core.Logic.{◌⊎◌, inl, inr}
use Rattle.std.specs.List.{AllZip}
use Rattle.std.proofs.lemmas.Bool.Decides.{Decides-eqb}
use Rattle.seq.proofs.Lists.{some_is}
use Rattle.core_reader.specs.RulesOf.{TextTooLong}
use Rattle.core_reader.proofs.OnlyOne.{at_five}
use Rattle.core_link.specs.Module.{IsReadingFault}
use Rattle.core_link.specs.Rules.{RuleGroup, Reading, BrokenIn, Unread, OfModule, Broken, InFile, NoMainModule, OfFiles, IsBefore, rank_in, rank, IsFirstBroken}
use Rattle.grin_io.specs.Changes.{SinkChange}
use Rattle.text_commands.specs.declared.status.Status.{Status}
use Rattle.text_commands.specs.Linking.{IsLinkedText, IsLinkRefusal, IsLinkOutcome}
use Rattle.text_commands.proofs.InTurn.{IsFront}
use Rattle.text_commands.proofs.Written.{writes_as}

-- ---- lists, place by place

module _ {A B : Type 0} (R : A → B → Type 0) where
  at_left : (xs : List A) (ys : List B) → AllZip R xs ys → (i : ℕ) (x : A) → slice_get xs i ≡ Some x
      → (y : B) × (slice_get ys i ≡ Some y) × R x y
  at_left [] ys h i x is = absurd (cc is)
  at_left (x' ∷ xs) [] h i x is = absurd h
  at_left (x' ∷ xs) (y ∷ ys) h zero x is = (y, refl, subst (λ z. R z y) (some_is is) h.0)
  at_left (x' ∷ xs) (y ∷ ys) h (suc i) x is = at_left xs ys h.1 i x is

  at_right : (xs : List A) (ys : List B) → AllZip R xs ys → (i : ℕ) (y : B)
      → slice_get ys i ≡ Some y → (x : A) × (slice_get xs i ≡ Some x) × R x y
  at_right xs [] h i y is = absurd (cc is)
  at_right [] (y' ∷ ys) h i y is = absurd h
  at_right (x ∷ xs) (y' ∷ ys) h zero y is = (x, refl, subst (R x) (some_is is) h.0)
  at_right (x ∷ xs) (y' ∷ ys) h (suc i) y is = at_right xs ys h.1 i y is

-- ---- the order of broken rules

before_more : (xs ys zs : List ℕ) → IsBefore xs ys → IsBefore ys zs → IsBefore xs zs
before_more [] ys zs h k = tt
before_more (x ∷ xs) [] zs h k = absurd h
before_more (x ∷ xs) (y ∷ ys) [] h k = absurd k
before_more (x ∷ xs) (y ∷ ys) (z ∷ zs) (inl h) (inl k) = inl (omega arith)
before_more (x ∷ xs) (y ∷ ys) (z ∷ zs) (inl h) (inr k) = inl (omega (arith, k.0))
before_more (x ∷ xs) (y ∷ ys) (z ∷ zs) (inr h) (inl k) = inl (omega (arith, h.0))
before_more (x ∷ xs) (y ∷ ys) (z ∷ zs) (inr h) (inr k)
    = inr (h.0 ∙ k.0, before_more xs ys zs h.1 k.1)

-- the rank in its text of rule 5
abbrev long_rank : List ℕ
long_rank = 0 ∷ 1048576 ∷ 5 ∷ []

abbrev reading_rank : Bool → (k at : ℕ) → List ℕ
reading_rank is_five k at = (if is_five then 0 else 1) ∷ at ∷ k ∷ []

unread_after : (text : List ℕ) (k at : ℕ) → IsReadingFault text k at → (is_five : Bool)
    → (k == 5) ≡ is_five → IsBefore long_rank (reading_rank is_five k at)
unread_after text k at u true is =
    let five : k ≡ 5 = (Decides-eqb k 5).0 is in
    inr (refl, inr (sym (at_five text k at u five), inr (sym five, tt)))
unread_after text k at u false is = inl (omega arith)

-- nothing that is broken in a text comes before it
long_first : (text : List ℕ) (g : RuleGroup) (k at : ℕ) → BrokenIn text g k at
    → IsBefore long_rank (rank_in g k at)
long_first text _ k at (Unread u) = unread_after text k at u (k == 5) refl
long_first text _ k at (OfModule m t own) = inl (omega arith)

in_file : (text : List ℕ) (g : RuleGroup) (k file at : ℕ) → BrokenIn text g k at
    → 0 ∷ file ∷ rank_in g k at ≡ rank g k file at
in_file text _ k file at (Unread u) = refl
in_file text _ k file at (OfModule m t own) = refl

-- what comes as early is rule 5
unread_long : (text front : List ℕ) (k at file : ℕ) → 1048576 < length text
    → IsReadingFault front k at → (is_five : Bool) → (k == 5) ≡ is_five
    → IsBefore (0 ∷ file ∷ reading_rank is_five k at) (0 ∷ file ∷ long_rank)
    → BrokenIn text Reading k at
unread_long text front k at file long u true is before =
    let five : k ≡ 5 = (Decides-eqb k 5).0 is in
    let limit : at ≡ 1048576 = at_five front k at u five in
    subst (λ n. BrokenIn text Reading n at) (sym five)
    (subst (λ n. BrokenIn text Reading 5 n) (sym limit) (Unread (TextTooLong long)))
unread_long text front k at file long u false is (inl h) = absurd (omega (arith, h))
unread_long text front k at file long u false is (inr (e, inl h)) = absurd (omega (arith, h))
unread_long text front k at file long u false is (inr (e, inr (e', inl h)))
    = absurd (omega (arith, h))
unread_long text front k at file long u false is (inr (e, inr (e', inr h)))
    = absurd (omega (arith, h.0))

no_later : {A : Type 0} (file : ℕ) (rest : List ℕ) → IsBefore (0 ∷ file ∷ 2 ∷ rest)
    (0 ∷ file ∷ long_rank) → A
no_later file rest (inl h) = absurd (omega (arith, h))
no_later file rest (inr (e, inl h)) = absurd (omega (arith, h))
no_later file rest (inr (e, inr (e', inl h))) = absurd (omega (arith, h))
no_later file rest (inr (e, inr (e', inr h))) = absurd (omega (arith, h.0))

broken_long : (text front : List ℕ) (g : RuleGroup) (k at file : ℕ) → 1048576 < length text
    → BrokenIn front g k at
    → IsBefore (rank g k file at) (0 ∷ file ∷ long_rank) → BrokenIn text g k at
broken_long text front _ k at file long (Unread u) before
    = unread_long text front k at file long u (k == 5) refl before
broken_long text front _ k at file long (OfModule m t own) before
    = no_later file (at ∷ k ∷ []) before

-- ---- fronts of texts

-- a text is too long, and so is what was read of it
record TooLong (fronts texts : List (List ℕ)) : Type 0 where
  file : ℕ
  front : List ℕ
  text : List ℕ
  read : slice_get fronts file ≡ Some front
  is : slice_get texts file ≡ Some text
  short : 1048576 < length front
  long : 1048576 < length text

one_later : (front text : List ℕ) (fronts texts : List (List ℕ)) → front ≡ text → (fronts ≡ texts)
    ⊎ TooLong fronts texts → (front ∷ fronts ≡ text ∷ texts)
    ⊎ TooLong (front ∷ fronts) (text ∷ texts)
one_later front text fronts texts e (inl e') = let same : front ∷ fronts ≡ text ∷ texts = cc
    in inl same
one_later front text fronts texts e (inr l) = inr
    (record {
      file = suc l.file;
      front = l.front;
      text = l.text;
      read = l.read;
      is = l.is;
      short
          = l.short;
      long = l.long;
    })

same_or_long : (fronts texts : List (List ℕ)) → AllZip (IsFront 1048577) fronts texts
    → (fronts ≡ texts) ⊎ TooLong fronts texts
same_or_long [] [] h = inl refl
same_or_long [] (text ∷ texts) h = absurd h
same_or_long (front ∷ fronts) [] h = absurd h
same_or_long (front ∷ fronts) (text ∷ texts) (inl e, h)
    = one_later front text fronts texts e (same_or_long fronts texts h)
same_or_long (front ∷ fronts) (text ∷ texts) (inr l, h) =
    inr (record {
      file = 0;
      front = front;
      text = text;
      read = refl;
      is = refl;
      short
          = omega (arith, l.0);
      long = omega (arith, l.1);
    })

too_long : (texts : List (List ℕ)) (file : ℕ) (text : List ℕ) → slice_get texts file ≡ Some text
    → 1048576 < length text → Broken texts Reading 5 file 1048576
too_long texts file text is long = InFile is (Unread (TextTooLong long))

-- the first broken rule of what was read is that of the texts
module _ (fronts texts : List (List ℕ)) (zip : AllZip (IsFront 1048577) fronts texts)
    (l : TooLong fronts texts) (g : RuleGroup) (k file at : ℕ)
    (first : (g' : RuleGroup) (k' file' at' : ℕ) → Broken fronts g' k' file' at'
    → IsBefore (rank g k file at) (rank g' k' file' at')) where
  in_text : (front : List ℕ) → slice_get fronts file ≡ Some front → BrokenIn front g k at
      → Broken texts g k file at
  in_text front is b = go (at_left (IsFront 1048577) fronts texts zip file front is) where
    go : (text : List ℕ) × (slice_get texts file ≡ Some text) × IsFront 1048577 front text
        → Broken texts g k file at
    go (text, is', inl e) = InFile is' (subst (λ t. BrokenIn t g k at) e b)
    go (text, is', inr h) =
        InFile is'
        (broken_long text front g k at file (omega (arith, h.1)) b
        (first Reading 5 file 1048576 (too_long fronts file front is (omega (arith, h.0)))))

  first_in_text : (text : List ℕ) (g' : RuleGroup) (k' file' at' : ℕ)
      → slice_get texts file' ≡ Some text → BrokenIn text g' k' at'
      → IsBefore (rank g k file at) (rank g' k' file' at')
  first_in_text text g' k' file' at' is b = go
      (at_right (IsFront 1048577) fronts texts zip file' text is) where
        go : (front : List ℕ) × (slice_get fronts file' ≡ Some front) × IsFront 1048577 front text
            → IsBefore (rank g k file at) (rank g' k' file' at')
        go (front, is', inl e) = first g' k' file' at'
            (InFile is' (subst (λ t. BrokenIn t g' k' at') (sym e) b))
        go (front, is', inr h) =
            before_more (rank g k file at) (0 ∷ file' ∷ long_rank) (rank g' k' file' at')
            (first Reading 5 file' 1048576 (too_long fronts file' front is' (omega (arith, h.0))))
            (subst (IsBefore (0 ∷ file' ∷ long_rank)) (in_file text g' k' file' at' b)
            (inr (refl, inr (refl, long_first text g' k' at' b))))

first_long : (fronts texts : List (List ℕ)) → AllZip (IsFront 1048577) fronts texts
    → TooLong fronts texts
    → (g : RuleGroup) (k file at : ℕ) → Broken fronts g k file at
    → ((g' : RuleGroup) (k' file' at' : ℕ) → Broken fronts g' k' file' at'
    → IsBefore (rank g k file at) (rank g' k' file' at'))
    → IsFirstBroken texts k file at
first_long fronts texts zip l g k file at (InFile is b) first = record {
  group = g;
  broken = in_text fronts texts zip l g k file at first _ is b;
  first = λ g' k' file' at' b'. later g' k' file' at' b';
}
  where
    is_first : (m : ℕ) (rest : List ℕ) → 0 < m → IsBefore (rank g k file at) (m ∷ rest)
    is_first m rest some = subst (λ r. IsBefore r (m ∷ rest)) (in_file _ g k file at b) (inl some)

    later : (g' : RuleGroup) (k' file' at' : ℕ) → Broken texts g' k' file' at'
        → IsBefore (rank g k file at) (rank g' k' file' at')
    later g' k' file' at' (InFile is' b') = first_in_text fronts texts zip l g k file at first _ g'
        k' file' at' is' b'
    later _ _ _ _ (NoMainModule ms read lacks) = is_first 1 [] (omega arith)
    later _ k' file' at' (OfFiles ms read between) = is_first 2 (file' ∷ at' ∷ k' ∷ [])
        (omega arith)
first_long fronts texts zip l _ _ _ _ (NoMainModule ms read lacks) first
    = not_before 1 [] (omega arith)
    (first Reading 5 l.file 1048576 (too_long fronts l.file l.front l.read l.short))
  where
    not_before : {A : Type 0} (m : ℕ) (rest : List ℕ) → 0 < m
        → IsBefore (m ∷ rest) (0 ∷ l.file ∷ long_rank) → A
    not_before m rest some (inl h) = absurd (omega (arith, h))
    not_before m rest some (inr h) = absurd (omega (arith, h.0))
first_long fronts texts zip l _ k file at (OfFiles ms read between) first
    = not_before 2 (file ∷ at ∷ k ∷ []) (omega arith)
    (first Reading 5 l.file 1048576 (too_long fronts l.file l.front l.read l.short))
  where
    not_before : {A : Type 0} (m : ℕ) (rest : List ℕ) → 0 < m
        → IsBefore (m ∷ rest) (0 ∷ l.file ∷ long_rank) → A
    not_before m rest some (inl h) = absurd (omega (arith, h))
    not_before m rest some (inr h) = absurd (omega (arith, h.0))

-- ---- what holds of what was read holds of the texts

module _ {K : Type 0} (o : SinkChange K) where
  linked_long : (fronts texts : List (List ℕ)) → AllZip (IsFront 1048577) fronts texts
      → TooLong fronts texts → (status : Status) → IsLinkOutcome o fronts status
      → IsLinkOutcome o texts status
  linked_long fronts texts zip l status h =
      writes_as IsLinkedText IsLinkRefusal o fronts texts
      (λ bytes made. made.unbroken Reading 5 l.file 1048576
      (too_long fronts l.file l.front l.read l.short))
      (λ k number b.
      (b.0, b.1, first_long fronts texts zip l b.2.group k b.0 b.1 b.2.broken b.2.first, b.3))
      status h

  pub links_long : (fronts texts : List (List ℕ)) → AllZip (IsFront 1048577) fronts texts
      → (status : Status) → IsLinkOutcome o fronts status → IsLinkOutcome o texts status
  links_long fronts texts zip status h = go (same_or_long fronts texts zip) where
    go : (fronts ≡ texts) ⊎ TooLong fronts texts → IsLinkOutcome o texts status
    go (inl e) = subst (λ l. IsLinkOutcome o l status) e h
    go (inr l) = linked_long fronts texts zip l status h
