-- The loops over a program.
use Rattle.std.proofs.Common.{◌≡◌, ℕ, ◌+◌, ◌<◌, Bool, List, [], ◌∷◌, ◌++◌, map, length, drop, get_or, refl, sym, ap, ◌∙◌, arith, zero, suc, Option, Some}
use Rattle.std.specs.Prelude.{slice_get, not, false, ◌==◌, true, if◌then◌else◌, cond, is_some, ◌||◌}
use Rattle.std.specs.List.{list_any, position, position_from}
use Rattle.std.proofs.lemmas.Iterator.Adapters.{position_from-zero}
use Rattle.std.proofs.lemmas.List.{drop_more}
use Rattle.core_reader.specs.declared.syntax.Data as code-data
use Rattle.core_reader.specs.declared.syntax.Function as code-function
use Rattle.core_reader.specs.Tree.{Data, Function, data_of, function}
use Rattle.arity_check.specs.declared.order.First.{First}
use Rattle.arity_check.specs.Scope.{Scope}
use Rattle.arity_check.specs.Known.{Known, entered, all_entered}
use Rattle.arity_check.specs.Tables.{kind_or_plain, or_else, first_of, second_of}
use Rattle.arity_check.specs.Refusal.{least_refusal}
use Rattle.core_reader.specs.declared.syntax.Binder.{Binder}
use Rattle.arity_check.specs.Faults.{with_member, binder_faults, binders_faults}
use Rattle.arity_check.specs.Whole.{kind_of, kind_at, con_faults, cons_faults, header_faults, body_faults, functions_faults, fields_at, constructor_at}
use Rattle.arity_check.proofs.Counts.{two}

pub more_cons : (k : Known) (seen seen' : ℕ → Bool) (items : List code-data.Data) (i : ℕ)
    (x : code-data.Data) → i < length items → x ≡ get_or items i x
    → (o o1 o2 : First) → seen' ≡ with_member x.name.0 seen
    → o2 ≡ least_refusal o1 (con_faults k i (λ y. seen x.name.0) (data_of x))
    → least_refusal o1 (cons_faults k i seen (map data_of (drop i items))) ≡ o
    → least_refusal o2 (cons_faults k (i + 1) seen' (map data_of (drop (i + 1) items))) ≡ o
more_cons k seen seen' items i x l is o o1 o2 s e h =
    let rest : List Data = map data_of (drop (i + 1) items) in
    let d : drop i items ≡ x ∷ drop (i + 1) items = drop_more items i x l ∙ ap
    (λ y. y ∷ drop (i + 1) items) (sym is) in
    ap (λ t. least_refusal o2 (cons_faults k (i + 1) t rest)) s
    ∙ two (con_faults k i seen (data_of x)) (cons_faults k (i + 1) (with_member x.name.0 seen) rest)
    o1 o2 _ e refl
    ∙ ap (λ t. least_refusal o1 (cons_faults k i seen (map data_of t))) (sym d) ∙ h

pub more_functions : (k : Known) (sc : Scope) (seen seen' : ℕ → Bool)
    (items : List code-function.Function) (i : ℕ) (x : code-function.Function) → i < length items
    → x ≡ get_or items i x
    → (o o1 o2 o3 : First) → seen' ≡ with_member x.name.0 seen
    → o2 ≡ least_refusal o1 (header_faults k i (λ y. seen x.name.0) (function x))
    → o3 ≡ least_refusal o2 (body_faults k sc (function x))
    → least_refusal o1 (functions_faults k sc i seen (map function (drop i items))) ≡ o
    → least_refusal o3 (functions_faults k sc (i + 1) seen' (map function (drop (i + 1) items)))
    ≡ o
more_functions k sc seen seen' items i x l is o o1 o2 o3 s e g h =
    let rest : List Function = map function (drop (i + 1) items) in
    let d : drop i items ≡ x ∷ drop (i + 1) items = drop_more items i x l ∙ ap
    (λ y. y ∷ drop (i + 1) items) (sym is) in
    ap (λ t. least_refusal o3 (functions_faults k sc (i + 1) t rest)) s
    ∙ two (header_faults k i seen (function x) ++ body_faults k sc (function x))
    (functions_faults k sc (i + 1) (with_member x.name.0 seen) rest) o1 o3 _
    (two (header_faults k i seen (function x)) (body_faults k sc (function x)) o1 o2 o3 e g) refl
    ∙ ap (λ t. least_refusal o1 (functions_faults k sc i seen (map function t))) (sym d) ∙ h

pub kinds_at : (names : List (List ℕ)) (x : ℕ) → kind_or_plain (slice_get (map kind_of names) x) ≡
    kind_at (slice_get names x)
kinds_at [] x = refl
kinds_at (n ∷ ns) zero = refl
kinds_at (n ∷ ns) (suc x) = kinds_at ns x

pub same_item : {T : Type 0} (items : List T) (i : ℕ) (d e : T) → i < length items
    → get_or items i d ≡ get_or items i e
same_item [] i d e l = absurd (omega (arith, l))
same_item (x ∷ xs) zero d e l = refl
same_item (x ∷ xs) (suc i) d e l = same_item xs i d e (omega (arith, l))

-- the same for an item that is read with a default
pub more_cons_at : (k : Known) (seen seen' : ℕ → Bool) (items : List code-data.Data) (i : ℕ)
    (d : code-data.Data) → i < length items
    → (o o1 o2 : First) → seen' ≡ with_member (get_or items i d).name.0 seen
    → o2 ≡ least_refusal o1
    (con_faults k i (λ y. seen (get_or items i d).name.0) (data_of (get_or items i d)))
    → least_refusal o1 (cons_faults k i seen (map data_of (drop i items))) ≡ o
    → least_refusal o2 (cons_faults k (i + 1) seen' (map data_of (drop (i + 1) items))) ≡ o
more_cons_at k seen seen' items i d l o o1 o2 s e h
    = more_cons k seen seen' items i (get_or items i d) l (same_item items i d (get_or items i d) l)
    o o1 o2 s e h

pub first_con : (items : List code-data.Data) (i : ℕ) (d : code-data.Data) (o : Option (ℕ × ℕ))
    (q : ℕ) (r : Option (ℕ × ℕ)) → i < length items
    → or_else o (constructor_at (map data_of (drop i items)) i q) ≡ r
    → or_else o
    (if (get_or items i d).name.0 == q then Some (i, (get_or items i d).fields)
    else constructor_at (map data_of (drop (i + 1) items)) (i + 1) q) ≡ r
first_con items i d o q r l h = ap (λ t. or_else o (constructor_at (map data_of t) i q))
    (sym (drop_more items i d l)) ∙ h

-- the table of constructors has their numbers of fields and their numbers
pub fields_of_table : (ds : List Data) (i c : ℕ) → second_of (constructor_at ds i c) ≡ fields_at ds
    c
fields_of_table [] i c = refl
fields_of_table (d ∷ ds) i c = go (fields_of_table ds (i + 1) c) (d.name == c)
  where
    go : second_of (constructor_at ds (i + 1) c) ≡ fields_at ds c → (b : Bool)
        → second_of (if b then Some (i, d.fields) else constructor_at ds (i + 1) c) ≡
        (if b then Some d.fields else fields_at ds c)
    go rest true = refl
    go rest false = rest

number_from : (ds : List Data) (i c : ℕ) → first_of (constructor_at ds i c) ≡ position_from
    (λ d. d.name == c) i ds
number_from [] i c = refl
number_from (d ∷ ds) i c = go (number_from ds (i + 1) c) (d.name == c)
  where
    go : first_of (constructor_at ds (i + 1) c) ≡ position_from (λ d. d.name == c) (i + 1) ds
        → (b : Bool) → first_of (if b then Some (i, d.fields) else constructor_at ds (i + 1) c) ≡
        cond b (Some i) (position_from (λ d. d.name == c) (i + 1) ds)
    go rest true = refl
    go rest false = rest

pub number_of_table : (ds : List Data) (c : ℕ) → first_of (constructor_at ds 0 c) ≡ position
    (λ d. d.name == c) ds
number_of_table ds c = number_from ds 0 c ∙ sym (position_from-zero (λ (d : Data). d.name == c) ds)

not_not : (b c : Bool) → b ≡ not c → not b ≡ c
not_not true true e = cc
not_not true false e = refl
not_not false true e = refl
not_not false false e = cc

pub again : (b c : Bool) → b ≡ not c → not b ≡ c
again b c e = not_not b c e

-- an item passes a test if one has a position
pub any_from : {X : Type 0} (test : X → Bool) (n : ℕ) (xs : List X)
    → is_some (position_from test n xs) ≡ list_any test xs
any_from test n [] = refl
any_from test n (x ∷ xs) = go (any_from test (n + 1) xs) (test x)
  where
    go : is_some (position_from test (n + 1) xs) ≡ list_any test xs → (b : Bool)
        → is_some (cond b (Some n) (position_from test (n + 1) xs)) ≡ (b || list_any test xs)
    go rest true = refl
    go rest false = rest

-- an item at hand passes a test, and so some item of those from it on does
pub any_here : (test : Data → Bool) (items : List code-data.Data) (i : ℕ) (d : code-data.Data)
    (r : Bool) → i < length items → test (data_of (get_or items i d)) ≡ true
    → list_any test (map data_of (drop i items)) ≡ r → true ≡ r
any_here test items i d r l e h =
    (λ j. sym e j || list_any test (map data_of (drop (i + 1) items))) ∙ ap
    (λ xs. list_any test (map data_of xs)) (sym (drop_more items i d l)) ∙ h

-- one more binder of a list
pub more_binders : (k : Known) (seen seen' : ℕ → Bool) (items : List Binder) (i : ℕ) (x : Binder)
    → i < length items → x ≡ get_or items i x
    → (o o1 o2 : First) → seen' ≡ with_member x.name.0 seen
    → o2 ≡ least_refusal o1 (binder_faults k seen x)
    → least_refusal o1 (binders_faults k seen (drop i items)) ≡ o
    → least_refusal o2 (binders_faults k seen' (drop (i + 1) items)) ≡ o
more_binders k seen seen' items i x l is o o1 o2 s e h =
    let rest : List Binder = drop (i + 1) items in
    let d : drop i items ≡ x ∷ rest = drop_more items i x l ∙ ap (λ y. y ∷ rest) (sym is) in
    ap (λ t. least_refusal o2 (binders_faults k t rest)) s ∙ two (binder_faults k seen x)
    (binders_faults k (with_member x.name.0 seen) rest) o1 o2 _ e refl
    ∙ ap (λ t. least_refusal o1 (binders_faults k seen t)) (sym d) ∙ h

pub more_entered : (k : Known) (items : List Binder) (i : ℕ) (x : Binder) → i < length items
    → x ≡ get_or items i x
    → (s s1 s2 : Scope) → s2 ≡ entered k x s1 → all_entered k (drop i items) s1 ≡ s
    → all_entered k (drop (i + 1) items) s2 ≡ s
more_entered k items i x l is s s1 s2 e h =
    let rest : List Binder = drop (i + 1) items in
    let d : drop i items ≡ x ∷ rest = drop_more items i x l ∙ ap (λ y. y ∷ rest) (sym is) in
    ap (all_entered k rest) e ∙ ap (λ t. all_entered k t s1) (sym d) ∙ h
