-- Loops that gather items, and loops that keep the first refusal.
use Rattle.std.proofs.Common.{◌≡◌, ℕ, zero, suc, ◌+◌, ◌<◌, ◌≤◌, List, [], ◌∷◌, ◌++◌, map, length, drop, get_or, refl, sym, ap, ◌∙◌, append_assoc, arith, Option, Some, None, Bool, true, false}
use Rattle.seq.proofs.Order.{eq_from}
use Rattle.std.specs.Prelude.{◌==◌, if◌then◌else◌}
use Rattle.std.proofs.lemmas.List.{drop_more, drop_all, append-nil}
use Rattle.core_reader.specs.declared.syntax.Binder.{Binder}
use Rattle.match_compile.specs.declared.refusal.MatchRefusal.{MatchRefusal}
use Rattle.match_compile.specs.declared.source.Pat as code-pat
use Rattle.match_compile.specs.SourceOf.{pat_of, pats_of, equation_of}
use Rattle.match_compile.specs.Parts.{count, names_of, constructors_of}
use Rattle.match_compile.specs.declared.source.Equation as code-equation
use Rattle.core_reader.specs.declared.syntax.Data as code-data
use Rattle.core_reader.specs.Tree.{data_of}
use Rattle.match_compile.specs.Rules.{fields_in}
use Rattle.match_compile.specs.Faults.{with_member, name_faults, names_faults, is_last, first_arity, with_equation, order_faults, orders_faults}
use Rattle.match_compile.specs.Refusal.{least_refusal}
use Rattle.match_compile.proofs.Tables.{or_else}
use Rattle.match_compile.proofs.Judged.{least_append}

-- the items of one more part were gathered
pub gathered : {T Y : Type 0} (F : List T → List Y) (f : T → List Y)
    → ((x : T) (xs : List T) → F (x ∷ xs) ≡ f x ++ F xs)
    → (items : List T) (i : ℕ) (x : T) → i < length items → x ≡ get_or items i x
    → (o o1 o2 : List Y) → o2 ≡ o1 ++ f x → o1 ++ F (drop i items) ≡ o → o2
    ++ F (drop (i + 1) items) ≡ o
gathered F f cons items i x l is o o1 o2 e h =
    let rest = drop (i + 1) items in
    let d : drop i items ≡ x ∷ rest = drop_more items i x l ∙ ap (λ y. y ∷ rest) (sym is) in
    ap (λ w. w ++ F rest) e ∙ append_assoc o1 (f x) (F rest) ∙ ap (λ w. o1 ++ w) (sym (cons x rest))
    ∙ ap (λ t. o1 ++ F t) (sym d) ∙ h

-- those of all parts were
pub all_gathered : {T Y : Type 0} (F : List T → List Y) → F [] ≡ [] → (items : List T) (i : ℕ)
    → length items ≤ i → (o o1 : List Y) → o1 ++ F (drop i items) ≡ o → o1 ≡ o
all_gathered F none items i l o o1 h = sym (append-nil o1) ∙ ap (λ w. o1 ++ w) (sym none) ∙ ap
    (λ t. o1 ++ F t) (sym (drop_all i items l)) ∙ h

-- the refusals of one more item were noted
pub one_more : {T : Type 0} (F : List T → List MatchRefusal) (f : T → List MatchRefusal)
    → ((x : T) (xs : List T) → F (x ∷ xs) ≡ f x ++ F xs)
    → (items : List T) (i : ℕ) (x : T) → i < length items → x ≡ get_or items i x
    → (o o1 o2 : Option MatchRefusal) → o2 ≡ least_refusal o1 (f x)
    → least_refusal o1 (F (drop i items)) ≡ o → least_refusal o2 (F (drop (i + 1) items)) ≡ o
one_more F f cons items i x l is o o1 o2 e h =
    let rest = drop (i + 1) items in
    let d : drop i items ≡ x ∷ rest = drop_more items i x l ∙ ap (λ y. y ∷ rest) (sym is) in
    ap (λ q. least_refusal q (F rest)) e ∙ sym (least_append o1 (f x) (F rest)) ∙ ap
    (least_refusal o1) (sym (cons x rest)) ∙ ap (λ t. least_refusal o1 (F t)) (sym d) ∙ h

pub no_more : {T : Type 0} (F : List T → List MatchRefusal) → F [] ≡ [] → (items : List T) (i : ℕ)
    → length items ≤ i → (o o1 : Option MatchRefusal) → least_refusal o1 (F (drop i items)) ≡ o
    → o1 ≡ o
no_more F none items i l o o1 h = ap (least_refusal o1) (sym none) ∙ ap
    (λ t. least_refusal o1 (F t)) (sym (drop_all i items l)) ∙ h

pub two : (xs ys : List MatchRefusal) (o o1 o2 : Option MatchRefusal) → o1 ≡ least_refusal o xs
    → o2 ≡ least_refusal o1 ys → o2 ≡ least_refusal o (xs ++ ys)
two xs ys o o1 o2 a b = b ∙ ap (λ q. least_refusal q ys) a ∙ sym (least_append o xs ys)

-- ---- the parts of patterns

abbrev pub names_of_all : List code-pat.Pat → List Binder
names_of_all ps = names_of (pats_of (map pat_of ps))

abbrev pub constructors_of_all : List code-pat.Pat → List (Binder × ℕ)
constructors_of_all ps = constructors_of (pats_of (map pat_of ps))

pub count_all : (ps : List code-pat.Pat) → count (pats_of (map pat_of ps)) ≡ length ps
count_all [] = refl
count_all (p ∷ ps) = omega (arith, count_all ps)

-- ---- the rules

-- one more name of an equation
pub more_names : (names : List (List ℕ)) (seen seen' : ℕ → Bool) (items : List Binder) (i : ℕ)
    (x : Binder) → i < length items → x ≡ get_or items i x
    → (o o1 o2 : Option MatchRefusal) → seen' ≡ with_member x.name.0 seen
    → o2 ≡ least_refusal o1 (name_faults names seen x)
    → least_refusal o1 (names_faults names seen (drop i items)) ≡ o
    → least_refusal o2 (names_faults names seen' (drop (i + 1) items)) ≡ o
more_names names seen seen' items i x l is o o1 o2 s e h =
    let rest = drop (i + 1) items in
    let d : drop i items ≡ x ∷ rest = drop_more items i x l ∙ ap (λ y. y ∷ rest) (sym is) in
    ap (λ t. least_refusal o2 (names_faults names t rest)) s
    ∙ two (name_faults names seen x) (names_faults names (with_member x.name.0 seen) rest) o1 o2 _ e
    refl
    ∙ ap (λ t. least_refusal o1 (names_faults names seen t)) (sym d) ∙ h

-- one more equation
pub more_orders : (arities arities' : ℕ → Option ℕ) (last last' : Option ℕ)
    (items : List code-equation.Equation) (i : ℕ) (x : code-equation.Equation) → i < length items
    → x ≡ get_or items i x
    → (o o1 o2 : Option MatchRefusal) →
    ((y : ℕ) → arities' y ≡ with_equation x.name.0 (length x.pats) arities y)
    → last' ≡ Some x.name.0
    → o2 ≡ least_refusal o1
    (order_faults (arities x.name.0) (is_last last x.name.0) (length x.pats) x.at)
    → least_refusal o1 (orders_faults arities last (map equation_of (drop i items))) ≡ o
    → least_refusal o2 (orders_faults arities' last' (map equation_of (drop (i + 1) items))) ≡ o
more_orders arities arities' last last' items i x l is o o1 o2 a b e h =
    let rest = map equation_of (drop (i + 1) items) in
    let d : drop i items ≡ x ∷ drop (i + 1) items = drop_more items i x l ∙ ap
    (λ y. y ∷ drop (i + 1) items) (sym is) in
    let n = count_all x.pats in
    (λ j. least_refusal o2 (orders_faults (λ y. a y j) (b j) rest))
    ∙ two (order_faults (arities x.name.0) (is_last last x.name.0) (length x.pats) x.at)
    (orders_faults (with_equation x.name.0 (length x.pats) arities) (Some x.name.0) rest) o1 o2
    _ e refl
    ∙ ap (λ m. least_refusal o1
    (order_faults (arities x.name.0) (is_last last x.name.0) m x.at
    ++ orders_faults (with_equation x.name.0 m arities) (Some x.name.0) rest)) (sym n)
    ∙ ap (λ t. least_refusal o1 (orders_faults arities last (map equation_of t))) (sym d) ∙ h

-- one more constructor's declaration
pub more_fields : (items : List code-data.Data) (i : ℕ) (d : code-data.Data) (o : Option ℕ) (q : ℕ)
    (r : Option ℕ) → i < length items → or_else o (fields_in (map data_of (drop i items)) q) ≡ r
    → or_else o
    (if (get_or items i d).name.0 == q then Some (get_or items i d).fields
    else fields_in (map data_of (drop (i + 1) items)) q) ≡ r
more_fields items i d o q r l h = ap (λ t. or_else o (fields_in (map data_of t) q))
    (sym (drop_more items i d l)) ∙ h

pub same_item : {T : Type 0} (items : List T) (i : ℕ) (d e : T) → i < length items
    → get_or items i d ≡ get_or items i e
same_item [] i d e l = absurd (omega (arith, l))
same_item (x ∷ xs) zero d e l = refl
same_item (x ∷ xs) (suc i) d e l = same_item xs i d e (omega (arith, l))

-- the first equation of a name keeps its number, and another one gives its own
pub kept_first : (old : Option ℕ) (m n : ℕ) (b : Bool) → (b ≡ true → old ≡ Some m)
    → old ≡ first_arity old n b
kept_first (Some k) m n b h = refl
kept_first None m n true h = absurd (none_some (h refl))
  where
    none_some : ◌≡◌ {A = Option ℕ} None (Some m) → ⊥
    none_some e = cc
kept_first None m n false h = refl

pub kept_new : (old new : Option ℕ) (n : ℕ) (b : Bool) → (b ≡ true → old ≡ None)
    → new ≡ (if b then Some n else old) → new ≡ first_arity old n b
kept_new None new n true h e = e
kept_new None new n false h e = e
kept_new (Some k) new n true h e = absurd (some_none (h refl))
  where
    some_none : ◌≡◌ {A = Option ℕ} (Some k) None → ⊥
    some_none f = cc
kept_new (Some k) new n false h e = e

pub named : (f : ℕ → Option ℕ) (x y : ℕ) (o : Option ℕ) → f x ≡ o → (x == y) ≡ true → f y ≡ o
named f x y o h e = ap f (sym (eq_from x y e)) ∙ h

pub ruleset walks = (least_append, count_all)
