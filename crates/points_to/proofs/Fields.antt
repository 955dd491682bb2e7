-- What is made of the fields of one tag is made of the items in these fields alone.
use Rattle.std.proofs.Common.{◌≡◌, ℕ, Bool, true, false, cond, nat_eq, List, [], ◌∷◌, ◌++◌, Option, Some, None, append_assoc, refl, ap, ◌∙◌}
use Rattle.std.specs.List.{flat_map}
use Rattle.grin_syntax.specs.declared.program.Word.{Word}
use Rattle.grin_syntax.specs.declared.program.Val.{Val}
use Rattle.flow_system.specs.Inclusions.{value, held, evaluated, into_site, FlowSink, applies}
use Rattle.flow_system.specs.Solution.{width}
use Rattle.flow_system.specs.Tables.{Tables, fields_of, params_of}
use Rattle.flow_system.specs.declared.fact.Place.{Place}
use Rattle.flow_system.specs.declared.fact.Place.TheVariants.{Site, Result}
use Rattle.flow_system.specs.declared.fact.Element.{Element}
use Rattle.flow_system.specs.declared.fact.Element.TheVariants.{Cell, Tag, Number}
use Rattle.flow_system.specs.declared.fact.Part.{Part}
use Rattle.flow_system.specs.declared.fact.Part.TheVariants.{Tags as tags, Field as field, Word as word}
use Rattle.points_to.specs.declared.facts.Item.{Item}
use Rattle.points_to.specs.Held.{item, words_in_part, moved_part, argument_part, as_nodes, value_items, arguments_of, after_fields, last_field, longer_node, called}
use Rattle.points_to.specs.declared.facts.Fact.{Fact}
use Rattle.points_to.specs.Asked.{target_facts, flow_facts, delayed_facts, called_facts, applied, facts_demanded}
use Rattle.points_to.specs.Applied.{call_arguments, call_facts, tag_applied}
use Rattle.points_to.specs.ByTag.{field_item, field_items}
use Rattle.points_to.proofs.Done.{flat_flat}

among : {Y : Type 0} (f : Item → List Y) (t : ℕ) →
    ((i : Item) → flat_map f (field_item t i.part i) ≡ f i) → (X : List Item)
    → flat_map f (field_items t X) ≡ flat_map f X
among f t same X = flat_flat f (λ i. field_item t i.part i) X ∙ ap (λ g. flat_map g X)
    (λ k i. same i k)

-- an item that is kept by the test that also decides what becomes of it
kept : (f : Item → List Item) (i x : Item) (b : Bool) → f i ≡ cond b (x ∷ []) []
    → flat_map f (cond b (i ∷ []) []) ≡ cond b (x ∷ []) []
kept f i x true h = ap (λ l. l ++ []) h
kept f i x false h = refl

moved_same : (t t' : ℕ) (q : Part) (u : Element) → flat_map (λ i. moved_part t t' i.part i.word)
    (field_item t q (item q u)) ≡ moved_part t t' q u
moved_same t t' tags u = refl
moved_same t t' (field v j) u = kept (λ i. moved_part t t' i.part i.word) (item (field v j) u)
    (item (field t' j) u) (nat_eq v t) refl
moved_same t t' (word j) u = refl

pub moved_among : (t t' : ℕ) (X : List Item) → flat_map (λ i. moved_part t t' i.part i.word)
    (field_items t X) ≡ flat_map (λ i. moved_part t t' i.part i.word) X
moved_among t t' = among (λ i. moved_part t t' i.part i.word) t (λ i. moved_same t t' i.part i.word)

argument_same : (t : ℕ) (q : Part) (u : Element) → flat_map (λ i. argument_part t i.part i.word)
    (field_item t q (item q u)) ≡ argument_part t q u
argument_same t tags u = refl
argument_same t (field v j) u = kept (λ i. argument_part t i.part i.word) (item (field v j) u)
    (item (word j) u) (nat_eq v t) refl
argument_same t (word j) u = refl

pub argument_among : (t : ℕ) (X : List Item) → flat_map (λ i. argument_part t i.part i.word)
    (field_items t X) ≡ flat_map (λ i. argument_part t i.part i.word) X
argument_among t = among (λ i. argument_part t i.part i.word) t (λ i. argument_same t i.part i.word)

-- arguments
pub arguments_same : (p : Tables) (H : Place → List Item) (t : ℕ) (ws : List Word) (X : List Item)
    (u : Element) → arguments_of p H t ws (field_items t X) u ≡ arguments_of p H t ws X u
arguments_same p H t ws X (Cell s) = refl
arguments_same p H t ws X (Tag u) = ap
    (λ l. cond (nat_eq u t) (l ++ after_fields p H ws (fields_of p t)) []) (argument_among t X)
arguments_same p H t ws X Number = refl

pub all_arguments : (p : Tables) (H : Place → List Item) (t : ℕ) (ws : List Word)
    (X fields : List Item) (found : List Element) → fields ≡ field_items t X
    → found ≡ words_in_part tags X → flat_map (arguments_of p H t ws fields) found ≡ flat_map
    (arguments_of p H t ws X) (words_in_part tags X)
all_arguments p H t ws X fields found e q = ap (λ Y. flat_map (arguments_of p H t ws Y) found) e ∙
    ap (λ f. flat_map f found) (λ k u. arguments_same p H t ws X u k) ∙ ap
    (flat_map (arguments_of p H t ws X)) q

-- functions that are given one argument more
applied_same : (p : Tables) (H : Place → List Item) (v : Val) (a : Word) (k : FlowSink)
    (u : Element) → tag_applied p H (as_nodes p (width (value v)) (value_items p H v)) a k u ≡
    applied p H v a k u
applied_same p H v a k (Cell s) = refl
applied_same p H v a k (Tag t) = go (called p t)
  where
    go : (o : Option ℕ) → call_facts p H (as_nodes p (width (value v)) (value_items p H v)) a k t o
        ≡ called_facts p H v a k t o
    go None = refl
    go (Some f) = refl
applied_same p H v a k Number = refl

pub all_applied : (p : Tables) (H : Place → List Item) (v : Val) (a : Word) (k : FlowSink)
    (X : List Item) (found : List Element) → X ≡ as_nodes p (width (value v)) (value_items p H v)
    → found ≡ words_in_part tags X → flat_map (tag_applied p H X a k) found ≡ facts_demanded p H
    (applies v a k)
all_applied p H v a k X found e q =
    ap (λ Y. flat_map (tag_applied p H Y a k) found) e ∙ ap (λ f. flat_map f found)
    (λ i u. applied_same p H v a k u i) ∙ ap (flat_map (applied p H v a k))
    (q ∙ ap (words_in_part tags) e)

-- a function with one argument more: its tag, then the fields, then the argument
pub longer_from : (p : Tables) (H : Place → List Item) (a : Word) (X fields : List Item) (t t' : ℕ)
    (m : Option ℕ) (out one two new : List Item) → fields ≡ field_items t X → m ≡ fields_of p t
    → one ≡ out ++ item tags (Tag t') ∷ [] → two ≡ one
    ++ flat_map (λ i. moved_part t t' i.part i.word) fields → new ≡ two ++ last_field p H a t' m
    → new ≡ out ++ longer_node p H a X t (Some t')
longer_from p H a X fields t t' m out one two new e q first second third =
    let x = item tags (Tag t') in
    let moved = flat_map (λ i. moved_part t t' i.part i.word) X in
    let last = last_field p H a t' (fields_of p t) in
    third ∙ ap (λ l. l ++ last_field p H a t' m)
    (second ∙ ap (λ l. l ++ flat_map (λ i. moved_part t t' i.part i.word) fields) first ∙ ap
    (λ Y. (out ++ x ∷ []) ++ flat_map (λ i. moved_part t t' i.part i.word) Y) e ∙ ap
    (λ l. (out ++ x ∷ []) ++ l) (moved_among t t' X))
    ∙ ap (λ k. ((out ++ x ∷ []) ++ moved) ++ last_field p H a t' k) q ∙ append_assoc (out ++ x ∷ [])
    moved last ∙ append_assoc out (x ∷ []) (moved ++ last)

-- a delayed call: its arguments at the parameters, and the evaluated results at the site
pub delayed_from : (p : Tables) (H : Place → List Item) (X : List Item) (s t f : ℕ)
    (out one new : List Fact) → X ≡ as_nodes p None (H (Site s)) → one ≡ out
    ++ target_facts p (Some 1) (call_arguments p H X t []) (params_of p f)
    → new ≡ one ++ flow_facts p H (evaluated (held (Result f))) (into_site s) → new ≡ out
    ++ delayed_facts p H s t (Some f)
delayed_from p H X s t f out one new e first second =
    let results = flow_facts p H (evaluated (held (Result f))) (into_site s) in
    let calls = target_facts p (Some 1) (call_arguments p H (as_nodes p None (H (Site s))) t [])
    (params_of p f) in
    second ∙ ap (λ l. l ++ results)
    (first ∙ ap
    (λ Y. out ++ target_facts p (Some 1) (call_arguments p H Y t []) (params_of p f)) e) ∙
    append_assoc out calls results
