-- The tables over several modules: names, constructors, and what each module exports.
use Rattle.std.proofs.Common.{◌≡◌, ℕ, zero, suc, ◌+◌, Bool, true, false, cond, List, [], ◌∷◌, ◌++◌, map, take, refl, sym, ap, subst, ◌∙◌, add-one, Option, Some, None, inl, inr}
use Rattle.std.specs.Prelude.{◌||◌, not, is_none, is_some, slice_get, if◌then◌else◌}
use Rattle.std.specs.List.{list_any, position_or_len}
use Rattle.std.specs.HashSet.{HashSet}
use Rattle.std.specs.Str.{bytes_eq}
use Rattle.std.proofs.lemmas.List.Folds.{list_any-append}
use denote.Ref.{Bor}
use Rattle.indexmap.specs.IndexMap.{insert_entry}
use Rattle.seq.proofs.Truth.{two_ways}
use Rattle.seq.proofs.Lists.{map_append}
use Rattle.core_reader.specs.NamesOf.{with_name}
use Rattle.core_reader.specs.LexedOf.{texts_of}
use Rattle.core_reader.proofs.NamingOf.{itself}
use Rattle.core_reader.proofs.Lexing.{numbered}
use Rattle.arity_check.proofs.Names.{same_bytes}
use Rattle.core_link.specs.Module.{Module, name_of}
use Rattle.core_link.specs.Rules.{module_named}
use Rattle.core_link.specs.Shared.{has, exports_text, constructor_texts, declares, found_at, lacks, HasExports, IsIndex, TablesMatchModules}
use Rattle.core_link.proofs.Betweens.{unexported_by}

-- ---- texts

pub or_false : (b : Bool) → (b || false) ≡ b
or_false true = refl
or_false false = refl

pub or_again : (a b c : Bool) → ((a || b) || c) ≡ (a || (b || c))
or_again true b c = refl
or_again false b c = refl

pub any_push : {X : Type 0} (test : X → Bool) (xs : List X) (x : X)
    → list_any test (xs ++ x ∷ []) ≡ (list_any test xs || test x)
any_push test xs x = list_any-append test xs (x ∷ []) ∙ ap (λ b. list_any test xs || b)
    (or_false (test x))

kept_name : (names : List (List ℕ)) (w v : List ℕ) → has names w ≡ true
    → has names v ≡ (has names v || bytes_eq v w)
kept_name names w v e = elim (two_ways (bytes_eq v w)) [
  | inl y ↦
      let there : has names v ≡ true = ap (has names) (same_bytes v w y) ∙ e in
      there ∙ sym (ap (λ b. b || bytes_eq v w) there)
  | inr n ↦ sym (ap (λ b. has names v || b) n ∙ or_false (has names v))
]

has_with : (names : List (List ℕ)) (w v : List ℕ) → has (with_name names w) v ≡
    (has names v || bytes_eq v w)
has_with names w v = elim (two_ways (has names w)) [
  | inl y ↦ ap (λ b. has (if b then names else names ++ w ∷ []) v) y ∙ kept_name names w v y
  | inr n ↦ ap (λ b. has (if b then names else names ++ w ∷ []) v) n ∙ any_push (bytes_eq v) names w
]

pub inserted : (eq : Bor (List ℕ) → Bor (List ℕ) → Bool)
    → ((a b : Bor (List ℕ)) → eq a b ≡ bytes_eq a.now b.now)
    → (w : Bor (List ℕ)) (keys new : List (Bor (List ℕ)))
    → new ≡ (if list_any (eq w) keys then keys else keys ++ w ∷ []) → (v : List ℕ)
    → has (texts_of new) v ≡ (has (texts_of keys) v || bytes_eq v w.now)
inserted eq h w keys new e v = ap (λ names. has names v)
    (numbered eq h w keys new (position_or_len (eq w) keys) e refl).0 ∙ has_with (texts_of keys)
    w.now v

pub has_texts : (keys : List (Bor (List ℕ))) (w : List ℕ)
    → list_any (λ k. bytes_eq w k.now) keys ≡ has (texts_of keys) w
has_texts [] w = refl
has_texts (k ∷ keys) w = ap (λ b. bytes_eq w k.now || b) (has_texts keys w)

pub not_not : (b : Bool) → not (not b) ≡ b
not_not true = refl
not_not false = refl

pub not_some : {X : Type 0} (o : Option X) → not (is_some o) ≡ is_none o
not_some None = refl
not_some (Some x) = refl

pub none_from : {X : Type 0} (o : Option X) → is_some o ≡ false → o ≡ None
none_from None e = refl
none_from (Some x) e = cc

-- ---- what modules export

apart : (k e w : List ℕ) → bytes_eq k e ≡ false → bytes_eq w e ≡ true → bytes_eq w k ≡ true → ⊥
apart k e w n y z = never (sym n ∙ ap (λ u. bytes_eq u e) (sym (same_bytes w k z)) ∙ y)
  where
    never : false ≡ true → ⊥
    never e = cc

module _ {V : Type 0} (eq : Bor (List ℕ) → Bor (List ℕ) → Bool)
    (h : (a b : Bor (List ℕ)) → eq a b ≡ bytes_eq a.now b.now) where
  twice : (b : Bool) (v u : V) (o : Option V) → cond b (Some v) o ≡ cond b (Some v)
      (cond b (Some u) o)
  twice true v u o = refl
  twice false v u o = refl

  other : (be bk : Bool) (v u : V) (o : Option V) → (be ≡ true → bk ≡ true → ⊥)
      → cond be (Some u) (cond bk (Some v) o) ≡ cond bk (Some v) (cond be (Some u) o)
  other true true v u o n = absurd (n refl refl)
  other true false v u o n = refl
  other false bk v u o n = refl

  found_insert : (es : List (Bor (List ℕ) × V)) (k : Bor (List ℕ)) (v : V) (w : List ℕ)
      → found_at (insert_entry eq es k v) w ≡ cond (bytes_eq w k.now) (Some v) (found_at es w)
  found_insert [] k v w = refl
  found_insert (e ∷ es) k v w = elim (two_ways (bytes_eq k.now e.0.now)) [
    | inl y ↦
        ap (λ b. found_at (if b then (e.0, v) ∷ es else e ∷ insert_entry eq es k v) w) (h k e.0 ∙ y)
        ∙ twice (bytes_eq w e.0.now) v e.1 (found_at es w)
        ∙ ap (λ u. cond (bytes_eq w u) (Some v) (found_at (e ∷ es) w))
        (sym (same_bytes k.now e.0.now y))
    | inr n ↦
        ap (λ b. found_at (if b then (e.0, v) ∷ es else e ∷ insert_entry eq es k v) w) (h k e.0 ∙ n)
        ∙ ap (λ o. cond (bytes_eq w e.0.now) (Some e.1) o) (found_insert es k v w)
        ∙ other (bytes_eq w e.0.now) (bytes_eq w k.now) v e.1 (found_at es w)
        (apart k.now e.0.now w n)
  ]

abbrev first_of : {X : Type 0} → Option X → Option X → Option X
first_of None o = o
first_of (Some x) o = Some x

first_only : {X : Type 0} (o : Option X) → first_of o None ≡ o
first_only None = refl
first_only (Some x) = refl

named_by : (b : Bool) (q : Module) (o p all : Option Module) → all ≡ first_of o p
    → cond b (Some q) all ≡ first_of (cond b (Some q) o) p
named_by true q o p all e = refl
named_by false q o p all e = e

named_push : (ms : List Module) (m : Module) (w : List ℕ)
    → module_named (ms ++ m ∷ []) w ≡ first_of (module_named ms w)
    (cond (bytes_eq (name_of m) w) (Some m) None)
named_push [] m w = refl
named_push (q ∷ ms) m w = named_by (bytes_eq (name_of q) w) q (module_named ms w)
    (cond (bytes_eq (name_of m) w) (Some m) None) (module_named (ms ++ m ∷ []) w)
    (named_push ms m w)

abbrev Set : Type 0 → Type 0
Set S = HashSet (Bor (List ℕ)) S

module _ {S : Type 0} where
  none_there : (o : Option Module) (e : Option (Set S)) → HasExports o e → e ≡ None → o ≡ None
  none_there None e h n = refl
  none_there (Some m) None h n = absurd h
  none_there (Some m) (Some s) h n = absurd (never n)
    where
      never : Some s ≡ None → ⊥
      never e = cc

  some_there : (o : Option Module) (e : Option (Set S)) → HasExports o e → is_some e ≡ true
      → (p : Option Module) → HasExports (first_of o p) e
  some_there None None h y p = absurd cc
  some_there None (Some s) h y p = absurd h
  some_there (Some m) e h y p = h

  pub none_same : (o : Option Module) (e : Option (Set S)) → HasExports o e → is_none e ≡ is_none o
  none_same None None h = refl
  none_same None (Some s) h = absurd h
  none_same (Some m) None h = absurd h
  none_same (Some m) (Some s) h = refl

  pub lacks_same : (o : Option Module) (e : Option (Set S)) → HasExports o e → (w : List ℕ)
      → lacks e w ≡ unexported_by o w
  lacks_same None None h w = refl
  lacks_same None (Some s) h w = absurd h
  lacks_same (Some m) None h w = absurd h
  lacks_same (Some m) (Some s) h w = ap not (h w)

  -- a module of a name that stands there already
  pub index_kept : (ms : List Module) (m : Module) (es : List (Bor (List ℕ) × Set S))
      → IsIndex ms es → is_some (found_at es (name_of m)) ≡ true → IsIndex (ms ++ m ∷ []) es
  index_kept ms m es h y w = subst (λ o. HasExports o (found_at es w)) (sym (named_push ms m w))
      (elim (two_ways (bytes_eq (name_of m) w)) [
        | inl s ↦ some_there (module_named ms w) (found_at es w) (h w)
            (ap (λ u. is_some (found_at es u)) (sym (same_bytes (name_of m) w s)) ∙ y)
            (cond (bytes_eq (name_of m) w) (Some m) None)
        | inr n ↦ subst (λ o. HasExports o (found_at es w))
            (sym (ap (λ b. first_of (module_named ms w) (cond b (Some m) None)) n ∙ first_only
            (module_named ms w))) (h w)
      ])

  module _ (eq : Bor (List ℕ) → Bor (List ℕ) → Bool)
      (by : (a b : Bor (List ℕ)) → eq a b ≡ bytes_eq a.now b.now) (ms : List Module) (m : Module)
      (es : List (Bor (List ℕ) × Set S)) (k : Bor (List ℕ)) (s : Set S) (index : IsIndex ms es)
      (key : k.now ≡ name_of m)
      (absent : found_at es k.now ≡ None)
      (texts : (w : List ℕ) → has (texts_of s.keys) w ≡ exports_text m w) where
    with_new : (w : List ℕ) (b : Bool) → bytes_eq w k.now ≡ b
        → HasExports (first_of (module_named ms w) (cond (bytes_eq (name_of m) w) (Some m) None))
        (cond b (Some s) (found_at es w))
    with_new w true e =
        let word : w ≡ k.now = same_bytes w k.now e in
        let none : module_named ms w ≡ None = none_there (module_named ms w) (found_at es w)
        (index w) (ap (found_at es) word ∙ absent) in
        let own : bytes_eq (name_of m) w ≡ true = ap (bytes_eq (name_of m)) (word ∙ key) ∙ itself
        (name_of m) in
        subst (λ o. HasExports o (Some s))
        (sym (ap (λ o. first_of o (cond (bytes_eq (name_of m) w) (Some m) None)) none ∙ ap
        (λ b. cond b (Some m) None) own)) texts
    with_new w false e =
        subst (λ o. HasExports o (found_at es w))
        (sym (ap (λ b. first_of (module_named ms w) (cond b (Some m) None))
        (differs (bytes_eq (name_of m) w) refl) ∙ first_only (module_named ms w))) (index w)
      where
        differs : (b : Bool) → bytes_eq (name_of m) w ≡ b → b ≡ false
        differs false f = refl
        differs true f =
            let word : w ≡ k.now = sym (same_bytes (name_of m) w f) ∙ sym key in
            sym (ap (λ u. bytes_eq u k.now) word ∙ itself k.now) ∙ e

    -- a module of a new name
    pub index_next : IsIndex (ms ++ m ∷ []) (insert_entry eq es k s)
    index_next w =
        subst (λ e. HasExports (module_named (ms ++ m ∷ []) w) e)
        (sym (found_insert eq by es k s w))
        (subst (λ o. HasExports o (cond (bytes_eq w k.now) (Some s) (found_at es w)))
        (sym (named_push ms m w)) (with_new w (bytes_eq w k.now) refl))

-- ---- the modules before one

pub take_at : {X : Type 0} (xs : List X) (i : ℕ) (x : X) → slice_get xs i ≡ Some x
    → take (i + 1) xs ≡ take i xs ++ x ∷ []
take_at {X = X} xs i x e = rw add-one (by xs i e)
  where
    by : (xs : List X) (i : ℕ) → slice_get xs i ≡ Some x → take (suc i) xs ≡ take i xs ++ x ∷ []
    by [] i e = absurd cc
    by (y ∷ xs) zero e = let same : y ≡ x = cc in ap (λ z. z ∷ []) same
    by (y ∷ xs) (suc i) e = ap (λ zs. y ∷ zs) (by xs i e)

pub none_held : (ms : List Module) → TablesMatchModules ms 0 [] []
none_held ms = record { names = λ w. refl; constructors = λ w. refl }

pub holds_next : (ms : List Module) (file : ℕ) (m : Module)
    (named declared named' declared' : List (Bor (List ℕ))) → slice_get ms file ≡ Some m
    → TablesMatchModules ms file named declared
    → ((w : List ℕ) → has (texts_of named') w ≡ (has (texts_of named) w || bytes_eq w (name_of m)))
    → ((w : List ℕ) → has (texts_of declared') w ≡
    (has (texts_of declared) w || has (constructor_texts m) w))
    → TablesMatchModules ms (file + 1) named' declared'
holds_next ms file m named declared named' declared' is h names constructors = record {
  names = λ w. names w ∙ ap (λ b. b || bytes_eq w (name_of m)) (h.names w) ∙ sym
      (any_push (bytes_eq w) (map name_of (take file ms)) (name_of m)) ∙ ap (λ ws. has ws w)
      (sym (map_append name_of (take file ms) (m ∷ []))) ∙ ap (λ qs. has (map name_of qs) w)
      (sym (take_at ms file m is));
  constructors = λ w. constructors w ∙ ap (λ b. b || has (constructor_texts m) w) (h.constructors w)
      ∙ sym (any_push (λ q. has (constructor_texts q) w) (take file ms) m) ∙ ap
      (λ qs. declares qs w) (sym (take_at ms file m is));
}
