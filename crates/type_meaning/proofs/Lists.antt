-- The list's type and its constructors, by their numbers.
use Rattle.std.proofs.Common.{◌≡◌, ℕ, zero, suc, ◌+◌, ◌<◌, Bool, true, false, cond, not, nat_eq, nat_lt, List, [], ◌∷◌, map, length, Option, Some, None, slice_get, refl, sym, ap, ◌∙◌, subst, arith, eqb-true, inl, inr}
use Rattle.std.specs.Prelude.{◌⊎◌, ◌||◌, ◌&&◌, codes, if◌then◌else◌}
use Rattle.std.specs.List.{position_or_len, find}
use Rattle.std.specs.Str.{bytes_eq}
use Rattle.std.proofs.lemmas.Slice.Eq.{bytes_eq-Decides}
use Rattle.std.proofs.lemmas.Bool.{eq-eqb, ltb-false}
use Rattle.seq.proofs.Lists.{some_is, none_is_some}
use Rattle.core_reader.specs.declared.syntax.Binder.{Binder}
use Rattle.core_reader.specs.Tree as tree
use Rattle.arity_check.specs.declared.normal.Con as arity
use Rattle.arity_check.specs.Program as normal
use Rattle.arity_check.specs.Scope.{con_number}
use Rattle.arity_check.specs.Normal.{Pairwise, IsConstructor}
use Rattle.arity_check.proofs.Names.{same_bytes}
use Rattle.core_types.specs.Source.{Written, WrittenTypes, NoTypes, AndType, Constructor, TypeDecl, Source, data_of, erased}
use Rattle.core_types.specs.Source as written
use Rattle.core_types.specs.Rules.{IsUnbroken, ListType, ReservedType}
use Rattle.core_types.proofs.Finding.{find_none, find_some}
use Rattle.core_types.specs.Lists.{is_list, is_list_of, is_named, is_var, is_empty, is_one_var, is_applied, is_tail, is_item_and_tail, are_list_constructors, has_list_constructors}
use Rattle.core_types.specs.Typing.{Typed, Types, Int, Named, NoTypeds, AndTyped, constructor_by_name, integers, applied, read_list}
use Rattle.core_types.specs.Typing as types
use Rattle.core_meaning.specs.Evaluation.{nil, cons, con_named}
use Rattle.type_meaning.specs.SourceTypes.{ConstructorHasType}
use Rattle.type_meaning.proofs.Constructors.{pair_on, pair_back, placed, one_place, Different, data_place, declared_exactly}
use Rattle.type_meaning.proofs.Cases.{constructor_of}

-- ---- tests

both : (a b : Bool) → (a && b) ≡ true → (a ≡ true) × (b ≡ true)
both true b e = (refl, e)
both false b e = absurd cc

one_of : (a b : Bool) → (a || b) ≡ true → (a ≡ true) ⊎ (b ≡ true)
one_of true b e = inl refl
one_of false b e = inr e

place_below : {X : Type 0} (test : X → Bool) (xs : List X) (i : ℕ) (x : X) → slice_get xs i ≡ Some x
    → test x ≡ true → position_or_len test xs < length xs
place_below test [] i x e h = none_is_some e
place_below test (y ∷ ys) i x e h = by_test (test y) refl i e (λ i e. place_below test ys i x e h)
  where
    by_test : (b : Bool) → test y ≡ b → (i : ℕ) → slice_get (y ∷ ys) i ≡ Some x
        → ((i : ℕ) → slice_get ys i ≡ Some x → position_or_len test ys < length ys)
        → cond (not b) (1 + position_or_len test ys) 0 < suc (length ys)
    by_test true q i e k = omega arith
    by_test false q zero e k = let z : true ≡ false = sym h ∙ ap test (sym (some_is e)) ∙ q
        in absurd cc
    by_test false q (suc i) e k = let l = k i e in omega (arith, l)

some_place : {X : Type 0} (test : X → Bool) (xs : List X) (i : ℕ) (x : X) → slice_get xs i ≡ Some x
    → test x ≡ true → (n : ℕ) ×
    (cond (nat_lt (position_or_len test xs) (length xs)) (Some (position_or_len test xs)) None ≡
    Some n)
some_place test xs i x e h =
    (position_or_len test xs, by_test (nat_lt (position_or_len test xs) (length xs)) refl)
  where
    lt : position_or_len test xs < length xs
    lt = place_below test xs i x e h

    by_test : (b : Bool) → nat_lt (position_or_len test xs) (length xs) ≡ b
        → cond b (Some (position_or_len test xs)) None ≡ Some (position_or_len test xs)
    by_test true q = refl
    by_test false q = let le = ltb-false (position_or_len test xs) (length xs) q
        in absurd (omega (arith, le, lt))

-- ---- constructors by their texts

record FirstNamed (name : List ℕ) (cs : List arity.Con) : Type 0 where
  con : arity.Con
  is : slice_get cs (con_named name cs) ≡ Some con
  same : con.name ≡ name

first_named : (name : List ℕ) (cs : List arity.Con) (i : ℕ) (c : arity.Con)
    → slice_get cs i ≡ Some c → c.name ≡ name → FirstNamed name cs
first_named name [] i c e q = none_is_some e
first_named name (d ∷ cs) i c e q = let r = by_test (bytes_eq name d.name) refl i e
    (λ i e. first_named name cs i c e q) in record { con = r.0; is = r.1; same = r.2 }
  where
    by_test : (b : Bool) → bytes_eq name d.name ≡ b → (i : ℕ) → slice_get (d ∷ cs) i ≡ Some c
        → ((i : ℕ) → slice_get cs i ≡ Some c → FirstNamed name cs)
        → (con : arity.Con) × (slice_get (d ∷ cs) (cond b 0 (con_named name cs + 1)) ≡ Some con)
        × (con.name ≡ name)
    by_test true t i e k = (d, refl, sym (same_bytes name d.name t))
    by_test false t zero e k =
        let same : name ≡ d.name = sym q ∙ ap (λ (c : arity.Con). c.name) (sym (some_is e)) in
        let z : true ≡ false = sym ((bytes_eq-Decides name d.name).1 same) ∙ t in absurd cc
    by_test false t (suc i) e k = let r = k i e in let z
        : suc (con_named name cs) ≡ con_named name cs + 1 = omega arith
        in (r.con, subst (λ n. slice_get (d ∷ cs) n ≡ Some r.con) z r.is, r.same)

-- ---- the type of lists

pub record IsListType (s : Source) (d : TypeDecl) : Type 0 where
  pub param : Binder
  pub params : d.params ≡ param ∷ []
  pub nil : Constructor
  pub cons : Constructor
  pub nil_place : ℕ
  pub nil_at : slice_get d.constructors nil_place ≡ Some nil
  pub cons_place : ℕ
  pub cons_at : slice_get d.constructors cons_place ≡ Some cons
  pub either : (j : ℕ) (e : Constructor) → slice_get d.constructors j ≡ Some e → (e ≡ nil)
      ⊎ (e ≡ cons)
  pub nil_named : is_named s (codes "Nil") nil.name.name.0 ≡ true
  pub nil_fields : is_empty nil.fields ≡ true
  pub cons_named : is_named s (codes "Cons") cons.name.name.0 ≡ true
  pub cons_fields : is_item_and_tail d.name.name.0 param.name.0 cons.fields ≡ true

pub list_type : (s : Source) (d : TypeDecl) → is_list s d ≡ true → IsListType s d
list_type s d e = by_params d.params refl e
  where
    by_constructors : (a : Binder) → d.params ≡ a ∷ [] → (cs : List Constructor)
        → d.constructors ≡ cs → has_list_constructors (is_named s (codes "Nil"))
        (is_named s (codes "Cons")) d.name.name.0 a.name.0 cs ≡ true → IsListType s d
    by_constructors a q [] i h = absurd cc
    by_constructors a q (c ∷ []) i h = absurd cc
    by_constructors a q (c ∷ c' ∷ []) i h = by_order
        (one_of (are_list_constructors (is_named s (codes "Nil")) (is_named s (codes "Cons"))
        d.name.name.0 a.name.0 c c')
        (are_list_constructors (is_named s (codes "Nil")) (is_named s (codes "Cons")) d.name.name.0
        a.name.0 c' c) h)
      where
        places : (j : ℕ) (e : Constructor) → slice_get (c ∷ c' ∷ []) j ≡ Some e → (e ≡ c) ⊎ (e ≡ c')
        places zero e k = inl (sym (some_is k))
        places (suc zero) e k = inr (sym (some_is k))
        places (suc (suc j)) e k = none_is_some k

        turned : (e : Constructor) → (e ≡ c) ⊎ (e ≡ c') → (e ≡ c') ⊎ (e ≡ c)
        turned e (inl k) = inr k
        turned e (inr k) = inl k

        at : (j : ℕ) (e : Constructor) → slice_get (c ∷ c' ∷ []) j ≡ Some e
            → slice_get d.constructors j ≡ Some e
        at j e k = ap (λ cs. slice_get cs j) i ∙ k

        by_order :
            (are_list_constructors (is_named s (codes "Nil")) (is_named s (codes "Cons"))
            d.name.name.0 a.name.0 c c' ≡ true)
            ⊎ (are_list_constructors (is_named s (codes "Nil")) (is_named s (codes "Cons"))
            d.name.name.0 a.name.0 c' c ≡ true) → IsListType s d
        by_order (inl h) = record {
          param = a;
          params = q;
          nil = c;
          cons = c';
          nil_place = 0;
          nil_at = at 0 c refl;
          cons_place = 1;
          cons_at = at 1 c' refl;
          either = λ j e k. places j e (sym (ap (λ cs. slice_get cs j) i) ∙ k);
          nil_named =
              (both (is_named s (codes "Nil") c.name.name.0) (is_empty c.fields)
              (both ((is_named s (codes "Nil") c.name.name.0) && (is_empty c.fields))
              ((is_named s (codes "Cons") c'.name.name.0) &&
              (is_item_and_tail d.name.name.0 a.name.0 c'.fields)) h).0).0;
          nil_fields =
              (both (is_named s (codes "Nil") c.name.name.0) (is_empty c.fields)
              (both ((is_named s (codes "Nil") c.name.name.0) && (is_empty c.fields))
              ((is_named s (codes "Cons") c'.name.name.0) &&
              (is_item_and_tail d.name.name.0 a.name.0 c'.fields)) h).0).1;
          cons_named =
              (both (is_named s (codes "Cons") c'.name.name.0)
              (is_item_and_tail d.name.name.0 a.name.0 c'.fields)
              (both ((is_named s (codes "Nil") c.name.name.0) && (is_empty c.fields))
              ((is_named s (codes "Cons") c'.name.name.0) &&
              (is_item_and_tail d.name.name.0 a.name.0 c'.fields)) h).1).0;
          cons_fields =
              (both (is_named s (codes "Cons") c'.name.name.0)
              (is_item_and_tail d.name.name.0 a.name.0 c'.fields)
              (both ((is_named s (codes "Nil") c.name.name.0) && (is_empty c.fields))
              ((is_named s (codes "Cons") c'.name.name.0) &&
              (is_item_and_tail d.name.name.0 a.name.0 c'.fields)) h).1).1;
        }
        by_order (inr h) = record {
          param = a;
          params = q;
          nil = c';
          cons = c;
          nil_place = 1;
          nil_at = at 1 c' refl;
          cons_place = 0;
          cons_at = at 0 c refl;
          either = λ j e k. turned e (places j e (sym (ap (λ cs. slice_get cs j) i) ∙ k));
          nil_named =
              (both (is_named s (codes "Nil") c'.name.name.0) (is_empty c'.fields)
              (both ((is_named s (codes "Nil") c'.name.name.0) && (is_empty c'.fields))
              ((is_named s (codes "Cons") c.name.name.0) &&
              (is_item_and_tail d.name.name.0 a.name.0 c.fields)) h).0).0;
          nil_fields =
              (both (is_named s (codes "Nil") c'.name.name.0) (is_empty c'.fields)
              (both ((is_named s (codes "Nil") c'.name.name.0) && (is_empty c'.fields))
              ((is_named s (codes "Cons") c.name.name.0) &&
              (is_item_and_tail d.name.name.0 a.name.0 c.fields)) h).0).1;
          cons_named =
              (both (is_named s (codes "Cons") c.name.name.0)
              (is_item_and_tail d.name.name.0 a.name.0 c.fields)
              (both ((is_named s (codes "Nil") c'.name.name.0) && (is_empty c'.fields))
              ((is_named s (codes "Cons") c.name.name.0) &&
              (is_item_and_tail d.name.name.0 a.name.0 c.fields)) h).1).0;
          cons_fields =
              (both (is_named s (codes "Cons") c.name.name.0)
              (is_item_and_tail d.name.name.0 a.name.0 c.fields)
              (both ((is_named s (codes "Nil") c'.name.name.0) && (is_empty c'.fields))
              ((is_named s (codes "Cons") c.name.name.0) &&
              (is_item_and_tail d.name.name.0 a.name.0 c.fields)) h).1).1;
        }
    by_constructors a q (c ∷ c' ∷ c'' ∷ cs) i h = absurd cc

    by_params : (ps : List Binder) → d.params ≡ ps → is_list_of (is_named s (codes "Nil"))
        (is_named s (codes "Cons")) d ps ≡ true → IsListType s d
    by_params [] q h = absurd cc
    by_params (a ∷ []) q h = by_constructors a q d.constructors refl h
    by_params (a ∷ b ∷ ps) q h = absurd cc

is_one_var_is : (x : ℕ) (ws : WrittenTypes) → is_one_var x ws ≡ true → (b : Binder)
    × (ws ≡ AndType (written.Var b) NoTypes) × (b.name.0 ≡ x)
is_one_var_is x NoTypes e = absurd cc
is_one_var_is x (AndType (written.Named b args) ws) e = absurd cc
is_one_var_is x (AndType (written.Arrow a b) ws) e = absurd cc
is_one_var_is x (AndType (written.Var b) NoTypes) e
    = (b, refl, eqb-true b.name.0 x (both (nat_eq b.name.0 x) true e).0)
is_one_var_is x (AndType (written.Var b) (AndType w ws)) e
    = absurd (let r = both (nat_eq b.name.0 x) false e in let z : false ≡ true = r.1 in cc)

-- the fields of `Cons`, where the parameter is an integer
pub item_and_tail : (s : Source) (name x : ℕ) (ws : WrittenTypes) (var : ℕ → Typed)
    → is_item_and_tail name x ws ≡ true → is_named s (codes "Int") name ≡ false
    → read_list s var ws ≡ var x ∷ Named name (AndTyped (var x) NoTypeds) ∷ []
item_and_tail s name x NoTypes var e n = absurd cc
item_and_tail s name x (AndType w ws) var e n =
    let r = both (is_var x w) (is_tail name x ws) e in (λ i. head w r.0 i ∷ tail ws r.1 i)
  where
    head : (w : Written) → is_var x w ≡ true → types.read s var w ≡ var x
    head (written.Var b) e = ap var (eqb-true b.name.0 x e)
    head (written.Named b args) e = absurd cc
    head (written.Arrow a b) e = absurd cc

    applied_is : (w : Written) → is_applied name x w ≡ true
        → types.read s var w ≡ Named name (AndTyped (var x) NoTypeds)
    applied_is (written.Var b) e = absurd cc
    applied_is (written.Arrow a b) e = absurd cc
    applied_is (written.Named b args) e =
        let r = both (nat_eq b.name.0 name) (is_one_var x args) e in
        let same : b.name.0 ≡ name = eqb-true b.name.0 name r.0 in
        let one = is_one_var_is x args r.1 in
        ap (λ t. if t then Int else Named b.name.0 (types.read_all s var args))
        (ap (is_named s (codes "Int")) same ∙ n)
        ∙ ap (λ m. Named m (types.read_all s var args)) same
        ∙ ap (λ ws. Named name (types.read_all s var ws)) one.1
        ∙ ap (λ y. Named name (AndTyped (var y) NoTypeds)) one.2

    tail : (ws : WrittenTypes) → is_tail name x ws ≡ true
        → read_list s var ws ≡ Named name (AndTyped (var x) NoTypeds) ∷ []
    tail NoTypes e = absurd cc
    tail (AndType w NoTypes) e = ap (λ t. t ∷ [])
        (applied_is w (both (is_applied name x w) true e).0)
    tail (AndType w (AndType v ws)) e = absurd
        (let r = both (is_applied name x w) false e in let z : false ≡ true = r.1 in cc)

no_fields : (s : Source) (ws : WrittenTypes) (var : ℕ → Typed) → is_empty ws ≡ true
    → read_list s var ws ≡ []
no_fields s NoTypes var e = refl
no_fields s (AndType w ws) var e = absurd cc

module _ (s : Source) (p : normal.Program) (unbroken : IsUnbroken s)
    (paired : Pairwise (IsConstructor (erased s)) (erased s).constructors p.cons)
    (different : (i j : ℕ) (b : List ℕ) → slice_get s.names i ≡ Some b
    → slice_get s.names j ≡ Some b → i ≡ j) where
  text_of : (text : List ℕ) (n : ℕ) → is_named s text n ≡ true → slice_get s.names n ≡ Some text
  text_of text n e = by_text (slice_get s.names n) refl e
    where
      by_text : (o : Option (List ℕ)) → slice_get s.names n ≡ o
          → elim o as (λ _. Bool) [ Some b ↦ bytes_eq b text | None ↦ false ] ≡ true
          → slice_get s.names n ≡ Some text
      by_text None q e = absurd cc
      by_text (Some b) q e = q ∙ ap (λ b. Some b) (same_bytes b text e)

  -- the first constructor of a text has the number of the constructor of that name
  named_number : (text : List ℕ) (n i : ℕ) (c : Constructor) → is_named s text n ≡ true
      → c.name.name.0 ≡ n → slice_get (erased s).constructors i ≡ Some (data_of c)
      → con_number (erased s) n ≡ Some (con_named text p.cons)
  named_number text n i c e named at =
      let here : slice_get s.names n ≡ Some text = text_of text n e in
      let on = pair_on (IsConstructor (erased s)) (erased s).constructors p.cons i (data_of c)
      paired at in
      let name : on.other.name ≡ text = some_is
      (sym on.pair.name ∙ ap (λ n. slice_get s.names n) named ∙ here) in
      let first = first_named text p.cons i on.other on.is name in
      let back = pair_back (IsConstructor (erased s)) (erased s).constructors p.cons
      (con_named text p.cons) first.con paired first.is in
      let same : back.other.name ≡ n = different back.other.name n text
      (subst (λ b. slice_get s.names back.other.name ≡ Some b) first.same back.pair.name) here
      in
      let some = some_place (λ (d : tree.Data). nat_eq d.name n) (erased s).constructors i
      (data_of c) at (eq-eqb c.name.name.0 n named) in
      let r = placed (λ (d : tree.Data). nat_eq d.name n) (erased s).constructors some.0 some.1 in
      let one : some.0 ≡ con_named text p.cons = one_place s p unbroken paired some.0
      (con_named text p.cons) r.item back.other r.is back.is
      (same ∙ sym (eqb-true r.item.name n r.passes)) in
      subst (λ m. con_number (erased s) n ≡ Some m) one some.1

  record Integers : Type 0 where
    type : TypeDecl
    place : ℕ
    at : slice_get s.types place ≡ Some type
    list : IsListType s type
    is : integers s ≡ Named type.name.name.0 (AndTyped Int NoTypeds)

  the_integers : Integers
  the_integers = by_found (find (is_list s) s.types) refl
    where
      by_found : (o : Option TypeDecl) → find (is_list s) s.types ≡ o → Integers
      by_found None e = absurd
          (unbroken 86 0 (ListType (λ i d h. find_none (is_list s) s.types i d e h)))
      by_found (Some d) e =
          let r = find_some (is_list s) s.types d e in
          record {
            type = d;
            place = r.0;
            at = r.1;
            list = list_type s d r.2;
            is
                = ap (λ o. elim o as (λ _. Typed)
                [ Some d ↦ Named d.name.name.0 (AndTyped Int NoTypeds) | None ↦ Int ]) e;
          }

  -- integers for the parameter
  abbrev var : ℕ → Typed
  var n = Int

  integers_applied : integers s ≡ applied s the_integers.type var
  integers_applied = the_integers.is ∙ ap
      (λ ps. Named the_integers.type.name.name.0
      (types.all_of s (map (λ (b : Binder). var b.name.0) ps))) (sym the_integers.list.params)

  different_data : Different (erased s).constructors
  different_data = one_place s p unbroken paired

  abbrev the_type : TypeDecl
  the_type = the_integers.type

  -- a constructor of the list's type has the number of its text
  list_number : (text : List ℕ) (c : Constructor) (j : ℕ) → is_named s text c.name.name.0 ≡ true
      → slice_get the_type.constructors j ≡ Some c → con_number (erased s) c.name.name.0 ≡ Some
      (con_named text p.cons)
  list_number text c j e at =
      let k = data_place s.types the_integers.place j the_type c the_integers.at at in
      named_number text c.name.name.0 k.0 c e refl k.1

  list_con : (text : List ℕ) (c : Constructor) (j : ℕ) (ts : List Typed)
      → is_named s text c.name.name.0 ≡ true → slice_get the_type.constructors j ≡ Some c
      → ts ≡ read_list s var c.fields → ConstructorHasType s (con_named text p.cons) ts (integers s)
  list_con text c j ts e at q = record {
    name = c.name.name.0;
    number = list_number text c j e at;
    type = the_type;
    constructor = c;
    declared = declared_exactly s.types the_integers.place j the_type c different_data
        the_integers.at at;
    var = var;
    fields = q;
    result = integers_applied;
  }

  not_int : is_named s (codes "Int") the_type.name.name.0 ≡ false
  not_int = by_test (is_named s (codes "Int") the_type.name.name.0) refl
    where
      by_test : (b : Bool) → is_named s (codes "Int") the_type.name.name.0 ≡ b → b ≡ false
      by_test false e = refl
      by_test true e = absurd
          (unbroken 81 the_type.name.at (ReservedType the_integers.place the_integers.at e))

  pub nil_has : ConstructorHasType s (nil p) [] (integers s)
  nil_has = let l = the_integers.list in list_con (codes "Nil") l.nil l.nil_place [] l.nil_named
      l.nil_at (sym (no_fields s l.nil.fields var l.nil_fields))

  pub cons_has : ConstructorHasType s (cons p) (Int ∷ integers s ∷ []) (integers s)
  cons_has =
      let l = the_integers.list in
      let fields = item_and_tail s the_type.name.name.0 l.param.name.0 l.cons.fields var
      l.cons_fields not_int in
      list_con (codes "Cons") l.cons l.cons_place (Int ∷ integers s ∷ []) l.cons_named l.cons_at
      (ap (λ t. Int ∷ t ∷ []) the_integers.is ∙ sym fields)

  pub list_has : (c : ℕ) (ts : List Typed) → ConstructorHasType s c ts (integers s) → (c ≡ nil p)
      ⊎ (c ≡ cons p)
  list_has c ts h = by_either (l.either e.2 e.0 e.5)
    where
      l : IsListType s the_type
      l = the_integers.list

      e : (e : Constructor) × (n : ℕ) × (j : ℕ) × (con_number (erased s) n ≡ Some c)
          × (e.name.name.0 ≡ n) × (slice_get the_type.constructors j ≡ Some e)
      e = constructor_of s p unbroken paired c ts the_type var the_integers.place the_integers.at
          (subst (λ t. ConstructorHasType s c ts t) integers_applied h)

      number : (text : List ℕ) (k : Constructor) (j : ℕ) → is_named s text k.name.name.0 ≡ true
          → slice_get the_type.constructors j ≡ Some k → e.0 ≡ k → c ≡ con_named text p.cons
      number text k j named at q =
          some_is (sym e.3 ∙ ap (λ n. con_number (erased s) n)
          (sym e.4 ∙ ap (λ (k : Constructor). k.name.name.0) q) ∙ list_number text k j named at)

      by_either : (e.0 ≡ l.nil) ⊎ (e.0 ≡ l.cons) → (c ≡ nil p) ⊎ (c ≡ cons p)
      by_either (inl q) = inl (number (codes "Nil") l.nil l.nil_place l.nil_named l.nil_at q)
      by_either (inr q) = inr (number (codes "Cons") l.cons l.cons_place l.cons_named l.cons_at q)
