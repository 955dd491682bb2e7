-- The first rule between modules that a file breaks.
use Rattle.std.proofs.Common.{◌≡◌, ℕ, ◌<◌, ◌≤◌, Bool, true, false, List, map, take, refl, sym, ap, subst, ◌∙◌, arith, Option, Some, None, inl, inr}
use Rattle.std.specs.Prelude.{not, is_none, slice_get}
use Rattle.seq.proofs.Lists.{some_is}
use Rattle.core_reader.specs.declared.syntax.Binder.{Binder}
use Rattle.core_reader.specs.Tree.{Data}
use Rattle.arity_check.specs.Broken as program
use Rattle.core_link.specs.declared.imports.ImportFaults.{ImportFaults}
use Rattle.core_link.specs.Module.{Module, Import, text_in, name_of, imported, seen}
use Rattle.core_link.specs.Rules.{BreaksInterModuleRule, IsExported, module_named, source}
use Rattle.core_link.specs.Rules as rules
use Rattle.core_link.specs.Found.{IsFirstPlaceWhere, NamesFirstBrokenRule, sooner, earlier_place_if, earliest}
use Rattle.core_link.specs.Shared.{ImportsTakenName, AreImportFaults, has, exports_text, constructor_texts, declares}
use Rattle.core_link.proofs.Firsts.{And, sooner_first, same_of, PassedAt, first_passed}
use Rattle.core_link.proofs.Places.{any_at, at_any, taken_at, at_taken, has_at, at_has}

-- a module was found that does not export the name
abbrev pub unexported_by : Option Module → List ℕ → Bool
unexported_by None w = false
unexported_by (Some m) w = not (exports_text m w)

not_both : (b : Bool) → not b ≡ true → b ≡ true → ⊥
not_both true e f = cc
not_both false e f = cc

not_is : (b : Bool) → (b ≡ true → ⊥) → not b ≡ true
not_is true h = absurd (h refl)
not_is false h = refl

is_exported : (m : Module) (w : List ℕ) → exports_text m w ≡ true → IsExported m w
is_exported m w e = let t = has_at (λ (b : Binder). text_in m b.name.0) m.exports w e
    in record { number = t.number; export = t.item; is = t.is; same = t.same }

exported_text : (m : Module) (w : List ℕ) → IsExported m w → exports_text m w ≡ true
exported_text m w x = at_has (λ (b : Binder). text_in m b.name.0) m.exports w x.number x.export x.is
    x.same

module _ (ms : List Module) (file : ℕ) (m : Module) (is : slice_get ms file ≡ Some m) where
  abbrev earlier : List Module
  earlier = take file ms

  abbrev Found : (k at : ℕ) → Type 0
  Found k at = BreaksInterModuleRule ms k file at

  -- the file is this one
  one_module_at : (q : Module) → slice_get ms file ≡ Some q → q ≡ m
  one_module_at q e = some_is (sym e ∙ is)

  -- ---- 52

  abbrev named_again : Bool
  named_again = has (map name_of earlier) (name_of m)

  record NamedAgain (at : ℕ) : Type 0 where
    again : named_again ≡ true
    place : m.name.at ≡ at

  to_52 : (at : ℕ) → NamedAgain at → Found 52 at
  to_52 at w =
      let t = has_at name_of earlier (name_of m) w.again in
      let f = taken_at file ms t.number t.item t.is in
      subst (Found 52) w.place (rules.DuplicateModule is f.is f.before t.same)

  from_52 : (q : Module) (j : ℕ) (other : Module) → slice_get ms file ≡ Some q
      → slice_get ms j ≡ Some other → j < file → name_of other ≡ name_of q → NamedAgain q.name.at
  from_52 q j other e f l s =
      let same : q ≡ m = one_module_at q e in
      record {
        again = at_has name_of earlier (name_of m) j other (at_taken file ms j other l f)
            (s ∙ ap name_of same);
        place = ap (λ (w : Module). w.name.at) (sym same);
      }

  first_by : (b : Bool) → named_again ≡ b → IsFirstPlaceWhere NamedAgain
      (earlier_place_if b None m.name.at)
  first_by true e =
      (record { again = e; place = refl }, λ at w. let p = w.place in omega (arith, p))
  first_by false e = λ at w. never (sym e ∙ w.again)
    where
      never : false ≡ true → ⊥
      never e = cc

  -- ---- 53

  abbrev is_unknown : Import → Bool
  is_unknown x = is_none (source ms m x.from)

  abbrev import_place : Import → ℕ
  import_place x = x.from.at

  none_is : {X : Type 0} (o : Option X) → is_none o ≡ true → o ≡ None
  none_is None e = refl
  none_is (Some x) e = cc

  to_53 : (at : ℕ) → PassedAt is_unknown import_place m.imports at → Found 53 at
  to_53 at w = subst (Found 53) w.there
      (rules.UnknownModule w.number is w.is (none_is (source ms m w.item.from) w.passes))

  from_53 : (q : Module) (n : ℕ) (x : Import) → slice_get ms file ≡ Some q
      → slice_get q.imports n ≡ Some x → source ms q x.from ≡ None
      → PassedAt is_unknown import_place m.imports x.from.at
  from_53 q n x e i s =
      let same : q ≡ m = one_module_at q e in
      record {
        number = n;
        item = x;
        is = subst (λ (w : Module). slice_get w.imports n ≡ Some x)
            same i;
        passes = ap is_none (subst (λ (w : Module). source ms w x.from ≡ None) same s);
        there = refl;
      }

  -- ---- 54

  abbrev is_lacking : Binder × Binder → Bool
  is_lacking x = unexported_by (source ms m x.0) (text_in m x.1.name.0)

  abbrev name_place : Binder × Binder → ℕ
  name_place x = x.1.at

  record Lacking (o : Option Module) (w : List ℕ) : Type 0 where
    other : Module
    source_is : o ≡ Some other
    lacks : IsExported other w → ⊥

  lacking : (o : Option Module) (w : List ℕ) → unexported_by o w ≡ true → Lacking o w
  lacking None w e = absurd cc
  lacking (Some other) w e = record {
    other = other;
    source_is = refl;
    lacks = λ x. not_both (exports_text other w) e
        (exported_text other w x);
  }

  to_54 : (at : ℕ) → PassedAt is_lacking name_place (imported m) at → Found 54 at
  to_54 at w =
      let l = lacking (source ms m w.item.0) (text_in m w.item.1.name.0) w.passes in
      subst (Found 54) w.there (rules.NotExported w.number is w.is l.source_is l.lacks)

  from_54 : (q other : Module) (n : ℕ) (x : Binder × Binder) → slice_get ms file ≡ Some q
      → slice_get (imported q) n ≡ Some x → source ms q x.0 ≡ Some other
      → (IsExported other (text_in q x.1.name.0) → ⊥)
      → PassedAt is_lacking name_place (imported m) x.1.at
  from_54 q other n x e i s h =
      let same : q ≡ m = one_module_at q e in
      let found : source ms m x.0 ≡ Some other = subst
      (λ (w : Module). source ms w x.0 ≡ Some other) same s in
      let absent : IsExported other (text_in m x.1.name.0) → ⊥
      = subst (λ (w : Module). IsExported other (text_in w x.1.name.0) → ⊥) same h in
      let passes : is_lacking x ≡ true = ap (λ o. unexported_by o (text_in m x.1.name.0)) found ∙
      not_is (exports_text other (text_in m x.1.name.0))
      (λ y. absent (is_exported other (text_in m x.1.name.0) y)) in
      record {
        number = n;
        item = x;
        is = subst (λ (w : Module). slice_get (imported w) n ≡ Some x)
            same i;
        passes = passes;
        there = refl;
      }

  -- ---- 56 and 57

  to_56 : (at : ℕ) → ImportsTakenName m at → Found 56 at
  to_56 at w = subst (Found 56) w.place (rules.DuplicateImport w.number is w.is w.taken)

  from_56 : (q : Module) (n : ℕ) (x : Binder × Binder) → slice_get ms file ≡ Some q
      → rules.IsImported q n x → rules.NameIsTaken q n x.1 → ImportsTakenName m x.1.at
  from_56 q n x e i t =
      let same : q ≡ m = one_module_at q e in
      subst (λ (w : Module). ImportsTakenName w x.1.at) same
      (record { number = n; name = x; is = i; taken = t; place = refl })

  -- ---- 58

  abbrev is_again : Data → Bool
  is_again d = declares earlier (text_in m d.name)

  abbrev data_place : Data → ℕ
  data_place d = d.at

  to_58 : (at : ℕ) → PassedAt is_again data_place m.constructors at → Found 58 at
  to_58 at w =
      let name : List ℕ = text_in m w.item.name in
      let p = any_at (λ q. has (constructor_texts q) name) earlier w.passes in
      let f = taken_at file ms p.number p.item p.is in
      let t = has_at (λ (d : Data). text_in p.item d.name) p.item.constructors name p.passes in
      subst (Found 58) w.there
      (rules.AgainElsewhere w.number t.number is f.is f.before w.is t.is t.same)

  from_58 : (q other : Module) (j n k : ℕ) (c d : Data) → slice_get ms file ≡ Some q
      → slice_get ms j ≡ Some other → j < file → slice_get q.constructors n ≡ Some d
      → slice_get other.constructors k ≡ Some c → text_in other c.name ≡ text_in q d.name
      → PassedAt is_again data_place m.constructors d.at
  from_58 q other j n k c d e f l g h s =
      let same : q ≡ m = one_module_at q e in
      let names : text_in other c.name ≡ text_in m d.name
      = s ∙ ap (λ (w : Module). text_in w d.name) same in
      let there : has (constructor_texts other) (text_in m d.name) ≡ true
      = at_has (λ (b : Data). text_in other b.name) other.constructors (text_in m d.name) k c h
      names in
      record {
        number = n;
        item = d;
        is = subst
            (λ (w : Module). slice_get w.constructors n ≡ Some d) same g;
        passes
            = at_any (λ q. has (constructor_texts q) (text_in m d.name)) earlier j other
            (at_taken file ms j other l f) there;
        there = refl;
      }

  -- ---- all of them

  nowhere : ℕ → ℕ → Type 0
  nowhere k at = ⊥

  abbrev First : ℕ → ℕ → Type 0
  First = And nowhere 52 NamedAgain

  abbrev Second : ℕ → ℕ → Type 0
  Second = And First 53 (PassedAt is_unknown import_place m.imports)

  abbrev Third : ℕ → ℕ → Type 0
  Third = And Second 54 (PassedAt is_lacking name_place (imported m))

  abbrev Fourth : ℕ → ℕ → Type 0
  Fourth = And Third 56 (ImportsTakenName m)

  abbrev Fifth : ℕ → ℕ → Type 0
  Fifth = And Fourth 57 (program.Broken (seen m) 14)

  abbrev Sixth : ℕ → ℕ → Type 0
  Sixth = And Fifth 58 (PassedAt is_again data_place m.constructors)

  below_first : (k at : ℕ) → First k at → k ≤ 52
  unfolding nowhere
  below_first k at (inl h) = absurd h
  below_first k at (inr h) = let e = h.0 in omega (arith, e)

  below_second : (k at : ℕ) → Second k at → k ≤ 53
  below_second k at (inl h) = let e = below_first k at h in omega (arith, e)
  below_second k at (inr h) = let e = h.0 in omega (arith, e)

  below_third : (k at : ℕ) → Third k at → k ≤ 54
  below_third k at (inl h) = let e = below_second k at h in omega (arith, e)
  below_third k at (inr h) = let e = h.0 in omega (arith, e)

  below_fourth : (k at : ℕ) → Fourth k at → k ≤ 56
  below_fourth k at (inl h) = let e = below_third k at h in omega (arith, e)
  below_fourth k at (inr h) = let e = h.0 in omega (arith, e)

  below_fifth : (k at : ℕ) → Fifth k at → k ≤ 57
  below_fifth k at (inl h) = let e = below_fourth k at h in omega (arith, e)
  below_fifth k at (inr h) = let e = h.0 in omega (arith, e)

  at_rule : (k n at : ℕ) → k ≡ n → Found n at → Found k at
  at_rule k n at e f = subst (λ r. Found r at) (sym e) f

  to_all : (k at : ℕ) → Sixth k at → Found k at
  unfolding nowhere
  to_all k at (inl (inl (inl (inl (inl (inl h)))))) = absurd h
  to_all k at (inl (inl (inl (inl (inl (inr h)))))) = at_rule k 52 at h.0 (to_52 at h.1)
  to_all k at (inl (inl (inl (inl (inr h))))) = at_rule k 53 at h.0 (to_53 at h.1)
  to_all k at (inl (inl (inl (inr h)))) = at_rule k 54 at h.0 (to_54 at h.1)
  to_all k at (inl (inl (inr h))) = at_rule k 56 at h.0 (to_56 at h.1)
  to_all k at (inl (inr h)) = at_rule k 57 at h.0 (rules.UnknownName is h.1)
  to_all k at (inr h) = at_rule k 58 at h.0 (to_58 at h.1)

  from_all : (k at : ℕ) → Found k at → Sixth k at
  from_all k at (rules.DuplicateModule {m = q} {other = other} {j = j} e f l s)
      = inl (inl (inl (inl (inl (inr (refl, from_52 q j other e f l s))))))
  from_all k at (rules.UnknownModule {m = q} {x = x} n e i s)
      = inl (inl (inl (inl (inr (refl, from_53 q n x e i s)))))
  from_all k at (rules.NotExported {m = q} {other = other} {x = x} n e i s h)
      = inl (inl (inl (inr (refl, from_54 q other n x e i s h))))
  from_all k at (rules.DuplicateImport {m = q} {x = x} n e i t)
      = inl (inl (inr (refl, from_56 q n x e i t)))
  from_all k at (rules.UnknownName {m = q} {at = place} e b)
      = inl (inr
      (refl, subst (λ (w : Module). program.Broken (seen w) 14 place) (one_module_at q e) b))
  from_all k at
      (rules.AgainElsewhere {m = q} {other = other} {j = j} {c = c} {d = d} n i e f l g h s)
      = inr (refl, from_58 q other j n i c d e f l g h s)

  never : (k at : ℕ) → nowhere k at → k ≤ 52
  unfolding nowhere
  never k at h = absurd h

  none_of : NamesFirstBrokenRule nowhere None
  unfolding nowhere
  none_of = λ k at h. h

  -- what the code finds in the file
  abbrev pub found_in : ImportFaults → Option (ℕ × ℕ)
  found_in t =
      sooner (sooner
      (sooner (sooner (sooner (sooner None 52 (earlier_place_if named_again None m.name.at))
      53 (earliest is_unknown import_place None m.imports))
      54 (earliest is_lacking name_place None (imported m)))
      56 t.again) 57 t.unknown) 58 (earliest is_again data_place None m.constructors)

  pub between_first : (t : ImportFaults) → AreImportFaults m t
      → NamesFirstBrokenRule Found (found_in t)
  between_first t h =
      let o1 : Option (ℕ × ℕ) = sooner None 52 (earlier_place_if named_again None m.name.at) in
      let o2 : Option (ℕ × ℕ) = sooner o1 53 (earliest is_unknown import_place None m.imports) in
      let o3 : Option (ℕ × ℕ) = sooner o2 54 (earliest is_lacking name_place None (imported m)) in
      let o4 : Option (ℕ × ℕ) = sooner o3 56 t.again in
      let o5 : Option (ℕ × ℕ) = sooner o4 57 t.unknown in
      let h1 : NamesFirstBrokenRule First o1 = sooner_first nowhere 52 NamedAgain None
      (earlier_place_if named_again None m.name.at) never none_of (first_by named_again refl) in
      let h2 : NamesFirstBrokenRule Second o2 = sooner_first First 53
      (PassedAt is_unknown import_place m.imports) o1
      (earliest is_unknown import_place None m.imports)
      (λ k at p. let l = below_first k at p in omega (arith, l)) h1
      (first_passed is_unknown import_place m.imports) in
      let h3 : NamesFirstBrokenRule Third o3 = sooner_first Second 54
      (PassedAt is_lacking name_place (imported m)) o2
      (earliest is_lacking name_place None (imported m))
      (λ k at p. let l = below_second k at p in omega (arith, l)) h2
      (first_passed is_lacking name_place (imported m)) in
      let h4 : NamesFirstBrokenRule Fourth o4 = sooner_first Third 56 (ImportsTakenName m) o3
      t.again (λ k at p. let l = below_third k at p in omega (arith, l)) h3 h.again in
      let h5 : NamesFirstBrokenRule Fifth o5 = sooner_first Fourth 57 (program.Broken (seen m) 14)
      o4 t.unknown (λ k at p. let l = below_fourth k at p in omega (arith, l)) h4 h.unknown in
      same_of Sixth Found to_all from_all (found_in t)
      (sooner_first Fifth 58 (PassedAt is_again data_place m.constructors) o5
      (earliest is_again data_place None m.constructors)
      (λ k at p. let l = below_fifth k at p in omega (arith, l)) h5
      (first_passed is_again data_place m.constructors))
