-- Texts are one program at most, in whatever order they stand.
use Rattle.std.proofs.Common.{◌≡◌, ℕ, List, [], refl, sym, ap, subst, ◌∙◌, Some}
use Rattle.std.specs.List.{AllZip}
use Rattle.seq.specs.Lists.{In}
use Rattle.core_reader.specs.declared.syntax.Binder.{Binder}
use Rattle.core_reader.specs.Tree.{Data, Function, Program}
use Rattle.core_print.specs.Same.{SameName, SameData, SameFunction, SameProgram}
use Rattle.core_print.specs.Canonical.{canonical}
use Rattle.arity_check.specs.Scope.{Scope}
use Rattle.arity_check.specs.Pieces.{within}
use Rattle.core_link.specs.Module.{Module, name_of, seen}
use Rattle.core_link.specs.Union.{LocalBecomes, ConBecomes, UseBecomes, GlobalBecomes, ConstructorBecomes, FunctionBecomes, enter, use_text, with_module, IsUnion, IsLinked}
use Rattle.core_link.specs.Laws.{TextOrderIsIrrelevant}
use Rattle.core_link.proofs.Moved.{Moved, moved, moved_back}
use Rattle.core_link.proofs.Beside.{in_place, place_in}
use Rattle.core_link.proofs.OneOrder.{one_order}
use Rattle.core_link.proofs.Twice.{zip_joined, Join, data_joined, function_joined}
use Rattle.core_link.proofs.OneText.{same_canonical}
use Rattle.core_link.proofs.AnyOrder.{moved_modules, still_unbroken}

-- with two lists of names
module _ (names others : List (List ℕ)) where
  module _ (m : Module) where
    abbrev Alone : List Binder → List Binder → Unit {0} → Unit {0}
    Alone bs cs s = s

    abbrev Alike : Unit {0} → ℕ → ℕ → Type 0
    Alike s = SameName names others

    abbrev Fits : Scope → Scope → Unit {0} → Type 0
    Fits s t u = s ≡ t

    join : Join (enter names m) (LocalBecomes names m) (ConBecomes names m) (UseBecomes names m)
        (enter others m) (LocalBecomes others m) (ConBecomes others m) (UseBecomes others m) Alone
        (SameName names others) (SameName names others) Alike Fits
    join = record {
      binder = λ x y z h g. h ∙ sym g;
      con = λ x y z h g. h ∙ sym g;
      use_of = λ s t u x y z e h g. h ∙ ap (λ w. Some (use_text m w x)) e ∙ sym g;
      entered = λ s t u bs cs ds e. ap (within (seen m) bs) e;
    }

    data_same : (a b d : Data) → ConstructorBecomes names m a b → ConstructorBecomes others m a d
        → SameData names others b d
    data_same = data_joined (enter names m) (LocalBecomes names m) (ConBecomes names m)
        (UseBecomes names m) (enter others m) (LocalBecomes others m) (ConBecomes others m)
        (UseBecomes others m) Alone (SameName names others) (SameName names others) Alike Fits join

    function_same : (a b d : Function) → FunctionBecomes names m a b → FunctionBecomes others m a d
        → SameFunction names others b d
    function_same = function_joined (enter names m) (LocalBecomes names m) (ConBecomes names m)
        (UseBecomes names m) (enter others m) (LocalBecomes others m) (ConBecomes others m)
        (UseBecomes others m) Alone (SameName names others) (SameName names others) Alike Fits join
        (GlobalBecomes names m) (GlobalBecomes others m) (SameName names others)
        (λ x y z h g. h ∙ sym g) [] [] tt refl

  all_data : (xs : List (Module × Data)) (cs ds : List Data)
      → AllZip (λ x d. ConstructorBecomes names x.0 x.1 d) xs cs
      → AllZip (λ x d. ConstructorBecomes others x.0 x.1 d) xs ds
      → AllZip (SameData names others) cs ds
  all_data = zip_joined (λ x d. ConstructorBecomes names x.0 x.1 d)
      (λ x d. ConstructorBecomes others x.0 x.1 d) (SameData names others)
      (λ x c d h g. data_same x.0 x.1 c d h g)

  all_functions : (xs : List (Module × Function)) (fs gs : List Function)
      → AllZip (λ x f. FunctionBecomes names x.0 x.1 f) xs fs
      → AllZip (λ x f. FunctionBecomes others x.0 x.1 f) xs gs
      → AllZip (SameFunction names others) fs gs
  all_functions = zip_joined (λ x f. FunctionBecomes names x.0 x.1 f)
      (λ x f. FunctionBecomes others x.0 x.1 f) (SameFunction names others)
      (λ x f g h k. function_same x.0 x.1 f g h k)

one_union : (ms ns : List Module) (c d : Program) → Moved ms ns → Moved ns ms → IsUnion ms c
    → IsUnion ns d → SameProgram c d
one_union ms ns c d there back u v =
    let in_other : (m : Module) → In m ms → In m ns
    = λ m i. (let w = place_in ms i in in_place ns (there.to w.0) (there.there w.0 m w.1)) in
    let in_one : (m : Module) → In m ns → In m ms = λ m i.
    (let w = place_in ns i in in_place ms (back.to w.0) (back.there w.0 m w.1)) in
    let same : v.sorted ≡ u.sorted = one_order name_of v.sorted u.sorted v.rising u.rising
    (λ m i. u.all m (in_one m (v.only m i))) (λ m i. v.all m (in_other m (u.only m i))) in
    record {
      constructors = all_data c.names d.names (with_module (λ m. m.constructors) u.sorted)
          c.constructors d.constructors u.constructors
          (subst (λ w. AllZip (λ x e. ConstructorBecomes d.names x.0 x.1 e)
          (with_module (λ m. m.constructors) w) d.constructors) same v.constructors);
      functions = all_functions c.names d.names (with_module (λ m. m.functions) u.sorted)
          c.functions d.functions u.functions
          (subst (λ w. AllZip (λ x e. FunctionBecomes d.names x.0 x.1 e)
          (with_module (λ m. m.functions) w) d.functions) same v.functions);
    }

pub order_is_free : TextOrderIsIrrelevant
order_is_free texts others p unbroken = (still_unbroken texts others p unbroken, by)
  where
    by : (c d : Program) → IsLinked texts c → IsLinked others d → SameProgram c d
        × (canonical c ≡ canonical d)
    by c d u v =
        let same = one_union u.modules v.modules c d
        (moved_modules texts others u.modules v.modules (moved texts others p) u.read v.read)
        (moved_modules others texts v.modules u.modules (moved_back texts others p) v.read
        u.read) u.union v.union in
        (same, same_canonical c d same)
