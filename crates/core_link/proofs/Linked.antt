-- Modules that break no rule, and the declarations of the program that they are together.
use Rattle.std.proofs.Common.{◌≡◌, ℕ, zero, suc, List, [], ◌∷◌, map, refl, sym, ap, subst, ◌∙◌, Option, Some, None}
use Rattle.std.specs.Prelude.{All, slice_get}
use Rattle.std.specs.List.{AllZip}
use Rattle.std.specs.Str.{bytes_eq}
use Rattle.std.proofs.lemmas.List.Elements.{All-head, All-tail}
use Rattle.seq.specs.Lists.{In}
use Rattle.seq.proofs.Lists.{none_is_some}
use Rattle.seq.proofs.Member.{flat_in, map_in}
use Rattle.core_reader.specs.declared.syntax.Binder.{Binder}
use Rattle.core_reader.specs.Tree.{Data, Function, Program}
use Rattle.core_link.specs.Module.{Module, Import, IsModuleText, text_in, name_of, imported}
use Rattle.core_link.specs.Rules.{IsUnbroken, BreaksOwnRule, InFile, Unread, OfModule, OfFiles, BreaksInterModuleRule, UnknownModule, NotExported, ExportUnknown, IsDeclared, source, Reading, OwnRule, Files}
use Rattle.core_link.specs.Union.{ConstructorBecomes, FunctionBecomes, with_module, IsUnion}
use Rattle.core_link.proofs.Beside.{beside, beside_back, found, place_in, in_place}
use Rattle.core_link.proofs.OfModules.{IsGood, of_text}
use Rattle.core_link.proofs.AnyOrder.{same_name}
use Rattle.core_link.proofs.Items.{among, belongs, Belongs}

pub all_at : {X : Type 0} (P : X → Type 0) (xs : List X) → All P xs → (i : ℕ) (x : X)
    → slice_get xs i ≡ Some x → P x
all_at P [] h i x e = none_is_some e
all_at P (y ∷ xs) h zero x e = let same : y ≡ x = cc in subst P same (All-head P y xs h)
all_at P (y ∷ xs) h (suc i) x e = all_at P xs (All-tail P y xs h) i x e

-- the text of a name that a module has
pub text_is : (m : Module) (x : ℕ) (w : List ℕ) → slice_get m.names x ≡ Some w → text_in m x ≡ w
text_is m x w e = cc

-- modules that break no rule
pub record IsSound (ms : List Module) : Type 0 where
  pub good : (i : ℕ) (m : Module) → slice_get ms i ≡ Some m → IsGood m
  pub own : (i : ℕ) (m : Module) → slice_get ms i ≡ Some m → (k at : ℕ) → BreaksOwnRule m k at → ⊥
  pub between : (k file at : ℕ) → BreaksInterModuleRule ms k file at → ⊥

pub sound_of : (texts : List (List ℕ)) (ms : List Module) → IsUnbroken texts
    → AllZip IsModuleText texts ms → IsSound ms
sound_of texts ms u z = record {
  good = λ i m e. let t = beside_back IsModuleText texts ms z i m e
      in of_text t.0 m (λ k at b. u Reading k i at (InFile t.1 (Unread b))) t.2;
  own = λ i m e k at o. let t = beside_back IsModuleText texts ms z i m e
      in u OwnRule k i at (InFile t.1 (OfModule m t.2 o));
  between = λ k file at b. u Files k file at (OfFiles ms z b);
}

module _ (ms : List Module) (c : Program) (u : IsUnion ms c) where
  -- each declaration of a module is one of the program
  pub function_there : (m : Module) → In m ms → (f : Function) → In f m.functions → (i : ℕ)
      × (g : Function) × (slice_get c.functions i ≡ Some g) × FunctionBecomes c.names m f g
  function_there m h f g =
      let a = among (λ m. m.functions) u.sorted m f (u.all m h) g in
      let w = beside (λ x g. FunctionBecomes c.names x.0 x.1 g)
      (with_module (λ m. m.functions) u.sorted) c.functions u.functions a.0 (m, f) a.1 in
      (a.0, w.0, w.1, w.2)

  pub constructor_there : (m : Module) → In m ms → (d : Data) → In d m.constructors → (i : ℕ)
      × (e : Data) × (slice_get c.constructors i ≡ Some e) × ConstructorBecomes c.names m d e
  constructor_there m h d g =
      let a = among (λ m. m.constructors) u.sorted m d (u.all m h) g in
      let w = beside (λ x e. ConstructorBecomes c.names x.0 x.1 e)
      (with_module (λ m. m.constructors) u.sorted) c.constructors u.constructors a.0 (m, d) a.1
      in
      (a.0, w.0, w.1, w.2)

  -- each function of the program is one of a module
  pub record OfModuleIs (g : Function) : Type 0 where
    pub owner : Module
    pub file : ℕ
    pub is_module : slice_get ms file ≡ Some owner
    pub function : Function
    pub number : ℕ
    pub is : slice_get owner.functions number ≡ Some function
    pub becomes : FunctionBecomes c.names owner function g

  pub of_module : (i : ℕ) (g : Function) → slice_get c.functions i ≡ Some g → OfModuleIs g
  of_module i g e =
      let w = beside_back (λ x g. FunctionBecomes c.names x.0 x.1 g)
      (with_module (λ m. m.functions) u.sorted) c.functions u.functions i g e in
      let b : Belongs (λ m. m.functions) u.sorted w.0
      = belongs (λ m. m.functions) u.sorted i w.0 w.1 in
      let p = place_in ms (u.only w.0.0 (in_place u.sorted b.file b.owner)) in
      record {
        owner = w.0.0;
        file = p.0;
        is_module = p.1;
        function = w.0.1;
        number = b.number;
        is
            = b.item;
        becomes = w.2;
      }

  pub record OfModuleData (e : Data) : Type 0 where
    pub owner : Module
    pub file : ℕ
    pub is_module : slice_get ms file ≡ Some owner
    pub data_of : Data
    pub number : ℕ
    pub is : slice_get owner.constructors number ≡ Some data_of
    pub becomes : ConstructorBecomes c.names owner data_of e

  pub of_module_data : (i : ℕ) (d : Data) → slice_get c.constructors i ≡ Some d → OfModuleData d
  of_module_data i d e =
      let w = beside_back (λ x d. ConstructorBecomes c.names x.0 x.1 d)
      (with_module (λ m. m.constructors) u.sorted) c.constructors u.constructors i d e in
      let b : Belongs (λ m. m.constructors) u.sorted w.0
      = belongs (λ m. m.constructors) u.sorted i w.0 w.1 in
      let p = place_in ms (u.only w.0.0 (in_place u.sorted b.file b.owner)) in
      record {
        owner = w.0.0;
        file = p.0;
        is_module = p.1;
        data_of = w.0.1;
        number = b.number;
        is
            = b.item;
        becomes = w.2;
      }

module _ (ms : List Module) (sound : IsSound ms) where
  -- the module that an import names
  pub record HasSource (m : Module) (i : Binder × Binder) : Type 0 where
    pub other : Module
    pub is : source ms m i.0 ≡ Some other
    pub file : ℕ
    pub there : slice_get ms file ≡ Some other
    pub named : name_of other ≡ text_in m i.0.name.0

  pub has_source : (n : ℕ) (m : Module) (i : Binder × Binder) → slice_get ms n ≡ Some m
      → In i (imported m) → HasSource m i
  has_source n m i e h = go (source ms m i.0) refl
    where
      go : (o : Option Module) → source ms m i.0 ≡ o → HasSource m i
      go (Some other) f =
          let w = found (λ m'. bytes_eq (name_of m') (text_in m i.0.name.0)) ms other f in
          record {
            other = other;
            is = f;
            file = w.0;
            there = w.1;
            named
                = same_name other (text_in m i.0.name.0) w.2;
          }
      go None f =
          let w = flat_in (λ (x : Import). map (λ b. (x.from, b)) x.names) m.imports h in
          let b = map_in (λ b. (w.0.from, b)) w.0.names w.2 in
          let p = place_in m.imports w.1 in
          let from : i.0 ≡ w.0.from = ap (λ (y : Binder × Binder). y.0) b.2 in
          absurd (sound.between 53 n w.0.from.at
          (UnknownModule p.0 e p.1 (ap (source ms m) (sym from) ∙ f)))

  -- what is imported is declared there
  pub is_declared_there : (n : ℕ) (m : Module) (i : Binder × Binder) → slice_get ms n ≡ Some m
      → In i (imported m) → (w : HasSource m i)
      → ((b : Binder) → IsDeclared w.other b.name.0
      → text_in w.other b.name.0 ≡ text_in m i.1.name.0 → ⊥) → ⊥
  is_declared_there n m i e h w never =
      let p = place_in (imported m) h in
      sound.between 54 n i.1.at
      (NotExported p.0 e p.1 w.is
      (λ x. sound.own w.file w.other w.there 55 x.export.at
      (ExportUnknown x.number x.is (λ d. never x.export d x.same))))
