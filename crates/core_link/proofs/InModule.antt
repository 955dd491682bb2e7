-- What stands in the linked program stands in a module.
use Rattle.std.proofs.Common.{◌≡◌, ℕ, List, [], ◌∷◌, map, length, sym, ◌∙◌, Some}
use Rattle.std.specs.Prelude.{slice_get}
use Rattle.std.specs.List.{AllZip}
use Rattle.std.proofs.lemmas.List.Elements.{length_all_zip}
use Rattle.seq.proofs.Lists.{get_left, length_map}
use Rattle.core_reader.specs.declared.syntax.Binder.{Binder}
use Rattle.core_reader.specs.Readable.{IsNamed, IsReadable, ReadableFunction}
use Rattle.core_reader.specs.Tree.{Function, Program}
use Rattle.core_print.specs.Renamed.{RenamedBinder, RenamedFunction}
use Rattle.arity_check.specs.Scope.{Scope}
use Rattle.arity_check.specs.Pieces.{FunctionPart, names_of, within, InFunction}
use Rattle.core_link.specs.Module.{Module, seen, imported_functions, as_function}
use Rattle.core_link.specs.Union.{LocalBecomes, ConBecomes, UseBecomes, GlobalBecomes, enter, IsUnion}
use Rattle.core_link.proofs.Back.{LikePiece, HasLike, has_back}
use Rattle.core_link.proofs.Held.{HeldBinder, HeldCon, HeldUse, function_held}
use Rattle.core_link.proofs.InScope.{Fits, all_fit}
use Rattle.core_link.proofs.Linked.{IsSound, all_at, OfModuleIs, of_module}

-- the same with any numbers of locals
abbrev pub AnyNumber : ℕ → ℕ → Type 0
AnyNumber n m = Unit {0}

any_numbers : (xs ys : List ℕ) → length xs ≡ length ys → AllZip AnyNumber xs ys
any_numbers [] [] e = tt
any_numbers [] (y ∷ ys) e = absurd cc
any_numbers (x ∷ xs) [] e = absurd cc
any_numbers (x ∷ xs) (y ∷ ys) e = (tt, any_numbers xs ys cc)

-- how the names of a module go with those of a program
module _ (names : List (List ℕ)) (m : Module) where
  abbrev pub OfBinder : ℕ → ℕ → Type 0
  OfBinder = HeldBinder m.names (enter names m) (LocalBecomes names m) (ConBecomes names m)
      (UseBecomes names m)

  abbrev pub OfCon : ℕ → ℕ → Type 0
  OfCon = HeldCon m.names (enter names m) (LocalBecomes names m) (ConBecomes names m)
      (UseBecomes names m)

  abbrev pub OfUse : Scope → ℕ → ℕ → Type 0
  OfUse = HeldUse m.names (enter names m) (LocalBecomes names m) (ConBecomes names m)
      (UseBecomes names m)

  abbrev pub OfFunction : ℕ → ℕ → Type 0
  OfFunction n k = IsNamed m.names n × GlobalBecomes names m n k

  abbrev pub LikeBinder : Binder → Binder → Type 0
  LikeBinder = RenamedBinder (enter names m) OfBinder OfCon OfUse

  abbrev pub LikeFunction : Function → Function → Type 0
  LikeFunction = RenamedFunction (enter names m) OfBinder OfCon OfUse OfFunction []

module _ (ms : List Module) (c : Program) (u : IsUnion ms c) (sound : IsSound ms)
    (readable : IsReadable c) where
  module _ (n : ℕ) (m : Module) (is_module : slice_get ms n ≡ Some m) where
    abbrev pub FitsAny : Scope → Scope → Scope → Type 0
    FitsAny = Fits m c (sound.good n m is_module).readable.different readable.different AnyNumber

    pub entered : (r s t : Scope) (bs cs : List Binder) → AllZip (LikeBinder c.names m) bs cs
        → FitsAny r s t → FitsAny (enter c.names m bs cs r) (within (seen m) bs s) (within c cs t)
    entered r s t bs cs z h =
        let len = length_all_zip (LikeBinder c.names m) bs cs z in
        all_fit m c (sound.good n m is_module).readable.different readable.different AnyNumber r s t
        bs cs (names_of bs) (names_of bs) (names_of cs) h z (length_map (λ b. b.name.0) bs)
        (length_map (λ b. b.name.0) bs)
        (any_numbers (names_of bs) (names_of cs)
        (length_map (λ b. b.name.0) bs ∙ len ∙ sym (length_map (λ b. b.name.0) cs)))

  pub held : (g : Function) (w : OfModuleIs ms c u g) → LikeFunction c.names w.owner w.function g
  held g w = function_held w.owner.names (enter c.names w.owner) (LocalBecomes c.names w.owner)
      (ConBecomes c.names w.owner) (UseBecomes c.names w.owner) (GlobalBecomes c.names w.owner) []
      w.function g
      (all_at (ReadableFunction w.owner.names) w.owner.functions
      (sound.good w.file w.owner w.is_module).readable.functions w.number w.function w.is)
      w.becomes

  -- a piece of the program, and the piece of a module that it comes from
  pub record ComesFrom (t : Scope) (there : FunctionPart) : Type 0 where
    pub file : ℕ
    pub owner : Module
    pub is_module : slice_get ms file ≡ Some owner
    pub context : Scope
    pub scope : Scope
    pub piece : FunctionPart
    pub inside : InFunction (seen owner) scope piece
    pub fits : FitsAny file owner is_module context scope t
    pub like : LikePiece (seen owner) c (enter c.names owner) (OfBinder c.names owner)
        (OfCon c.names owner) (OfUse c.names owner) (FitsAny file owner is_module) context piece
        there

  pub comes_from : (t : Scope) (there : FunctionPart) → InFunction c t there → ComesFrom t there
  comes_from t there h =
      let w = of_module ms c u h.number h.function h.is in
      let m = w.owner in
      let g = held h.function w in
      let b : HasLike (seen m) c (enter c.names m) (OfBinder c.names m) (OfCon c.names m)
      (OfUse c.names m) (FitsAny w.file m w.is_module) (within (seen m) w.function.params [])
      w.function.body t there =
      has_back (seen m) c (enter c.names m) (OfBinder c.names m) (OfCon c.names m) (OfUse c.names m)
      (FitsAny w.file m w.is_module) (entered w.file m w.is_module) h.has
      (enter c.names m w.function.params h.function.params [])
      (within (seen m) w.function.params []) w.function.body
      (entered w.file m w.is_module [] [] [] w.function.params h.function.params g.1 tt) g.2 in
      record {
        file = w.file;
        owner = m;
        is_module = w.is_module;
        context = b.context;
        scope = b.scope;
        piece = b.piece;
        inside = record {
          number = w.number;
          function = w.function;
          is
              = get_left m.functions (map as_function (imported_functions m)) w.number w.function
              w.is;
          has = b.has;
        };
        fits = b.fits;
        like = b.like;
      }
