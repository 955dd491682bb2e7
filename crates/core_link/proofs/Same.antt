-- Programs that are the same, the places and the numbers of the names aside: their names stand for
-- the
-- same.
use Rattle.std.proofs.Common.{◌≡◌, ℕ, Bool, true, false, List, [], ◌∷◌, refl, sym, ap, ◌∙◌, Some}
use Rattle.std.specs.Prelude.{◌==◌, codes, slice_get, if◌then◌else◌}
use Rattle.std.specs.List.{AllZip}
use Rattle.std.proofs.lemmas.List.Elements.{length_all_zip}
use Rattle.core_reader.specs.declared.syntax.Binder.{Binder}
use Rattle.core_reader.specs.Readable.{IsReadable, IsNamed, ReadableData, ReadableFunction}
use Rattle.core_reader.specs.Tree.{Data, Function, Program}
use Rattle.core_print.specs.Renamed.{RenamedBinder, RenamedData, RenamedFunction}
use Rattle.core_print.specs.Same.{SameName, SameData, SameFunction, SameProgram}
use Rattle.arity_check.specs.declared.meaning.Meaning.TheVariants.{Primitive}
use Rattle.arity_check.specs.declared.normal.PrimOp.{PrimOp}
use Rattle.arity_check.specs.Scope.{Scope, is_named, means, binds, binds_all, primitives}
use Rattle.arity_check.specs.Pieces.{names_of}
use Rattle.core_meaning.proofs.Valid.{different_places}
use Rattle.core_link.proofs.Aligned.{zip_map, same_test, AlikeFor, positions_aligned, same_named, means_aligned}
use Rattle.core_link.proofs.Alone.{zip_held}
use Rattle.core_link.proofs.Carried.{MeansTheSame}
use Rattle.core_link.proofs.Clear.{meant, primitive_means, same_primitive}
use Rattle.core_link.proofs.Held.{HeldBinder, HeldCon, HeldUse, data_held, function_held}
use Rattle.core_link.proofs.Transfer.{GoTogether}

module _ (p q : Program) (same : SameProgram p q) (own : IsReadable p) (other : IsReadable q) where
  abbrev pub NoScope : List Binder → List Binder → Unit {0} → Unit {0}
  NoScope bs cs s = s

  abbrev Texts : ℕ → ℕ → Type 0
  Texts = SameName p.names q.names

  abbrev Uses : Unit {0} → ℕ → ℕ → Type 0
  Uses s = Texts

  abbrev pub OfBinder : ℕ → ℕ → Type 0
  OfBinder = HeldBinder p.names NoScope Texts Texts Uses

  abbrev pub OfCon : ℕ → ℕ → Type 0
  OfCon = HeldCon p.names NoScope Texts Texts Uses

  abbrev pub OfUse : Unit {0} → ℕ → ℕ → Type 0
  OfUse = HeldUse p.names NoScope Texts Texts Uses

  abbrev pub OfFunction : ℕ → ℕ → Type 0
  OfFunction n k = IsNamed p.names n × Texts n k

  abbrev LikeBinder : Binder → Binder → Type 0
  LikeBinder = RenamedBinder NoScope OfBinder OfCon OfUse

  abbrev LikeData : Data → Data → Type 0
  LikeData = RenamedData NoScope OfBinder OfCon OfUse

  abbrev pub LikeFunction : Function → Function → Type 0
  LikeFunction = RenamedFunction NoScope OfBinder OfCon OfUse OfFunction tt

  pub constructors : AllZip LikeData p.constructors q.constructors
  constructors = zip_held (ReadableData p.names) (SameData p.names q.names) LikeData
      (λ d e h r. data_held p.names NoScope Texts Texts Uses d e h r) p.constructors q.constructors
      own.constructors same.constructors

  pub functions : AllZip LikeFunction p.functions q.functions
  functions = zip_held (ReadableFunction p.names) (SameFunction p.names q.names) LikeFunction
      (λ f g h r. function_held p.names NoScope Texts Texts Uses Texts tt f g h r) p.functions
      q.functions own.functions same.functions

  -- names of one text are one name, on both sides
  one_here : (n k n' k' : ℕ) (w : List ℕ) → slice_get p.names n ≡ Some w → Texts n k → Texts n' k'
      → k ≡ k' → n ≡ n'
  one_here n k n' k' w e s s' h = different_places p.names own.different n n' w e
      (s' ∙ ap (slice_get q.names) (sym h) ∙ sym s ∙ e)

  one_there : (n k n' k' : ℕ) (w : List ℕ) → slice_get p.names n ≡ Some w → Texts n k → Texts n' k'
      → n ≡ n' → k ≡ k'
  one_there n k n' k' w e s s' h = different_places q.names other.different k k' w (sym s ∙ e)
      (sym s' ∙ ap (slice_get p.names) (sym h) ∙ e)

  cons_one : (n k n' k' : ℕ) → OfCon n k → OfCon n' k' → (k ≡ k' → n ≡ n') × (n ≡ n' → k ≡ k')
  cons_one n k n' k' b b' = (
    λ h. one_here n k n' k' b.0.0 b.0.1 b.1 b'.1 h,
    λ h. one_there n k n' k' b.0.0 b.0.1 b.1 b'.1 h,
  )

  pub go_together : GoTogether p q NoScope OfBinder OfCon OfUse OfFunction tt
  go_together = record {
    constructors = constructors;
    functions = functions;
    binders = λ n k n' k' b b' h. one_here n k n' k' b.0.0 b.0.1 b.1 b'.1 h;
    nameless = λ n k b. same_named p q n k (codes "_") b.1;
    cons = cons_one;
    con_text = λ n k w b. same_named p q n k w b.1;
    main = λ n k b. same_named p q n k (codes "main") b.1;
    primitive = primitive_same;
  }
    where
      primitive_same : (c : Unit {0}) (s t : Scope) (n k : ℕ) (op : PrimOp) → OfUse c n k
          → means q t k ≡ Primitive op → means p s n ≡ Primitive op
      primitive_same c s t n k op b e = let g = meant q t k (Primitive op) e
          in primitive_means p s n op (same_named p q n k (codes "_") b.1 ∙ g.0)
          (same_primitive p q n k b.1 primitives ∙ g.1)

  -- ---- what names mean

  abbrev Entry : ℕ × ℕ → ℕ × ℕ → Type 0
  Entry a b = IsNamed p.names a.0 × Texts a.0 b.0 × (a.1 ≡ b.1)

  abbrev pub Fits : Unit {0} → Scope → Scope → Type 0
  Fits c s t = AllZip Entry s t

  same_uses : (s t : Scope) (n k : ℕ) → AllZip Entry s t → IsNamed p.names n → Texts n k
      → means p s n ≡ means q t k
  same_uses s t n k fits is text = means_aligned p q n k text
      (zip_map LikeFunction (AlikeFor n k)
      (λ f g r.
      (tests f.name g.name r.0.0 r.0.1, length_all_zip LikeBinder f.params g.params r.1))
      p.functions q.functions functions)
      s t (zip_map Entry (λ a b. ((a.0 == n) ≡ (b.0 == k)) × (a.1 ≡ b.1))
      (λ a b r. (tests a.0 b.0 r.0 r.1, r.2)) s t fits)
    where
      tests : (x y : ℕ) → IsNamed p.names x → Texts x y → (x == n) ≡ (y == k)
      tests x y h r = same_test x n y k (λ e. one_there x y n k h.0 h.1 r text e)
          (λ e. one_here x y n k h.0 h.1 r text e)

  bound_fits : (s t : Scope) (x y n : ℕ) → AllZip Entry s t → IsNamed p.names x → Texts x y
      → AllZip Entry (binds p x n s) (binds q y n t)
  bound_fits s t x y n h is text = go (is_named p (codes "_") x) (is_named q (codes "_") y)
      (same_named p q x y (codes "_") text)
    where
      go : (b b' : Bool) → b ≡ b' → AllZip Entry (if b then s else (x, n) ∷ s)
          (if b' then t else (y, n) ∷ t)
      go true true e = h
      go false false e = ((is, text, refl), h)
      go true false e = absurd cc
      go false true e = absurd cc

  all_fit : (bs cs : List Binder) (xs : List ℕ) (s t : Scope) → AllZip LikeBinder bs cs
      → AllZip Entry s t → AllZip Entry (binds_all p (names_of bs) xs s)
      (binds_all q (names_of cs) xs t)
  all_fit [] [] xs s t z h = h
  all_fit [] (d ∷ cs) xs s t z h = absurd z
  all_fit (b ∷ bs) [] xs s t z h = absurd z
  all_fit (b ∷ bs) (d ∷ cs) [] s t z h = h
  all_fit (b ∷ bs) (d ∷ cs) (x ∷ xs) s t z h = all_fit bs cs xs (binds p b.name.0 x s)
      (binds q d.name.0 x t) z.1 (bound_fits s t b.name.0 d.name.0 x h z.0.0 z.0.1)

  pub means_the_same : MeansTheSame p q NoScope OfBinder OfCon OfUse Fits
  means_the_same = record {
    cons = λ n k b. positions_aligned (λ (d : Data). d.name == n) (λ (d : Data). d.name == k)
        p.constructors q.constructors
        (zip_map LikeData (λ d e. (d.name == n) ≡ (e.name == k))
        (λ d e r.
        (let w = cons_one d.name e.name n k r.0 b in same_test d.name n e.name k w.1 w.0))
        p.constructors q.constructors constructors);
    nameless = λ n k b. same_named p q n k (codes "_") b.1;
    uses = λ c s t n k fits b bound. same_uses s t n k fits b.0 b.1;
    entered = λ c s t bs cs xs z len h. all_fit bs cs xs s t z h;
  }
