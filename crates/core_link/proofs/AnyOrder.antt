-- Texts in another order break no rule where they don't, and are the same program.
use Rattle.std.proofs.Common.{◌≡◌, ℕ, Bool, true, List, refl, sym, ap, ◌∙◌, arith, Option, Some, None, IsPermutation, inl, inr}
use Rattle.std.specs.Prelude.{slice_get}
use Rattle.std.specs.List.{AllZip}
use Rattle.std.specs.Str.{bytes_eq}
use Rattle.std.proofs.lemmas.Slice.Eq.{bytes_eq-Decides}
use Rattle.seq.proofs.Order.{compared}
use Rattle.seq.proofs.Truth.{not_both}
use Rattle.core_reader.specs.declared.syntax.Binder.{Binder}
use Rattle.core_link.specs.Module.{Module, IsModuleText, text_in, name_of}
use Rattle.core_link.specs.Rules.{IsUnbroken, InFile, NoMainModule, OfFiles, BreaksInterModuleRule, DuplicateModule, UnknownModule, NotExported, DuplicateImport, UnknownName, AgainElsewhere, LacksMain, source}
use Rattle.core_link.proofs.Moved.{Moved, moved, moved_back}
use Rattle.core_link.proofs.Beside.{one_item, beside, beside_back, chosen, found, none_passes}
use Rattle.core_link.proofs.InText.{one_module}

pub same_name : (m : Module) (name : List ℕ) → bytes_eq (name_of m) name ≡ true → name_of m ≡ name
same_name m name e = (bytes_eq-Decides (name_of m) name).0 e

-- the modules of texts stand in another order as the texts do
pub moved_modules : (texts others : List (List ℕ)) (ms ns : List Module) → Moved texts others
    → AllZip IsModuleText texts ms → AllZip IsModuleText others ns → Moved ms ns
moved_modules texts others ms ns m z w = record {
  to = m.to;
  apart = m.apart;
  there = λ i x e.
      let t = beside_back IsModuleText texts ms z i x e in
      let n = beside IsModuleText others ns w (m.to i) t.0 (m.there i t.0 t.1) in
      n.1 ∙ ap (λ y. Some y) (one_module t.0 n.0 x n.2 t.2);
}

pub modules_of : (texts others : List (List ℕ)) (ms : List Module) → Moved others texts
    → AllZip IsModuleText texts ms → (ns : List Module) × AllZip IsModuleText others ns
modules_of texts others ms m z = chosen IsModuleText others
    (λ i t e. let x = beside IsModuleText texts ms z (m.to i) t (m.there i t e) in (x.0, x.2))

-- a module is known by its name
pub one_named : (ns : List Module) → ((k file at : ℕ) → BreaksInterModuleRule ns k file at → ⊥)
    → (i j : ℕ) (m o : Module) → slice_get ns i ≡ Some m → slice_get ns j ≡ Some o
    → name_of m ≡ name_of o → m ≡ o
one_named ns none i j m o e f s = elim (compared i j) [
  | inl l ↦ absurd (none 52 j o.name.at (DuplicateModule f e l s))
  | inr h ↦ elim h [
    | inl same ↦ one_item (slice_get ns j) m o (sym (ap (slice_get ns) same) ∙ e) f
    | inr l ↦
        absurd (none 52 i m.name.at (DuplicateModule e f l (sym s)))
  ]
]

-- modules in two orders, of which the second breaks no rule
module _ (ms ns : List Module) (there : Moved ms ns) (back : Moved ns ms)
    (none : (k file at : ℕ) → BreaksInterModuleRule ns k file at → ⊥) where
  still_none : (m : Module) (from : Binder) → source ms m from ≡ None → (o : Option Module)
      → source ns m from ≡ o → source ns m from ≡ None
  still_none m from e None f = f
  still_none m from e (Some x) f =
      let test : Module → Bool = λ m'. bytes_eq (name_of m') (text_in m from.name.0) in
      let w = found test ns x f in
      not_both (test x) w.2 (none_passes test ms e (back.to w.0) x (back.there w.0 x w.1))

  still_source : (m other : Module) (from : Binder) → source ms m from ≡ Some other
      → (o : Option Module) → source ns m from ≡ o → source ns m from ≡ Some other
  still_source m other from e o f = let w = found
      (λ m'. bytes_eq (name_of m') (text_in m from.name.0)) ms other e in by w.0 w.1 w.2 o f
    where
      by : (i : ℕ) → slice_get ms i ≡ Some other → bytes_eq (name_of other) (text_in m from.name.0)
          ≡ true → (o : Option Module) → source ns m from ≡ o → source ns m from ≡ Some other
      by i g h None f = not_both (bytes_eq (name_of other) (text_in m from.name.0)) h
          (none_passes (λ m'. bytes_eq (name_of m') (text_in m from.name.0)) ns f (there.to i) other
          (there.there i other g))
      by i g h (Some x) f =
          let w = found (λ m'. bytes_eq (name_of m') (text_in m from.name.0)) ns x f in
          f ∙ ap (λ y. Some y)
          (one_named ns none w.0 (there.to i) x other w.1 (there.there i other g)
          (same_name x (text_in m from.name.0) w.2 ∙ sym
          (same_name other (text_in m from.name.0) h)))

  pub none_between : (k file at : ℕ) → BreaksInterModuleRule ms k file at → ⊥
  none_between k file at (DuplicateModule {m = m} {other = other} {i = i} {j = j} e f l s)
      = elim (compared (there.to j) (there.to i)) [
        | inl g ↦ none 52 (there.to i) m.name.at
            (DuplicateModule (there.there i m e) (there.there j other f) g s)
        | inr h ↦ elim h [
          | inl same ↦ (let t = there.apart j i same in omega (arith, t, l))
          | inr g ↦ none 52 (there.to j) other.name.at
              (DuplicateModule (there.there j other f) (there.there i m e) g (sym s))
        ]
      ]
  none_between k file at (UnknownModule {m = m} {i = i} {x = x} n e g h)
      = none 53 (there.to i) x.from.at
      (UnknownModule n (there.there i m e) g (still_none m x.from h (source ns m x.from) refl))
  none_between k file at (NotExported {m = m} {other = other} {i = i} {x = x} n e g h w) =
      none 54 (there.to i) x.1.at
      (NotExported n (there.there i m e) g (still_source m other x.0 h (source ns m x.0) refl)
      w)
  none_between k file at (DuplicateImport {m = m} {i = i} {x = x} n e g h)
      = none 56 (there.to i) x.1.at (DuplicateImport n (there.there i m e) g h)
  none_between k file at (UnknownName {m = m} {i = i} {at = to} e b)
      = none 57 (there.to i) to (UnknownName (there.there i m e) b)
  none_between k file at
      (AgainElsewhere {m = m} {other = other} {i = i} {j = j} {c = c} {d = d} n l e f g h w s)
      = elim (compared (there.to j) (there.to i)) [
        | inl y ↦ none 58 (there.to i) d.at
            (AgainElsewhere n l (there.there i m e) (there.there j other f) y h w s)
        | inr z ↦ elim z [
          | inl same ↦ (let t = there.apart j i same in omega (arith, t, g))
          | inr y ↦ none 58 (there.to j) c.at
              (AgainElsewhere l n (there.there j other f) (there.there i m e) y w h (sym s))
        ]
      ]

still_lacks : (ms ns : List Module) → Moved ns ms → LacksMain ms → LacksMain ns
still_lacks ms ns back h = λ i m e. h (back.to i) m (back.there i m e)

pub still_unbroken : (texts others : List (List ℕ)) → IsPermutation texts others → IsUnbroken texts
    → IsUnbroken others
still_unbroken texts others p u = by
  where
    there : Moved others texts
    there = moved_back texts others p

    back : Moved texts others
    back = moved texts others p

    by : IsUnbroken others
    by g k file at (InFile {text = text} e b) = u g k (there.to file) at
        (InFile (there.there file text e) b)
    by g k file at (NoMainModule ms z l) =
        let ns = modules_of others texts ms back z in
        u _ 59 0 0
        (NoMainModule ns.0 ns.1
        (still_lacks ms ns.0 (moved_modules texts others ns.0 ms back ns.1 z) l))
    by g k file at (OfFiles ms z b) =
        let ns = modules_of others texts ms back z in
        none_between ms ns.0 (moved_modules others texts ms ns.0 there z ns.1)
        (moved_modules texts others ns.0 ms back ns.1 z)
        (λ k file at b. u _ k file at (OfFiles ns.0 ns.1 b)) k file at b
