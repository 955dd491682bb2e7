-- The first rule that texts break, where each of them by itself breaks none.
use Rattle.std.proofs.Common.{◌≡◌, ℕ, ◌+◌, ◌<◌, ◌≤◌, Bool, true, false, List, [], ◌∷◌, length, refl, sym, ap, subst, ◌∙◌, arith, Some, None, ◌⊎◌, inl, inr}
use Rattle.std.specs.Prelude.{slice_get, ◌&&◌, codes}
use Rattle.std.specs.List.{AllZip, list_any}
use Rattle.std.specs.Str.{bytes_eq}
use Rattle.seq.proofs.Order.{compared}
use Rattle.seq.proofs.Lists.{get_within}
use Rattle.arity_check.proofs.Names.{same_bytes}
use Rattle.core_reader.proofs.NamingOf.{itself}
use Rattle.core_reader.specs.Tree.{Function}
use Rattle.core_link.specs.Module.{Module, IsModuleText, name_of, text_in}
use Rattle.core_link.specs.Rules.{RuleGroup, Main, Files, BrokenIn, Broken, InFile, NoMainModule, OfFiles, BreaksInterModuleRule, LacksMain, DeclaresMain, rank, rank_in, IsBefore, IsFirstBroken, IsSound, IsUnbroken}
use Rattle.core_link.specs.Rules as rules
use Rattle.core_link.specs.Found.{NamesFirstBrokenRule}
use Rattle.core_link.specs.Shared.{declares_main, IsFirstBetween, IsNoLater}
use Rattle.core_link.proofs.InText.{one_module}
use Rattle.core_link.proofs.Places.{any_at, at_any}

pub one_list : (texts : List (List ℕ)) (ms ns : List Module) → AllZip IsModuleText texts ms
    → AllZip IsModuleText texts ns → ms ≡ ns
one_list [] [] [] h g = refl
one_list [] [] (n ∷ ns) h g = absurd g
one_list [] (m ∷ ms) ns h g = absurd h
one_list (t ∷ texts) [] ns h g = absurd h
one_list (t ∷ texts) (m ∷ ms) [] h g = absurd g
one_list (t ∷ texts) (m ∷ ms) (n ∷ ns) h g =
    let first = one_module t m n h.0 g.0 in
    let rest = one_list texts ms ns h.1 g.1 in
    λ i. first i ∷ rest i

-- ---- a module `Main` with a `main`

both : (b c : Bool) → (b && c) ≡ true → (b ≡ true) × (c ≡ true)
both true c e = (refl, e)
both false c e = absurd cc

pub main_declared : (m : Module) → declares_main m ≡ true → DeclaresMain m
main_declared m e =
    let h = both (bytes_eq (name_of m) (codes "Main"))
    (list_any (λ (f : Function). bytes_eq (text_in m f.name) (codes "main")) m.functions) e in
    let p = any_at (λ (f : Function). bytes_eq (text_in m f.name) (codes "main")) m.functions h.1 in
    record {
      named = same_bytes (name_of m) (codes "Main") h.0;
      number = p.number;
      function
          = p.item;
      is = p.is;
      main = same_bytes (text_in m p.item.name) (codes "main") p.passes;
    }

declared_main : (m : Module) → DeclaresMain m → declares_main m ≡ true
declared_main m d =
    let named : bytes_eq (name_of m) (codes "Main") ≡ true
    = ap (λ w. bytes_eq w (codes "Main")) d.named ∙ itself (codes "Main") in
    let main : bytes_eq (text_in m d.function.name) (codes "main") ≡ true
    = ap (λ w. bytes_eq w (codes "main")) d.main ∙ itself (codes "main") in
    ap (λ b. b && list_any (λ (f : Function). bytes_eq (text_in m f.name) (codes "main"))
    m.functions) named
    ∙ at_any (λ (f : Function). bytes_eq (text_in m f.name) (codes "main")) m.functions d.number
    d.function d.is main

pub none_lacks : (ms : List Module) → list_any declares_main ms ≡ false → LacksMain ms
none_lacks ms e = λ i m is d. never (sym (at_any declares_main ms i m is (declared_main m d)) ∙ e)
  where
    never : true ≡ false → ⊥
    never e = cc

pub some_has : (ms : List Module) → list_any declares_main ms ≡ true → LacksMain ms → ⊥
some_has ms e l = let p = any_at declares_main ms e
    in l p.number p.item p.is (main_declared p.item p.passes)

-- ---- all texts

module _ (texts : List (List ℕ)) (ms : List Module) (read : AllZip IsModuleText texts ms)
    (sound : (i : ℕ) (t : List ℕ) → slice_get texts i ≡ Some t → IsSound t) where
  pub main_first : LacksMain ms → IsFirstBroken texts 59 0 0
  main_first lacks = record { group = Main; broken = NoMainModule ms read lacks; first = first }
    where
      first : (g : RuleGroup) (k file at : ℕ) → Broken texts g k file at
          → IsBefore (1 ∷ []) (rank g k file at)
      first g k file at (InFile {text = t} e b) = absurd (sound file t e g k at b)
      first g k file at (NoMainModule ns z l) = inr (refl, tt)
      first g k file at (OfFiles ns z c) = inl (omega arith)

  module _ (main : LacksMain ms → ⊥) where
    same_main : (ns : List Module) → AllZip IsModuleText texts ns → LacksMain ns → ⊥
    same_main ns z l = main (subst LacksMain (one_list texts ns ms z read) l)

    ordered : (f : ℕ × (ℕ × ℕ)) (k file at : ℕ) → IsNoLater f k file at
        → IsBefore (2 ∷ f.0 ∷ f.1.1 ∷ f.1.0 ∷ []) (2 ∷ file ∷ at ∷ k ∷ [])
    ordered f k file at (inl l) = inr (refl, inl l)
    ordered f k file at (inr (e, inl l)) = inr (refl, inr (e, inl l))
    ordered f k file at (inr (e, inr (s, l))) = inr (refl, inr (e, inr (s, last f.1.0 k l)))
      where
        last : (a b : ℕ) → a ≤ b → IsBefore (a ∷ []) (b ∷ [])
        last a b l = elim (compared a b) [
          | inl m ↦ inl m
          | inr n ↦ elim n
              [ inl e ↦ inr (e, tt) | inr g ↦ absurd (omega (arith, l, g)) ]
        ]

    pub between_first_broken : (f : ℕ × (ℕ × ℕ)) → IsFirstBetween ms (Some f)
        → IsFirstBroken texts f.1.0 f.0 f.1.1
    between_first_broken f h = record { group = Files; broken = OfFiles ms read h.0; first = first }
      where
        first : (g : RuleGroup) (k file at : ℕ) → Broken texts g k file at
            → IsBefore (2 ∷ f.0 ∷ f.1.1 ∷ f.1.0 ∷ []) (rank g k file at)
        first g k file at (InFile {text = t} e b) = absurd (sound file t e g k at b)
        first g k file at (NoMainModule ns z l) = absurd (same_main ns z l)
        first g k file at (OfFiles ns z c) = ordered f k file at
            (h.1 k file at
            (subst (λ w. BreaksInterModuleRule w k file at) (one_list texts ns ms z read) c))

    pub all_unbroken : IsFirstBetween ms None → IsUnbroken texts
    all_unbroken h g k file at (InFile {text = t} e b) = sound file t e g k at b
    all_unbroken h g k file at (NoMainModule ns z l) = same_main ns z l
    all_unbroken h g k file at (OfFiles ns z c) = h k file at
        (subst (λ w. BreaksInterModuleRule w k file at) (one_list texts ns ms z read) c)

-- ---- the first file with a broken rule

module _ (ms : List Module) where
  file_within : (k file at : ℕ) → BreaksInterModuleRule ms k file at → file < length ms
  file_within k file at (rules.DuplicateModule {m = m} e f l s) = get_within ms file m e
  file_within k file at (rules.UnknownModule {m = m} n e i s) = get_within ms file m e
  file_within k file at (rules.NotExported {m = m} n e i s h) = get_within ms file m e
  file_within k file at (rules.DuplicateImport {m = m} n e i t) = get_within ms file m e
  file_within k file at (rules.UnknownName {m = m} e b) = get_within ms file m e
  file_within k file at (rules.AgainElsewhere {m = m} n i e f l g h s) = get_within ms file m e

  abbrev pub NoneBefore : ℕ → Type 0
  NoneBefore n = (k file at : ℕ) → file < n → BreaksInterModuleRule ms k file at → ⊥

  pub none_next : (n : ℕ) → NoneBefore n → NamesFirstBrokenRule
      (λ k at. BreaksInterModuleRule ms k n at) None → NoneBefore (n + 1)
  none_next n h g k file at l b = elim (compared file n) [
    | inl m ↦ h k file at m b
    | inr m ↦ elim m [
      | inl e ↦ g k at (subst (λ f. BreaksInterModuleRule ms k f at) e b)
      | inr o ↦ omega
          (arith, l, o)
    ]
  ]

  pub none_all : (n : ℕ) → length ms ≤ n → NoneBefore n → IsFirstBetween ms None
  none_all n l h k file at b = let m = file_within k file at b
      in h k file at (omega (arith, l, m)) b

  pub first_at : (n : ℕ) (f : ℕ × ℕ) → NoneBefore n
      → NamesFirstBrokenRule (λ k at. BreaksInterModuleRule ms k n at) (Some f)
      → IsFirstBetween ms (Some (n, f))
  first_at n f h g = (g.0, first)
    where
      first : (k file at : ℕ) → BreaksInterModuleRule ms k file at → IsNoLater (n, f) k file at
      first k file at b = elim (compared n file) [
        | inl l ↦ inl l
        | inr m ↦ elim m [
          | inl e ↦ inr (e, g.1 k at (subst (λ i. BreaksInterModuleRule ms k i at) (sym e) b))
          | inr o ↦ absurd (h k file at o b)
        ]
      ]

  -- the rules between modules are six
  pub between_rule : (k file at : ℕ) → BreaksInterModuleRule ms k file at → (k ≡ 52)
      ⊎ ((k ≡ 53) ⊎ ((k ≡ 54) ⊎ ((k ≡ 56) ⊎ ((k ≡ 57) ⊎ (k ≡ 58)))))
  between_rule k file at (rules.DuplicateModule e f l s) = inl refl
  between_rule k file at (rules.UnknownModule n e i s) = inr (inl refl)
  between_rule k file at (rules.NotExported n e i s h) = inr (inr (inl refl))
  between_rule k file at (rules.DuplicateImport n e i t) = inr (inr (inr (inl refl)))
  between_rule k file at (rules.UnknownName e b) = inr (inr (inr (inr (inl refl))))
  between_rule k file at (rules.AgainElsewhere n i e f l g h s) = inr (inr (inr (inr (inr refl))))
