-- What carries types keeps how they are read: instances and substitutions.
use Rattle.std.proofs.Common.{◌≡◌, ℕ, ◌<◌, Bool, true, false, cond, List, [], ◌∷◌, ◌++◌, map, length, Option, Some, None, slice_get, refl, sym, ap, ◌∙◌, arith}
use Rattle.std.specs.Prelude.{codes}
use Rattle.core_reader.specs.declared.syntax.Binder.{Binder}
use Rattle.core_reader.specs.Tree as tree
use Rattle.core_types.specs.Source.{Written, WrittenTypes, NoTypes, AndType, TypeDecl, Signature, Source}
use Rattle.core_types.specs.Source as written
use Rattle.core_types.specs.Lists.{is_named}
use Rattle.core_types.specs.Typing.{Typed, Types, Int, Rigid, Named, Arrow, NoTypeds, AndTyped, arrows, read, read_all, read_list, signed, all_of, applied, used_at, function_type, own_type, signature_of, Substitution, under, under_all}
use Rattle.type_meaning.specs.Judgement.{Instance, instance, instances}

pub record Carries (F : Typed → Typed) (Fs : Types → Types) : Type 0 where
  pub int : F Int ≡ Int
  pub named : (n : ℕ) (args : Types) → F (Named n args) ≡ Named n (Fs args)
  pub arrow : (a b : Typed) → F (Arrow a b) ≡ Arrow (F a) (F b)
  pub none : Fs NoTypeds ≡ NoTypeds
  pub more : (t : Typed) (ts : Types) → Fs (AndTyped t ts) ≡ AndTyped (F t) (Fs ts)

pub instance_carries : (ρ : Instance) → Carries (instance ρ) (instances ρ)
instance_carries ρ = record
    { int = refl; named = λ n a. refl; arrow = λ a b. refl; none = refl; more = λ t ts. refl }

-- a solution, and then an instance
abbrev pub under_both : Substitution → Instance → Typed → Typed
under_both σ ρ t = instance ρ (under σ t)

pub both_carry : (σ : Substitution) (ρ : Instance) → Carries (under_both σ ρ)
    (λ ts. instances ρ (under_all σ ts))
both_carry σ ρ = record
    { int = refl; named = λ n a. refl; arrow = λ a b. refl; none = refl; more = λ t ts. refl }

module _ (F : Typed → Typed) (Fs : Types → Types) (c : Carries F Fs) where
  pub carry_arrows : (ts : List Typed) (t : Typed) → F (arrows ts t) ≡ arrows (map F ts) (F t)
  carry_arrows [] t = refl
  carry_arrows (u ∷ us) t = c.arrow u (arrows us t) ∙ ap (λ r. Arrow (F u) r) (carry_arrows us t)

  pub carry_all_of : (s : Source) (ts : List Typed) → Fs (all_of s ts) ≡ all_of s (map F ts)
  carry_all_of s [] = c.none
  carry_all_of s (t ∷ ts) = c.more t (all_of s ts) ∙ ap (λ r. AndTyped (F t) r) (carry_all_of s ts)

  carry_named : (b : Bool) (n : ℕ) (args args' : Types) → Fs args ≡ args'
      → F (cond b Int (Named n args)) ≡ cond b Int (Named n args')
  carry_named true n args args' e = c.int
  carry_named false n args args' e = c.named n args ∙ ap (λ r. Named n r) e

  module _ (s : Source) (var : ℕ → Typed) where
    abbrev carried : ℕ → Typed
    carried n = F (var n)

    mutual
      pub carry_read : (w : Written) → F (read s var w) ≡ read s carried w
      carry_read (written.Var b) = refl
      carry_read (written.Named b args) = carry_named (is_named s (codes "Int") b.name.0) b.name.0
          (read_all s var args) (read_all s carried args) (carry_read_all args)
      carry_read (written.Arrow from to) = c.arrow (read s var from) (read s var to) ∙
          (λ i. Arrow (carry_read from i) (carry_read to i))

      carry_read_all : (ws : WrittenTypes) → Fs (read_all s var ws) ≡ read_all s carried ws
      carry_read_all NoTypes = c.none
      carry_read_all (AndType w ws) = c.more (read s var w) (read_all s var ws) ∙
          (λ i. AndTyped (carry_read w i) (carry_read_all ws i))

    pub carry_list : (ws : WrittenTypes) → map F (read_list s var ws) ≡ read_list s carried ws
    carry_list NoTypes = refl
    carry_list (AndType w ws) = λ i. carry_read w i ∷ carry_list ws i

    pub carry_signed : (g : Signature) → F (signed s var g) ≡ signed s carried g
    carry_signed g = carry_arrows (read_list s var g.args) (read s var g.result) ∙
        (λ i. arrows (carry_list g.args i) (carry_read g.result i))

    carry_vars : (params : List Binder) → map F (map (λ (b : Binder). var b.name.0) params) ≡ map
        (λ (b : Binder). carried b.name.0) params
    carry_vars [] = refl
    carry_vars (b ∷ bs) = ap (λ r. carried b.name.0 ∷ r) (carry_vars bs)

    pub carry_applied : (d : TypeDecl) → F (applied s d var) ≡ applied s d carried
    carry_applied d =
        c.named d.name.name.0 _ ∙ ap (λ r. Named d.name.name.0 r)
        (carry_all_of s (map (λ (b : Binder). var b.name.0) d.params) ∙ ap (λ r. all_of s r)
        (carry_vars d.params))

-- ---- arrows

pub arrows_same : (ts us : List Typed) (t u : Typed) → length ts ≡ length us
    → arrows ts t ≡ arrows us u → (ts ≡ us) × (t ≡ u)
arrows_same [] [] t u l e = (refl, e)
arrows_same [] (w ∷ us) t u l e = absurd (omega (arith, l))
arrows_same (v ∷ ts) [] t u l e = absurd (omega (arith, l))
arrows_same (v ∷ ts) (w ∷ us) t u l e =
    let head : v ≡ w = cc in
    let tail : arrows ts t ≡ arrows us u = cc in
    let r = arrows_same ts us t u (omega (arith, l)) tail in
    ((λ i. head i ∷ r.0 i), r.1)

-- fewer on the right: the others are left
pub arrows_fewer : (ts us : List Typed) (t u : Typed) → length us < length ts
    → arrows ts t ≡ arrows us u → (v : Typed) × (vs : List Typed) × (ts ≡ us ++ v ∷ vs)
    × (u ≡ arrows (v ∷ vs) t)
arrows_fewer [] us t u l e = absurd (omega (arith, l))
arrows_fewer (v ∷ ts) [] t u l e = (v, ts, refl, sym e)
arrows_fewer (v ∷ ts) (w ∷ us) t u l e =
    let head : v ≡ w = cc in
    let tail : arrows ts t ≡ arrows us u = cc in
    let r = arrows_fewer ts us t u (omega (arith, l)) tail in
    (r.0, r.1, (λ i. head i ∷ r.2 i), r.3)

pub arrows_append : (ts us : List Typed) (t : Typed) → arrows (ts ++ us) t ≡ arrows ts (arrows us t)
arrows_append [] us t = refl
arrows_append (v ∷ ts) us t = ap (λ r. Arrow v r) (arrows_append ts us t)

-- ---- what a signature says of a function

module _ (s : Source) (σ : Substitution) where
  -- the constraint of each signature is solved
  abbrev pub Signed : Type 0
  Signed = (f : tree.Function) (g : Signature) (i : ℕ) → slice_get s.functions i ≡ Some f
      → signature_of s.signatures f.name ≡ Some g → under σ (signed s (λ n. Rigid f.name n) g) ≡
      under σ (own_type s f)

  -- a function that is used has an instance of its own type
  pub used_has : (ρ : Instance) (signs : Signed) (f : tree.Function) (i at : ℕ)
      → slice_get s.functions i ≡ Some f
      → (ρ' : Instance) × (under_both σ ρ (function_type s f at) ≡ under_both σ ρ' (own_type s f))
  used_has ρ signs f i at e = by_signature (signature_of s.signatures f.name) refl
    where
      by_signature : (o : Option Signature) → signature_of s.signatures f.name ≡ o
          → (ρ' : Instance) ×
          (under_both σ ρ (elim o [ Some g ↦ signed s (used_at s at) g | None ↦ own_type s f ])
          ≡ under_both σ ρ' (own_type s f))
      by_signature None h = (ρ, refl)
      by_signature (Some g) h =
          let var : ℕ → Typed = λ n. under_both σ ρ (used_at s at n) in
          let ρ' : Instance = λ f n. var n in
          let left : under_both σ ρ (signed s (used_at s at) g) ≡ signed s var g
          = carry_signed (under_both σ ρ) _ (both_carry σ ρ) s (used_at s at) g in
          let right : under_both σ ρ' (signed s (λ n. Rigid f.name n) g) ≡ signed s var g
          = carry_signed (under_both σ ρ') _ (both_carry σ ρ') s (λ n. Rigid f.name n) g in
          (ρ', left ∙ sym right ∙ ap (instance ρ') (signs f g i e h))
