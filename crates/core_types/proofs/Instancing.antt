-- Types that are written, where terms stand for them.
use Rattle.std.proofs.Common.{◌≡◌, ℕ, zero, suc, ◌+◌, ◌<◌, ◌≤◌, Bool, true, false, List, [], ◌∷◌, ◌++◌, length, take, drop, get_or, map, refl, sym, ap, subst, ◌∙◌, arith}
use Rattle.std.specs.Prelude.{codes, if◌then◌else◌}
use Rattle.std.proofs.lemmas.List.{take_more, take_all}
use Rattle.seq.proofs.Lists.{map_push}
use Rattle.core_reader.specs.declared.syntax.Binder.{Binder}
use Rattle.arity_check.specs.Known.{Known}
use Rattle.arity_check.specs.Whole.{known_of, int_kind}
use Rattle.arity_check.proofs.Names.{int_named}
use Rattle.core_types.specs.declared.source.Written as code-written
use Rattle.core_types.specs.declared.nodes.Nodes.{Nodes}
use Rattle.core_types.specs.Source.{Written, WrittenTypes, AndType, NoTypes, Source, erased}
use Rattle.core_types.specs.Source as written
use Rattle.core_types.specs.SourceOf.{types_from, types_in}
use Rattle.core_types.specs.SourceOf as of
use Rattle.core_types.specs.Lists.{is_named}
use Rattle.core_types.specs.Typing.{Typed, Int, Named, Arrow, arrows, read, read_all, read_list, all_of, AtUse, Open}
use Rattle.core_types.specs.Nodes.{Denotes, DenoteAll, DenoteEach, IsSound, ExtendsNodes, AddsTermForType}
use Rattle.core_types.specs.Instances.{AddsTermsForTypes}
use Rattle.core_types.proofs.Denoting.{grows_refl, grows_then}

-- ---- terms in a row

module _ (n : Nodes) where
  pub each_more : (ts : List Typed) (xs : List ℕ) (t : Typed) (x : ℕ) → DenoteEach n ts xs
      → Denotes n t x → DenoteEach n (ts ++ t ∷ []) (xs ++ x ∷ [])
  each_more [] xs t x e d = (x, [], ap (λ l. l ++ x ∷ []) e, d, refl)
  each_more (u ∷ ts) xs t x e d =
      (e.0, e.1 ++ x ∷ [], ap (λ l. l ++ x ∷ []) e.2, e.3, each_more ts e.1 t x e.4 d)

  pub all_denoted : (s : Source) (ts : List Typed) (xs : List ℕ) → DenoteEach n ts xs
      → DenoteAll n (all_of s ts) xs
  all_denoted s [] xs e = e
  all_denoted s (t ∷ ts) xs e = (e.0, e.1, e.2, e.3, all_denoted s ts e.1 e.4)

  pub read_denoted : (s : Source) (v : ℕ → Typed) (ws : WrittenTypes) (xs : List ℕ)
      → DenoteEach n (read_list s v ws) xs → DenoteAll n (read_all s v ws) xs
  read_denoted s v NoTypes xs e = e
  read_denoted s v (AndType w ws) xs e = (e.0, e.1, e.2, e.3, read_denoted s v ws e.1 e.4)

  pub each_length : (ts : List Typed) (xs : List ℕ) → DenoteEach n ts xs → length ts ≡ length xs
  each_length [] xs e = sym (ap length e)
  each_length (t ∷ ts) xs e = ap suc (each_length ts e.1 e.4) ∙ sym (ap length e.2)

  -- the type of one of the terms
  pub each_at : (ts : List Typed) (xs : List ℕ) (i d : ℕ) → DenoteEach n ts xs → i < length xs
      → (t : Typed) × (drop i ts ≡ t ∷ drop (suc i) ts) × Denotes n t (get_or xs i d)
  each_at [] xs i d e l = absurd (let m = ap length e in omega (arith, l, m))
  each_at (t ∷ ts) xs zero d e l =
      (t, refl, subst (Denotes n t) (sym (ap (λ l. get_or l 0 d) e.2)) e.3)
  each_at (t ∷ ts) xs (suc i) d e l =
      let m = ap length e.2 in
      let h = each_at ts e.1 i d e.4 (omega (arith, l, m)) in
      (h.0, h.1, subst (Denotes n h.0) (sym (ap (λ l. get_or l (suc i) d) e.2)) h.2)

pub each_kept : (n n' : Nodes) → ExtendsNodes n n' → (ts : List Typed) (xs : List ℕ)
    → DenoteEach n ts xs → DenoteEach n' ts xs
each_kept n n' g [] xs e = e
each_kept n n' g (t ∷ ts) xs e = (e.0, e.1, e.2, g.one t e.0 e.3, each_kept n n' g ts e.1 e.4)

-- ---- steps

pub gives_as : (n n' : Nodes) (t t' : Typed) (x : ℕ) → t' ≡ t → AddsTermForType n n' t x
    → AddsTermForType n n' t' x
gives_as n n' t t' x e g = subst (λ t. AddsTermForType n n' t x) (sym e) g

pub gives_then : (n n' n'' : Nodes) (t : Typed) (x : ℕ) → ExtendsNodes n n'
    → AddsTermForType n' n'' t x → AddsTermForType n n'' t x
gives_then n n' n'' t x g h = record { grows = grows_then n n' n'' g h.grows; denotes = h.denotes }

pub none_given : (n : Nodes) (xs : List ℕ) → xs ≡ [] → IsSound n → AddsTermsForTypes n n [] xs
none_given n xs e h = record { grows = grows_refl n h; each = e }

pub one_given : (n n' n'' : Nodes) (ts us : List Typed) (xs ys : List ℕ) (t : Typed) (x : ℕ)
    → us ≡ ts ++ t ∷ [] → ys ≡ xs ++ x ∷ [] → AddsTermsForTypes n n' ts xs
    → AddsTermForType n' n'' t x → AddsTermsForTypes n n'' us ys
one_given n n' n'' ts us xs ys t x e f g h = record {
  grows = grows_then n n' n'' g.grows h.grows;
  each = subst (λ us. DenoteEach n'' us ys) (sym e)
      (subst (DenoteEach n'' (ts ++ t ∷ [])) (sym f)
      (each_more n'' ts xs t x (each_kept n' n'' h.grows ts xs g.each) h.denotes));
}

-- ---- types that are read

module _ (s : Source) (v : ℕ → Typed) where
  listed_more : (ws : List Written) (w : Written) → read_list s v (types_from (ws ++ w ∷ [])) ≡
      read_list s v (types_from ws) ++ read s v w ∷ []
  listed_more [] w = refl
  listed_more (x ∷ ws) w = ap (λ l. read s v x ∷ l) (listed_more ws w)

  pub read_more : (ws : List code-written.Written) (i : ℕ) (w : code-written.Written)
      → i < length ws → w ≡ get_or ws i w
      → read_list s v (types_in (take (i + 1) ws)) ≡ read_list s v (types_in (take i ws))
      ++ read s v (of.written w) ∷ []
  read_more ws i w l e =
      ap (λ l. read_list s v (types_in l))
      (take_more ws i w l ∙ ap (λ y. take i ws ++ y ∷ []) (sym e))
      ∙ ap (λ l. read_list s v (types_from l)) (map_push of.written (take i ws) w)
      ∙ listed_more (map of.written (take i ws)) (of.written w)

  pub read_whole : (ws : List code-written.Written) (i : ℕ) → length ws ≤ i
      → read_list s v (types_in (take i ws)) ≡ read_list s v (types_in ws)
  read_whole ws i l = ap (λ l. read_list s v (types_in l)) (take_all i ws l)

  module _ (k : Known) (b : Binder) (args : WrittenTypes) (o : Bool)
      (known : k ≡ known_of (erased s)) (is : o ≡ int_kind (k.kind b.name.0)) where
    is_int : o ≡ is_named s (codes "Int") b.name.0
    is_int = is ∙ ap (λ k. int_kind (k.kind b.name.0)) known ∙ int_named (erased s) b.name.0

    pub int_read : o ≡ true → read s v (written.Named b args) ≡ Int
    int_read e = ap (λ c. if c then Int else Named b.name.0 (read_all s v args)) (sym is_int ∙ e)

    pub named_read : o ≡ false → read s v (written.Named b args) ≡ Named b.name.0
        (read_all s v args)
    named_read e = ap (λ c. if c then Int else Named b.name.0 (read_all s v args)) (sym is_int ∙ e)

-- ---- arrows

-- one more type before others
pub arrow_more : (n n' n'' : Nodes) (ts : List Typed) (t : Typed) (xs : List ℕ) (i x y d : ℕ)
    → i < length xs → DenoteEach n ts xs → AddsTermForType n n' (arrows (drop (suc i) ts) t) x
    → ((u w : Typed) → IsSound n' → Denotes n' u (get_or xs i d) → Denotes n' w x
    → AddsTermForType n' n'' (Arrow u w) y)
    → AddsTermForType n n'' (arrows (drop i ts) t) y
arrow_more n n' n'' ts t xs i x y d l e g h =
    let a = each_at n ts xs i d e l in
    gives_then n n' n'' (arrows (drop i ts) t) y g.grows
    (gives_as n' n'' (Arrow a.0 (arrows (drop (suc i) ts) t)) (arrows (drop i ts) t) y
    (ap (λ us. arrows us t) a.1)
    (h a.0 (arrows (drop (suc i) ts) t) g.grows.sound (g.grows.one a.0 (get_or xs i d) a.2)
    g.denotes))

pub past_all : (n : Nodes) (ts : List Typed) (xs : List ℕ) (t : Typed) (i : ℕ) → DenoteEach n ts xs
    → length xs ≤ i → arrows (drop i ts) t ≡ t
past_all n [] xs t zero e l = refl
past_all n [] xs t (suc i) e l = refl
past_all n (u ∷ ts) xs t zero e l = absurd (let m = ap length e.2 in omega (arith, l, m))
past_all n (u ∷ ts) xs t (suc i) e l = past_all n ts e.1 t i e.4
    (let m = ap length e.2 in omega (arith, l, m))

-- ---- parameters

pub uses_more : (at : ℕ) (bs : List Binder) (i : ℕ) (d : Binder) → i < length bs
    → map (λ (b : Binder). Open (AtUse at b.name.0)) (take (i + 1) bs) ≡ map
    (λ (b : Binder). Open (AtUse at b.name.0)) (take i bs)
    ++ Open (AtUse at (get_or bs i d).name.0) ∷ []
uses_more at bs i d l = ap (map (λ (b : Binder). Open (AtUse at b.name.0))) (take_more bs i d l) ∙
    map_push (λ (b : Binder). Open (AtUse at b.name.0)) (take i bs) (get_or bs i d)

pub map_one : (f : Binder → Typed) (bs : List Binder) (i : ℕ) (d : Binder) → i < length bs
    → map f (take (i + 1) bs) ≡ map f (take i bs) ++ f (get_or bs i d) ∷ []
map_one f bs i d l = ap (map f) (take_more bs i d l) ∙ map_push f (take i bs) (get_or bs i d)

pub map_whole : (f : Binder → Typed) (bs bs' : List Binder) (i : ℕ) → bs ≡ bs' → length bs ≤ i
    → map f (take i bs) ≡ map f bs'
map_whole f bs bs' i e l = ap (map f) (take_all i bs l ∙ e)
