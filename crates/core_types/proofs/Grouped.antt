-- Names that enter a scope, one after the other.
use Rattle.std.proofs.Common.{◌≡◌, ℕ, ◌+◌, ◌<◌, ◌≤◌, Bool, true, false, List, [], ◌∷◌, ◌++◌, length, take, get_or, map, refl, sym, ap, subst, ◌∙◌, append_assoc, arith, zero, suc, Some, None}
use Rattle.std.specs.Prelude.{codes, slice_get, if◌then◌else◌}
use Rattle.std.proofs.lemmas.List.{take_more}
use Rattle.seq.proofs.Lists.{map_push}
use Rattle.core_reader.specs.declared.syntax.Binder.{Binder}
use Rattle.core_reader.specs.declared.syntax.Bind as code
use Rattle.core_reader.specs.Tree.{Bind, bind}
use Rattle.arity_check.specs.Known.{Known, is_nameless}
use Rattle.arity_check.specs.Whole.{known_of}
use Rattle.arity_check.proofs.Names.{nameless_named}
use Rattle.core_types.specs.Source.{Source, erased}
use Rattle.core_types.specs.Lists.{is_named}
use Rattle.core_types.specs.declared.nodes.Nodes.{Nodes}
use Rattle.core_types.specs.Nodes.{Denotes, DenoteEach}
use Rattle.core_types.specs.Typing.{Typed, Constraint, Locals, binder_type_variable, binds, binds_all, with_group, of_app, of_group}

module _ (s : Source) (ls : Locals) (k : Known) (b : Binder) (t : Typed) (o : Bool)
    (known : k ≡ known_of (erased s)) (is : o ≡ is_nameless k b.name.0) where
  named_by : o ≡ is_named s (codes "_") b.name.0
  named_by = is ∙ ap (λ k. is_nameless k b.name.0) known ∙ nameless_named (erased s) b.name.0

  pub hidden : o ≡ true → binds s b t ls ≡ ls
  hidden e = ap (λ c. if c then ls else (b.name.0, t) ∷ ls) (sym named_by ∙ e)

  pub seen : o ≡ false → binds s b t ls ≡ (b.name.0, t) ∷ ls
  seen e = ap (λ c. if c then ls else (b.name.0, t) ∷ ls) (sym named_by ∙ e)

module _ (s : Source) where
  with_last : (bs : List Bind) (b : Bind) (ls : Locals)
      → with_group s (bs ++ b ∷ []) ls ≡ binds s b.binder (binder_type_variable b.binder)
      (with_group s bs ls)
  with_last [] b ls = refl
  with_last (a ∷ bs) b ls = with_last bs b (binds s a.binder (binder_type_variable a.binder) ls)

  of_last : (ls : Locals) (bs : List Bind) (b : Bind)
      → of_group s ls (bs ++ b ∷ []) ≡ of_group s ls bs
      ++ of_app s ls (binder_type_variable b.binder) b.app
  of_last ls [] b = go (of_app s ls (binder_type_variable b.binder) b.app)
    where
      go : (cs : List Constraint) → cs ++ [] ≡ cs
      go [] = refl
      go (c ∷ cs) = ap (λ cs. c ∷ cs) (go cs)
  of_last ls (a ∷ bs) b = ap (λ l. of_app s ls (binder_type_variable a.binder) a.app ++ l)
      (of_last ls bs b)
      ∙ sym (append_assoc (of_app s ls (binder_type_variable a.binder) a.app) (of_group s ls bs)
      (of_app s ls (binder_type_variable b.binder) b.app))

  module _ (bs : List code.Bind) (i : ℕ) (b : code.Bind) (l : i < length bs)
      (is : b ≡ get_or bs i b) where
    one_bind : map bind (take (i + 1) bs) ≡ map bind (take i bs) ++ bind b ∷ []
    one_bind = ap (map bind) (take_more bs i b l ∙ ap (λ y. take i bs ++ y ∷ []) (sym is)) ∙
        map_push bind (take i bs) b

    pub with_one : (ls : Locals) → with_group s (map bind (take (i + 1) bs)) ls ≡ binds s b.binder
        (binder_type_variable b.binder) (with_group s (map bind (take i bs)) ls)
    with_one ls = ap (λ bs. with_group s bs ls) one_bind ∙ with_last (map bind (take i bs)) (bind b)
        ls

    pub of_one : (ls : Locals) → of_group s ls (map bind (take (i + 1) bs)) ≡ of_group s ls
        (map bind (take i bs)) ++ of_app s ls (binder_type_variable b.binder) (bind b).app
    of_one ls = ap (of_group s ls) one_bind ∙ of_last ls (map bind (take i bs)) (bind b)

-- ---- binders with types

module _ (n : Nodes) where
  each_place : (ts : List Typed) (xs : List ℕ) (i d : ℕ) → DenoteEach n ts xs → i < length xs
      → (t : Typed) × (slice_get ts i ≡ Some t) × Denotes n t (get_or xs i d)
  each_place [] xs i d e l = absurd (let m = ap length e in omega (arith, l, m))
  each_place (t ∷ ts) xs zero d e l =
      (t, refl, subst (Denotes n t) (sym (ap (λ l. get_or l 0 d) e.2)) e.3)
  each_place (t ∷ ts) xs (suc i) d e l =
      let m = ap length e.2 in
      let h = each_place ts e.1 i d e.4 (omega (arith, l, m)) in
      (h.0, h.1, subst (Denotes n h.0) (sym (ap (λ l. get_or l (suc i) d) e.2)) h.2)

  pub each_found : (ts : List Typed) (xs : List ℕ) (i x : ℕ) → DenoteEach n ts xs → i < length xs
      → x ≡ get_or xs i x → (t : Typed) × (slice_get ts i ≡ Some t) × Denotes n t x
  each_found ts xs i x e l is = let h = each_place ts xs i x e l
      in (h.0, h.1, subst (Denotes n h.0) (sym is) h.2)

  pub each_missing : (ts : List Typed) (xs : List ℕ) (i : ℕ) → DenoteEach n ts xs → length xs ≤ i
      → slice_get ts i ≡ None
  each_missing [] xs zero e l = refl
  each_missing [] xs (suc i) e l = refl
  each_missing (t ∷ ts) xs zero e l = absurd (let m = ap length e.2 in omega (arith, l, m))
  each_missing (t ∷ ts) xs (suc i) e l = each_missing ts e.1 i e.4
      (let m = ap length e.2 in omega (arith, l, m))

module _ (s : Source) where
  -- one more binder with a type, or no more types
  binds_next : (bs : List Binder) (ts : List Typed) (ls : Locals) (i : ℕ) (d : Binder) (t : Typed)
      → i < length bs → slice_get ts i ≡ Some t
      → binds_all s (take (suc i) bs) ts ls ≡ binds s (get_or bs i d) t
      (binds_all s (take i bs) ts ls)
  binds_next [] ts ls i d t l e = absurd (omega (arith, l))
  binds_next (b ∷ bs) [] ls i d t l e = absurd cc
  binds_next (b ∷ bs) (u ∷ ts) ls zero d t l e = let same : u ≡ t = cc
      in ap (λ t. binds s b t ls) same
  binds_next (b ∷ bs) (u ∷ ts) ls (suc i) d t l e = binds_next bs ts (binds s b u ls) i d t
      (omega (arith, l)) e

  pub binds_one : (bs : List Binder) (ts : List Typed) (ls : Locals) (i : ℕ) (d : Binder)
      (t : Typed) → i < length bs → slice_get ts i ≡ Some t
      → binds_all s (take (i + 1) bs) ts ls ≡ binds s (get_or bs i d) t
      (binds_all s (take i bs) ts ls)
  binds_one bs ts ls i d t l e = let more : i + 1 ≡ suc i = omega arith
      in ap (λ n. binds_all s (take n bs) ts ls) more ∙ binds_next bs ts ls i d t l e

  pub binds_stop : (bs : List Binder) (ts : List Typed) (ls : Locals) (i : ℕ)
      → slice_get ts i ≡ None → binds_all s bs ts ls ≡ binds_all s (take i bs) ts ls
  binds_stop [] ts ls zero e = refl
  binds_stop [] ts ls (suc i) e = refl
  binds_stop (b ∷ bs) [] ls zero e = refl
  binds_stop (b ∷ bs) [] ls (suc i) e = refl
  binds_stop (b ∷ bs) (u ∷ ts) ls zero e = absurd cc
  binds_stop (b ∷ bs) (u ∷ ts) ls (suc i) e = binds_stop bs ts (binds s b u ls) i e
