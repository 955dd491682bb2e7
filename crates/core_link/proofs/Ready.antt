-- Renamed declarations can be read.
use Rattle.std.proofs.Common.{◌≡◌, ℕ, ◌-◌, Bool, true, false, cond, List, [], ◌∷◌, ◌++◌, length, map, refl, sym, ap, subst, Option, Some, None}
use Rattle.std.specs.Prelude.{All, nat_lt, not, slice_get, if◌then◌else◌}
use Rattle.std.specs.List.{flat_map, filter}
use Rattle.std.proofs.lemmas.List.Elements.{All-head, All-tail, All-nil, All-cons}
use Rattle.seq.specs.Lists.{AllOf, or_empty}
use Rattle.seq.proofs.Lists.{all_get}
use Rattle.core_reader.specs.declared.syntax.Binder.{Binder}
use Rattle.core_reader.specs.declared.syntax.Pattern.{Pattern}
use Rattle.core_reader.specs.declared.syntax.Pattern.TheVariants as pattern
use Rattle.core_reader.specs.Tree as tree
use Rattle.core_reader.specs.Tree.{Term, Terms, NoTerms, AndTerm, Application, Bind, Expr, App, Let, Case, Alts, NoAlts, AndAlt, Data, Function}
use Rattle.core_reader.specs.Grammar.{IsGroup, IsNonemptyAlts}
use Rattle.core_reader.specs.Readable.{IsName, IsConstructor, IsTextAt, IsNamed, IsBound, ReadableTerm, ReadableTerms, ReadableBind, ReadablePattern, ReadableExpr, ReadableAlts, ReadableData, ReadableFunction}
use Rattle.arity_check.specs.declared.meaning.Meaning.{Meaning}
use Rattle.arity_check.specs.declared.meaning.Meaning.TheVariants as stands
use Rattle.arity_check.specs.Scope.{Scope, means}
use Rattle.arity_check.specs.Known.{Known, meaning, all_entered}
use Rattle.arity_check.specs.Pieces.{binders_of, bound_by}
use Rattle.arity_check.specs.Whole.{known_of}
use Rattle.arity_check.proofs.Names.{meaning_means}
use Rattle.core_link.specs.Module.{Module, Import, text_in, name_of, seen, imported, imported_functions, is_constructor}
use Rattle.core_link.specs.Union.{global_text, local_text, home_module, import_home}
use Rattle.core_link.specs.Joinable.{IsPlain, NamesPlainly}
use Rattle.core_link.specs.Renaming.{Numbers, number_for, renamed_binder, renamed_term, renamed_terms, renamed_bind, renamed_pattern, renamed_expr, renamed_alts, renamed_data, renamed_function}
use Rattle.core_link.proofs.Homes.{function_text, declared_text}
use Rattle.core_link.proofs.NewNames.{global_name, local_name}
use Rattle.core_link.proofs.Renames.{AreNumbers}

-- ---- the module of each function has a plain name

all_append : {X : Type 0} (P : X → Type 0) (xs ys : List X) → AllOf P xs → AllOf P ys
    → AllOf P (xs ++ ys)
all_append P [] ys h k = k
all_append P (x ∷ xs) ys h k = (h.0, all_append P xs ys h.1 k)

all_filter : {X : Type 0} (P : X → Type 0) (test : X → Bool) (xs : List X) → AllOf P xs
    → AllOf P (filter test xs)
all_filter P test [] h = tt
all_filter P test (x ∷ xs) h = kept (test x) (all_filter P test xs h.1)
  where
    kept : (b : Bool) → AllOf P (filter test xs) → AllOf P
        (cond b (x ∷ filter test xs) (filter test xs))
    kept true k = (h.0, k)
    kept false k = k

module _ (m : Module) (plain : IsPlain (name_of m)) (sources : AllOf (NamesPlainly m) m.imports)
  where
    abbrev FromPlain : Binder × Binder → Type 0
    FromPlain i = IsPlain (text_in m i.0.name.0)

    from_one : (from : Binder) (names : List Binder) → IsPlain (text_in m from.name.0)
        → AllOf FromPlain (map (λ (b : Binder). (from, b)) names)
    from_one from [] h = tt
    from_one from (b ∷ names) h = (h, from_one from names h)

    from_each : (is : List Import) → AllOf (NamesPlainly m) is
        → AllOf FromPlain (flat_map (λ (i : Import). map (λ (b : Binder). (i.from, b)) i.names) is)
    from_each [] h = tt
    from_each (i ∷ is) h = all_append FromPlain (map (λ (b : Binder). (i.from, b)) i.names)
        (flat_map (λ (i : Import). map (λ (b : Binder). (i.from, b)) i.names) is)
        (from_one i.from i.names h.0) (from_each is h.1)

    import_plain : (j : ℕ) (o : Option (Binder × Binder)) → slice_get (imported_functions m) j ≡ o
        → IsPlain (import_home m o)
    import_plain j None e = refl
    import_plain j (Some i) e = all_get FromPlain (imported_functions m) j i
        (all_filter FromPlain (λ (i : Binder × Binder). not (is_constructor m i.1)) (imported m)
        (from_each m.imports sources)) e

    home_plain : (g : ℕ) → IsPlain (home_module m g)
    home_plain g = by (nat_lt g (length m.functions))
      where
        by : (b : Bool) → IsPlain
            (if b then name_of m else import_home m
            (slice_get (imported_functions m) (g - length m.functions)))
        by true = plain
        by false = import_plain (g - length m.functions)
            (slice_get (imported_functions m) (g - length m.functions)) refl

    -- ---- each part

    module _ (names : List (List ℕ)) (n : Numbers) (are : AreNumbers names m n) where
      abbrev k : Known
      k = known_of (seen m)

      bound : (b : Binder) → IsBound m.names b → IsBound names (renamed_binder n b)
      bound b h = (local_text h.0, are.locals b.name.0 h.0 h.1, local_name h.0 h.2)

      bounds : (bs : List Binder) → All (IsBound m.names) bs
          → All (IsBound names) (map (renamed_binder n) bs)
      bounds [] h = All-nil (IsBound names)
      bounds (b ∷ bs) h = All-cons (IsBound names) (renamed_binder n b) (map (renamed_binder n) bs)
          (bound b (All-head (IsBound m.names) b bs h))
          (bounds bs (All-tail (IsBound m.names) b bs h))

      con : (c : ℕ) → IsTextAt m.names IsConstructor c → IsTextAt names IsConstructor (n.itself c)
      con c h = (h.0, are.itself c h.0 h.1, h.2)

      used_by : (s : Scope) (x : ℕ) → IsNamed m.names x → (o : Meaning) → means (seen m) s x ≡ o
          → IsNamed names (number_for n x o)
      used_by s x h (stands.Local y) e = (local_text h.0, are.locals x h.0 h.1, local_name h.0 h.2)
      used_by s x h (stands.Function g params) e =
          let text : text_in m x ≡ h.0 = ap or_empty h.1 in (
            global_text (text_in m x) (home_module m g),
            are.functions g (global_text (text_in m x) (home_module m g))
                (function_text m s x g params e),
            global_name (text_in m x) (home_module m g)
                (subst IsName (sym text) h.2) (home_plain g),
          )
      used_by s x h (stands.Primitive op) e = (h.0, are.itself x h.0 h.1, h.2)
      used_by s x h stands.Unbound e = (h.0, are.itself x h.0 h.1, h.2)

      used : (s : Scope) (x : ℕ) → IsNamed m.names x → IsNamed names (number_for n x (meaning k s x))
      used s x h = subst (λ o. IsNamed names (number_for n x o)) (sym (meaning_means (seen m) s x))
          (used_by s x h (means (seen m) s x) refl)

      mutual
        ready_term : (s : Scope) (a : Term) → ReadableTerm m.names a
            → ReadableTerm names (renamed_term n k s a)
        ready_term s (tree.Name x at) h = used s x h
        ready_term s (tree.Con c at) h = con c h
        ready_term s (tree.Int j at) h = h
        ready_term s (tree.Bracket f xs at) h = (ready_term s f h.0, ready_terms s xs h.1)

        ready_terms : (s : Scope) (xs : Terms) → ReadableTerms m.names xs
            → ReadableTerms names (renamed_terms n k s xs)
        ready_terms s NoTerms h = tt
        ready_terms s (AndTerm a xs) h = (ready_term s a h.0, ready_terms s xs h.1)

      ready_binds : (s : Scope) (bs : List Bind) → All (ReadableBind m.names) bs
          → All (ReadableBind names) (map (renamed_bind n k s) bs)
      ready_binds s [] h = All-nil (ReadableBind names)
      ready_binds s (b ∷ bs) h =
          let r = All-head (ReadableBind m.names) b bs h in
          All-cons (ReadableBind names) (renamed_bind n k s b) (map (renamed_bind n k s) bs)
          (bound b.binder r.0, (ready_term s b.app.head r.1.0, ready_terms s b.app.args r.1.1))
          (ready_binds s bs (All-tail (ReadableBind m.names) b bs h))

      ready_pattern : (p : Pattern) → ReadablePattern m.names p
          → ReadablePattern names (renamed_pattern n p)
      ready_pattern (pattern.Con c fields) h = (con c.name.0 h.0, bounds fields h.1)
      ready_pattern (pattern.Int j at) h = h
      ready_pattern (pattern.Default x) h = bound x h

      group_stays : (s : Scope) (group : List Bind) → IsGroup group
          → IsGroup (map (renamed_bind n k s) group)
      group_stays s [] h = h
      group_stays s (b ∷ bs) h = h

      alts_stay : (s : Scope) (alts : Alts) → IsNonemptyAlts alts
          → IsNonemptyAlts (renamed_alts n k s alts)
      alts_stay s NoAlts h = h
      alts_stay s (AndAlt p e alts) h = h

      mutual
        ready_expr : (s : Scope) (e : Expr) → ReadableExpr m.names e
            → ReadableExpr names (renamed_expr n k s e)
        ready_expr s (App a) h = (ready_term s a.head h.0, ready_terms s a.args h.1)
        ready_expr s (Let group e) h =
            let t = all_entered k (binders_of group) s in
            (group_stays t group h.0, ready_binds t group h.1, ready_expr t e h.2)
        ready_expr s (Case e alts) h =
            (alts_stay s alts h.0, ready_expr s e h.1, ready_alts s alts h.2)

        ready_alts : (s : Scope) (alts : Alts) → ReadableAlts m.names alts
            → ReadableAlts names (renamed_alts n k s alts)
        ready_alts s NoAlts h = tt
        ready_alts s (AndAlt p e alts) h = (
          ready_pattern p h.0,
          ready_expr (all_entered k (bound_by p) s) e h.1,
          ready_alts s alts h.2,
        )

      pub ready_data : (d : Data) → ReadableData m.names d → ReadableData names (renamed_data n d)
      ready_data d h = (con d.name h.0, h.1)

      pub ready_function : (g : ℕ) (f : Function) → slice_get m.functions g ≡ Some f
          → ReadableFunction m.names f → ReadableFunction names (renamed_function n k g f)
      ready_function g f e h =
          let text : text_in m f.name ≡ h.0.0 = ap or_empty h.0.1 in (
            (
              global_text (text_in m f.name) (name_of m),
              are.functions g (global_text (text_in m f.name) (name_of m)) (declared_text m g f e),
              global_name (text_in m f.name) (name_of m) (subst IsName (sym text) h.0.2) plain,
            ),
            bounds f.params h.1,
            ready_expr (all_entered k f.params []) f.body h.2,
          )
