-- A module's declarations with the names that the code gives them are what the union has of them.
use Rattle.std.proofs.Common.{◌≡◌, ℕ, List, [], ◌∷◌, map, refl, sym, ap, subst, ◌∙◌, Some}
use Rattle.std.specs.Prelude.{All, slice_get}
use Rattle.std.specs.List.{AllZip}
use Rattle.std.proofs.lemmas.List.Elements.{All-head, All-tail}
use Rattle.seq.specs.Lists.{or_empty}
use Rattle.core_reader.specs.declared.syntax.Binder.{Binder}
use Rattle.core_reader.specs.declared.syntax.Pattern.{Pattern}
use Rattle.core_reader.specs.declared.syntax.Pattern.TheVariants as pattern
use Rattle.core_reader.specs.Tree as tree
use Rattle.core_reader.specs.Tree.{Term, Terms, NoTerms, AndTerm, Application, Bind, Expr, App, Let, Case, Alts, NoAlts, AndAlt, Data, Function}
use Rattle.core_reader.specs.Readable.{IsBound, ReadableTerm, ReadableTerms, ReadableBind, ReadablePattern, ReadableExpr, ReadableAlts, ReadableData, ReadableFunction}
use Rattle.core_print.specs.Renamed.{RenamedBinder, RenamedTerm, RenamedTerms, RenamedBind, RenamedPattern, RenamedExpr, RenamedAlts, behind}
use Rattle.arity_check.specs.declared.meaning.Meaning.{Meaning}
use Rattle.arity_check.specs.declared.meaning.Meaning.TheVariants as stands
use Rattle.arity_check.specs.Scope.{Scope, means}
use Rattle.arity_check.specs.Known.{Known, meaning, all_entered}
use Rattle.arity_check.specs.Pieces.{binders_of, bound_by, within}
use Rattle.arity_check.specs.Whole.{known_of}
use Rattle.arity_check.proofs.Names.{meaning_means, entered_within}
use Rattle.core_link.specs.Module.{Module, text_in, name_of, seen}
use Rattle.core_link.specs.Union.{global_text, local_text, home_module, meaning_text, Becomes, LocalBecomes, ConBecomes, UseBecomes, ConstructorBecomes, FunctionBecomes, enter}
use Rattle.core_link.specs.Renaming.{Numbers, number_for, renamed_binder, renamed_term, renamed_terms, renamed_bind, renamed_pattern, renamed_expr, renamed_alts, renamed_data, renamed_function, function_texts}
use Rattle.core_link.proofs.Homes.{function_text, declared_text}

module _ (names : List (List ℕ)) (m : Module) (n : Numbers) where
  -- each name of the module has the numbers of what becomes of it
  pub record AreNumbers : Type 0 where
    pub locals : (x : ℕ) (w : List ℕ) → slice_get m.names x ≡ Some w
        → Becomes names m (local_text w) (n.local x)
    pub itself : (x : ℕ) (w : List ℕ) → slice_get m.names x ≡ Some w
        → Becomes names m w (n.itself x)
    pub functions : (g : ℕ) (w : List ℕ) → slice_get (function_texts m) g ≡ Some w
        → Becomes names m w (n.function g)

  module _ (are : AreNumbers) where
    abbrev k : Known
    k = known_of (seen m)

    abbrev Ent : List Binder → List Binder → Scope → Scope
    Ent = enter names m

    abbrev RBinder : Binder → Binder → Type 0
    RBinder = RenamedBinder Ent (LocalBecomes names m) (ConBecomes names m) (UseBecomes names m)

    abbrev RTerm : Scope → Term → Term → Type 0
    RTerm = RenamedTerm Ent (LocalBecomes names m) (ConBecomes names m) (UseBecomes names m)

    abbrev RTerms : Scope → Terms → Terms → Type 0
    RTerms = RenamedTerms Ent (LocalBecomes names m) (ConBecomes names m) (UseBecomes names m)

    abbrev RBind : Scope → Bind → Bind → Type 0
    RBind = RenamedBind Ent (LocalBecomes names m) (ConBecomes names m) (UseBecomes names m)

    abbrev RPattern : Pattern → Pattern → Type 0
    RPattern = RenamedPattern Ent (LocalBecomes names m) (ConBecomes names m) (UseBecomes names m)

    abbrev RExpr : Scope → Expr → Expr → Type 0
    RExpr = RenamedExpr Ent (LocalBecomes names m) (ConBecomes names m) (UseBecomes names m)

    abbrev RAlts : Scope → Alts → Alts → Type 0
    RAlts = RenamedAlts Ent (LocalBecomes names m) (ConBecomes names m) (UseBecomes names m)

    -- the text of a name is the one that the module knows
    known_text : (x : ℕ) (w : List ℕ) → slice_get m.names x ≡ Some w → w ≡ text_in m x
    known_text x w e = sym (ap or_empty e)

    local_becomes : (x : ℕ) (w : List ℕ) → slice_get m.names x ≡ Some w
        → LocalBecomes names m x (n.local x)
    local_becomes x w e = subst (λ v. Becomes names m (local_text v) (n.local x)) (known_text x w e)
        (are.locals x w e)

    con_becomes : (x : ℕ) (w : List ℕ) → slice_get m.names x ≡ Some w
        → ConBecomes names m x (n.itself x)
    con_becomes x w e = subst (λ v. Becomes names m v (n.itself x)) (known_text x w e)
        (are.itself x w e)

    use_by : (s : Scope) (x : ℕ) (w : List ℕ) → slice_get m.names x ≡ Some w → (o : Meaning)
        → means (seen m) s x ≡ o → Becomes names m (meaning_text m (text_in m x) o)
        (number_for n x o)
    use_by s x w e (stands.Local y) f = local_becomes x w e
    use_by s x w e (stands.Function g params) f = are.functions g
        (global_text (text_in m x) (home_module m g)) (function_text m s x g params f)
    use_by s x w e (stands.Primitive op) f = con_becomes x w e
    use_by s x w e stands.Unbound f = con_becomes x w e

    use_becomes : (s : Scope) (x : ℕ) (w : List ℕ) → slice_get m.names x ≡ Some w
        → UseBecomes names m s x (number_for n x (meaning k s x))
    use_becomes s x w e = subst (λ o. UseBecomes names m s x (number_for n x o))
        (sym (meaning_means (seen m) s x)) (use_by s x w e (means (seen m) s x) refl)

    binder_becomes : (b : Binder) → IsBound m.names b → RBinder b (renamed_binder n b)
    binder_becomes b h = local_becomes b.name.0 h.0 h.1

    binders_become : (bs : List Binder) → All (IsBound m.names) bs
        → AllZip RBinder bs (map (renamed_binder n) bs)
    binders_become [] h = tt
    binders_become (b ∷ bs) h = (
      binder_becomes b (All-head (IsBound m.names) b bs h),
      binders_become bs (All-tail (IsBound m.names) b bs h),
    )

    mutual
      term_becomes : (s : Scope) (a : Term) → ReadableTerm m.names a
          → RTerm s a (renamed_term n k s a)
      term_becomes s (tree.Name x at) h = use_becomes s x h.0 h.1
      term_becomes s (tree.Con c at) h = con_becomes c h.0 h.1
      term_becomes s (tree.Int j at) h = refl
      term_becomes s (tree.Bracket f xs at) h = (term_becomes s f h.0, terms_become s xs h.1)

      terms_become : (s : Scope) (xs : Terms) → ReadableTerms m.names xs
          → RTerms s xs (renamed_terms n k s xs)
      terms_become s NoTerms h = tt
      terms_become s (AndTerm a xs) h = (term_becomes s a h.0, terms_become s xs h.1)

    -- the members of a group, all in one scope t, which is also called s
    binds_become : (s : Scope) (bs : List Bind) → All (ReadableBind m.names) bs
        → AllZip (RBind s) bs (map (renamed_bind n k s) bs)
    binds_become s [] h = tt
    binds_become s (b ∷ bs) h =
        let r = All-head (ReadableBind m.names) b bs h in (
          (
            binder_becomes b.binder r.0,
            (term_becomes s b.app.head r.1.0, terms_become s b.app.args r.1.1),
          ),
          binds_become s bs (All-tail (ReadableBind m.names) b bs h),
        )

    pattern_becomes : (p : Pattern) → ReadablePattern m.names p → RPattern p (renamed_pattern n p)
    pattern_becomes (pattern.Con c fields) h =
        (con_becomes c.name.0 h.0.0 h.0.1, binders_become fields h.1)
    pattern_becomes (pattern.Int j at) h = refl
    pattern_becomes (pattern.Default x) h = binder_becomes x h

    -- what a pattern binds enters the scope
    behind_is : (p : Pattern) (s : Scope) → behind Ent (LocalBecomes names m) (ConBecomes names m)
        (UseBecomes names m) p (renamed_pattern n p) s ≡ within (seen m) (bound_by p) s
    behind_is (pattern.Con c fields) s = refl
    behind_is (pattern.Int j at) s = refl
    behind_is (pattern.Default x) s = refl

    mutual
      expr_becomes : (s : Scope) (e : Expr) → ReadableExpr m.names e
          → RExpr s e (renamed_expr n k s e)
      expr_becomes s (App a) h = (term_becomes s a.head h.0, terms_become s a.args h.1)
      expr_becomes s (Let group e) h =
          let t = all_entered k (binders_of group) s in
          subst (λ u. AllZip (RBind u) group (map (renamed_bind n k t) group)
          × RExpr u e (renamed_expr n k t e)) (entered_within (seen m) (binders_of group) s)
          (binds_become t group h.1, expr_becomes t e h.2)
      expr_becomes s (Case e alts) h = (expr_becomes s e h.1, alts_become s alts h.2)

      alts_become : (s : Scope) (alts : Alts) → ReadableAlts m.names alts
          → RAlts s alts (renamed_alts n k s alts)
      alts_become s NoAlts h = tt
      alts_become s (AndAlt p e alts) h =
          let t = all_entered k (bound_by p) s in (
            pattern_becomes p h.0,
            subst (λ u. RExpr u e (renamed_expr n k t e))
                (entered_within (seen m) (bound_by p) s ∙ sym (behind_is p s)) (expr_becomes t e h.1),
            alts_become s alts h.2,
          )

    pub data_becomes : (d : Data) → ReadableData m.names d
        → ConstructorBecomes names m d (renamed_data n d)
    data_becomes d h = (con_becomes d.name h.0.0 h.0.1, refl)

    pub function_becomes : (g : ℕ) (f : Function) → slice_get m.functions g ≡ Some f
        → ReadableFunction m.names f → FunctionBecomes names m f (renamed_function n k g f)
    function_becomes g f e h =
        let t = all_entered k f.params [] in (
          are.functions g (global_text (text_in m f.name) (name_of m)) (declared_text m g f e),
          binders_become f.params h.1,
          subst (λ u. RExpr u f.body (renamed_expr n k t f.body))
              (entered_within (seen m) f.params []) (expr_becomes t f.body h.2),
        )
