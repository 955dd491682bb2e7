-- What the normal form of a tree as an expression is: a term that stands for the tree node by node,
-- and with it a normal
-- form of the body of each leaf.
use Rattle.std.proofs.Common.{◌≡◌, ℕ, ◌+◌, ◌<◌, ◌≤◌, Bool, true, false, List, [], ◌∷◌, ◌++◌, map, length, refl, sym, ap, subst, ◌∙◌, arith, Option, Some, inl, inr}
use Rattle.std.specs.Prelude.{codes}
use Rattle.std.specs.List.{range_with_len}
use Rattle.std.proofs.lemmas.List.FromFn.{length-range_with_len}
use Rattle.seq.specs.Lists.{AllOf, In}
use Rattle.seq.proofs.Lists.{all_append, append_again, length_map}
use Rattle.seq.proofs.Member.{in_left, in_right, in_split}
use Rattle.seq.proofs.Truth.{and_left, and_right, or_left, or_right}
use Rattle.core_reader.specs.declared.syntax.Binder.{Binder}
use Rattle.core_reader.specs.Tree.{Expr, App, NoTerms, Alts, NoAlts, Program}
use Rattle.core_reader.specs.Tree as core
use Rattle.arity_check.specs.declared.normal.Flat.TheVariants as flat
use Rattle.arity_check.specs.declared.normal.Var.TheVariants as var
use Rattle.arity_check.specs.declared.meaning.Meaning.TheVariants as stands
use Rattle.arity_check.specs.Scope.{Scope, is_named, con_number, means, primitives, primitive_from, function_from, binds_all}
use Rattle.arity_check.specs.Program as normal
use Rattle.arity_check.specs.Normal.{Named, IsNamed, OfLocal, NoArgs, IsNormal, PlainApp, Choice, AreBranches, ConBranch, IntBranch, NamelessBranch, NamedBranch}
use Rattle.arity_check.proofs.Unique.{normal_one}
use Rattle.match_compile.specs.Source.{Source}
use Rattle.match_compile.specs.Rules.{Broken}
use Rattle.match_compile.specs.Heads.{Integer, Constructor}
use Rattle.match_compile.specs.Trees.{Tree, Body, Case, Branches, NoBranch, AndBranch, Default, NoDefault, ATree, can_fail, branches_fail, default_fails}
use Rattle.match_compile.specs.Renamed.{renamed_name}
use Rattle.match_compile.specs.Translated.{name_supply_of, all_bind, branches_bind, default_binds, most_params, with_nameless, with_fields, binders, binder, expr_of, alts_of, default_of, translated}
use Rattle.match_compile.specs.Form.{program_of_heads}
use Rattle.match_compile.proofs.NamedAs.{new_named, new_primitive, nameless_named}
use Rattle.match_compile.proofs.Grouped.{all_of}
use Rattle.match_compile.proofs.RowPlaces.{NotIn, Leaf, leaves, leaves_in, leaves_else}
use Rattle.match_compile.proofs.Sown.{Fine, FineBranches, FineDefault}
use Rattle.match_compile.proofs.Placed.{WasRead, IsPlace, place_new, fields_old, field_place}
use Rattle.match_compile.proofs.AlikeTerms.{TermFits, BranchesFit, FitsExpr, normal_grows}
use Rattle.match_compile.proofs.InTable.{EquationFits}
use Rattle.match_compile.proofs.Coded.{Places, local_of, InScope, Fresh, Codes, CodeBody, CodeCase, CodesIn, CodeInt, CodeCon, CodeDefault}
use Rattle.match_compile.proofs.Scoped.{At, at_later, at_fewer, at_places, all_at, zipped, zipped_old, zipped_in, zipped_new, zipped_back, zipped_fresh, local_is}
use Rattle.match_compile.proofs.Leafed.{NormalIn, leaf_made, body_alike, plain_means}

module _ (c : Source) (unbroken : (k at : ℕ) → Broken c k at → ⊥) (read : WasRead c)
    (arity many : ℕ → ℕ) (IsFun : ℕ → Type 0)
    (known : (x : ℕ) → x < length c.names → (g k : ℕ)
    → function_from (program_of_heads c) (program_of_heads c).functions 0 x ≡ stands.Function g
    k → IsFun g × (arity g ≡ k)) where
  -- which term is the normal form of a body
  abbrev pub IsBody : Expr → List Binder → normal.Term → Type 0
  IsBody = NormalIn c unbroken read arity many IsFun known

  pub record HasNormal (l : Leaf) : Type 0 where
    pub term : normal.Term
    pub is : IsBody l.0 l.1 term

  module _ (fits : AllOf (EquationFits (length c.names)) c.equations) (at params : ℕ)
      (within_most : params ≤ most_params c.equations) (next : Option ℕ) (rest : Alts)
      (columns : List ℕ) (root : Scope) (Failing : Type 0) where
    abbrev out : Program
    out = translated c

    abbrev pub Held : Places → (ℕ → ℕ → Bool) → Scope → Scope → ℕ → Type 0
    Held = At c unbroken read params within_most

    abbrev pub CodesFor : Places → (n : ℕ) → Tree → normal.Term → Type 0
    CodesFor = Codes c IsBody arity many IsFun params next

    abbrev pub CodesOf : Places → (n : ℕ) → Branches → Default → normal.Branches → Type 0
    CodesOf = CodesIn c IsBody arity many IsFun params next

    -- the columns have their names and their locals
    abbrev pub Keeps : Places → Scope → Type 0
    Keeps ctx places = (p : ℕ) → In p columns → InScope ctx p × (local_of ctx p ≡ p)
        × (renamed_name places p ≡ renamed_name root p)

    -- what is done with values that no row accepts
    abbrev pub RestCodes : Type 0
    RestCodes = Failing → (ctx : Places) (f : ℕ → ℕ → Bool) (places s : Scope) (n k m : ℕ)
        (cs : normal.Branches) → Held ctx f places s k → Keeps ctx places
        → AreBranches out s k rest cs m → CodesOf ctx n NoBranch NoDefault cs

    pub record TreeMade (ctx : Places) (n : ℕ) (t : Tree) (e : normal.Term) : Type 0 where
      pub codes : CodesFor ctx n t e
      pub leaves_are : AllOf HasNormal (leaves t)

    pub record BranchesMade (ctx : Places) (n : ℕ) (bs : Branches) (o : Default)
        (cs : normal.Branches) : Type 0 where
      pub codes : CodesOf ctx n bs o cs
      pub leaves_are : AllOf HasNormal (leaves_in bs ++ leaves_else o)

    -- what follows the branches
    abbrev OthersMade : Places → Scope → Scope → ℕ → Default → Type 0
    OthersMade ctx places s n o = (k : ℕ) → n ≤ k → (cs : normal.Branches) (m : ℕ)
        → AreBranches out s k (default_of (name_supply_of c) at params rest places o) cs m
        → BranchesFit many cs → BranchesMade ctx n NoBranch o cs

    -- ---- the name that is tested

    no_more : {P : Type 0} → true ≡ false → P
    no_more e = absurd cc

    tested_means : (ctx : Places) (places s : Scope) (n p : ℕ) (bs : Branches) (o : Default)
        → Held ctx (λ q x. all_bind q x (Case p bs o)) places s n → InScope ctx p
        → ((x : ℕ) → branches_bind p x bs ≡ false) → means out s (renamed_name places p) ≡
        stands.Local (local_of ctx p)
    tested_means ctx places s n p bs o held i none = by (held.place p i)
      where
        by : IsPlace c unbroken read params within_most (λ q x. all_bind q x (Case p bs o)) p
            (renamed_name places p) → means out s (renamed_name places p) ≡ stands.Local
            (local_of ctx p)
        by (inr b) = no_more
            (sym (and_left (branches_bind p (renamed_name places p) bs)
            (default_binds p (renamed_name places p) o) b) ∙ none (renamed_name places p))
        by (inl e) =
            let le : length (with_nameless c.names) ≤ renamed_name places p
            = subst (λ z. length (with_nameless c.names) ≤ z) (sym e)
            (place_new c unbroken read params p) in
            let named : is_named out (codes "_") (renamed_name places p) ≡ false
            = new_named c (renamed_name places p) le in
            plain_means out s (renamed_name places p) named
            (λ op h. not_both (new_primitive c (renamed_name places p) le) h) ∙ held.local p i
            named
          where
            not_both : {a : _} → primitive_from out primitives (renamed_name places p) ≡
                stands.Unbound → primitive_from out primitives (renamed_name places p) ≡
                stands.Primitive a → ⊥
            not_both f g = absurd cc

    tested_normal : (ctx : Places) (places s : Scope) (n p : ℕ)
        → means out s (renamed_name places p) ≡ stands.Local (local_of ctx p)
        → IsNormal out s n
        (App (record { head = core.Name (renamed_name places p) at; args = NoTerms }))
        (normal.App (flat.Apply (var.Local (local_of ctx p)) [])) n
    tested_normal ctx places s n p e =
        PlainApp (Named
        (subst (λ m. IsNamed out s n m NoTerms [] (flat.Apply (var.Local (local_of ctx p)) []))
        (sym e) (OfLocal NoArgs)))

    -- ---- a branch on a constructor

    code_con : (ctx ctx' : Places) (n k d number len : ℕ) (ps xs : List ℕ) (t : Tree)
        (bs : Branches) (o : Default) (e : normal.Term) (cs : normal.Branches) → n ≤ k
        → con_number (program_of_heads c) d ≡ Some number → xs ≡ range_with_len k len
        → len ≡ many number
        → Fresh ctx ctx' ps (range_with_len k len) → CodesFor ctx' (k + len) t e
        → CodesOf ctx n bs o cs → CodesOf ctx n (AndBranch (Constructor d) ps t bs) o
        (normal.OnCon number xs e cs)
    code_con ctx ctx' n k d number len ps xs t bs o e cs le is xs_is len_is fresh codes others =
        subst (λ z. CodesOf ctx n (AndBranch (Constructor d) ps t bs) o
        (normal.OnCon number z e cs)) (sym (xs_is ∙ ap (range_with_len k) len_is))
        (CodeCon ctx' le is (subst (λ l. Fresh ctx ctx' ps (range_with_len k l)) len_is fresh)
        (subst (λ l. CodesFor ctx' (k + l) t e) len_is codes) others)

    module _ (rest_codes : RestCodes) where
      mutual
        pub tree_made : (t : Tree) (N : ℕ) (ks : List ℕ) (ctx : Places) (places s : Scope) (n : ℕ)
            → Fine c N ks t → ((p : ℕ) → In p ks → InScope ctx p)
            → ((p : ℕ) → InScope ctx p → In p ks) → Held ctx (λ p x. all_bind p x t) places s n
            → Keeps ctx places → (can_fail t ≡ true → Failing)
            → {e : normal.Term} {m : ℕ} → IsNormal out s n
            (expr_of (name_supply_of c) at params rest places t) e m → TermFits many e
            → TreeMade ctx n t e
        tree_made (Body r) N ks ctx places s n fine in_scope back held keeps fails {e = e} d tf =
            let body : FitsExpr (length c.names) r.body
            = subst (FitsExpr (length c.names)) (sym fine.0.body)
            (all_of (EquationFits (length c.names)) c.equations fits fine.0.is_in).body in
            let made = leaf_made c unbroken read arity many IsFun known params within_most ks r
            fine.0 fine.1 ctx places s n in_scope held d body tf in
            record {
              codes = CodeBody
                  (body_alike c unbroken read arity many IsFun known params within_most ks r fine.0
                  fine.1 ctx places s n in_scope held next d body tf);
              leaves_are = (record { term = made.term; is = made.is }, tt);
            }
        tree_made (Case p bs o) N ks ctx places s n fine in_scope back held keeps fails
            (Choice {k = k} {e = tested} {branches = cs} a b) tf =
            let scope : InScope ctx p = in_scope p fine.0 in
            let is = tested_normal ctx places s n p
            (tested_means ctx places s n p bs o held scope fine.1) in
            let same = normal_one out a is in
            let here = same.1 in
            let f : ℕ → ℕ → Bool = λ q x. all_bind q x (Case p bs o) in
            let other : OthersMade ctx places s n o =
            λ j le cs m d g. default_made o N ks ctx places s n j f fine.4 in_scope back held
            (λ q x h. and_right (branches_bind q x bs) (default_binds q x o) h) keeps
            (λ h. fails (or_left (default_fails o) (branches_fail bs) h)) le d g in
            let made = branches_made bs o N ks ctx places s n k f fine.3 in_scope back held
            (λ q x h. and_left (branches_bind q x bs) (default_binds q x o) h) keeps
            (λ h. fails (or_right (default_fails o) (branches_fail bs) h)) other
            (omega (arith, here)) b tf.1 in
            record {
              codes = subst (λ z. CodesFor ctx n (Case p bs o) (normal.Case z cs)) (sym same.0)
                  (CodeCase scope held.once made.codes);
              leaves_are = made.leaves_are;
            }

        default_made : (o : Default) (N : ℕ) (ks : List ℕ) (ctx : Places) (places s : Scope)
            (n k : ℕ) (f : ℕ → ℕ → Bool) → FineDefault c N ks o
            → ((p : ℕ) → In p ks → InScope ctx p) → ((p : ℕ) → InScope ctx p → In p ks)
            → Held ctx f places s n
            → ((p x : ℕ) → f p x ≡ true → default_binds p x o ≡ true) → Keeps ctx places
            → (default_fails o ≡ true → Failing) → n ≤ k
            → {cs : normal.Branches} {m : ℕ} → AreBranches out s k
            (default_of (name_supply_of c) at params rest places o) cs m → BranchesFit many cs
            → BranchesMade ctx n NoBranch o cs
        default_made NoDefault N ks ctx places s n k f fine in_scope back held less keeps fails le
            {cs = cs} {m = m} d tf =
            record {
              codes = rest_codes (fails refl) ctx f places s n k m cs
                  (at_later c unbroken read params within_most ctx f places s n k le held) keeps d;
              leaves_are = tt;
            }
        default_made (ATree t) N ks ctx places s n k f fine in_scope back held less keeps fails le
            (NamelessBranch none a b) tf =
            let held' = at_fewer c unbroken read params within_most ctx f (λ p x. all_bind p x t)
            places s k less
            (at_later c unbroken read params within_most ctx f places s n k le held) in
            let made = tree_made t N ks ctx places s k fine in_scope back held' keeps fails a tf.0
            in
            record { codes = CodeDefault le made.codes; leaves_are = made.leaves_are }
        default_made (ATree t) N ks ctx places s n k f fine in_scope back held less keeps fails le
            (NamedBranch some a b) tf = no_more (sym (nameless_named c) ∙ some)

        branches_made : (bs : Branches) (o : Default) (N : ℕ) (ks : List ℕ) (ctx : Places)
            (places s : Scope) (n k : ℕ) (f : ℕ → ℕ → Bool) → FineBranches c N ks bs
            → ((p : ℕ) → In p ks → InScope ctx p) → ((p : ℕ) → InScope ctx p → In p ks)
            → Held ctx f places s n
            → ((p x : ℕ) → f p x ≡ true → branches_bind p x bs ≡ true) → Keeps ctx places
            → (branches_fail bs ≡ true → Failing) → OthersMade ctx places s n o → n ≤ k
            → {cs : normal.Branches} {m : ℕ} → AreBranches out s k
            (alts_of (name_supply_of c) at params rest places bs
            (default_of (name_supply_of c) at params rest places o)) cs m → BranchesFit many cs
            → BranchesMade ctx n bs o cs
        branches_made NoBranch o N ks ctx places s n k f fine in_scope back held less keeps fails
            other le {cs = cs} {m = m} d tf = other k le cs m d tf
        branches_made (AndBranch (Integer j) (q ∷ ps) t bs) o N ks ctx places s n k f fine in_scope
            back held less keeps fails other le d tf = let z = fine.0 in absurd (omega (arith, z))
        branches_made (AndBranch (Integer j) [] t bs) o N ks ctx places s n k f fine in_scope back
            held less keeps fails other le (IntBranch {k = k'} a b) tf =
            let held' = at_fewer c unbroken read params within_most ctx f (λ p x. all_bind p x t)
            places s k (λ p x h. and_left (all_bind p x t) (branches_bind p x bs) (less p x h))
            (at_later c unbroken read params within_most ctx f places s n k le held) in
            let made = tree_made t N ks ctx places s k fine.4 in_scope back held' keeps
            (λ h. fails (or_left (can_fail t) (branches_fail bs) h)) a tf.0 in
            let grows = normal_grows a in
            let more = branches_made bs o N ks ctx places s n k' f fine.5 in_scope back held
            (λ p x h. and_right (all_bind p x t) (branches_bind p x bs) (less p x h)) keeps
            (λ h. fails (or_right (can_fail t) (branches_fail bs) h)) other
            (omega (arith, le, grows)) b tf.1 in
            record {
              codes = CodeInt le tt made.codes more.codes;
              leaves_are = subst (AllOf HasNormal)
                  (sym (append_again (leaves t) (leaves_in bs) (leaves_else o)))
                  (all_append HasNormal (leaves t) (leaves_in bs ++ leaves_else o) made.leaves_are
                  more.leaves_are);
            }
        branches_made (AndBranch (Constructor d) ps t bs) o N ks ctx places s n k f fine in_scope
            back held less keeps fails other le
            (ConBranch {k = k'} {number = number} {e = e} {branches = cs} xs con_is xs_is a b) tf =
            let places' : Scope = with_fields (name_supply_of c) at params t ps places in
            let fields : List Binder = binders (name_supply_of c) at params places' ps in
            let len : ℕ = length ps in
            let long : length fields ≡ len = length_map
            (λ p. binder (name_supply_of c) at params (renamed_name places' p)) ps in
            let xs_are : xs ≡ range_with_len k len = xs_is ∙ ap (range_with_len k) long in
            let ctx' : Places = zipped ps k ctx in
            let s' : Scope = binds_all out (map (λ (b : Binder). b.name.0) fields)
            (range_with_len k len) s in
            let apart : (p : ℕ) → In p ps → InScope ctx p → ⊥
            = λ p i j. all_of (λ p. NotIn p ks) ps fine.2 i (back p j) in
            let past : (p : ℕ) → InScope ctx p → NotIn p ps = λ p j i. apart p i j in
            let kept : (p : ℕ) → InScope ctx p → renamed_name places' p ≡ renamed_name places p
            = λ p j. fields_old c unbroken read params within_most at t ps places p (past p j)
            in
            let held1 = at_fewer c unbroken read params within_most ctx f (λ p x. all_bind p x t)
            places s k (λ p x h. and_left (all_bind p x t) (branches_bind p x bs) (less p x h))
            (at_later c unbroken read params within_most ctx f places s n k le held) in
            let held2 = at_places c unbroken read params within_most ctx (λ p x. all_bind p x t)
            places places' s k kept held1 in
            let held' : Held ctx' (λ p x. all_bind p x t) places' s' (k + len) =
            all_at c unbroken read params within_most N (ps ++ ks) t fine.4 at ps ctx places' s k
            fine.1 apart held2
            (λ p i. field_place c unbroken read params within_most at t ps places fine.1 p i) in
            let body : IsNormal out s' (k + len)
            (expr_of (name_supply_of c) at params rest places' t) e k' =
            subst (λ l. IsNormal out s' (k + l)
            (expr_of (name_supply_of c) at params rest places' t) e k') long
            (subst (λ zs. IsNormal out (binds_all out (map (λ (b : Binder). b.name.0) fields) zs s)
            (k + length fields) (expr_of (name_supply_of c) at params rest places' t) e k')
            xs_are a) in
            let keeps' : Keeps ctx' places' =
            λ p i. let w = keeps p i in (
              zipped_in ps k ctx p w.0,
              local_is ctx ctx' p (zipped_old ps k ctx p (past p w.0))
                  ∙ w.1,
              kept p w.0 ∙ w.2,
            ) in
            let in_scope' : (p : ℕ) → In p (ps ++ ks) → InScope ctx' p
            = λ p i. elim (in_split ps ks i)
            [ inl l ↦ zipped_new ps k ctx p l | inr r ↦ zipped_in ps k ctx p (in_scope p r) ] in
            let back' : (p : ℕ) → InScope ctx' p → In p (ps ++ ks)
            = λ p i. elim (zipped_back ps k ctx p i)
            [ inl l ↦ in_left ps ks l | inr r ↦ in_right ps ks (back p r) ] in
            let made = tree_made t N (ps ++ ks) ctx' places' s' (k + len) fine.4 in_scope' back'
            held' keeps' (λ h. fails (or_left (can_fail t) (branches_fail bs) h)) body tf.1.0 in
            let grows : k + len ≤ k' = normal_grows body in
            let more = branches_made bs o N ks ctx places s n k' f fine.5 in_scope back held
            (λ p x h. and_right (all_bind p x t) (branches_bind p x bs) (less p x h)) keeps
            (λ h. fails (or_right (can_fail t) (branches_fail bs) h)) other
            (omega (arith, le, grows)) b tf.1.1 in
            let many_is : len ≡ many number = sym (ap length xs_are ∙ length-range_with_len k len) ∙
            tf.0 in
            record {
              codes = code_con ctx ctx' n k d number len ps xs t bs o e cs le con_is xs_are many_is
                  (zipped_fresh ps k ctx fine.1 apart) made.codes more.codes;
              leaves_are = subst (AllOf HasNormal)
                  (sym (append_again (leaves t) (leaves_in bs) (leaves_else o)))
                  (all_append HasNormal (leaves t) (leaves_in bs ++ leaves_else o) made.leaves_are
                  more.leaves_are);
            }
