-- A program that breaks no rule has a normal form: by induction on its parts.
use Rattle.std.proofs.Common.{◌≡◌, ℕ, ℤ, zero, suc, ◌+◌, ◌<◌, Bool, true, false, List, [], ◌∷◌, ◌++◌, length, get_or, refl, sym, ap, ◌∙◌, subst, arith, Option, Some, None, inl, inr}
use Rattle.std.specs.Prelude.{◌==◌, not, if◌then◌else◌}
use Rattle.std.specs.List.{All, range_with_len}
use Rattle.std.proofs.lemmas.Bool.{eqb-true}
use Rattle.std.proofs.lemmas.List.{length-map}
use Rattle.std.proofs.lemmas.List.FromFn.{length-range_with_len}
use Rattle.seq.proofs.Order.{compared}
use Rattle.seq.proofs.Truth.{two_ways}
use Rattle.core_reader.specs.declared.syntax.Binder.{Binder}
use Rattle.core_reader.specs.declared.syntax.Pattern.{Pattern}
use Rattle.core_reader.specs.declared.syntax.Pattern.TheVariants as pattern
use Rattle.core_reader.specs.Tree as tree
use Rattle.core_reader.specs.Tree.{Program, Term, Terms, Name, Con, Int, Bracket, NoTerms, AndTerm, Expr, Alts, Bind, NoAlts, AndAlt}
use Rattle.arity_check.specs.declared.refusal.CheckRefusal.{CheckRefusal}
use Rattle.arity_check.specs.declared.normal.Var.{Var}
use Rattle.arity_check.specs.declared.normal.Var.TheVariants as var
use Rattle.arity_check.specs.declared.normal.Flat.{Flat}
use Rattle.arity_check.specs.declared.normal.Flat.TheVariants as flat
use Rattle.arity_check.specs.declared.normal.Bound.{Bound}
use Rattle.arity_check.specs.Scope as scope
use Rattle.arity_check.specs.Scope.{Scope, Meaning, means, con_number, binds, binds_all}
use Rattle.arity_check.specs.Known.{Known, is_nameless, all_entered}
use Rattle.core_reader.specs.Readable.{ReadableData, ReadableFunction}
use Rattle.arity_check.specs.declared.normal.Con as constructors
use Rattle.arity_check.specs.One.{NormalFormExists}
use Rattle.arity_check.specs.Tables.{first_of, second_of}
use Rattle.arity_check.specs.Whole.{known_of, main_at, fields_at, constructor_at, header_faults, body_faults, functions_faults}
use Rattle.arity_check.specs.Standing.{count}
use Rattle.arity_check.specs.Pieces.{names_of, binders_of, bound_by}
use Rattle.arity_check.specs.Faults.{PatternsSeen, with_member, with_pattern_seen, is_none, size_faults, applied_to, meaning_faults, arity_faults, head_faults, args_faults, app_faults, members_faults, binders_faults, pattern_faults, patterns_faults, no_patterns, expr_faults, alts_faults}
use Rattle.arity_check.specs.Program as normal
use Rattle.arity_check.specs.Normal as form
use Rattle.arity_check.specs.Normal.{Pairwise, IsConstructor, IsFunction, IsNormalForm, append, HasTerm, itself, bound, IsFlat, IsNamed, IsApplied, AreArgs, IsArg, IsGroup, IsNormal, AreBranches}
use Rattle.arity_check.proofs.NoFaults.{no_front, no_back, inner_head, inner_args}
use Rattle.arity_check.proofs.Names.{meaning_means, nameless_named}
use Rattle.arity_check.proofs.Scopes.{expr_behind, members_behind, all_named_binds, named_binds}
use Rattle.arity_check.proofs.Steps.{fields_of_table, number_of_table}
use Rattle.arity_check.proofs.Counted.{Alike, Same, alike_all}
use Rattle.arity_check.proofs.Unique.{group_locals, group_length}
use Rattle.arity_check.proofs.Normals.{names_are}
use Rattle.arity_check.proofs.Finish.{functions_sound, main_there, main_is}

two_vars : (xs : List Var) → length xs ≡ 2 → (x : Var) × ((y : Var) × (xs ≡ x ∷ y ∷ []))
two_vars [] e = absurd (omega (arith, e))
two_vars (x ∷ []) e = absurd (omega (arith, e))
two_vars (x ∷ (y ∷ [])) e = (x, (y, refl))
two_vars (x ∷ (y ∷ (z ∷ zs))) e = absurd (omega (arith, e))

has_two : (n : ℕ) (r : CheckRefusal) → (if not (n == 2) then r ∷ [] else []) ≡ [] → n ≡ 2
has_two n r e = go (n == 2) refl e
  where
    go : (b : Bool) → (n == 2) ≡ b → (if not b then r ∷ [] else []) ≡ [] → n ≡ 2
    go true h e = eqb-true n 2 h
    go false h e = absurd cc

own_count : (n : ℕ) → (if n == 0 then 0 else n) ≡ n
own_count zero = refl
own_count (suc n) = let z : (suc n == 0) ≡ false = grind arith in ap (λ b. if b then 0 else suc n) z

module _ (p : Program) where
  -- a constructor that is declared has a number
  con_exists : (c at n : ℕ) → arity_faults (fields_at p.constructors c) at n ≡ [] → (i : ℕ)
      × (con_number p c ≡ Some i)
  con_exists c at n e = go (constructor_at p.constructors 0 c) (fields_of_table p.constructors 0 c)
      (number_of_table p.constructors c)
    where
      go : (o : Option (ℕ × ℕ)) → second_of o ≡ fields_at p.constructors c
          → first_of o ≡ con_number p c → (i : ℕ) × (con_number p c ≡ Some i)
      go None f g = let h : arity_faults None at n ≡ [] = ap (λ o. arity_faults o at n) f ∙ e
          in absurd cc
      go (Some q) f g = (q.0, sym g)

  module _ (s : Scope) where
    record SomeFlat (n : ℕ) (head : Term) (args : Terms) : Type 0 where
      news : List Bound
      made : Flat
      is : IsFlat p s n head args news made

    record SomeNamed (n : ℕ) (m : Meaning) (args : Terms) : Type 0 where
      news : List Bound
      made : Flat
      is : IsNamed p s n m args news made

    record SomeArg (n : ℕ) (arg : Term) : Type 0 where
      news : List Bound
      x : Var
      is : IsArg p s n arg news x

    record SomeArgs (n : ℕ) (args : Terms) : Type 0 where
      news : List Bound
      xs : List Var
      are : AreArgs p s n args news xs
      size : length xs ≡ count args

    record SomeApplied (n : ℕ) (inner : Flat) (args : Terms) : Type 0 where
      news : List Bound
      made : Flat
      is : IsApplied p s n inner args news made

    -- each of these arguments stands as a variable, wherever the new locals begin
    abbrev Each : Terms → Type 0
    Each NoTerms = Unit {0}
    Each (AndTerm a rest) = ((n : ℕ) → SomeArg n a) × Each rest

    some_args : (args : Terms) → Each args → (n : ℕ) → SomeArgs n args
    some_args NoTerms h n = record { news = []; xs = []; are = form.NoArgs; size = refl }
    some_args (AndTerm a rest) h n =
        let x = h.0 n in
        let r = some_args rest h.1 (n + length x.news) in
        record {
          news = x.news ++ r.news;
          xs = x.x ∷ r.xs;
          are
              = form.AndArg x.news r.news x.is r.are refl;
          size = omega (arith, r.size);
        }

    some_applied : (inner : Flat) (args : Terms) → Each args → (n : ℕ) → SomeApplied n inner args
    some_applied inner args h n = let a = some_args args h (n + 1)
        in record {
          news = bound n inner ∷ a.news;
          made = flat.Apply (var.Local n) a.xs;
          is
              = form.Applied a.are;
        }

    -- the first arguments, and the others
    record Split (j : ℕ) (args : Terms) : Type 0 where
      first : Terms
      rest : Terms
      is : args ≡ append first rest
      size : count first ≡ j
      some : HasTerm rest
      each_first : Each first
      each_rest : Each rest

    split : (j : ℕ) (args : Terms) → j < count args → Each args → Split j args
    split zero NoTerms l h = absurd (omega (arith, l))
    split (suc j) NoTerms l h = absurd (omega (arith, l))
    split zero (AndTerm a rest) l h = record {
      first = NoTerms;
      rest = AndTerm a rest;
      is = refl;
      size = refl;
      some = tt;
      each_first
          = tt;
      each_rest = h;
    }
    split (suc j) (AndTerm a rest) l h =
        let w = split j rest (omega (arith, l)) h.1 in
        record {
          first = AndTerm a w.first;
          rest = w.rest;
          is = ap (AndTerm a) w.is;
          size
              = omega (arith, w.size);
          some = w.some;
          each_first = (h.0, w.each_first);
          each_rest
              = w.each_rest;
        }

    some_exceeded : (n g j : ℕ) (args : Terms) → suc j < count args → Each args
        → SomeNamed n (scope.Function g (suc j)) args
    some_exceeded n g j args l h =
        let w = split (suc j) args l h in
        let a = some_args w.first w.each_first n in
        let b = some_applied (flat.Call g a.xs) w.rest w.each_rest (n + length a.news) in
        record {
          news = a.news ++ b.news;
          made = b.made;
          is
              = form.Exceeded w.first w.rest a.news b.news a.xs w.is w.some (a.size ∙ w.size) a.are
              b.is refl;
        }

    some_named : (n : ℕ) (m : Meaning) (at : ℕ) (args : Terms)
        → meaning_faults m at (count args) ≡ [] → Each args → SomeNamed n m args
    some_named n (scope.Local x) at args e h = let a = some_args args h n
        in record { news = a.news; made = flat.Apply (var.Local x) a.xs; is = form.OfLocal a.are }
    some_named n (scope.Function g zero) at args e h = let a = some_args args h n
        in record { news = a.news; made = flat.Apply (var.Global g) a.xs; is = form.OfGlobal a.are }
    some_named n (scope.Function g (suc j)) at args e h =
        let a = some_args args h n in
        elim (compared (count args) (suc j)) [
          | inl l ↦ record {
            news = a.news;
            made = flat.Part g a.xs;
            is
                = form.Partial (omega (arith, l, a.size)) a.are;
          }
          | inr r ↦ elim r [
            | inl q ↦ record
                { news = a.news; made = flat.Call g a.xs; is = form.Called (a.size ∙ q) a.are }
            | inr l ↦ some_exceeded n g j args l h
          ]
        ]
    some_named n (scope.Primitive op) at args e h =
        let a = some_args args h n in
        let w = two_vars a.xs (a.size ∙ has_two (count args) _ e) in
        record {
          news = a.news;
          made = flat.Prim op w.0 w.1.0;
          is
              = form.OfPrimitive (subst (λ xs. AreArgs p s n args a.news xs) w.1.1 a.are);
        }
    some_named n scope.Unbound at args e h = absurd cc

    some_arg : (t : Term) → ((n : ℕ) → SomeFlat n t NoTerms) → (n : ℕ) → SomeArg n t
    some_arg t f n = go (itself p s t) refl
      where
        go : (o : Option Var) → itself p s t ≡ o → SomeArg n t
        go (Some x) e = record { news = []; x = x; is = form.Itself e }
        go None e =
            let w = f n in
            record {
              news = w.news ++ bound (n + length w.news) w.made ∷ [];
              x
                  = var.Local (n + length w.news);
              is
                  = form.New (n + length w.news) e w.is refl refl;
            }

    some_int : (i : ℤ) (at : ℕ) (args : Terms) → Each args → (n : ℕ) → SomeFlat n (Int i at) args
    some_int i at NoTerms h n = record { news = []; made = flat.Int i; is = form.Number }
    some_int i at (AndTerm a rest) h n = let w = some_applied (flat.Int i) (AndTerm a rest) h n
        in record { news = w.news; made = w.made; is = form.NumberApplied w.is }

    some_bracket : (head : Term) (inner : Terms) (at : ℕ) (args : Terms)
        → head_faults (known_of p) s (count args) (Bracket head inner at) ≡ [] → Each args
        → ((as' : Terms) → head_faults (known_of p) s (count as') head ≡ [] → Each as' → (n : ℕ)
        → SomeFlat n head as') → Each inner → (n : ℕ) → SomeFlat n (Bracket head inner at) args
    some_bracket head NoTerms at args e h f g n = let w
        = f args (no_front (head_faults (known_of p) s (count args) head) [] e) h n
        in record { news = w.news; made = w.made; is = form.LoneHead w.is }
    some_bracket head (AndTerm a as') at NoTerms e h f g n =
        let w = f (AndTerm a as') (inner_head (known_of p) s 0 head a as' at e) g n in
        record { news = w.news; made = w.made; is = form.LoneBracket w.is }
    some_bracket head (AndTerm a as') at (AndTerm b bs) e h f g n =
        let w = f (AndTerm a as') (inner_head (known_of p) s (count (AndTerm b bs)) head a as' at e)
        g n in
        let v = some_applied w.made (AndTerm b bs) h (n + length w.news) in
        record {
          news = w.news ++ v.news;
          made = v.made;
          is
              = form.BracketApplied w.made w.news v.news w.is v.is refl;
        }

    mutual
      some_flat : (t : Term) (args : Terms) → head_faults (known_of p) s (count args) t ≡ []
          → Each args → (n : ℕ) → SomeFlat n t args
      some_flat (Name x at) args e h n =
          let w = some_named n (means p s x) at args
          (subst (λ m. meaning_faults m at (count args) ≡ []) (meaning_means p s x) e) h in
          record { news = w.news; made = w.made; is = form.Named w.is }
      some_flat (Con c at) args e h n =
          let i = con_exists c at (count args) e in
          let a = some_args args h n in
          record { news = a.news; made = flat.Con i.0 a.xs; is = form.Constructor i.1 a.are }
      some_flat (Int i at) args e h n = some_int i at args h n
      some_flat (Bracket head inner at) args e h n =
          some_bracket head inner at args e h (λ as' f g m. some_flat head as' f g m)
          (some_each inner (inner_args (known_of p) s (count args) head inner at e)) n

      some_each : (ts : Terms) → args_faults (known_of p) s ts ≡ [] → Each ts
      some_each NoTerms e = tt
      some_each (AndTerm t rest) e = (
        some_arg t
            (λ n. some_flat t NoTerms
            (no_front (head_faults (known_of p) s 0 t) (args_faults (known_of p) s rest) e) tt n),
        some_each rest
            (no_back (head_faults (known_of p) s 0 t) (args_faults (known_of p) s rest) e),
      )

    some_app : (app : tree.Application) → app_faults (known_of p) s 0 app ≡ [] → (n : ℕ)
        → SomeFlat n app.head app.args
    some_app app e n =
        let both = no_back (size_faults app.head app.args) _ e in
        let head = no_front (head_faults (known_of p) s (applied_to 0 app.args) app.head)
        (args_faults (known_of p) s app.args) both in
        let args = no_back (head_faults (known_of p) s (applied_to 0 app.args) app.head)
        (args_faults (known_of p) s app.args) both in
        some_flat app.head app.args
        (ap (λ m. head_faults (known_of p) s m app.head) (sym (own_count (count app.args))) ∙
        head) (some_each app.args args) n

    record SomeGroup (n : ℕ) (bs : List Bind) : Type 0 where
      bounds : List Bound
      xs : List ℕ
      is : IsGroup p s n bs bounds xs

    some_group : (bs : List Bind) → members_faults (known_of p) s bs ≡ [] → (n : ℕ) → SomeGroup n bs
    some_group [] e n = record { bounds = []; xs = []; is = form.NoMembers }
    some_group (b ∷ bs) e n =
        let f = some_app b.app
        (no_front (app_faults (known_of p) s 0 b.app) (members_faults (known_of p) s bs) e) n in
        let t : ℕ = n + length f.news in
        let r = some_group bs
        (no_back (app_faults (known_of p) s 0 b.app) (members_faults (known_of p) s bs) e)
        (t + 1) in
        record {
          bounds = f.news ++ bound t f.made ∷ r.bounds;
          xs = t ∷ r.xs;
          is
              = form.AndMember f.news r.bounds f.made t f.is refl r.is refl;
        }

  record SomeNormal (s : Scope) (n : ℕ) (e : Expr) : Type 0 where
    term : normal.Term
    after : ℕ
    is : IsNormal p s n e term after

  record SomeBranches (s : Scope) (n : ℕ) (alts : Alts) : Type 0 where
    branches : normal.Branches
    after : ℕ
    are : AreBranches p s n alts branches after

  some_application : (app : tree.Application) (s : Scope) (n : ℕ)
      → app_faults (known_of p) s 0 app ≡ [] → SomeNormal s n (tree.App app)
  some_application app s n e = let w = some_app s app e n in go w.news w.made w.is
    where
      go : (news : List Bound) (made : Flat) → IsFlat p s n app.head app.args news made
          → SomeNormal s n (tree.App app)
      go [] made f = record { term = normal.App made; after = n; is = form.PlainApp f }
      go (x ∷ xs) made f = record {
        term = normal.Let (x ∷ xs) (normal.App made);
        after = n + length (x ∷ xs);
        is
            = form.BoundApp f;
      }

  -- a let group under its own numbers
  record SomeLet (s : Scope) (n : ℕ) (group : List Bind) : Type 0 where
    xs : List ℕ
    size : length xs ≡ length (binders_of group)
    bounds : List Bound
    is : IsGroup p (binds_all p (names_of (binders_of group)) xs s) n group bounds xs

  some_let : (group : List Bind) (s : Scope) (n : ℕ)
      → members_faults (known_of p) (all_entered (known_of p) (binders_of group) s) group ≡ []
      → SomeLet s n group
  some_let group s n e =
      let k : Known = known_of p in
      let xs : List Binder = binders_of group in
      let names : List ℕ = names_of xs in
      let zeros : List ℕ = range_with_len 0 (length xs) in
      let zeros_size : length zeros ≡ length xs = length-range_with_len 0 (length xs) in
      let binders_size : length xs ≡ length group = length-map group (λ (b : Bind). b.binder) in
      let first : Scope = binds_all p names zeros s in
      let g = some_group first group
      (members_behind k xs zeros s first group zeros_size
      (sym (all_named_binds p names zeros s)) e) n in
      let size : length g.xs ≡ length xs = group_length p g.is ∙ sym binders_size in
      let second : Scope = binds_all p names g.xs s in
      let h = some_group second group
      (members_behind k xs g.xs s second group size (sym (all_named_binds p names g.xs s)) e) n
      in
      let al : Alike p first second = alike_all p names zeros g.xs s s (zeros_size ∙ sym size)
      (λ x. Same) in
      let al' : Alike p second first = alike_all p names g.xs zeros s s (size ∙ sym zeros_size)
      (λ x. Same) in
      let same : g.xs ≡ h.xs = group_locals p al al' refl g.is h.is in
      record {
        xs = g.xs;
        size = size;
        bounds = h.bounds;
        is
            = subst (λ l. IsGroup p second n group h.bounds l) (sym same) h.is;
      }

  -- an alternative with its body and those behind it
  some_branch : (pat : Pattern) (body : Expr) (rest : Alts) (s : Scope) (n : ℕ)
      (seen : PatternsSeen) (b : Bool) → pattern_faults (known_of p) seen b pat ≡ []
      → expr_faults (known_of p) (all_entered (known_of p) (bound_by pat) s) body ≡ []
      → ((s : Scope) (n : ℕ) → expr_faults (known_of p) s body ≡ [] → SomeNormal s n body)
      → ((n : ℕ) → SomeBranches s n rest) → SomeBranches s n (AndAlt pat body rest)
  some_branch (pattern.Con c fields) body rest s n seen b e f g h =
      let names : List ℕ = names_of fields in
      let xs : List ℕ = range_with_len n (length fields) in
      let inner : Scope = binds_all p names xs s in
      let i = con_exists c.name.0 c.at (length fields)
      (no_front (arity_faults (fields_at p.constructors c.name.0) c.at (length fields)) _ e) in
      let w = g inner (n + length fields)
      (expr_behind (known_of p) fields xs s inner body (length-range_with_len n (length fields))
      (sym (all_named_binds p names xs s)) f) in
      let r = h w.after in
      record {
        branches = normal.OnCon i.0 xs w.term r.branches;
        after = r.after;
        are
            = form.ConBranch xs i.1 refl w.is r.are;
      }
  some_branch (pattern.Int i at) body rest s n seen b e f g h =
      let w = g s n f in
      let r = h w.after in
      record {
        branches = normal.OnInt i w.term r.branches;
        after = r.after;
        are
            = form.IntBranch w.is r.are;
      }
  some_branch (pattern.Default x) body rest s n seen b e f g h
      = elim (two_ways (is_nameless (known_of p) x.name.0)) [
        | inl t ↦
            let scope : all_entered (known_of p) (x ∷ []) s ≡ s
            = ap (λ b. if b then s else (x.name.0, x.name.0) ∷ s) t in
            let w = g s n (ap (λ q. expr_faults (known_of p) q body) (sym scope) ∙ f) in
            let r = h w.after in
            record {
              branches = normal.OnAny None w.term r.branches;
              after = r.after;
              are
                  = form.NamelessBranch (sym (nameless_named p x.name.0) ∙ t) w.is r.are;
            }
        | inr t ↦
            let inner : Scope = binds p x.name.0 n s in
            let w = g inner (n + 1)
            (expr_behind (known_of p) (x ∷ []) (n ∷ []) s inner body refl
            (sym (named_binds p x.name.0 n s)) f) in
            let r = h w.after in
            record {
              branches = normal.OnAny (Some n) w.term r.branches;
              after = r.after;
              are
                  = form.NamedBranch (sym (nameless_named p x.name.0) ∙ t) w.is r.are;
            }
      ]

  mutual
    some_normal : (e : Expr) (s : Scope) (n : ℕ) → expr_faults (known_of p) s e ≡ []
        → SomeNormal s n e
    some_normal (tree.App app) s n f = some_application app s n f
    some_normal (tree.Let group body) s n f =
        let k : Known = known_of p in
        let xs : List Binder = binders_of group in
        let names : List ℕ = names_of xs in
        let both = no_back (binders_faults k (λ x. false) xs) _ f in
        let members = no_front (members_faults k (all_entered k xs s) group) _ both in
        let g = some_let group s n members in
        let inner : Scope = binds_all p names g.xs s in
        let w = some_normal body inner (n + length g.bounds)
        (expr_behind k xs g.xs s inner body g.size (sym (all_named_binds p names g.xs s))
        (no_back (members_faults k (all_entered k xs s) group) _ both)) in
        record {
          term = normal.Let g.bounds w.term;
          after = w.after;
          is
              = form.Group inner g.xs g.bounds
              (ap (λ names. binds_all p names g.xs s) (names_are group)) g.is w.is;
        }
    some_normal (tree.Case tested alts) s n f =
        let k : Known = known_of p in
        let rest = no_back (expr_faults k s tested) _ f in
        let w = some_normal tested s n (no_front (expr_faults k s tested) _ f) in
        let r = some_branches alts s w.after no_patterns
        (no_front (patterns_faults k no_patterns alts) (alts_faults k s alts) rest)
        (no_back (patterns_faults k no_patterns alts) (alts_faults k s alts) rest) in
        record {
          term = normal.Case w.term r.branches;
          after = r.after;
          is
              = form.Choice w.is r.are;
        }

    some_branches : (alts : Alts) (s : Scope) (n : ℕ) (seen : PatternsSeen)
        → patterns_faults (known_of p) seen alts ≡ [] → alts_faults (known_of p) s alts ≡ []
        → SomeBranches s n alts
    some_branches NoAlts s n seen e f = record
        { branches = normal.NoMore; after = n; are = form.NoBranches }
    some_branches (AndAlt pat body rest) s n seen e f =
        let k : Known = known_of p in
        let here = no_front
        (binders_faults k (λ x. false) (bound_by pat)
        ++ expr_faults k (all_entered k (bound_by pat) s) body) (alts_faults k s rest) f in
        let behind = no_back
        (binders_faults k (λ x. false) (bound_by pat)
        ++ expr_faults k (all_entered k (bound_by pat) s) body) (alts_faults k s rest) f in
        let known = no_front (pattern_faults k seen (is_none rest) pat)
        (patterns_faults k (with_pattern_seen seen pat) rest) e in
        let later = no_back (pattern_faults k seen (is_none rest) pat)
        (patterns_faults k (with_pattern_seen seen pat) rest) e in
        some_branch pat body rest s n seen (is_none rest) known
        (no_back (binders_faults k (λ x. false) (bound_by pat)) _ here)
        (λ s n g. some_normal body s n g)
        (λ n. some_branches rest s n (with_pattern_seen seen pat) later behind)

-- ---- whole programs

some_all : {X Y : Type 0} (P : X → Type 0) (R : X → Y → Type 0) → ((x : X) → P x → (y : Y) × R x y)
    → (xs : List X) → All P xs → (ys : List Y) × Pairwise R xs ys
some_all P R f [] h = ([], tt)
some_all P R f (x ∷ xs) h =
    let y = f x (h 0 x (omega arith)) in
    let r = some_all P R f xs (λ k d m. h (suc k) d (omega (arith, m))) in
    (y.0 ∷ r.0, (y.1, r.1))

body_at : (k : Known) (n : ℕ) (seen : ℕ → Bool) (fs : List tree.Function) (i : ℕ)
    (d : tree.Function) → i < length fs → functions_faults k [] n seen fs ≡ []
    → body_faults k [] (get_or fs i d) ≡ []
body_at k n seen [] i d l e = absurd (omega (arith, l))
body_at k n seen (f ∷ fs) zero d l e = no_back (header_faults k n seen f) (body_faults k [] f)
    (no_front (header_faults k n seen f ++ body_faults k [] f) _ e)
body_at k n seen (f ∷ fs) (suc i) d l e = body_at k (n + 1) (with_member f.name seen) fs i d
    (omega (arith, l)) (no_back (header_faults k n seen f ++ body_faults k [] f) _ e)

module _ (p : Program) where
  some_constructor : (d : tree.Data) → ReadableData p.names d → (c : constructors.Con)
      × IsConstructor p d c
  some_constructor d h =
      (record { name = h.0.0; fields = d.fields }, record { name = h.0.1; fields = refl })

  some_function : (f : tree.Function) → ReadableFunction p.names f
      × (body_faults (known_of p) [] f ≡ []) → (g : normal.Function) × IsFunction p f g
  some_function f h =
      let n : ℕ = length f.params in
      let xs : List ℕ = range_with_len 0 n in
      let inner : Scope = binds_all p (names_of f.params) xs [] in
      let none = no_back (binders_faults (known_of p) (λ x. false) f.params) _ h.1 in
      let w = some_normal p f.body inner n
      (expr_behind (known_of p) f.params xs [] inner f.body (length-range_with_len 0 n)
      (sym (all_named_binds p (names_of f.params) xs [])) none) in (
        record { name = h.0.0.0; params = n; body = w.term },
        record { name = h.0.0.1; params = refl; after = w.after; body = w.is },
      )

pub some_normal_form : NormalFormExists
some_normal_form p readable unbroken =
    let k : Known = known_of p in
    let faults = functions_sound p k refl unbroken in
    let cs = some_all (ReadableData p.names) (IsConstructor p) (some_constructor p) p.constructors
    readable.constructors in
    let fs = some_all (λ f. ReadableFunction p.names f × (body_faults k [] f ≡ [])) (IsFunction p)
    (some_function p) p.functions
    (λ i d l. (readable.functions i d l, body_at k 0 (λ x. false) p.functions i d l faults)) in
    go cs.0 cs.1 fs.0 fs.1 (main_at k p.functions) refl
  where
    go : (cs : List constructors.Con) → Pairwise (IsConstructor p) p.constructors cs
        → (fs : List normal.Function) → Pairwise (IsFunction p) p.functions fs → (o : Option ℕ)
        → main_at (known_of p) p.functions ≡ o → (q : normal.Program) × IsNormalForm p q
    go cs a fs b None e = absurd (main_there p (known_of p) refl unbroken e)
    go cs a fs b (Some m) e = (
      record { cons = cs; funs = fs; main = m },
      record { cons = a; funs = b; main = main_is p (known_of p) m refl e },
    )
