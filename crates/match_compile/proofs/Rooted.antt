-- The function of a tree has a normal form that stands for the tree, where the locals of its places
-- begin with the
-- parameters.
use Rattle.std.proofs.Common.{◌≡◌, ℕ, zero, suc, ◌+◌, ◌<◌, ◌≤◌, Bool, true, false, List, [], ◌∷◌, map, length, refl, sym, ap, subst, ◌∙◌, arith, Option, Some, None, ◌⊎◌, inl, inr, ⊎_elim}
use Rattle.std.specs.Prelude.{codes, if◌then◌else◌}
use Rattle.std.specs.List.{range_with_len}
use Rattle.std.proofs.lemmas.List.FromFn.{length-range_with_len}
use Rattle.seq.specs.Lists.{AllOf, In, here, there, numbers_from}
use Rattle.seq.proofs.Lists.{length_map}
use Rattle.seq.proofs.Counted.{length_numbers}
use Rattle.seq.proofs.Member.{none_in}
use Rattle.seq.proofs.Order.{eq_self}
use Rattle.core_reader.specs.declared.syntax.Binder.{Binder}
use Rattle.core_reader.specs.Tree.{App, Terms, Alts, NoAlts, Program}
use Rattle.core_reader.specs.Tree as core
use Rattle.arity_check.specs.declared.normal.Flat.TheVariants as flat
use Rattle.arity_check.specs.declared.normal.PrimOp.{PrimOp}
use Rattle.arity_check.specs.declared.normal.Var.TheVariants as var
use Rattle.arity_check.specs.declared.meaning.Meaning.TheVariants as stands
use Rattle.arity_check.specs.Locals.{innermost_local}
use Rattle.arity_check.specs.Scope.{Scope, is_named, means, primitives, primitive_from, found_in, function_from, binds_all}
use Rattle.arity_check.specs.Program as normal
use Rattle.arity_check.specs.Normal.{itself_as, Named, IsNamed, Called, AreArgs, NoArgs, AndArg, Itself, IsNormal, PlainApp, AreBranches, NoBranches, NamelessBranch, NamedBranch}
use Rattle.arity_check.proofs.Unique.{normal_one}
use Rattle.match_compile.specs.Source.{Source}
use Rattle.match_compile.specs.Rules.{Broken}
use Rattle.match_compile.specs.Trees.{Tree, Body, Case, NoBranch, NoDefault, can_fail}
use Rattle.match_compile.specs.Decisions.{Decision}
use Rattle.match_compile.specs.Renamed.{renamed_name}
use Rattle.match_compile.specs.Translated.{name_supply_of, all_bind, most_params, with_nameless, equation_name, place_name, binder, binders, expr_of, arguments, call, is_called, translated}
use Rattle.match_compile.specs.Form.{program_of_heads}
use Rattle.match_compile.proofs.NamedAs.{new_named, new_primitive, nameless_named, nameless_length}
use Rattle.match_compile.proofs.Grouped.{all_of}
use Rattle.match_compile.proofs.RowPlaces.{numbers_differ}
use Rattle.match_compile.proofs.Sown.{Fine, Stood}
use Rattle.match_compile.proofs.Placed.{WasRead, binders_in}
use Rattle.match_compile.proofs.Composed.{params_most, scope_of, params_of, column}
use Rattle.match_compile.proofs.AlikeTerms.{TermFits}
use Rattle.match_compile.proofs.InTable.{EquationFits}
use Rattle.match_compile.proofs.Coded.{Places, local_of, InScope, CodesIn, CodeNext, CodeEnd}
use Rattle.match_compile.proofs.Scoped.{At, nowhere_at, all_at, zipped, zipped_new, zipped_back, zipped_old, local_is}
use Rattle.match_compile.proofs.Leafed.{plain_means}
use Rattle.match_compile.proofs.Written.{IsBody, Keeps, RestCodes, CodesOf, TreeMade, tree_made}

first_local : (ctx : Places) (p m : ℕ) → local_of ((p, m) ∷ ctx) p ≡ m
first_local ctx p m = ap
    (λ b. elim (if b then Some m else innermost_local ctx p) as (λ _. ℕ) [ Some y ↦ y | None ↦ 0 ])
    (eq_self p)

first_apart : (n k : ℕ) → In n (numbers_from (suc n) k) → ⊥
first_apart n k i = all_of (λ y. y ≡ n → ⊥) (numbers_from (suc n) k) (numbers_differ n (suc k)).0 i
    refl

-- each number is its own local
self_local : (k n m : ℕ) → m ≡ n → (ctx : Places) (p : ℕ) → In p (numbers_from n k)
    → local_of (zipped (numbers_from n k) m ctx) p ≡ p
self_local zero n m e ctx p i = none_in i
self_local (suc k) n m e ctx p here =
    let rest : List ℕ = numbers_from (suc n) k in
    local_is ((n, m) ∷ ctx) (zipped rest (m + 1) ((n, m) ∷ ctx)) n
    (zipped_old rest (m + 1) ((n, m) ∷ ctx) n (first_apart n k)) ∙ first_local ctx n m ∙ e
self_local (suc k) n m e ctx p (there i) = self_local k (suc n) (m + 1) (omega (arith, e))
    ((n, m) ∷ ctx) p i

-- a tree without places cannot fail
never_fails : (c : Source) (N : ℕ) (t : Tree) → Fine c N [] t → can_fail t ≡ true → ⊥
never_fails c N (Body r) f e = absurd cc
never_fails c N (Case p bs o) f e = none_in f.0

-- the functions of trees: the first goes on with the second, which is a function with this name
pub data NextIs (c : Source) (d : Decision) : Option ℕ → Option ℕ → Type 0 where
  NoNext : NextIs c d None None
  ANext : {f g : ℕ} (number : ℕ) → f ≡ equation_name (name_supply_of c) number
      → number < length c.equations → function_from (translated c) (translated c).functions 0 f ≡
      stands.Function g d.params → NextIs c d (Some f) (Some g)

module _ (c : Source) (unbroken : (k at : ℕ) → Broken c k at → ⊥) (read : WasRead c)
    (arity many : ℕ → ℕ) (IsFun : ℕ → Type 0)
    (known : (x : ℕ) → x < length c.names → (g k : ℕ)
    → function_from (program_of_heads c) (program_of_heads c).functions 0 x ≡ stands.Function g
    k → IsFun g × (arity g ≡ k)) (fits : AllOf (EquationFits (length c.names)) c.equations)
    (d : Decision) (st : Stood c d) where
  abbrev out : Program
  out = translated c

  abbrev most : d.params ≤ most_params c.equations
  most = params_most c unbroken read d st

  abbrev columns : List ℕ
  columns = numbers_from 0 d.params

  abbrev root : Option ℕ → Scope
  root next = scope_of c unbroken read d st (is_called (name_supply_of c) d next)

  abbrev params : Option ℕ → List Binder
  params next = params_of c unbroken read d st (is_called (name_supply_of c) d next)

  abbrev rest : Option ℕ → Alts
  rest next = call (name_supply_of c) d.at next (params next)

  abbrev pub own : Places
  own = zipped columns 0 []

  abbrev Binding : ℕ → ℕ → Bool
  Binding p x = all_bind p x d.tree

  abbrev Made : Option ℕ → Option ℕ → ℕ → normal.Term → Type 0
  Made next gnext n e = TreeMade c unbroken read arity many IsFun known fits d.at d.params most
      gnext (rest next) columns (root next) (can_fail d.tree ≡ true) own n d.tree e

  abbrev Rests : Option ℕ → Option ℕ → Type 0
  Rests next gnext = RestCodes c unbroken read arity many IsFun known fits d.at d.params most gnext
      (rest next) columns (root next) (can_fail d.tree ≡ true)

  abbrev Keeping : Option ℕ → Option ℕ → Places → Scope → Type 0
  Keeping next gnext = Keeps c unbroken read arity many IsFun known fits d.at d.params most gnext
      (rest next) columns (root next) (can_fail d.tree ≡ true)

  abbrev Holds : Places → (ℕ → ℕ → Bool) → Scope → Scope → ℕ → Type 0
  Holds = At c unbroken read d.params most

  nothing_next : Rests None None
  nothing_next fails ctx f places s n k m cs held keeps NoBranches = CodeEnd refl

  -- ---- the call of the function behind

  -- no parameter is named as a primitive
  abbrev pub Plain : Option ℕ → Type 0
  Plain next = (b : Binder) → In b (params next) → primitive_from out primitives b.name.0 ≡
      stands.Unbound

  module _ (f g number : ℕ) (plain : Plain (Some f))
      (f_is : f ≡ equation_name (name_supply_of c) number) (low : number < length c.equations)
      (found : function_from out out.functions 0 f ≡ stands.Function g d.params)
      (fails : can_fail d.tree ≡ true) where
    module _ (ctx : Places) (binding : ℕ → ℕ → Bool) (places s : Scope) (k : ℕ)
        (held : Holds ctx binding places s k) (keeps : Keeping (Some f) (Some g) ctx places) where
      param_means : (p : ℕ) → In p columns → means out s (renamed_name (root (Some f)) p) ≡
          stands.Local p
      param_means p i =
          let w = keeps p i in
          let y : ℕ = renamed_name (root (Some f)) p in
          let col = column c unbroken read d st (can_fail d.tree) p i in
          let named : is_named out (codes "_") y ≡ false = col.named fails in
          let named' : is_named out (codes "_") (renamed_name places p) ≡ false
          = ap (is_named out (codes "_")) w.2 ∙ named in
          let unbound = plain (binder (name_supply_of c) d.at d.params y)
          (binders_in c unbroken read d.params most d.at (root (Some f)) columns p i) in
          plain_means out s y named (λ op h. not_both y op unbound h) ∙ ap (found_in out s)
          (sym w.2) ∙ held.local p w.0 named' ∙ ap stands.Local w.1
        where
          not_both : (y : ℕ) (op : PrimOp) → primitive_from out primitives y ≡ stands.Unbound
              → primitive_from out primitives y ≡ stands.Primitive op → ⊥
          not_both y op a b = absurd cc

      args_normal : (count j m n : ℕ) → m ≡ j →
          ((p : ℕ) → In p (numbers_from j count) → means out s (renamed_name (root (Some f)) p) ≡
          stands.Local p)
          → AreArgs out s n
          (arguments (name_supply_of c) d.at
          (binders (name_supply_of c) d.at d.params (root (Some f)) (numbers_from j count))) []
          (map var.Local (range_with_len m count))
      args_normal zero j m n e h = NoArgs
      args_normal (suc count) j m n e h =
          AndArg [] [] (Itself (ap itself_as (h j here) ∙ ap (λ z. Some (var.Local z)) (sym e)))
          (args_normal count (suc j) (m + 1) (n + 0) (omega (arith, e)) (λ p i. h p (there i)))
          refl

      behind : length (with_nameless c.names) ≤ f
      behind = omega (arith, f_is)

      apart : (p : ℕ) → InScope ctx p → renamed_name places p ≡ f → ⊥
      apart p i e = by (held.name p i)
        where
          by : (renamed_name places p ≡ place_name (name_supply_of c) d.params p)
              ⊎ (renamed_name places p < length c.names) → ⊥
          by (inl q) =
              let le : length (with_nameless c.names) + length c.equations ≤ place_name
              (name_supply_of c) d.params p = omega arith in
              omega (arith, e, q, f_is, low, le)
          by (inr lt) = let le = nameless_length c.names in omega (arith, e, lt, f_is, le)

      next_means : means out s f ≡ stands.Function g d.params
      next_means = plain_means out s f (new_named c f behind)
          (λ op h. not_both op (new_primitive c f behind) h) ∙ held.free f apart ∙ found
        where
          not_both : (op : PrimOp) → primitive_from out primitives f ≡ stands.Unbound
              → primitive_from out primitives f ≡ stands.Primitive op → ⊥
          not_both op a b = absurd cc

      some_params : (n : ℕ) → d.params ≡ n → (j : ℕ) × (d.params ≡ suc j)
      some_params zero e = absurd
          (never_fails c d.free d.tree
          (subst (λ ks. Fine c d.free ks d.tree) (ap (numbers_from 0) e) st.fine) fails)
      some_params (suc j) e = (j, e)

      call_normal : IsNormal out s k
          (App (record {
            head = core.Name f d.at;
            args = arguments (name_supply_of c) d.at
                (binders (name_supply_of c) d.at d.params (root (Some f)) columns);
          }))
          (normal.App (flat.Call g (map var.Local (range_with_len 0 d.params)))) k
      call_normal =
          let some = some_params d.params refl in
          let xs = map var.Local (range_with_len 0 d.params) in
          let long : length xs ≡ suc some.0 = length_map var.Local (range_with_len 0 d.params) ∙
          length-range_with_len 0 d.params ∙ some.1 in
          let are = args_normal d.params 0 0 k refl param_means in
          PlainApp (Named
          (subst (λ m. IsNamed out s k m
          (arguments (name_supply_of c) d.at
          (binders (name_supply_of c) d.at d.params (root (Some f)) columns)) []
          (flat.Call g xs)) (sym (next_means ∙ ap (stands.Function g) some.1))
          (Called long are)))

    some_next : (ctx : Places) (binding : ℕ → ℕ → Bool) (places s : Scope) (n k m : ℕ)
        (cs : normal.Branches) → Holds ctx binding places s k → Keeping (Some f) (Some g) ctx places
        → AreBranches out s k (rest (Some f)) cs m
        → CodesOf c unbroken read arity many IsFun known fits d.at d.params most (Some g)
        (rest (Some f)) columns (root (Some f)) (can_fail d.tree ≡ true) ctx n NoBranch
        NoDefault cs
    some_next ctx binding places s n k m cs held keeps
        (NamelessBranch {e = e} {branches = more} none a b) =
        let same = (normal_one out a (call_normal ctx binding places s k held keeps)).0 in
        subst (λ z. CodesIn c (IsBody c unbroken read arity many IsFun known) arity many IsFun
        d.params (Some g) ctx n NoBranch NoDefault (normal.OnAny None z more)) (sym same)
        (CodeNext refl)
    some_next ctx binding places s n k m cs held keeps (NamedBranch some a b)
        = absurd (no_more (sym (nameless_named c) ∙ some))
      where
        no_more : true ≡ false → ⊥
        no_more e = cc

  rests : {next gnext : Option ℕ} → NextIs c d next gnext → Plain next → Rests next gnext
  rests NoNext plain = nothing_next
  rests (ANext {f = f} {g = g} number is low found) plain
      = λ fails ctx binding places s n k m cs held keeps b. some_next f g number plain is low found
      fails ctx binding places s n k m cs held keeps b

  -- ---- the whole function

  none_here : {p : ℕ} → InScope [] p → ⊥
  none_here i = let e = i.is in absurd cc

  pub function_made : {next gnext : Option ℕ} → NextIs c d next gnext → Plain next
      → {e : normal.Term} {m : ℕ}
      → IsNormal out
      (binds_all out (map (λ (b : Binder). b.name.0) (params next))
      (range_with_len 0 (length (params next))) []) (length (params next))
      (expr_of (name_supply_of c) d.at d.params (rest next) (root next) d.tree) e m
      → TermFits many e → Made next gnext d.params e
  function_made {next = next} {gnext = gnext} is plain {e = e} {m = m} normal tf =
      let called : Bool = is_called (name_supply_of c) d next in
      let many_columns : length columns ≡ d.params = length_numbers 0 d.params in
      let long : length (params next) ≡ length columns = length_map _ columns in
      let scope : ℕ → Scope = λ l. binds_all out (map (λ (b : Binder). b.name.0) (params next))
      (range_with_len 0 l) [] in
      let held0 = all_at c unbroken read d.params most d.free columns d.tree st.fine d.at columns []
      (root next) [] 0 (numbers_differ 0 d.params) (λ p i j. none_here j)
      (nowhere_at c unbroken read d.params most Binding (root next) 0)
      (λ p i. (column c unbroken read d st called p i).place) in
      let size : 0 + length columns ≡ d.params = omega (arith, many_columns) in
      let held : Holds own Binding (root next) (scope (length columns)) d.params
      = subst (Holds own Binding (root next) (scope (length columns))) size held0 in
      let body : IsNormal out (scope (length columns)) d.params
      (expr_of (name_supply_of c) d.at d.params (rest next) (root next) d.tree) e m =
      subst (λ l. IsNormal out (scope (length columns)) l
      (expr_of (name_supply_of c) d.at d.params (rest next) (root next) d.tree) e m)
      (long ∙ many_columns)
      (subst (λ l. IsNormal out (scope l) (length (params next))
      (expr_of (name_supply_of c) d.at d.params (rest next) (root next) d.tree) e m) long
      normal) in
      tree_made c unbroken read arity many IsFun known fits d.at d.params most gnext (rest next)
      columns (root next) (can_fail d.tree ≡ true) (rests is plain) d.tree d.free columns own
      (root next) (scope (length columns)) d.params st.fine
      (λ p i. zipped_new columns 0 [] p i)
      (λ p i. ⊎_elim (λ l. l) (λ r. absurd (none_here r)) (zipped_back columns 0 [] p i)) held
      (λ p i. (zipped_new columns 0 [] p i, self_local d.params 0 0 refl [] p i, refl)) (λ h. h)
      body tf
