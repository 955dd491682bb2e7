-- The normal form of an expression has the type of the expression.
use Rattle.std.proofs.Common.{◌≡◌, ℕ, ◌+◌, ◌≤◌, cond, List, [], ◌∷◌, ◌++◌, map, length, Some, None, refl, sym, ap, ◌∙◌, subst, arith, inl, inr}
use Rattle.std.specs.List.{range_with_len}
use Rattle.std.proofs.lemmas.List.FromFn.{length-range_with_len}
use Rattle.core_reader.specs.declared.syntax.Binder.{Binder}
use Rattle.core_reader.specs.declared.syntax.Pattern.{Pattern}
use Rattle.core_reader.specs.declared.syntax.Pattern.TheVariants as pattern
use Rattle.core_reader.specs.Tree as tree
use Rattle.core_reader.specs.Tree.{Expr, App, Let, Case, Alts, NoAlts, AndAlt, Bind}
use Rattle.arity_check.specs.declared.normal.Bound.{Bound}
use Rattle.arity_check.specs.Program as normal
use Rattle.arity_check.specs.Scope as scope
use Rattle.arity_check.specs.Scope.{Scope, con_number}
use Rattle.arity_check.specs.Normal.{Pairwise, IsConstructor, IsNormal, PlainApp, BoundApp, Group, Choice, AreBranches, NoBranches, ConBranch, IntBranch, NamelessBranch, NamedBranch}
use Rattle.arity_check.proofs.Numbers.{flat_numbered}
use Rattle.core_types.specs.Source.{Source, erased}
use Rattle.core_types.specs.Rules.{IsUnbroken, HasCase, HasCaseIn}
use Rattle.core_types.specs.Typing.{Typed, Locals, binds_all, with_group, of_group, of_expr, of_alts, of_pattern, with_pattern, scrutinee, read_list, applied, used_at, constraint, Constraint, Substitution, under, Solves}
use Rattle.core_meaning.specs.WellFormed.{HasFields}
use Rattle.type_meaning.specs.Judgement.{Instance, Context, with_type, with_types, group_types, TermHas, BranchesHave}
use Rattle.type_meaning.specs.SourceTypes.{ConstructorHasType, FunctionHasType}
use Rattle.type_meaning.proofs.Readings.{under_both, both_carry, carry_list, Signed}
use Rattle.type_meaning.proofs.Constructors.{known, known_fields, many}
use Rattle.type_meaning.proofs.Flats.{solves_left, solves_right, NewsIn, AllCounted, Counted}
use Rattle.type_meaning.proofs.Scopes as scopes
use Rattle.type_meaning.proofs.Scopes.{Within, group_in, within_more, within_group, within_bind, within_binders, within_members, same_members, group_typed, group_long, app_has}
use Rattle.type_meaning.proofs.Cases.{Complete, takes_all, scrutinee_is}

-- ---- later locals have larger numbers

mutual
  normal_grows : {p : tree.Program} {s : Scope} {n m : ℕ} {e : Expr} {t : normal.Term}
      → IsNormal p s n e t m → n ≤ m
  normal_grows (PlainApp d) = omega arith
  normal_grows (BoundApp d) = omega arith
  normal_grows (Group inner xs bounds e g b) = let h = normal_grows b in omega (arith, h)
  normal_grows (Choice a b) = let h = normal_grows a in let i = branches_grow b
      in omega (arith, h, i)

  branches_grow : {p : tree.Program} {s : Scope} {n m : ℕ} {alts : Alts}
      {branches : normal.Branches} → AreBranches p s n alts branches m → n ≤ m
  branches_grow NoBranches = omega arith
  branches_grow (ConBranch xs e r a b) = let h = normal_grows a in let i = branches_grow b
      in omega (arith, h, i)
  branches_grow (IntBranch a b) = let h = normal_grows a in let i = branches_grow b
      in omega (arith, h, i)
  branches_grow (NamelessBranch e a b) = let h = normal_grows a in let i = branches_grow b
      in omega (arith, h, i)
  branches_grow (NamedBranch e a b) = let h = normal_grows a in let i = branches_grow b
      in omega (arith, h, i)

-- constructors stand with as many fields as they have
abbrev mutual
  pub TermCounted : normal.Program → normal.Term → Type 0
  TermCounted p (normal.App f) = Counted p f
  TermCounted p (normal.Let group e) = AllCounted p group × TermCounted p e
  TermCounted p (normal.Case e branches) = TermCounted p e × BranchesCounted p branches

  pub BranchesCounted : normal.Program → normal.Branches → Type 0
  BranchesCounted p normal.NoMore = Unit {0}
  BranchesCounted p (normal.OnCon c xs e rest) = HasFields p c (length xs) × TermCounted p e
      × BranchesCounted p rest
  BranchesCounted p (normal.OnInt k e rest) = TermCounted p e × BranchesCounted p rest
  BranchesCounted p (normal.OnAny x e rest) = TermCounted p e × BranchesCounted p rest

module _ (s : Source) (p : normal.Program) (unbroken : IsUnbroken s)
    (cons : Pairwise (IsConstructor (erased s)) (erased s).constructors p.cons) (σ : Substitution)
    (signs : Signed s σ) (ρ : Instance) where
  abbrev F : Typed → Typed
  F t = under_both σ ρ t

  abbrev Scoped : Scope → Locals → Context → ℕ → Type 0
  Scoped = Within s p unbroken cons σ signs ρ

  abbrev Terms : Context → normal.Term → Typed → Type 0
  Terms = TermHas (ConstructorHasType s) (FunctionHasType s σ)

  abbrev Branches : Context → Typed → normal.Branches → Typed → Type 0
  Branches = BranchesHave (ConstructorHasType s) (FunctionHasType s σ)

  -- the fields of a pattern
  pattern_within : (v : Typed) (c : Binder) (fields : List Binder) (sc : Scope) (ls : Locals)
      (Γ : Context) (n number : ℕ) → con_number (erased s) c.name.0 ≡ Some number
      → HasFields p number (length fields)
      → Solves σ (of_pattern s v (pattern.Con c fields)) → Scoped sc ls Γ n
      → (ts : List Typed) × ConstructorHasType s number ts (F v)
      × Scoped (scope.binds_all (erased s) (map (λ (b : Binder). b.name.0) fields)
      (range_with_len n (length fields)) sc) (with_pattern s v (pattern.Con c fields) ls)
      (with_types Γ (range_with_len n (length fields)) ts) (n + length fields)
  pattern_within v c fields sc ls Γ n number e f solved w =
      let k = known s p unbroken cons c.name.0 number e in
      let first : under σ v ≡ under σ (applied s k.type (used_at s c.at)) =
      (subst (λ o. Solves σ
      (elim o as (λ _. List Constraint)
      [ Some x ↦ constraint s c.at v (applied s x.0 (used_at s c.at)) ∷ [] | None ↦ [] ]))
      k.declared solved).0 in
      let us : List Typed = read_list s (used_at s c.at) k.constructor.fields in
      let var : ℕ → Typed = λ n. F (used_at s c.at n) in
      let long : length fields ≡ length us = sym
      (many s p unbroken cons (used_at s c.at) k.constructor.fields ∙ known_fields s p unbroken
      cons c.name.0 number (length fields) k f) in
      let inner = within_binders s p unbroken cons σ signs ρ fields us sc ls Γ n long w in
      let same : binds_all s fields us ls ≡ with_pattern s v (pattern.Con c fields) ls =
      sym (ap (λ o. elim o as (λ _. Locals)
      [ Some x ↦ binds_all s fields (read_list s (used_at s c.at) x.1.fields) ls | None ↦ ls ])
      k.declared) in
      let con : ConstructorHasType s number (map F us) (F v) = record {
        name = c.name.0;
        number = e;
        type = k.type;
        constructor = k.constructor;
        declared = k.declared;
        var = var;
        fields = carry_list F _ (both_carry σ ρ) s (used_at s c.at) k.constructor.fields;
        result = scrutinee_is s p unbroken cons σ ρ v c k.type first;
      } in (
        map F us,
        con,
        subst
            (λ ls'. Scoped
            (scope.binds_all (erased s) (map (λ (b : Binder). b.name.0) fields)
            (range_with_len n (length fields)) sc) ls'
            (with_types Γ (range_with_len n (length fields)) (map F us)) (n + length fields)) same
            inner,
      )

  mutual
    pub term_has : {sc : Scope} {n m : ℕ} {e : Expr} {t : normal.Term}
        → IsNormal (erased s) sc n e t m → (ls : Locals) (Γ : Context) (u : Typed)
        → Scoped sc ls Γ n → Solves σ (of_expr s ls u e) → TermCounted p t
        → ((alts : Alts) → HasCase e alts → Complete s alts) → Terms Γ t (F u)
    term_has {sc = sc} (PlainApp {app = app} d) ls Γ u w h c complete =
        let r = app_has s p unbroken cons σ signs ρ sc ls w.names u app.head app.args d h tt c in
        plain r.types r.long (λ g. (r.has Γ w.fits g).1)
      where
        plain : {X : Type 0} (ts : List Typed) → 0 ≡ length ts → (NewsIn Γ [] ts → X) → X
        plain [] e k = k tt
        plain (t ∷ ts) e k = absurd (omega (arith, e))
    term_has {sc = sc} {n = n} (BoundApp {app = app} {new = new} {news = news} d) ls Γ u w h c
        complete =
        let group : List Bound = new ∷ news in
        let r = app_has s p unbroken cons σ signs ρ sc ls w.names u app.head app.args d h c.0 c.1 in
        let numbered = flat_numbered (erased s) sc d in
        let w' = within_group s p unbroken cons σ signs ρ sc ls Γ n group r.types numbered w in
        let v = r.has (group_types Γ group r.types) w'.fits
        (group_in group r.types Γ n numbered r.long) in
        (r.types, v.0, v.1)
    term_has {sc = sc} {n = n} (Group {group = group} {body = body} inner xs bounds q g b) ls Γ u w
        h c complete =
        let ls' : Locals = with_group s group ls in
        let in_group = solves_left σ (of_group s ls' group) (of_expr s ls' u body) h in
        let in_body = solves_right σ (of_group s ls' group) (of_expr s ls' u body) h in
        let names = subst (λ sc. scopes.SameNames s p unbroken cons σ signs ρ sc ls') (sym q)
        (same_members s p unbroken cons σ signs ρ group xs sc ls
        (group_long s p unbroken cons σ signs ρ g) w.names) in
        let r = group_typed s p unbroken cons σ signs ρ ls' g names in_group c.0 in
        let Δ : Context = group_types Γ bounds r.types in
        let here : NewsIn Δ bounds r.types = group_in bounds r.types Γ n r.numbered r.long in
        let outer : Scoped sc ls Δ (n + length bounds)
        = within_more s p unbroken cons σ signs ρ sc ls Δ n (n + length bounds) (omega arith)
        (within_group s p unbroken cons σ signs ρ sc ls Γ n bounds r.types r.numbered w) in
        let w' : Scoped inner ls' Δ (n + length bounds)
        = subst (λ sc. Scoped sc ls' Δ (n + length bounds)) (sym q)
        (within_members s p unbroken cons σ signs ρ group xs sc ls Δ (n + length bounds)
        (r.members Δ here) r.below outer) in
        (r.types, r.has Δ w'.fits here, term_has b ls' Δ u w' in_body c.1 complete)
    term_has {sc = sc} {n = n} (Choice {k = k} {tested = tested} {alts = alts} a b) ls Γ u w h c
        complete =
        let v : Typed = scrutinee s alts in
        let in_alts = solves_right σ (of_expr s ls v tested) (of_alts s ls v u alts) h in
        let one = term_has a ls Γ v w
        (solves_left σ (of_expr s ls v tested) (of_alts s ls v u alts) h) c.0
        (λ alts i. complete alts (inr (inl i))) in
        let w' = within_more s p unbroken cons σ signs ρ sc ls Γ n k (normal_grows a) w in (
          F v,
          one,
          takes_all s p unbroken cons σ ρ ls u b (complete alts (inl refl)) in_alts,
          branches_have b ls Γ v u w' in_alts c.1 (λ alts i. complete alts (inr (inr i))),
        )

    branches_have : {sc : Scope} {n m : ℕ} {alts : Alts} {branches : normal.Branches}
        → AreBranches (erased s) sc n alts branches m → (ls : Locals) (Γ : Context) (v u : Typed)
        → Scoped sc ls Γ n → Solves σ (of_alts s ls v u alts) → BranchesCounted p branches
        → ((these : Alts) → HasCaseIn alts these → Complete s these)
        → Branches Γ (F v) branches (F u)
    branches_have NoBranches ls Γ v u w h c complete = tt
    branches_have {sc = sc} {n = n}
        (ConBranch {k = k} {number = number} {at = at} {fields = fields} {body = body} {rest = rest}
        xs e q a b) ls Γ v u w h c complete =
        let pat : Pattern = pattern.Con at fields in
        let ls' : Locals = with_pattern s v pat ls in
        let more : List Constraint = of_expr s ls' u body ++ of_alts s ls v u rest in
        let in_pattern = solves_left σ (of_pattern s v pat) more h in
        let others = solves_right σ (of_pattern s v pat) more h in
        let in_body = solves_left σ (of_expr s ls' u body) (of_alts s ls v u rest) others in
        let in_rest = solves_right σ (of_expr s ls' u body) (of_alts s ls v u rest) others in
        let long : length xs ≡ length fields = ap length q ∙ length-range_with_len n (length fields)
        in
        let r = pattern_within v at fields sc ls Γ n number e
        (subst (λ k. HasFields p number k) long c.0) in_pattern w in
        let r2 = subst
        (λ xs. Scoped (scope.binds_all (erased s) (map (λ (x : Binder). x.name.0) fields) xs sc)
        ls' (with_types Γ xs r.0) (n + length fields)) (sym q) r.2 in
        let grows = normal_grows a in
        let w' = within_more s p unbroken cons σ signs ρ sc ls Γ n k (omega (arith, grows)) w in (
          r.0,
          r.1,
          term_has a ls' (with_types Γ xs r.0) u r2 in_body c.1
              (λ alts i. complete alts (inl i)),
          branches_have b ls Γ v u w' in_rest c.2
              (λ alts i. complete alts (inr i)),
        )
    branches_have {sc = sc} {n = n}
        (IntBranch {k = k} {at = at} {number = number} {body = body} {rest = rest} a b) ls Γ v u w h
        c complete =
        let others = h.1 in
        let in_body = solves_left σ (of_expr s ls u body) (of_alts s ls v u rest) others in
        let in_rest = solves_right σ (of_expr s ls u body) (of_alts s ls v u rest) others in
        let w' = within_more s p unbroken cons σ signs ρ sc ls Γ n k (normal_grows a) w in (
          term_has a ls Γ u w in_body c.0 (λ alts i. complete alts (inl i)),
          branches_have b ls Γ v u w' in_rest c.1 (λ alts i. complete alts (inr i)),
        )
    branches_have {sc = sc} {n = n}
        (NamelessBranch {k = k} {x = x} {body = body} {rest = rest} e a b) ls Γ v u w h c complete =
        let ls' : Locals = with_pattern s v (pattern.Default x) ls in
        let same : ls' ≡ ls = ap (λ b. cond b ls ((x.name.0, v) ∷ ls)) e in
        let in_body = subst (λ ls. Solves σ (of_expr s ls u body)) same
        (solves_left σ (of_expr s ls' u body) (of_alts s ls v u rest) h) in
        let in_rest = solves_right σ (of_expr s ls' u body) (of_alts s ls v u rest) h in
        let w' = within_more s p unbroken cons σ signs ρ sc ls Γ n k (normal_grows a) w in (
          term_has a ls Γ u w in_body c.0 (λ alts i. complete alts (inl i)),
          branches_have b ls Γ v u w' in_rest c.1 (λ alts i. complete alts (inr i)),
        )
    branches_have {sc = sc} {n = n} (NamedBranch {k = k} {x = x} {body = body} {rest = rest} e a b)
        ls Γ v u w h c complete =
        let ls' : Locals = with_pattern s v (pattern.Default x) ls in
        let in_body = solves_left σ (of_expr s ls' u body) (of_alts s ls v u rest) h in
        let in_rest = solves_right σ (of_expr s ls' u body) (of_alts s ls v u rest) h in
        let grows = normal_grows a in
        let w' = within_more s p unbroken cons σ signs ρ sc ls Γ n k (omega (arith, grows)) w in (
          term_has a ls' (with_type Γ n (F v)) u
              (within_bind s p unbroken cons σ signs ρ sc ls Γ n x v w) in_body c.0
              (λ alts i. complete alts (inl i)),
          branches_have b ls Γ v u w' in_rest c.1
              (λ alts i. complete alts (inr i)),
        )
