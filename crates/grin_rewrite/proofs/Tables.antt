-- The table of what is known.
use Rattle.std.proofs.Common.{◌≡◌, ℕ, zero, suc, ◌+◌, ◌<◌, ◌≤◌, Bool, true, false, cond, nat_eq, List, [], ◌∷◌, ◌++◌, take, length, get_or, Option, Some, None, slice_set, refl, sym, ap, ◌∙◌, subst, arith}
use Rattle.std.proofs.lemmas.Bool.Decides.{nat_tests}
use Rattle.std.proofs.lemmas.List.{get_or-set_same, get_or-set_other}
use Rattle.seq.proofs.Lists.{append_nil, append_again, none_is_some}
use Rattle.seq.proofs.Order.{eq_from, eq_self}
use Rattle.seq.proofs.Truth.{not_both}
use Rattle.grin_syntax.specs.declared.program.VarId.{VarId}
use Rattle.grin_rewrite.specs.declared.fact_table.Fact.{Fact}
use Rattle.grin_rewrite.specs.Table.{Facts, nothing_known, note, extended_by_facts, facts_of, PreviousFactsAreSaved, TableMatchesFacts, AppendsFacts}

other_entry : (x y : ℕ) → nat_eq y x ≡ false → y ≡ x → ⊥
other_entry x y q s = let t : nat_eq y x ≡ true = grind (arith, nat_tests)
    in not_both (nat_eq y x) t q

longer : {X : Type 0} (xs : List X) (x : X) → length (xs ++ x ∷ []) ≡ length xs + 1
longer [] x = refl
longer (y ∷ xs) x = let h : length (xs ++ x ∷ []) ≡ length xs + 1 = longer xs x in omega (arith, h)

module _ {T : Type 0} where
  -- ---- one fact more

  and_push : (fs : List (Fact T)) (f : Fact T) (facts : Facts T)
      → extended_by_facts facts (fs ++ f ∷ []) ≡ note f.var f.known (extended_by_facts facts fs)
  and_push [] f facts = refl
  and_push (e ∷ fs) f facts = and_push fs f _

  pub facts_push : (fs more : List (Fact T)) (f : Fact T) → more ≡ fs ++ f ∷ []
      → facts_of more ≡ note f.var f.known (facts_of fs)
  facts_push fs more f e = ap facts_of e ∙ and_push fs f _

  before_push : (fs : List (Fact T)) (f : Fact T) (facts : Facts T) → PreviousFactsAreSaved facts fs
      → f.before ≡ extended_by_facts facts fs f.var.0 → PreviousFactsAreSaved facts (fs ++ f ∷ [])
  before_push [] f facts h e = (e, tt)
  before_push (g ∷ fs) f facts h e = (h.0, before_push fs f _ h.1 e)

  before_front : (fs : List (Fact T)) (f : Fact T) (facts : Facts T)
      → PreviousFactsAreSaved facts (fs ++ f ∷ []) → PreviousFactsAreSaved facts fs
      × (f.before ≡ extended_by_facts facts fs f.var.0)
  before_front [] f facts h = (tt, h.0)
  before_front (g ∷ fs) f facts h = let z : PreviousFactsAreSaved (note g.var g.known facts) fs
      × (f.before ≡ extended_by_facts (note g.var g.known facts) fs f.var.0)
      = before_front fs f _ h.1 in ((h.0, z.0), z.1)

  -- ---- the table

  pub table_none : TableMatchesFacts {T = T} [] []
  table_none = record { by = λ x. refl; before = tt }

  none_past : (table : List (Option T)) (x : ℕ) → get_or (table ++ None ∷ []) x None ≡ get_or table
      x None
  none_past [] zero = refl
  none_past [] (suc x) = refl
  none_past (o ∷ table) zero = refl
  none_past (o ∷ table) (suc x) = none_past table x

  table_longer : (fs : List (Fact T)) (table : List (Option T)) → TableMatchesFacts fs table
      → TableMatchesFacts fs (table ++ None ∷ [])
  table_longer fs table h = record { by = λ x. none_past table x ∙ h.by x; before = h.before }

  pub table_grown : (fs : List (Fact T)) (table new : List (Option T)) (n : ℕ)
      → TableMatchesFacts fs table → length table ≡ n → new ≡ table ++ None ∷ []
      → (length new ≡ n + 1) × TableMatchesFacts fs new
  table_grown fs table new n h m e = (
    ap length e ∙ longer table None ∙ ap (λ i. i + 1) m,
    subst (TableMatchesFacts fs) (sym e) (table_longer fs table h),
  )

  pub table_next : (fs more : List (Fact T)) (table : List (Option T)) (x : VarId) (k : T)
      (before : Option T) → TableMatchesFacts fs table → x.0 < length table
      → before ≡ facts_of fs x.0
      → more ≡ fs ++ record { var = x; known = k; before = before } ∷ []
      → TableMatchesFacts more (slice_set table x.0 (Some k))
  table_next fs more table x k before h lt e n = subst
      (λ l. TableMatchesFacts l (slice_set table x.0 (Some k))) (sym n) (record {
        by = λ y. go y (nat_eq y x.0) refl ∙ ap (λ f. f y)
            (sym (and_push fs (record { var = x; known = k; before = before }) nothing_known));
        before = before_push fs (record { var = x; known = k; before = before }) nothing_known h.before
            e;
      })
    where
      go : (y : ℕ) (b : Bool) → nat_eq y x.0 ≡ b → get_or (slice_set table x.0 (Some k)) y None ≡
          cond b (Some k) (facts_of fs y)
      go y true q = ap (λ z. get_or (slice_set table x.0 (Some k)) z None) (eq_from y x.0 q) ∙
          get_or-set_same table x.0 (Some k) None lt
      go y false q = get_or-set_other table x.0 y (Some k) None (other_entry x.0 y q) ∙ h.by y

  pub adds_one : (fs more : List (Fact T)) (f : Fact T) → more ≡ fs ++ f ∷ [] → AppendsFacts fs more
  adds_one fs more f e = record { more = f ∷ []; is = e }

  some_within : (table : List (Option T)) (x : ℕ) (k : T) → get_or table x None ≡ Some k
      → x < length table
  some_within [] x k e = none_is_some e
  some_within (o ∷ table) zero k e = omega arith
  some_within (o ∷ table) (suc x) k e = let h : x < length table = some_within table x k e
      in omega (arith, h)

  pop_within : (fs : List (Fact T)) (f : Fact T) (table : List (Option T))
      → TableMatchesFacts (fs ++ f ∷ []) table → f.var.0 < length table
  pop_within fs f table h = some_within table f.var.0 f.known
      (h.by f.var.0 ∙ ap (λ g. g f.var.0) (and_push fs f nothing_known) ∙ ap
      (λ b. cond b (Some f.known) (facts_of fs f.var.0)) (eq_self f.var.0))

  table_popped : (fs : List (Fact T)) (f : Fact T) (table : List (Option T))
      → TableMatchesFacts (fs ++ f ∷ []) table → TableMatchesFacts fs
      (slice_set table f.var.0 f.before)
  table_popped fs f table h =
      let z : PreviousFactsAreSaved nothing_known fs × (f.before ≡ facts_of fs f.var.0)
      = before_front fs f nothing_known h.before in
      record { by = λ y. go z.1 y (nat_eq y f.var.0) refl; before = z.0 }
    where
      go : f.before ≡ facts_of fs f.var.0 → (y : ℕ) (b : Bool) → nat_eq y f.var.0 ≡ b
          → get_or (slice_set table f.var.0 f.before) y None ≡ facts_of fs y
      go e y true q =
          ap (λ z. get_or (slice_set table f.var.0 f.before) z None) (eq_from y f.var.0 q) ∙
          get_or-set_same table f.var.0 f.before None (pop_within fs f table h) ∙ e ∙ ap
          (facts_of fs) (sym (eq_from y f.var.0 q))
      go e y false q =
          get_or-set_other table f.var.0 y f.before None (other_entry f.var.0 y q) ∙ h.by y ∙ ap
          (λ g. g y) (and_push fs f nothing_known) ∙ ap
          (λ b. cond b (Some f.known) (facts_of fs y)) q

  -- ---- the first facts stay

  -- while the others go
  pub record Keeping (init : List (Fact T)) (count counter : ℕ) (fs : List (Fact T))
      (table : List (Option T)) : Type 0 where
    pub many : length fs + counter ≡ length init + count
    pub same : take count fs ≡ take count init
    pub table_is : TableMatchesFacts fs table

  pub keeping : (init : List (Fact T)) (count : ℕ) (table : List (Option T))
      → TableMatchesFacts init table → Keeping init count count init table
  keeping init count table h = record { many = refl; same = refl; table_is = h }

  take_front : (count : ℕ) (fs : List (Fact T)) (f : Fact T) → count ≤ length fs
      → take count (fs ++ f ∷ []) ≡ take count fs
  take_front zero [] f h = refl
  take_front zero (g ∷ fs) f h = refl
  take_front (suc count) [] f h = absurd (omega (arith, h))
  take_front (suc count) (g ∷ fs) f h = ap (λ l. g ∷ l) (take_front count fs f (omega (arith, h)))

  pub keep_within : (init fs rest : List (Fact T)) (f : Fact T) (count counter : ℕ)
      (table : List (Option T)) → fs ≡ rest ++ f ∷ [] → Keeping init count counter fs table
      → f.var.0 < length table
  keep_within init fs rest f count counter table e h
      = pop_within rest f table (subst (λ l. TableMatchesFacts l table) e h.table_is)

  pub keep_next : (init fs rest : List (Fact T)) (f : Fact T) (count counter : ℕ)
      (table : List (Option T)) → counter < length init → fs ≡ rest ++ f ∷ []
      → Keeping init count counter fs table
      → Keeping init count (counter + 1) rest (slice_set table f.var.0 f.before)
  keep_next init fs rest f count counter table lt e h =
      let l : length fs ≡ length rest + 1 = ap length e ∙ longer rest f in
      record {
        many = (let m : length fs + counter ≡ length init + count = h.many in omega (arith, l, m));
        same = sym
            (ap (take count) e ∙ take_front count rest f
            (let m : length fs + counter ≡ length init + count = h.many in omega (arith, l, m, lt)))
            ∙ h.same;
        table_is = table_popped rest f table (subst (λ l. TableMatchesFacts l table) e h.table_is);
      }

  pub keep_none : {A : Type 0} (init fs : List (Fact T)) (count counter : ℕ)
      (table : List (Option T)) → counter < length init → fs ≡ []
      → Keeping init count counter fs table → A
  keep_none init fs count counter table lt e h = let m : length fs + counter ≡ length init + count
      = h.many in let z : length fs ≡ 0 = ap length e in absurd (omega (arith, m, z, lt))

  take_all_of : (count : ℕ) (fs : List (Fact T)) → length fs ≤ count → take count fs ≡ fs
  take_all_of zero [] h = refl
  take_all_of (suc count) [] h = refl
  take_all_of zero (f ∷ fs) h = absurd (omega (arith, h))
  take_all_of (suc count) (f ∷ fs) h = ap (λ l. f ∷ l) (take_all_of count fs (omega (arith, h)))

  pub keep_done : (init fs : List (Fact T)) (count counter : ℕ) (table : List (Option T))
      → length init ≤ counter → Keeping init count counter fs table → fs ≡ take count init
  keep_done init fs count counter table le h = sym
      (take_all_of count fs
      (let m : length fs + counter ≡ length init + count = h.many in omega (arith, m, le))) ∙ h.same

  -- ---- facts that were added

  pub adds_none : (fs : List (Fact T)) → AppendsFacts fs fs
  adds_none fs = record { more = []; is = sym (append_nil fs) }

  pub adds_again : (a b c : List (Fact T)) → AppendsFacts a b → AppendsFacts b c → AppendsFacts a c
  adds_again a b c h k = record {
    more = h.more ++ k.more;
    is = k.is ∙ ap (λ l. l ++ k.more) h.is ∙ append_again a h.more
        k.more;
  }

  take_first : (fs more : List (Fact T)) → take (length fs) (fs ++ more) ≡ fs
  take_first [] [] = refl
  take_first [] (f ∷ more) = refl
  take_first (f ∷ fs) more = ap (λ l. f ∷ l) (take_first fs more)

  -- they go again
  pub adds_back : (old now new : List (Fact T)) (count : ℕ) → AppendsFacts old now
      → count ≡ length old → new ≡ take count now → new ≡ old
  adds_back old now new count h n e = e ∙ (λ i. take (n i) (h.is i)) ∙ take_first old h.more
