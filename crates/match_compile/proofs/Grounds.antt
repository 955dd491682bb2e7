-- What a text of equations and the program that they become agree on: names, constructors and
-- functions.
use Rattle.std.proofs.Common.{◌≡◌, ◌⊎◌, ℕ, zero, suc, ◌+◌, ◌≤◌, ◌<◌, Bool, false, cond, List, [], ◌∷◌, ◌++◌, length, Option, Some, None, codes, refl, sym, ap, ◌∙◌, subst, arith, length-append, true}
use Rattle.std.specs.Prelude.{◌==◌, slice_get}
use Rattle.std.specs.List.{position}
use Rattle.std.specs.Str.{bytes_eq}
use Rattle.seq.specs.Lists.{AllOf, numbers_from}
use Rattle.seq.proofs.Lists.{length_map, some_at, get_left, append_nil, append_again, some_is}
use Rattle.seq.proofs.Order.{eq_false}
use Rattle.core_reader.specs.Tree.{Function, Program}
use Rattle.arity_check.specs.Program as normal
use Rattle.arity_check.specs.declared.normal.Bound.{Bound}
use Rattle.arity_check.specs.declared.normal.Flat.{Flat}
use Rattle.arity_check.specs.declared.normal.Flat.TheVariants as flat
use Rattle.arity_check.specs.declared.meaning.Meaning.TheVariants as stands
use Rattle.arity_check.specs.Scope.{is_named, function_from}
use Rattle.core_meaning.specs.WellFormed.{HasFields, FormOk, TermOk, BranchesOk, InLocals, InGroup}
use Rattle.core_reader.specs.declared.syntax.Binder.{Binder}
use Rattle.match_compile.specs.Source.{Pats, NoPats, AndPat, Equation, Source}
use Rattle.match_compile.specs.Parts.{count, tests_of}
use Rattle.std.proofs.Math.Nat.{le-max_left, le-max_right}
use Rattle.match_compile.specs.Sizes.{functions, rows, longest_length, most_equations}
use Rattle.match_compile.specs.Trees.{max_chained_cases, insert}
use Rattle.match_compile.specs.Decisions.{Decision, begun, grown, decided, decisions_from, all_decisions, decisions, row_of}
use Rattle.match_compile.specs.Translated.{name_supply_of, is_nameless, with_nameless, names, equation_name, first_of, each_of, firsts, others, translated}
use Rattle.match_compile.specs.Form.{placeholder_function, head_of, heads, program_of_heads}
use Rattle.match_compile.specs.Decides.{fields_in}
use Rattle.match_compile.proofs.Decided.{by_insert}
use Rattle.match_compile.proofs.AlikeFlats.{ConFits, NewsFit}
use Rattle.match_compile.proofs.AlikeTerms.{TermFits, BranchesFit}

-- ---- bodies have constructors with all their fields

module _ (p : normal.Program) where
  abbrev many : ℕ → ℕ
  many c = fields_in (slice_get p.cons c)

  pub fields_are : (c k : ℕ) → HasFields p c k → many c ≡ k
  fields_are c k h = ap fields_in h.1 ∙ h.2

  form_fits : (S : ℕ → Type 0) (f : Flat) → FormOk p S f → ConFits many f
  form_fits S (flat.Int k) h = tt
  form_fits S (flat.Con c xs) h = sym (fields_are c (length xs) h.0)
  form_fits S (flat.Part f xs) h = tt
  form_fits S (flat.Call f xs) h = tt
  form_fits S (flat.Apply x xs) h = tt
  form_fits S (flat.Prim op x y) h = tt

  group_fits : (S : ℕ → Type 0) (bs : List Bound) → AllOf (λ b. FormOk p S b.flat) bs
      → NewsFit many bs
  group_fits S [] h = tt
  group_fits S (b ∷ bs) h = (form_fits S b.flat h.0, group_fits S bs h.1)

  mutual
    pub term_fits : (S : ℕ → Type 0) (e : normal.Term) → TermOk p S e → TermFits many e
    term_fits S (normal.App f) h = form_fits S f h
    term_fits S (normal.Let group e) h = (
      group_fits (λ x. S x ⊎ InGroup group x) group h.0,
      term_fits (λ x. S x ⊎ InGroup group x) e h.1,
    )
    term_fits S (normal.Case e bs) h = (term_fits S e h.0, branches_fit S bs h.1)

    branches_fit : (S : ℕ → Type 0) (bs : normal.Branches) → BranchesOk p S bs → BranchesFit many bs
    branches_fit S normal.NoMore h = tt
    branches_fit S (normal.OnCon c xs e bs) h = (
      sym (fields_are c (length xs) h.0),
      (term_fits (λ x. S x ⊎ InLocals xs x) e h.1, branches_fit S bs h.2),
    )
    branches_fit S (normal.OnInt k e bs) h = (term_fits S e h.0, branches_fit S bs h.1)
    branches_fit S (normal.OnAny None e bs) h = (term_fits S e h.0, branches_fit S bs h.1)
    branches_fit S (normal.OnAny (Some x) e bs) h =
        (term_fits (λ y. S y ⊎ (y ≡ x)) e h.0, branches_fit S bs h.1)

-- ---- names of the text keep their numbers

with_more : (xs : List (List ℕ)) → (more : List (List ℕ)) × (with_nameless xs ≡ xs ++ more)
with_more xs = by (position is_nameless xs)
  where
    by : (o : Option ℕ) → (more : List (List ℕ)) ×
        (elim o as (λ _. List (List ℕ)) [ Some n ↦ xs | None ↦ xs ++ codes "_" ∷ [] ] ≡ xs ++ more)
    by (Some n) = ([], sym (append_nil xs))
    by None = (codes "_" ∷ [], refl)

pub name_kept : (c : Source) (x : ℕ) → x < length c.names
    → slice_get (names c) x ≡ slice_get c.names x
name_kept c x lt =
    let found = some_at c.names x lt in
    let more = with_more c.names in
    let left : slice_get (with_nameless c.names) x ≡ Some found.0
    = ap (λ w. slice_get w x) more.1 ∙ get_left c.names more.0 x found.0 found.1 in
    get_left (with_nameless c.names) _ x found.0 left ∙ sym found.1

pub same_named : (c : Source) (w : List ℕ) (x : ℕ) → x < length c.names
    → is_named (translated c) w x ≡ is_named (program_of_heads c) w x
same_named c w x lt = ap
    (λ (o : Option (List ℕ)). elim o as (λ _. Bool) [ Some b ↦ bytes_eq b w | None ↦ false ])
    (name_kept c x lt)

-- ---- functions of the text keep their numbers

pub record FirstIs (d : Decision) (ds : List Decision) : Type 0 where
  pub first : Decision
  pub rest : List Decision
  pub is : ds ≡ first ∷ rest
  pub name : first.name ≡ d.name
  pub params : first.params ≡ d.params

pub first_decided : (d : Decision) (k : ℕ) (es : List Equation) → FirstIs d (decided d k es)
first_decided d k [] = record { first = d; rest = []; is = refl; name = refl; params = refl }
first_decided d k (e ∷ es) =
    by_insert (FirstIs d) d k e es (insert max_chained_cases d.tree d.free (row_of e))
    (λ t i. let f = first_decided (grown d t) (suc k) es
    in record { first = f.first; rest = f.rest; is = f.is; name = f.name; params = f.params })
    (record {
      first = d;
      rest = decided (begun k e) (suc k) es;
      is = refl;
      name = refl;
      params
          = refl;
    })

pub data SameHead : List Function → List Function → Type 0 where
  NoHead : SameHead [] []
  OneHead : {f g : Function} → f.name ≡ g.name → length f.params ≡ length g.params
      → SameHead (f ∷ []) (g ∷ [])

numbers_long : (n k : ℕ) → length (numbers_from n k) ≡ k
numbers_long n zero = refl
numbers_long n (suc k) = ap suc (numbers_long (suc n) k)

pub as_many_long : (b : Binder) (ps : Pats) → length (placeholder_function b ps) ≡ count ps
as_many_long b NoPats = refl
as_many_long b (AndPat p ps) = ap suc (as_many_long b ps)

module _ (c : Source) where
  -- the first function of each has the name and as many parameters as there are patterns
  pub same_head : (k : ℕ) (f : List Equation) → SameHead (head_of f)
      (first_of (name_supply_of c) (decisions_from k (rows f)))
  same_head k [] = NoHead
  same_head k (e ∷ es) =
      let f = first_decided (begun k e) (suc k) (cond (tests_of e.pats == 0) [] (rows es)) in
      subst (λ ds. SameHead (head_of (e ∷ es)) (first_of (name_supply_of c) ds)) (sym f.is)
      (OneHead (sym f.name)
      (as_many_long (record { name = record { 0 = e.name }; at = e.at }) e.pats ∙ sym
      (length_map _ (numbers_from 0 f.first.params) ∙ numbers_long 0 f.first.params ∙
      f.params)))

  module _ (x : ℕ) (below : x < length c.names) where
    abbrev text : Program
    text = program_of_heads c

    abbrev out : Program
    out = translated c

    abbrev NotIn : List Function → Type 0
    NotIn fs = (i : ℕ) → function_from out fs i x ≡ stands.Unbound

    long : length c.names ≤ length (with_nameless c.names)
    long = let more = with_more c.names in let l = ap length more.1 ∙ length-append c.names more.0
        in omega (arith, l)

    each_new : (ds : List Decision) (rest : List Function) → NotIn rest
        → NotIn (each_of (name_supply_of c) ds ++ rest)
    each_new [] rest h i = h i
    each_new (d ∷ ds) rest h i =
        let other : equation_name (name_supply_of c) d.number ≡ x → ⊥
        = λ e. omega (arith, e, below, long) in
        rw (eq_false (equation_name (name_supply_of c) d.number) x other)
        (each_new ds rest h (i + 1))

    others_new : (fs : List (List Decision)) → NotIn (others (name_supply_of c) fs)
    others_new [] i = refl
    others_new ([] ∷ fs) i = others_new fs i
    others_new ((d ∷ ds) ∷ fs) i = each_new ds (others (name_supply_of c) fs) (others_new fs) i

    one_head : (hs gs hs' gs' : List Function) → SameHead hs gs
        → ((i : ℕ) → function_from out gs' i x ≡ function_from text hs' i x) → (i : ℕ)
        → function_from out (gs ++ gs') i x ≡ function_from text (hs ++ hs') i x
    one_head hs gs hs' gs' NoHead h i = h i
    one_head hs gs hs' gs' (OneHead {f = f} {g = g} e l) h i
        = λ j. cond (sym e j == x) (stands.Function i (sym l j)) (h (i + 1) j)

    firsts_same : (fs : List (List Equation)) (k : ℕ) (rest : List Function) → NotIn rest → (i : ℕ)
        → function_from out (firsts (name_supply_of c) (all_decisions k fs) ++ rest) i x ≡
        function_from text (heads fs) i x
    firsts_same [] k rest h i = h i
    firsts_same (f ∷ fs) k rest h i =
        ap (λ w. function_from out w i x)
        (append_again (first_of (name_supply_of c) (decisions_from k (rows f)))
        (firsts (name_supply_of c) (all_decisions (k + length f) fs)) rest)
        ∙ one_head (head_of f) (first_of (name_supply_of c) (decisions_from k (rows f))) (heads fs)
        (firsts (name_supply_of c) (all_decisions (k + length f) fs) ++ rest) (same_head k f)
        (firsts_same fs (k + length f) rest h) i

    pub same_function : function_from out out.functions 0 x ≡ function_from text text.functions 0 x
    same_function = firsts_same (functions c.equations) 0 (others (name_supply_of c) (decisions c))
        (others_new (decisions c)) 0

-- ---- no function has more rows than the largest has equations

rows_few : (es : List Equation) → length (rows es) ≤ length es
rows_few [] = omega arith
rows_few (e ∷ es) = by (tests_of e.pats == 0) (rows_few es)
  where
    by : (b : Bool) → length (rows es) ≤ length es → suc (length (cond b [] (rows es))) ≤ suc
        (length es)
    by true le = omega arith
    by false le = omega (arith, le)

longest_of : (fs : List (List Equation)) (f : ℕ) (es : List Equation) → slice_get fs f ≡ Some es
    → length es ≤ longest_length fs
longest_of [] f es e = absurd cc
longest_of (g ∷ gs) zero es e = let l = ap length (some_is e) in let m
    = le-max_left (length g) (longest_length gs) in omega (arith, l, m)
longest_of (g ∷ gs) (suc f) es e = let l = longest_of gs f es e in let m
    = le-max_right (length g) (longest_length gs) in omega (arith, l, m)

pub rows_within : (c : Source) (f : ℕ) (es : List Equation)
    → slice_get (functions c.equations) f ≡ Some es → length (rows es) ≤ most_equations c
rows_within c f es e = let a = rows_few es in let b = longest_of (functions c.equations) f es e
    in omega (arith, a, b)
