-- In the normal form of the program the functions of each function's trees stand for them, one
-- after the other.
use Rattle.std.proofs.Common.{◌≡◌, ℕ, zero, suc, ◌+◌, ◌<◌, ◌≤◌, Bool, true, false, cond, List, [], ◌∷◌, ◌++◌, length, refl, sym, ap, subst, ◌∙◌, arith, Option, Some, None, ◌⊎◌, inl, inr}
use Rattle.std.specs.Prelude.{◌==◌, nat_le, slice_get, if◌then◌else◌}
use Rattle.std.proofs.lemmas.Bool.Decides.{nat_tests}
use Rattle.seq.specs.Lists.{AllOf, In, here, there, numbers_from}
use Rattle.seq.proofs.Lists.{some_is, all_get, get_left}
use Rattle.seq.proofs.Member.{in_left, in_right}
use Rattle.seq.proofs.Order.{eq_true, eq_false, le_or_lt}
use Rattle.core_reader.specs.declared.syntax.Binder.{Binder}
use Rattle.core_reader.specs.Tree.{Expr, Function, Program}
use Rattle.arity_check.specs.declared.meaning.Meaning.TheVariants as stands
use Rattle.arity_check.specs.Accepted as check
use Rattle.arity_check.specs.BinderLists.{OfFunction}
use Rattle.arity_check.specs.Broken.{ReservedBinder, TooManyParameters}
use Rattle.arity_check.specs.Scope.{primitives, primitive_from, function_from}
use Rattle.arity_check.specs.Program as normal
use Rattle.arity_check.specs.Normal.{Pairwise, IsFunction}
use Rattle.core_meaning.specs.WellFormed.{FunOk}
use Rattle.match_compile.specs.Source.{Equation, Source}
use Rattle.match_compile.specs.Parts.{count, tests_of}
use Rattle.match_compile.specs.Rules.{Broken}
use Rattle.match_compile.specs.Sizes.{functions, rows}
use Rattle.match_compile.specs.Trees.{max_chained_cases, insert}
use Rattle.match_compile.specs.Decisions.{Decision, row_of, begun, grown, decided, decisions_from, all_decisions, decisions}
use Rattle.match_compile.specs.Translated.{name_supply_of, equation_name, is_called, function_of, next_of, first_of, each_of, others_of, firsts, others, translated}
use Rattle.match_compile.specs.Form.{program_of_heads}
use Rattle.match_compile.specs.Decides as decides
use Rattle.match_compile.proofs.NamedAs.{in_at}
use Rattle.match_compile.proofs.Grouped.{all_are, Climbs, numbers_of, decisions_climb, rows_fewer, total, differ_names, OneName}
use Rattle.match_compile.proofs.Decided.{by_insert}
use Rattle.match_compile.proofs.RowPlaces.{Leaf, leaves}
use Rattle.match_compile.proofs.Sown.{Stood, Takes, takes_all}
use Rattle.match_compile.proofs.Placed.{WasRead}
use Rattle.match_compile.proofs.Composed.{params_length, no_primitive}
use Rattle.match_compile.proofs.Single.{HasFirst, all_under}
use Rattle.match_compile.proofs.Grounds as grounds
use Rattle.match_compile.proofs.Grounds.{first_decided}
use Rattle.match_compile.proofs.InTable.{EquationFits}
use Rattle.match_compile.proofs.Coded.{Codes}
use Rattle.match_compile.proofs.Chained.{Chained, LastTree, AndTree}
use Rattle.match_compile.proofs.Scoped.{zipped}
use Rattle.match_compile.proofs.Written.{IsBody, HasNormal}
use Rattle.match_compile.proofs.Rooted.{NextIs, NoNext, ANext, function_made}
use Rattle.match_compile.proofs.Tabled.{pair_get}

-- all trees of a function have as many parameters
pub decided_params : (n : ℕ) (d : Decision) (k : ℕ) (es : List Equation) → d.params ≡ n
    → AllOf (λ (e : Equation). count e.pats ≡ n) es
    → AllOf (λ (d : Decision). d.params ≡ n) (decided d k es)
decided_params n d k [] e h = (e, tt)
decided_params n d k (f ∷ es) e h =
    by_insert (AllOf (λ (d : Decision). d.params ≡ n)) d k f es
    (insert max_chained_cases d.tree d.free (row_of f))
    (λ t i. decided_params n (grown d t) (suc k) es e h.1)
    (e, decided_params n (begun k f) (suc k) es h.0 h.1)

numbers_low : (N : ℕ) (ds : List Decision) → AllOf (λ n. n < N) (numbers_of ds)
    → AllOf (λ (d : Decision). d.number < N) ds
numbers_low N [] h = tt
numbers_low N (d ∷ ds) h = (h.0, numbers_low N ds h.1)

-- the function of a name that no function before it has
found_from : (p : Program) (gs : List Function) (i j x : ℕ) (h : Function) → slice_get gs j ≡ Some h
    → h.name ≡ x → ((k : ℕ) (f : Function) → k < j → slice_get gs k ≡ Some f → f.name ≡ x → ⊥)
    → function_from p gs i x ≡ stands.Function (i + j) (length h.params)
found_from p [] i j x h e n o = absurd cc
found_from p (g ∷ gs) i zero x h e n o =
    let same : g ≡ h = some_is e in
    let z : i ≡ i + 0 = omega arith in
    ap (λ b. if b then stands.Function i (length g.params) else function_from p gs (i + 1) x)
    (eq_true g.name x (ap (λ (f : Function). f.name) same ∙ n)) ∙
    (λ t. stands.Function (z t) (length (same t).params))
found_from p (g ∷ gs) i (suc j) x h e n o =
    let next : i + 1 + j ≡ i + suc j = omega arith in
    ap (λ b. if b then stands.Function i (length g.params) else function_from p gs (i + 1) x)
    (eq_false g.name x (λ q. o 0 g (omega arith) refl q))
    ∙ found_from p gs (i + 1) j x h e n (λ k f lt q r. o (suc k) f (omega (arith, lt)) q r) ∙ ap
    (λ z. stands.Function z (length h.params)) next

module _ (c : Source) (unbroken : (k at : ℕ) → Broken c k at → ⊥) (read : WasRead c)
    (fits : AllOf (EquationFits (length c.names)) c.equations)
    (sound : check.BreaksNoRule (translated c)) (p : normal.Program)
    (matched : Pairwise (IsFunction (translated c)) (translated c).functions p.funs)
    (ok : AllOf (FunOk p) p.funs)
    (arity : ℕ → ℕ) (IsFun : ℕ → Type 0)
    (known : (x : ℕ) → x < length c.names → (g k : ℕ)
    → function_from (program_of_heads c) (program_of_heads c).functions 0 x ≡ stands.Function g
    k → IsFun g × (arity g ≡ k)) where
  abbrev out : Program
  out = translated c

  abbrev pub many : ℕ → ℕ
  many n = decides.fields_in (slice_get p.cons n)

  abbrev pub Body : Expr → List Binder → normal.Term → Type 0
  Body = IsBody c unbroken read arity many IsFun known

  abbrev pub Normal : Leaf → Type 0
  Normal = HasNormal c unbroken read arity many IsFun known

  -- functions for these trees of so many parameters, from function g on
  abbrev pub ChainFor : ℕ → List Decision → ℕ → Type 0
  ChainFor w ds g = Chained c Body arity many IsFun p w (zipped (numbers_from 0 w) 0 []) ds g

  record FunctionFor (d : Decision) (next : Option ℕ) (g : ℕ) : Type 0 where
    function : normal.Function
    is : slice_get p.funs g ≡ Some function
    codes : Codes c Body arity many IsFun d.params next (zipped (numbers_from 0 d.params) 0 [])
        d.params d.tree function.body
    leaves_are : AllOf Normal (leaves d.tree)

  function_for : (name g : ℕ) (d : Decision) → Stood c d → {next gnext : Option ℕ}
      → NextIs c d next gnext → slice_get out.functions g ≡ Some
      (function_of (name_supply_of c) name d next) → FunctionFor d gnext g
  function_for name g d st {next = next} is e =
      let f = pair_get (IsFunction out) out.functions p.funs g
      (function_of (name_supply_of c) name d next) matched e in
      let fine = all_get (FunOk p) p.funs g f.0 ok f.1 in
      let plain : (b : Binder) → In b (function_of (name_supply_of c) name d next).params
      → primitive_from out primitives b.name.0 ≡ stands.Unbound =
      λ b i.
      let at = in_at (function_of (name_supply_of c) name d next).params i in
      no_primitive c unbroken read d st primitives b.name.0
      (λ n q r h. sound 22 b.at (ReservedBinder at.0 n (OfFunction g e) at.1 r h)) in
      let made = function_made c unbroken read arity many IsFun known fits d st is plain f.2.body
      (grounds.term_fits p (λ x. x < f.0.params) f.0.body fine) in
      record { function = f.0; is = f.1; codes = made.codes; leaves_are = made.leaves_are }

  below : AllOf (λ (e : Equation). e.name < length c.names) c.equations
  below = all_are (EquationFits (length c.names)) (λ (e : Equation). e.name < length c.names)
      (λ e h. h.name) c.equations fits

  function_at : (g x : ℕ) (h : Function) → slice_get out.functions g ≡ Some h → h.name ≡ x
      → function_from out out.functions 0 x ≡ stands.Function g (length h.params)
  function_at g x h e n =
      let z : 0 + g ≡ g = omega arith in
      found_from out out.functions 0 g x h e n
      (λ k f lt q r. differ_names c unbroken below k g f h lt q e (n ∙ sym r)) ∙ ap
      (λ w. stands.Function w (length h.params)) z

  pub record ChainMade (d : Decision) (ds : List Decision) (g : ℕ) : Type 0 where
    pub chain : ChainFor d.params (d ∷ ds) g
    pub leaves_are : AllOf (λ (e : Decision). AllOf Normal (leaves e.tree)) (d ∷ ds)

  few_params : (g name : ℕ) (d : Decision) → Stood c d → (next : Option ℕ)
      → slice_get out.functions g ≡ Some (function_of (name_supply_of c) name d next)
      → d.params ≤ 12
  few_params g name d st next e = by (le_or_lt d.params 12)
    where
      long : length (function_of (name_supply_of c) name d next).params ≡ d.params
      long = params_length c unbroken read d st (is_called (name_supply_of c) d next)

      by : (d.params ≤ 12) ⊎ (12 < d.params) → d.params ≤ 12
      by (inl le) = le
      by (inr lt) = absurd
          (sound 33 d.at (TooManyParameters g e (subst (λ n. 12 < n) (sym long) lt)))

  few : (n : ℕ) → n ≤ 12 → nat_le n 12 ≡ true
  few n le = go (nat_le n 12) refl
    where
      go : (b : Bool) → nat_le n 12 ≡ b → b ≡ true
      go true e = refl
      go false e = let lt : 12 < n = grind (arith, nat_tests) in absurd (omega (arith, lt, le))

  chain_made : (ds : List Decision) (d : Decision) (name g : ℕ) → Stood c d → AllOf (Stood c) ds
      → AllOf (λ (e : Decision). e.params ≡ d.params) ds
      → AllOf (λ (e : Decision). e.number < length c.equations) ds
      → ((f : Function) → In f (each_of (name_supply_of c) ds) → In f out.functions)
      → slice_get out.functions g ≡ Some
      (function_of (name_supply_of c) name d (next_of (name_supply_of c) d ds))
      → ChainMade d ds g
  chain_made [] d name g st sts same low others e =
      let f = function_for name g d st NoNext e in
      record { chain = LastTree f.function f.is f.codes; leaves_are = (f.leaves_are, tt) }
  chain_made (e ∷ es) d name g st sts same low others is =
      let le : d.params ≤ 12 = few_params g name d st (next_of (name_supply_of c) d (e ∷ es)) is in
      let name' : ℕ = equation_name (name_supply_of c) e.number in
      let next : Option ℕ = next_of (name_supply_of c) e es in
      let h : Function = function_of (name_supply_of c) name' e next in
      let at = in_at out.functions (others h here) in
      let rest = chain_made es e name' at.0 sts.0 sts.1
      (all_are (λ (x : Decision). x.params ≡ d.params) (λ (x : Decision). x.params ≡ e.params)
      (λ x q. q ∙ sym same.0) es same.1) low.1 (λ f i. others f (there i)) at.1 in
      let found : function_from out out.functions 0 name' ≡ stands.Function at.0 d.params =
      function_at at.0 name' h at.1 refl ∙ ap (stands.Function at.0)
      (params_length c unbroken read e sts.0 (is_called (name_supply_of c) e next) ∙ same.0) in
      let is' : slice_get out.functions g ≡ Some
      (function_of (name_supply_of c) name d (Some name'))
      = is ∙ ap
      (λ b. Some (function_of (name_supply_of c) name d (if b then Some name' else None)))
      (few d.params le) in
      let f = function_for name g d st (ANext e.number refl low.0 found) is' in
      record {
        chain = AndTree at.0 f.function f.is f.codes
            (subst (λ w. ChainFor w (e ∷ es) at.0) same.0 rest.chain);
        leaves_are = (f.leaves_are, rest.leaves_are);
      }

  -- ---- each function of the text

  pub record FunctionMade (k i : ℕ) (e : Equation) (es : List Equation) : Type 0 where
    pub first : Decision
    pub rest : List Decision
    pub is : decisions_from k (rows (e ∷ es)) ≡ first ∷ rest
    pub chain : ChainFor (count e.pats) (first ∷ rest) i
    pub leaves_are : AllOf (λ (d : Decision). AllOf Normal (leaves d.tree)) (first ∷ rest)

  abbrev pub EachMade : List (List Equation) → (k i : ℕ) → Type 0
  EachMade [] k i = Unit {0}
  EachMade ([] ∷ fs) k i = ⊥
  EachMade ((e ∷ es) ∷ fs) k i = FunctionMade k i e es × EachMade fs (k + length (e ∷ es)) (suc i)

  one_made : (k i : ℕ) (e : Equation) (es : List Equation) → AllOf (λ e. In e c.equations) (e ∷ es)
      → OneName (e ∷ es) → k + length (e ∷ es) ≤ length c.equations
      → AllOf (Stood c) (decisions_from k (rows (e ∷ es)))
      → ((f : Function) → In f (others_of (name_supply_of c) (decisions_from k (rows (e ∷ es))))
      → In f out.functions) →
      ((j : ℕ) (f : Function) → slice_get
      (first_of (name_supply_of c) (decisions_from k (rows (e ∷ es)))) j ≡ Some f
      → slice_get out.functions (i + j) ≡ Some f) → FunctionMade k i e es
  one_made k i e es ins one le stood others firsts =
      let more : List Equation = cond (tests_of e.pats == 0) [] (rows es) in
      let f = first_decided (begun k e) (suc k) more in
      let takes = takes_all c unbroken e es ins one in
      let counts : AllOf (λ (g : Equation). count g.pats ≡ count e.pats) more
      = counted (tests_of e.pats == 0) (rows_counted es takes.1) in
      let params : AllOf (λ (d : Decision). d.params ≡ count e.pats) (f.first ∷ f.rest)
      = subst (AllOf (λ (d : Decision). d.params ≡ count e.pats)) f.is
      (decided_params (count e.pats) (begun k e) (suc k) more refl counts) in
      let climbs : AllOf (λ n. n < k + length (rows (e ∷ es))) (numbers_of (f.first ∷ f.rest))
      = all_under k (k + length (rows (e ∷ es))) (numbers_of (f.first ∷ f.rest))
      (subst (λ ds. Climbs k (k + length (rows (e ∷ es))) (numbers_of ds)) f.is
      (decisions_climb k (rows (e ∷ es)))) in
      let fewer = rows_fewer (e ∷ es) in
      let low = numbers_low (length c.equations) (f.first ∷ f.rest)
      (all_are (λ n. n < k + length (rows (e ∷ es))) (λ n. n < length c.equations)
      (λ n lt. omega (arith, lt, fewer, le)) (numbers_of (f.first ∷ f.rest)) climbs) in
      let stood' : AllOf (Stood c) (f.first ∷ f.rest) = subst (AllOf (Stood c)) f.is stood in
      let first = params.0 in
      let z : i + 0 ≡ i = omega arith in
      let head : function_of (name_supply_of c) f.first.name f.first
      (next_of (name_supply_of c) f.first f.rest) ∷ [] ≡ first_of (name_supply_of c)
      (decisions_from k (rows (e ∷ es))) = sym (ap (first_of (name_supply_of c)) f.is) in
      let at : slice_get out.functions i ≡ Some
      (function_of (name_supply_of c) f.first.name f.first
      (next_of (name_supply_of c) f.first f.rest)) =
      sym (ap (slice_get out.functions) z) ∙ firsts 0
      (function_of (name_supply_of c) f.first.name f.first
      (next_of (name_supply_of c) f.first f.rest)) (sym (ap (λ w. slice_get w 0) head)) in
      let made = chain_made f.rest f.first f.first.name i stood'.0 stood'.1
      (all_are (λ (d : Decision). d.params ≡ count e.pats)
      (λ (d : Decision). d.params ≡ f.first.params) (λ d q. q ∙ sym first) f.rest params.1)
      low.1
      (λ g j. others g (subst (λ ds. In g (others_of (name_supply_of c) ds)) (sym f.is) j)) at in
      record {
        first = f.first;
        rest = f.rest;
        is = f.is;
        chain
            = subst (λ w. ChainFor w (f.first ∷ f.rest) i) first made.chain;
        leaves_are
            = made.leaves_are;
      }
    where
      rows_counted : (es : List Equation) → AllOf (Takes c unbroken (count e.pats)) es
          → AllOf (λ (g : Equation). count g.pats ≡ count e.pats) (rows es)
      rows_counted [] h = tt
      rows_counted (g ∷ es) h = (h.0.1, by (tests_of g.pats == 0) (rows_counted es h.1))
        where
          by : (b : Bool) → AllOf (λ (g : Equation). count g.pats ≡ count e.pats) (rows es)
              → AllOf (λ (g : Equation). count g.pats ≡ count e.pats) (cond b [] (rows es))
          by true k = tt
          by false k = k

      counted : (b : Bool) → AllOf (λ (g : Equation). count g.pats ≡ count e.pats) (rows es)
          → AllOf (λ (g : Equation). count g.pats ≡ count e.pats) (cond b [] (rows es))
      counted true h = tt
      counted false h = h

  each_made : (fs : List (List Equation)) (k i : ℕ) → AllOf (AllOf (λ e. In e c.equations)) fs
      → AllOf OneName fs → AllOf HasFirst fs → k + total fs ≤ length c.equations
      → AllOf (AllOf (Stood c)) (all_decisions k fs)
      → ((f : Function) → In f (others (name_supply_of c) (all_decisions k fs))
      → In f out.functions) →
      ((j : ℕ) (f : Function) → slice_get (firsts (name_supply_of c) (all_decisions k fs)) j ≡
      Some f → slice_get out.functions (i + j) ≡ Some f) → EachMade fs k i
  each_made [] k i ins one some le stood later first = tt
  each_made ([] ∷ fs) k i ins one some le stood later first = absurd some.0
  each_made ((e ∷ es) ∷ fs) k i ins one some le stood later first =
      let ds : List Decision = decisions_from k (rows (e ∷ es)) in
      let rest : List (List Decision) = all_decisions (k + length (e ∷ es)) fs in
      let one_first = first_one ds
      (first_decided (begun k e) (suc k) (cond (tests_of e.pats == 0) [] (rows es))) in (
        one_made k i e es ins.0 one.0 (omega (arith, le)) stood.0
            (λ f j. later f
            (in_left (others_of (name_supply_of c) ds) (others (name_supply_of c) rest) j))
            (λ j f q. first j f
            (get_left (first_of (name_supply_of c) ds) (firsts (name_supply_of c) rest) j f q)),
        each_made fs (k + length (e ∷ es)) (suc i) ins.1 one.1 some.1 (omega (arith, le)) stood.1
            (λ f j. later f
            (in_right (others_of (name_supply_of c) ds) (others (name_supply_of c) rest) j))
            (λ j f q. let z : i + suc j ≡ suc i + j = omega arith
            in sym (ap (slice_get out.functions) z) ∙ first (suc j) f
            (one_first (firsts (name_supply_of c) rest) j f q)),
      )
    where
      -- one function stands before the others
      first_one : (ds : List Decision) {d : Decision} → grounds.FirstIs d ds
          → (gs : List Function) (j : ℕ) (f : Function) → slice_get gs j ≡ Some f
          → slice_get (first_of (name_supply_of c) ds ++ gs) (suc j) ≡ Some f
      first_one ds h gs j f q = subst
          (λ w. slice_get (first_of (name_supply_of c) w ++ gs) (suc j) ≡ Some f) (sym h.is) q

  pub all_functions_made : AllOf (AllOf (λ e. In e c.equations)) (functions c.equations)
      → AllOf OneName (functions c.equations) → AllOf HasFirst (functions c.equations)
      → total (functions c.equations) ≡ length c.equations → AllOf (AllOf (Stood c)) (decisions c)
      → EachMade (functions c.equations) 0 0
  all_functions_made ins one some size stood =
      let fs : List Function = firsts (name_supply_of c) (decisions c) in
      let gs : List Function = others (name_supply_of c) (decisions c) in
      each_made (functions c.equations) 0 0 ins one some (omega (arith, size)) stood
      (λ f i. in_right fs gs i)
      (λ j f q. let z : 0 + j ≡ j = omega arith
      in ap (slice_get (fs ++ gs)) z ∙ get_left fs gs j f q)
