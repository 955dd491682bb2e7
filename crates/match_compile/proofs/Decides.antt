-- The loops that make the trees of functions.
use Rattle.std.proofs.Common.{◌≡◌, ℕ, suc, ◌+◌, ◌<◌, Bool, true, false, cond, List, [], ◌∷◌, ◌++◌, map, reverse, length, drop, get_or, refl, sym, ap, ◌∙◌, append_assoc, arith, Option, Some, None}
use Rattle.std.specs.Prelude.{◌==◌, if◌then◌else◌}
use Rattle.std.proofs.lemmas.List.{drop_more, reverse-append, length-map, length-reverse, map-append}
use Rattle.core_reader.specs.Tree.{Expr}
use Rattle.match_compile.specs.declared.source.Pat as code-pat
use Rattle.match_compile.specs.declared.decide.Clause.{Clause}
use Rattle.match_compile.specs.declared.decide.Decision as code
use Rattle.match_compile.specs.declared.decide.InsertionOutcome.{InsertionOutcome}
use Rattle.match_compile.specs.Source.{Equation}
use Rattle.match_compile.specs.SourceOf.{pat_of, pats_of}
use Rattle.match_compile.specs.Parts.{count, tests_in, tests_of}
use Rattle.match_compile.specs.Sizes.{joined, functions, rows}
use Rattle.match_compile.specs.Trees.{Row, Tree, insert, max_chained_cases, alone_from}
use Rattle.match_compile.specs.Decisions.{Decision, row_of, begun, grown, decided, decisions_from, all_decisions}
use Rattle.match_compile.specs.TreeOf.{insertion_result}
use Rattle.match_compile.specs.DecisionOf.{goes_before, clause_of, clauses_of, functions_of, decision_of, decisions_of, left_clause, with_body, insertion_outcome, taken_by, decision_or_left}

-- ---- names alone

abbrev pub all_tests : List code-pat.Pat → ℕ
all_tests ps = tests_of (pats_of (map pat_of ps))

pub first_pat : (ps : List code-pat.Pat) (i : ℕ) (p : code-pat.Pat) → i < length ps
    → p ≡ get_or ps i p → all_tests (drop i ps) ≡ tests_in (pat_of p) + all_tests (drop (i + 1) ps)
first_pat ps i p l is = ap all_tests (drop_more ps i p l ∙ ap (λ y. y ∷ drop (i + 1) ps) (sym is))

pub next_name : (ps : List code-pat.Pat) (i : ℕ) (p : code-pat.Pat) (all : ℕ) → i < length ps
    → p ≡ get_or ps i p → tests_in (pat_of p) ≡ 0 → all_tests (drop i ps) ≡ all
    → all_tests (drop (i + 1) ps) ≡ all
next_name ps i p all l is none e = let f = first_pat ps i p l is in omega (arith, f, none, e)

pub some_test : (ps : List code-pat.Pat) (i : ℕ) (p : code-pat.Pat) (n all : ℕ) → i < length ps
    → p ≡ get_or ps i p → tests_in (pat_of p) ≡ suc n → all_tests (drop i ps) ≡ all → (m : ℕ)
    × (all ≡ suc m)
some_test ps i p n all l is some e = let f = first_pat ps i p l is
    in (n + all_tests (drop (i + 1) ps), omega (arith, f, some, e))

pub count_is : (ps : List code-pat.Pat) → count (pats_of (map pat_of ps)) ≡ length ps
count_is [] = refl
count_is (p ∷ ps) = ap suc (count_is ps)

-- ---- an equation that comes to a tree

abbrev came : Decision → Equation → (Tree × ℕ) × Option Expr → Decision × Option Equation
came d e g = (grown d g.0, with_body e.name e.at e.pats g.1)

came_outcome : (d : Decision) (e : Equation) (o : Option (Tree × ℕ))
    → came d e (insertion_result (d.tree, d.free) e.body o) ≡ taken_by d e o
came_outcome d e None = refl
came_outcome d e (Some t) = refl

pub came_is : (d : Decision) (e : Equation) (g : (Tree × ℕ) × Option Expr)
    → g ≡ insertion_result (d.tree, d.free) e.body
    (insert max_chained_cases d.tree d.free (row_of e)) → came d e g ≡ decision_or_left d e
came_is d e g f = ap (came d e) f ∙ came_outcome d e
    (insert max_chained_cases d.tree d.free (row_of e))

pub planted_is : (k : ℕ) (e : Equation) (n m : ℕ) (t : Tree) (way : Expr → Row) → n ≡ count e.pats
    → way e.body ≡ row_of e → (t, m) ≡ alone_from n (way e.body)
    → ◌≡◌ {A = Decision}
    (record { name = e.name; at = e.at; number = k; params = n; tree = t; free = m }) (begun k e)
planted_is k e n m t way is f g =
    let whole : (t, m) ≡ alone_from (count e.pats) (row_of e) = g ∙ (λ i. alone_from (is i) (f i))
    in
    λ i. record {
      name = e.name;
      at = e.at;
      number = k;
      params = is i;
      tree = (whole i).0;
      free
          = (whole i).1;
    }

-- ---- the equations of one function

abbrev pub open_rows : Bool → List Clause → List Equation
open_rows is_last cs = cond is_last [] (rows (clauses_of cs))

pub clauses_more : (cs : List Clause) (c : Clause) → clauses_of (cs ++ c ∷ []) ≡ clause_of c ∷
    clauses_of cs
clauses_more cs c = ap (map clause_of) (reverse-append cs (c ∷ []))

if_is : {X : Type 0} (b : Bool) (x y : X) → (if b then x else y) ≡ cond b x y
if_is true x y = refl
if_is false x y = refl

rows_first : (cs : List Clause) (c : Clause) (b : Bool) → b ≡ (tests_of (clause_of c).pats == 0)
    → rows (clause_of c ∷ clauses_of cs) ≡ clause_of c ∷ open_rows b cs
rows_first cs c b e = ap (λ es. clause_of c ∷ es)
    (if_is (tests_of (clause_of c).pats == 0) [] (rows (clauses_of cs)) ∙ ap
    (λ b. cond b [] (rows (clauses_of cs))) (sym e))

-- the first equation begins a tree
pub begins : (k : ℕ) (all cs : List Clause) (c : Clause) (b : Bool) (d : code.Decision) → all ≡ cs
    ++ c ∷ [] → b ≡ (tests_of (clause_of c).pats == 0) → decision_of d ≡ begun k (clause_of c)
    → decided (decision_of d) (suc k) (open_rows b cs) ≡ decisions_from k (rows (clauses_of all))
begins k all cs c b d is e f =
    ap (λ d. decided d (suc k) (open_rows b cs)) f
    ∙ sym (ap (λ es. decisions_from k (rows es)) (ap clauses_of is ∙ clauses_more cs c) ∙ ap
    (decisions_from k) (rows_first cs c b e))

abbrev goes_on : Decision × Option Equation → ℕ → List Equation → List Decision
goes_on (d, None) k es = decided d (suc k) es
goes_on (d, Some e) k es = d ∷ decided (begun k e) (suc k) es

decided_by : (d : Decision) (k : ℕ) (e : Equation) (es : List Equation) (o : Option (Tree × ℕ))
    → ◌≡◌ {A = List Decision}
    (elim o [ Some t ↦ decided (grown d t) (suc k) es | None ↦ d ∷ decided (begun k e) (suc k) es ])
    (goes_on (taken_by d e o) k es)
decided_by d k e es None = refl
decided_by d k e es (Some t) = refl

one_comes : (k : ℕ) (d : Decision) (all cs : List Clause) (c : Clause) (b : Bool)
    (g : Decision × Option Equation) → all ≡ cs ++ c ∷ [] → b ≡ (tests_of (clause_of c).pats == 0)
    → g ≡ decision_or_left d (clause_of c) → goes_on g k (open_rows b cs) ≡ decided d k
    (rows (clauses_of all))
one_comes k d all cs c b g is e f =
    ap (λ g. goes_on g k (open_rows b cs)) f
    ∙ sym (ap (λ es. decided d k (rows es)) (ap clauses_of is ∙ clauses_more cs c)
    ∙ ap (decided d k) (rows_first cs c b e)
    ∙ decided_by d k (clause_of c) (open_rows b cs)
    (insert max_chained_cases d.tree d.free (row_of (clause_of c))))

module _ (whole : List Decision) (made : List code.Decision) (d : code.Decision) (k : ℕ)
    (all : List Clause) where
  abbrev pub Made : Bool → Type 0
  Made is_last = decisions_of made ++ decided (decision_of d) (suc k) (open_rows is_last all) ≡
      whole

  -- a tree takes the next equation
  pub takes_one : (cs : List Clause) (c : Clause) (b : Bool) (g : InsertionOutcome) → Made false
      → all ≡ cs ++ c ∷ [] → b ≡ (tests_of (clause_of c).pats == 0)
      → insertion_outcome g ≡ decision_or_left (decision_of d) (clause_of c) → g.left ≡ None
      → decisions_of made ++ decided (decision_of g.decision) (suc (suc k)) (open_rows b cs) ≡ whole
  takes_one cs c b g h is e f none =
      ap (λ o. decisions_of made ++ goes_on (decision_of g.decision, left_clause o) (suc k)
      (open_rows b cs)) (sym none)
      ∙ ap (λ es. decisions_of made ++ es)
      (one_comes (suc k) (decision_of d) all cs c b (insertion_outcome g) is e f) ∙ h

  -- or leaves it, and it begins another one
  pub leaves_one : (cs : List Clause) (c x : Clause) (b : Bool) (g : InsertionOutcome)
      (more : List code.Decision) (next : code.Decision) → Made false → all ≡ cs ++ c ∷ []
      → b ≡ (tests_of (clause_of c).pats == 0) → insertion_outcome g ≡ decision_or_left
      (decision_of d) (clause_of c) → g.left ≡ Some x
      → more ≡ made ++ g.decision ∷ [] → decision_of next ≡ begun (suc k) (clause_of x)
      → decisions_of more ++ decided (decision_of next) (suc (suc k)) (open_rows b cs) ≡ whole
  leaves_one cs c x b g more next h is e f some put n =
      (λ i. decisions_of (put i) ++ decided (n i) (suc (suc k)) (open_rows b cs))
      ∙ ap (λ ds. ds ++ decided (begun (suc k) (clause_of x)) (suc (suc k)) (open_rows b cs))
      (map-append decision_of made (g.decision ∷ []))
      ∙ append_assoc (decisions_of made) (decision_of g.decision ∷ [])
      (decided (begun (suc k) (clause_of x)) (suc (suc k)) (open_rows b cs))
      ∙ ap (λ o. decisions_of made ++ goes_on (decision_of g.decision, left_clause o) (suc k)
      (open_rows b cs)) (sym some)
      ∙ ap (λ es. decisions_of made ++ es)
      (one_comes (suc k) (decision_of d) all cs c b (insertion_outcome g) is e f) ∙ h

  -- no equation is left
  pub last_one : (more : List code.Decision) (b : Bool) → Made b → open_rows b all ≡ []
      → more ≡ made ++ d ∷ [] → decisions_of more ≡ whole
  last_one more b h none put =
      ap decisions_of put ∙ map-append decision_of made (d ∷ [])
      ∙ sym (ap (λ es. decisions_of made ++ decided (decision_of d) (suc k) es) none) ∙ h

pub none_open : (b : Bool) (cs : List Clause) → cs ≡ [] → open_rows b cs ≡ []
none_open true cs e = refl
none_open false cs e = ap (λ cs. rows (clauses_of cs)) e

-- ---- the equations of each function

abbrev pub joined_all : List Equation → List (List Equation) → List (List Equation)
joined_all [] fs = fs
joined_all (e ∷ es) fs = joined e (joined_all es fs)

pub functions_are : (es : List Equation) → joined_all es [] ≡ functions es
functions_are [] = refl
functions_are (e ∷ es) = ap (joined e) (functions_are es)

pub joined_last : (es : List Equation) (e : Equation) (fs : List (List Equation))
    → joined_all (es ++ e ∷ []) fs ≡ joined_all es (joined e fs)
joined_last [] e fs = refl
joined_last (d ∷ es) e fs = ap (joined d) (joined_last es e fs)

pub joined_is : (e : Equation) (f : List Equation) (fs : List (List Equation))
    → joined e (f ∷ fs) ≡ cond (goes_before f e.name) ((e ∷ f) ∷ fs) ((e ∷ []) ∷ (f ∷ fs))
joined_is e [] fs = refl
joined_is e (f ∷ f') fs = if_is (e.name == f.name) ((e ∷ (f ∷ f')) ∷ fs)
    ((e ∷ []) ∷ ((f ∷ f') ∷ fs))

pub functions_more : (fs : List (List Clause)) (f : List Clause)
    → functions_of (fs ++ f ∷ []) ≡ clauses_of f ∷ functions_of fs
functions_more fs f = ap (map clauses_of) (reverse-append fs (f ∷ []))

module _ (e : Equation) where
  -- the first function takes an equation, or none is there, or it begins one
  pub takes_first : (fs rest : List (List Clause)) (f : List Clause) → fs ≡ rest ++ f ∷ []
      → goes_before (clauses_of f) e.name ≡ true → (e ∷ clauses_of f) ∷ functions_of rest ≡ joined e
      (functions_of fs)
  takes_first fs rest f is b =
      sym (ap (λ fs. joined e (functions_of fs)) is ∙ ap (joined e) (functions_more rest f) ∙
      joined_is e (clauses_of f) (functions_of rest)
      ∙ ap (λ b. cond b ((e ∷ clauses_of f) ∷ functions_of rest)
      ((e ∷ []) ∷ (clauses_of f ∷ functions_of rest))) b)

  pub takes_none : (fs : List (List Clause)) → fs ≡ []
      → (e ∷ []) ∷ functions_of [] ≡ joined e (functions_of fs)
  takes_none fs is = sym (ap (λ fs. joined e (functions_of fs)) is)

  pub begins_function : (fs rest more : List (List Clause)) (f : List Clause) → fs ≡ rest ++ f ∷ []
      → goes_before (clauses_of f) e.name ≡ false → more ≡ rest ++ f ∷ []
      → (e ∷ []) ∷ functions_of more ≡ joined e (functions_of fs)
  begins_function fs rest more f is b put =
      ap (λ fs. (e ∷ []) ∷ functions_of fs) put ∙ ap (λ fs. (e ∷ []) ∷ fs) (functions_more rest f)
      ∙ sym (ap (λ fs. joined e (functions_of fs)) is ∙ ap (joined e) (functions_more rest f) ∙
      joined_is e (clauses_of f) (functions_of rest)
      ∙ ap (λ b. cond b ((e ∷ clauses_of f) ∷ functions_of rest)
      ((e ∷ []) ∷ (clauses_of f ∷ functions_of rest))) b)

pub first_clause : (cs : List Clause) (c : Clause) (x : ℕ)
    → goes_before (clauses_of (cs ++ c ∷ [])) x ≡ (x == c.name.0)
first_clause cs c x = ap (λ es. goes_before es x) (clauses_more cs c)

-- one more equation comes to the functions behind it
pub comes_first : (cs left : List Clause) (c : Clause) (made less more : List (List Clause))
    (f f' : List Clause) → cs ≡ left ++ c ∷ [] → (clause_of c ∷ clauses_of f) ∷ functions_of less ≡
    joined (clause_of c) (functions_of made) → f' ≡ f ++ c ∷ [] → more ≡ less ++ f' ∷ []
    → joined_all (map clause_of left) (functions_of more) ≡ joined_all (map clause_of cs)
    (functions_of made)
comes_first cs left c made less more f f' is e put put' =
    ap (λ fs. joined_all (map clause_of left) (functions_of fs)) put'
    ∙ ap (joined_all (map clause_of left))
    (functions_more less f' ∙ ap (λ f. clauses_of f ∷ functions_of less) put ∙ ap
    (λ f. f ∷ functions_of less) (clauses_more f c) ∙ e)
    ∙ sym (ap (λ cs. joined_all cs (functions_of made))
    (ap (map clause_of) is ∙ map-append clause_of left (c ∷ [])) ∙ joined_last
    (map clause_of left) (clause_of c) (functions_of made))

pub all_joined : (cs : List Clause) (made : List (List Clause)) (whole : List Clause) → cs ≡ []
    → joined_all (map clause_of cs) (functions_of made) ≡ joined_all (map clause_of whole) []
    → functions_of made ≡ functions (map clause_of whole)
all_joined cs made whole is h = sym
    (ap (λ cs. joined_all (map clause_of cs) (functions_of made)) is) ∙ h ∙ functions_are
    (map clause_of whole)

clauses_length : (cs : List Clause) → length (clauses_of cs) ≡ length cs
clauses_length cs = length-map (reverse cs) clause_of ∙ length-reverse cs

-- one more function is decided
pub one_function : (made more : List (List code.Decision)) (ds : List code.Decision) (k n m : ℕ)
    (all rest : List (List Clause)) (f : List Clause) (whole : List (List Decision))
    → map decisions_of made ++ all_decisions k (functions_of all) ≡ whole → all ≡ rest ++ f ∷ []
    → decisions_of ds ≡ decisions_from k (rows (clauses_of f)) → more ≡ made ++ ds ∷ []
    → n ≡ length f → m ≡ k + n
    → map decisions_of more ++ all_decisions m (functions_of rest) ≡ whole
one_function made more ds k n m all rest f whole h is e put count sum =
    ap (λ ds. map decisions_of ds ++ all_decisions m (functions_of rest)) put
    ∙ ap (λ ds. ds ++ all_decisions m (functions_of rest)) (map-append decisions_of made (ds ∷ []))
    ∙ append_assoc (map decisions_of made) (decisions_of ds ∷ [])
    (all_decisions m (functions_of rest))
    ∙ (λ i. map decisions_of made ++ (e i ∷ all_decisions (next i) (functions_of rest)))
    ∙ ap (λ fs. map decisions_of made ++ all_decisions k fs)
    (sym (ap functions_of is ∙ functions_more rest f))
    ∙ h
  where
    next : m ≡ k + length (clauses_of f)
    next = sum ∙ ap (λ n. k + n) (count ∙ sym (clauses_length f))
