-- Terms that decide between equations, and the functions that equations are served by.
use Rattle.std.specs.Prelude.{◌≡◌, ℕ, suc, ◌+◌, ◌<◌, ◌≤◌, ℤ, List, [], ◌∷◌, ◌++◌, map, Option, Some, None, slice_get}
use Rattle.std.specs.List.{range_with_len}
use Rattle.seq.specs.Lists.{AllOf, In}
use Rattle.arity_check.specs.declared.normal.Con as constructors
use Rattle.arity_check.specs.declared.normal.Flat.TheVariants as flat
use Rattle.arity_check.specs.declared.normal.Var.TheVariants as var
use Rattle.arity_check.specs.Program as normal
use Rattle.arity_check.specs.Program.{Term, App, Case, Branches, NoMore, OnCon, OnInt, OnAny}
use Rattle.core_meaning.specs.Heap.{Int, Con}
use Rattle.core_meaning.specs.Evaluation.{params, global, globals, nil, cons}
use Rattle.match_compile.specs.Form.{Form, Any, Is, Has, Forms, NoForms, AndForm, Row, Rows, Equations}
use Rattle.match_compile.specs.ByEquations.{without_bodies}
use Rattle.match_compile.specs.Jobs.{MatchTask, MatchAttempt, attempt, tasks_of, count, attempts_with_value}
use Rattle.match_compile.specs.Alike.{LocalPairs, LocalsCorrespond, TermAlike}

-- what a test accepts: an integer, or a constructor by its number
pub data TestKind : Type 0 where
  Integer : (number : ℤ) → TestKind
  Constructor : (con : ℕ) → TestKind

abbrev pub IsTest : Form → Type 0
IsTest Any = ⊥
IsTest (Is k) = Unit {0}
IsTest (Has c fs) = Unit {0}

abbrev pub IsTestOfKind : Form → TestKind → Type 0
IsTestOfKind Any h = ⊥
IsTestOfKind (Is k) h = h ≡ Integer k
IsTestOfKind (Has c fs) h = h ≡ Constructor c

-- forms before the first test bind their names
abbrev pub with_names_bound : Term → List ℕ → List MatchTask → MatchAttempt
with_names_bound body bound [] = attempt body bound []
with_names_bound body bound ((a, Any) ∷ js) = with_names_bound body (bound ++ a ∷ []) js
with_names_bound body bound ((a, Is k) ∷ js) = attempt body bound ((a, Is k) ∷ js)
with_names_bound body bound ((a, Has c fs) ∷ js) = attempt body bound ((a, Has c fs) ∷ js)

abbrev pub settled : MatchAttempt → MatchAttempt
settled r = with_names_bound r.body r.bound r.tasks

-- an equation on its way, its names being the locals of a function with so many parameters
abbrev pub way : ℕ → Row → MatchAttempt
way n g = attempt g.body [] (tasks_of (range_with_len 0 n) g.pats)

abbrev pub pending_attempts : ℕ → List Row → List MatchAttempt
pending_attempts n gs = map settled (map (way n) gs)

-- these are left over where a local has a value of none of these kinds
pub data AttemptsLeftOver (y : ℕ) (seen : List TestKind)
    : List MatchAttempt → List MatchAttempt → Type 0 where
  NoneLeft : AttemptsLeftOver y seen [] []
  Stays : {r : MatchAttempt} {rs left : List MatchAttempt} → AttemptsLeftOver y seen rs left
      → AttemptsLeftOver y seen (r ∷ rs) (r ∷ left)
  Goes : {r : MatchAttempt} {rs left : List MatchAttempt} (f : Form)
      (js : List MatchTask) (h : TestKind)
      → r.tasks ≡ (y, f) ∷ js → IsTestOfKind f h → In h seen → AttemptsLeftOver y seen rs left
      → AttemptsLeftOver y seen (r ∷ rs) left

module _ (many : ℕ → ℕ) where
  -- each constructor has forms for all of its fields
  abbrev mutual
    pub FormOk : Form → Type 0
    FormOk Any = Unit {0}
    FormOk (Is k) = Unit {0}
    FormOk (Has c fs) = (count fs ≡ many c) × FormsOk fs

    pub FormsOk : Forms → Type 0
    FormsOk NoForms = Unit {0}
    FormsOk (AndForm f fs) = FormOk f × FormsOk fs

module _ (arity many : ℕ → ℕ) (IsFun : ℕ → Type 0) where
  -- the function of so many parameters goes on with another one where no equation is left
  module _ (params : ℕ) (next : Option ℕ) where
    mutual
      -- a term decides between equations: by the body of the first one, where nothing of it is
      -- left, or by a case on the local that its first test is of. The locals from n on are free
      pub data Decides : (n : ℕ) → List MatchAttempt → Term → Type 0 where
        ByBody : {n : ℕ} {r : MatchAttempt} {rs : List MatchAttempt} {e : Term} (ps : LocalPairs)
            → r.tasks ≡ [] → ((x y : ℕ) → LocalsCorrespond ps x y → slice_get r.bound x ≡ Some y)
            → TermAlike arity many IsFun ps r.body e → Decides n (r ∷ rs) e
        ByCase : {n y : ℕ} {r : MatchAttempt} {rs : List MatchAttempt} {bs : Branches} (f : Form)
            (js : List MatchTask) → r.tasks ≡ (y, f) ∷ js → IsTest f → Chooses n y (r ∷ rs) [] bs
            → Decides n (r ∷ rs) (Case (App (flat.Apply (var.Local y) [])) bs)

      -- a branch decides between what equations become where its kind of value is there; what
      -- follows the branches decides between those that are left
      pub data Chooses : (n y : ℕ) → List MatchAttempt → List TestKind → Branches → Type 0 where
        OnConstructor : {n m y c : ℕ} {rs : List MatchAttempt} {seen : List TestKind} {xs : List ℕ}
            {e : Term} {bs : Branches} → n ≤ m → xs ≡ range_with_len m (many c)
            → Decides (m + many c) (map settled (attempts_with_value y (Con c xs) rs)) e
            → Chooses n y rs (Constructor c ∷ seen) bs → Chooses n y rs seen (OnCon c xs e bs)
        OnInteger : {n m y : ℕ} {k : ℤ} {rs : List MatchAttempt} {seen : List TestKind} {e : Term}
            {bs : Branches} → n ≤ m → Decides m (map settled (attempts_with_value y (Int k) rs)) e
            → Chooses n y rs (Integer k ∷ seen) bs → Chooses n y rs seen (OnInt k e bs)
        Others : {n m y : ℕ} {rs left : List MatchAttempt} {seen : List TestKind} {e : Term}
            {bs : Branches} → n ≤ m → AttemptsLeftOver y seen rs left → Decides m left e
            → Chooses n y rs seen (OnAny None e bs)
        OnNext : {n y g : ℕ} {rs : List MatchAttempt} {seen : List TestKind} {bs : Branches}
            → AttemptsLeftOver y seen rs [] → next ≡ Some g
            → Chooses n y rs seen
            (OnAny None (App (flat.Call g (map var.Local (range_with_len 0 params)))) bs)
        NoOther : {n y : ℕ} {rs : List MatchAttempt} {seen : List TestKind}
            → AttemptsLeftOver y seen rs []
            → next ≡ None → Chooses n y rs seen NoMore

  -- equations are served by function g, and what it leaves by so many more, one after the other
  pub data Serves (p : normal.Program) (params : ℕ) : (more : ℕ) → List Row → ℕ → Type 0 where
    ByOne : {g : ℕ} {gs : List Row} (f : normal.Function) → slice_get p.funs g ≡ Some f
        → Decides params None params (pending_attempts params gs) f.body → Serves p params 0 gs g
    ByMore : {more g : ℕ} {gs : List Row} (g' : ℕ) (here there : List Row) (f : normal.Function)
        → slice_get p.funs g ≡ Some f
        → Decides params (Some g') params (pending_attempts params here) f.body
        → Serves p params more there g' → gs ≡ here ++ there → Serves p params (suc more) gs g

abbrev pub fields_in : Option constructors.Con → ℕ
fields_in None = 0
fields_in (Some c) = c.fields

module _ (q : Equations) where
  abbrev pub fields : ℕ → ℕ
  fields c = fields_in (slice_get q.cons c)

  pub record IsFun (f : ℕ) : Type 0 where
    pub rows : Rows
    pub is : slice_get q.funs f ≡ Some rows

  -- each equation has as many patterns as the function has parameters, with all their fields
  pub record RowFits (width : ℕ) (g : Row) : Type 0 where
    pub many : count g.pats ≡ width
    pub forms : FormsOk fields g.pats

  -- the function is served by the one with its number, and by fewer others than so many
  pub record ServedBelow (most : ℕ) (p : normal.Program) (rows : Rows) (f : ℕ) : Type 0 where
    pub more : ℕ
    pub below : more < most
    pub serves : Serves (params (without_bodies q)) fields IsFun p rows.params more rows.rows f

  -- The functions of the equations are functions of the program with the same numbers, parameters
  -- and names in the heap. Each is served by its own function and fewer others than so many.
  pub record AreServed (most : ℕ) (p : normal.Program) : Type 0 where
    pub same_cons : p.cons ≡ q.cons
    pub main : p.main ≡ q.main
    pub heap : globals p p.funs 0 ≡ globals (without_bodies q) (without_bodies q).funs 0
    pub counts : (f : ℕ) → IsFun f → params p f ≡ params (without_bodies q) f
    pub names : (f : ℕ) → IsFun f → params (without_bodies q) f ≡ 0
        → global p f ≡ global (without_bodies q) f
    pub fits : (f : ℕ) (i : IsFun f) → AllOf (RowFits i.rows.params) i.rows.rows
    pub served : (f : ℕ) (i : IsFun f) → ServedBelow most p i.rows f
    pub begins : IsFun q.main
    pub few : params (without_bodies q) q.main ≤ 1
    pub no_fields : fields (nil (without_bodies q)) ≡ 0
    pub two_fields : fields (cons (without_bodies q)) ≡ 2
