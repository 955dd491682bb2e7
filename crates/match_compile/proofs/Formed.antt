-- The equations of a text have a normal form where the program that they become has one: the bodies
-- of the leaves give
-- those of the equations.
use Rattle.std.proofs.Common.{◌≡◌, ℕ, zero, suc, ◌+◌, ◌<◌, Bool, true, false, List, [], ◌∷◌, map, length, refl, sym, ap, subst, ◌∙◌, arith, Option, Some, None}
use Rattle.std.specs.Prelude.{◌==◌, slice_get, if◌then◌else◌}
use Rattle.std.specs.List.{range_with_len}
use Rattle.seq.specs.Lists.{AllOf, In}
use Rattle.seq.proofs.Lists.{some_is, length_map}
use Rattle.core_reader.specs.declared.syntax.Binder.{Binder}
use Rattle.core_reader.specs.Tree.{Function, Program}
use Rattle.arity_check.specs.declared.meaning.Meaning.TheVariants as stands
use Rattle.arity_check.specs.Accepted as check
use Rattle.arity_check.specs.Scope.{function_from, binds_all}
use Rattle.arity_check.specs.Program as normal
use Rattle.arity_check.specs.Normal.{Pairwise, IsNormal, IsNormalForm}
use Rattle.core_meaning.specs.WellFormed.{FunOk}
use Rattle.match_compile.specs.Source.{Equation, Source}
use Rattle.match_compile.specs.Parts.{count, names_of}
use Rattle.match_compile.specs.Rules.{Broken}
use Rattle.match_compile.specs.Sizes.{functions, rows}
use Rattle.match_compile.specs.Decisions.{Decision, decisions_from}
use Rattle.match_compile.specs.Translated.{translated}
use Rattle.match_compile.specs.Form.{Row, Rows, heads, program_of_heads, IsRow, AreRows}
use Rattle.match_compile.specs.Jobs as tries
use Rattle.match_compile.specs.Decides as decides
use Rattle.match_compile.proofs.Grouped.{all_are, all_in, all_of, rows_all, functions_all, OneName, functions_one}
use Rattle.match_compile.proofs.RowPlaces.{Leaf, leaves}
use Rattle.match_compile.proofs.Sown.{HasLeaf, Takes, takes_all, rows_leaves, declared, decisions_stood}
use Rattle.match_compile.proofs.Placed.{WasRead}
use Rattle.match_compile.proofs.Breaks.{functions_total}
use Rattle.match_compile.proofs.Single.{HasFirst, functions_first}
use Rattle.match_compile.proofs.Grounds.{as_many_long}
use Rattle.match_compile.proofs.InTable.{EquationFits}
use Rattle.match_compile.proofs.Tabled.{forms_made}
use Rattle.match_compile.proofs.Linked.{Normal, FunctionMade, EachMade, all_functions_made}

-- ---- functions by their names

function_is : (p : Program) (gs : List Function) (i x g k : ℕ)
    → function_from p gs i x ≡ stands.Function g k → (j : ℕ) × (h : Function) × (g ≡ i + j)
    × (slice_get gs j ≡ Some h) × (length h.params ≡ k)
function_is p [] i x g k e = absurd cc
function_is p (f ∷ gs) i x g k e = go (f.name == x) e (λ q. function_is p gs (i + 1) x g k q)
  where
    go : (b : Bool) →
        (if b then stands.Function i (length f.params) else function_from p gs (i + 1) x) ≡
        stands.Function g k
        → (function_from p gs (i + 1) x ≡ stands.Function g k → (j : ℕ) × (h : Function)
        × (g ≡ i + 1 + j) × (slice_get gs j ≡ Some h) × (length h.params ≡ k)) → (j : ℕ)
        × (h : Function) × (g ≡ i + j) × (slice_get (f ∷ gs) j ≡ Some h) × (length h.params ≡ k)
    go true q r =
        let a : i ≡ g = cc in
        let b : length f.params ≡ k = cc in
        (0, f, omega (arith, a), refl, b)
    go false q r = let w = r q in let a = w.2 in (suc w.0, w.1, omega (arith, a), w.3, w.4)

pub record IsHead (fs : List (List Equation)) (j k : ℕ) : Type 0 where
  pub first : Equation
  pub rest : List Equation
  pub is : slice_get fs j ≡ Some (first ∷ rest)
  pub params : count first.pats ≡ k

pub head_at : (fs : List (List Equation)) → AllOf HasFirst fs → (j : ℕ) (h : Function)
    → slice_get (heads fs) j ≡ Some h → IsHead fs j (length h.params)
head_at [] some j h e = absurd cc
head_at ([] ∷ fs) some j h e = absurd some.0
head_at ((e ∷ es) ∷ fs) some zero h i = record {
  first = e;
  rest = es;
  is = refl;
  params = sym
      (as_many_long (record { name = record { 0 = e.name }; at = e.at }) e.pats) ∙ ap
      (λ (f : Function). length f.params) (some_is i);
}
head_at ((e ∷ es) ∷ fs) some (suc j) h i = let r = head_at fs some.1 j h i
    in record { first = r.first; rest = r.rest; is = r.is; params = r.params }

-- the function of a name has equations
pub named_head : (c : Source) (x g k : ℕ) → function_from (program_of_heads c)
    (program_of_heads c).functions 0 x ≡ stands.Function g k → IsHead (functions c.equations) g k
named_head c x g k e =
    let r = function_is (program_of_heads c) (program_of_heads c).functions 0 x g k e in
    let z = r.2 in
    let same : r.0 ≡ g = omega (arith, z) in
    subst (λ w. IsHead (functions c.equations) g w) r.4
    (subst (λ w. IsHead (functions c.equations) w (length r.1.params)) same
    (head_at (functions c.equations) (functions_first c.equations) r.0 r.1 r.3))

abbrev params_in : Option Function → ℕ
params_in None = 0
params_in (Some f) = length f.params

-- ---- the rows of a function

abbrev pub RowOk : (ℕ → ℕ) → (width : ℕ) → Row → Type 0
RowOk many width g = (tries.count g.pats ≡ width) × decides.FormsOk many g.pats

pub record FunctionRows (c : Source) (many : ℕ → ℕ) (es : List Equation) (r : Rows) : Type 0 where
  pub are : AreRows c es r
  pub fine : AllOf (RowOk many r.params) r.rows

pub record AllRows (c : Source) (many : ℕ → ℕ) (fs : List (List Equation)) : Type 0 where
  pub funs : List Rows
  pub are : Pairwise (FunctionRows c many) fs funs

module _ (c : Source) (unbroken : (k at : ℕ) → Broken c k at → ⊥) (read : WasRead c)
    (fits : AllOf (EquationFits (length c.names)) c.equations)
    (sound : check.BreaksNoRule (translated c)) (p : normal.Program)
    (nf : IsNormalForm (translated c) p) (ok : AllOf (FunOk p) p.funs) where
  abbrev text : Program
  text = program_of_heads c

  abbrev many : ℕ → ℕ
  many n = decides.fields_in (slice_get p.cons n)

  -- functions of the text, and whether they are so
  module _ (arity : ℕ → ℕ) (IsFun : ℕ → Type 0)
      (known : (x : ℕ) → x < length c.names → (g k : ℕ)
      → function_from (program_of_heads c) (program_of_heads c).functions 0 x ≡ stands.Function g k
      → IsFun g × (arity g ≡ k)) where
    pub each_function : EachMade c unbroken read fits sound p nf.funs ok arity IsFun known
        (functions c.equations) 0 0
    each_function =
        all_functions_made c unbroken read fits sound p nf.funs ok arity IsFun known
        (functions_all (λ e. In e c.equations) c.equations (all_in c.equations))
        (functions_one c.equations) (functions_first c.equations) (functions_total c.equations)
        (decisions_stood c unbroken)

  arity : ℕ → ℕ
  arity g = params_in (slice_get text.functions g)

  any : ℕ → Type 0
  any g = Unit {0}

  known : (x : ℕ) → x < length c.names → (g k : ℕ) → function_from text text.functions 0 x ≡
      stands.Function g k → any g × (arity g ≡ k)
  unfolding arity any
  known x lt g k e =
      let r = function_is text text.functions 0 x g k e in
      let z = r.2 in
      let same : g ≡ r.0 = omega (arith, z) in
      (tt, ap (λ w. params_in (slice_get text.functions w)) same ∙ ap params_in r.3 ∙ r.4)

  abbrev HasForm : Leaf → Type 0
  HasForm = Normal c unbroken read fits sound p nf.funs ok arity any known

  abbrev Made : (k i : ℕ) → Equation → List Equation → Type 0
  Made = FunctionMade c unbroken read fits sound p nf.funs ok arity any known

  abbrev Each : List (List Equation) → (k i : ℕ) → Type 0
  Each = EachMade c unbroken read fits sound p nf.funs ok arity any known

  record RowFor (e : Equation) : Type 0 where
    row : Row
    is : IsRow c e row
    fine : RowOk many (count e.pats) row

  row_for : (e : Equation) → In e c.equations → HasForm (e.body, names_of e.pats) → RowFor e
  row_for e i n =
      let fs = forms_made c p.cons nf.cons e.pats (λ b j. declared c unbroken i b.0 b.1 j) in
      let names : List ℕ = map (λ (b : Binder). b.name.0) (names_of e.pats) in
      let long : length names ≡ length (names_of e.pats)
      = length_map (λ (b : Binder). b.name.0) (names_of e.pats) in
      record {
        row = record { pats = fs.forms; body = n.term };
        is = record {
          pats = fs.are;
          after = n.is.0;
          body = subst
              (λ l. IsNormal text (binds_all text names (range_with_len 0 l) [])
              (length (names_of e.pats)) e.body n.term n.is.0) long n.is.1;
        };
        fine = (fs.count_is, fs.ok);
      }

  record SomeRows (width : ℕ) (es : List Equation) : Type 0 where
    rows : List Row
    are : Pairwise (IsRow c) es rows
    fine : AllOf (RowOk many width) rows

  some_rows : (width : ℕ) (es : List Equation) → AllOf (λ e. In e c.equations) es
      → AllOf (λ (e : Equation). count e.pats ≡ width) es
      → AllOf (λ (e : Equation). HasForm (e.body, names_of e.pats)) es → SomeRows width es
  some_rows width [] i w n = record { rows = []; are = tt; fine = tt }
  some_rows width (e ∷ es) i w n =
      let r = row_for e i.0 n.0 in
      let rs = some_rows width es i.1 w.1 n.1 in
      record {
        rows = r.row ∷ rs.rows;
        are = (r.is, rs.are);
        fine
            = ((r.fine.0 ∙ w.0, r.fine.1), rs.fine);
      }

  record OneFunction (es : List Equation) : Type 0 where
    function : Rows
    are : FunctionRows c many es function

  function_rows : (k i : ℕ) (e : Equation) (es : List Equation)
      → AllOf (λ e. In e c.equations) (e ∷ es) → OneName (e ∷ es) → Made k i e es
      → OneFunction (e ∷ es)
  function_rows k i e es ins one made =
      let ds : List Decision = decisions_from k (rows (e ∷ es)) in
      let leaves_are : AllOf (λ (d : Decision). AllOf HasForm (leaves d.tree)) ds
      = subst (AllOf (λ (d : Decision). AllOf HasForm (leaves d.tree))) (sym made.is)
      made.leaves_are in
      let takes = takes_all c unbroken e es ins one in
      let forms : AllOf (λ (f : Equation). HasForm (f.body, names_of f.pats)) (rows (e ∷ es)) =
      all_are (λ (f : Equation). HasLeaf c ds (f.body, names_of f.pats))
      (λ (f : Equation). HasForm (f.body, names_of f.pats))
      (λ f h. all_of HasForm (leaves h.decision.tree)
      (all_of (λ (d : Decision). AllOf HasForm (leaves d.tree)) ds leaves_are h.is_in) h.leaf)
      (rows (e ∷ es)) (rows_leaves c unbroken k (e ∷ es) ins one) in
      let counts : AllOf (λ (f : Equation). count f.pats ≡ count e.pats) (rows (e ∷ es)) =
      all_are (Takes c unbroken (count e.pats)) (λ (f : Equation). count f.pats ≡ count e.pats)
      (λ f h. h.1) (rows (e ∷ es)) (rows_all (Takes c unbroken (count e.pats)) (e ∷ es) takes)
      in
      let rs = some_rows (count e.pats) (rows (e ∷ es))
      (rows_all (λ e. In e c.equations) (e ∷ es) ins) counts forms in
      let name = read.names e ins.0 in
      record {
        function = record { name = name.0; params = count e.pats; rows = rs.rows };
        are = record { are = record { head = (name.1, refl); rows = rs.are }; fine = rs.fine };
      }

  all_rows : (fs : List (List Equation)) (k i : ℕ) → AllOf (AllOf (λ e. In e c.equations)) fs
      → AllOf OneName fs → Each fs k i → AllRows c many fs
  all_rows [] k i ins one made = record { funs = []; are = tt }
  all_rows ([] ∷ fs) k i ins one made = absurd made
  all_rows ((e ∷ es) ∷ fs) k i ins one made =
      let f = function_rows k i e es ins.0 one.0 made.0 in
      let fs = all_rows fs (k + length (e ∷ es)) (suc i) ins.1 one.1 made.1 in
      record { funs = f.function ∷ fs.funs; are = (f.are, fs.are) }

  pub text_rows : AllRows c many (functions c.equations)
  text_rows = all_rows (functions c.equations) 0 0
      (functions_all (λ e. In e c.equations) c.equations (all_in c.equations))
      (functions_one c.equations) (each_function arity any known)
