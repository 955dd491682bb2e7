-- Functions that stand for the trees of a function's equations, one after the other, serve the
-- equations.
use Rattle.std.proofs.Common.{◌≡◌, ℕ, suc, ◌<◌, List, [], ◌∷◌, ◌++◌, map, length, Some, None, slice_get, refl, sym, ap, ◌∙◌, subst, arith, length-append}
use Rattle.seq.proofs.Lists.{append_nil, length_map}
use Rattle.core_reader.specs.declared.syntax.Binder.{Binder}
use Rattle.core_reader.specs.Tree.{Expr}
use Rattle.arity_check.specs.Program as normal
use Rattle.arity_check.specs.Normal.{Pairwise}
use Rattle.match_compile.specs.Source.{Equation, Source}
use Rattle.match_compile.specs.Trees as tree
use Rattle.match_compile.specs.Trees.{Tree, IsTree, OfBody, OfCase}
use Rattle.match_compile.specs.Form.{Row}
use Rattle.match_compile.specs.Decisions.{Decision, row_of, DecideAllEquations, NoneLeft, More}
use Rattle.match_compile.specs.Decides.{way, pending_attempts, settled, Decides, Serves, ByOne, ByMore}
use Rattle.match_compile.proofs.Rowed.{OneName}
use Rattle.match_compile.proofs.Coded.{Places, Stands, Codes, codes_decide}

pub record Parts {X Y : Type 0} (R : X → Y → Type 0) (xs ys : List X) (zs : List Y) : Type 0 where
  pub first : List Y
  pub rest : List Y
  pub is : zs ≡ first ++ rest
  pub first_are : Pairwise R xs first
  pub rest_are : Pairwise R ys rest

pub parts_of : {X Y : Type 0} (R : X → Y → Type 0) (xs ys : List X) (zs : List Y)
    → Pairwise R (xs ++ ys) zs → Parts R xs ys zs
parts_of R [] ys zs h = record { first = []; rest = zs; is = refl; first_are = tt; rest_are = h }
parts_of R (x ∷ xs) ys [] h = absurd h
parts_of R (x ∷ xs) ys (z ∷ zs) h =
    let p = parts_of R xs ys zs h.1 in
    record {
      first = z ∷ p.first;
      rest = p.rest;
      is = ap (λ w. z ∷ w) p.is;
      first_are
          = (h.0, p.first_are);
      rest_are = p.rest_are;
    }

nothing_more : {X Y : Type 0} (R : X → Y → Type 0) (zs : List Y) → Pairwise R [] zs → zs ≡ []
nothing_more R [] h = refl
nothing_more R (z ∷ zs) h = absurd h

-- a tree stands for some rows
some_rows : (rows : List tree.Row) (t : Tree) → IsTree rows t → 0 < length rows
some_rows rows t (OfBody e) = omega arith
some_rows rows t (OfCase a b c) = omega arith

some_equations : (es : List Equation) (t : Tree) → IsTree (map row_of es) t → 0 < length es
some_equations es t is = let lt = some_rows (map row_of es) t is in let l = length_map row_of es
    in omega (arith, lt, l)

module _ (c : Source) (B : Expr → List Binder → normal.Term → Type 0) (arity many : ℕ → ℕ)
    (IsFun : ℕ → Type 0) (p : normal.Program) (width : ℕ) (ctx : Places) where
  -- each function is for a tree, and goes on with the one for the next tree
  pub data Chained : List Decision → ℕ → Type 0 where
    LastTree : {d : Decision} {g : ℕ} (f : normal.Function) → slice_get p.funs g ≡ Some f
        → Codes c B arity many IsFun width None ctx width d.tree f.body → Chained (d ∷ []) g
    AndTree : {d e : Decision} {ds : List Decision} {g : ℕ} (g' : ℕ) (f : normal.Function)
        → slice_get p.funs g ≡ Some f → Codes c B arity many IsFun width (Some g') ctx width d.tree
        f.body → Chained (e ∷ ds) g' → Chained (d ∷ e ∷ ds) g

  -- an equation of the text and one in normal form
  abbrev pub RowFor : Equation → Row → Type 0
  RowFor e g = Stands c B arity many IsFun width None ctx (row_of e) (settled (way width g))

  pub record ServesFew (ds : List Decision) (most : ℕ) (gs : List Row) (g : ℕ) : Type 0 where
    pub more : ℕ
    pub trees : suc more ≡ length ds
    pub below : more < most
    pub serves : Serves arity many IsFun p width more gs g

  rows_for : (es : List Equation) (gs : List Row) → Pairwise RowFor es gs
      → Pairwise (Stands c B arity many IsFun width None ctx) (map row_of es)
      (pending_attempts width gs)
  rows_for [] [] h = tt
  rows_for [] (g ∷ gs) h = absurd h
  rows_for (e ∷ es) [] h = absurd h
  rows_for (e ∷ es) (g ∷ gs) h = (h.0, rows_for es gs h.1)

  none_stand : {k : ℕ} {es : List Equation} {ds : List Decision} → DecideAllEquations k es ds
      → ds ≡ [] → es ≡ []
  none_stand NoneLeft e = refl
  none_stand (More is rest) e = absurd cc

  module _ (one : OneName c B many) where
    pub chained_serves : {ds : List Decision} {g : ℕ} → Chained ds g → {k : ℕ} {es : List Equation}
        → DecideAllEquations k es ds → (gs : List Row) → Pairwise RowFor es gs
        → ServesFew ds (length es) gs g
    chained_serves {g = g} (LastTree {d = d} f found code) (More {es = es} {rest = rest} is others)
        gs h =
        let q = parts_of RowFor es rest gs h in
        let none : rest ≡ [] = none_stand others refl in
        let nothing : q.rest ≡ [] = nothing_more RowFor q.rest
        (subst (λ z. Pairwise RowFor z q.rest) none q.rest_are) in
        let same : q.first ≡ gs = sym (q.is ∙ ap (λ w. q.first ++ w) nothing ∙ append_nil q.first)
        in
        let dec : Decides arity many IsFun width None width (pending_attempts width q.first) f.body
        = codes_decide c B arity many IsFun width None one code is.tree
        (pending_attempts width q.first) (rows_for es q.first q.first_are) in
        let some = some_equations es d.tree is.tree in
        let l = length-append es rest in
        record {
          more = 0;
          trees = refl;
          below = omega (arith, some, l);
          serves
              = ByOne f found
              (subst (λ z. Decides arity many IsFun width None width (pending_attempts width z)
              f.body) same dec);
        }
    chained_serves {g = g} (AndTree {d = d} g' f found code chain)
        (More {es = es} {rest = rest} is others) gs h =
        let q = parts_of RowFor es rest gs h in
        let dec : Decides arity many IsFun width (Some g') width (pending_attempts width q.first)
        f.body = codes_decide c B arity many IsFun width (Some g') one code is.tree
        (pending_attempts width q.first) (rows_for es q.first q.first_are) in
        let s = chained_serves chain others q.rest q.rest_are in
        let some = some_equations es d.tree is.tree in
        let l = length-append es rest in
        let lt = s.below in
        record {
          more = suc s.more;
          trees = ap suc s.trees;
          below
              = omega (arith, some, l, lt);
          serves = ByMore g' q.first q.rest f found dec s.serves
              q.is;
        }
