-- The program that equations become is no larger than they are, with 16 for each test.
use Rattle.std.proofs.Common.{◌≡◌, ℕ, suc, ◌+◌, ◌*◌, ◌≤◌, Bool, true, false, List, [], ◌∷◌, ◌++◌, map, length, refl, sym, ap, subst, ◌∙◌, arith, Option, Some, None}
use Rattle.std.specs.Prelude.{◌==◌, nat_le, if◌then◌else◌, sum_by}
use Rattle.std.proofs.lemmas.List.Sums.{sum_by-cons, sum_by-append}
use Rattle.std.proofs.lemmas.Bool.Decides.{nat_tests}
use Rattle.seq.specs.Lists.{numbers_from}
use Rattle.seq.proofs.Counted.{length_numbers}
use Rattle.core_reader.specs.declared.syntax.Binder.{Binder}
use Rattle.core_reader.specs.Tree.{Term, Terms, NoTerms, AndTerm, Bind, Expr, App, Let, Alts, NoAlts, AndAlt, Function}
use Rattle.core_reader.specs.Tree as core
use Rattle.core_reader.specs.Size.{term_size, terms_size, bind_size, pattern_size, expr_size, alts_size, function_size}
use Rattle.arity_check.specs.Scope.{Scope}
use Rattle.arity_check.specs.Pieces.{binders_of, bound_by}
use Rattle.match_compile.specs.Source.{Equation, Source}
use Rattle.match_compile.specs.Parts.{tests_of}
use Rattle.match_compile.specs.Heads.{Head, Integer, Constructor}
use Rattle.match_compile.specs.Sizes.{equation_size, source_size, tests, joined, functions, rows}
use Rattle.match_compile.specs.Trees.{Tree, Body, Case, Branches, NoBranch, AndBranch, Default, NoDefault, ATree}
use Rattle.match_compile.specs.Decisions.{Decision, all_decisions, decisions}
use Rattle.match_compile.specs.Renamed.{renamed_name, shadowing, renamed_term, renamed_terms, renamed_bind, renamed_expr, renamed_alts}
use Rattle.match_compile.specs.Translated.{taken, binder, with_fields, binders, pattern_of, expr_of, alts_of, default_of, with_params, arguments, call, is_called, function_of, equation_name, next_of, first_of, each_of, others_of, firsts, others, Words, name_supply_of}
use Rattle.match_compile.specs.Laws.{SizeIsBounded}
use Rattle.match_compile.proofs.Weights.{weight, branches_weight, default_weight, cost, costs, whole, wholes, decisions_cost}

-- ---- renaming keeps sizes

mutual
  term_same : (s : Scope) (t : Term) → term_size (renamed_term s t) ≡ term_size t
  term_same s (core.Name x at) = refl
  term_same s (core.Con c at) = refl
  term_same s (core.Int k at) = refl
  term_same s (core.Bracket f xs at) = λ i. term_same s f i + terms_same s xs i

  terms_same : (s : Scope) (ts : Terms) → terms_size (renamed_terms s ts) ≡ terms_size ts
  terms_same s NoTerms = refl
  terms_same s (AndTerm t ts) = λ i. term_same s t i + terms_same s ts i

group_same : (s : Scope) (group : List Bind) → sum_by bind_size (map (renamed_bind s) group) ≡
    sum_by bind_size group
group_same s [] = refl
group_same s (b ∷ bs) =
    omega (
      arith,
      sum_by-cons bind_size (renamed_bind s b) (map (renamed_bind s) bs),
      sum_by-cons bind_size b bs,
      group_same s bs,
      term_same s b.app.head,
      terms_same s b.app.args,
    )

mutual
  expr_same : (s : Scope) (e : Expr) → expr_size (renamed_expr s e) ≡ expr_size e
  expr_same s (App a) = λ i. term_same s a.head i + terms_same s a.args i
  expr_same s (Let group e) = λ i. group_same (shadowing (binders_of group) s) group i + expr_same
      (shadowing (binders_of group) s) e i
  expr_same s (core.Case e alts) = λ i. expr_same s e i + alts_same s alts i

  alts_same : (s : Scope) (alts : Alts) → alts_size (renamed_alts s alts) ≡ alts_size alts
  alts_same s NoAlts = refl
  alts_same s (AndAlt p e alts) = λ i. pattern_size p + expr_same (shadowing (bound_by p) s) e i +
      alts_same s alts i

-- ---- trees

map_length : {X Y : Type 0} (f : X → Y) (xs : List X) → length (map f xs) ≡ length xs
map_length f [] = refl
map_length f (x ∷ xs) = ap suc (map_length f xs)

pattern_small : (c : Words) (at params : ℕ) (h : Head) (bs : List Binder)
    → pattern_size (pattern_of c at params h bs) ≤ 1 + length bs
pattern_small c at params (Integer k) bs = omega arith
pattern_small c at params (Constructor d) bs = omega arith

binders_count : (c : Words) (at params : ℕ) (s : Scope) (ps : List ℕ)
    → length (binders c at params s ps) ≡ length ps
binders_count c at params s ps = map_length (λ p. binder c at params (renamed_name s p)) ps

module _ (c : Words) (at params : ℕ) (rest : Alts) (short : alts_size rest ≤ 14) where
  mutual
    expr_small : (s : Scope) (t : Tree) → expr_size (expr_of c at params rest s t) ≤ weight t
    expr_small s (Body r) = omega (arith, expr_same (taken c s r.bound) r.body)
    expr_small s (Case p bs o) = omega
        (arith, alts_small s bs (default_of c at params rest s o), default_small s o)

    alts_small : (s : Scope) (bs : Branches) (others : Alts)
        → alts_size (alts_of c at params rest s bs others) ≤ branches_weight bs + alts_size others
    alts_small s NoBranch others = omega arith
    alts_small s (AndBranch h ps t bs) others =
        let inner : Scope = with_fields c at params t ps s in
        omega (
          arith,
          pattern_small c at params h (binders c at params inner ps),
          binders_count c at params inner ps,
          expr_small inner t,
          alts_small s bs others,
        )

    default_small : (s : Scope) (o : Default) → alts_size (default_of c at params rest s o) ≤
        default_weight o
    default_small s NoDefault = short
    default_small s (ATree t) = omega (arith, expr_small s t)

-- ---- functions

arguments_count : (c : Words) (at : ℕ) (bs : List Binder)
    → terms_size (arguments c at bs) ≡ length bs
arguments_count c at [] = refl
arguments_count c at (b ∷ bs) = omega (arith, arguments_count c at bs)

-- a call has at most twelve arguments
abbrev Fits : ℕ → Option ℕ → Type 0
Fits n None = Unit {0}
Fits n (Some f) = n ≤ 12

call_small : (c : Words) (at : ℕ) (next : Option ℕ) (bs : List Binder) → Fits (length bs) next
    → alts_size (call c at next bs) ≤ 14
call_small c at None bs h = omega arith
call_small c at (Some f) bs h = let short : length bs ≤ 12 = h
    in omega (arith, short, arguments_count c at bs)

twelve : (n : ℕ) → nat_le n 12 ≡ true → n ≤ 12
twelve n e = grind (arith, nat_tests)

next_fits : (c : Words) (d : Decision) (ds : List Decision) → Fits d.params (next_of c d ds)
next_fits c d [] = tt
next_fits c d (e ∷ es) = go (nat_le d.params 12) refl
  where
    go : (b : Bool) → nat_le d.params 12 ≡ b → Fits d.params
        (if b then Some (equation_name c e.number) else None)
    go true h = twelve d.params h
    go false h = tt

function_small : (c : Words) (name : ℕ) (d : Decision) (next : Option ℕ) → Fits d.params next
    → function_size (function_of c name d next) ≤ whole d
function_small c name d next fits =
    let places : Scope = with_params c (is_called c d next) d (numbers_from 0 d.params) [] in
    let params : List Binder = binders c d.at d.params places (numbers_from 0 d.params) in
    let many : length params ≡ d.params = binders_count c d.at d.params places
    (numbers_from 0 d.params) ∙ length_numbers 0 d.params in
    let short : alts_size (call c d.at next params) ≤ 14
    = call_small c d.at next params (subst (λ n. Fits n next) (sym many) fits) in
    omega (arith, many, expr_small c d.at d.params (call c d.at next params) short places d.tree)

abbrev sizes : List Function → ℕ
sizes fs = sum_by function_size fs

each_small : (c : Words) (ds : List Decision) → sizes (each_of c ds) ≤ wholes ds
each_small c [] = omega arith
each_small c (d ∷ ds) =
    omega (
      arith,
      sum_by-cons function_size
          (function_of c (equation_name c d.number) d (next_of c d ds)) (each_of c ds),
      function_small c (equation_name c d.number) d (next_of c d ds) (next_fits c d ds),
      each_small c ds,
    )

group_small : (c : Words) (ds : List Decision) → sizes (first_of c ds) + sizes (others_of c ds) ≤
    wholes ds
group_small c [] = omega arith
group_small c (d ∷ ds) =
    omega (
      arith,
      sum_by-cons function_size (function_of c d.name d (next_of c d ds)) [],
      function_small c d.name d (next_of c d ds) (next_fits c d ds),
      each_small c ds,
    )

abbrev all_wholes : List (List Decision) → ℕ
all_wholes [] = 0
all_wholes (f ∷ fs) = wholes f + all_wholes fs

all_small : (c : Words) (fs : List (List Decision))
    → sizes (firsts c fs) + sizes (others c fs) ≤ all_wholes fs
all_small c [] = omega arith
all_small c (f ∷ fs) =
    omega (
      arith,
      sum_by-append function_size (first_of c f) (firsts c fs),
      sum_by-append function_size (others_of c f) (others c fs),
      group_small c f,
      all_small c fs,
    )

-- ---- equations

rows_cost : (es : List Equation) → costs (rows es) ≤ costs es
rows_cost [] = omega arith
rows_cost (e ∷ es) = go (tests_of e.pats == 0) (rows_cost es)
  where
    go : (b : Bool) → costs (rows es) ≤ costs es → cost e + costs (if b then [] else rows es) ≤ cost
        e + costs es
    go true l = omega arith
    go false l = omega (arith, l)

abbrev all_costs : List (List Equation) → ℕ
all_costs [] = 0
all_costs (f ∷ fs) = costs f + all_costs fs

all_cost : (k : ℕ) (fs : List (List Equation)) → all_wholes (all_decisions k fs) ≤ all_costs fs
all_cost k [] = omega arith
all_cost k (f ∷ fs) = omega
    (arith, decisions_cost k (rows f), rows_cost f, all_cost (k + length f) fs)

joined_cost : (e : Equation) (fs : List (List Equation))
    → all_costs (joined e fs) ≡ cost e + all_costs fs
joined_cost e [] = omega arith
joined_cost e ([] ∷ rest) = omega arith
joined_cost e ((f ∷ fs) ∷ rest) = go (e.name == f.name)
  where
    go : (b : Bool) → all_costs (if b then (e ∷ f ∷ fs) ∷ rest else (e ∷ []) ∷ (f ∷ fs) ∷ rest) ≡
        cost e + all_costs ((f ∷ fs) ∷ rest)
    go true = omega arith
    go false = omega arith

functions_cost : (es : List Equation) → all_costs (functions es) ≡ costs es
functions_cost [] = refl
functions_cost (e ∷ es) = joined_cost e (functions es) ∙ ap (λ n. cost e + n) (functions_cost es)

costs_are : (es : List Equation) → costs es ≡ sum_by equation_size es + 16 * sum_by
    (λ (e : Equation). tests_of e.pats) es
costs_are [] = refl
costs_are (e ∷ es) =
    omega (
      arith,
      sum_by-cons equation_size e es,
      sum_by-cons (λ (e : Equation). tests_of e.pats) e
          es,
      costs_are es,
    )

small : (c : Source) (ds : List (List Decision)) → all_wholes ds ≤ costs c.equations
    → 2 * length c.constructors + sizes
    (firsts (name_supply_of c) ds ++ others (name_supply_of c) ds) ≤ source_size c + 16 * tests c
small c ds l = omega (
  arith,
  sum_by-append function_size (firsts (name_supply_of c) ds)
      (others (name_supply_of c) ds),
  all_small (name_supply_of c) ds,
  l,
  costs_are c.equations,
)

paid_for : (c : Source) → all_wholes (decisions c) ≤ costs c.equations
paid_for c = subst (λ n. all_wholes (decisions c) ≤ n) (functions_cost c.equations)
    (all_cost 0 (functions c.equations))

pub is_small : SizeIsBounded
is_small c = small c (decisions c) (paid_for c)
