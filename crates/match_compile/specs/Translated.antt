-- The program of Core that equations become: each tree is a function of nested cases.
use Rattle.std.specs.Prelude.{ℕ, ◌+◌, ◌-◌, ◌==◌, nat_lt, nat_le, max, Bool, true, false, ◌&&◌, ◌||◌, List, [], ◌∷◌, ◌++◌, map, length, codes, decimal, Option, Some, None, if◌then◌else◌}
use Rattle.std.specs.List.{position, range_with_len, position_or_len}
use Rattle.std.specs.Str.{bytes_eq}
use Rattle.seq.specs.Lists.{numbers_from}
use Rattle.core_reader.specs.declared.syntax.Binder.{Binder}
use Rattle.core_reader.specs.declared.syntax.Pattern.{Pattern}
use Rattle.core_reader.specs.declared.syntax.Pattern.TheVariants as pattern
use Rattle.core_reader.specs.Grammar.{name_id}
use Rattle.core_reader.specs.Tree.{Terms, NoTerms, AndTerm, Expr, App, Case, Alts, NoAlts, AndAlt, Function, Program}
use Rattle.core_reader.specs.Tree as core
use Rattle.arity_check.specs.declared.normal.PrimOp.{PrimOp}
use Rattle.arity_check.specs.Scope.{Scope, primitives}
use Rattle.match_compile.specs.Source.{Equation, Source}
use Rattle.match_compile.specs.Parts.{count}
use Rattle.match_compile.specs.Rules.{text_in}
use Rattle.match_compile.specs.Sound.{name_of_equation}
use Rattle.match_compile.specs.Heads.{Head, Integer, Constructor}
use Rattle.match_compile.specs.Trees.{Tree, Branches, NoBranch, AndBranch, Default, NoDefault, ATree, can_fail}
use Rattle.match_compile.specs.Trees as tree
use Rattle.match_compile.specs.Decisions.{Decision, decisions}
use Rattle.match_compile.specs.Renamed.{renamed_name, renamed_expr}

-- ---- names that stay

-- the name that a row has bound to a place
abbrev pub bound_at : ℕ → List (Binder × ℕ) → Option ℕ
bound_at p [] = None
bound_at p ((b, q) ∷ bs) = if q == p then Some b.name.0 else bound_at p bs

abbrev mutual
  -- what the first row of a tree has bound
  pub first_bound : Tree → List (Binder × ℕ)
  first_bound (tree.Body r) = r.bound
  first_bound (tree.Case p bs o) = first_bound_in bs

  pub first_bound_in : Branches → List (Binder × ℕ)
  first_bound_in NoBranch = []
  first_bound_in (AndBranch h ps t bs) = first_bound t

abbrev pub is_name : ℕ → Option ℕ → Bool
is_name x None = false
is_name x (Some y) = y == x

abbrev mutual
  -- whether all rows of a tree have bound this name to a place
  pub all_bind : (p x : ℕ) → Tree → Bool
  all_bind p x (tree.Body r) = is_name x (bound_at p r.bound)
  all_bind p x (tree.Case q bs o) = branches_bind p x bs && default_binds p x o

  pub branches_bind : (p x : ℕ) → Branches → Bool
  branches_bind p x NoBranch = true
  branches_bind p x (AndBranch h ps t bs) = all_bind p x t && branches_bind p x bs

  pub default_binds : (p x : ℕ) → Default → Bool
  default_binds p x NoDefault = true
  default_binds p x (ATree t) = all_bind p x t

-- the name that all rows of a tree have bound to a place, if there is one
abbrev pub stays : ℕ → Tree → Option ℕ
stays p t = elim (bound_at p (first_bound t)) [
  | None ↦ None
  | Some x ↦ if all_bind p x t then Some x else None
]

-- ---- the names of the program

abbrev pub is_nameless : List ℕ → Bool
is_nameless w = bytes_eq w (codes "_")

abbrev pub is_primitive : List (List ℕ × PrimOp) → List ℕ → Bool
is_primitive [] w = false
is_primitive (q ∷ qs) w = bytes_eq w q.0 || is_primitive qs w

-- whether a text is `_` or that of a primitive, whose name never stands for a local
abbrev pub is_kept : List ℕ → Bool
is_kept w = is_nameless w || is_primitive primitives w

abbrev pub param_name : ℕ → List ℕ
param_name n = codes "match'p" ++ decimal n

abbrev pub field_name : ℕ → List ℕ
field_name n = codes "match'q" ++ decimal n

abbrev pub most_params : List Equation → ℕ
most_params [] = 0
most_params (e ∷ es) = max (count e.pats) (most_params es)

-- the most places for fields of one of these trees
abbrev pub most_fields : List Decision → ℕ
most_fields [] = 0
most_fields (d ∷ ds) = max (d.free - d.params) (most_fields ds)

abbrev pub most_fields_of : List (List Decision) → ℕ
most_fields_of [] = 0
most_fields_of (f ∷ fs) = max (most_fields f) (most_fields_of fs)

-- the names of the text, with `_`
abbrev pub with_nameless : List (List ℕ) → List (List ℕ)
with_nameless names = elim (position is_nameless names) [
  | Some n ↦ names
  | None ↦ names ++ codes "_" ∷ []
]

abbrev pub numbered_texts : (n : ℕ) → (ℕ → List ℕ) → List (List ℕ)
numbered_texts n text = map text (range_with_len 0 n)

-- the names of the text, then one for each equation, for each column, and for as many fields as a
-- tree has
abbrev pub names : Source → List (List ℕ)
names c =
    with_nameless c.names
    ++ (numbered_texts (length c.equations) name_of_equation
    ++ (numbered_texts (most_params c.equations) param_name
    ++ numbered_texts (most_fields_of (decisions c)) field_name))

-- what new names go by: the names of the text, the number of its equations, and the largest number
-- of their patterns
pub record Words : Type 0 where
  pub names : List (List ℕ)
  pub equations : ℕ
  pub columns : ℕ

abbrev pub name_supply_of : Source → Words
name_supply_of c = record {
  names = c.names;
  equations = length c.equations;
  columns = most_params c.equations;
}

-- ---- trees as expressions

module _ (c : Words) where
  abbrev pub nameless : ℕ
  nameless = position_or_len is_nameless c.names

  abbrev pub equation_name : ℕ → ℕ
  equation_name k = length (with_nameless c.names) + k

  abbrev pub keeps : ℕ → Bool
  keeps x = is_kept (text_in c.names x)

  -- the new name of a place, the parameters being so many
  abbrev pub place_name : (params p : ℕ) → ℕ
  place_name params p =
      length (with_nameless c.names) + c.equations
      + (if nat_lt p params then p else c.columns + (p - params))

  -- what the names in the patterns of a row have become, where the places have these names
  abbrev pub taken : Scope → List (Binder × ℕ) → Scope
  taken places [] = []
  taken places ((b, p) ∷ bs) =
      if keeps b.name.0 then taken places bs
      else (b.name.0, renamed_name places p) ∷ taken places bs

  module _ (at params : ℕ) where
    abbrev pub binder : ℕ → Binder
    binder x = record { name = name_id x; at = at }

    abbrev pub name_or : Option ℕ → ℕ → ℕ
    name_or (Some x) p = x
    name_or None p = place_name params p

    -- the fields of a branch have names from here on
    abbrev pub with_fields : Tree → List ℕ → Scope → Scope
    with_fields t [] places = places
    with_fields t (p ∷ ps) places = with_fields t ps ((p, name_or (stays p t) p) ∷ places)

    abbrev pub binders : Scope → List ℕ → List Binder
    binders places ps = map (λ p. binder (renamed_name places p)) ps

    abbrev pub pattern_of : Head → List Binder → Pattern
    pattern_of (Integer k) fields = pattern.Int k at
    pattern_of (Constructor d) fields = pattern.Con (binder d) fields

    abbrev pub otherwise : Expr → Alts
    otherwise e = AndAlt (pattern.Default (binder nameless)) e NoAlts

    -- the alternatives for values that no row accepts
    module _ (rest : Alts) where
      abbrev mutual
        pub expr_of : Scope → Tree → Expr
        expr_of places (tree.Body r) = renamed_expr (taken places r.bound) r.body
        expr_of places (tree.Case p bs o) =
            Case (App (record { head = core.Name (renamed_name places p) at; args = NoTerms }))
            (alts_of places bs (default_of places o))

        pub alts_of : Scope → Branches → Alts → Alts
        alts_of places NoBranch others = others
        alts_of places (AndBranch h ps t bs) others =
            AndAlt (pattern_of h (binders (with_fields t ps places) ps))
            (expr_of (with_fields t ps places) t) (alts_of places bs others)

        pub default_of : Scope → Default → Alts
        default_of places NoDefault = rest
        default_of places (ATree t) = otherwise (expr_of places t)

  -- ---- functions

  -- `_` stays the name of a parameter only where no call takes it
  abbrev pub param_stays : Bool → Option ℕ → Option ℕ
  param_stays called None = None
  param_stays called (Some x) =
      if called && is_nameless (text_in c.names x) then None else Some x

  abbrev pub with_params : Bool → Decision → List ℕ → Scope → Scope
  with_params called d [] places = places
  with_params called d (p ∷ ps) places =
      with_params called d ps
      ((p, name_or d.at d.params (param_stays called (stays p d.tree)) p) ∷ places)

  abbrev pub arguments : (at : ℕ) → List Binder → Terms
  arguments at [] = NoTerms
  arguments at (b ∷ bs) = AndTerm (core.Name b.name.0 at) (arguments at bs)

  -- the function of a tree, which goes on with another one where values come that no row accepts
  abbrev pub call : (at : ℕ) → Option ℕ → List Binder → Alts
  call at None params = NoAlts
  call at (Some f) params =
      otherwise at 0 (App (record { head = core.Name f at; args = arguments at params }))

  abbrev pub is_called : Decision → Option ℕ → Bool
  is_called d None = false
  is_called d (Some f) = can_fail d.tree

  abbrev pub function_of : (name : ℕ) → Decision → (next : Option ℕ) → Function
  function_of name d next =
      let places : Scope = with_params (is_called d next) d (numbers_from 0 d.params) [] in
      let params : List Binder = binders d.at d.params places (numbers_from 0 d.params) in
      record {
        name = name;
        at = d.at;
        params = params;
        body = expr_of d.at d.params (call d.at next params) places d.tree;
      }

  -- the function of the trees behind one. Over 12 patterns no call is written
  abbrev pub next_of : Decision → List Decision → Option ℕ
  next_of d [] = None
  next_of d (e ∷ es) = if nat_le d.params 12 then Some (equation_name e.number) else None

  abbrev pub first_of : List Decision → List Function
  first_of [] = []
  first_of (d ∷ ds) = function_of d.name d (next_of d ds) ∷ []

  abbrev pub each_of : List Decision → List Function
  each_of [] = []
  each_of (d ∷ ds) = function_of (equation_name d.number) d (next_of d ds) ∷ each_of ds

  abbrev pub others_of : List Decision → List Function
  others_of [] = []
  others_of (d ∷ ds) = each_of ds

  abbrev pub firsts : List (List Decision) → List Function
  firsts [] = []
  firsts (f ∷ fs) = first_of f ++ firsts fs

  abbrev pub others : List (List Decision) → List Function
  others [] = []
  others (f ∷ fs) = others_of f ++ others fs

-- the functions keep their order, and those of equations that another tree does not take follow
abbrev pub translated : Source → Program
translated c = record {
  names = names c;
  constructors = c.constructors;
  functions = firsts (name_supply_of c) (decisions c) ++ others (name_supply_of c) (decisions c);
}
