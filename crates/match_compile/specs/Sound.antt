-- Which equations have a meaning as a program: those that break no rule of programs where each
-- equation is a function of its own.
use Rattle.std.specs.Prelude.{◌≡◌, ℕ, suc, ◌≤◌, nat_le, Bool, true, not, ◌&&◌, ◌==◌, List, [], ◌∷◌, ◌++◌, map, length, codes, decimal, Option, Some, None}
use Rattle.std.specs.List.{range_with_len}
use Rattle.seq.specs.Lists.{In}
use Rattle.core_reader.specs.Tree.{Function, Program, Application}
use Rattle.arity_check.specs.Scope.{Scope}
use Rattle.arity_check.specs.Broken as program
use Rattle.arity_check.specs.Broken.{AnApp, InFunction, Contains}
use Rattle.arity_check.specs.Standing as terms
use Rattle.match_compile.specs.Source.{Equation, Source}
use Rattle.match_compile.specs.Parts.{count, names_of}
use Rattle.match_compile.specs.Rules.{text_in, arity_in}

-- the name of the text's equation k, where it is not the first of its function
abbrev pub name_of_equation : ℕ → List ℕ
name_of_equation k = codes "match'" ++ decimal k

-- the first equation of a function has its name, and equation k else has the k-th new one
abbrev pub name_by : Option ℕ → (name new : ℕ) → ℕ
name_by None name new = name
name_by (Some n) name new = new

abbrev pub spread_function : List Equation → (new : ℕ) → Equation → Function
spread_function before new e = record {
  name = name_by (arity_in before e.name) e.name new;
  at = e.at;
  params = names_of e.pats;
  body = e.body;
}

abbrev pub spread_functions : List Equation → (new : ℕ) → List Equation → List Function
spread_functions before new [] = []
spread_functions before new (e ∷ es) =
    spread_function before new e ∷ spread_functions (before ++ e ∷ []) (suc new) es

-- the program in which each equation is a function of its own, with the names in its patterns as
-- parameters
abbrev pub equations_as_functions : Source → Program
equations_as_functions c = record {
  names = c.names ++ map name_of_equation (range_with_len 0 (length c.equations));
  constructors = c.constructors;
  functions = spread_functions [] (length c.names) c.equations;
}

-- of the rules 11 to 34 all but 20 and 33
abbrev pub is_kept_rule : ℕ → Bool
is_kept_rule k = nat_le 11 k && nat_le k 34 && not (k == 20) && not (k == 33)

pub record IsSound (c : Source) : Type 0 where
  pub unbroken : (k at : ℕ) → is_kept_rule k ≡ true
      → program.Broken (equations_as_functions c) k at → ⊥
  pub arguments : (t : Scope) (app inner : Application)
      → InFunction (equations_as_functions c) t (AnApp app)
      → Contains app inner → terms.count inner.args ≤ 12
  pub patterns : (e : Equation) → In e c.equations → count e.pats ≤ 12
  pub main : (e : Equation) → In e c.equations → text_in c.names e.name ≡ codes "main"
      → count e.pats ≤ 1
