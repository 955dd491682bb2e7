-- A tree with other names: what the code makes of the declarations of a module. A device of the
-- proofs.
use Rattle.std.specs.Prelude.{◌≡◌, ℕ, ◌+◌, List, [], ◌∷◌, ◌++◌, map, Option, Some, None, slice_get}
use Rattle.std.specs.List.{AllZip}
use Rattle.core_reader.specs.declared.syntax.Binder.{Binder}
use Rattle.core_reader.specs.declared.syntax.Pattern.{Pattern}
use Rattle.core_reader.specs.declared.syntax.Pattern.TheVariants as pattern
use Rattle.core_reader.specs.Grammar.{name_id}
use Rattle.core_reader.specs.Tree as tree
use Rattle.core_reader.specs.Tree.{Term, Terms, NoTerms, AndTerm, Application, Bind, Expr, App, Let, Case, Alts, NoAlts, AndAlt, Data, Function}
use Rattle.arity_check.specs.declared.meaning.Meaning.{Meaning}
use Rattle.arity_check.specs.declared.meaning.Meaning.TheVariants as stands
use Rattle.arity_check.specs.Scope.{Scope}
use Rattle.arity_check.specs.Known.{Known, meaning, all_entered}
use Rattle.arity_check.specs.Pieces.{binders_of, bound_by}
use Rattle.arity_check.specs.Whole.{known_of}
use Rattle.core_reader.specs.Different.{AreDistinct}
use Rattle.core_link.specs.declared.naming.Named.{Named}
use Rattle.core_link.specs.declared.rename.Renaming.{Renaming}
use Rattle.core_link.specs.Module.{Module, text_in, name_of, seen, imported_functions}
use Rattle.core_link.specs.ModuleOf.{module_of}
use Rattle.core_link.specs.Union.{global_text, local_text}

-- The new number of each name, as that of a local and where it keeps its text, and of the name of
-- each function.
pub record Numbers : Type 0 where
  pub local : ℕ → ℕ
  pub itself : ℕ → ℕ
  pub function : ℕ → ℕ

abbrev pub or_zero : Option ℕ → ℕ
or_zero None = 0
or_zero (Some n) = n

-- the numbers that the code keeps
abbrev pub numbers_of : Renaming → Numbers
numbers_of r = record {
  local = λ x. or_zero (slice_get r.local.items x);
  itself = λ x. or_zero (slice_get r.itself.items x);
  function = λ g. or_zero (slice_get r.function.items g);
}

abbrev pub number_for : Numbers → ℕ → Meaning → ℕ
number_for n x (stands.Local y) = n.local x
number_for n x (stands.Function g params) = n.function g
number_for n x (stands.Primitive op) = n.itself x
number_for n x stands.Unbound = n.itself x

module _ (n : Numbers) where
  abbrev pub renamed_binder : Binder → Binder
  renamed_binder b = record { name = name_id (n.local b.name.0); at = b.at }

  abbrev pub renamed_con : Binder → Binder
  renamed_con c = record { name = name_id (n.itself c.name.0); at = c.at }

  abbrev pub renamed_pattern : Pattern → Pattern
  renamed_pattern (pattern.Con c fields) =
      pattern.Con (renamed_con c) (map renamed_binder fields)
  renamed_pattern (pattern.Int j at) = pattern.Int j at
  renamed_pattern (pattern.Default x) = pattern.Default (renamed_binder x)

  abbrev pub renamed_data : Data → Data
  renamed_data d = record { name = n.itself d.name; fields = d.fields; at = d.at }

  -- with what is known of the module's names
  module _ (k : Known) where
    abbrev mutual
      pub renamed_term : Scope → Term → Term
      renamed_term s (tree.Name x at) = tree.Name (number_for n x (meaning k s x)) at
      renamed_term s (tree.Con c at) = tree.Con (n.itself c) at
      renamed_term s (tree.Int j at) = tree.Int j at
      renamed_term s (tree.Bracket f xs at) =
          tree.Bracket (renamed_term s f) (renamed_terms s xs) at

      pub renamed_terms : Scope → Terms → Terms
      renamed_terms s NoTerms = NoTerms
      renamed_terms s (AndTerm a xs) = AndTerm (renamed_term s a) (renamed_terms s xs)

    abbrev pub renamed_app : Scope → Application → Application
    renamed_app s a =
        record { head = renamed_term s a.head; args = renamed_terms s a.args }

    abbrev pub renamed_bind : Scope → Bind → Bind
    renamed_bind s b =
        record { binder = renamed_binder b.binder; app = renamed_app s b.app }

    abbrev mutual
      pub renamed_expr : Scope → Expr → Expr
      renamed_expr s (App a) = App (renamed_app s a)
      renamed_expr s (Let group e) =
          Let (map (renamed_bind (all_entered k (binders_of group) s)) group)
          (renamed_expr (all_entered k (binders_of group) s) e)
      renamed_expr s (Case e alts) = Case (renamed_expr s e) (renamed_alts s alts)

      pub renamed_alts : Scope → Alts → Alts
      renamed_alts s NoAlts = NoAlts
      renamed_alts s (AndAlt p e alts) =
          AndAlt (renamed_pattern p) (renamed_expr (all_entered k (bound_by p) s) e)
          (renamed_alts s alts)

    -- function number g
    abbrev pub renamed_function : ℕ → Function → Function
    renamed_function g f = record {
      name = n.function g;
      at = f.at;
      params = map renamed_binder f.params;
      body = renamed_expr (all_entered k f.params []) f.body;
    }

    -- functions with the numbers from g on
    abbrev pub renamed_functions : ℕ → List Function → List Function
    renamed_functions g [] = []
    renamed_functions g (f ∷ fs) = renamed_function g f ∷ renamed_functions (g + 1) fs

-- ---- the texts of a module's names

abbrev pub declared_texts : Module → List (List ℕ)
declared_texts m = map (λ f. global_text (text_in m f.name) (name_of m)) m.functions

abbrev pub imported_text : Module → Binder × Binder → List ℕ
imported_text m i = global_text (text_in m i.1.name.0) (text_in m i.0.name.0)

-- of each function that is declared or imported
abbrev pub function_texts : Module → List (List ℕ)
function_texts m = declared_texts m ++ map (imported_text m) (imported_functions m)

-- what the code keeps of them
pub record AreNameTexts (n : Named) : Type 0 where
  pub local : n.local.items ≡ map local_text (module_of n.part).names
  pub function : n.function.items ≡ function_texts (module_of n.part)

-- ---- their numbers among the names of the program

-- each text stands at its number
abbrev pub TextsAreAtNumbers : List (List ℕ) → List (List ℕ) → List ℕ → Type 0
TextsAreAtNumbers names texts numbers = AllZip (λ w n. slice_get names n ≡ Some w) texts numbers

-- what stands at a number stays there, and each text is there once
pub record NamesAreExtended (old new : List (List ℕ)) : Type 0 where
  pub kept : (n : ℕ) (w : List ℕ) → slice_get old n ≡ Some w → slice_get new n ≡ Some w
  pub different : AreDistinct old → AreDistinct new

pub record AreNumbered (names : List (List ℕ)) (m : Module) (r : Renaming) : Type 0 where
  pub local : TextsAreAtNumbers names (map local_text m.names) r.local.items
  pub itself : TextsAreAtNumbers names m.names r.itself.items
  pub function : TextsAreAtNumbers names (function_texts m) r.function.items

-- ---- the declarations of all modules

abbrev pub joined_constructors : List Module → List Numbers → List Data
joined_constructors [] ns = []
joined_constructors (m ∷ ms) [] = []
joined_constructors (m ∷ ms) (n ∷ ns) =
    map (renamed_data n) m.constructors ++ joined_constructors ms ns

abbrev pub joined_functions : List Module → List Numbers → List Function
joined_functions [] ns = []
joined_functions (m ∷ ms) [] = []
joined_functions (m ∷ ms) (n ∷ ns) =
    renamed_functions n (known_of (seen m)) 0 m.functions ++ joined_functions ms ns
