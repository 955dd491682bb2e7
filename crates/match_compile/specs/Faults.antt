-- Which rules are broken in the parts of equations, and where, in the order in which the check
-- meets them. A device of the proofs.
use Rattle.std.specs.Prelude.{◌≡◌, ℕ, ◌==◌, Bool, true, false, not, ◌&&◌, ◌||◌, List, [], ◌∷◌, ◌++◌, Option, Some, None, codes}
use Rattle.std.specs.Str.{bytes_eq}
use Rattle.std.specs.List.{flat_map}
use Rattle.core_reader.specs.declared.syntax.Binder.{Binder}
use Rattle.core_reader.specs.declared.token.Token.{Token}
use Rattle.core_reader.specs.declared.token.Token.TheVariants as word
use Rattle.core_reader.specs.declared.token.Lexeme.{Lexeme}
use Rattle.match_compile.specs.declared.refusal.MatchRefusal.{MatchRefusal}
use Rattle.match_compile.specs.declared.refusal.MatchRefusal.TheVariants.{DuplicateFunction, DuplicateName, UnknownName, ArityDiffers, PatternArity, ReservedMatch}
use Rattle.match_compile.specs.Source.{Source, Equation}
use Rattle.match_compile.specs.Parts.{count, names_of, constructors_of}
use Rattle.match_compile.specs.Rules.{text_in, fields_in, is_reserved, IsReserved}
use Rattle.match_compile.specs.Refusal.{rule, place, least_refusal, refusal_if}
use Rattle.seq.specs.Lists.{In}

-- ---- the order of the equations: the numbers of patterns by name, and the name before

abbrev pub is_last : Option ℕ → ℕ → Bool
is_last None x = false
is_last (Some y) x = y == x

abbrev pub first_arity : Option ℕ → ℕ → Bool → Option ℕ
first_arity (Some n) m b = Some n
first_arity None m true = Some m
first_arity None m false = None

-- the first equation of a name gives the number
abbrev pub with_equation : ℕ → ℕ → (ℕ → Option ℕ) → ℕ → Option ℕ
with_equation x n arities y = first_arity (arities y) n (x == y)

abbrev pub order_faults : Option ℕ → Bool → (n at : ℕ) → List MatchRefusal
order_faults None is_next n at = []
order_faults (Some m) is_next n at =
    refusal_if (not is_next) (DuplicateFunction at) ++ refusal_if (not (m == n)) (ArityDiffers at)

abbrev pub orders_faults : (ℕ → Option ℕ) → Option ℕ → List Equation → List MatchRefusal
orders_faults arities last [] = []
orders_faults arities last (e ∷ es) =
    order_faults (arities e.name) (is_last last e.name) (count e.pats) e.at
    ++ orders_faults (with_equation e.name (count e.pats) arities) (Some e.name) es

-- ---- the names of an equation's patterns

abbrev pub with_member : ℕ → (ℕ → Bool) → ℕ → Bool
with_member x seen y = (x == y) || seen y

abbrev pub is_nameless : List (List ℕ) → ℕ → Bool
is_nameless names x = bytes_eq (text_in names x) (codes "_")

abbrev pub name_faults : List (List ℕ) → (ℕ → Bool) → Binder → List MatchRefusal
name_faults names seen x =
    refusal_if (not (is_nameless names x.name.0) && seen x.name.0) (DuplicateName x.at)

abbrev pub names_faults : List (List ℕ) → (ℕ → Bool) → List Binder → List MatchRefusal
names_faults names seen [] = []
names_faults names seen (x ∷ xs) =
    name_faults names seen x ++ names_faults names (with_member x.name.0 seen) xs

-- ---- the constructors of an equation's patterns

abbrev pub constructor_faults : Option ℕ → (n at : ℕ) → List MatchRefusal
constructor_faults None n at = UnknownName at ∷ []
constructor_faults (Some m) n at = refusal_if (not (m == n)) (PatternArity at)

abbrev pub constructors_faults : (ℕ → Option ℕ) → List (Binder × ℕ) → List MatchRefusal
constructors_faults fields cs =
    flat_map (λ c. constructor_faults (fields c.0.name.0) c.1 c.0.at) cs

abbrev pub equation_faults : List (List ℕ) → (ℕ → Option ℕ) → Equation → List MatchRefusal
equation_faults names fields e =
    names_faults names (λ x. false) (names_of e.pats)
    ++ constructors_faults fields (constructors_of e.pats)

abbrev pub patterns_faults : List (List ℕ) → (ℕ → Option ℕ) → List Equation → List MatchRefusal
patterns_faults names fields es = flat_map (equation_faults names fields) es

-- ---- names that begin with `match'`

abbrev pub is_reserved_token : List (List ℕ) → Token → Bool
is_reserved_token names (word.Name n) = is_reserved (text_in names n.0)
is_reserved_token names token = false

abbrev pub reserved_faults : List (List ℕ) → List Lexeme → List MatchRefusal
reserved_faults names lexemes =
    flat_map (λ l. refusal_if (is_reserved_token names l.token) (ReservedMatch l.at)) lexemes

-- ---- all

abbrev pub faults : Source → List MatchRefusal
faults c =
    orders_faults (λ x. None) None c.equations
    ++ patterns_faults c.names (fields_in c.constructors) c.equations

-- the refusals for such names in a text, of which the first was kept
pub record IsFirstReserved (text : List ℕ) (first : Option MatchRefusal) : Type 0 where
  pub all : List MatchRefusal
  pub is : first ≡ least_refusal None all
  pub sound : (r : MatchRefusal) → In r all → (rule r ≡ 74) × IsReserved text (place r)
  pub complete : (at : ℕ) → IsReserved text at → In (ReservedMatch at) all
