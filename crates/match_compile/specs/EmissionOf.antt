-- What is written while trees become functions of Core.
use Rattle.std.specs.Prelude.{ℕ, Bool, false, List, [], ◌∷◌, map, Option, Some, None, if◌then◌else◌}
use Rattle.core_reader.specs.declared.syntax.NameId.{NameId}
use Rattle.core_reader.specs.declared.syntax.Binder.{Binder}
use Rattle.core_reader.specs.declared.syntax.Alt.{Alt}
use Rattle.core_reader.specs.Tree.{Term, Name, NoTerms, Expr, App, Alts, alternative, alts_of}
use Rattle.arity_check.specs.Scope.{Scope}
use Rattle.match_compile.specs.declared.emission.Onward.{Onward}
use Rattle.match_compile.specs.Trees.{Tree, can_fail}
use Rattle.match_compile.specs.Translated.{Words, call, keeps, param_stays, name_or, stays}
use Rattle.match_compile.specs.Renamed.{renamed_name}

abbrev pub put_before : List (Alts → Alts) → Alts → Alts
put_before [] others = others
put_before (a ∷ as') others = a (put_before as' others)

abbrev pub alternatives : List Alt → Alts
alternatives alts = alts_of (map alternative alts)

-- a name as an argument
abbrev pub named : (at : ℕ) → Binder → Term
named at b = Name b.name.0 at

abbrev pub number_of : Option NameId → Option ℕ
number_of None = None
number_of (Some f) = Some f.0

-- the alternatives for values that no row accepts
abbrev pub alternatives_of_rest : Words → (at : ℕ) → Onward → Alts
alternatives_of_rest w at onward = call w at (number_of onward.function) onward.arguments.now

abbrev pub alone : (name at : ℕ) → Expr
alone name at = App (record { head = Name name at; args = NoTerms })

abbrev pub called_by : Tree → Option ℕ → Bool
called_by t None = false
called_by t (Some f) = can_fail t

-- the columns have names from here on
abbrev pub places_of : Words → (at params : ℕ) → Bool → Tree → List ℕ → Scope → Scope
places_of w at params called t [] places = places
places_of w at params called t (p ∷ ps) places =
    places_of w at params called t ps
    ((p, name_or w at params (param_stays w called (stays p t)) p) ∷ places)

-- what one name has become
abbrev pub taken_one : Words → Scope → (x p : ℕ) → Scope → Scope
taken_one w places x p s = if keeps w x then s else (x, renamed_name places p) ∷ s
