-- Which inclusions read which sets. A set is what a solution has at one place.
use Rattle.std.specs.Prelude.{ℕ, suc, Bool, false, cond, nat_eq, List, [], ◌∷◌, ◌++◌, map, slice_get, unwrap_or}
use Rattle.std.specs.List.{list_any, flat_map, fold}
use Rattle.std.specs.Option.{option_map}
use Rattle.grin_syntax.specs.declared.program.Word as W
use Rattle.grin_syntax.specs.declared.program.Word.TheVariants.{Lit, Var, Global, TagWord}
use Rattle.grin_syntax.specs.declared.program.Val.{Val}
use Rattle.grin_syntax.specs.declared.program.Val.TheVariants.{NodeVar, Node as NodeVal, Vector as VectorVal, One as OneVal}
use Rattle.grin_syntax.specs.declared.program.Target.{Target}
use Rattle.grin_syntax.specs.declared.program.Target.TheVariants.{Nothing, Node as NodeTarget, One as OneTarget, Vector as VectorTarget}
use Rattle.flow_system.specs.Inclusions.{Place, site, var, result, Source, value, a_cell, a_number, held, nodes_at, word_at, evaluated, extended, arguments, FlowSink, to, into_site, into_result, cells_at, Inclusion, flows, forces, applies}

-- the set that a word names: that of a variable
abbrev pub named_word : W.Word → List Place
named_word (Lit k) = []
named_word (Var x) = var x.0 ∷ []
named_word (Global i) = []
named_word (TagWord t) = []

-- the sets that a value names
abbrev pub named_value : Val → List Place
named_value (NodeVar x) = var x.0 ∷ []
named_value (NodeVal t ws) = flat_map named_word ws
named_value (VectorVal ws) = flat_map named_word ws
named_value (OneVal w) = named_word w

-- the sets that a source names, from left to right
abbrev pub named_source : Source → List Place
named_source (value v) = named_value v
named_source (a_cell s) = []
named_source a_number = []
named_source (held q) = q ∷ []
named_source (nodes_at a) = named_word a
named_source (word_at a i) = named_word a
named_source (evaluated s) = named_source s
named_source (extended v a) = named_value v ++ named_word a
named_source (arguments s t ws) = named_source s ++ flat_map named_word ws

-- the set that says at which places a sink is
abbrev pub named_condition : FlowSink → List Place
named_condition (to t) = []
named_condition (into_site s) = []
named_condition (into_result f) = []
named_condition (cells_at a) = named_word a

-- the sets of a target's variables
abbrev pub named_variables : Target → List Place
named_variables Nothing = []
named_variables (NodeTarget x) = var x.0 ∷ []
named_variables (OneTarget x) = var x.0 ∷ []
named_variables (VectorTarget xs) = map (λ x. var x.0) xs

-- the sets that a sink adds to
abbrev pub named_sink : FlowSink → List Place
named_sink (to t) = named_variables t
named_sink (into_site s) = site s ∷ []
named_sink (into_result f) = result f ∷ []
named_sink (cells_at a) = []

-- the sets that an inclusion itself names as sources or conditions: those that it reads
abbrev pub named_sources : Inclusion → List Place
named_sources (flows s k) = named_source s ++ named_condition k
named_sources (forces s) = site s ∷ []
named_sources (applies v a k) = named_value v ++ (named_word a ++ named_condition k)

-- the sets that it names as targets
abbrev pub named_targets : Inclusion → List Place
named_targets (flows s k) = named_sink k
named_targets (forces s) = site s ∷ []
named_targets (applies v a k) = named_sink k

-- all that it names
abbrev pub named : Inclusion → List Place
named c = named_sources c ++ named_targets c

abbrev pub same_place : Place → Place → Bool
same_place (site s) (site s') = nat_eq s s'
same_place (var x) (var x') = nat_eq x x'
same_place (result f) (result f') = nat_eq f f'
same_place _ _ = false

abbrev pub is_one_of : List Place → Place → Bool
is_one_of ps q = list_any (same_place q) ps

-- one set more, unless it is there already
abbrev pub with_set : List Place → Place → List Place
with_set ps q = cond (is_one_of ps q) ps (ps ++ q ∷ [])

-- the sets, in the order in which they are first named: a set's number is its place in this list
unfoldable pub sets : List Inclusion → List Place
sets cs = fold with_set [] (flat_map named cs)

-- the numbers of the inclusions that read a set, where the first inclusion has the number n
abbrev pub readers_from : ℕ → Place → List Inclusion → List ℕ
readers_from n q [] = []
readers_from n q (c ∷ cs) =
    cond (is_one_of (named_sources c) q) (n ∷ []) [] ++ readers_from (suc n) q cs

-- the numbers of the inclusions that read the set of a number; none where no set has the number
unfoldable pub readers : List Inclusion → ℕ → List ℕ
readers cs n = unwrap_or (option_map (λ q. readers_from 0 q cs) (slice_get (sets cs) n)) []
