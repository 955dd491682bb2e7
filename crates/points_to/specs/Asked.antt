-- What an inclusion asks for, by what is known so far, as a list of facts.
use Rattle.std.specs.Prelude.{ℕ, suc, List, [], ◌∷◌, ◌++◌, map, Option, Some, None}
use Rattle.std.specs.List.{flat_map}
use Rattle.grin_syntax.specs.declared.program.VarId.{VarId}
use Rattle.grin_syntax.specs.declared.program.Word.{Word}
use Rattle.grin_syntax.specs.declared.program.Val.{Val}
use Rattle.grin_syntax.specs.declared.program.Target.{Target}
use Rattle.grin_syntax.specs.declared.program.Target.TheVariants.{Nothing, Node as NodeTarget, One as OneTarget, Vector as VectorTarget}
use Rattle.flow_system.specs.declared.fact.Element.{Element as AbstractWord}
use Rattle.flow_system.specs.declared.fact.Element.TheVariants.{Cell as cell_of, Tag as tag, Number as num}
use Rattle.flow_system.specs.declared.fact.Place.{Place}
use Rattle.flow_system.specs.declared.fact.Place.TheVariants.{Site as site, Var as var, Result as result}
use Rattle.flow_system.specs.declared.fact.Part.TheVariants.{Tags as tags, Word as word}
use Rattle.flow_system.specs.Inclusions.{Source, value, held, evaluated, arguments, FlowSink, to, into_site, into_result, cells_at, Inclusion, flows, forces, applies}
use Rattle.flow_system.specs.Tables.{Tables, params_of}
use Rattle.flow_system.specs.Solution.{width}
use Rattle.points_to.specs.declared.facts.Item.{Item}
use Rattle.points_to.specs.declared.facts.Fact.{Fact}
use Rattle.points_to.specs.Held.{in_part, words_in_part, elements, value_items, as_word, as_nodes, items, delayed, called}

abbrev pub fact : Place → Item → Fact
fact q i = record { place = q; item = i }

abbrev pub facts_at : Place → List Item → List Fact
facts_at q = map (fact q)

-- some items, at a cell
abbrev pub cell_facts : List Item → AbstractWord → List Fact
cell_facts Y (cell_of s) = facts_at (site s) Y
cell_facts Y (tag t) = []
cell_facts Y num = []

-- the words of some items, one for each variable, from word j on
module _ (p : Tables) where
  abbrev pub vector_facts : List Item → ℕ → List VarId → List Fact
  vector_facts X j [] = []
  vector_facts X j (x ∷ xs) =
      facts_at (var x.0) (in_part (word 0) (as_word p j X)) ++ vector_facts X (suc j) xs

  abbrev pub target_facts : Option ℕ → List Item → Target → List Fact
  target_facts k X Nothing = []
  target_facts k X (NodeTarget x) = facts_at (var x.0) (as_nodes p k X)
  target_facts k X (OneTarget x) = facts_at (var x.0) (in_part (word 0) (words_in_part (word 0) X))
  target_facts k X (VectorTarget xs) = vector_facts X 0 xs

module _ (p : Tables) (H : Place → List Item) where
  -- so that the items reach the sink
  abbrev pub asked : Option ℕ → List Item → FlowSink → List Fact
  asked k X (to t) = target_facts p k X t
  asked k X (into_site s) = facts_at (site s) (as_nodes p k X)
  asked k X (into_result f) = facts_at (result f) X
  asked k X (cells_at w) = flat_map (cell_facts (as_nodes p k X)) (elements p H w)

  abbrev pub flow_facts : Source → FlowSink → List Fact
  flow_facts s k = asked (width s) (items p H s) k

  abbrev pub delayed_facts : ℕ → ℕ → Option ℕ → List Fact
  delayed_facts s t None = []
  delayed_facts s t (Some f) =
      flow_facts (arguments (held (site s)) t []) (to (params_of p f))
      ++ flow_facts (evaluated (held (result f))) (into_site s)

  abbrev pub forced : ℕ → AbstractWord → List Fact
  forced s (cell_of s') = []
  forced s (tag t) = delayed_facts s t (delayed p t)
  forced s num = []

  abbrev pub called_facts : Val → Word → FlowSink → ℕ → Option ℕ → List Fact
  called_facts v a k t None = []
  called_facts v a k t (Some f) =
      flow_facts (arguments (value v) t (a ∷ [])) (to (params_of p f))
      ++ flow_facts (held (result f)) k

  abbrev pub applied : Val → Word → FlowSink → AbstractWord → List Fact
  applied v a k (cell_of s) = []
  applied v a k (tag t) = called_facts v a k t (called p t)
  applied v a k num = []

  -- all that an inclusion asks for
  abbrev pub facts_demanded : Inclusion → List Fact
  facts_demanded (flows s k) = flow_facts s k
  facts_demanded (forces s) = flat_map (forced s) (words_in_part tags (H (site s)))
  facts_demanded (applies v a k) =
      flat_map (applied v a k)
      (words_in_part tags (as_nodes p (width (value v)) (value_items p H v)))
