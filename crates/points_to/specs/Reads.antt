-- The places that an inclusion reads, by what is known so far: those that it names, and those that
-- it reaches through them.
use Rattle.std.specs.Prelude.{◌≡◌, ℕ, List, [], ◌∷◌, ◌++◌, Option, Some, None}
use Rattle.std.specs.List.{flat_map}
use Rattle.grin_syntax.specs.declared.program.Word.{Word}
use Rattle.grin_syntax.specs.declared.program.Word.TheVariants.{Lit, Var, Global, TagWord}
use Rattle.grin_syntax.specs.declared.program.Val.{Val}
use Rattle.grin_syntax.specs.declared.program.Val.TheVariants.{NodeVar, Node as NodeVal, Vector as VectorVal, One as OneVal}
use Rattle.flow_system.specs.declared.fact.Element.{Element as AbstractWord}
use Rattle.flow_system.specs.declared.fact.Element.TheVariants.{Cell as cell_of, Tag as tag, Number as num}
use Rattle.flow_system.specs.declared.fact.Place.{Place}
use Rattle.flow_system.specs.declared.fact.Place.TheVariants.{Site as site, Var as var, Result as result}
use Rattle.flow_system.specs.declared.fact.Part.TheVariants.{Tags as tags}
use Rattle.flow_system.specs.Inclusions.{Source, value, a_cell, a_number, held, nodes_at, word_at, evaluated, extended, arguments, FlowSink, to, into_site, into_result, cells_at, Inclusion, flows, forces, applies}
use Rattle.flow_system.specs.Tables.{Tables}
use Rattle.flow_system.specs.Solution.{width}
use Rattle.points_to.specs.declared.facts.Item.{Item}
use Rattle.points_to.specs.Held.{In, words_in_part, elements, value_items, as_nodes, delayed, called}

abbrev pub word_reads : Word → List Place
word_reads (Lit k) = []
word_reads (Var x) = var x.0 ∷ []
word_reads (Global i) = []
word_reads (TagWord t) = []

abbrev pub value_reads : Val → List Place
value_reads (NodeVar x) = var x.0 ∷ []
value_reads (NodeVal t ws) = flat_map word_reads ws
value_reads (VectorVal ws) = flat_map word_reads ws
value_reads (OneVal w) = word_reads w

abbrev pub sink_reads : FlowSink → List Place
sink_reads (to t) = []
sink_reads (into_site s) = []
sink_reads (into_result f) = []
sink_reads (cells_at w) = word_reads w

abbrev pub cell_reads : AbstractWord → List Place
cell_reads (cell_of s) = site s ∷ []
cell_reads (tag t) = []
cell_reads num = []

abbrev pub result_reads : Option ℕ → List Place
result_reads None = []
result_reads (Some f) = result f ∷ []

module _ (p : Tables) where
  abbrev pub forced_reads : AbstractWord → List Place
  forced_reads (cell_of s) = []
  forced_reads (tag t) = result_reads (delayed p t)
  forced_reads num = []

  abbrev pub applied_reads : AbstractWord → List Place
  applied_reads (cell_of s) = []
  applied_reads (tag t) = result_reads (called p t)
  applied_reads num = []

  module _ (H : Place → List Item) where
    -- the variable of a word, and its cells
    abbrev pub cells_reads : Word → List Place
    cells_reads w = word_reads w ++ flat_map cell_reads (elements p H w)

    abbrev pub source_reads : Source → List Place
    source_reads (value v) = value_reads v
    source_reads (a_cell s) = []
    source_reads a_number = []
    source_reads (held q) = q ∷ []
    source_reads (nodes_at w) = cells_reads w
    source_reads (word_at w i) = cells_reads w
    source_reads (evaluated s) = source_reads s
    source_reads (extended v a) = value_reads v ++ word_reads a
    source_reads (arguments s t ws) = source_reads s ++ flat_map word_reads ws

    abbrev pub reads : Inclusion → List Place
    reads (flows s k) = source_reads s ++ sink_reads k
    reads (forces s) = site s ∷ flat_map forced_reads (words_in_part tags (H (site s)))
    reads (applies v a k) =
        (value_reads v ++ (word_reads a ++ sink_reads k))
        ++ flat_map applied_reads
        (words_in_part tags (as_nodes p (width (value v)) (value_items p H v)))

-- the same is known at these places
pub record Agree (H H' : Place → List Item) (qs : List Place) : Type 0 where
  pub at : (q : Place) → In q qs → H' q ≡ H q
