-- What is asked where some nodes are given one argument more.
use Rattle.std.specs.Prelude.{ℕ, List, [], ◌∷◌, ◌++◌, Option, Some, None}
use Rattle.std.specs.List.{flat_map}
use Rattle.grin_syntax.specs.declared.program.Word.{Word}
use Rattle.flow_system.specs.declared.fact.Element.{Element as AbstractWord}
use Rattle.flow_system.specs.declared.fact.Element.TheVariants.{Cell as cell_of, Tag as tag, Number as num}
use Rattle.flow_system.specs.declared.fact.Place.{Place}
use Rattle.flow_system.specs.declared.fact.Place.TheVariants.{Result as result}
use Rattle.flow_system.specs.declared.fact.Part.TheVariants.{Tags as tags}
use Rattle.flow_system.specs.Inclusions.{held, FlowSink}
use Rattle.flow_system.specs.Tables.{Tables, params_of}
use Rattle.points_to.specs.declared.facts.Item.{Item}
use Rattle.points_to.specs.declared.facts.Fact.{Fact}
use Rattle.points_to.specs.Held.{words_in_part, arguments_of, called}
use Rattle.points_to.specs.Asked.{target_facts, flow_facts}

module _ (p : Tables) (H : Place → List Item) (X : List Item) where
  -- the fields of a tag among the nodes, followed by words
  abbrev pub call_arguments : ℕ → List Word → List Item
  call_arguments t ws = flat_map (arguments_of p H t ws X) (words_in_part tags X)

  abbrev pub call_facts : Word → FlowSink → ℕ → Option ℕ → List Fact
  call_facts a k t None = []
  call_facts a k t (Some f) =
      target_facts p (Some 1) (call_arguments t (a ∷ [])) (params_of p f)
      ++ flow_facts p H (held (result f)) k

  abbrev pub tag_applied : Word → FlowSink → AbstractWord → List Fact
  tag_applied a k (cell_of s) = []
  tag_applied a k (tag t) = call_facts a k t (called p t)
  tag_applied a k num = []
