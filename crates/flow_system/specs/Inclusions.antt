-- What may flow where in a program.
use Rattle.std.specs.Prelude.{ℕ, List}
use Rattle.grin_syntax.specs.declared.program.Word.{Word}
use Rattle.grin_syntax.specs.declared.program.Val.{Val}
use Rattle.grin_syntax.specs.declared.program.Target.{Target}
-- a word, as the analysis sees it: a cell of a site, a tag, or some number
pub use Rattle.flow_system.specs.declared.fact.Element.{Element as AbstractWord}
pub use Rattle.flow_system.specs.declared.fact.Element.TheVariants.{Cell as cell_of, Tag as tag, Number as num}
-- the places where values are: the cells of a site, a variable, the result of a procedure
pub use Rattle.flow_system.specs.declared.fact.Place.{Place}
pub use Rattle.flow_system.specs.declared.fact.Place.TheVariants.{Site as site, Var as var, Result as result}
-- the sets at a place: the tags of the nodes there, what stands in field i of the nodes of tag t,
-- and what stands in word j of the words there
pub use Rattle.flow_system.specs.declared.fact.Part.{Part}
pub use Rattle.flow_system.specs.declared.fact.Part.TheVariants.{Tags as tags, Field as field, Word as word}

-- what flows: a value; a cell of a site; some number; what is at a place; the nodes, and word i of
-- the nodes, of the cells of a word; the evaluated ones among some nodes; a function that waits for
-- arguments, with one argument more; the fields of a tag among some nodes, followed by words
pub data Source : Type 0 where
  value : Val → Source
  a_cell : ℕ → Source
  a_number : Source
  held : Place → Source
  nodes_at : Word → Source
  word_at : Word → ℕ → Source
  evaluated : Source → Source
  extended : Val → Word → Source
  arguments : Source → ℕ → List Word → Source

-- where it flows to: the variables of a target; the cells of a site; the result of a procedure; the
-- cells of a word
pub data FlowSink : Type 0 where
  to : Target → FlowSink
  into_site : ℕ → FlowSink
  into_result : ℕ → FlowSink
  cells_at : Word → FlowSink

pub data Inclusion : Type 0 where
  -- what the source gives is at the sink
  flows : Source → FlowSink → Inclusion
  -- the delayed calls in the cells of the site are evaluated
  forces : ℕ → Inclusion
  -- the functions that wait for one argument are called with it, and their results are at the sink
  applies : Val → Word → FlowSink → Inclusion
