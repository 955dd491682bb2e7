-- What is known so far, place by place, and what of it a source gives, as lists.
use Rattle.std.specs.Prelude.{ℕ, zero, suc, Bool, true, false, cond, not, ◌&&◌, nat_eq, nat_lt, List, [], ◌∷◌, ◌++◌, map, Option, Some, None, slice_get}
use Rattle.std.specs.List.{flat_map}
use Rattle.grin_syntax.specs.declared.program.ProcId.{ProcId}
use Rattle.grin_syntax.specs.declared.program.Tag.{Tag}
use Rattle.grin_syntax.specs.declared.program.GlobalCell.{GlobalCell}
use Rattle.grin_syntax.specs.declared.program.Word as W
use Rattle.grin_syntax.specs.declared.program.Word.TheVariants.{Lit, Var, Global, TagWord}
use Rattle.grin_syntax.specs.declared.program.Val.{Val}
use Rattle.grin_syntax.specs.declared.program.Val.TheVariants.{NodeVar, Node as NodeVal, Vector as VectorVal, One as OneVal}
use Rattle.grin_meaning.specs.Run.{is_part_kind, is_fun_kind, is_some_and, part_from}
use Rattle.flow_system.specs.declared.fact.Element.{Element as AbstractWord}
use Rattle.flow_system.specs.declared.fact.Element.TheVariants.{Cell as cell_of, Tag as tag, Number as num}
use Rattle.flow_system.specs.declared.fact.Place.{Place}
use Rattle.flow_system.specs.declared.fact.Place.TheVariants.{Site as site, Var as var}
use Rattle.flow_system.specs.declared.fact.Part.{Part}
use Rattle.flow_system.specs.declared.fact.Part.TheVariants.{Tags as tags, Field as field, Word as word}
use Rattle.flow_system.specs.Inclusions.{Source, value, a_cell, a_number, held, nodes_at, word_at, evaluated, extended, arguments}
use Rattle.flow_system.specs.Tables.{Tables, fields_of}
use Rattle.flow_system.specs.Solution.{width}
use Rattle.points_to.specs.declared.facts.Item.{Item}
pub use Rattle.seq.specs.Lists.{In, here, there}

abbrev pub item : Part → AbstractWord → Item
item q u = record { part = q; word = u }

abbrev pub same_part : Part → Part → Bool
same_part tags tags = true
same_part (field t i) (field t' i') = nat_eq t t' && nat_eq i i'
same_part (word j) (word j') = nat_eq j j'
same_part _ _ = false

-- the words in one part
abbrev pub word_if_in_part : Part → Item → List AbstractWord
word_if_in_part q i = cond (same_part q i.part) (i.word ∷ []) []

abbrev pub words_in_part : Part → List Item → List AbstractWord
words_in_part q = flat_map (word_if_in_part q)

abbrev pub in_part : Part → List AbstractWord → List Item
in_part q = map (item q)

-- the cell of a global
abbrev pub cell_at : Option GlobalCell → List AbstractWord
cell_at None = []
cell_at (Some c) = cell_of c.site.0 ∷ []

-- whether k words, or any number, are enough for a tag and m fields
abbrev pub words_hold_tag : Option ℕ → ℕ → Bool
words_hold_tag None m = true
words_hold_tag (Some k) m = nat_lt m k

-- an item of a node
abbrev pub node_part : Part → Item → List Item
node_part tags i = i ∷ []
node_part (field t j) i = i ∷ []
node_part (word j) i = []

-- word j, where it is after the first one, as field of a tag with m fields
abbrev pub shifted_word : ℕ → ℕ → ℕ → AbstractWord → List Item
shifted_word t m zero u = []
shifted_word t m (suc j) u = cond (nat_lt j m) (item (field t j) u ∷ []) []

-- a word after the first one, as field of a tag with m fields
abbrev pub field_part : ℕ → ℕ → Part → AbstractWord → List Item
field_part t m tags u = []
field_part t m (field t' j) u = []
field_part t m (word j) u = shifted_word t m j u

-- a field of the tag t, as field of another tag
abbrev pub moved_part : ℕ → ℕ → Part → AbstractWord → List Item
moved_part t t' tags u = []
moved_part t t' (field v j) u = cond (nat_eq v t) (item (field t' j) u ∷ []) []
moved_part t t' (word j) u = []

-- a field of the tag t, as argument
abbrev pub argument_part : ℕ → Part → AbstractWord → List Item
argument_part t tags u = []
argument_part t (field v j) u = cond (nat_eq v t) (item (word j) u ∷ []) []
argument_part t (word j) u = []

-- of what may be there
abbrev pub if_procedure : Option ProcId → (ℕ → Option ℕ) → Option ℕ
if_procedure None k = None
if_procedure (Some f) k = k f.0

abbrev pub if_tag : Option Tag → (Tag → Option ℕ) → Option ℕ
if_tag None k = None
if_tag (Some i) k = k i

abbrev pub if_one_missing : ℕ → ℕ → Option ℕ
if_one_missing f zero = None
if_one_missing f (suc zero) = Some f
if_one_missing f (suc (suc r)) = None

-- field i of the nodes of a tag with m fields, or a number past them
abbrev pub field_or_zero_of : ℕ → ℕ → List Item → ℕ → List AbstractWord
field_or_zero_of i t X m = cond (nat_lt i m) (words_in_part (field t i) X) (num ∷ [])

-- what is at a cell
abbrev pub cell_items : (Place → List Item) → AbstractWord → List Item
cell_items H (cell_of s) = H (site s)
cell_items H (tag t) = []
cell_items H num = []

module _ (p : Tables) where
  -- whether the nodes of a tag are evaluated
  abbrev pub is_done : ℕ → Bool
  is_done t = is_some_and (slice_get p.tags t) (λ i. not (is_fun_kind i.kind))

  -- the procedure that a tag delays
  abbrev pub delayed : ℕ → Option ℕ
  delayed t = if_tag (slice_get p.tags t) (λ i.
      cond (is_fun_kind i.kind) (if_procedure i.proc (λ f. Some f)) None)

  abbrev pub when_more : ℕ → ℕ → Option ℕ
  when_more f zero = None
  when_more f (suc zero) = None
  when_more f (suc (suc r)) = part_from 0 p.tags f (suc r)

  -- the procedure that a tag calls with one argument more, and the tag that it becomes with one
  abbrev pub called : ℕ → Option ℕ
  called t = if_tag (slice_get p.tags t) (λ i.
      cond (is_part_kind i.kind) (if_procedure i.proc (λ f. if_one_missing f i.missing)) None)

  abbrev pub longer : ℕ → Option ℕ
  longer t = if_tag (slice_get p.tags t) (λ i.
      cond (is_part_kind i.kind) (if_procedure i.proc (λ f. when_more f i.missing)) None)

  -- word i of the nodes among the items: the tag, then the fields, then numbers
  abbrev pub field_or_zero : ℕ → ℕ → List Item → Option ℕ → List AbstractWord
  field_or_zero i t X None = []
  field_or_zero i t X (Some m) = field_or_zero_of i t X m

  abbrev pub field_of_tag : ℕ → List Item → AbstractWord → List AbstractWord
  field_of_tag i X (cell_of s) = []
  field_of_tag i X (tag t) = field_or_zero i t X (fields_of p t)
  field_of_tag i X num = []

  abbrev pub fetched : ℕ → List Item → List AbstractWord
  fetched zero X = words_in_part tags X
  fetched (suc i) X = flat_map (field_of_tag i X) (words_in_part tags X)

  -- word j of the items
  abbrev pub as_word : ℕ → List Item → List AbstractWord
  as_word j X = words_in_part (word j) X ++ fetched j X

  -- the items as nodes
  abbrev pub made_node : ℕ → ℕ → List Item → List Item
  made_node t m X = item tags (tag t) ∷ flat_map (λ i. field_part t m i.part i.word) X

  abbrev pub node_of_words : Option ℕ → List Item → ℕ → Option ℕ → List Item
  node_of_words k X t None = []
  node_of_words k X t (Some m) = cond (words_hold_tag k m) (made_node t m X) []

  abbrev pub node_of_word : Option ℕ → List Item → AbstractWord → List Item
  node_of_word k X (cell_of s) = []
  node_of_word k X (tag t) = node_of_words k X t (fields_of p t)
  node_of_word k X num = []

  abbrev pub as_nodes : Option ℕ → List Item → List Item
  as_nodes k X =
      flat_map (λ i. node_part i.part i) X ++ flat_map (node_of_word k X) (words_in_part (word 0) X)

  -- the evaluated ones
  abbrev pub done_tag : AbstractWord → List Item
  done_tag (cell_of s) = []
  done_tag (tag t) = cond (is_done t) (item tags (tag t) ∷ []) []
  done_tag num = []

  abbrev pub done_part : Part → AbstractWord → List Item
  done_part tags u = done_tag u
  done_part (field t j) u = cond (is_done t) (item (field t j) u ∷ []) []
  done_part (word j) u = []

  abbrev pub done_items : List Item → List Item
  done_items = flat_map (λ i. done_part i.part i.word)

  module _ (H : Place → List Item) where
    -- what a word stands for
    abbrev pub elements : W.Word → List AbstractWord
    elements (Lit k) = num ∷ []
    elements (Var x) = words_in_part (word 0) (H (var x.0))
    elements (Global i) = cell_at (slice_get p.globals i)
    elements (TagWord t) = tag t.0 ∷ []

    -- words, numbered from j on
    abbrev pub numbered : (ℕ → Part) → ℕ → List W.Word → List Item
    numbered at j [] = []
    numbered at j (w ∷ ws) = in_part (at j) (elements w) ++ numbered at (suc j) ws

    abbrev pub value_items : Val → List Item
    value_items (NodeVar x) = H (var x.0)
    value_items (NodeVal t ws) = item tags (tag t.0) ∷ numbered (field t.0) 0 ws
    value_items (VectorVal ws) = numbered word 0 ws
    value_items (OneVal w) = in_part (word 0) (elements w)

    abbrev pub fetched_at : ℕ → AbstractWord → List AbstractWord
    fetched_at i (cell_of s) = fetched i (H (site s))
    fetched_at i (tag t) = []
    fetched_at i num = []

    -- functions with one argument more
    abbrev pub last_field : W.Word → ℕ → Option ℕ → List Item
    last_field a t' None = []
    last_field a t' (Some m) = in_part (field t' m) (elements a)

    abbrev pub longer_node : W.Word → List Item → ℕ → Option ℕ → List Item
    longer_node a X t None = []
    longer_node a X t (Some t') =
        item tags (tag t')
        ∷ (flat_map (λ i. moved_part t t' i.part i.word) X ++ last_field a t' (fields_of p t))

    abbrev pub longer_tag : W.Word → List Item → AbstractWord → List Item
    longer_tag a X (cell_of s) = []
    longer_tag a X (tag t) = longer_node a X t (longer t)
    longer_tag a X num = []

    -- the fields of a tag, then words
    abbrev pub after_fields : List W.Word → Option ℕ → List Item
    after_fields ws None = []
    after_fields ws (Some m) = numbered word m ws

    abbrev pub arguments_of : ℕ → List W.Word → List Item → AbstractWord → List Item
    arguments_of t ws X (cell_of s) = []
    arguments_of t ws X (tag u) =
        cond (nat_eq u t)
        (flat_map (λ i. argument_part t i.part i.word) X ++ after_fields ws (fields_of p t)) []
    arguments_of t ws X num = []

    abbrev pub items : Source → List Item
    items (value v) = value_items v
    items (a_cell s) = item (word 0) (cell_of s) ∷ []
    items a_number = item (word 0) num ∷ []
    items (held q) = H q
    items (nodes_at w) = flat_map (cell_items H) (elements w)
    items (word_at w i) = in_part (word 0) (flat_map (fetched_at i) (elements w))
    items (evaluated s) = done_items (as_nodes (width s) (items s))
    items (extended v a) =
        flat_map (longer_tag a (as_nodes (width (value v)) (value_items v)))
        (words_in_part tags (as_nodes (width (value v)) (value_items v)))
    items (arguments s t ws) =
        flat_map (arguments_of t ws (as_nodes (width s) (items s)))
        (words_in_part tags (as_nodes (width s) (items s)))
