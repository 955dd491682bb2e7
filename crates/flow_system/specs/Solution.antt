-- Solutions of a flow system.
use Rattle.std.specs.Prelude.{◌≡◌, ◌<◌, ◌≤◌, ◌+◌, ℕ, suc, Bool, true, false, IsTrue, nat_eq, ◌||◌, List, [], ◌∷◌, length, Option, Some, None, slice_get}
use Rattle.grin_syntax.specs.declared.program.VarId.{VarId}
use Rattle.grin_syntax.specs.declared.program.TagId.{TagId}
use Rattle.grin_syntax.specs.declared.program.ProcId.{ProcId}
use Rattle.grin_syntax.specs.declared.program.Tag.{Tag}
use Rattle.grin_syntax.specs.declared.program.GlobalCell.{GlobalCell}
use Rattle.grin_syntax.specs.declared.program.Word as W
use Rattle.grin_syntax.specs.declared.program.Word.TheVariants.{Lit, Var, Global, TagWord}
use Rattle.grin_syntax.specs.declared.program.Val.{Val}
use Rattle.grin_syntax.specs.declared.program.Val.TheVariants.{NodeVar, Node as NodeVal, Vector as VectorVal, One as OneVal}
use Rattle.grin_syntax.specs.declared.program.Target.{Target}
use Rattle.grin_syntax.specs.declared.program.Target.TheVariants.{Nothing, Node as NodeTarget, One as OneTarget, Vector as VectorTarget}
use Rattle.grin_meaning.specs.Run.{is_part_kind, is_fun_kind, part_from}
use Rattle.flow_system.specs.Inclusions.{AbstractWord, cell_of, tag, num, Place, site, var, result, Part, tags, field, word, Source, value, a_cell, a_number, held, nodes_at, word_at, evaluated, extended, arguments, FlowSink, to, into_site, into_result, cells_at, Inclusion, flows, forces, applies}
use Rattle.flow_system.specs.Tables.{Tables, fields_of, params_of}

-- what may be at each place, part by part: finite sets, as lists
abbrev pub Solution : Type 0
Solution = Place → Part → List AbstractWord

abbrev pub same_word : AbstractWord → AbstractWord → Bool
same_word (cell_of s) (cell_of s') = nat_eq s s'
same_word (tag t) (tag t') = nat_eq t t'
same_word num num = true
same_word _ _ = false

abbrev pub among : AbstractWord → List AbstractWord → Bool
among u [] = false
among u (x ∷ xs) = same_word u x || among u xs

-- a set for each part
abbrev pub Sets : Type 1
Sets = Part → AbstractWord → Type 0

-- the solution has the word there
pub record At (A : Solution) (q : Place) (part : Part) (u : AbstractWord) : Type 0 where
  pub there : IsTrue (among u (A q part))

-- words alone: one word
pub data OneWord (S : AbstractWord → Type 0) : Part → AbstractWord → Type 0 where
  one_word : {u : AbstractWord} → S u → OneWord S (word 0) u

-- how many words stand side by side: at most so many, or, for `None`, any number
abbrev pub WordBound : Type 0
WordBound = Option ℕ

-- so many words are enough for a tag and m fields
abbrev pub EnoughWordsForTag : WordBound → ℕ → Type 0
EnoughWordsForTag None m = Unit {0}
EnoughWordsForTag (Some k) m = m < k

-- how many words a source has; of what is held any number
abbrev pub width : Source → WordBound
width (value (VectorVal ws)) = Some (length ws)
width (value (NodeVar x)) = None
width (held q) = None
width _ = Some 1

module _ (p : Tables) where
  -- what stands there as nodes: the nodes, and a node for each tag in the first set of k words
  pub data AsNodes (k : WordBound) (X : Sets) : Part → AbstractWord → Type 0 where
    node_tag : {u : AbstractWord} → X tags u → AsNodes k X tags u
    node_field : {t i : ℕ} {u : AbstractWord} → X (field t i) u → AsNodes k X (field t i) u
    words_tag : {t m : ℕ} → X (word 0) (tag t) → fields_of p t ≡ Some m
        → EnoughWordsForTag k m → AsNodes k X tags (tag t)
    words_field : {t m i : ℕ} {u : AbstractWord} → X (word 0) (tag t) → fields_of p t ≡ Some m
        → EnoughWordsForTag k m → i < m → X (word (suc i)) u → AsNodes k X (field t i) u

  -- what stands there as words: the words, and for each node its tag, its fields, and numbers after
  -- them
  pub data AsWords (X : Sets) : ℕ → AbstractWord → Type 0 where
    word_word : {j : ℕ} {u : AbstractWord} → X (word j) u → AsWords X j u
    tag_word : {u : AbstractWord} → X tags u → AsWords X 0 u
    field_word : {t m j : ℕ} {u : AbstractWord} → X tags (tag t) → fields_of p t ≡ Some m
        → j < m → X (field t j) u → AsWords X (suc j) u
    zero_word : {t m j : ℕ} → X tags (tag t) → fields_of p t ≡ Some m
        → m ≤ j → AsWords X (suc j) num

  -- the tag of an evaluated node
  pub record IsEvaluated (t : ℕ) : Type 0 where
    pub info : Tag
    pub is_tag : slice_get p.tags t ≡ Some info
    pub not_delayed : is_fun_kind info.kind ≡ false

  pub data Evaluated (X : Sets) : Part → AbstractWord → Type 0 where
    evaluated_tag : {t : ℕ} → IsEvaluated t → X tags (tag t) → Evaluated X tags (tag t)
    evaluated_field : {t i : ℕ} {u : AbstractWord} → IsEvaluated t
        → X (field t i) u → Evaluated X (field t i) u

  -- the tag of a delayed call of f
  pub record Delays (t f : ℕ) : Type 0 where
    pub info : Tag
    pub is_tag : slice_get p.tags t ≡ Some info
    pub delayed : is_fun_kind info.kind ≡ true
    pub proc : ProcId
    pub is_proc : info.proc ≡ Some proc
    pub is_f : proc.0 ≡ f

  -- the tag of the function f that waits for r arguments
  pub record Waits (t f r : ℕ) : Type 0 where
    pub info : Tag
    pub is_tag : slice_get p.tags t ≡ Some info
    pub waiting : is_part_kind info.kind ≡ true
    pub proc : ProcId
    pub is_proc : info.proc ≡ Some proc
    pub is_f : proc.0 ≡ f
    pub is_missing : info.missing ≡ r

  module _ (A : Solution) where
    -- what a word stands for
    pub data StandsFor : W.Word → AbstractWord → Type 0 where
      literal : {k : _} → StandsFor (Lit k) num
      variable : {x : VarId} {u : AbstractWord} → At A (var x.0) (word 0) u → StandsFor (Var x) u
      global : {i : ℕ} {c : GlobalCell} → slice_get p.globals i ≡ Some c
          → StandsFor (Global i) (cell_of c.site.0)
      tag_itself : {t : TagId} → StandsFor (TagWord t) (tag t.0)

    pub data WordAmong : List W.Word → ℕ → AbstractWord → Type 0 where
      first : {w : W.Word} {ws : List W.Word} {u : AbstractWord}
          → StandsFor w u → WordAmong (w ∷ ws) 0 u
      later : {w : W.Word} {ws : List W.Word} {j : ℕ} {u : AbstractWord}
          → WordAmong ws j u → WordAmong (w ∷ ws) (suc j) u

    -- what a value stands for
    pub data ValueGives : Val → Part → AbstractWord → Type 0 where
      of_variable : {x : VarId} {part : Part} {u : AbstractWord} → At A (var x.0) part u
          → ValueGives (NodeVar x) part u
      of_node : {t : TagId} {ws : List W.Word} → ValueGives (NodeVal t ws) tags (tag t.0)
      of_field : {t : TagId} {ws : List W.Word} {i : ℕ} {u : AbstractWord}
          → WordAmong ws i u → ValueGives (NodeVal t ws) (field t.0 i) u
      of_words : {ws : List W.Word} {j : ℕ} {u : AbstractWord} → WordAmong ws j u
          → ValueGives (VectorVal ws) (word j) u
      of_word : {w : W.Word} {u : AbstractWord} → StandsFor w u → ValueGives (OneVal w) (word 0) u

    -- word i of a cell of w: the tag, then the fields, then zeros
    pub data FetchGives (w : W.Word) : ℕ → AbstractWord → Type 0 where
      its_tag : {s : ℕ} {u : AbstractWord} → StandsFor w (cell_of s)
          → At A (site s) tags u → FetchGives w 0 u
      its_field : {s t m i : ℕ} {u : AbstractWord} → StandsFor w (cell_of s)
          → At A (site s) tags (tag t) → fields_of p t ≡ Some m → i < m
          → At A (site s) (field t i) u → FetchGives w (suc i) u
      its_zero : {s t m i : ℕ} → StandsFor w (cell_of s) → At A (site s) tags (tag t)
          → fields_of p t ≡ Some m → m ≤ i → FetchGives w (suc i) num

    -- a function that waits for r arguments more, r above 1, takes one
    pub data ExtendGives (X : Sets) (a : W.Word) : Part → AbstractWord → Type 0 where
      extended_tag : {t f r t' : ℕ} → X tags (tag t) → Waits t f (suc (suc r))
          → part_from 0 p.tags f (suc r) ≡ Some t' → ExtendGives X a tags (tag t')
      extended_field : {t f r t' i : ℕ} {u : AbstractWord} → X tags (tag t)
          → Waits t f (suc (suc r)) → part_from 0 p.tags f (suc r) ≡ Some t'
          → X (field t i) u → ExtendGives X a (field t' i) u
      extended_last : {t f r t' m : ℕ} {u : AbstractWord} → X tags (tag t)
          → Waits t f (suc (suc r)) → part_from 0 p.tags f (suc r) ≡ Some t'
          → fields_of p t ≡ Some m → StandsFor a u → ExtendGives X a (field t' m) u

    -- the fields of t, then words
    pub data ArgumentsGive (X : Sets) (t : ℕ) (ws : List W.Word)
        : Part → AbstractWord → Type 0 where
      field_argument : {i : ℕ} {u : AbstractWord} → X tags (tag t) → X (field t i) u
          → ArgumentsGive X t ws (word i) u
      word_argument : {m j n : ℕ} {u : AbstractWord} → X tags (tag t) → fields_of p t ≡ Some m
          → WordAmong ws j u → n ≡ m + j → ArgumentsGive X t ws (word n) u

    abbrev pub Gives : Source → Sets
    Gives (value v) = ValueGives v
    Gives (a_cell s) = OneWord (λ u. u ≡ cell_of s)
    Gives a_number = OneWord (λ u. u ≡ num)
    Gives (held q) = At A q
    Gives (nodes_at w) = λ part u. (s : ℕ) × StandsFor w (cell_of s) × At A (site s) part u
    Gives (word_at w i) = OneWord (FetchGives w i)
    Gives (evaluated s) = Evaluated (AsNodes (width s) (Gives s))
    Gives (extended v a) = ExtendGives (AsNodes (width (value v)) (ValueGives v)) a
    Gives (arguments s t ws) = ArgumentsGive (AsNodes (width s) (Gives s)) t ws

    -- words j and on are in the sets of the variables
    abbrev pub WordsTo : Sets → ℕ → List VarId → Type 0
    WordsTo X j [] = Unit {0}
    WordsTo X j (x ∷ xs) =
        ((u : AbstractWord) → AsWords X j u → At A (var x.0) (word 0) u) × WordsTo X (suc j) xs

    abbrev pub NodesTo : WordBound → Sets → Place → Type 0
    NodesTo k X q = (part : Part) (u : AbstractWord) → AsNodes k X part u → At A q part u

    abbrev pub ReachesTarget : WordBound → Sets → Target → Type 0
    ReachesTarget k X Nothing = Unit {0}
    ReachesTarget k X (NodeTarget x) = NodesTo k X (var x.0)
    ReachesTarget k X (OneTarget x) = (u : AbstractWord) → X (word 0) u → At A (var x.0) (word 0) u
    ReachesTarget k X (VectorTarget xs) = WordsTo X 0 xs

    -- what is given is at the sink; a result has nodes and words, each as given
    abbrev pub Reaches : WordBound → Sets → FlowSink → Type 0
    Reaches k X (to t) = ReachesTarget k X t
    Reaches k X (into_site s) = NodesTo k X (site s)
    Reaches k X (into_result f) =
        (part : Part) (u : AbstractWord) → X part u → At A (result f) part u
    Reaches k X (cells_at w) = (s : ℕ) → StandsFor w (cell_of s) → NodesTo k X (site s)

    abbrev pub FlowsTo : Source → FlowSink → Type 0
    FlowsTo s k = Reaches (width s) (Gives s) k

    abbrev pub Meets : Inclusion → Type 0
    Meets (flows s k) = FlowsTo s k
    Meets (forces s) = (t f : ℕ) → At A (site s) tags (tag t) → Delays t f
        → FlowsTo (arguments (held (site s)) t []) (to (params_of p f))
        × FlowsTo (evaluated (held (result f))) (into_site s)
    Meets (applies v a k) =
        (t f : ℕ) → AsNodes (width (value v)) (ValueGives v) tags (tag t) → Waits t f 1
        → FlowsTo (arguments (value v) t (a ∷ [])) (to (params_of p f))
        × FlowsTo (held (result f)) k

    abbrev pub AllMet : List Inclusion → Type 0
    AllMet [] = Unit {0}
    AllMet (c ∷ cs) = Meets c × AllMet cs

  -- a solution meets all inclusions, and is least where every other one includes it
  abbrev pub Solves : List Inclusion → Solution → Type 0
  Solves cs A = AllMet A cs

  pub record IsLeast (cs : List Inclusion) (A : Solution) : Type 0 where
    pub solves : Solves cs A
    pub least : (B : Solution) → Solves cs B → (q : Place) (part : Part) (u : AbstractWord)
        → At A q part u → At B q part u
