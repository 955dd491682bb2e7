-- What an inclusion asks of a solution, fact by fact.
use Rattle.std.specs.Prelude.{◌≡◌, ℕ, List, [], ◌∷◌, Some, slice_get}
use Rattle.grin_syntax.specs.declared.program.VarId.{VarId}
use Rattle.grin_syntax.specs.declared.program.Word.{Word}
use Rattle.grin_syntax.specs.declared.program.Val.{Val}
use Rattle.grin_syntax.specs.declared.program.Target.TheVariants.{Node as NodeTarget, One as OneTarget, Vector as VectorTarget}
use Rattle.flow_system.specs.Inclusions.{AbstractWord, cell_of, tag, Place, site, var, result, Part, tags, word, Source, value, held, evaluated, arguments, FlowSink, to, into_site, into_result, cells_at, Inclusion, flows, forces, applies}
use Rattle.flow_system.specs.Tables.{Tables, params_of}
use Rattle.flow_system.specs.Solution.{Solution, Sets, At, AsNodes, AsWords, StandsFor, ValueGives, Gives, WordBound, width, Delays, Waits}

module _ (p : Tables) (A : Solution) where
  -- what has to be where, so that the sets reach the sink
  pub data Asks (k : WordBound) (X : Sets) : FlowSink → Place → Part → AbstractWord → Type 0 where
    of_node_variable : {x : VarId} {part : Part} {u : AbstractWord} → AsNodes p k X part u
        → Asks k X (to (NodeTarget x)) (var x.0) part u
    of_variable : {x : VarId} {u : AbstractWord} → X (word 0) u
        → Asks k X (to (OneTarget x)) (var x.0) (word 0) u
    of_vector : {xs : List VarId} {x : VarId} {j : ℕ} {u : AbstractWord} → slice_get xs j ≡ Some x
        → AsWords p X j u → Asks k X (to (VectorTarget xs)) (var x.0) (word 0) u
    of_site : {s : ℕ} {part : Part} {u : AbstractWord} → AsNodes p k X part u
        → Asks k X (into_site s) (site s) part u
    of_result : {f : ℕ} {part : Part} {u : AbstractWord} → X part u
        → Asks k X (into_result f) (result f) part u
    of_cells : {a : Word} {s : ℕ} {part : Part} {u : AbstractWord} → StandsFor p A a (cell_of s)
        → AsNodes p k X part u → Asks k X (cells_at a) (site s) part u

  abbrev pub AsksFlow : Source → FlowSink → Place → Part → AbstractWord → Type 0
  AsksFlow s k = Asks (width s) (Gives p A s) k

  pub data Demands : Inclusion → Place → Part → AbstractWord → Type 0 where
    by_flow : {s : Source} {k : FlowSink} {q : Place} {part : Part} {u : AbstractWord}
        → AsksFlow s k q part u → Demands (flows s k) q part u
    by_delayed : {s : ℕ} {t f : ℕ} {q : Place} {part : Part} {u : AbstractWord}
        → At A (site s) tags (tag t) → Delays p t f
        → AsksFlow (arguments (held (site s)) t []) (to (params_of p f)) q part u
        → Demands (forces s) q part u
    by_evaluated : {s : ℕ} {t f : ℕ} {q : Place} {part : Part} {u : AbstractWord}
        → At A (site s) tags (tag t) → Delays p t f
        → AsksFlow (evaluated (held (result f))) (into_site s) q part u
        → Demands (forces s) q part u
    by_argument : {v : Val} {a : Word} {k : FlowSink} {t f : ℕ} {q : Place} {part : Part}
        {u : AbstractWord} → AsNodes p (width (value v)) (ValueGives p A v) tags (tag t)
        → Waits p t f 1 → AsksFlow (arguments (value v) t (a ∷ [])) (to (params_of p f)) q part u
        → Demands (applies v a k) q part u
    by_applied : {v : Val} {a : Word} {k : FlowSink} {t f : ℕ} {q : Place} {part : Part}
        {u : AbstractWord} → AsNodes p (width (value v)) (ValueGives p A v) tags (tag t)
        → Waits p t f 1 → AsksFlow (held (result f)) k q part u → Demands (applies v a k) q part u

  -- all that an inclusion demands is there
  abbrev pub Content : Inclusion → Type 0
  Content c = (q : Place) (part : Part) (u : AbstractWord) → Demands c q part u → At A q part u
