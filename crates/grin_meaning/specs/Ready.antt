-- What the passes after the inlining need of their input: what stands in its text, and what holds
-- in its runs.
use Rattle.std.specs.Prelude.{ℕ, ℤ, pos, suc, ◌+◌, ◌≡◌, ◌≢◌, ◌≤◌, List, ◌∷◌, drop, length, Some, slice_get}
use Rattle.grin_syntax.specs.declared.program.TagKind.TheVariants as kind
use Rattle.grin_syntax.specs.declared.program.Tag.{Tag}
use Rattle.grin_syntax.specs.declared.program.VarId.{VarId}
use Rattle.grin_syntax.specs.declared.program.Word as W
use Rattle.grin_syntax.specs.declared.program.Val as V
use Rattle.grin_syntax.specs.declared.program.Val.TheVariants.{Vector}
use Rattle.grin_syntax.specs.declared.program.Target as T
use Rattle.grin_syntax.specs.declared.program.Target.TheVariants as to
use Rattle.grin_syntax.specs.declared.program.Cell.{Cell}
use Rattle.grin_syntax.specs.Tree.{Code, store, bind, Act, leaf, unit, fetch, update, case, nested, Program}
use Rattle.grin_syntax.specs.Formed.{AllOf}
use Rattle.grin_meaning.specs.Values as value
use Rattle.grin_meaning.specs.Values.{Datum, number, tag, Value, Env, World, missing, gives, with_vars, fields_of, as_node, words_of}
use Rattle.grin_meaning.specs.Run.{act, calls, run, places}
use Rattle.grin_meaning.specs.Keeps.{ended, end_of}
use Rattle.grin_meaning.specs.Reached.{Called, Runs, Does}
pub use Rattle.grin_meaning.specs.Pieces.{PieceKind}
unfoldable pub use Rattle.grin_meaning.specs.Pieces.{any_kind, EachAct, EachCode, EachArms, EveryBodyIsOfKind, Inlined, inlined_kind, IsNotNodeFetch, without_node_fetches, NoNodeTarget, NoNodeVar, BindsNothing, vectorised_kind, narrow_kind, IsInlined, IsVectorised, IsFetchedByWords, most_fields, value_fields, most_value_fields, val_width, NarrowAct, NarrowCode, NarrowArms}

module _ (g : Program) where
  -- a node with this tag is a delayed call
  abbrev pub IsDelayed : ℕ → Type 0
  IsDelayed t = (tag : Tag) × (slice_get g.tags t ≡ Some tag) × (tag.kind ≡ kind.Fun)

  abbrev pub NotDelayed : Value → Type 0
  NotDelayed v = (n : value.Node) → as_node g v ≡ Some n → IsDelayed n.tag → ⊥

  abbrev pub AllZero : List Datum → Type 0
  AllZero = AllOf (λ d. d ≡ number (pos 0))

  -- after the tag of a number: the number, then zeros
  abbrev pub NumberThenZeros : List Datum → Type 0
  NumberThenZeros ds = (k : ℤ) × ((rest : List Datum) × (ds ≡ number k ∷ rest) × AllZero rest)

  abbrev pub PlainNumber : Value → Type 0
  PlainNumber (value.node n) = n.tag ≡ 0 → NumberThenZeros n.fields
  PlainNumber (value.words ds) = (rest : List Datum) → ds ≡ tag 0 ∷ rest → NumberThenZeros rest

  -- a value that is given: no delayed call, and a number is as it should be
  abbrev pub Given : Value → Type 0
  Given v = NotDelayed v × PlainNumber v

  -- a vector with a tag: no word but zeros past that tag's fields
  abbrev pub Filled : List Datum → Type 0
  Filled ds =
      (t k : ℕ) (rest : List Datum) → ds ≡ tag t ∷ rest → fields_of g t ≡ Some k
      → AllZero (drop k rest)

  abbrev pub ValFilled : Env → V.Val → Type 0
  ValFilled env (Vector ws) = (ds : List Datum) → words_of g env ws ≡ Some ds → Filled ds
  ValFilled env _ = Unit {0}

  abbrev pub HasBlock : Act → Type 0
  HasBlock (case v as') = Unit {0}
  HasBlock (nested b) = Unit {0}
  HasBlock _ = ⊥

  abbrev pub NotFetch : Act → Type 0
  NotFetch (leaf (fetch w)) = ⊥
  NotFetch _ = Unit {0}

  -- in the run on input i with n units
  pub record RunsWell (i : List ℕ) (n : ℕ) : Type 0 where
    -- a node variable that no fetch binds holds no delayed call
    pub node_variables : (m d : ℕ) (env : Env) (x : VarId) (o : Act) (b : Code)
        (w w' : World) (v : Value) → Runs g i n m env d (bind (to.Node x) o b) w → NotFetch o
        → act g (calls g m) env (suc d) o w ≡ gives v w' → NotDelayed v
    -- what a procedure, a bound case and a bound nested block give
    pub results : (m f d : ℕ) (xs : List Datum) (w w' : World) (v : Value)
        → Called g i n m f xs d w → calls g m f xs d w ≡ gives v w' → Given v
    pub blocks : (m d : ℕ) (env : Env) (t : T.Target) (o : Act) (b : Code)
        (w w' : World) (v : Value) → Runs g i n m env d (bind t o b) w → HasBlock o
        → act g (calls g m) env (suc d) o w ≡ gives v w' → Given v
    -- the vectors that units, updates and stores take
    pub units : (m d : ℕ) (env : Env) (v : V.Val) (w : World)
        → Does g i n m env d (leaf (unit v)) w → ValFilled env v
    pub updates : (m d : ℕ) (env : Env) (a : W.Word) (v : V.Val) (w : World)
        → Does g i n m env d (leaf (update a v)) w → ValFilled env v
    pub stores : (m d : ℕ) (env : Env) (cs : List Cell) (b : Code) (w : World)
        → Runs g i n m env d (store cs b) w
        → AllOf (λ c. ValFilled (with_vars (places (length w.cells) cs) env) c.val) cs

-- what all passes after the inlining need
pub record Ready (g : Program) : Type 0 where
  pub inlined : IsInlined g
  pub few_params : AllOf (λ q. length q.params ≤ 16) g.procs
  pub few_results : AllOf (λ q. NarrowCode (1 + most_value_fields g.tags) 13 q.body) g.procs
  pub few_fields : most_fields g.tags ≤ 13
  pub never_missing : (i : List ℕ) (n : ℕ) → end_of (run g i n) ≢ ended missing
  pub runs : (i : List ℕ) (n : ℕ) → RunsWell g i n
