-- What lies in the sets of a solution: words, nodes, values, and what targets and patterns bind.
use Rattle.std.proofs.Common.{◌≡◌, ◌<◌, ◌≤◌, ◌+◌, ℕ, zero, suc, Bool, true, false, cond, nat_eq, nat_le, List, [], ◌∷◌, ◌++◌, map, length, take, length-take, Option, Some, None, slice_get, refl, ap, ◌∙◌, subst, arith}
use Rattle.std.specs.Prelude.{IfSome}
use Rattle.std.proofs.lemmas.Bool.Decides.{nat_tests}
use Rattle.grin_syntax.specs.declared.program.VarId.{VarId}
use Rattle.grin_syntax.specs.declared.program.GlobalCell.{GlobalCell}
use Rattle.grin_syntax.specs.declared.program.Target.{Target}
use Rattle.grin_syntax.specs.declared.program.Target.TheVariants.{Nothing, Node as NodeTarget, One as OneTarget, Vector as VectorTarget}
use Rattle.grin_syntax.specs.declared.program.Word as W
use Rattle.grin_syntax.specs.declared.program.Word.TheVariants.{Lit, Var, Global, TagWord}
use Rattle.grin_syntax.specs.declared.program.Val as V
use Rattle.grin_syntax.specs.declared.program.Val.TheVariants.{NodeVar, Node as NodeVal, Vector as VectorVal, One as OneVal}
use Rattle.grin_syntax.specs.Tree.{Procedure, Program}
use Rattle.grin_meaning.specs.Values.{Datum, number, tag as tag', cell, Node, Value, node, words, Env, HeapCell, and_then, Binding, with_vars, one_each, padded, only_word, fields_of, made_node, as_node, word_of, words_of, value_of, bindings_of}
use Rattle.grin_meaning.specs.Run.{place_of, nth_or_zero}
use Rattle.flow_system.specs.Tables.{tables, target_of, params_of}
use Rattle.flow_system.specs.Inclusions.{AbstractWord, cell_of, tag, num, Place, site, var, result, Part, tags, field, word, value, FlowSink, to, into_site, into_result, cells_at}
use Rattle.flow_system.specs.Solution.{Solution, Sets, At, EnoughWordsForTag, AsNodes, node_tag, node_field, words_tag, words_field, AsWords, word_word, tag_word, field_word, zero_word, StandsFor, literal, variable, global, tag_itself, WordAmong, first, later, ValueGives, of_variable, of_node, of_field, of_words, of_word, FetchGives, its_field, its_zero, width, WordsTo, NodesTo, ReachesTarget, Reaches}
use Rattle.flow_system.specs.Covers.{site_at, DatumIn, WordsAreInSets, NodeIn, ValueIn, GlobalCellsComeFirst}
use Rattle.grin_meaning.proofs.Fullness.{if_and}

-- of what may be there
pub from_some : {A : Type 0} (P : A → Type 0) (o : Option A) (a : A) → IfSome o P → o ≡ Some a → P a
from_some P o a h e = subst (λ x. IfSome x P) e h

pub if_map : {A : Type 0} (P Q : A → Type 0) (o : Option A) → IfSome o P → ((a : A) → P a → Q a)
    → IfSome o Q
if_map P Q None h f = tt
if_map P Q (Some a) h f = f a h

pub if_is : {A : Type 0} (P : A → Type 0) (o : Option A) → ((a : A) → o ≡ Some a → P a) → IfSome o P
if_is P None h = tt
if_is P (Some a) h = h a refl

pub datum_mono : (h : List HeapCell) (S T : AbstractWord → Type 0)
    → ((u : AbstractWord) → S u → T u) → (d : Datum) → DatumIn h S d → DatumIn h T d
datum_mono h S T f (number k) x = f num x
datum_mono h S T f (tag' t) x = f (tag t) x
datum_mono h S T f (cell a) x = (x.0, x.1, f (cell_of x.0) x.2)

pub all_mono : (h : List HeapCell) (W W' : ℕ → AbstractWord → Type 0)
    → ((j : ℕ) (u : AbstractWord) → W j u → W' j u) → (i : ℕ) (ds : List Datum)
    → WordsAreInSets h W i ds → WordsAreInSets h W' i ds
all_mono h W W' f i [] x = tt
all_mono h W W' f i (d ∷ ds) x =
    (datum_mono h (W i) (W' i) (f i) d x.0, all_mono h W W' f (suc i) ds x.1)

-- the same of words that are fewer than m
pub all_below : (h : List HeapCell) (W W' : ℕ → AbstractWord → Type 0) (m : ℕ)
    → ((j : ℕ) (u : AbstractWord) → j < m → W j u → W' j u) → (i : ℕ) (ds : List Datum)
    → i + length ds ≤ m → WordsAreInSets h W i ds → WordsAreInSets h W' i ds
all_below h W W' m f i [] le x = tt
all_below h W W' m f i (d ∷ ds) le x = (
  datum_mono h (W i) (W' i) (λ u. f i u (omega arith)) d x.0,
  all_below h W W' m f (suc i) ds (omega arith) x.1,
)

pub all_later : (h : List HeapCell) (W W' : ℕ → AbstractWord → Type 0)
    → ((j : ℕ) (u : AbstractWord) → W j u → W' (suc j) u) → (i : ℕ) (ds : List Datum)
    → WordsAreInSets h W i ds → WordsAreInSets h W' (suc i) ds
all_later h W W' f i [] x = tt
all_later h W W' f i (d ∷ ds) x =
    (datum_mono h (W i) (W' (suc i)) (f i) d x.0, all_later h W W' f (suc i) ds x.1)

pub all_earlier : (h : List HeapCell) (W W' : ℕ → AbstractWord → Type 0)
    → ((j : ℕ) (u : AbstractWord) → W (suc j) u → W' j u) → (i : ℕ) (ds : List Datum)
    → WordsAreInSets h W (suc i) ds → WordsAreInSets h W' i ds
all_earlier h W W' f i [] x = tt
all_earlier h W W' f i (d ∷ ds) x =
    (datum_mono h (W (suc i)) (W' i) (f i) d x.0, all_earlier h W W' f (suc i) ds x.1)

all_take : (h : List HeapCell) (W : ℕ → AbstractWord → Type 0) (m i : ℕ) (ds : List Datum)
    → WordsAreInSets h W i ds → WordsAreInSets h W i (take m ds)
all_take h W zero i ds x = tt
all_take h W (suc m) i [] x = tt
all_take h W (suc m) i (d ∷ ds) x = (x.0, all_take h W m (suc i) ds x.1)

pub all_snoc : (h : List HeapCell) (W : ℕ → AbstractWord → Type 0) (i n : ℕ) (ds : List Datum)
    (d : Datum) → n ≡ i + length ds → WordsAreInSets h W i ds → DatumIn h (W n) d
    → WordsAreInSets h W i (ds ++ d ∷ [])
all_snoc h W i n [] d e x y = (subst (λ k. DatumIn h (W k) d) (omega arith) y, tt)
all_snoc h W i n (d' ∷ ds) d e x y = (x.0, all_snoc h W (suc i) n ds d (omega arith) x.1 y)

-- a heap with more cells, where each that was there has its site
pub record Extends (h h' : List HeapCell) : Type 0 where
  pub by : (a s : ℕ) → site_at h a ≡ Some s → site_at h' a ≡ Some s

pub extends_self : (h : List HeapCell) → Extends h h
extends_self h = record { by = λ a s e. e }

pub extends_on : (h h' h'' : List HeapCell) → Extends h h' → Extends h' h'' → Extends h h''
extends_on h h' h'' e f = record { by = λ a s p. f.by a s (e.by a s p) }

module _ (h h' : List HeapCell) (e : Extends h h') where
  pub datum_on : (S : AbstractWord → Type 0) (d : Datum) → DatumIn h S d → DatumIn h' S d
  datum_on S (number k) x = x
  datum_on S (tag' t) x = x
  datum_on S (cell a) x = (x.0, e.by a x.0 x.1, x.2)

  pub all_on : (W : ℕ → AbstractWord → Type 0) (i : ℕ) (ds : List Datum) → WordsAreInSets h W i ds
      → WordsAreInSets h' W i ds
  all_on W i [] x = tt
  all_on W i (d ∷ ds) x = (datum_on (W i) d x.0, all_on W (suc i) ds x.1)

  pub node_on : (p : Program) (X : Sets) (n : Node) → NodeIn p h X n → NodeIn p h' X n
  node_on p X n x = record {
    full = x.full;
    tag_in = x.tag_in;
    fields_in
        = all_on (λ i. X (field n.tag i)) 0 n.fields x.fields_in;
  }

  pub value_on : (p : Program) (X : Sets) (v : Value) → ValueIn p h X v → ValueIn p h' X v
  value_on p X (node n) x = node_on p X n x
  value_on p X (words ds) x = all_on (λ j. X (word j)) 0 ds x

pub node_mono : (p : Program) (h : List HeapCell) (X Y : Sets) (n : Node)
    → (X tags (tag n.tag) → Y tags (tag n.tag)) →
    ((i : ℕ) (u : AbstractWord) → X (field n.tag i) u → Y (field n.tag i) u) → NodeIn p h X n
    → NodeIn p h Y n
node_mono p h X Y n f g x = record {
  full = x.full;
  tag_in = f x.tag_in;
  fields_in
      = all_mono h (λ i. X (field n.tag i)) (λ i. Y (field n.tag i)) g 0 n.fields x.fields_in;
}

pub value_mono : (p : Program) (h : List HeapCell) (X Y : Sets)
    → ((part : Part) (u : AbstractWord) → X part u → Y part u) → (v : Value) → ValueIn p h X v
    → ValueIn p h Y v
value_mono p h X Y f (node n) x = node_mono p h X Y n (f tags (tag n.tag)) (λ i. f (field n.tag i))
    x
value_mono p h X Y f (words ds) x = all_mono h (λ j. X (word j)) (λ j. Y (word j)) (λ j. f (word j))
    0 ds x

-- at most so many words
abbrev pub Narrow : Option ℕ → Value → Type 0
Narrow k (node n) = Unit {0}
Narrow None (words ds) = Unit {0}
Narrow (Some k) (words ds) = length ds ≤ k

module _ (p : Program) (h : List HeapCell) where
  pub node_as_node : (k : Option ℕ) (X : Sets) (n : Node) → NodeIn p h X n
      → NodeIn p h (AsNodes (tables p) k X) n
  node_as_node k X n x = node_mono p h X (AsNodes (tables p) k X) n node_tag (λ i u. node_field) x

  enough : (k : Option ℕ) (d : Datum) (ds : List Datum) (m : ℕ) → Narrow k (words (d ∷ ds))
      → m ≤ length ds → EnoughWordsForTag k m
  enough None d ds m x le = tt
  enough (Some k) d ds m x le = omega arith

  nat_le-true : (m n : ℕ) → nat_le m n ≡ true → m ≤ n
  nat_le-true m n e = grind (arith, nat_tests)

  words_as_node : (k : Option ℕ) (X : Sets) (t : ℕ) (ds : List Datum)
      → ValueIn p h X (words (tag' t ∷ ds)) → Narrow k (words (tag' t ∷ ds))
      → IfSome (as_node p (words (tag' t ∷ ds))) (NodeIn p h (AsNodes (tables p) k X))
  words_as_node k X t ds x w = go (fields_of p t) refl
    where
      go : (o : Option ℕ) → fields_of p t ≡ o → IfSome
          (and_then o
          (λ m. cond (nat_le m (length ds)) (Some (record { tag = t; fields = take m ds })) None))
          (NodeIn p h (AsNodes (tables p) k X))
      go None e = tt
      go (Some m) e = on (nat_le m (length ds)) refl
        where
          on : (b : Bool) → nat_le m (length ds) ≡ b
              → IfSome (cond b (Some (record { tag = t; fields = take m ds })) None)
              (NodeIn p h (AsNodes (tables p) k X))
          on false q = tt
          on true q =
              let le : m ≤ length ds = nat_le-true m (length ds) q in
              let en : EnoughWordsForTag k m = enough k (tag' t) ds m w le in
              record {
                full = e ∙ ap Some (omega (arith, length-take m ds));
                tag_in = words_tag x.0 e en;
                fields_in = all_below h (λ j. X (word (suc j)))
                    (λ i. AsNodes (tables p) k X (field t i)) m
                    (λ j u l y. words_field x.0 e en l y) 0 (take m ds)
                    (omega (arith, length-take m ds))
                    (all_take h (λ j. X (word (suc j))) m 0 ds
                    (all_earlier h (λ j. X (word j)) (λ j. X (word (suc j))) (λ j u y. y) 0 ds
                    x.1));
              }

  pub value_as_node : (k : Option ℕ) (X : Sets) (v : Value) → ValueIn p h X v → Narrow k v
      → IfSome (as_node p v) (NodeIn p h (AsNodes (tables p) k X))
  value_as_node k X (node n) x w = node_as_node k X n x
  value_as_node k X (words []) x w = tt
  value_as_node k X (words (number i ∷ ds)) x w = tt
  value_as_node k X (words (cell a ∷ ds)) x w = tt
  value_as_node k X (words (tag' t ∷ ds)) x w = words_as_node k X t ds x w

  pub made_if : (t : ℕ) (ds : List Datum) (Q : Node → Type 0)
      → (fields_of p t ≡ Some (length ds) → Q (record { tag = t; fields = ds }))
      → IfSome (made_node p t ds) Q
  made_if t ds Q f = go (fields_of p t) refl
    where
      same : (k : ℕ) → nat_eq k (length ds) ≡ true → k ≡ length ds
      same k e = grind (arith, nat_tests)

      go : (o : Option ℕ) → fields_of p t ≡ o → IfSome
          (and_then o
          (λ k. cond (nat_eq k (length ds)) (Some (record { tag = t; fields = ds })) None)) Q
      go None e = tt
      go (Some k) e = on (nat_eq k (length ds)) refl
        where
          on : (b : Bool) → nat_eq k (length ds) ≡ b
              → IfSome (cond b (Some (record { tag = t; fields = ds })) None) Q
          on false q = tt
          on true q = f (e ∙ ap Some (same k q))

  module _ (A : Solution) where
    abbrev pub BindingsLie : List Binding → Type 0
    BindingsLie [] = Unit {0}
    BindingsLie (b ∷ bs) = ValueIn p h (At A (var b.0)) b.1 × BindingsLie bs

    pub words_bound : (X : Sets) (j : ℕ) (xs : List VarId) (ds : List Datum)
        → WordsTo (tables p) A X j xs → WordsAreInSets h (AsWords (tables p) X) j ds
        → IfSome (one_each xs ds) BindingsLie
    words_bound X j [] [] r x = tt
    words_bound X j [] (d ∷ ds) r x = tt
    words_bound X j (y ∷ xs) [] r x = tt
    words_bound X j (y ∷ xs) (d ∷ ds) r x = if_and BindingsLie BindingsLie (one_each xs ds) _
        (words_bound X (suc j) xs ds r.1 x.1)
        (λ bs l. (
          (datum_mono h (AsWords (tables p) X j) (At A (var y.0) (word 0)) r.0 d x.0, tt),
          l,
        ))

    zeros_lie : (X : Sets) (t m k i : ℕ) → X tags (tag t) → fields_of p t ≡ Some m → m ≤ i
        → WordsAreInSets h (AsWords (tables p) X) (suc i) (padded k [])
    zeros_lie X t m zero i y e le = tt
    zeros_lie X t m (suc k) i y e le =
        (zero_word y e le, zeros_lie X t m k (suc i) y e (omega arith))

    fields_lie : (X : Sets) (t m k i : ℕ) (ds : List Datum) → X tags (tag t)
        → fields_of p t ≡ Some m → m ≡ i + length ds → WordsAreInSets h (λ j. X (field t j)) i ds
        → WordsAreInSets h (AsWords (tables p) X) (suc i) (padded k ds)
    fields_lie X t m zero i [] y e q x = tt
    fields_lie X t m zero i (d ∷ ds) y e q x = (
      datum_mono h (X (field t i)) (AsWords (tables p) X (suc i))
          (λ u z. field_word {j = i} y e (omega arith) z) d x.0,
      fields_lie X t m zero (suc i) ds y e (omega arith) x.1,
    )
    fields_lie X t m (suc k) i [] y e q x = zeros_lie X t m (suc k) i y e (omega arith)
    fields_lie X t m (suc k) i (d ∷ ds) y e q x = (
      datum_mono h (X (field t i)) (AsWords (tables p) X (suc i))
          (λ u z. field_word {j = i} y e (omega arith) z) d x.0,
      fields_lie X t m k (suc i) ds y e (omega arith) x.1,
    )

    node_padded : (X : Sets) (k : ℕ) (n : Node) → NodeIn p h X n
        → WordsAreInSets h (AsWords (tables p) X) 0 (padded k (tag' n.tag ∷ n.fields))
    node_padded X zero n x = (
      tag_word x.tag_in,
      fields_lie X n.tag (length n.fields) zero 0 n.fields x.tag_in x.full
          (omega arith) x.fields_in,
    )
    node_padded X (suc k) n x = (
      tag_word x.tag_in,
      fields_lie X n.tag (length n.fields) k 0 n.fields x.tag_in x.full
          (omega arith) x.fields_in,
    )

    -- what a target binds
    pub target_lies : (k : Option ℕ) (X : Sets) (t : Target) (v : Value)
        → ReachesTarget (tables p) A k X t → ValueIn p h X v → Narrow k v
        → IfSome (bindings_of p t v) BindingsLie
    target_lies k X Nothing (node n) r x w = tt
    target_lies k X Nothing (words []) r x w = tt
    target_lies k X Nothing (words (d ∷ ds)) r x w = tt
    target_lies k X (NodeTarget y) v r x w = if_and (NodeIn p h (AsNodes (tables p) k X))
        BindingsLie (as_node p v) _ (value_as_node k X v x w)
        (λ n l. (
          node_mono p h (AsNodes (tables p) k X) (At A (var y.0)) n (r tags (tag n.tag))
              (λ i. r (field n.tag i)) l,
          tt,
        ))
    target_lies k X (OneTarget y) (node n) r x w = tt
    target_lies k X (OneTarget y) (words []) r x w = tt
    target_lies k X (OneTarget y) (words (d ∷ [])) r x w
        = ((datum_mono h (X (word 0)) (At A (var y.0) (word 0)) r d x.0, tt), tt)
    target_lies k X (OneTarget y) (words (d ∷ d' ∷ ds)) r x w = tt
    target_lies k X (VectorTarget xs) (node n) r x w
        = words_bound X 0 xs (padded (length xs) (tag' n.tag ∷ n.fields)) r
        (node_padded X (length xs) n x)
    target_lies k X (VectorTarget xs) (words ds) r x w
        = words_bound X 0 xs ds r
        (all_mono h (λ j. X (word j)) (AsWords (tables p) X) (λ j u. word_word) 0 ds x)

    -- a value is as a sink wants it
    abbrev pub Lands : Value → FlowSink → Type 0
    Lands v (to t) = IfSome (bindings_of p t v) BindingsLie
    Lands v (into_site s) = IfSome (as_node p v) (NodeIn p h (At A (site s)))
    Lands v (into_result f) = ValueIn p h (At A (result f)) v
    Lands v (cells_at a) = (s : ℕ) → StandsFor (tables p) A a (cell_of s)
        → IfSome (as_node p v) (NodeIn p h (At A (site s)))

    node_lands : (k : Option ℕ) (X : Sets) (q : Place) (v : Value) → NodesTo (tables p) A k X q
        → ValueIn p h X v → Narrow k v → IfSome (as_node p v) (NodeIn p h (At A q))
    node_lands k X q v r x w = if_map (NodeIn p h (AsNodes (tables p) k X)) (NodeIn p h (At A q))
        (as_node p v) (value_as_node k X v x w)
        (λ n. node_mono p h (AsNodes (tables p) k X) (At A q) n (r tags (tag n.tag))
        (λ i. r (field n.tag i)))

    pub lands : (k : Option ℕ) (X : Sets) (s : FlowSink) (v : Value) → Reaches (tables p) A k X s
        → ValueIn p h X v → Narrow k v → Lands v s
    lands k X (to t) v r x w = target_lies k X t v r x w
    lands k X (into_site s) v r x w = node_lands k X (site s) v r x w
    lands k X (into_result f) v r x w = value_mono p h X (At A (result f)) r v x
    lands k X (cells_at a) v r x w = λ s y. node_lands k X (site s) v (r s y) x w

    -- no words land anywhere
    pub nothing_lands : (s : FlowSink) → Lands (words []) s
    nothing_lands (to Nothing) = tt
    nothing_lands (to (NodeTarget x)) = tt
    nothing_lands (to (OneTarget x)) = tt
    nothing_lands (to (VectorTarget [])) = tt
    nothing_lands (to (VectorTarget (x ∷ xs))) = tt
    nothing_lands (into_site s) = tt
    nothing_lands (into_result f) = tt
    nothing_lands (cells_at a) = λ s y. tt

    -- arguments of a call
    abbrev pub ArgumentsLie : ℕ → List Datum → Type 0
    ArgumentsLie f xs = IfSome (slice_get p.procs f)
        (λ q. IfSome (one_each q.params xs) BindingsLie)

    params_at : (qs : List Procedure) (f : ℕ) (q : Procedure) → slice_get qs f ≡ Some q
        → slice_get (map (λ q. q.params) qs) f ≡ Some q.params
    params_at [] f q e = cc
    params_at (x ∷ qs) zero q e = let same : x ≡ q = cc in ap (λ y. Some y.params) same
    params_at (x ∷ qs) (suc f) q e = params_at qs f q e

    pub parameters_lie : (k : Option ℕ) (X : Sets) (f : ℕ) (xs : List Datum)
        → ReachesTarget (tables p) A k X (params_of (tables p) f)
        → WordsAreInSets h (λ j. X (word j)) 0 xs → ArgumentsLie f xs
    parameters_lie k X f xs r x = if_is (λ q. IfSome (one_each q.params xs) BindingsLie)
        (slice_get p.procs f) (λ q e.
        words_bound X 0 q.params xs
        (subst (λ o. ReachesTarget (tables p) A k X (target_of o)) (params_at p.procs f q e) r)
        (all_mono h (λ j. X (word j)) (AsWords (tables p) X) (λ j u. word_word) 0 xs x))

    -- word i of a node, or zero
    pub nth_lies : (a : W.Word) (s t m l j i : ℕ) (ds : List Datum)
        → StandsFor (tables p) A a (cell_of s) → At A (site s) tags (tag t) → fields_of p t ≡ Some m
        → m ≡ j + length ds → l ≡ j + i
        → WordsAreInSets h (λ i. At A (site s) (field t i)) j ds
        → DatumIn h (FetchGives (tables p) A a (suc l)) (nth_or_zero ds i)
    nth_lies a s t m l j i [] y z e q r x = its_zero y z e (omega arith)
    nth_lies a s t m l j zero (d ∷ ds) y z e q r x = datum_mono h (At A (site s) (field t j))
        (FetchGives (tables p) A a (suc l))
        (λ u k. its_field {i = l} y z e (omega arith)
        (subst (λ i. At A (site s) (field t i) u) (omega arith) k)) d x.0
    nth_lies a s t m l j (suc i) (d ∷ ds) y z e q r x
        = nth_lies a s t m l (suc j) i ds y z e (omega arith) (omega arith) x.1

    abbrev pub EnvLies : Env → Type 0
    EnvLies env = (x : ℕ) → IfSome (env x) (ValueIn p h (At A (var x)))

    pub env_with : (bs : List Binding) (env : Env) → EnvLies env → BindingsLie bs
        → EnvLies (with_vars bs env)
    env_with [] env e l = e
    env_with (b ∷ bs) env e l = env_with bs (λ y. cond (nat_eq y b.0) (Some b.1) (env y))
        (λ y. one y (nat_eq y b.0) refl) l.1
      where
        same : (y : ℕ) → nat_eq y b.0 ≡ true → b.0 ≡ y
        same y q = grind (arith, nat_tests)

        one : (y : ℕ) (t : Bool) → nat_eq y b.0 ≡ t
            → IfSome (cond t (Some b.1) (env y)) (ValueIn p h (At A (var y)))
        one y true q = subst (λ z. ValueIn p h (At A (var z)) b.1) (same y q) l.0
        one y false q = e y

    module _ (gs : GlobalCellsComeFirst p h) (env : Env) (el : EnvLies env) where
      only_lies : (x : VarId) (v : Value) → ValueIn p h (At A (var x.0)) v
          → IfSome (only_word v) (DatumIn h (StandsFor (tables p) A (Var x)))
      only_lies x (node n) l = tt
      only_lies x (words []) l = tt
      only_lies x (words (d ∷ [])) l = datum_mono h (At A (var x.0) (word 0))
          (StandsFor (tables p) A (Var x)) (λ u. variable) d l.0
      only_lies x (words (d ∷ d' ∷ ds)) l = tt

      pub word_lies : (a : W.Word) → IfSome (word_of p env a) (DatumIn h (StandsFor (tables p) A a))
      word_lies (Lit k) = literal
      word_lies (Var x) = if_and (ValueIn p h (At A (var x.0)))
          (DatumIn h (StandsFor (tables p) A (Var x))) (env x.0) only_word (el x.0) (only_lies x)
      word_lies (Global i) = if_and
          (λ c. (c' : GlobalCell) × (slice_get p.globals i ≡ Some c')
          × (site_at h i ≡ Some c'.site.0)) (DatumIn h (StandsFor (tables p) A (Global i)))
          (slice_get p.globals i) _
          (if_is _ (slice_get p.globals i)
          (λ c e. (
            c,
            e,
            from_some (λ c. site_at h i ≡ Some c.site.0) (slice_get p.globals i) c
                (gs i) e,
          )))
          (λ c l. (l.0.site.0, l.2, global l.1))
      word_lies (TagWord t) = tag_itself

      abbrev pub WordsLie : List W.Word → List Datum → Type 0
      WordsLie ws ds = WordsAreInSets h (WordAmong (tables p) A ws) 0 ds × (length ds ≡ length ws)

      abbrev pub GivenIn : V.Val → Value → Type 0
      GivenIn v x = ValueIn p h (ValueGives (tables p) A v) x × Narrow (width (value v)) x

      pub words_lie : (ws : List W.Word) → IfSome (words_of p env ws) (WordsLie ws)
      words_lie [] = (tt, refl)
      words_lie (a ∷ ws) = if_and (DatumIn h (StandsFor (tables p) A a)) (WordsLie (a ∷ ws))
          (word_of p env a) _ (word_lies a)
          (λ d l. if_and (WordsLie ws) (WordsLie (a ∷ ws)) (words_of p env ws) _ (words_lie ws)
          (λ ds m. (
            (
              datum_mono h (StandsFor (tables p) A a) (WordAmong (tables p) A (a ∷ ws) 0)
                  (λ u. first) d l,
              all_later h (WordAmong (tables p) A ws)
                  (WordAmong (tables p) A (a ∷ ws)) (λ j u. later) 0 ds m.0,
            ),
            omega (arith, m.1),
          )))

      pub value_lies : (v : V.Val) → IfSome (value_of p env v) (GivenIn v)
      value_lies (NodeVar x) = if_map (ValueIn p h (At A (var x.0))) (GivenIn (NodeVar x)) (env x.0)
          (el x.0) (λ v l. (
            value_mono p h (At A (var x.0)) (ValueGives (tables p) A (NodeVar x))
                (λ part u. of_variable) v l,
            wide v,
          ))
        where
          wide : (v : Value) → Narrow None v
          wide (node n) = tt
          wide (words ds) = tt
      value_lies (NodeVal t ws) = if_and (WordsLie ws) (GivenIn (NodeVal t ws)) (words_of p env ws)
          _ (words_lie ws)
          (λ ds l. if_and (NodeIn p h (ValueGives (tables p) A (NodeVal t ws)))
          (GivenIn (NodeVal t ws)) (made_node p t.0 ds) _
          (made_if t.0 ds (NodeIn p h (ValueGives (tables p) A (NodeVal t ws)))
          (λ e. record {
            full = e;
            tag_in = of_node;
            fields_in
                = all_mono h (WordAmong (tables p) A ws)
                (λ i. ValueGives (tables p) A (NodeVal t ws) (field t.0 i)) (λ i u. of_field) 0 ds
                l.0;
          }))
          (λ n m. (m, tt)))
      value_lies (VectorVal ws) = if_and (WordsLie ws) (GivenIn (VectorVal ws)) (words_of p env ws)
          _ (words_lie ws)
          (λ ds l. (
            all_mono h (WordAmong (tables p) A ws)
                (λ j. ValueGives (tables p) A (VectorVal ws) (word j)) (λ j u. of_words) 0 ds l.0,
            omega (arith, l.1),
          ))
      value_lies (OneVal a) = if_and (DatumIn h (StandsFor (tables p) A a)) (GivenIn (OneVal a))
          (word_of p env a) _ (word_lies a)
          (λ d l. (
            (
              datum_mono h (StandsFor (tables p) A a)
                  (ValueGives (tables p) A (OneVal a) (word 0)) (λ u. of_word) d l,
              tt,
            ),
            omega arith,
          ))

      pub node_lies : (v : V.Val) → IfSome (and_then (value_of p env v) (as_node p))
          (NodeIn p h (AsNodes (tables p) (width (value v)) (ValueGives (tables p) A v)))
      node_lies v = if_and (GivenIn v)
          (NodeIn p h (AsNodes (tables p) (width (value v)) (ValueGives (tables p) A v)))
          (value_of p env v) (as_node p) (value_lies v)
          (λ x l. value_as_node (width (value v)) (ValueGives (tables p) A v) x l.0 l.1)

      -- a cell that a word stands for
      pub place_lies : (a : W.Word) → IfSome (and_then (word_of p env a) place_of)
          (λ i. (s : ℕ) × (site_at h i ≡ Some s) × StandsFor (tables p) A a (cell_of s))
      place_lies a = if_and (DatumIn h (StandsFor (tables p) A a))
          (λ i. (s : ℕ) × (site_at h i ≡ Some s) × StandsFor (tables p) A a (cell_of s))
          (word_of p env a) place_of (word_lies a) on
        where
          on : (d : Datum) → DatumIn h (StandsFor (tables p) A a) d
              → IfSome (place_of d)
              (λ i. (s : ℕ) × (site_at h i ≡ Some s) × StandsFor (tables p) A a (cell_of s))
          on (number k) l = tt
          on (tag' t) l = tt
          on (cell i) l = l
