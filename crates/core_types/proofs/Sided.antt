-- Types of solutions, read from rows of pieces.
use Rattle.std.proofs.Common.{◌≡◌, ℕ, suc, ◌+◌, ◌-◌, List, [], ◌∷◌, ◌++◌, length, map, take, drop, refl, sym, ap, subst, ◌∙◌, arith, length-append, length-take}
use Rattle.std.proofs.lemmas.List.{take_at, drop_at, take-map, drop-map}
use Rattle.std.specs.declared.boxed.Box.{Box}
use Rattle.std.specs.declared.alloc.Global.{Global}
use Rattle.seq.proofs.Lists.{append_nil, append_again, length_map, map_push}
use Rattle.core_reader.specs.declared.syntax.NameId.{NameId}
use Rattle.unification.specs.declared.pieces.Piece.{Piece}
use Rattle.unification.specs.declared.pieces.Piece.TheVariants as piece
use Rattle.unification.specs.declared.term.Symbol.{Symbol}
use Rattle.unification.specs.declared.term.Symbol.TheVariants as symbol
use Rattle.unification.specs.Trees.{Tree, Trees, Open, Made, NoTrees, AndTree}
use Rattle.unification.specs.Pieces.{tree_count, pieces, pieces_all}
use Rattle.core_types.specs.declared.sides.Ty.{Ty, fold-roll-Ty}
use Rattle.core_types.specs.declared.sides.Ty.TheVariants as variant
use Rattle.core_types.specs.declared.sides.Ty.TheOpen as layer
use Rattle.core_types.specs.Typing.{Typed, AndTyped, Int, Rigid, Named, Arrow}
use Rattle.core_types.specs.Sides.{types_from, variable, type_layer, type_of, back_all, typed_of, IsTypeTree, AreTypeTrees, trees_from, HasReadArguments, read_piece, read_back}

-- ---- the types of the code

pub type-Int : type_of variant.Int ≡ Int
type-Int = ap type_of (sym variant.rolls-Int) ∙ fold-roll-Ty Typed type_layer layer.Int

pub type-Open : (n : ℕ) → type_of (variant.Open n) ≡ variable n
type-Open n = ap type_of (sym (variant.rolls-Open n)) ∙ fold-roll-Ty Typed type_layer (layer.Open n)

pub type-Rigid : (f v : NameId) → type_of (variant.Rigid f v) ≡ Rigid f.0 v.0
type-Rigid f v = ap type_of (sym (variant.rolls-Rigid f v)) ∙ fold-roll-Ty Typed type_layer
    (layer.Rigid f v)

pub type-Named : (name : NameId) (args : List Ty) → type_of (variant.Named name args) ≡ Named name.0
    (types_from (map type_of args))
type-Named name args = ap type_of (sym (variant.rolls-Named name args)) ∙ fold-roll-Ty Typed
    type_layer (layer.Named name args)

pub type-Arrow : (from to : Box Ty Global) → type_of (variant.Arrow from to) ≡ Arrow
    (type_of from.value) (type_of to.value)
type-Arrow from to = ap type_of (sym (variant.rolls-Arrow from to)) ∙ fold-roll-Ty Typed type_layer
    (layer.Arrow from to)

pub ruleset types = (type-Int, type-Open, type-Rigid, type-Named, type-Arrow)

-- ---- symbols with their arguments

back_all_from : (ts : List Tree) → back_all variable (trees_from ts) ≡ types_from (map typed_of ts)
back_all_from [] = refl
back_all_from (t ∷ ts) = ap (AndTyped (typed_of t)) (back_all_from ts)

pub named_from : (c : ℕ) (args : List Typed) (ts : List Tree) → args ≡ map typed_of ts
    → Named c (types_from args) ≡ typed_of (Made (symbol.Named c) (trees_from ts))
named_from c args ts e = ap (λ us. Named c (types_from us)) e ∙ sym
    (ap (Named c) (back_all_from ts))

pub integer_from : (args : List Typed) (ts : List Tree) → args ≡ [] → args ≡ map typed_of ts
    → Int ≡ typed_of (Made symbol.Integer (trees_from ts))
integer_from args [] e f = refl
integer_from args (t ∷ ts) e f = absurd
    (let g : [] ≡ typed_of t ∷ map typed_of ts = sym e ∙ f in cc)

pub arrow_from : (u v : Typed) (ts : List Tree) → u ∷ (v ∷ []) ≡ map typed_of ts
    → Arrow u v ≡ typed_of (Made symbol.Arrow (trees_from ts))
arrow_from u v [] e = absurd cc
arrow_from u v (t ∷ []) e = absurd cc
arrow_from u v (t ∷ (w ∷ [])) e = cc
arrow_from u v (t ∷ (w ∷ (x ∷ ts))) e = absurd cc

-- ---- rows

abbrev trees_in : Trees → List Tree
trees_in NoTrees = []
trees_in (AndTree t ts) = t ∷ trees_in ts

in_and_from : (ts : Trees) → trees_from (trees_in ts) ≡ ts
in_and_from NoTrees = refl
in_and_from (AndTree t ts) = ap (AndTree t) (in_and_from ts)

many_in : (ts : Trees) → length (trees_in ts) ≡ tree_count ts
many_in NoTrees = refl
many_in (AndTree t ts) = ap suc (many_in ts)

read_append : (ps qs : List Piece) (ts : List Tree)
    → read_back (ps ++ qs) ts ≡ read_back ps (read_back qs ts)
read_append [] qs ts = refl
read_append (p ∷ ps) qs ts = ap (read_piece p) (read_append ps qs ts)

whole : (s : Symbol) (us : Trees) (ts : List Tree) → read_piece (piece.Made s (tree_count us))
    (ts ++ trees_in us) ≡ ts ++ Made s us ∷ []
whole s us ts =
    let n : length (ts ++ trees_in us) - tree_count us ≡ length ts
    = (let a = length-append ts (trees_in us) in let b = many_in us in omega (arith, a, b)) in
    (λ i. take (n i) (ts ++ trees_in us) ++ Made s (trees_from (drop (n i) (ts ++ trees_in us))) ∷
    [])
    ∙ (λ i. take_at ts (trees_in us) (length ts) refl i
    ++ Made s (trees_from (drop_at ts (trees_in us) (length ts) refl i)) ∷ [])
    ∙ ap (λ us. ts ++ Made s us ∷ []) (in_and_from us)

mutual
  read_tree : (t : Tree) (ts : List Tree) → read_back (pieces t) ts ≡ ts ++ t ∷ []
  read_tree (Open n) ts = refl
  read_tree (Made s us) ts = ap (read_piece (piece.Made s (tree_count us))) (read_trees us ts) ∙
      whole s us ts

  read_trees : (us : Trees) (ts : List Tree) → read_back (pieces_all us) ts ≡ ts ++ trees_in us
  read_trees NoTrees ts = sym (append_nil ts)
  read_trees (AndTree t us) ts =
      read_append (pieces_all us) (pieces t) ts
      ∙ ap (read_back (pieces_all us)) (read_tree t ts)
      ∙ read_trees us (ts ++ t ∷ [])
      ∙ append_again ts (t ∷ []) (trees_in us)

-- a tree has a row of its own
one_tree : (t u : Tree) → pieces t ≡ pieces u → t ≡ u
one_tree t u e =
    let same : t ∷ [] ≡ u ∷ [] = sym (read_tree t []) ∙ ap (λ ps. read_back ps []) e
    ∙ read_tree u [] in
    cc

-- ---- how many trees were read

abbrev count_after : Piece → ℕ → ℕ
count_after (piece.Open n) k = suc k
count_after (piece.Made s n) k = suc (k - n)

abbrev count_back : List Piece → ℕ → ℕ
count_back [] k = k
count_back (p ∷ ps) k = count_after p (count_back ps k)

-- each piece finds its arguments among what was read
abbrev AllHaveRead : List Piece → ℕ → Type 0
AllHaveRead [] k = Unit {0}
AllHaveRead (p ∷ ps) k = AllHaveRead ps k × HasReadArguments p (count_back ps k)

read_count : (p : Piece) (ts : List Tree) → length (read_piece p ts) ≡ count_after p (length ts)
read_count (piece.Open n) ts = (let a = length-append ts (Open n ∷ []) in omega (arith, a))
read_count (piece.Made s n) ts =
    let before : ℕ = length ts - n in
    let x : Tree = Made s (trees_from (drop before ts)) in
    let a = length-append (take before ts) (x ∷ []) in
    let b = length-take before ts in
    omega (arith, a, b)

count_append : (ps qs : List Piece) (k : ℕ)
    → count_back (ps ++ qs) k ≡ count_back ps (count_back qs k)
count_append [] qs k = refl
count_append (p ∷ ps) qs k = ap (count_after p) (count_append ps qs k)

all_first : (ps qs : List Piece) (k : ℕ) → AllHaveRead (ps ++ qs) k
    → AllHaveRead ps (count_back qs k)
all_first [] qs k h = tt
all_first (p ∷ ps) qs k h =
    (all_first ps qs k h.0, subst (HasReadArguments p) (count_append ps qs k) h.1)

all_last : (ps qs : List Piece) (k : ℕ) → AllHaveRead (ps ++ qs) k → AllHaveRead qs k
all_last [] qs k h = h
all_last (p ∷ ps) qs k h = all_last ps qs k h.0

all_both : (ps qs : List Piece) (k : ℕ) → AllHaveRead qs k → AllHaveRead ps (count_back qs k)
    → AllHaveRead (ps ++ qs) k
all_both [] qs k h g = h
all_both (p ∷ ps) qs k h g =
    (all_both ps qs k h g.0, subst (HasReadArguments p) (sym (count_append ps qs k)) g.1)

-- the row of a type is read whole
mutual
  tree_count_is : (t : Tree) (k : ℕ) → count_back (pieces t) k ≡ suc k
  tree_count_is (Open n) k = refl
  tree_count_is (Made s ts) k = let e = trees_count_are ts k in omega (arith, e)

  trees_count_are : (ts : Trees) (k : ℕ) → count_back (pieces_all ts) k ≡ k + tree_count ts
  trees_count_are NoTrees k = omega arith
  trees_count_are (AndTree t ts) k =
      let e : count_back (pieces_all ts) (count_back (pieces t) k) ≡ suc k + tree_count ts
      = ap (count_back (pieces_all ts)) (tree_count_is t k) ∙ trees_count_are ts (suc k) in
      let f = count_append (pieces_all ts) (pieces t) k in
      omega (arith, e, f)

mutual
  tree_reads : (t : Tree) (k : ℕ) → IsTypeTree t → AllHaveRead (pieces t) k
  tree_reads (Open n) k h = (tt, tt)
  tree_reads (Made s ts) k h =
      (trees_read ts k h.1, (let e = trees_count_are ts k in omega (arith, e), h.0))

  trees_read : (ts : Trees) (k : ℕ) → AreTypeTrees ts → AllHaveRead (pieces_all ts) k
  trees_read NoTrees k h = tt
  trees_read (AndTree t ts) k h = all_both (pieces_all ts) (pieces t) k (tree_reads t k h.0)
      (subst (AllHaveRead (pieces_all ts)) (sym (tree_count_is t k)) (trees_read ts (suc k) h.1))

-- ---- reading

-- What was read and what is left of a row of pieces make a tree.
pub record Reads (row : List Piece) (read : List Typed) (t : Tree) : Type 0 where
  pub trees : List Tree
  pub are : read ≡ map typed_of trees
  pub rest : read_back row trees ≡ t ∷ []
  pub all : AllHaveRead row (length trees)

pub reads_first : (row : List Piece) (u : Tree) → (row ≡ pieces u) × IsTypeTree u → (t : Tree)
    → row ≡ pieces t → Reads row [] t
reads_first row u h t e = record {
  trees = [];
  are = refl;
  rest = ap (λ ps. read_back ps []) e ∙ read_tree t [];
  all = subst (λ ps. AllHaveRead ps 0) (sym h.0) (tree_reads u 0 h.1);
}

pub reads_piece : (row row' : List Piece) (p : Piece) (read : List Ty) (t : Tree)
    → row ≡ row' ++ p ∷ [] → Reads row (map type_of read) t → HasReadArguments p (length read)
reads_piece row row' p read t e h =
    let all = all_last row' (p ∷ []) (length h.trees)
    (subst (λ ps. AllHaveRead ps (length h.trees)) e h.all) in
    subst (HasReadArguments p)
    (sym (length_map typed_of h.trees) ∙ sym (ap length h.are) ∙ length_map type_of read) all.1

pub reads_next : (row row' : List Piece) (p : Piece) (read read' : List Typed) (t : Tree)
    → row ≡ row' ++ p ∷ [] →
    ((ts : List Tree) → read ≡ map typed_of ts → read' ≡ map typed_of (read_piece p ts))
    → Reads row read t → Reads row' read' t
reads_next row row' p read read' t e step h = record {
  trees = read_piece p h.trees;
  are = step h.trees h.are;
  rest = sym (read_append row' (p ∷ []) h.trees) ∙ ap (λ ps. read_back ps h.trees) (sym e) ∙ h.rest;
  all = subst (AllHaveRead row') (sym (read_count p h.trees))
      (all_first row' (p ∷ []) (length h.trees)
      (subst (λ ps. AllHaveRead ps (length h.trees)) e h.all));
}

pub reads_last : (read : List Typed) (t : Tree) → Reads [] read t → read ≡ typed_of t ∷ []
reads_last read t h = h.are ∙ ap (map typed_of) h.rest

-- one more piece is read
pub piece_open : (n : ℕ) (read : List Typed) (ts : List Tree) → read ≡ map typed_of ts → read
    ++ variable n ∷ [] ≡ map typed_of (read_piece (piece.Open n) ts)
piece_open n read ts e = ap (λ us. us ++ variable n ∷ []) e ∙ sym (map_push typed_of ts (Open n))

pub piece_made : (s : Symbol) (n : ℕ) (read : List Typed) (u : Typed) (before : ℕ)
    → before ≡ length read - n →
    ((ts : List Tree) → drop before read ≡ map typed_of ts → u ≡ typed_of (Made s (trees_from ts)))
    → (ts : List Tree) → read ≡ map typed_of ts → take before read
    ++ u ∷ [] ≡ map typed_of (read_piece (piece.Made s n) ts)
piece_made s n read u before e made ts f =
    let m : before ≡ length ts - n = e ∙ ap (λ us. length us - n) f ∙ ap (λ k. k - n)
    (length_map typed_of ts) in
    (λ i. take (m i) (f i) ++ u ∷ [])
    ∙ (λ i. take-map typed_of (length ts - n) ts i ++ made (drop (length ts - n) ts)
    ((λ j. drop (m j) (f j)) ∙ drop-map typed_of (length ts - n) ts) i ∷ [])
    ∙ sym (map_push typed_of (take (length ts - n) ts)
    (Made s (trees_from (drop (length ts - n) ts))))
