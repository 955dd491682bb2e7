-- The tree of each part of a program with types, by those of its parts.
use Rattle.std.proofs.Common.{◌≡◌, ℕ, suc, ◌+◌, ◌<◌, List, [], ◌∷◌, ◌++◌, length, drop, get_or, refl, ap, sym, ◌∙◌, map, append_assoc}
use Rattle.std.proofs.lemmas.List.{drop_more}
use Rattle.seq.proofs.Lists.{map_push}
use Rattle.core_reader.specs.Tree.{data_of as core_data}
use Rattle.core_reader.specs.declared.syntax.Data as code-data
use Rattle.core_reader.specs.Tree as tree-core
use Rattle.std.specs.declared.boxed.Box.{Box}
use Rattle.std.specs.declared.alloc.Global.{Global}
use Rattle.core_reader.specs.declared.syntax.Binder.{Binder}
use Rattle.core_types.specs.declared.source.Written.{Written, fold-roll-Written}
use Rattle.core_types.specs.declared.source.Written.TheVariants as variant
use Rattle.core_types.specs.declared.source.Written.TheOpen as layer
use Rattle.core_types.specs.Source.{Var, Named, Arrow, count, data_of}
use Rattle.core_types.specs.Source as tree
use Rattle.core_types.specs.SourceOf.{written, written_layer, types_in, constructor_of}
use Rattle.core_types.specs.declared.source.Constructor as code-constructor

pub written-Var : (b : Binder) → written (variant.Var b) ≡ Var b
written-Var b = ap written (sym (variant.rolls-Var b)) ∙ fold-roll-Written tree.Written
    written_layer (layer.Var b)

pub written-Named : (b : Binder) (args : List Written)
    → written (variant.Named b args) ≡ Named b (types_in args)
written-Named b args = ap written (sym (variant.rolls-Named b args)) ∙ fold-roll-Written
    tree.Written written_layer (layer.Named b args)

pub written-Arrow : (from to : Box Written Global) → written (variant.Arrow from to) ≡ Arrow
    (written from.value) (written to.value)
written-Arrow from to = ap written (sym (variant.rolls-Arrow from to)) ∙ fold-roll-Written
    tree.Written written_layer (layer.Arrow from to)

pub count_types : (ts : List Written) → count (types_in ts) ≡ length ts
count_types [] = refl
count_types (t ∷ ts) = ap suc (count_types ts)

-- one more constructor was erased
pub more_erased : (items : List code-constructor.Constructor) (i : ℕ)
    (x : code-constructor.Constructor) → i < length items → x ≡ get_or items i x
    → (old new : List code-data.Data) (d : code-data.Data) → new ≡ old ++ d ∷ []
    → core_data d ≡ data_of (constructor_of x)
    → (total : List tree-core.Data) → map core_data old
    ++ map data_of (map constructor_of (drop i items)) ≡ total → map core_data new
    ++ map data_of (map constructor_of (drop (i + 1) items)) ≡ total
more_erased items i x l is old new d pushed same total h =
    let rest = map data_of (map constructor_of (drop (i + 1) items)) in
    let next : drop i items ≡ x ∷ drop (i + 1) items
    = drop_more items i x l ∙ ap (λ y. y ∷ drop (i + 1) items) (sym is) in
    ap (λ w. map core_data w ++ rest) pushed
    ∙ ap (λ w. w ++ rest) (map_push core_data old d)
    ∙ append_assoc (map core_data old) (core_data d ∷ []) rest
    ∙ ap (λ w. map core_data old ++ (w ∷ rest)) same
    ∙ ap (λ w. map core_data old ++ map data_of (map constructor_of w)) (sym next)
    ∙ h

pub ruleset trees = (written-Var, written-Named, written-Arrow, count_types)
