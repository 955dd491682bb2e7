use Rattle.std.proofs.Common.{◌≡◌, ℕ, ◌+◌, ◌<◌, List, [], ◌∷◌, ◌++◌, map, take, length, get_or, refl, sym, ap, ◌∙◌, subst, arith, Some}
use Rattle.std.specs.Prelude.{slice_get}
use Rattle.std.specs.List.{All}
use Rattle.std.proofs.lemmas.List.{take_more, map-append}
use Rattle.seq.proofs.Lists.{get_is}
use Rattle.core_reader.specs.declared.syntax.Data.{Data}
use Rattle.core_reader.specs.Tree.{Program, data_of, program}
use Rattle.core_reader.specs.Readable as readable
use Rattle.arity_check.specs.declared.normal.Con.{Con}
use Rattle.arity_check.specs.Normal.{Pairwise, IsConstructor}
use Rattle.arity_check.proofs.Steps.{same_item}
use Rattle.arity_check.proofs.Finish.{pairwise_snoc, all_at, text_within}
use Rattle.arity_check.proofs.check.constructors.Goals as goal

-- the number of a name is a place among the names
within : (names texts : List (List ℕ)) (all items : List Data) (i : ℕ) (d : Data)
    → All (readable.ReadableData names) (map data_of all) → texts ≡ names → items ≡ all
    → i < length items → (get_or items i d).name.0 < length texts
within names texts all items i d h e f l =
    let x : Data = get_or items i d in
    let r : readable.ReadableData names (data_of x)
    = all_at (readable.ReadableData names) data_of items i x
    (subst (λ xs. All (readable.ReadableData names) (map data_of xs)) (sym f) h) l
    (same_item items i d x l) in
    let w = text_within names readable.IsConstructor x.name.0 r.0 in
    let s = ap length e in
    omega (arith, w, s)

pub bounds-names-con : goal.bounds-names-con
bounds-names-con c =
    let none : Data = record { name = record { 0 = 0 }; fields = 0; at = 0 } in
    within c.args.core.now.names c.texts-names.result.now c.args.core.now.constructors
    c.as_slice-con-items.result.now c.loop-con.con-index none c.requires c.texts-names.ensures
    c.as_slice-con-items.ensures (omega arith)

pub loop-con-preserved : goal.loop-con-preserved
loop-con-preserved c =
    let none : Data = record { name = record { 0 = 0 }; fields = 0; at = 0 } in
    let p : Program = program c.args.core.now in
    let i : ℕ = c.loop-con.con-index in
    let items : List Data = c.as_slice-con-items.result.now in
    let x : Data = get_or items i none in
    let con : Con = record { name = c.in_ok-name.name; fields = x.fields } in
    let place : take (i + 1) items ≡ take i items ++ x ∷ [] = take_more items i none (omega arith)
    in
    let all : map data_of (take (i + 1) items) ≡ map data_of (take i items) ++ data_of x ∷ []
    = ap (map data_of) place ∙ map-append data_of (take i items) (x ∷ []) in
    let l : x.name.0 < length c.texts-names.result.now
    = within c.args.core.now.names c.texts-names.result.now c.args.core.now.constructors items i
    none c.requires c.texts-names.ensures c.as_slice-con-items.ensures (omega arith) in
    let name : slice_get p.names x.name.0 ≡ Some con.name =
    ap (λ ns. slice_get ns x.name.0) (sym c.texts-names.ensures) ∙ get_is c.texts-names.result.now
    x.name.0 c.index-names-con.result l c.index-names-con.is ∙ ap Some
    (sym c.in_ok-name.ensures) in
    let is : IsConstructor p (data_of x) con = record { name = name; fields = refl } in
    let more = pairwise_snoc (IsConstructor p) (map data_of (take i items)) c.loop-con.cons
    (data_of x) con c.loop-con.invariant is in
    subst (λ ds. Pairwise (IsConstructor p) ds c.push.new.self) (sym all)
    (subst (λ cs. Pairwise (IsConstructor p) (map data_of (take i items) ++ data_of x ∷ []) cs)
    (sym c.in_ok-push.ensures.ok) more)
