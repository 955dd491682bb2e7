-- The arguments of a call lie in the sets of the parameters; so those of raised parameters are
-- cells whose nodes stay.
use Rattle.std.proofs.Common.{◌≡◌, ℕ, zero, suc, List, [], ◌∷◌, map, length, Option, Some, None, slice_get, refl, sym, ap, ◌∙◌, subst}
use Rattle.grin_syntax.specs.declared.program.ProcId.{ProcId}
use Rattle.grin_syntax.specs.declared.program.Tag.{Tag}
use Rattle.grin_syntax.specs.declared.program.VarId.{VarId}
use Rattle.grin_syntax.specs.declared.program.Word.{Word}
use Rattle.grin_syntax.specs.declared.program.Val.TheVariants.{Vector as VectorVal}
use Rattle.grin_syntax.specs.Tree.{Procedure, Program}
use Rattle.grin_meaning.specs.Values.{Datum, number, tag as tag', cell, Env, HeapCell, and_then, fields_of, words_of}
use Rattle.flow_system.specs.declared.fact.Element.TheVariants.{Cell as cell_of, Tag as tag, Number as num}
use Rattle.flow_system.specs.declared.fact.Place.TheVariants.{Site as site, Var as var}
use Rattle.flow_system.specs.declared.fact.Part.TheVariants.{Word as word}
use Rattle.flow_system.specs.Inclusions.{value, to, flows}
use Rattle.flow_system.specs.Tables.{tables, target_of, params_of}
use Rattle.flow_system.specs.Solution.{Solution, Sets, At, AsWords, word_word, WordAmong, ValueGives, of_words, width, WordsTo, ReachesTarget, Meets}
use Rattle.flow_system.specs.Covers.{site_at, DatumIn, WordsAreInSets, NodeIn, StateIsCovered}
use Rattle.flow_system.proofs.Lying.{from_some, datum_mono, all_mono, WordsLie, words_lie}
use Rattle.raise_theory.specs.Raising.{Raising, Decisions}
use Rattle.raise_theory.specs.Raisable.{NeverUpdated, Raisable}
use Rattle.raise_theory.proofs.Frozen.{Later}
use Rattle.raise_theory.proofs.Related.{Held, CellsReady}

-- a cell of a site
record CellOf (c : List HeapCell) (a s : ℕ) : Type 0 where
  pub y : HeapCell
  pub there : slice_get c a ≡ Some y
  pub its_site : y.site ≡ s

cell_of_site : (c : List HeapCell) (a s : ℕ) → site_at c a ≡ Some s → CellOf c a s
cell_of_site c a s e = go (slice_get c a) refl e
  where
    go : (o : Option HeapCell) → slice_get c a ≡ o → and_then o (λ k. Some k.site) ≡ Some s
        → CellOf c a s
    go None q k = cc
    go (Some y) q k = record { y = y; there = q; its_site = cc }

module _ (g : Program) (A : Solution) where
  -- each parameter that is raised can be
  abbrev pub AllRaisable : Procedure → List VarId → Decisions → Type 0
  AllRaisable q [] [] = Unit {0}
  AllRaisable q (x ∷ xs) (None ∷ ds) = AllRaisable q xs ds
  AllRaisable q (x ∷ xs) (Some r ∷ ds) = Raisable A g q x.0 r.tag.0 r.fields × AllRaisable q xs ds
  AllRaisable q _ _ = ⊥

  module _ (F : List HeapCell) (env : Env) (c : List HeapCell)
      (lies : StateIsCovered g A (record { env = env; heap = c })) (later : Later g A c F) where
    held_cell : (q : Procedure) (x : ℕ) (r : Raising) (R : Raisable A g q x r.tag.0 r.fields)
        (a s : ℕ) → site_at c a ≡ Some s → At A (var x) (word 0) (cell_of s)
        → (k : Held F r (cell a)) × (slice_get c k.c ≡ Some k.y)
    held_cell q x r R a s e at = (
      record {
        c = a;
        is = refl;
        y = u.y;
        there = later.kept a u.y u.there never;
        its_tag
            = its_tag;
        many = many;
      },
      u.there,
    )
      where
        u : CellOf c a s
        u = cell_of_site c a s e

        here : At A (var x) (word 0) (cell_of u.y.site)
        here = subst (λ z. At A (var x) (word 0) (cell_of z)) (sym u.its_site) at

        never : NeverUpdated A g u.y.site
        never = R.unchanged u.y.site here

        in_site : NodeIn g c (At A (site u.y.site)) u.y.node
        in_site = from_some (λ z. NodeIn g c (At A (site z.site)) z.node) (slice_get c a) u.y
            (lies.cells a) u.there

        its_tag : u.y.node.tag ≡ r.tag.0
        its_tag = R.one_tag u.y.site u.y.node.tag here in_site.tag_in

        count : (t : Tag) → slice_get g.tags r.tag.0 ≡ Some t → t.fields ≡ r.fields
            → length u.y.node.fields ≡ r.fields
        count t q e =
            let f : fields_of g u.y.node.tag ≡ Some t.fields
            = ap (fields_of g) its_tag ∙ ap (λ o. and_then o (λ i. Some i.fields)) q in
            let h : Some (length u.y.node.fields) ≡ Some t.fields = sym in_site.full ∙ f in
            let k : length u.y.node.fields ≡ t.fields = cc in
            k ∙ e

        many : length u.y.node.fields ≡ r.fields
        many = count R.value.info R.value.is_tag R.value.fields

    held_datum : (q : Procedure) (x : ℕ) (r : Raising) → Raisable A g q x r.tag.0 r.fields
        → (d : Datum) → DatumIn c (At A (var x) (word 0)) d → (k : Held F r d)
        × (slice_get c k.c ≡ Some k.y)
    held_datum q x r R (number i) l = absurd (R.cells_alone num l)
    held_datum q x r R (tag' t) l = absurd (R.cells_alone (tag t) l)
    held_datum q x r R (cell a) l = held_cell q x r R a l.0 l.1 l.2

    ready : (q : Procedure) (X : Sets) (ds : Decisions) (ps : List VarId) (j : ℕ) (xs : List Datum)
        → AllRaisable q ps ds → WordsTo (tables g) A X j ps
        → WordsAreInSets c (λ j. AsWords (tables g) X j) j xs → CellsReady F c ds xs
    ready q X [] ps j xs R w l = tt
    ready q X (d ∷ ds) ps j [] R w l = tt
    ready q X (d ∷ ds) [] j (x ∷ xs) R w l = absurd R
    ready q X (None ∷ ds) (p ∷ ps) j (x ∷ xs) R w l = ready q X ds ps (suc j) xs R w.1 l.1
    ready q X (Some r ∷ ds) (p ∷ ps) j (x ∷ xs) R w l =
        let k : (k : Held F r x) × (slice_get c k.c ≡ Some k.y)
        = held_datum q p.0 r R.0 x
        (datum_mono c (AsWords (tables g) X j) (At A (var p.0) (word 0)) w.0 x l.0) in
        (k.0, k.1, ready q X ds ps (suc j) xs R.1 w.1 l.1)

    params_at : (qs : List Procedure) (f : ℕ) (q : Procedure) → slice_get qs f ≡ Some q
        → slice_get (map (λ q. q.params) qs) f ≡ Some q.params
    params_at [] f q e = cc
    params_at (x ∷ qs) zero q e = let same : x ≡ q = cc in ap (λ y. Some y.params) same
    params_at (x ∷ qs) (suc f) q e = params_at qs f q e

    -- the arguments of a call of q, which is procedure f
    pub arguments_ready : (f : ProcId) (q : Procedure) (ds : Decisions) (ws : List Word)
        (xs : List Datum) → slice_get g.procs f.0 ≡ Some q → AllRaisable q q.params ds
        → Meets (tables g) A (flows (value (VectorVal ws)) (to (params_of (tables g) f.0)))
        → words_of g env ws ≡ Some xs → CellsReady F c ds xs
    arguments_ready f q ds ws xs e R m there = ready q X ds q.params 0 xs R
        (subst (λ o. ReachesTarget (tables g) A (width (value (VectorVal ws))) X (target_of o))
        (params_at g.procs f.0 q e) m)
        (all_mono c (WordAmong (tables g) A ws) (λ j. AsWords (tables g) X j)
        (λ j u k. word_word (of_words k)) 0 xs lie.0)
      where
        X : Sets
        X = ValueGives (tables g) A (VectorVal ws)

        lie : WordsLie g c A lies.globals env lies.variables ws xs
        lie = from_some (WordsLie g c A lies.globals env lies.variables ws) (words_of g env ws) xs
            (words_lie g c A lies.globals env lies.variables ws) there
