-- What lies in a heap stays there as cells are added and updated.
use Rattle.std.proofs.Common.{◌≡◌, ℕ, zero, suc, Bool, true, false, cond, List, [], ◌∷◌, ◌++◌, length, Option, Some, None, slice_get, slice_set, refl, sym, ap, ◌∙◌}
use Rattle.std.specs.Prelude.{IfSome, IsTrue}
use Rattle.grin_syntax.specs.declared.program.Cell.{Cell}
use Rattle.grin_syntax.specs.Tree.{Program}
use Rattle.grin_meaning.specs.Values.{Node, Env, HeapCell, and_then, node_of}
use Rattle.grin_meaning.specs.Run.{cells_of, places}
use Rattle.flow_system.specs.Tables.{tables}
use Rattle.flow_system.specs.Inclusions.{cell_of, site, tags, field, value, Inclusion, forces}
use Rattle.flow_system.specs.System.{has_eval, cells_flow, site_flows}
use Rattle.flow_system.specs.Solution.{Solution, At, one_word, AsNodes, ValueGives, width, Meets, AllMet}
use Rattle.flow_system.specs.Covers.{site_at, NodeIn, GlobalCellsComeFirst}
use Rattle.flow_system.proofs.Lying.{Extends, node_on, node_mono, BindingsLie, EnvLies, node_lies}
use Rattle.grin_meaning.proofs.Fullness.{if_and}

set_sites : (h : List HeapCell) (i : ℕ) (c : HeapCell) (n : Node) → slice_get h i ≡ Some c → (a : ℕ)
    → site_at (slice_set h i (record { site = c.site; node = n })) a ≡ site_at h a
set_sites [] i c n e a = refl
set_sites (x ∷ h) zero c n e zero = ap (λ o. and_then o (λ k. Some k.site)) (sym e)
set_sites (x ∷ h) zero c n e (suc a) = refl
set_sites (x ∷ h) (suc i) c n e zero = refl
set_sites (x ∷ h) (suc i) c n e (suc a) = set_sites h i c n e a

pub set_extends : (h : List HeapCell) (i : ℕ) (c : HeapCell) (n : Node) → slice_get h i ≡ Some c
    → Extends h (slice_set h i (record { site = c.site; node = n }))
set_extends h i c n e = record { by = λ a s q. set_sites h i c n e a ∙ q }

pub set_cells : (P : HeapCell → Type 0) (h : List HeapCell) (i : ℕ) (x : HeapCell)
    → ((a : ℕ) → IfSome (slice_get h a) P) → P x → (a : ℕ)
    → IfSome (slice_get (slice_set h i x) a) P
set_cells P [] i x f y a = tt
set_cells P (z ∷ h) zero x f y zero = y
set_cells P (z ∷ h) zero x f y (suc a) = f (suc a)
set_cells P (z ∷ h) (suc i) x f y zero = f zero
set_cells P (z ∷ h) (suc i) x f y (suc a) = set_cells P h i x (λ b. f (suc b)) y a

append_sites : (h more : List HeapCell) (a s : ℕ) → site_at h a ≡ Some s
    → site_at (h ++ more) a ≡ Some s
append_sites [] more a s e = cc
append_sites (x ∷ h) more zero s e = e
append_sites (x ∷ h) more (suc a) s e = append_sites h more a s e

pub append_extends : (h more : List HeapCell) → Extends h (h ++ more)
append_extends h more = record { by = append_sites h more }

abbrev pub EachCell : (HeapCell → Type 0) → List HeapCell → Type 0
EachCell P [] = Unit {0}
EachCell P (c ∷ cs) = P c × EachCell P cs

each_at : (P : HeapCell → Type 0) (h : List HeapCell) → EachCell P h → (a : ℕ)
    → IfSome (slice_get h a) P
each_at P [] e a = tt
each_at P (x ∷ h) e zero = e.0
each_at P (x ∷ h) e (suc a) = each_at P h e.1 a

pub append_cells : (P : HeapCell → Type 0) (h more : List HeapCell)
    → ((a : ℕ) → IfSome (slice_get h a) P) → EachCell P more → (a : ℕ)
    → IfSome (slice_get (h ++ more) a) P
append_cells P [] more f e a = each_at P more e a
append_cells P (x ∷ h) more f e zero = f zero
append_cells P (x ∷ h) more f e (suc a) = append_cells P h more (λ b. f (suc b)) e a

-- a group's cells have its sites
abbrev pub SitesAre : List Cell → List HeapCell → Type 0
SitesAre [] [] = Unit {0}
SitesAre (c ∷ cs) (x ∷ hs) = (x.site ≡ c.site.0) × SitesAre cs hs
SitesAre [] (x ∷ hs) = ⊥
SitesAre (c ∷ cs) [] = ⊥

-- and their places, from a on
abbrev pub HasSites : List HeapCell → ℕ → List Cell → Type 0
HasSites h a [] = Unit {0}
HasSites h a (c ∷ cs) = (site_at h a ≡ Some c.site.0) × HasSites h (suc a) cs

sites_later : (z : HeapCell) (h : List HeapCell) (a : ℕ) (cs : List Cell) → HasSites h a cs
    → HasSites (z ∷ h) (suc a) cs
sites_later z h a [] s = tt
sites_later z h a (c ∷ cs) s = (s.0, sites_later z h (suc a) cs s.1)

sites_first : (cs : List Cell) (hs : List HeapCell) → SitesAre cs hs → HasSites hs 0 cs
sites_first [] hs s = tt
sites_first (c ∷ cs) [] s = absurd s
sites_first (c ∷ cs) (x ∷ hs) s = (ap Some s.0, sites_later x hs 0 cs (sites_first cs hs s.1))

pub has_sites : (h : List HeapCell) (cs : List Cell) (hs : List HeapCell) → SitesAre cs hs
    → HasSites (h ++ hs) (length h) cs
has_sites [] cs hs s = sites_first cs hs s
has_sites (z ∷ h) cs hs s = sites_later z (h ++ hs) (length h) cs (has_sites h cs hs s)

pub sites_are : (p : Program) (env : Env) (cs : List Cell)
    → IfSome (cells_of p env cs) (SitesAre cs)
sites_are p env [] = tt
sites_are p env (c ∷ cs) = if_and (λ x. x.site ≡ c.site.0) (SitesAre (c ∷ cs))
    (and_then (node_of p env c.val) (λ n. Some (record { site = c.site.0; node = n }))) _
    (one (node_of p env c.val))
    (λ x e. if_and (SitesAre cs) (SitesAre (c ∷ cs)) (cells_of p env cs) _ (sites_are p env cs)
    (λ hs l. (e, l)))
  where
    one : (o : Option Node) → IfSome {T = HeapCell}
        (and_then o (λ n. Some (record { site = c.site.0; node = n }))) (λ x. x.site ≡ c.site.0)
    one None = tt
    one (Some n) = refl

module _ (p : Program) (A : Solution) where
  -- a cell's node lies at its site, and is evaluated where the program has an eval
  abbrev pub CellLies : List HeapCell → HeapCell → Type 0
  CellLies h c = NodeIn p h (At A (site c.site)) c.node
      × (IsTrue (has_eval p) → Meets (tables p) A (forces c.site))

  pub cell_on : (h h' : List HeapCell) → Extends h h' → (c : HeapCell) → CellLies h c
      → CellLies h' c
  cell_on h h' e c l = (node_on h h' e p (At A (site c.site)) c.node l.0, l.1)

  pub met_front : (xs ys : List Inclusion) → AllMet (tables p) A (xs ++ ys) → AllMet (tables p) A xs
  met_front [] ys m = tt
  met_front (x ∷ xs) ys m = (m.0, met_front xs ys m.1)

  pub met_back : (xs ys : List Inclusion) → AllMet (tables p) A (xs ++ ys) → AllMet (tables p) A ys
  met_back [] ys m = m
  met_back (x ∷ xs) ys m = met_back xs ys m.1

  pub forced : (s : ℕ) (b : Bool) → AllMet (tables p) A (cond b (forces s ∷ []) []) → IsTrue b
      → Meets (tables p) A (forces s)
  forced s true m e = m.0
  forced s false m e = cc

  pub places_lie : (h : List HeapCell) (a : ℕ) (cs : List Cell)
      → AllMet (tables p) A (cells_flow p cs) → HasSites h a cs → BindingsLie p h A (places a cs)
  places_lie h a [] m s = tt
  places_lie h a (c ∷ cs) m s = (
    ((c.site.0, s.0, m.0 (cell_of c.site.0) (one_word refl)), tt),
    places_lie h (suc a) cs (met_back (site_flows p c.site.0 c.val) (cells_flow p cs) m.1) s.1,
  )

  pub cells_lie : (h : List HeapCell) → GlobalCellsComeFirst p h → (env : Env) → EnvLies p h A env
      → (cs : List Cell) → AllMet (tables p) A (cells_flow p cs)
      → IfSome (cells_of p env cs) (EachCell (CellLies h))
  cells_lie h gs env el [] m = tt
  cells_lie h gs env el (c ∷ cs) m = if_and (CellLies h) (EachCell (CellLies h))
      (and_then (node_of p env c.val) (λ n. Some (record { site = c.site.0; node = n }))) _ one
      (λ x l. if_and (EachCell (CellLies h)) (EachCell (CellLies h)) (cells_of p env cs) _
      (cells_lie h gs env el cs (met_back (site_flows p c.site.0 c.val) (cells_flow p cs) m.1))
      (λ hs k. (l, k)))
    where
      one : IfSome
          (and_then (node_of p env c.val) (λ n. Some (record { site = c.site.0; node = n })))
          (CellLies h)
      one = if_and
          (NodeIn p h (AsNodes (tables p) (width (value c.val)) (ValueGives (tables p) A c.val)))
          (CellLies h) (node_of p env c.val) _ (node_lies p h A gs env el c.val)
          (λ n l. (
            node_mono p h (AsNodes (tables p) (width (value c.val)) (ValueGives (tables p) A c.val))
                (At A (site c.site.0)) n (m.1.0 tags _) (λ i. m.1.0 (field n.tag i)) l,
            forced c.site.0 (has_eval p)
                (met_front (site_flows p c.site.0 c.val) (cells_flow p cs) m.1).1,
          ))
