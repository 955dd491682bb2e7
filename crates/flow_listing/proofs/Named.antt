-- The names of a program's cells, and its text, after all pieces are put.
use Rattle.std.proofs.Common.{◌≡◌, ℕ, ◌<◌, ◌≤◌, ◌+◌, Bool, true, false, cond, nat_eq, List, [], ◌∷◌, ◌++◌, take, get_or, length, Option, Some, None, refl, sym, ap, ◌∙◌}
use Rattle.std.proofs.lemmas.List.{take_all, get_or_default}
use Rattle.std.specs.List.{flat_map}
use Rattle.seq.proofs.Lists.{take_next}
use Rattle.grin_syntax.specs.declared.program.Grin.{Grin}
use Rattle.grin_syntax.specs.Tree.{program_of, procedure_of}
use Rattle.flow_system.specs.Solution.{Solution}
use Rattle.flow_listing.specs.declared.names.CellName.{CellName}
use Rattle.flow_listing.specs.declared.names.NamedCell.{NamedCell}
use Rattle.flow_listing.specs.Ascending.{flat_map_indexed}
use Rattle.flow_listing.specs.FirstNames.{first_present_name}
use Rattle.flow_listing.specs.Text.{global_cell, local_cells, cells, name_of_site, global_line, procedure_text, points}
use Rattle.flow_listing.proofs.Numbered.{flat_from_map}

-- ---- the table

chosen : (t : Bool) (n : CellName) (o o' : Option CellName)
    → cond t (Some n) (first_present_name o o') ≡ first_present_name (cond t (Some n) o) o'
chosen true n o o' = refl
chosen false n o o' = refl

names_push : (s : ℕ) (c : NamedCell) (cs : List NamedCell)
    → name_of_site (cs ++ c ∷ []) s ≡ first_present_name (name_of_site cs s)
    (cond (nat_eq s c.site.0) (Some c.name) None)
names_push s c [] = refl
names_push s c (d ∷ ds) = ap (λ o. cond (nat_eq s d.site.0) (Some d.name) o) (names_push s c ds) ∙
    chosen (nat_eq s d.site.0) d.name (name_of_site ds s)
    (cond (nat_eq s c.site.0) (Some c.name) None)

pub names_more : (cs : List NamedCell) (i s : ℕ) (d : NamedCell) (o o' : Option CellName)
    → i < length cs → o ≡ name_of_site (take i cs) s
    → o' ≡ first_present_name o
    (cond (nat_eq s (get_or cs i d).site.0) (Some (get_or cs i d).name) None)
    → o' ≡ name_of_site (take (i + 1) cs) s
names_more cs i s d o o' lt e e' =
    let c : NamedCell = get_or cs i d in
    e' ∙ ap (λ x. first_present_name x (cond (nat_eq s c.site.0) (Some c.name) None)) e
    ∙ sym (names_push s c (take i cs)) ∙ ap (λ l. name_of_site l s)
    (sym (take_next cs i c lt (get_or_default cs i d c lt)))

pub names_done : (cs : List NamedCell) (i : ℕ) (f : ℕ → Option CellName) → length cs ≤ i
    → ((s : ℕ) → f s ≡ name_of_site (take i cs) s) → f ≡ name_of_site cs
names_done cs i f le h = λ j s. (h s ∙ ap (λ l. name_of_site l s) (take_all i cs le)) j

pub names_of : (g : Grin) (c0 c1 c2 : List NamedCell) (f : ℕ → Option CellName)
    → c0 ≡ [] → c1 ≡ c0 ++ flat_map_indexed global_cell 0 g.globals → c2 ≡ c1
    ++ flat_map_indexed (λ f q. local_cells f (procedure_of q)) 0 g.procs → f ≡ name_of_site c2
    → f ≡ name_of_site (cells (program_of g))
names_of g c0 c1 c2 f e0 e1 e2 h =
    let globals = flat_map_indexed global_cell 0 g.globals in
    h ∙ ap name_of_site (e2
    ∙ (λ i. e1 i ++ flat_map_indexed (λ f q. local_cells f (procedure_of q)) 0 g.procs)
    ∙ (λ i. (e0 i ++ globals) ++ flat_map_indexed (λ f q. local_cells f (procedure_of q)) 0 g.procs)
    ∙ ap (λ l. globals ++ l) (sym (flat_from_map procedure_of local_cells 0 g.procs)))

-- ---- the text

pub points_put : (g : Grin) (A : Solution) (name : ℕ → Option CellName) (t0 t1 t2 : List ℕ)
    → name ≡ name_of_site (cells (program_of g)) → t0 ≡ [] → t1 ≡ t0
    ++ flat_map (global_line (program_of g) name A) g.globals
    → t2 ≡ t1 ++ flat_map_indexed (λ f q. procedure_text (program_of g) name A f (procedure_of q)) 0
    g.procs → t2 ≡ points (program_of g) A
points_put g A name t0 t1 t2 n e0 e1 e2 =
    let lines : (ℕ → Option CellName) → List ℕ = λ m. flat_map (global_line (program_of g) m A)
    g.globals in
    e2 ∙ (λ i. e1 i ++ flat_map_indexed
    (λ f q. procedure_text (program_of g) name A f (procedure_of q)) 0 g.procs)
    ∙ (λ i. (e0 i ++ lines name) ++ flat_map_indexed
    (λ f q. procedure_text (program_of g) name A f (procedure_of q)) 0 g.procs)
    ∙ (λ i. lines (n i) ++ flat_map_indexed
    (λ f q. procedure_text (program_of g) (n i) A f (procedure_of q)) 0 g.procs)
    ∙ ap (λ l. lines (name_of_site (cells (program_of g))) ++ l)
    (sym (flat_from_map procedure_of
    (procedure_text (program_of g) (name_of_site (cells (program_of g))) A) 0 g.procs))
