-- Programs that are small in every way: instructions can be selected for them, and those placed.
use Rattle.std.proofs.Common.{◌≡◌, ℕ, zero, suc, ◌*◌, ◌%◌, ◌<◌, ◌≤◌, List, [], ◌∷◌, length, Option, Some, None, slice_get, refl, subst, arith}
use Rattle.std.specs.Prelude.{slice_index_or}
use Rattle.std.proofs.lemmas.Option.{same_Some}
use Rattle.low_code.specs.Tree.{Procedure, Program}
use Rattle.low_code.specs.Formed.{variables}
use Rattle.register_alloc.specs.Assignment.{Assignment, words_at}
use Rattle.register_alloc.specs.Fits.{Fits}
use Rattle.register_alloc.specs.Gathered.{HaveFewParameters, HaveFewResults}
use Rattle.rv32_items.specs.declared.Item.{Item}
use Rattle.rv32_items.specs.Placed.{size_of, AllPlain, LabelsStand}
use Rattle.rv32_select.specs.IsSelected.{IsSelected}
use Rattle.rv32_select.specs.Selectable.{Selectable}
use Rattle.rv32_select.proofs.Statics.{SelectedStatics, selected_statics}
use Rattle.test_select.specs.Rows.{AreFew, IsRow}

few_at : (qs : List Procedure) (f : ℕ) (q : Procedure) → AreFew qs → slice_get qs f ≡ Some q
    → (length q.params ≤ 16) × (q.results ≤ 13) × (length (variables q) ≤ 1000)
few_at [] f q h e = cc
few_at (p ∷ qs) zero q h e = subst
    (λ r. (length r.params ≤ 16) × (r.results ≤ 13) × (length (variables r) ≤ 1000))
    (same_Some p q e) h.0
few_at (p ∷ qs) (suc f) q h e = few_at qs f q h.1 e

past : (xs : List ℕ) (f : ℕ) → length xs ≤ f → slice_index_or xs f 0 ≡ 0
past [] f h = refl
past (x ∷ xs) zero h = absurd (omega (arith, h))
past (x ∷ xs) (suc f) h = past xs f (omega (arith, h))

behind : (qs : List Procedure) (f : ℕ) → slice_get qs f ≡ None → length qs ≤ f
behind [] f e = omega arith
behind (q ∷ qs) zero e = cc
behind (q ∷ qs) (suc f) e = let more = behind qs f e in omega (arith, more)

module _ (l : Program) (a : Assignment) (row : IsRow l) where
  pub few_parameters : HaveFewParameters l.procs
  few_parameters f q e = (few_at l.procs f q row.few e).0

  pub few_results : HaveFewResults l.procs
  few_results f q e = (few_at l.procs f q row.few e).1

  frames : Fits l a → (f : ℕ) → 4 * words_at a f < 268435456
  frames fits f = go (slice_get l.procs f) refl
    where
      go : (o : Option Procedure) → slice_get l.procs f ≡ o → 4 * words_at a f < 268435456
      go None e =
          let over : length a.frames ≤ f = let h = behind l.procs f e in let s = fits.covers.frames
          in omega (arith, h, s) in
          let none = past a.frames f over in
          omega (arith, none)
      go (Some q) e = let h = fits.dense f q e in let few = (few_at l.procs f q row.few e).2
          in omega (arith, h, few)

  pub selectable : Fits l a → (cells stack : ℕ) → (1 ≤ cells) × (cells ≤ 1000) → (1024 ≤ stack)
      × (stack ≤ 65536) × (stack % 4 ≡ 0) → Selectable l a cells stack
  selectable fits cells stack c s = record {
    formed = row.formed;
    fits = fits;
    few_params = λ f q e. (few_at l.procs f q row.few e).0;
    few_results = few_results;
    width = let w = row.width in (omega (arith, w), omega (arith, w));
    size = let h = row.size in omega (arith, h);
    procedures = let h = row.procedures in omega (arith, h);
    globals = let h = row.globals in omega (arith, h);
    frames = frames fits;
    few_cells = (c.0, omega (arith, c.1));
    stack_bytes = (s.0, omega (arith, s.1), s.2);
  }

-- what is selected for them can be placed
pub record Placeable (items : List Item) : Type 0 where
  pub labels : LabelsStand items
  pub plain : AllPlain items
  pub size : size_of items ≤ 268435456

pub placeable : (l : Program) (a : Assignment) (cells stack : ℕ) (items : List Item) → IsRow l
    → Fits l a → (1 ≤ cells) × (cells ≤ 1000) → (1024 ≤ stack) × (stack ≤ 65536) × (stack % 4 ≡ 0)
    → IsSelected l a cells stack items → Placeable items
placeable l a cells stack items row fits c s h =
    let still : SelectedStatics l items = selected_statics l a cells stack items
    (selectable l a row fits cells stack c s) h in
    record {
      labels = still.labels;
      plain = still.plain;
      size =
          let few = still.few row.tests in
          let n = row.size in
          let m = row.calls in
          let p = row.procedures in
          let g = row.globals in
          omega (arith, few, n, m, p, g);
    }
