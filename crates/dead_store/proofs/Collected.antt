-- What the two walks collect: words that are read, and variables of cells that leave.
use Rattle.std.proofs.Common.{◌≡◌, ℕ, ◌+◌, ◌<◌, ◌≤◌, Bool, true, false, cond, List, [], ◌∷◌, ◌++◌, map, take, length, get_or, refl, sym, ap, ◌∙◌, append_assoc}
use Rattle.std.proofs.lemmas.List.{take_all}
use Rattle.grin_syntax.specs.declared.program.Cell.{Cell}
use Rattle.grin_syntax.specs.declared.program.Proc.{Proc}
use Rattle.grin_syntax.specs.declared.program.Stmt.{Stmt}
use Rattle.grin_syntax.specs.declared.program.Stmt.TheVariants.{Store}
use Rattle.grin_syntax.specs.declared.program.Word.{Word}
use Rattle.grin_syntax.specs.Tree.{Code, before_of, code_of, Procedure, procedure_of}
use Rattle.grin_syntax.proofs.TreeOf.{before_of-Store}
use Rattle.seq.proofs.Lists.{take_next}
use Rattle.dead_store.specs.Reads.{act_reads, code_reads, arms_reads, reads_of}
use Rattle.dead_store.specs.Without.{cells_left, act_left, code_left, arms_left, left_of}
use Rattle.pass_ground.proofs.Walked.{Folds, all, procs_next}

pub reads : (updates_count : Bool) → Folds (act_reads updates_count) (code_reads updates_count)
    (arms_reads updates_count)
unfolding act_reads
reads updates_count = record
    { of_end = λ o. refl; of_bind = λ t o b. refl; of_none = refl; of_arm = λ s b as'. refl }

pub left : (stays : ℕ → Bool) → Folds (act_left stays) (code_left stays) (arms_left stays)
unfolding act_left
left stays = record
    { of_end = λ o. refl; of_bind = λ t o b. refl; of_none = refl; of_arm = λ s b as'. refl }

module _ (stays : ℕ → Bool) where
  cells_push : (cs : List Cell) (c : Cell) → cells_left stays (cs ++ c ∷ []) ≡ cells_left stays cs
      ++ cells_left stays (c ∷ [])
  cells_push [] c = refl
  cells_push (d ∷ cs) c = go (stays d.site.0) (cells_push cs c)
    where
      go : (b : Bool) → cells_left stays (cs ++ c ∷ []) ≡ cells_left stays cs
          ++ cells_left stays (c ∷ [])
          → cond b (cells_left stays (cs ++ c ∷ [])) (d.var.0 ∷ cells_left stays (cs ++ c ∷ [])) ≡
          cond b (cells_left stays cs) (d.var.0 ∷ cells_left stays cs)
          ++ cells_left stays (c ∷ [])
      go true e = e
      go false e = ap (λ l. d.var.0 ∷ l) e

  pub cells_next : (cs : List Cell) (i : ℕ) (c : Cell) (first old new : List ℕ) → i < length cs
      → c ≡ get_or cs i c → old ≡ first ++ cells_left stays (take i cs) → new ≡ old
      ++ cells_left stays (c ∷ []) → new ≡ first ++ cells_left stays (take (i + 1) cs)
  cells_next cs i c first old new lt e o n =
      n ∙ ap (λ l. l ++ cells_left stays (c ∷ [])) o ∙ append_assoc first
      (cells_left stays (take i cs)) (cells_left stays (c ∷ [])) ∙ ap (λ l. first ++ l)
      (sym (ap (cells_left stays) (take_next cs i c lt e) ∙ cells_push (take i cs) c))

  pub cells_done : (cs : List Cell) (i : ℕ) (first new : List ℕ) → length cs ≤ i → new ≡ first
      ++ cells_left stays (take i cs) → new ≡ first ++ cells_left stays cs
  cells_done cs i first new le h = h ∙ ap (λ l. first ++ cells_left stays l) (take_all i cs le)

  pub store_done : (old new : List ℕ) (s : Stmt) (cs : List Cell) (c : Code) → s ≡ Store cs
      → new ≡ old ++ cells_left stays cs → old ++ code_left stays (before_of s c) ≡ new
      ++ code_left stays c
  unfolding act_left
  store_done old new s cs c e h =
      ap (λ s. old ++ code_left stays (before_of s c)) e ∙ ap (λ f. old ++ code_left stays (f c))
      (before_of-Store cs) ∙ sym (append_assoc old (cells_left stays cs) (code_left stays c)) ∙
      ap (λ l. l ++ code_left stays c) (sym h)

-- ---- procedures

read_all : (updates_count : Bool) (qs : List Procedure)
    → all (reads updates_count) qs ≡ reads_of updates_count qs
read_all updates_count [] = refl
read_all updates_count (q ∷ qs) = ap (λ l. code_reads updates_count q.body ++ l)
    (read_all updates_count qs)

pub reads_next : (updates_count : Bool) (ps : List Proc) (i : ℕ) (p : Proc) (old new : List Word)
    → i < length ps → p ≡ get_or ps i p → new ≡ old ++ code_reads updates_count (code_of p.body)
    → old ≡ reads_of updates_count (map procedure_of (take i ps))
    → new ≡ reads_of updates_count (map procedure_of (take (i + 1) ps))
reads_next updates_count ps i p old new lt e n o = procs_next (reads updates_count) ps i p old new
    lt e n (o ∙ sym (read_all updates_count (map procedure_of (take i ps)))) ∙ read_all
    updates_count (map procedure_of (take (i + 1) ps))

left_all : (stays : ℕ → Bool) (qs : List Procedure) → all (left stays) qs ≡ left_of stays qs
left_all stays [] = refl
left_all stays (q ∷ qs) = ap (λ l. code_left stays q.body ++ l) (left_all stays qs)

pub left_next : (stays : ℕ → Bool) (ps : List Proc) (i : ℕ) (p : Proc) (old new : List ℕ)
    → i < length ps → p ≡ get_or ps i p → new ≡ old ++ code_left stays (code_of p.body)
    → old ≡ left_of stays (map procedure_of (take i ps))
    → new ≡ left_of stays (map procedure_of (take (i + 1) ps))
left_next stays ps i p old new lt e n o = procs_next (left stays) ps i p old new lt e n
    (o ∙ sym (left_all stays (map procedure_of (take i ps)))) ∙ left_all stays
    (map procedure_of (take (i + 1) ps))
