-- What the walk over a program collects: words that go anywhere.
use Rattle.std.proofs.Common.{◌≡◌, List, ◌++◌, refl, sym, ap, ◌∙◌, append_assoc}
use Rattle.grin_syntax.specs.declared.program.Cell.{Cell}
use Rattle.grin_syntax.specs.declared.program.Stmt.{Stmt}
use Rattle.grin_syntax.specs.declared.program.Stmt.TheVariants.{Store}
use Rattle.grin_syntax.specs.declared.program.Word.{Word}
use Rattle.grin_syntax.specs.Tree.{Code, before_of}
use Rattle.grin_syntax.proofs.TreeOf.{before_of-Store}
use Rattle.pass_ground.proofs.Walked.{Folds}
use Rattle.pass_cells.specs.Shown.{cells_words, act_shown, code_shown, arms_shown}

pub two_puts : (old mid new xs ys : List Word) → mid ≡ old ++ xs → new ≡ mid ++ ys → new ≡ old
    ++ (xs ++ ys)
two_puts old mid new xs ys e f = f ∙ ap (λ l. l ++ ys) e ∙ append_assoc old xs ys

pub shown : Folds act_shown code_shown arms_shown
unfolding act_shown
shown = record
    { of_end = λ o. refl; of_bind = λ t o b. refl; of_none = refl; of_arm = λ s b as'. refl }

pub store_done : (old new : List Word) (s : Stmt) (cs : List Cell) (c : Code) → s ≡ Store cs
    → new ≡ old ++ cells_words cs → old ++ code_shown (before_of s c) ≡ new ++ code_shown c
unfolding act_shown
store_done old new s cs c e h =
    ap (λ s. old ++ code_shown (before_of s c)) e ∙ ap (λ f. old ++ code_shown (f c))
    (before_of-Store cs) ∙ sym (append_assoc old (cells_words cs) (code_shown c)) ∙ ap
    (λ l. l ++ code_shown c) (sym h)
