-- One statement more at the end of those before a block.
use Rattle.std.proofs.Common.{◌≡◌, ℕ, Bool, true, List, [], ◌∷◌, ◌++◌, map, sym, ap, ◌∙◌}
use Rattle.grin_syntax.specs.declared.program.VarId.{VarId}
use Rattle.grin_syntax.specs.declared.program.Cell.{Cell}
use Rattle.grin_syntax.specs.declared.program.Word.{Word}
use Rattle.grin_syntax.specs.declared.program.Target.{Target}
use Rattle.grin_syntax.specs.declared.program.Target.TheVariants as to
use Rattle.grin_syntax.specs.declared.program.Stmt.{Stmt}
use Rattle.grin_syntax.specs.declared.program.Stmt.TheVariants.{Store, Bind}
use Rattle.grin_syntax.specs.declared.program.Op.{Op}
use Rattle.grin_syntax.specs.declared.program.Op.TheVariants.{FetchWord}
use Rattle.grin_syntax.specs.Tree.{Code, Act, store, bind, leaf, fetch_word, act_of, before_of, all_before}
use Rattle.grin_syntax.proofs.TreeOf.{before_of-Store, before_of-Bind, act_of-FetchWord}
use Rattle.grin_syntax.proofs.Pieces.{all_before_push}
use Rattle.fetch_passes.specs.Split.{fetched_if}

pub bind_pushed : (ss ss' : List Stmt) (t : Target) (o : Op) (a : Act) (c : Code) → ss' ≡ ss
    ++ Bind t o ∷ [] → act_of o ≡ a → all_before (map before_of ss') c ≡ all_before
    (map before_of ss) (bind t a c)
bind_pushed ss ss' t o a c e f = ap (λ l. all_before (map before_of l) c) e ∙ all_before_push ss
    (Bind t o) c ∙ ap (λ f. all_before (map before_of ss) (f c)) (before_of-Bind t o) ∙ ap
    (λ x. all_before (map before_of ss) (bind t x c)) f

pub store_pushed : (ss ss' : List Stmt) (cs : List Cell) (c : Code) → ss' ≡ ss ++ Store cs ∷ []
    → all_before (map before_of ss') c ≡ all_before (map before_of ss) (store cs c)
store_pushed ss ss' cs c e = ap (λ l. all_before (map before_of l) c) e ∙ all_before_push ss
    (Store cs) c ∙ ap (λ f. all_before (map before_of ss) (f c)) (before_of-Store cs)

pub fetch_pushed : (wanted : Bool) (x : VarId) (a : Word) (i : ℕ) (ss ss' : List Stmt) (c : Code)
    → wanted ≡ true → ss' ≡ ss ++ Bind (to.One x) (FetchWord a i) ∷ []
    → all_before (map before_of ss') c ≡ all_before (map before_of ss) (fetched_if wanted x a i c)
fetch_pushed wanted x a i ss ss' c w e = bind_pushed ss ss' (to.One x) (FetchWord a i)
    (leaf (fetch_word a i)) c e (act_of-FetchWord a i) ∙ ap
    (λ b. all_before (map before_of ss) (fetched_if b x a i c)) (sym w)
