-- What the loops keep.
use Rattle.std.proofs.Common.{◌≡◌, ℕ, ◌+◌, ◌<◌, cond, nat_eq, [], ◌∷◌, take, length, get_or, sym, ap, ◌∙◌}
use Rattle.std.proofs.lemmas.List.{take_more}
use Rattle.grin_syntax.specs.declared.program.VarId.{VarId}
use Rattle.grin_syntax.specs.declared.program.Word as W
use Rattle.fetch_passes.specs.Names.{Names, Replacement, stands}
use Rattle.fetch_passes.proofs.Found.{stands_more}

pub stands_next : (ks : Names) (i : ℕ) (d : Replacement) (w old new : W.Word) (x : VarId)
    → i < length ks → new ≡ cond (nat_eq (get_or ks i d).var.0 x.0) (get_or ks i d).word old
    → old ≡ stands (take i ks) w x → new ≡ stands (take (i + 1) ks) w x
stands_next ks i d w old new x lt n o =
    n ∙ ap (cond (nat_eq (get_or ks i d).var.0 x.0) (get_or ks i d).word) o ∙ sym
    (stands_more (take i ks) (get_or ks i d ∷ []) w x) ∙ ap (λ l. stands l w x)
    (sym (take_more ks i d lt))
