-- Sets of variables.
use Rattle.std.proofs.Common.{◌≡◌, ℕ, ◌+◌, ◌<◌, ◌≤◌, ◌||◌, List, [], ◌∷◌, take, length, get_or, sym, ap, ◌∙◌}
use Rattle.std.proofs.lemmas.List.{take_more, take_all}
use Rattle.grin_syntax.specs.declared.program.Word.{Word}
use Rattle.pass_ground.specs.Uses.{words_use}
use Rattle.pass_cells.specs.Entries.{has, AddsVariables}
use Rattle.pass_cells.proofs.Invariant.{use_append}

-- what a set has of which one more is put
pub record HasThose (keys : List ℕ) (ws : List Word) : Type 0 where
  pub by : (x : ℕ) → has keys x ≡ words_use x ws

pub has_none : (keys : List ℕ) → keys ≡ [] → HasThose keys []
has_none keys e = record { by = λ x. ap (λ ks. has ks x) e }

pub has_more : (old new : List ℕ) (ws : List Word) (i : ℕ) (d : Word) → i < length ws
    → AddsVariables old (get_or ws i d ∷ []) new → HasThose old (take i ws)
    → HasThose new (take (i + 1) ws)
has_more old new ws i d lt p h = record {
  by = λ x. p.by x ∙ ap (λ b. b || words_use x (get_or ws i d ∷ [])) (h.by x) ∙ sym
      (use_append x (take i ws) (get_or ws i d ∷ [])) ∙ ap (words_use x)
      (sym (take_more ws i d lt));
}

pub has_all : (keys : List ℕ) (ws : List Word) (i : ℕ) → length ws ≤ i → HasThose keys (take i ws)
    → (x : ℕ) → has keys x ≡ words_use x ws
has_all keys ws i le h x = h.by x ∙ ap (words_use x) (take_all i ws le)
