-- Which words stand for variables, once those of copies do.
use Rattle.std.proofs.Common.{◌≡◌, ℕ, ◌+◌, ◌<◌, Bool, true, false, cond, nat_eq, List, [], ◌∷◌, ◌++◌, take, length, get_or, Some, refl, sym, ap, ◌∙◌, subst, arith}
use Rattle.std.proofs.lemmas.List.{take_more}
use Rattle.seq.proofs.Lists.{some_is}
use Rattle.seq.proofs.Order.{eq_from, eq_self}
use Rattle.seq.proofs.Counted.{counts}
use Rattle.seq.specs.Lists.{AllOf, times}
use Rattle.grin_syntax.specs.declared.program.Word.{Word}
use Rattle.grin_rewrite.specs.Table.{note}
use Rattle.copy_prop.specs.Copies.{Alias}
use Rattle.copy_prop.specs.Resolved.{Standing, note_all}
use Rattle.copy_prop.proofs.Taken.{alias_vars}

-- one after the other
noted_push : (as' : List Alias) (a : Alias) (stands : Standing)
    → note_all (as' ++ a ∷ []) stands ≡ note a.var a.word (note_all as' stands)
noted_push [] a stands = refl
noted_push (b ∷ as') a stands = noted_push as' a (note b.var b.word stands)

pub noted_next : (as' : List Alias) (i : ℕ) (a d : Alias) (stands0 stands new : Standing)
    → i < length as' → a ≡ get_or as' i d → stands ≡ note_all (take i as') stands0
    → new ≡ note a.var a.word stands → new ≡ note_all (take (i + 1) as') stands0
noted_next as' i a d stands0 stands new lt at o n =
    n ∙ (λ j. note (at j).var (at j).word (o j)) ∙ sym
    (noted_push (take i as') (get_or as' i d) stands0) ∙ ap (λ l. note_all l stands0)
    (sym (take_more as' i d lt))

-- what is so for each word that stands for a variable is so once those of copies do
pub all_noted : (Q : ℕ → Word → Type 0) (as' : List Alias) (stands : Standing)
    → AllOf (λ a. Q a.var.0 a.word) as' → ((y : ℕ) (w : Word) → stands y ≡ Some w → Q y w)
    → (y : ℕ) (w : Word) → note_all as' stands y ≡ Some w → Q y w
all_noted Q [] stands each h = h
all_noted Q (a ∷ as') stands each h = all_noted Q as' (note a.var a.word stands) each.1
    (λ y w e. go y w (nat_eq y a.var.0) refl e)
  where
    go : (y : ℕ) (w : Word) (b : Bool) → nat_eq y a.var.0 ≡ b
        → cond b (Some a.word) (stands y) ≡ Some w → Q y w
    go y w true q e = subst (λ z. Q z w) (sym (eq_from y a.var.0 q))
        (subst (Q a.var.0) (some_is e) each.0)
    go y w false q e = h y w e

-- a variable for which a word stands still has one
abbrev pub Stood : Standing → ℕ → Type 0
Stood stands x = (w : Word) × (stands x ≡ Some w)

pub still_stood : (as' : List Alias) (stands : Standing) (x : ℕ) → Stood stands x
    → Stood (note_all as' stands) x
still_stood [] stands x h = h
still_stood (a ∷ as') stands x h = still_stood as' (note a.var a.word stands) x
    (go (nat_eq x a.var.0))
  where
    go : (b : Bool) → (w : Word) × (cond b (Some a.word) (stands x) ≡ Some w)
    go true = (a.word, refl)
    go false = h

pub copies_stood : (as' : List Alias) (stands : Standing)
    → AllOf (Stood (note_all as' stands)) (alias_vars as')
copies_stood [] stands = tt
copies_stood (a ∷ as') stands = (
  still_stood as' (note a.var a.word stands) a.var.0
      (a.word, ap (λ b. cond b (Some a.word) (stands a.var.0)) (eq_self a.var.0)),
  copies_stood as' (note a.var a.word stands),
)

-- nothing changes for the others
pub others_stand : (as' : List Alias) (stands : Standing) (y : ℕ) → times y (alias_vars as') ≡ 0
    → note_all as' stands y ≡ stands y
others_stand [] stands y n = refl
others_stand (a ∷ as') stands y n = others_stand as' (note a.var a.word stands) y (omega (arith, n))
    ∙ go (nat_eq y a.var.0) n
  where
    go : (b : Bool) → counts b + times y (alias_vars as') ≡ 0
        → cond b (Some a.word) (stands y) ≡ stands y
    go true n = absurd (omega (arith, n))
    go false n = refl
