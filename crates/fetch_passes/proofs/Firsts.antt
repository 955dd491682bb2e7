-- The first words of a vector, and the first statement of a block.
use Rattle.std.proofs.Common.{◌≡◌, ℕ, suc, ◌+◌, ◌<◌, ◌≤◌, Bool, false, ◌||◌, List, [], ◌∷◌, map, take, drop, length, get_or, Option, Some, None, slice_get, refl, sym, ap, ◌∙◌, subst}
use Rattle.grin_syntax.specs.declared.program.Word.{Word}
use Rattle.grin_syntax.specs.declared.program.Val.{Val}
use Rattle.grin_syntax.specs.declared.program.Val.TheVariants.{Vector}
use Rattle.grin_syntax.specs.declared.program.Alt.{Alt}
use Rattle.grin_syntax.specs.declared.program.Stmt.{Stmt}
use Rattle.grin_syntax.specs.Tree.{Code, Arms, no_arm, arm, before_of, arm_of, code_of, all_before, arms_of}
use Rattle.grin_syntax.proofs.Pieces.{all_arms, all_arms_none, all_arms_push}
use Rattle.std.proofs.lemmas.List.{take_all}
use Rattle.seq.proofs.Lists.{drop_at, drop_past, take_next}
use Rattle.seq.proofs.Truth.{or_false, or_assoc}
use Rattle.pass_ground.specs.Uses.{word_is}
use Rattle.fetch_passes.specs.Windows.{begins_with, is_int, tests_number}

pub begins_some : (t : ℕ) (v : Val) (ws : List Word) (a : Word) → v ≡ Vector ws
    → slice_get ws 0 ≡ Some a → word_is t a ≡ begins_with t v
begins_some t v ws a e q = go ws q ∙ ap (begins_with t) (sym e)
  where
    go : (ws : List Word) → slice_get ws 0 ≡ Some a → word_is t a ≡ begins_with t (Vector ws)
    go [] q = cc
    go (w ∷ ws) q = let h : a ≡ w = cc in ap (word_is t) h

pub begins_none : (t : ℕ) (v : Val) (ws : List Word) → v ≡ Vector ws → slice_get ws 0 ≡ None
    → false ≡ begins_with t v
begins_none t v ws e q = go ws q ∙ ap (begins_with t) (sym e)
  where
    go : (ws : List Word) → ◌≡◌ {A = Option Word} (slice_get ws 0) None
        → false ≡ begins_with t (Vector ws)
    go [] q = refl
    go (w ∷ ws) q = cc

-- ---- the statements that are left

-- the statements from the i-th on
abbrev pub code_from : List Stmt → ℕ → Code → Code
code_from ss i c = all_before (map before_of (drop i ss)) c

pub code_at : (ss : List Stmt) (i : ℕ) (s : Stmt) (c : Code) → i < length ss → s ≡ get_or ss i s
    → code_from ss i c ≡ before_of s (code_from ss (suc i) c)
code_at ss i s c h e = ap (λ l. all_before (map before_of l) c) (drop_at ss i s h) ∙ ap
    (λ u. before_of u (code_from ss (suc i) c)) (sym e)

pub code_none : (ss : List Stmt) (i : ℕ) (c : Code) → length ss ≤ i → code_from ss i c ≡ c
code_none ss i c le = ap (λ l. all_before (map before_of l) c) (drop_past ss i le)

-- ---- alternatives

pub record ArmsTest (as' : List Alt) (tests : Bool) : Type 0 where
  pub by : (r : Arms) → tests_number (all_arms (map arm_of as') r) ≡ (tests || tests_number r)

pub tests_none : ArmsTest [] false
tests_none = record { by = λ r. refl }

pub tests_next : (as' : List Alt) (i : ℕ) (a : Alt) (one old new : Bool) → i < length as'
    → a ≡ get_or as' i a → one ≡ is_int a.pattern → new ≡ (old || one) → ArmsTest (take i as') old
    → ArmsTest (take (i + 1) as') new
tests_next as' i a one old new lt at e n p = subst (λ l. ArmsTest l new)
    (sym (take_next as' i a lt at))
    (record {
      by = λ r. ap tests_number (all_arms_push (take i as') a r) ∙ p.by
          (arm a.pattern (code_of a.body) r) ∙ ap (λ b. old || (b || tests_number r)) (sym e) ∙
          or_assoc old one (tests_number r) ∙ ap (λ b. b || tests_number r) (sym n);
    })

pub tests_all : (as' : List Alt) (i : ℕ) (tests : Bool) → length as' ≤ i
    → ArmsTest (take i as') tests → tests ≡ tests_number (arms_of (map arm_of as'))
tests_all as' i tests le p =
    let q : ArmsTest as' tests = subst (λ l. ArmsTest l tests) (take_all i as' le) p in
    sym (or_false tests) ∙ sym (q.by no_arm) ∙ ap tests_number (all_arms_none (map arm_of as'))
