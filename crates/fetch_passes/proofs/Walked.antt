-- Where a walk stands as it goes through alternatives and statements.
use Rattle.std.proofs.Common.{◌≡◌, ℕ, suc, ◌+◌, ◌-◌, ◌<◌, ◌≤◌, List, ◌∷◌, map, take, drop, length, length-drop, get_or, refl, sym, ap, ◌∙◌, subst, arith}
use Rattle.std.specs.declared.boxed.Box.{Box}
use Rattle.std.specs.declared.alloc.Global.{Global}
use Rattle.std.proofs.lemmas.List.{take_all}
use Rattle.seq.proofs.Lists.{drop_at}
use Rattle.grin_syntax.specs.declared.program.Alt.{Alt}
use Rattle.grin_syntax.specs.declared.program.Stmt.{Stmt}
use Rattle.grin_syntax.specs.declared.program.Stmt.TheVariants.{Store, Bind}
use Rattle.grin_syntax.specs.declared.program.Target.{Target}
use Rattle.grin_syntax.specs.declared.program.Op.{Op}
use Rattle.grin_syntax.specs.declared.program.Op.TheVariants.{Nested}
use Rattle.grin_syntax.specs.declared.program.Block.{Block}
use Rattle.grin_syntax.specs.Tree.{Code, arm, end, bind, act_of, before_of, arm_of, arms_of, code_of, all_before}
use Rattle.grin_syntax.proofs.TreeOf.{arm_of-parts, before_of-Store, before_of-Bind, act_of-Nested}
use Rattle.fetch_passes.specs.Notes.{Place, Trace, joined_traces, with_own_size, only, cells_used, act_trace, code_trace, arms_trace, Here, IsPlaceAfterPiece}
use Rattle.fetch_passes.specs.Asked.{Span, SpanCoversBlock, Follows}
use Rattle.fetch_passes.proofs.Firsts.{code_from, code_at, code_none}
use Rattle.fetch_passes.proofs.Places.{here_first, here_past}

pub rest_is : {A : Type 0} (xs : List A) (at i : ℕ) → at ≡ i
    → take (length xs - (at + 1)) (drop (at + 1) xs) ≡ drop (suc i) xs
rest_is xs at i e =
    let l : length (drop (at + 1) xs) ≡ length xs - (at + 1) = length-drop (at + 1) xs in
    let k : at + 1 ≡ suc i = omega (arith, e) in
    take_all (length xs - (at + 1)) (drop (at + 1) xs) (omega (arith, l)) ∙ ap (λ j. drop j xs) k

module _ (n : Trace) where
  arms_at : (as' : List Alt) (i : ℕ) (a : Alt) → i < length as' → a ≡ get_or as' i a
      → arms_of (map arm_of (drop i as')) ≡ arm a.pattern (code_of a.body)
      (arms_of (map arm_of (drop (suc i) as')))
  arms_at as' i a lt at =
      ap (λ l. arms_of (map arm_of l)) (drop_at as' i a lt) ∙ ap
      (λ b. arms_of (arm_of b ∷ map arm_of (drop (suc i) as'))) (sym at) ∙ ap
      (λ p. arms_of (p ∷ map arm_of (drop (suc i) as'))) (arm_of-parts a)

  split_arm : (p : Place) (as' : List Alt) (i : ℕ) (a : Alt) → i < length as' → a ≡ get_or as' i a
      → Here n p (arms_trace (arms_of (map arm_of (drop i as'))))
      → Here n p
      (joined_traces (with_own_size (code_trace (code_of a.body)))
      (arms_trace (arms_of (map arm_of (drop (suc i) as')))))
  unfolding act_trace
  split_arm p as' i a lt at h = subst (λ r. Here n p (arms_trace r)) (arms_at as' i a lt at) h

  pub arm_here : (p : Place) (as' : List Alt) (i : ℕ) (a : Alt) → i < length as'
      → a ≡ get_or as' i a → Here n p (arms_trace (arms_of (map arm_of (drop i as'))))
      → Here n p (with_own_size (code_trace (code_of a.body)))
  arm_here p as' i a lt at h = here_first n p (with_own_size (code_trace (code_of a.body)))
      (arms_trace (arms_of (map arm_of (drop (suc i) as')))) (split_arm p as' i a lt at h)

  pub arms_past : (p q : Place) (as' : List Alt) (i : ℕ) (a : Alt) → i < length as'
      → a ≡ get_or as' i a → IsPlaceAfterPiece n p q
      → Here n p (arms_trace (arms_of (map arm_of (drop i as'))))
      → Here n q (arms_trace (arms_of (map arm_of (drop (i + 1) as'))))
  arms_past p q as' i a lt at e h =
      let k : suc i ≡ i + 1 = omega arith in
      subst (λ j. Here n q (arms_trace (arms_of (map arm_of (drop j as'))))) k
      (here_past n p q (code_trace (code_of a.body))
      (arms_trace (arms_of (map arm_of (drop (suc i) as')))) e (split_arm p as' i a lt at h))

  pub nested_here : (p : Place) (o : Op) (b : Box Block Global) → o ≡ Nested b
      → Here n p (with_own_size (act_trace (act_of o)))
      → Here n p (with_own_size (code_trace (code_of b.value)))
  unfolding act_trace
  nested_here p o b e h = subst (λ k. Here n p (with_own_size (act_trace k)))
      (ap act_of e ∙ act_of-Nested b) h

  -- ---- statements

  stmt_trace : (st : Stmt) (c : Code) → (t : Trace)
      × (code_trace (before_of st c) ≡ joined_traces (with_own_size t) (code_trace c))
  unfolding act_trace
  stmt_trace (Store cs) c = (only (cells_used cs), ap (λ f. code_trace (f c)) (before_of-Store cs))
  stmt_trace (Bind t o) c = (act_trace (act_of o), ap (λ f. code_trace (f c)) (before_of-Bind t o))

  pub stmts_follow : (s next : Span) (ss : List Stmt) (i : ℕ) (st : Stmt) (last : Code)
      → i < length ss → st ≡ get_or ss i st → Follows n s next
      → SpanCoversBlock n s (code_from ss i last) → SpanCoversBlock n next
      (code_from ss (i + 1) last)
  stmts_follow s next ss i st last lt at f h =
      let k : suc i ≡ i + 1 = omega arith in
      let r = stmt_trace st (code_from ss (suc i) last) in
      subst (λ j. SpanCoversBlock n next (code_from ss j last)) k
      (f (code_from ss i last) (code_from ss (suc i) last) r.0
      (ap code_trace (code_at ss i st last lt at) ∙ r.1) h)

  pub stmt_spans : (s : Span) (ss rest : List Stmt) (i : ℕ) (st : Stmt) (o l : Op) → i < length ss
      → st ≡ get_or ss i st → rest ≡ drop (suc i) ss → o ≡ l
      → SpanCoversBlock n s (code_from ss i (end (act_of l)))
      → SpanCoversBlock n s (before_of st (all_before (map before_of rest) (end (act_of o))))
  stmt_spans s ss rest i st o l lt at e q h = subst (SpanCoversBlock n s)
      (code_at ss i st (end (act_of l)) lt at ∙
      (λ j. before_of st (all_before (map before_of (sym e j)) (end (act_of (sym q j)))))) h

  bind_is : (st : Stmt) (t : Target) (o : Op) (c : Code) → st ≡ Bind t o
      → before_of st c ≡ bind t (act_of o) c
  bind_is st t o c e = ap (λ k. before_of k c) e ∙ ap (λ f. f c) (before_of-Bind t o)

  pub bind_here : (s : Span) (st : Stmt) (t : Target) (o : Op) (c : Code) → st ≡ Bind t o
      → SpanCoversBlock n s (before_of st c) → Here n s.place (with_own_size (act_trace (act_of o)))
  unfolding act_trace
  bind_here s st t o c e h = here_first n s.place (with_own_size (act_trace (act_of o)))
      (code_trace c) (subst (SpanCoversBlock n s) (bind_is st t o c e) h).here

  pub bind_rest : (s next : Span) (st : Stmt) (t : Target) (o : Op) (c : Code) → st ≡ Bind t o
      → Follows n s next → SpanCoversBlock n s (before_of st c) → SpanCoversBlock n next c
  unfolding act_trace
  bind_rest s next st t o c e f h = f (bind t (act_of o) c) c (act_trace (act_of o)) refl
      (subst (SpanCoversBlock n s) (bind_is st t o c e) h)

  pub last_here : (s : Span) (ss : List Stmt) (i : ℕ) (o : Op) → length ss ≤ i
      → SpanCoversBlock n s (code_from ss i (end (act_of o)))
      → Here n s.place (with_own_size (act_trace (act_of o)))
  unfolding act_trace
  last_here s ss i o le h =
      (subst (SpanCoversBlock n s) (code_none ss i (end (act_of o)) le) h).here
