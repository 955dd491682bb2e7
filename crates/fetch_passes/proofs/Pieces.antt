-- The pieces of a program under a split: what holds of the names and of the words that wait, of the
-- variables that a piece binds, and of the pieces that follow it.
use Rattle.std.proofs.Common.{◌≡◌, ℕ, zero, suc, ◌+◌, ◌<◌, ◌≤◌, Bool, true, false, cond, ◌&&◌, List, [], ◌∷◌, ◌++◌, refl, sym, ap, ◌∙◌, subst, arith}
use Rattle.grin_syntax.specs.declared.program.VarId.{VarId}
use Rattle.grin_syntax.specs.declared.program.Target.{Target}
use Rattle.grin_syntax.specs.declared.program.Target.TheVariants as to
use Rattle.grin_syntax.specs.declared.program.Val as V
use Rattle.grin_syntax.specs.declared.program.Word as W
use Rattle.grin_syntax.specs.declared.program.Word.TheVariants.{Var}
use Rattle.grin_syntax.specs.Tree.{Code, bind, Act, Arms, Program}
use Rattle.grin_syntax.specs.Binders.{target_vars, act_vars, code_vars, arms_vars}
use Rattle.grin_syntax.specs.Formed.{AllOf, Scope, InScope, with_target, ActFormed, CodeFormed, ArmsFormed}
use Rattle.grin_meaning.specs.Values.{Node, Value, words}
use Rattle.grin_meaning.specs.Checks.{has_block, is_given, is_bound_well}
use Rattle.grin_meaning.specs.Ready.{NoNodeTarget, EachAct, EachCode, EachArms, inlined_kind, vectorised_kind}
use Rattle.fetch_passes.specs.Names.{Names, DeferredField, as_word}
use Rattle.fetch_passes.proofs.Found.{is_var, is_waiting}
use Rattle.fetch_passes.proofs.Near.{Sound, sound_more, Held, held_more}
use Rattle.fetch_passes.proofs.Words.{Clear}
use Rattle.seq.specs.Lists.{times}
use Rattle.seq.proofs.Counted.{times_append}

-- the words in scope after a target that binds no node
pub target_words : (t : Target) (scope : Scope) → NoNodeTarget t
    → (with_target t scope).words ≡ target_vars t ++ scope.words
target_words to.Nothing scope n = refl
target_words (to.One x) scope n = refl
target_words (to.Vector xs) scope n = refl
target_words (to.Node x) scope n = absurd n

pub bound_too : (g : Program) (t : Target) (o o' : Act) (v : Value) → NoNodeTarget t
    → has_block o' ≡ has_block o → is_bound_well g t o v ≡ true → is_bound_well g t o' v ≡ true
bound_too g to.Nothing o o' v n b h = ap (λ x. cond x (is_given g v) true && true) b ∙ h
bound_too g (to.One x) o o' v n b h = ap (λ x. cond x (is_given g v) true && true) b ∙ h
bound_too g (to.Vector xs) o o' v n b h = ap (λ x. cond x (is_given g v) true && true) b ∙ h
bound_too g (to.Node x) o o' v n b h = absurd n

-- what doesn't wait and what waits
pub by_waiting : (ks : Names) (ps : List DeferredField) (u : ℕ → Bool)
    → ((z : VarId) → is_var (as_word ks (Var z)) ≡ false → is_waiting ps z.0 ≡ false
    → u z.0 ≡ false) → ((z : ℕ) → is_waiting ps z ≡ true → u z ≡ false) → Clear ks u
by_waiting ks ps u h k z e = go (is_waiting ps z.0) refl
  where
    go : (b : Bool) → is_waiting ps z.0 ≡ b → u z.0 ≡ false
    go true q = k z.0 q
    go false q = h z e q

module _ (g : Program) (base : ℕ) where
  -- what holds of the names and of the words that wait
  pub record Ctx (zs : List ℕ) (ks : Names) (a : W.Word) (ps : List DeferredField) (n : ℕ)
      : Type 0 where
    pub low : (y : ℕ) → InScope zs y → y < base
    pub sound : Sound base n zs ks
    pub from : base ≤ n
    pub held : Held base n zs a
    pub waiting : AllOf (λ p. InScope zs p.var.0) ps

  -- of the variables that a piece uses: those that are hidden wait, and what waits for the case on
  -- t is used in its alternatives alone
  pub record Window (zs : List ℕ) (ks : Names) (ps : List DeferredField) (t : ℕ)
      (uses outer : ℕ → Bool) : Type 0 where
    pub hidden : (z : VarId) → is_var (as_word ks (Var z)) ≡ false → is_waiting ps z.0 ≡ false
        → uses z.0 ≡ false
    pub waits : (z : ℕ) → is_waiting ps z ≡ true → outer z ≡ false
    pub tagged : (z : ℕ) → is_waiting ps z ≡ true → InScope zs t

  pub record PieceAct (scope : Scope) (o : Act) : Type 0 where
    pub formed : ActFormed g scope o
    pub inlined : EachAct inlined_kind o
    pub bare : EachAct vectorised_kind o
    pub once : (y : ℕ) → times y scope.words + times y (act_vars o) ≤ 1
    pub below : (y : ℕ) → InScope (act_vars o) y → y < base

  pub record PieceCode (scope : Scope) (b : Code) : Type 0 where
    pub formed : CodeFormed g scope b
    pub inlined : EachCode inlined_kind b
    pub bare : EachCode vectorised_kind b
    pub once : (y : ℕ) → times y scope.words + times y (code_vars b) ≤ 1
    pub below : (y : ℕ) → InScope (code_vars b) y → y < base

  pub record PieceArms (scope : Scope) (as' : Arms) : Type 0 where
    pub formed : ArmsFormed g scope as'
    pub inlined : EachArms inlined_kind as'
    pub bare : EachArms vectorised_kind as'
    pub once : (y : ℕ) → times y scope.words + times y (arms_vars as') ≤ 1
    pub below : (y : ℕ) → InScope (arms_vars as') y → y < base

  pub ctx_on : (zs zs2 : List ℕ) (ks : Names) (a : W.Word) (ps : List DeferredField) (n m : ℕ)
      → n ≤ m
      → ((y : ℕ) → InScope zs y → InScope zs2 y) → ((y : ℕ) → InScope zs2 y → y < base)
      → Ctx zs ks a ps n → Ctx zs2 ks a ps m
  ctx_on zs zs2 ks a ps n m le f low x = record {
    low = low;
    sound = sound_more base n m zs zs2 ks le f x.sound;
    from
        = omega (arith, le, x.from);
    held = held_more base n m zs zs2 a le f x.held;
    waiting
        = go ps x.waiting;
  }
    where
      go : (qs : List DeferredField) → AllOf (λ p. InScope zs p.var.0) qs
          → AllOf (λ p. InScope zs2 p.var.0) qs
      go [] h = tt
      go (p ∷ qs) h = (f p.var.0 h.0, go qs h.1)

  pub ctx_none : (zs : List ℕ) (ks : Names) (a : W.Word) (ps : List DeferredField) (n : ℕ)
      → Ctx zs ks a ps n → Ctx zs ks a [] n
  ctx_none zs ks a ps n x = record
      { low = x.low; sound = x.sound; from = x.from; held = x.held; waiting = tt }

  pub none_waits : (zs : List ℕ) (ks : Names) (t : ℕ) (uses outer : ℕ → Bool) → Clear ks uses
      → Window zs ks [] t uses outer
  none_waits zs ks t uses outer h = record
      { hidden = λ z e q. h z e; waits = λ z q. cc; tagged = λ z q. cc }

  -- ---- variables that are bound once
  pub new_left : (zs xs ys : List ℕ) → ((y : ℕ) → times y zs + times y (xs ++ ys) ≤ 1) → (y : ℕ)
      → InScope xs y → times y zs ≡ 0
  new_left zs xs ys once y i = let o : times y zs + times y (xs ++ ys) ≤ 1 = once y in let e
      : times y (xs ++ ys) ≡ times y xs + times y ys = times_append y xs ys
      in omega (arith, o, e, i)

  pub once_left : (zs xs ys : List ℕ) → ((y : ℕ) → times y zs + times y (xs ++ ys) ≤ 1) → (y : ℕ)
      → times y zs + times y xs ≤ 1
  once_left zs xs ys once y = let o : times y zs + times y (xs ++ ys) ≤ 1 = once y in let e
      : times y (xs ++ ys) ≡ times y xs + times y ys = times_append y xs ys in omega (arith, o, e)

  pub once_right : (zs xs ys : List ℕ) → ((y : ℕ) → times y zs + times y (xs ++ ys) ≤ 1) → (y : ℕ)
      → times y zs + times y ys ≤ 1
  once_right zs xs ys once y = let o : times y zs + times y (xs ++ ys) ≤ 1 = once y in let e
      : times y (xs ++ ys) ≡ times y xs + times y ys = times_append y xs ys in omega (arith, o, e)

  pub once_moved : (zs xs ys : List ℕ) → ((y : ℕ) → times y zs + times y (xs ++ ys) ≤ 1) → (y : ℕ)
      → times y (xs ++ zs) + times y ys ≤ 1
  once_moved zs xs ys once y =
      let o : times y zs + times y (xs ++ ys) ≤ 1 = once y in
      let e : times y (xs ++ ys) ≡ times y xs + times y ys = times_append y xs ys in
      let f : times y (xs ++ zs) ≡ times y xs + times y zs = times_append y xs zs in
      omega (arith, o, e, f)

  pub below_left : (xs ys : List ℕ) → ((y : ℕ) → InScope (xs ++ ys) y → y < base) → (y : ℕ)
      → InScope xs y → y < base
  below_left xs ys f y i = f y
      (let e : times y (xs ++ ys) ≡ times y xs + times y ys = times_append y xs ys
      in omega (arith, e, i))

  pub below_right : (xs ys : List ℕ) → ((y : ℕ) → InScope (xs ++ ys) y → y < base) → (y : ℕ)
      → InScope ys y → y < base
  below_right xs ys f y i = f y
      (let e : times y (xs ++ ys) ≡ times y xs + times y ys = times_append y xs ys
      in omega (arith, e, i))

  pub in_more : (xs zs : List ℕ) (y : ℕ) → InScope zs y → InScope (xs ++ zs) y
  in_more xs zs y i = let e : times y (xs ++ zs) ≡ times y xs + times y zs = times_append y xs zs
      in omega (arith, e, i)

  pub in_first : (xs zs : List ℕ) (y : ℕ) → InScope xs y → InScope (xs ++ zs) y
  in_first xs zs y i = let e : times y (xs ++ zs) ≡ times y xs + times y zs = times_append y xs zs
      in omega (arith, e, i)

  pub low_more : (xs zs : List ℕ) → ((y : ℕ) → InScope xs y → y < base)
      → ((y : ℕ) → InScope zs y → y < base) → (y : ℕ) → InScope (xs ++ zs) y → y < base
  low_more xs zs f k y i = go (times y xs) refl
    where
      go : (m : ℕ) → times y xs ≡ m → y < base
      go zero q = k y
          (let e : times y (xs ++ zs) ≡ times y xs + times y zs = times_append y xs zs
          in omega (arith, e, i, q))
      go (suc m) q = f y (omega (arith, q))

  -- a piece that comes after a target
  pub after_target : (t : Target) (o : Act) (b : Code) (scope : Scope)
      → PieceCode scope (bind t o b)
      → PieceCode (with_target t scope) b
  unfolding CodeFormed EachAct act_vars
  after_target t o b scope q = record {
    formed = q.formed.1;
    inlined = q.inlined.2;
    bare = q.bare.2;
    once = λ y.
        (let e : times y (with_target t scope).words ≡ times y (target_vars t ++ scope.words)
        = ap (times y) (target_words t scope q.bare.0) in
        let k : times y (target_vars t ++ scope.words) + times y (code_vars b) ≤ 1
        = once_moved scope.words (target_vars t) (code_vars b) (λ y. go y (q.once y)) y
        in omega (arith, e, k));
    below = below_right (act_vars o) (code_vars b)
        (below_right (target_vars t) (act_vars o ++ code_vars b) q.below);
  }
    where
      go : (y : ℕ) → times y scope.words + times y (target_vars t ++ (act_vars o ++ code_vars b)) ≤
          1 → times y scope.words + times y (target_vars t ++ code_vars b) ≤ 1
      go y h =
          let e : times y (target_vars t ++ (act_vars o ++ code_vars b)) ≡ times y (target_vars t) +
          times y (act_vars o ++ code_vars b) = times_append y (target_vars t)
          (act_vars o ++ code_vars b) in
          let f : times y (act_vars o ++ code_vars b) ≡ times y (act_vars o) + times y (code_vars b)
          = times_append y (act_vars o) (code_vars b) in
          let k : times y (target_vars t ++ code_vars b) ≡ times y (target_vars t) + times y
          (code_vars b) = times_append y (target_vars t) (code_vars b) in
          omega (arith, e, f, k, h)

  pub ctx_after : (t : Target) (scope : Scope) (ks : Names) (a : W.Word) (ps : List DeferredField)
      (n m : ℕ) → n ≤ m → NoNodeTarget t → ((y : ℕ) → InScope (target_vars t) y → y < base)
      → Ctx scope.words ks a ps n → Ctx (with_target t scope).words ks a ps m
  ctx_after t scope ks a ps n m le nt f x = subst (λ zs. Ctx zs ks a ps m)
      (sym (target_words t scope nt))
      (ctx_on scope.words (target_vars t ++ scope.words) ks a ps n m le
      (in_more (target_vars t) scope.words) (low_more (target_vars t) scope.words f x.low) x)

  pub first_act : (t : Target) (o : Act) (b : Code) (scope : Scope) → PieceCode scope (bind t o b)
      → PieceAct scope o
  unfolding CodeFormed EachAct act_vars
  first_act t o b scope q = record {
    formed = q.formed.0;
    inlined = q.inlined.1;
    bare = q.bare.1;
    once = once_left scope.words (act_vars o) (code_vars b)
        (once_right scope.words (target_vars t) (act_vars o ++ code_vars b) q.once);
    below = below_left (act_vars o) (code_vars b)
        (below_right (target_vars t) (act_vars o ++ code_vars b) q.below);
  }

  pub target_new : (t : Target) (o : Act) (b : Code) (scope : Scope) → PieceCode scope (bind t o b)
      → (y : ℕ) → InScope (target_vars t) y → times y scope.words ≡ 0 × y < base
  unfolding act_vars
  target_new t o b scope q y i = (
    new_left scope.words (target_vars t) (act_vars o ++ code_vars b) q.once y i,
    below_left (target_vars t) (act_vars o ++ code_vars b) q.below y i,
  )
