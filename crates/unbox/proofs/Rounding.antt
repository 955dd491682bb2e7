-- What taking out procedures comes to, step by step.
use Rattle.std.proofs.Common.{◌≡◌, ℕ, zero, suc, ◌<◌, ◌≤◌, Bool, true, false, not, ◌&&◌, ◌||◌, nat_eq, List, [], ◌∷◌, ◌++◌, slice_set, refl, sym, ap, ◌∙◌, subst, arith}
use Rattle.std.proofs.lemmas.Bool.Decides.{nat_tests}
use Rattle.seq.proofs.Truth.{and_true, and_false, and_from, and_left, and_right}
use Rattle.seq.proofs.Lists.{all_append}
use Rattle.grin_syntax.specs.declared.program.ProcId.{ProcId}
use Rattle.grin_syntax.specs.Formed.{AllOf}
use Rattle.unbox.specs.declared.ties.Tie.{Tie}
use Rattle.unbox_theory.specs.Ends.{Procedures, is_member}
use Rattle.unbox.specs.Ties.{any_in, all_in, RespectsTie}
use Rattle.unbox.specs.Rounds.{count_members, is_among, Within, Fewer, ProceduresRemoved, TiesEnforced}
use Rattle.pass_ground.proofs.Tests.{all_front, all_back}
use Rattle.seq.proofs.Order.{no_zero}

next_eq : (g i : ℕ) → nat_eq (suc g) (suc i) ≡ nat_eq g i
next_eq g i = go (nat_eq g i) refl
  where
    go : (b : Bool) → nat_eq g i ≡ b → nat_eq (suc g) (suc i) ≡ nat_eq g i
    go true q = let e : g ≡ i = grind (arith, nat_tests) in grind (arith, nat_tests, e)
    go false q = grind (arith, nat_tests, q)

first_not : (i : ℕ) → nat_eq 0 (suc i) ≡ false
first_not i = grind (arith, nat_tests)

-- ---- one that is taken out

set_member : (bs : List Bool) (i g : ℕ) → is_member (slice_set bs i false) g ≡
    (is_member bs g && not (nat_eq g i || false))
set_member [] i g = refl
set_member (b ∷ bs) zero zero = sym (and_false b)
set_member (b ∷ bs) zero (suc g) = sym (and_true (is_member bs g)) ∙ ap
    (λ t. is_member bs g && not (t || false)) (sym (no_zero g))
set_member (b ∷ bs) (suc i) zero = sym (and_true b) ∙ ap (λ t. b && not (t || false))
    (sym (first_not i))
set_member (b ∷ bs) (suc i) (suc g) = set_member bs i g ∙ ap
    (λ t. is_member bs g && not (t || false)) (sym (next_eq g i))

set_trues : (bs : List Bool) (i : ℕ) → is_member bs i ≡ true
    → suc (count_members (slice_set bs i false)) ≡ count_members bs
set_trues [] i h = cc
set_trues (true ∷ bs) zero h = omega arith
set_trues (false ∷ bs) zero h = cc
set_trues (b ∷ bs) (suc i) h = let e : suc (count_members (slice_set bs i false)) ≡ count_members bs
    = set_trues bs i h in omega (arith, e)

pub one_taken : (old new : List Bool) (f : ProcId) → is_member old f.0 ≡ true
    → new ≡ slice_set old f.0 false → ProceduresRemoved old new (f ∷ []) true
one_taken old new f h e = record {
  members = λ g. ap (λ bs. is_member bs g) e ∙ set_member old f.0 g;
  fewer = record { at_most = less; less = λ _. less'; still = λ q. cc };
}
  where
    count : suc (count_members new) ≡ count_members old
    count = ap (λ bs. suc (count_members bs)) e ∙ set_trues old f.0 h

    less : count_members new ≤ count_members old
    less = let c : suc (count_members new) ≡ count_members old = count in omega (arith, c)

    less' : count_members new < count_members old
    less' = let c : suc (count_members new) ≡ count_members old = count in omega (arith, c)

same_count : (bs : List Bool) → Fewer bs bs false
same_count bs = record { at_most = omega arith; less = λ q. cc; still = λ _. refl }

pub none_taken : (old : List Bool) (f : ProcId) → is_member old f.0 ≡ false
    → ProceduresRemoved old old (f ∷ []) false
none_taken old f h = record { members = λ g. go g (nat_eq g f.0) refl; fewer = same_count old }
  where
    go : (g : ℕ) (b : Bool) → nat_eq g f.0 ≡ b → is_member old g ≡
        (is_member old g && not (nat_eq g f.0 || false))
    go g true q = let e : g ≡ f.0 = grind (arith, nat_tests) in let n : is_member old g ≡ false
        = ap (is_member old) e ∙ h in n ∙ sym (ap (λ t. t && not (nat_eq g f.0 || false)) n)
    go g false q = sym (and_true (is_member old g)) ∙ ap (λ t. is_member old g && not (t || false))
        (sym q)

-- ---- more of them

pub fewer_more : (old mid new : List Bool) (a b : Bool) → Fewer old mid a → Fewer mid new b
    → Fewer old new (a || b)
fewer_more old mid new a b f k = record {
  at_most = let x : count_members mid ≤ count_members old = f.at_most in let y
      : count_members new ≤ count_members mid = k.at_most in omega (arith, x, y);
  less = λ e. go a refl e;
  still = λ e. still a refl e;
}
  where
    go : (c : Bool) → a ≡ c → (a || b) ≡ true → count_members new < count_members old
    go true q e = let x : count_members mid < count_members old = f.less q in let y
        : count_members new ≤ count_members mid = k.at_most in omega (arith, x, y)
    go false q e = let x : count_members mid ≤ count_members old = f.at_most in let y
        : count_members new < count_members mid = k.less (sym (ap (λ c. c || b) q) ∙ e)
        in omega (arith, x, y)

    still : (c : Bool) → a ≡ c → (a || b) ≡ false → new ≡ old
    still true q e = let bad : true ≡ false = sym (ap (λ c. c || b) q) ∙ e in cc
    still false q e = k.still (sym (ap (λ c. c || b) q) ∙ e) ∙ f.still q

among_append : (g : ℕ) (xs ys : List ProcId) → is_among g (xs ++ ys) ≡
    (is_among g xs || is_among g ys)
among_append g [] ys = refl
among_append g (x ∷ xs) ys = ap (λ b. nat_eq g x.0 || b) (among_append g xs ys) ∙ assoc
    (nat_eq g x.0) (is_among g xs) (is_among g ys)
  where
    assoc : (a b c : Bool) → (a || (b || c)) ≡ ((a || b) || c)
    assoc true b c = refl
    assoc false b c = refl

not_either : (a x y : Bool) → ((a && not x) && not y) ≡ (a && not (x || y))
not_either true true y = refl
not_either true false y = refl
not_either false x y = refl

pub nothing_taken : (bs : List Bool) → ProceduresRemoved bs bs [] false
nothing_taken bs = record { members = λ g. sym (and_true (is_member bs g)); fewer = same_count bs }

pub more_taken : (old mid new : List Bool) (xs ys : List ProcId) (a b : Bool)
    → ProceduresRemoved old mid xs a → ProceduresRemoved mid new ys b
    → ProceduresRemoved old new (xs ++ ys) (a || b)
more_taken old mid new xs ys a b f k = record {
  members = λ g. k.members g ∙ ap (λ t. t && not (is_among g ys)) (f.members g) ∙ not_either
      (is_member old g) (is_among g xs) (is_among g ys) ∙ ap (λ t. is_member old g && not t)
      (sym (among_append g xs ys));
  fewer = fewer_more old mid new a b f.fewer k.fewer;
}

-- ---- a tie

all_within : (T : Procedures) (bs : List Bool) (fs : List ProcId) → Within T bs → all_in T fs ≡ true
    → all_in (is_member bs) fs ≡ true
all_within T bs [] w h = refl
all_within T bs (f ∷ fs) w h = and_from (is_member bs f.0) (all_in (is_member bs) fs)
    (w f.0 (and_left (T f.0) (all_in T fs) h))
    (all_within T bs fs w (and_right (T f.0) (all_in T fs) h))

among_any : (T : Procedures) (g : ℕ) (fs : List ProcId) → T g ≡ true → is_among g fs ≡ true
    → any_in T fs ≡ true
among_any T g [] h k = cc
among_any T g (f ∷ fs) h k = go (nat_eq g f.0) refl (T f.0) refl (among_any T g fs h)
  where
    go : (b : Bool) → nat_eq g f.0 ≡ b → (t : Bool) → T f.0 ≡ t
        → (is_among g fs ≡ true → any_in T fs ≡ true) → (T f.0 || any_in T fs) ≡ true
    go true q t r later = let e : g ≡ f.0 = grind (arith, nat_tests)
        in ap (λ c. c || any_in T fs) (sym (ap T e) ∙ h)
    go false q true r later = ap (λ c. c || any_in T fs) r
    go false q false r later = ap (λ c. c || any_in T fs) r ∙ later
        (sym (ap (λ c. c || is_among g fs) q) ∙ k)

pub tie_kept : (bs : List Bool) (t : Tie) → (t.sound && all_in (is_member bs) t.procs) ≡ true
    → TiesEnforced bs bs (t ∷ []) false
tie_kept bs t h = record { sound = λ T all w. w; done = λ _. ((λ _. h), tt); fewer = same_count bs }

none_any : (old new : List Bool) (fs : List ProcId)
    → ((g : ℕ) → is_among g fs ≡ true → is_member new g ≡ false) → any_in (is_member new) fs ≡ false
none_any old new [] h = refl
none_any old new (f ∷ fs) h = ap (λ b. b || any_in (is_member new) fs)
    (h f.0 (ap (λ b. b || is_among f.0 fs) here)) ∙ none_any old new fs
    (λ g k. h g (later g (nat_eq g f.0) k))
  where
    here : nat_eq f.0 f.0 ≡ true
    here = grind (arith, nat_tests)

    later : (g : ℕ) (b : Bool) → is_among g fs ≡ true → (b || is_among g fs) ≡ true
    later g true k = refl
    later g false k = k

pub tie_taken : (old new : List Bool) (t : Tie) (changed : Bool)
    → (t.sound && all_in (is_member old) t.procs) ≡ false
    → ProceduresRemoved old new t.procs changed → TiesEnforced old new (t ∷ []) changed
tie_taken old new t changed bad k = record {
  sound = λ T all w f h. k.members f ∙ out T all.0 w f h (is_among f t.procs) refl;
  done = λ _. ((λ e. never e), tt);
  fewer = k.fewer;
}
  where
    clash : {P : Type 0} (b : Bool) → b ≡ true → b ≡ false → P
    clash b x y = cc

    out : (T : Procedures) → RespectsTie T t → Within T old → (f : ℕ) → T f ≡ true → (b : Bool)
        → is_among f t.procs ≡ b → (is_member old f && not (is_among f t.procs)) ≡ true
    out T heeds w f h true q =
        let e : (t.sound && all_in T t.procs) ≡ true = heeds (among_any T f t.procs h q) in
        clash (t.sound && all_in (is_member old) t.procs)
        (and_from t.sound (all_in (is_member old) t.procs)
        (and_left t.sound (all_in T t.procs) e)
        (all_within T old t.procs w (and_right t.sound (all_in T t.procs) e))) bad
    out T heeds w f h false q = and_from (is_member old f) (not (is_among f t.procs)) (w f h)
        (ap not q)

    gone : (g : ℕ) → is_among g t.procs ≡ true → is_member new g ≡ false
    gone g q = k.members g ∙ ap (λ b. is_member old g && not b) q ∙ and_false (is_member old g)

    never : any_in (is_member new) t.procs ≡ true → (t.sound && all_in (is_member new) t.procs) ≡
        true
    never e = clash (any_in (is_member new) t.procs) e (none_any old new t.procs gone)

-- ---- many ties

pub none_heeded : (bs : List Bool) → TiesEnforced bs bs [] false
none_heeded bs = record { sound = λ T all w. w; done = λ _. tt; fewer = same_count bs }

pub more_heeded : (old mid new : List Bool) (xs ys : List Tie) (a b : Bool)
    → TiesEnforced old mid xs a → TiesEnforced mid new ys b
    → TiesEnforced old new (xs ++ ys) (a || b)
more_heeded old mid new xs ys a b f k = record {
  sound = λ T all w. k.sound T (all_back (RespectsTie T) xs ys all)
      (f.sound T (all_front (RespectsTie T) xs ys all) w);
  done = λ e. all_append (RespectsTie (is_member new)) xs ys
      (subst (λ bs. AllOf (RespectsTie (is_member bs)) xs) (sym (k.fewer.still (right e)))
      (f.done (left e))) (k.done (right e));
  fewer = fewer_more old mid new a b f.fewer k.fewer;
}
  where
    left : (a || b) ≡ false → a ≡ false
    left e = go a e
      where
        go : (a : Bool) → (a || b) ≡ false → a ≡ false
        go true e = e
        go false e = refl

    right : (a || b) ≡ false → b ≡ false
    right e = go a e
      where
        go : (a : Bool) → (a || b) ≡ false → b ≡ false
        go true e = cc
        go false e = e
