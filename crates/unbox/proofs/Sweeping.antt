-- What the loops over ties and procedures have taken out so far.
use Rattle.std.proofs.Common.{◌≡◌, ℕ, zero, suc, ◌+◌, ◌<◌, ◌≤◌, Bool, true, false, cond, ◌&&◌, ◌||◌, List, [], ◌∷◌, ◌++◌, take, length, get_or, slice_set, refl, sym, ap, ◌∙◌, subst, arith}
use Rattle.std.proofs.lemmas.List.{take_all, take_more}
use Rattle.seq.proofs.Truth.{and_assoc, and_true}
use Rattle.seq.proofs.Lists.{take_next}
use Rattle.grin_syntax.specs.declared.program.ProcId.{ProcId}
use Rattle.grin_syntax.specs.Formed.{AllOf}
use Rattle.unbox.specs.declared.ties.Tie.{Tie}
use Rattle.unbox_theory.specs.Ends.{Procedures, is_member}
use Rattle.unbox.specs.Ties.{all_in, RespectsTie, IsGreatestRespecting}
use Rattle.unbox.specs.Rounds.{count_members, Within, ProceduresRemoved, TiesEnforced}
use Rattle.unbox.proofs.Rounding.{one_taken, none_taken, more_taken, tie_taken, more_heeded}

-- ---- procedures

pub one_out : (old new : List Bool) (f : ProcId) (inside : Bool) → inside ≡ is_member old f.0
    → inside ≡ true → new ≡ slice_set old f.0 false → ProceduresRemoved old new (f ∷ []) inside
one_out old new f inside h e k = subst (ProceduresRemoved old new (f ∷ [])) (sym e)
    (one_taken old new f (sym h ∙ e) k)

pub one_not_in : (old : List Bool) (f : ProcId) (inside : Bool) → inside ≡ is_member old f.0
    → inside ≡ false → ProceduresRemoved old old (f ∷ []) inside
one_not_in old f inside h e = subst (ProceduresRemoved old old (f ∷ [])) (sym e)
    (none_taken old f (sym h ∙ e))

module _ (S : Procedures) where
  all_in_push : (fs : List ProcId) (f : ProcId) → all_in S (fs ++ f ∷ []) ≡ (all_in S fs && S f.0)
  all_in_push [] f = and_true (S f.0)
  all_in_push (x ∷ fs) f = ap (λ b. S x.0 && b) (all_in_push fs f) ∙ sym
      (and_assoc (S x.0) (all_in S fs) (S f.0))

  pub all_in_next : (fs : List ProcId) (i : ℕ) (d : ProcId) (all here both : Bool) → i < length fs
      → here ≡ S (get_or fs i d).0 → both ≡ (all && here) → all ≡ all_in S (take i fs)
      → both ≡ all_in S (take (i + 1) fs)
  all_in_next fs i d all here both lt h k a = k ∙ (λ j. a j && h j) ∙ sym
      (all_in_push (take i fs) (get_or fs i d)) ∙ ap (all_in S) (sym (take_more fs i d lt))

  pub all_in_done : (fs : List ProcId) (i : ℕ) (all : Bool) → length fs ≤ i
      → all ≡ all_in S (take i fs) → all ≡ all_in S fs
  all_in_done fs i all le a = a ∙ ap (all_in S) (take_all i fs le)

pub taken_next : (old mid new : List Bool) (fs : List ProcId) (i : ℕ) (d : ProcId)
    (changed here both : Bool) → i < length fs → ProceduresRemoved mid new (get_or fs i d ∷ []) here
    → both ≡ (changed || here)
    → ProceduresRemoved old mid (take i fs) changed
    → ProceduresRemoved old new (take (i + 1) fs) both
taken_next old mid new fs i d changed here both lt k b t
    = rw (take_more fs i d lt, b)
    (more_taken old mid new (take i fs) (get_or fs i d ∷ []) changed here t k)

pub taken_done : (old new : List Bool) (fs : List ProcId) (i : ℕ) (changed : Bool) → length fs ≤ i
    → ProceduresRemoved old new (take i fs) changed → ProceduresRemoved old new fs changed
taken_done old new fs i changed le t = subst (λ l. ProceduresRemoved old new l changed)
    (take_all i fs le) t

-- ---- ties

pub is_kept : (S : Procedures) (t : Tie) (ps : List ProcId) (all kept : Bool) → ps ≡ t.procs
    → all ≡ all_in S ps → kept ≡ (t.sound && all) → (t.sound && all_in S t.procs) ≡ kept
is_kept S t ps all kept e h k = sym (k ∙ ap (λ b. t.sound && b) (h ∙ ap (all_in S) e))

pub heeded_next : (old mid new : List Bool) (ts : List Tie) (i : ℕ) (t : Tie)
    (changed here both : Bool) → i < length ts → t ≡ get_or ts i t
    → TiesEnforced mid new (t ∷ []) here → both ≡ (changed || here)
    → TiesEnforced old mid (take i ts) changed → TiesEnforced old new (take (i + 1) ts) both
heeded_next old mid new ts i t changed here both lt e k b h
    = rw (take_next ts i t lt e, b) (more_heeded old mid new (take i ts) (t ∷ []) changed here h k)

pub heeded_done : (old new : List Bool) (ts : List Tie) (i : ℕ) (changed : Bool) → length ts ≤ i
    → TiesEnforced old new (take i ts) changed → TiesEnforced old new ts changed
heeded_done old new ts i changed le h = subst (λ l. TiesEnforced old new l changed)
    (take_all i ts le) h

pub taken_out : (old new : List Bool) (t : Tie) (ps : List ProcId) (kept changed : Bool)
    → ps ≡ t.procs → (t.sound && all_in (is_member old) t.procs) ≡ kept → kept ≡ false
    → ProceduresRemoved old new ps changed → TiesEnforced old new (t ∷ []) changed
taken_out old new t ps kept changed e h k x = tie_taken old new t changed (h ∙ k)
    (subst (λ ps. ProceduresRemoved old new ps changed) e x)

-- backwards
pub record Back (ts : List Tie) (old new : List Bool) : Type 0 where
  pub sound : (T : Procedures) → AllOf (RespectsTie T) ts → Within T old → Within T new
  pub fewer : count_members new ≤ count_members old

pub no_step_back : (ts : List Tie) (old : List Bool) → Back ts old old
no_step_back ts old = record { sound = λ T all w. w; fewer = omega arith }

at_place : {X : Type 0} (P : X → Type 0) (xs : List X) (i : ℕ) (x : X) → i < length xs → AllOf P xs
    → P (get_or xs i x)
at_place P [] i x lt h = absurd (omega arith)
at_place P (y ∷ xs) zero x lt h = h.0
at_place P (y ∷ xs) (suc i) x lt h = at_place P xs i x (omega arith) h.1

pub step_back : (ts : List Tie) (old mid new : List Bool) (i : ℕ) (t : Tie) (changed : Bool)
    → i < length ts → t ≡ get_or ts i t → TiesEnforced mid new (t ∷ []) changed → Back ts old mid
    → Back ts old new
step_back ts old mid new i t changed lt e h b = record {
  sound = λ T all w. h.sound T
      (subst (RespectsTie T) (sym e) (at_place (RespectsTie T) ts i t lt all), tt)
      (b.sound T all w);
  fewer = let x : count_members new ≤ count_members mid = h.fewer.at_most in let y
      : count_members mid ≤ count_members old = b.fewer in omega (arith, x, y);
}

-- ---- rounds

pub there_and_back : (old mid new : List Bool) (ts : List Tie) (changed : Bool)
    → TiesEnforced old mid ts changed → changed ≡ true
    → ((T : Procedures) → AllOf (RespectsTie T) ts → Within T mid → Within T new)
    → count_members new ≤ count_members mid → TiesEnforced old new ts true
there_and_back old mid new ts changed h c s f = record {
  sound = λ T all w. s T all (h.sound T all w);
  done = λ e. cc;
  fewer = record {
    at_most = let x : count_members mid < count_members old = h.fewer.less c
        in omega (arith, x, f);
    less = λ e. let x : count_members mid < count_members old
        = h.fewer.less c in omega (arith, x, f);
    still = λ e. cc;
  };
}

-- no set that heeds the ties has lost a procedure
pub record Rounds (count : ℕ) (ts : List Tie) (inside : List Bool) (more : Bool) : Type 0 where
  pub sound : (T : Procedures) → ((f : ℕ) → T f ≡ true → f < count) → AllOf (RespectsTie T) ts
      → Within T inside
  pub done : more ≡ false → AllOf (RespectsTie (is_member inside)) ts

pub first_round : (count : ℕ) (ts : List Tie) (inside : List Bool)
    → ((T : Procedures) → ((f : ℕ) → T f ≡ true → f < count) → Within T inside)
    → Rounds count ts inside true
first_round count ts inside h = record { sound = λ T below all. h T below; done = λ e. cc }

pub next_round : (count : ℕ) (ts : List Tie) (old new : List Bool) (more changed : Bool)
    → Rounds count ts old more → TiesEnforced old new ts changed → Rounds count ts new changed
next_round count ts old new more changed r h = record
    { sound = λ T below all. h.sound T all (r.sound T below all); done = h.done }

pub last_round : (count : ℕ) (ts : List Tie) (inside : List Bool) (more : Bool)
    → Rounds count ts inside more → more ≡ false → IsGreatestRespecting count ts (is_member inside)
last_round count ts inside more r e = record
    { heeds = r.done e; greatest = λ T below all. r.sound T below all }

pub rounds_end : (old new : List Bool) (ts : List Tie) (more changed : Bool) → more ≡ true
    → TiesEnforced old new ts changed → count_members new + cond changed 1 0 < count_members old +
    cond more 1 0
rounds_end old new ts more changed e h = subst
    (λ b. count_members new + cond changed 1 0 < count_members old + cond b 1 0) (sym e)
    (go changed refl)
  where
    go : (c : Bool) → changed ≡ c → count_members new + cond c 1 0 < count_members old + 1
    go true q = let x : count_members new < count_members old = h.fewer.less q in omega (arith, x)
    go false q = let x : count_members new ≤ count_members old = h.fewer.at_most in omega (arith, x)

-- ---- all are in

pub record AllIn (inside : List Bool) (n : ℕ) : Type 0 where
  pub many : length inside ≡ n
  pub all : (f : ℕ) → f < n → is_member inside f ≡ true

pub none_in : (inside : List Bool) → inside ≡ [] → AllIn inside 0
none_in inside e = record { many = ap length e; all = λ f lt. absurd (omega arith) }

push_in : (bs : List Bool) (f : ℕ) → ((g : ℕ) → g < length bs → is_member bs g ≡ true)
    → f < length bs + 1 → is_member (bs ++ true ∷ []) f ≡ true
push_in [] zero h lt = refl
push_in [] (suc f) h lt = absurd (omega arith)
push_in (b ∷ bs) zero h lt = h 0 (omega arith)
push_in (b ∷ bs) (suc f) h lt = push_in bs f (λ g k. h (suc g) (omega arith)) (omega arith)

length_push : (bs : List Bool) → length (bs ++ true ∷ []) ≡ length bs + 1
length_push [] = refl
length_push (b ∷ bs) = let e : length (bs ++ true ∷ []) ≡ length bs + 1 = length_push bs
    in omega (arith, e)

pub one_more_in : (inside more : List Bool) (n : ℕ) → more ≡ inside ++ true ∷ [] → AllIn inside n
    → AllIn more (n + 1)
one_more_in inside more n e a = record {
  many = ap length e ∙ length_push inside ∙ ap (λ k. k + 1) a.many;
  all = λ f lt. ap (λ bs. is_member bs f) e ∙ push_in inside f
      (λ g k. a.all g (subst (λ m. g < m) a.many k)) (subst (λ m. f < m + 1) (sym a.many) lt);
}

pub all_within : (count n : ℕ) (inside : List Bool) → AllIn inside n → count ≤ n → (T : Procedures)
    → ((f : ℕ) → T f ≡ true → f < count) → Within T inside
all_within count n inside a le T below f h = let lt : f < count = below f h in a.all f (omega arith)
