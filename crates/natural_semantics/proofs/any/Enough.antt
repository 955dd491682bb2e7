-- What is derived to be printed the evaluator prints, given enough units.
use Rattle.std.proofs.Common.{◌≡◌, ℕ, zero, suc, ◌+◌, ◌≤◌, max, Bool, true, false, List, [], ◌∷◌, ◌++◌, length, refl, ap, sym, ◌∙◌, subst, arith, append_assoc, append-nil}
use Rattle.std.specs.Prelude.{◌==◌, if◌then◌else◌}
use Rattle.std.proofs.lemmas.Bool.{eq-eqb, ne_eqb}
use Rattle.headline.specs.Carries.{IsPrefixOf}
use Rattle.core_meaning.specs.Heap.{ValueOf, Int, Con, Part, Call, Input, Waiting}
use Rattle.core_meaning.specs.Forcing.{StateOf, AnswerOf, Gives, NoAlternative, OutOfBound, spend_of, append, start, PrintingEnd, Done, Unaccepted, Going, PrintedRun, stops, on_value, on_list, on_byte}
use Rattle.numbers.specs.Numbers.{low_byte}
use Rattle.natural_semantics.specs.World.{WorldOf, extended, NoNumber, AConstructor, AFunction}
use Rattle.natural_semantics.specs.any.Moves.{ProgramOf, force, within, print, printed, printed_from_input}
use Rattle.natural_semantics.specs.any.Prints.{NoList, ANumber, AFunction as AFunction', NotNil, OneField, NotCons, ManyFields, Prints, Behind, AtNil, NoList', ListSticks, Puts, NoByte', ByteSticks, first_world, ProgramPrints, OfItself, OfInput}
use Rattle.natural_semantics.proofs.any.Sound.{world}
use Rattle.natural_semantics.proofs.any.Complete.{Finds, forces_found}
use Rattle.natural_semantics.proofs.any.Sticking.{Sticks, force_sticks}

-- a run that has ended is this output and this end; one that goes on begins so
abbrev pub Shows : PrintingEnd → List ℕ → PrintedRun → Type 0
Shows Going out r = IsPrefixOf out r.out
Shows Done out r = (r.out ≡ out) × (r.end ≡ Done)
Shows Unaccepted out r = (r.out ≡ out) × (r.end ≡ Unaccepted)

-- ---- what was put out stays

value_keeps : {F : Type 0} (r : AnswerOf F) (o : List ℕ) (go : ValueOf F → StateOf F → PrintedRun)
    → ((v : ValueOf F) (s : StateOf F) → IsPrefixOf o (go v s).out)
    → IsPrefixOf o (on_value r o go).out
value_keeps (Gives v s) o go h = h v s
value_keeps (NoAlternative s) o go h = ([], sym (append-nil o))
value_keeps (OutOfBound s) o go h = ([], sym (append-nil o))

choice_keeps : {F : Type 0} (b : Bool) (o : List ℕ) (x : PrintedRun) (s : StateOf F)
    → IsPrefixOf o x.out
    → IsPrefixOf o (elim b as (λ y. PrintedRun) [ true ↦ x | false ↦ stops o Unaccepted s ]).out
choice_keeps true o x s h = h
choice_keeps false o x s h = ([], sym (append-nil o))

list_keeps : {F : Type 0} (n c : ℕ) (v : ValueOf F) (o : List ℕ) (s : StateOf F)
    (go : ℕ → ℕ → PrintedRun)
    → ((h t : ℕ) → IsPrefixOf o (go h t).out)
    → IsPrefixOf o (on_list n c v o s go).out
list_keeps n c (Int k) o s go h = ([], sym (append-nil o))
list_keeps n c (Part f xs) o s go h = ([], sym (append-nil o))
list_keeps n c (Con d []) o s go h = ([], sym (append-nil o))
list_keeps n c (Con d (x ∷ [])) o s go h = ([], sym (append-nil o))
list_keeps n c (Con d (x ∷ t ∷ [])) o s go h = choice_keeps (d == c) o (go x t) s (h x t)
list_keeps n c (Con d (x ∷ t ∷ u ∷ xs)) o s go h = ([], sym (append-nil o))

byte_keeps : {F : Type 0} (v : ValueOf F) (o : List ℕ) (s : StateOf F) (go : ℕ → PrintedRun)
    → ((b : ℕ) → IsPrefixOf o (go b).out)
    → IsPrefixOf o (on_byte v o s go).out
byte_keeps (Int k) o s go h = h (low_byte k)
byte_keeps (Con c xs) o s go h = ([], sym (append-nil o))
byte_keeps (Part f xs) o s go h = ([], sym (append-nil o))

-- a list that begins with another and one more begins with that
before : (o out : List ℕ) (b : ℕ) → IsPrefixOf (o ++ b ∷ []) out → IsPrefixOf o out
before o out b h = (b ∷ h.0, h.1 ∙ append_assoc o (b ∷ []) h.0)

module _ {F : Type 0} (p : ProgramOf F) where
  pub keeps : (n a : ℕ) (o : List ℕ) (s : StateOf F) → IsPrefixOf o (print p n a o s).out
  keeps zero a o s = ([], sym (append-nil o))
  keeps (suc n) a o s =
      value_keeps (spend_of s.left 0 s (force p (within p n) a 1)) o _ (λ v s.
      list_keeps (p.nil) (p.cons) v o s _ (λ h t.
      value_keeps (force p (within p n) h 1 s) o _ (λ w s.
      byte_keeps w o s _ (λ b. before o _ b (keeps n t (o ++ b ∷ []) s)))))

  -- ---- a step

  -- what follows the head and the tail of a list
  abbrev after_list : ℕ → List ℕ → StateOf F → ℕ → ℕ → PrintedRun
  after_list n o s h t =
      on_value (force p (within p n) h 1 s) o
      (λ w s. on_byte w o s (λ b. print p n t (o ++ b ∷ []) s))

  -- the list's name has this value, and printing goes on with it
  record Steps (s : StateOf F) (n a : ℕ) (o : List ℕ) (k : ℕ) (v : ValueOf F) (w : WorldOf F)
      : Type 0 where
    pub state : StateOf F
    pub turns : ℕ
    pub is : print p n a o s ≡ on_list (p.nil) (p.cons) v o state (after_list turns o state)
    pub there : world state ≡ w
    pub spent : s.left ≤ state.left + k
    pub kept : state.left ≤ turns

  steps : (w w1 : WorldOf F) (a : ℕ) (v : ValueOf F)
      (m : Finds w (λ n d s. force p (within p n) a d s) v w1) (n : ℕ) (s : StateOf F) (o : List ℕ)
      → world s ≡ w → suc m.units ≤ s.left → s.left ≤ n → Steps s n a o (suc m.units) v w1
  steps w w1 a v m zero s o e le top = absurd (omega (arith, le, top))
  steps w w1 a v m (suc n) s o e le top = go s.left refl
    where
      go : (l : ℕ) → s.left ≡ l → Steps s (suc n) a o (suc m.units) v w1
      go zero z = absurd (omega (arith, le, z))
      go (suc l) z =
          let s' : StateOf F = record s { left = l; depth = max s.depth 0 } in
          let f = m.finds n 1 s' e (omega (arith, z, le)) (omega (arith, z, top)) in
          record {
            state = f.state;
            turns = n;
            is = ap (λ x. on_value (spend_of x 0 s (force p (within p n) a 1)) o
                (λ v s. on_list (p.nil) (p.cons) v o s (after_list n o s))) z
                ∙ ap (λ y. on_value y o (λ v s. on_list (p.nil) (p.cons) v o s (after_list n o s)))
                f.is;
            there = f.there;
            spent = omega (arith, z, f.spent);
            kept = omega (arith, z, f.kept, top);
          }

  -- it has none, and the run ends
  list_sticks : (w : WorldOf F) (a : ℕ) (m : Sticks w (λ n d s. force p (within p n) a d s)) (n : ℕ)
      (s : StateOf F) (o : List ℕ) → world s ≡ w
      → suc m.units ≤ s.left → s.left ≤ n → Shows Unaccepted o (print p n a o s)
  list_sticks w a m zero s o e le top = absurd (omega (arith, le, top))
  list_sticks w a m (suc n) s o e le top = go s.left refl
    where
      go : (l : ℕ) → s.left ≡ l → Shows Unaccepted o (print p (suc n) a o s)
      go zero z = absurd (omega (arith, le, z))
      go (suc l) z =
          let s' : StateOf F = record s { left = l; depth = max s.depth 0 } in
          let f = m.sticks n 1 s' e (omega (arith, z, le)) (omega (arith, z, top)) in
          let is : print p (suc n) a o s ≡ stops o Unaccepted f.state
          = ap (λ x. on_value (spend_of x 0 s (force p (within p n) a 1)) o
          (λ v s. on_list (p.nil) (p.cons) v o s (after_list n o s))) z
          ∙ ap (λ y. on_value y o (λ v s. on_list (p.nil) (p.cons) v o s (after_list n o s)))
          f.is in
          (ap (λ (r : PrintedRun). r.out) is, ap (λ (r : PrintedRun). r.end) is)

  -- ---- the values of lists

  at_nil : (o : List ℕ) (s : StateOf F) (go : ℕ → ℕ → PrintedRun)
      → on_list (p.nil) (p.cons) (Con (p.nil) []) o s go ≡ stops o Done s
  at_nil o s go = ap (λ l. stops o (if l then Done else Unaccepted) s) (eq-eqb (p.nil) (p.nil) refl)

  at_cons : (h t : ℕ) (o : List ℕ) (s : StateOf F) (go : ℕ → ℕ → PrintedRun)
      → on_list (p.nil) (p.cons) (Con (p.cons) (h ∷ t ∷ [])) o s go ≡ go h t
  at_cons h t o s go =
      ap (λ l. elim l as (λ x. PrintedRun) [ true ↦ go h t | false ↦ stops o Unaccepted s ])
      (eq-eqb (p.cons) (p.cons) refl)

  at_none : (v : ValueOf F) (o : List ℕ) (s : StateOf F) (go : ℕ → ℕ → PrintedRun)
      → NoList p.nil p.cons v
      → on_list (p.nil) (p.cons) v o s go ≡ stops o Unaccepted s
  at_none v o s go ANumber = refl
  at_none v o s go AFunction' = refl
  at_none v o s go (NotNil {d = d} q) = ap (λ l. stops o (if l then Done else Unaccepted) s)
      (ne_eqb d (p.nil) q)
  at_none v o s go OneField = refl
  at_none v o s go (NotCons {d = d} {h = h} {t = t} q) =
      ap (λ l. elim l as (λ x. PrintedRun) [ true ↦ go h t | false ↦ stops o Unaccepted s ])
      (ne_eqb d (p.cons) q)
  at_none v o s go ManyFields = refl

  no_byte : (v : ValueOf F) (o : List ℕ) (s : StateOf F) (go : ℕ → PrintedRun) → NoNumber v
      → on_byte v o s go ≡ stops o Unaccepted s
  no_byte v o s go AConstructor = refl
  no_byte v o s go AFunction = refl

  ended : (end : PrintingEnd) (o : List ℕ) (r : PrintedRun) (s : StateOf F) → r ≡ stops o end s
      → (r.out ≡ o) × (r.end ≡ end)
  ended end o r s e = (ap (λ (x : PrintedRun). x.out) e, ap (λ (x : PrintedRun). x.end) e)

  shows_as : (end : PrintingEnd) (out out' : List ℕ) (r r' : PrintedRun) → out ≡ out' → r' ≡ r
      → Shows end out r → Shows end out' r'
  shows_as end out out' r r' e f h =
      subst (λ x. Shows end x r') e (subst (λ x. Shows end out x) (sym f) h)

  -- a list is printed so in each state of a world that has as many units
  pub record Shown (w : WorldOf F) (a : ℕ) (out : List ℕ) (end : PrintingEnd) : Type 0 where
    pub units : ℕ
    pub shown : (n : ℕ) (s : StateOf F) (o : List ℕ) → world s ≡ w → units ≤ s.left → s.left ≤ n
        → Shows end (o ++ out) (print p n a o s)

  pub prints_shown : (w : WorldOf F) (a : ℕ) (out : List ℕ) (end : PrintingEnd)
      → Prints p w a out end
      → Shown w a out end
  prints_shown w a out end Behind =
      record {
        units = 0;
        shown = λ n s o e le top. subst (λ x. IsPrefixOf x (print p n a o s).out)
            (sym (append-nil o)) (keeps n a o s);
      }
  prints_shown w a out end (AtNil {w' = w1} f) =
      let m = forces_found p w w1 a _ f in
      record {
        units = suc m.units;
        shown = λ n s o e le top.
            let t = steps w w1 a _ m n s o e le top in
            shows_as Done o (o ++ []) (print p n a o s) (print p n a o s) (sym (append-nil o)) refl
            (ended Done o (print p n a o s) t.state
            (t.is ∙ at_nil o t.state (after_list t.turns o t.state)));
      }
  prints_shown w a out end (NoList' {w' = w1} {v = v} f none) =
      let m = forces_found p w w1 a v f in
      record {
        units = suc m.units;
        shown = λ n s o e le top.
            let t = steps w w1 a v m n s o e le top in
            shows_as Unaccepted o (o ++ []) (print p n a o s) (print p n a o s) (sym (append-nil o))
            refl
            (ended Unaccepted o (print p n a o s) t.state
            (t.is ∙ at_none v o t.state (after_list t.turns o t.state) none));
      }
  prints_shown w a out end (ListSticks x) =
      let m = force_sticks p w a x in
      record {
        units = suc m.units;
        shown = λ n s o e le top. shows_as Unaccepted o (o ++ []) (print p n a o s)
            (print p n a o s) (sym (append-nil o)) refl (list_sticks w a m n s o e le top);
      }
  prints_shown w a out end (Puts {w' = w1} {w'' = w2} {h = h} {t = t} {k = k} {out = more} f g rest)
      =
      let m = forces_found p w w1 a _ f in
      let m' = forces_found p w1 w2 h (Int k) g in
      let tail = prints_shown w2 t more end rest in
      record {
        units = suc m.units + (m'.units + tail.units);
        shown = λ n s o e le top.
            let x = steps w w1 a _ m n s o e (omega (arith, le)) top in
            let y = m'.finds x.turns 1 x.state x.there (omega (arith, le, x.spent)) x.kept in
            let z = tail.shown x.turns y.state (o ++ low_byte k ∷ []) y.there
            (omega (arith, le, x.spent, y.spent)) (omega (arith, x.kept, y.kept)) in
            shows_as end ((o ++ low_byte k ∷ []) ++ more) (o ++ low_byte k ∷ more)
            (print p x.turns t (o ++ low_byte k ∷ []) y.state) (print p n a o s)
            (append_assoc o (low_byte k ∷ []) more)
            (x.is ∙ at_cons h t o x.state (after_list x.turns o x.state) ∙ ap
            (λ r. on_value r o (λ w s. on_byte w o s (λ b. print p x.turns t (o ++ b ∷ []) s)))
            y.is) z;
      }
  prints_shown w a out end (NoByte' {w' = w1} {w'' = w2} {h = h} {t = t} {v = v} f g none) =
      let m = forces_found p w w1 a _ f in
      let m' = forces_found p w1 w2 h v g in
      record {
        units = suc m.units + m'.units;
        shown = λ n s o e le top.
            let x = steps w w1 a _ m n s o e (omega (arith, le)) top in
            let y = m'.finds x.turns 1 x.state x.there (omega (arith, le, x.spent)) x.kept in
            shows_as Unaccepted o (o ++ []) (print p n a o s) (print p n a o s) (sym (append-nil o))
            refl
            (ended Unaccepted o (print p n a o s) y.state
            (x.is ∙ at_cons h t o x.state (after_list x.turns o x.state) ∙ ap
            (λ r. on_value r o (λ w s. on_byte w o s (λ b. print p x.turns t (o ++ b ∷ []) s)))
            y.is
            ∙ no_byte v o y.state (λ b. print p x.turns t (o ++ b ∷ []) y.state) none));
      }
  prints_shown w a out end (ByteSticks {w' = w1} {h = h} {t = t} f x) =
      let m = forces_found p w w1 a _ f in
      let m' = force_sticks p w1 h x in
      record {
        units = suc m.units + m'.units;
        shown = λ n s o e le top.
            let x = steps w w1 a _ m n s o e (omega (arith, le)) top in
            let y = m'.sticks x.turns 1 x.state x.there (omega (arith, le, x.spent)) x.kept in
            shows_as Unaccepted o (o ++ []) (print p n a o s) (print p n a o s) (sym (append-nil o))
            refl
            (ended Unaccepted o (print p n a o s) y.state
            (x.is ∙ at_cons h t o x.state (after_list x.turns o x.state) ∙ ap
            (λ r. on_value r o (λ w s. on_byte w o s (λ b. print p x.turns t (o ++ b ∷ []) s)))
            y.is));
      }

  -- ---- a program

  -- a program is printed so within each number of units that is enough
  pub record ProgramShown (i out : List ℕ) (end : PrintingEnd) : Type 0 where
    pub units : ℕ
    pub shown : (n : ℕ) → units ≤ n → Shows end out (printed p i n)

  from_input : (i out : List ℕ) (end : PrintingEnd)
      → (m : Shown
      (extended (first_world p i)
      (Waiting Input ∷ Waiting (Call p.main (length p.shared ∷ [])) ∷ []))
      (suc (length p.shared)) out end) (n : ℕ)
      → suc m.units ≤ n → Shows end out (printed_from_input p i n)
  from_input i out end m zero le = absurd (omega (arith, le))
  from_input i out end m (suc n) le =
      m.shown n
      (append (start p.shared i n)
      (Waiting Input ∷ Waiting (Call p.main (length p.shared ∷ [])) ∷ [])) []
      refl (omega (arith, le)) (omega arith)

  pub program_shown : (i out : List ℕ) (end : PrintingEnd) → ProgramPrints p i out end
      → ProgramShown i out end
  program_shown i out end (OfItself e d) =
      let m = prints_shown (first_world p i) p.name out end d in
      record {
        units = m.units;
        shown = λ n le. shows_as end out out (print p n p.name [] (start p.shared i n))
            (printed p i n) refl
            (ap (λ l. elim l as (λ x. PrintedRun) [
              | true ↦ print p n p.name [] (start p.shared i n)
              | false ↦ printed_from_input p i n
            ]) (eq-eqb _ _ e))
            (m.shown n (start p.shared i n) [] refl le (omega arith));
      }
  program_shown i out end (OfInput ne d) =
      let m = prints_shown _ (suc (length p.shared)) out end d in
      record {
        units = suc m.units;
        shown = λ n le. shows_as end out out (printed_from_input p i n) (printed p i n) refl
            (ap (λ l. elim l as (λ x. PrintedRun) [
              | true ↦ print p n p.name [] (start p.shared i n)
              | false ↦ printed_from_input p i n
            ]) (ne_eqb _ _ ne))
            (from_input i out end m n le);
      }
