-- Printing by the evaluator and by the relation.
use Rattle.std.proofs.Common.{◌≡◌, ◌≢◌, ℕ, zero, suc, max, Bool, true, false, List, [], ◌∷◌, ◌++◌, length, refl, sym, ◌∙◌, subst, append_assoc, append-nil, eqb-true}
use Rattle.std.specs.Prelude.{◌==◌, if◌then◌else◌}
use Rattle.std.proofs.lemmas.Bool.{eq-eqb}
use Rattle.core_meaning.specs.Heap.{ValueOf, Int, Con, Part, Call, Input, Waiting}
use Rattle.core_meaning.specs.Forcing.{StateOf, AnswerOf, spend_of, append, start, PrintingEnd, Done, Unaccepted, Going, PrintedRun, stops, on_value, on_list, on_byte}
use Rattle.numbers.specs.Numbers.{low_byte}
use Rattle.natural_semantics.specs.World.{WorldOf, AConstructor, AFunction}
use Rattle.natural_semantics.specs.any.Moves.{ProgramOf, force, within, print, printed, printed_from_input}
use Rattle.natural_semantics.specs.any.Natural.{Forces}
use Rattle.natural_semantics.specs.any.Stuck.{ForceSticks}
use Rattle.natural_semantics.specs.any.Prints.{ANumber, AFunction as AFunction', NotNil, OneField, NotCons, ManyFields, Prints, Behind, AtNil, NoList', ListSticks, Puts, NoByte', ByteSticks, ProgramPrints, OfItself, OfInput}
use Rattle.natural_semantics.proofs.any.Sound.{world, Meets, Derived, Stuck, Cut, forced_within}

-- a run that puts out more than this puts out what is derived
record Prints' {F : Type 0} (p : ProgramOf F) (w : WorldOf F) (a : ℕ) (out : List ℕ)
    (r : PrintedRun) : Type 0 where
  pub more : List ℕ
  pub behind : r.out ≡ out ++ more
  pub derived : Prints p w a more r.end

module _ {F : Type 0} (p : ProgramOf F) where
  nothing_more : (w : WorldOf F) (a : ℕ) (out : List ℕ) (e : PrintingEnd) (s : StateOf F)
      → Prints p w a [] e → Prints' p w a out (stops out e s)
  nothing_more w a out e s d = record { more = []; behind = sym (append-nil out); derived = d }

  abbrev forcing : ℕ → ℕ → StateOf F → AnswerOf F
  forcing n a s = force p (within p n) a 1 s

  -- the head of a list, and then its tail
  byte_printed : (n : ℕ) (w w' : WorldOf F) (a h t : ℕ) (out : List ℕ)
      → Forces p w a (Con (p.cons) (h ∷ t ∷ [])) w' → (v : ValueOf F) (s : StateOf F)
      → Forces p w' h v (world s)
      → ((o : List ℕ) → Prints' p (world s) t o (print p n t o s))
      → Prints' p w a out
      (on_byte v out s (λ byte. print p n t (out ++ byte ∷ []) s))
  byte_printed n w w' a h t out f (Int k) s g rest =
      let more = rest (out ++ low_byte k ∷ []) in
      record {
        more = low_byte k ∷ more.more;
        behind = more.behind ∙ append_assoc out (low_byte k ∷ []) more.more;
        derived = Puts f g more.derived;
      }
  byte_printed n w w' a h t out f (Con c xs) s g rest
      = nothing_more w a out Unaccepted s (NoByte' f g AConstructor)
  byte_printed n w w' a h t out f (Part c xs) s g rest
      = nothing_more w a out Unaccepted s (NoByte' f g AFunction)

  head_printed : (n : ℕ) (w w' : WorldOf F) (a h t : ℕ) (out : List ℕ)
      → Forces p w a (Con (p.cons) (h ∷ t ∷ [])) w' → (r : AnswerOf F)
      → Meets (λ v x. Forces p w' h v x) (ForceSticks p w' h) r
      → ((s : StateOf F) (o : List ℕ) → Prints' p (world s) t o (print p n t o s))
      → Prints' p w a out
      (on_value r out
      (λ v s. on_byte v out s (λ byte. print p n t (out ++ byte ∷ []) s)))
  head_printed n w w' a h t out f r (Derived {v = v} {s = s} g) rest
      = byte_printed n w w' a h t out f v s g (rest s)
  head_printed n w w' a h t out f r (Stuck {s = s} x) rest
      = nothing_more w a out Unaccepted s (ByteSticks f x)
  head_printed n w w' a h t out f r (Cut {s = s}) rest = nothing_more w a out Going s Behind

  list_printed : (n : ℕ) (w : WorldOf F) (a : ℕ) (out : List ℕ) (v : ValueOf F) (s : StateOf F)
      → Forces p w a v (world s)
      → ((t : ℕ) (s : StateOf F) (o : List ℕ) → Prints' p (world s) t o
      (print p n t o s))
      → Prints' p w a out
      (on_list (p.nil) (p.cons) v out s
      (λ h t. on_value (forcing n h s) out (λ w s. on_byte w out s (λ byte.
      print p n t (out ++ byte ∷ []) s))))
  list_printed n w a out (Int k) s f rest = nothing_more w a out Unaccepted s (NoList' f ANumber)
  list_printed n w a out (Part c xs) s f rest = nothing_more w a out Unaccepted s
      (NoList' f AFunction')
  list_printed n w a out (Con d []) s f rest = go (d == p.nil) refl
    where
      go : (l : Bool) → (d == p.nil) ≡ l → Prints' p w a out
          (stops out (if l then Done else Unaccepted) s)
      go true e = nothing_more w a out Done s
          (AtNil (subst (λ x. Forces p w a (Con x []) (world s)) (eqb-true d (p.nil) e) f))
      go false e = nothing_more w a out Unaccepted s
          (NoList' f (NotNil (λ q. let z : true ≡ false = sym (eq-eqb d (p.nil) q) ∙ e in cc)))
  list_printed n w a out (Con d (h ∷ [])) s f rest = nothing_more w a out Unaccepted s
      (NoList' f OneField)
  list_printed n w a out (Con d (h ∷ t ∷ [])) s f rest = go (d == p.cons) refl
    where
      go : (l : Bool) → (d == p.cons) ≡ l → Prints' p w a out (elim l [
        | true ↦ on_value (forcing n h s) out
            (λ w s. on_byte w out s (λ byte. print p n t (out ++ byte ∷ []) s))
        | false ↦ stops out Unaccepted s
      ])
      go true e =
          head_printed n w (world s) a h t out
          (subst (λ x. Forces p w a (Con x (h ∷ t ∷ [])) (world s)) (eqb-true d (p.cons) e) f)
          (forcing n h s)
          (forced_within p n h 1 s) (rest t)
      go false e = nothing_more w a out Unaccepted s
          (NoList' f (NotCons (λ q. let z : true ≡ false = sym (eq-eqb d (p.cons) q) ∙ e in cc)))
  list_printed n w a out (Con d (h ∷ t ∷ u ∷ xs)) s f rest
      = nothing_more w a out Unaccepted s (NoList' f ManyFields)

  value_printed : (n : ℕ) (w : WorldOf F) (a : ℕ) (out : List ℕ) (r : AnswerOf F)
      → Meets (λ v x. Forces p w a v x) (ForceSticks p w a) r
      → ((t : ℕ) (s : StateOf F) (o : List ℕ) → Prints' p (world s) t o
      (print p n t o s))
      → Prints' p w a out
      (on_value r out
      (λ v s. on_list (p.nil) (p.cons) v out s (λ h t. on_value (forcing n h s) out (λ w s.
      on_byte w out s (λ byte. print p n t (out ++ byte ∷ []) s)))))
  value_printed n w a out r (Derived {v = v} {s = s} f) rest = list_printed n w a out v s f rest
  value_printed n w a out r (Stuck {s = s} x) rest = nothing_more w a out Unaccepted s
      (ListSticks x)
  value_printed n w a out r (Cut {s = s}) rest = nothing_more w a out Going s Behind

  step_printed : (n : ℕ) (a : ℕ) (s : StateOf F) (out : List ℕ)
      → ((t : ℕ) (s : StateOf F) (o : List ℕ) → Prints' p (world s) t o
      (print p n t o s)) → (l : ℕ)
      → Prints' p (world s) a out
      (on_value (spend_of l 0 s (λ s. forcing n a s)) out
      (λ v s. on_list (p.nil) (p.cons) v out s (λ h t.
      on_value (forcing n h s) out
      (λ w s. on_byte w out s
      (λ byte. print p n t (out ++ byte ∷ []) s)))))
  step_printed n a s out rest zero = nothing_more (world s) a out Going s Behind
  step_printed n a s out rest (suc l) =
      let s' : StateOf F = record s { left = l; depth = max s.depth 0 } in
      value_printed n (world s) a out (forcing n a s') (forced_within p n a 1 s') rest

  list_is_printed : (n a : ℕ) (s : StateOf F) (out : List ℕ)
      → Prints' p (world s) a out (print p n a out s)
  list_is_printed zero a s out = nothing_more (world s) a out Going s Behind
  list_is_printed (suc n) a s out = step_printed n a s out (λ t s' o. list_is_printed n t s' o)
      s.left

  -- what the evaluator prints is derived, where a lookup that fails is no answer
  pub run_is_derived : (i : List ℕ) (n : ℕ)
      → ProgramPrints p i (printed p i n).out
      (printed p i n).end
  run_is_derived i n = go (p.arity p.main == 0) refl
    where
      from_input : (n : ℕ) → p.arity p.main ≢ 0
          → ProgramPrints p i (printed_from_input p i n).out
          (printed_from_input p i n).end
      from_input zero hn = OfInput hn Behind
      from_input (suc n) hn =
          let s : StateOf F = start p.shared i n in
          let r = list_is_printed n (suc (length s.heap))
          (append s (Waiting Input ∷ Waiting (Call p.main (length s.heap ∷ [])) ∷ [])) [] in
          OfInput hn
          (subst (λ o. Prints p
          (world (append s (Waiting Input ∷ Waiting (Call p.main (length s.heap ∷ [])) ∷ [])))
          (suc (length s.heap)) o
          (printed_from_input p i (suc n)).end) (sym r.behind) r.derived)

      go : (l : Bool) → (p.arity p.main == 0) ≡ l
          → ProgramPrints p i (elim l as (λ x. PrintedRun) [
            | true ↦ print p n (p.name) [] (start p.shared i n)
            | false ↦ printed_from_input p i n
          ]).out (elim l as (λ x. PrintedRun) [
            | true ↦ print p n (p.name) [] (start p.shared i n)
            | false ↦ printed_from_input p i n
          ]).end
      go true e =
          let r = list_is_printed n (p.name) (start p.shared i n) [] in
          OfItself (eqb-true _ _ e)
          (subst (λ o. Prints p (world (start p.shared i n)) (p.name) o
          (print p n (p.name) [] (start p.shared i n)).end)
          (sym r.behind) r.derived)
      go false e = from_input n (λ q. let z : true ≡ false = sym (eq-eqb _ _ q) ∙ e in cc)
