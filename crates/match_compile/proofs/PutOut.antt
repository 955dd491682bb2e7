-- Two languages beside each other put out the same, but that one may need more units.
use Rattle.std.proofs.Common.{◌≡◌, ℕ, zero, suc, ◌+◌, ◌*◌, ◌≤◌, Bool, true, false, List, [], ◌∷◌, ◌++◌, length, refl, sym, ◌∙◌, subst, arith, append_assoc, append-nil}
use Rattle.std.specs.Prelude.{◌==◌, ◌≢◌}
use Rattle.std.proofs.lemmas.Bool.{eq-eqb}
use Rattle.seq.specs.Lists.{AllOf}
use Rattle.seq.proofs.Order.{eq_from}
use Rattle.headline.specs.Carries.{IsPrefixOf}
use Rattle.core_meaning.specs.Heap.{Value, Int, Con, Part, Call, Input, Waiting, Heap}
use Rattle.core_meaning.specs.Forcing as forcing
use Rattle.core_meaning.specs.Forcing.{PrintedRun, PrintingEnd, Unaccepted, Going, stops, on_value, on_list, on_byte}
use Rattle.core_meaning.specs.Evaluation.{State, Answer, Gives, NoAlternative, OutOfBound, DelayedEvaluator, append}
use Rattle.match_compile.proofs.Beside as both
use Rattle.match_compile.proofs.Beside.{Pace, Ahead, Behind, Together, Fits, IsAhead, IsBehind, units}

-- ---- what was put out stays

pub nothing_first : (xs : List ℕ) → IsPrefixOf [] xs
nothing_first xs = (xs, refl)

itself_first : (xs : List ℕ) → IsPrefixOf xs xs
itself_first xs = ([], sym (append-nil xs))

more_first : (xs more ys : List ℕ) → IsPrefixOf (xs ++ more) ys → IsPrefixOf xs ys
more_first xs more ys b = (more ++ b.0, b.1 ∙ append_assoc xs more b.0)

value_keeps : (out : List ℕ) (r : Answer) (go : Value → State → PrintedRun)
    → ((v : Value) (s : State) → IsPrefixOf out (go v s).out)
    → IsPrefixOf out (on_value r out go).out
value_keeps out (Gives v s) go h = h v s
value_keeps out (NoAlternative s) go h = itself_first out
value_keeps out (OutOfBound s) go h = itself_first out

if_keeps : (out : List ℕ) (b : Bool) (x y : PrintedRun) → IsPrefixOf out x.out
    → IsPrefixOf out y.out → IsPrefixOf out
    (elim b as (λ _. PrintedRun) [ true ↦ x | false ↦ y ]).out
if_keeps out true x y h g = h
if_keeps out false x y h g = g

list_keeps : (n c : ℕ) (out : List ℕ) (v : Value) (s : State) (go : ℕ → ℕ → PrintedRun)
    → ((h t : ℕ) → IsPrefixOf out (go h t).out) → IsPrefixOf out (on_list n c v out s go).out
list_keeps n c out (Int k) s go h = itself_first out
list_keeps n c out (Part f xs) s go h = itself_first out
list_keeps n c out (Con d []) s go h = itself_first out
list_keeps n c out (Con d (x ∷ [])) s go h = itself_first out
list_keeps n c out (Con d (x ∷ t ∷ [])) s go h = if_keeps out (d == c) _ _ (h x t)
    (itself_first out)
list_keeps n c out (Con d (x ∷ t ∷ u ∷ xs)) s go h = itself_first out

byte_keeps : (out : List ℕ) (v : Value) (s : State) (go : ℕ → PrintedRun)
    → ((b : ℕ) → IsPrefixOf out (go b).out) → IsPrefixOf out (on_byte v out s go).out
byte_keeps out (Int k) s go h = h _
byte_keeps out (Con c xs) s go h = itself_first out
byte_keeps out (Part f xs) s go h = itself_first out

module _ (arity : ℕ → ℕ) (nil cons : ℕ) (enter : DelayedEvaluator → ℕ → List ℕ → ℕ → State → Answer)
  where
    pub print_keeps : (n a : ℕ) (out : List ℕ) (s : State)
        → IsPrefixOf out (forcing.print arity NoAlternative nil cons enter n a out s).out
    print_keeps zero a out s = itself_first out
    print_keeps (suc n) a out s =
        value_keeps out _ _ (λ v s. list_keeps nil cons out v s _ (λ h t.
        value_keeps out _ _
        (λ w s. byte_keeps out w s _
        (λ b. more_first out (b ∷ []) _ (print_keeps n t (out ++ b ∷ []) s)))))

-- ---- what both put out

-- what b puts out begins with what a does, and where a has ended it is the same, with the same end
pub record Reaches (a b : PrintedRun) : Type 0 where
  pub out : IsPrefixOf a.out b.out
  pub ended : a.end ≢ Going → (b.out ≡ a.out) × (b.end ≡ a.end)

abbrev pub Puts : Pace → PrintedRun → PrintedRun → Type 0
Puts (Ahead k) r r' = Reaches r r'
Puts Behind r r' = Reaches r' r
Puts Together r r' = (r'.out ≡ r.out) × (r'.end ≡ r.end)

both_stop : (pace : Pace) (out : List ℕ) (e : PrintingEnd) (s t : State)
    → Puts pace (stops out e s) (stops out e t)
both_stop (Ahead k) out e s t = record { out = itself_first out; ended = λ _. (refl, refl) }
both_stop Behind out e s t = record { out = itself_first out; ended = λ _. (refl, refl) }
both_stop Together out e s t = (refl, refl)

first_stops : (pace : Pace) → IsAhead pace → (out : List ℕ) (s : State) (r : PrintedRun)
    → IsPrefixOf out r.out → Puts pace (stops out Going s) r
first_stops (Ahead k) i out s r b = record { out = b; ended = λ h. absurd (h refl) }
first_stops Behind i out s r b = absurd i
first_stops Together i out s r b = absurd i

second_stops : (pace : Pace) → IsBehind pace → (out : List ℕ) (t : State) (r : PrintedRun)
    → IsPrefixOf out r.out → Puts pace r (stops out Going t)
second_stops (Ahead k) i out t r b = absurd i
second_stops Behind i out t r b = record { out = b; ended = λ h. absurd (h refl) }
second_stops Together i out t r b = absurd i

if_puts : (pace : Pace) (b : Bool) (x x' y y' : PrintedRun) → Puts pace x x' → Puts pace y y'
    → Puts pace (elim b as (λ _. PrintedRun) [ true ↦ x | false ↦ y ])
    (elim b as (λ _. PrintedRun) [ true ↦ x' | false ↦ y' ])
if_puts pace true x x' y y' h g = h
if_puts pace false x x' y y' h g = g

list_puts : (pace : Pace) (n c n' c' : ℕ) → n' ≡ n → c' ≡ c
    → (v : Value) (out : List ℕ) (s t : State) (go go' : ℕ → ℕ → PrintedRun)
    → ((h tl : ℕ) → Puts pace (go h tl) (go' h tl))
    → Puts pace (on_list n c v out s go) (on_list n' c' v out t go')
list_puts pace n c n' c' e f (Int k) out s t go go' h = both_stop pace out Unaccepted s t
list_puts pace n c n' c' e f (Part g xs) out s t go go' h = both_stop pace out Unaccepted s t
list_puts pace n c n' c' e f (Con d []) out s t go go' h
    = subst (λ z. Puts pace (on_list n c (Con d []) out s go) (on_list z c (Con d []) out t go'))
    (sym e) (both_stop pace out _ s t)
list_puts pace n c n' c' e f (Con d (x ∷ [])) out s t go go' h = both_stop pace out Unaccepted s t
list_puts pace n c n' c' e f (Con d (x ∷ tl ∷ [])) out s t go go' h =
    subst (λ z. Puts pace (on_list n c (Con d (x ∷ tl ∷ [])) out s go)
    (on_list n z (Con d (x ∷ tl ∷ [])) out t go')) (sym f)
    (if_puts pace (d == c) _ _ _ _ (h x tl) (both_stop pace out Unaccepted s t))
list_puts pace n c n' c' e f (Con d (x ∷ tl ∷ u ∷ xs)) out s t go go' h
    = both_stop pace out Unaccepted s t

byte_puts : (pace : Pace) (v : Value) (out : List ℕ) (s t : State) (go go' : ℕ → PrintedRun)
    → ((b : ℕ) → Puts pace (go b) (go' b)) → Puts pace (on_byte v out s go) (on_byte v out t go')
byte_puts pace (Int k) out s t go go' h = h _
byte_puts pace (Con c xs) out s t go go' h = both_stop pace out Unaccepted s t
byte_puts pace (Part f xs) out s t go go' h = both_stop pace out Unaccepted s t

module _ (arity arity' many : ℕ → ℕ) (IsFun : ℕ → Type 0)
    (counts : (f : ℕ) → IsFun f → arity' f ≡ arity f) (pace : Pace) where
  abbrev Beside : (n m : ℕ) → State → ℕ → Type 0
  Beside n m s u = both.Beside arity arity' many IsFun counts pace n m 0 s u

  abbrev Answers : (n m : ℕ) → Answer → Answer → Type 0
  Answers n m = both.Answers arity arity' many IsFun counts pace n m 0

  value_puts : (n m : ℕ) {r r' : Answer} (out : List ℕ) (go go' : Value → State → PrintedRun)
      → Answers n m r r' → ((v : Value) (s : State) → IsPrefixOf out (go v s).out)
      → ((v : Value) (s : State) → IsPrefixOf out (go' v s).out)
      → ((v : Value) (s : State) (u e : ℕ) → Beside n m s u
      → Puts pace (go v s) (go' v (units s u e)))
      → Puts pace (on_value r out go) (on_value r' out go')
  value_puts n m out go go' (both.BothGive {v = v} {s = s} {u = u} {e = e} g k) b b' h = h v s u e k
  value_puts n m out go go' (both.NeitherAccepts {s = s} {t = t}) b b' h
      = both_stop pace out Unaccepted s t
  value_puts n m out go go' (both.BothEnd {s = s} {t = t}) b b' h = both_stop pace out Going s t
  value_puts n m {r' = r'} out go go' (both.FirstEnds {s = s} i) b b' h
      = first_stops pace i out s (on_value r' out go') (value_keeps out r' go' b')
  value_puts n m {r = r} out go go' (both.SecondEnds {t = t} i) b b' h
      = second_stops pace i out t (on_value r out go) (value_keeps out r go b)

  module _ (nil cons nil' cons' : ℕ) (same_nil : nil' ≡ nil) (same_cons : cons' ≡ cons)
      (no_fields : many nil ≡ 0) (two_fields : many cons ≡ 2)
      (enter enter' : DelayedEvaluator → ℕ → List ℕ → ℕ → State → Answer)
      (entered : both.Entered arity arity' many IsFun counts pace nil cons nil' cons' same_nil
      same_cons no_fields two_fields enter enter') where
    abbrev print : ℕ → ℕ → List ℕ → State → PrintedRun
    print n = forcing.print arity NoAlternative nil cons enter n

    abbrev print' : ℕ → ℕ → List ℕ → State → PrintedRun
    print' m = forcing.print arity' NoAlternative nil' cons' enter' m

    print_keeps' : (m a : ℕ) (out : List ℕ) (s : State) → IsPrefixOf out (print' m a out s).out
    print_keeps' = print_keeps arity' nil' cons' enter'

    -- one of them has no units left
    first_none : (pace : Pace) (m u a e : ℕ) (out : List ℕ) (s : State) → Fits pace 0 s.left u
        → s.left ≤ 0 → Puts pace (stops out Going s) (print' m a out (units s u e))
    first_none (Ahead k) m u a e out s f z = first_stops (Ahead k) tt out s
        (print' m a out (units s u e)) (print_keeps' m a out (units s u e))
    first_none Behind zero u a e out s f z = both_stop Behind out Going s (units s u e)
    first_none Together zero u a e out s f z = both_stop Together out Going s (units s u e)
    first_none Behind (suc m) zero a e out s f z = both_stop Behind out Going s (units s zero e)
    first_none Together (suc m) zero a e out s f z = both_stop Together out Going s (units s zero e)
    first_none Behind (suc m) (suc u) a e out s f z = absurd (omega (arith, f, z))
    first_none Together (suc m) (suc u) a e out s f z = absurd (omega (arith, f, z))

    abbrev turn : ℕ → List ℕ → Value → State → PrintedRun
    turn n out v s =
        on_list nil cons v out s
        (λ h t. on_value
        (forcing.force arity NoAlternative (forcing.within arity NoAlternative nil cons enter n)
        h 1 s) out (λ w s. on_byte w out s (λ b. print n t (out ++ b ∷ []) s)))

    second_none : (pace : Pace) (n left u a e : ℕ) (out : List ℕ) (s : State) → s.left ≡ left
        → Fits pace 0 s.left u → u ≤ 0 → Puts pace (print (suc n) a out s)
        (stops out Going (units s u e))
    second_none pace n zero u a e out s is f z = subst
        (λ w. Puts pace
        (on_value
        (forcing.spend_of w 0 s
        (forcing.force arity NoAlternative (forcing.within arity NoAlternative nil cons enter n) a
        1)) out (turn n out)) (stops out Going (units s u e))) (sym is)
        (both_stop pace out Going s (units s u e))
    second_none (Ahead k) n (suc l) u a e out s is f z =
        let g : suc k * suc l + 0 ≤ u = subst (λ w. suc k * w + 0 ≤ u) is f in
        absurd (omega (arith, g, z))
    second_none Behind n (suc l) u a e out s is f z
        = second_stops Behind tt out (units s u e) (print (suc n) a out s)
        (print_keeps arity nil cons enter (suc n) a out s)
    second_none Together n (suc l) u a e out s is f z = absurd (omega (arith, f, z, is))

    pub print_puts : (n m a : ℕ) (out : List ℕ) (s : State) (u e : ℕ) → Beside n m s u
        → Puts pace (print n a out s) (print' m a out (units s u e))
    print_puts zero m a out s u e k = first_none pace m u a e out s k.fits k.first
    print_puts (suc n) zero a out s u e k = second_none pace n s.left u a e out s refl k.fits
        k.second
    print_puts (suc n) (suc m) a out s u e k =
        let on = both.within arity arity' many IsFun counts pace nil cons nil' cons' same_nil
        same_cons no_fields two_fields enter enter' n in
        let on' = both.within' arity arity' many IsFun counts pace nil cons nil' cons' same_nil
        same_cons no_fields two_fields enter enter' m in
        let force_puts = both.force_beside arity arity' many IsFun counts pace n m on on'
        (both.within_beside arity arity' many IsFun counts pace nil cons nil' cons' same_nil
        same_cons no_fields two_fields enter enter' entered n m) in
        let first : Answers n m (forcing.spend 0 s (forcing.force arity NoAlternative on a 1))
        (forcing.spend 0 (units s u e) (forcing.force arity' NoAlternative on' a 1)) =
        both.both_spend arity arity' many IsFun counts pace n m 0 s.left u 0 e s
        (forcing.force arity NoAlternative on a 1) (forcing.force arity' NoAlternative on' a 1)
        refl k
        (λ s u e k. force_puts a 1 0 s u e
        (both.less arity arity' many IsFun counts pace nil cons nil' cons' same_nil same_cons
        no_fields two_fields enter enter' n m 0 s u k)) in
        value_puts n m out _ _ first
        (λ v s. list_keeps nil cons out v s _
        (λ h t. value_keeps out _ _
        (λ w s. byte_keeps out w s _
        (λ b. more_first out (b ∷ []) _
        (print_keeps arity nil cons enter n t (out ++ b ∷ []) s)))))
        (λ v s. list_keeps nil' cons' out v s _
        (λ h t. value_keeps out _ _
        (λ w s. byte_keeps out w s _
        (λ b. more_first out (b ∷ []) _ (print_keeps' m t (out ++ b ∷ []) s)))))
        (λ v s u e k. list_puts pace nil cons nil' cons' same_nil same_cons v out s (units s u e) _
        _ (λ h t.
        value_puts n m out _ _ (force_puts h 1 0 s u e k)
        (λ w s. byte_keeps out w s _
        (λ b. more_first out (b ∷ []) _
        (print_keeps arity nil cons enter n t (out ++ b ∷ []) s)))
        (λ w s. byte_keeps out w s _
        (λ b. more_first out (b ∷ []) _ (print_keeps' m t (out ++ b ∷ []) s)))
        (λ w s u e k. byte_puts pace w out s (units s u e) _ _
        (λ b. print_puts n m t (out ++ b ∷ []) s u e k))))

    -- ---- from the start

    module _ (heap heap' : Heap) (heaps : heap' ≡ heap)
        (heap_ok : AllOf (both.BindingOk arity arity' many IsFun counts) heap) (main : ℕ)
        (is_fun : IsFun main) (few : arity main ≤ 1) (name name' : ℕ)
        (names : arity main ≡ 0 → name' ≡ name) where
      start_beside : (i : List ℕ) (n m : ℕ) → Fits pace 0 n m
          → Beside n m (forcing.start heap i n) m
      start_beside i n m f = record
          { heap = heap_ok; fits = f; first = omega arith; second = omega arith }

      from_input : arity main ≡ 1 → (i : List ℕ) (n m : ℕ) → Fits pace 0 n m
          → Puts pace
          (forcing.printed_from_input arity NoAlternative nil cons enter heap main name i n)
          (forcing.printed_from_input arity' NoAlternative nil' cons' enter' heap main name' i
          m)
      from_input one i zero zero f = both_stop pace [] Going (forcing.start heap i 0)
          (forcing.start heap i 0)
      from_input one i zero (suc m) f = first pace f
        where
          first : (pace : Pace) → Fits pace 0 zero (suc m)
              → Puts pace (stops [] Going (forcing.start heap i 0))
              (forcing.printed_from_input arity' NoAlternative nil' cons' enter' heap main name' i
              (suc m))
          first (Ahead k) f = first_stops (Ahead k) tt [] (forcing.start heap i 0) _
              (nothing_first _)
          first Behind f = absurd (omega (arith, f))
          first Together f = absurd (omega (arith, f))
      from_input one i (suc n) zero f = second pace f
        where
          second : (pace : Pace) → Fits pace 0 (suc n) zero
              → Puts pace
              (forcing.printed_from_input arity NoAlternative nil cons enter heap main name i
              (suc n)) (stops [] Going (forcing.start heap i 0))
          second (Ahead k) f = absurd (omega (arith, f))
          second Behind f = second_stops Behind tt [] (forcing.start heap i 0) _ (nothing_first _)
          second Together f = absurd (omega (arith, f))
      from_input one i (suc n) (suc m) f =
          let more : Heap = Waiting Input ∷ Waiting (Call main (length heap ∷ [])) ∷ [] in
          let ok : AllOf (both.BindingOk arity arity' many IsFun counts) more
          = (both.OkWaiting both.OkInput, (both.OkWaiting (both.OkCall is_fun (sym one)), tt))
          in
          let fits = both.fits_less pace (both.extra pace + 0) 0 n m (omega arith)
          (both.spent arity arity' many IsFun counts pace 0 n m f) in
          print_puts n m (suc (length heap)) [] (append (forcing.start heap i n) more) m 0
          (both.appended arity arity' many IsFun counts pace n m 0 (forcing.start heap i n) m more
          (start_beside i n m fits) ok)

      pub printed_puts : (i : List ℕ) (n m : ℕ) → Fits pace 0 n m
          → Puts pace (forcing.printed arity NoAlternative nil cons enter heap main name i n)
          (forcing.printed arity' NoAlternative nil' cons' enter' heap' main name' i m)
      printed_puts i n m f =
          subst (λ w. Puts pace
          (forcing.printed arity NoAlternative nil cons enter heap main name i n)
          (forcing.printed arity' NoAlternative nil' cons' enter' w main name' i m)) (sym heaps)
          (subst (λ w. Puts pace
          (forcing.printed arity NoAlternative nil cons enter heap main name i n)
          (elim (w == 0) as (λ _. PrintedRun) [
            | true ↦ print' m name' [] (forcing.start heap i m)
            | false ↦
                forcing.printed_from_input arity' NoAlternative nil' cons' enter' heap main name' i
                m
          ])) (sym (counts main is_fun))
          (by (arity main == 0) refl))
        where
          by : (b : Bool) → (arity main == 0) ≡ b
              → Puts pace
              (elim b as (λ _. PrintedRun) [
                | true ↦ print n name [] (forcing.start heap i n)
                | false ↦
                    forcing.printed_from_input arity NoAlternative nil cons enter heap main name i
                    n
              ])
              (elim b as (λ _. PrintedRun) [
                | true ↦ print' m name' [] (forcing.start heap i m)
                | false ↦
                    forcing.printed_from_input arity' NoAlternative nil' cons' enter' heap main
                    name'
                    i m
              ])
          by true e = subst
              (λ w. Puts pace (print n name [] (forcing.start heap i n))
              (print' m w [] (forcing.start heap i m))) (sym (names (eq_from (arity main) 0 e)))
              (print_puts n m name [] (forcing.start heap i n) m 0 (start_beside i n m f))
          by false e =
              let some : arity main ≡ 0 → ⊥ = λ z. let t : true ≡ false
              = sym (eq-eqb (arity main) 0 z) ∙ e in absurd cc in
              from_input (omega (arith, some, few)) i n m f
