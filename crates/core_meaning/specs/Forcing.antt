-- Evaluation by need, whatever the functions are and however their bodies are written: what forcing
-- a name does, what giving a value more names does, and the printing loop.
--
-- A unit is spent where a function's body is entered, where a delayed application or operation or
-- the rest of the input is forced, at each step of the printing loop, and at the start of a program
-- whose `main` takes the input. The nesting counts the evaluations that are waiting for this one's
-- value.
use Rattle.std.specs.Prelude.{ℕ, zero, suc, ℤ, pos, ◌==◌, nat_lt, max, Bool, true, false, List, [], ◌∷◌, ◌++◌, length, Option, Some, None, if◌then◌else◌, slice_get, slice_set}
use Rattle.arity_check.specs.declared.normal.PrimOp.{PrimOp}
use Rattle.core_meaning.specs.Heap.{ValueOf, Int, Con, Part, DelayedOf, Call, Apply, Prim, Global, Input, BindingOf, Known, Waiting, HeapOf}
use Rattle.numbers.specs.Numbers.{same_number, low_byte}
use Rattle.core_meaning.specs.Numbers.{primitive_result}

-- the heap, the units that are left, the greatest nesting at which one was spent, the bytes of the
-- input that are left, and how many were taken
pub record StateOf (F : Type 0) : Type 0 where
  pub heap : HeapOf F
  pub left : ℕ
  pub depth : ℕ
  pub input : List ℕ
  pub used : ℕ

-- a value, or the end of the whole evaluation
pub data AnswerOf (F : Type 0) : Type 0 where
  Gives : (value : ValueOf F) (state : StateOf F) → AnswerOf F
  NoAlternative : (state : StateOf F) → AnswerOf F
  OutOfBound : (state : StateOf F) → AnswerOf F

-- what a delayed form does at a nesting, the unit that it costs among it
abbrev pub DelayedEvaluatorOf : Type 0 → Type 0
DelayedEvaluatorOf F = DelayedOf F → ℕ → StateOf F → AnswerOf F

-- how a run stands: its list ended, no alternative accepted a value, or it goes on past the bound
pub data PrintingEnd : Type 0 where
  Done : PrintingEnd
  Unaccepted : PrintingEnd
  Going : PrintingEnd

-- the bytes put out, the end, the number of bindings, the greatest nesting at which a unit was
-- spent, and the bytes taken
pub record PrintedRun : Type 0 where
  pub out : List ℕ
  pub end : PrintingEnd
  pub cells : ℕ
  pub depth : ℕ
  pub used : ℕ

module _ {F : Type 0} where
  -- goes on with a value
  abbrev pub and_then : AnswerOf F → (ValueOf F → StateOf F → AnswerOf F) → AnswerOf F
  and_then (Gives v s) go = go v s
  and_then (NoAlternative s) go = NoAlternative s
  and_then (OutOfBound s) go = OutOfBound s

  -- goes on with the number that a value is
  abbrev pub with_number : ValueOf F → StateOf F → (ℤ → AnswerOf F) → AnswerOf F
  with_number (Int k) s go = go k
  with_number (Con c xs) s go = NoAlternative s
  with_number (Part f xs) s go = NoAlternative s

  abbrev pub is_con : ℕ → ValueOf F → Bool
  is_con c (Con c' xs) = c' == c
  is_con c (Int k) = false
  is_con c (Part f xs) = false

  abbrev pub fields_of : ValueOf F → List ℕ
  fields_of (Con c xs) = xs
  fields_of (Int k) = []
  fields_of (Part f xs) = []

  abbrev pub is_int : ℤ → ValueOf F → Bool
  is_int k (Int k') = same_number k k'
  is_int k (Con c xs) = false
  is_int k (Part f xs) = false

  -- spends one of these units at nesting d
  abbrev pub spend_of : ℕ → ℕ → StateOf F → (StateOf F → AnswerOf F) → AnswerOf F
  spend_of zero d s go = OutOfBound s
  spend_of (suc left) d s go = go (record s { left = left; depth = max s.depth d })

  abbrev pub spend : ℕ → StateOf F → (StateOf F → AnswerOf F) → AnswerOf F
  spend d s go = spend_of s.left d s go

  -- appends bindings to the heap
  abbrev pub append : StateOf F → HeapOf F → StateOf F
  append s bindings = record s { heap = s.heap ++ bindings }

  -- the binding of a name becomes a value
  abbrev pub update : StateOf F → ℕ → ValueOf F → StateOf F
  update s a v = record s { heap = slice_set s.heap a (Known v) }

  -- takes a byte, of which these are left
  abbrev pub taken : StateOf F → List ℕ → StateOf F
  taken s rest = record s { input = rest; used = suc s.used }

  -- the start with this heap, this input and n units
  abbrev pub start : HeapOf F → List ℕ → ℕ → StateOf F
  start heap i n = record { heap = heap; left = n; depth = 0; input = i; used = 0 }

  abbrev pub stops : List ℕ → PrintingEnd → StateOf F → PrintedRun
  stops out end s =
      record { out = out; end = end; cells = length s.heap; depth = s.depth; used = s.used }

  -- goes on with a value
  abbrev pub on_value : AnswerOf F → List ℕ → (ValueOf F → StateOf F → PrintedRun) → PrintedRun
  on_value (Gives v s) out go = go v s
  on_value (NoAlternative s) out go = stops out Unaccepted s
  on_value (OutOfBound s) out go = stops out Going s

  -- goes on with the head and the tail of a list; the first number is that of Nil, the second that
  -- of Cons
  abbrev pub on_list : ℕ → ℕ → ValueOf F → List ℕ → StateOf F → (ℕ → ℕ → PrintedRun) → PrintedRun
  on_list n c (Int k) out s go = stops out Unaccepted s
  on_list n c (Part f xs) out s go = stops out Unaccepted s
  on_list n c (Con d []) out s go = stops out (if d == n then Done else Unaccepted) s
  on_list n c (Con d (h ∷ [])) out s go = stops out Unaccepted s
  on_list n c (Con d (h ∷ t ∷ [])) out s go =
      elim (d == c) [ true ↦ go h t | false ↦ stops out Unaccepted s ]
  on_list n c (Con d (h ∷ t ∷ u ∷ xs)) out s go = stops out Unaccepted s

  -- goes on with the low byte of a number
  abbrev pub on_byte : ValueOf F → List ℕ → StateOf F → (ℕ → PrintedRun) → PrintedRun
  on_byte (Int k) out s go = go (low_byte k)
  on_byte (Con c xs) out s go = stops out Unaccepted s
  on_byte (Part f xs) out s go = stops out Unaccepted s

-- a function has so many parameters
module _ {F : Type 0} (arity : F → ℕ) where
  module _ (onward : DelayedEvaluatorOf F) where
    -- a value is given one more name; a part that has all its names is entered at nesting d
    abbrev pub give : ValueOf F → ℕ → ℕ → StateOf F → AnswerOf F
    give (Part f given) b d s =
        if nat_lt (suc (length given)) (arity f)
        then Gives (Part f (given ++ b ∷ [])) s
        else onward (Call f (given ++ b ∷ [])) d s
    give (Int k) b d s = NoAlternative s
    give (Con c xs) b d s = NoAlternative s

    -- a value is given these names, one at a time
    abbrev pub give_all : ValueOf F → List ℕ → ℕ → StateOf F → AnswerOf F
    give_all v [] d s = Gives v s
    give_all v (b ∷ []) d s = give v b d s
    give_all v (b ∷ c ∷ bs) d s = and_then (give v b (suc d) s) (λ w s. give_all w (c ∷ bs) d s)

-- Lost is the answer where the heap has no such name.
module _ {F : Type 0} (arity : F → ℕ) (lost : StateOf F → AnswerOf F) where
  module _ (onward : DelayedEvaluatorOf F) where
    abbrev pub force_binding : Option (BindingOf F) → ℕ → ℕ → StateOf F → AnswerOf F
    force_binding None a d s = lost s
    force_binding (Some (Known v)) a d s = Gives v s
    force_binding (Some (Waiting t)) a d s =
        and_then (onward t (suc d) s) (λ v s. Gives v (update s a v))

    -- the value of a name: what waits there is evaluated, and its value stays there
    abbrev pub force : ℕ → ℕ → StateOf F → AnswerOf F
    force a d s = force_binding (slice_get s.heap a) a d s

    abbrev pub apply : ℕ → List ℕ → ℕ → StateOf F → AnswerOf F
    apply a [] d s = force a d s
    apply a (b ∷ bs) d s =
        and_then (force a (suc d) s) (λ v s. give_all arity onward v (b ∷ bs) d s)

    -- the first operand, then the second
    abbrev pub prim : PrimOp → ℕ → ℕ → ℕ → StateOf F → AnswerOf F
    prim op a b d s =
        and_then (force a (suc d) s) (λ v s. with_number v s (λ i.
        and_then (force b (suc d) s) (λ w s. with_number w s (λ j.
        Gives (Int (primitive_result op i j)) s))))

-- the list of the bytes that are left: none, or the next one and the list of the others; the
-- numbers are those of Nil and of Cons
module _ {F : Type 0} (nil cons : ℕ) where
  abbrev pub next_byte : List ℕ → StateOf F → AnswerOf F
  next_byte [] s = Gives (Con nil []) s
  next_byte (k ∷ rest) s =
      Gives (Con cons (length s.heap ∷ suc (length s.heap) ∷ []))
      (append (taken s rest) (Known (Int (pos k)) ∷ Waiting Input ∷ []))

-- A language gives the numbers of Nil and of Cons, how many parameters a function has, and what
-- entering a function with as many names does at a nesting, where all that waits goes on so.
module _ {F : Type 0} (arity : F → ℕ) (lost : StateOf F → AnswerOf F) (nil cons : ℕ)
    (enter : DelayedEvaluatorOf F → F → List ℕ → ℕ → StateOf F → AnswerOf F) where
  -- what follows the unit of a delayed form
  abbrev pub proceed : DelayedEvaluatorOf F → DelayedEvaluatorOf F
  proceed onward (Call f xs) d s = enter onward f xs d s
  proceed onward (Global f) d s = enter onward f [] d s
  proceed onward (Apply a bs) d s = apply arity lost onward a bs d s
  proceed onward (Prim op a b) d s = prim arity lost onward op a b d s
  proceed onward Input d s = next_byte nil cons s.input s

  -- spends a unit and goes on, where at most n units are spent inside one another. It meets its own
  -- end only where n is below the units left
  abbrev pub within : ℕ → DelayedEvaluatorOf F
  within zero t d s = OutOfBound s
  within (suc n) t d s = spend d s (proceed (within n) t d)

  -- prints the list a, with at most n steps, of which each spends a unit
  abbrev pub print : ℕ → ℕ → List ℕ → StateOf F → PrintedRun
  print zero a out s = stops out Going s
  print (suc n) a out s =
      on_value (spend 0 s (force arity lost (within n) a 1)) out (λ v s.
      on_list nil cons v out s (λ h t.
      on_value (force arity lost (within n) h 1 s) out (λ w s. on_byte w out s (λ byte.
      print n t (out ++ byte ∷ []) s))))

  -- A program of it is the heap at its start and its function `main`, which has this name where it
  -- has no parameter.
  module _ (shared : HeapOf F) (main : F) (name : ℕ) where
    -- where main takes the input, as a list; the start spends the first unit
    abbrev pub printed_from_input : List ℕ → ℕ → PrintedRun
    printed_from_input i zero = stops [] Going (start shared i 0)
    printed_from_input i (suc n) =
        let s : StateOf F = start shared i n in
        print n (suc (length s.heap)) []
        (append s (Waiting Input ∷ Waiting (Call main (length s.heap ∷ [])) ∷ []))

    -- what the program puts out on the input i within n units
    abbrev pub printed : List ℕ → ℕ → PrintedRun
    printed i n = elim (arity main == 0) [
      | true ↦ print n name [] (start shared i n)
      | false ↦ printed_from_input i n
    ]
