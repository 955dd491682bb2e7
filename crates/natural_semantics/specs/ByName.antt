-- Evaluation by name as a relation: what is put off is evaluated anew wherever it is needed. There
-- is no heap: a name means an expression, in which each name stands with what it means.
use Rattle.std.specs.Prelude.{◌≡◌, ◌≢◌, ℕ, zero, suc, ◌<◌, ◌≤◌, ◌==◌, ℤ, pos, Bool, true, false, List, [], ◌∷◌, Some, None, if◌then◌else◌, slice_get}
use Rattle.arity_check.specs.declared.normal.Bound.{Bound}
use Rattle.arity_check.specs.declared.normal.Flat.{Flat}
use Rattle.arity_check.specs.declared.normal.Flat.TheVariants as flat
use Rattle.arity_check.specs.declared.normal.Var.{Var}
use Rattle.arity_check.specs.declared.normal.Var.TheVariants as var
use Rattle.arity_check.specs.declared.normal.PrimOp.{PrimOp}
use Rattle.arity_check.specs.Program.{Program, Function, Term, App, Let, Case, Branches, NoMore, OnCon, OnInt, OnAny}
use Rattle.core_meaning.specs.Numbers.{primitive_result}
use Rattle.core_meaning.specs.Evaluation.{nil, cons, params}
use Rattle.core_meaning.specs.Printing.{PrintingEnd, Done, Unaccepted, Going}
use Rattle.numbers.specs.Numbers.{same_number, low_byte}

mutual
  -- A number, a constructor and a function that lacks arguments are values. The others are put off:
  -- calls, applications, operations, functions without parameters, the list of the bytes that are
  -- left, and the member of a group that stands for this form, with what is meant around the group.
  pub data Meant : Type 0 where
    Number : (number : ℤ) → Meant
    Built : (con : ℕ) (fields : Meants) → Meant
    Lacks : (fun : ℕ) (given : Meants) → Meant
    CallOf : (fun : ℕ) (args : Meants) → Meant
    ApplyOf : (head : Meant) (args : Meants) → Meant
    PrimOf : (op : PrimOp) (first second : Meant) → Meant
    GlobalOf : (fun : ℕ) → Meant
    Rest : (bytes : List ℕ) → Meant
    Member : (around : ℕ → Meant) (group : List Bound) (form : Flat) → Meant
    OutOfScope : Meant

  pub data Meants : Type 0 where
    Few : Meants
    And : Meant → Meants → Meants

-- what each local means
abbrev pub Sense : Type 0
Sense = ℕ → Meant

abbrev pub count : Meants → ℕ
count Few = 0
count (And m ms) = suc (count ms)

abbrev pub and_last : Meants → Meant → Meants
and_last Few n = And n Few
and_last (And m ms) n = And m (and_last ms n)

-- the locals from 0 on mean these
abbrev pub nth : Meants → Sense
nth Few x = OutOfScope
nth (And m ms) zero = m
nth (And m ms) (suc x) = nth ms x

abbrev pub with_meant : Sense → ℕ → Meant → Sense
with_meant s x m y = if y == x then m else s y

abbrev pub with_meants : Sense → List ℕ → Meants → Sense
with_meants s [] ms = s
with_meants s (x ∷ xs) Few = s
with_meants s (x ∷ xs) (And m ms) = with_meants (with_meant s x m) xs ms

abbrev pub meant : Sense → Var → Meant
meant s (var.Local x) = s x
meant s (var.Global f) = GlobalOf f

abbrev pub meants : Sense → List Var → Meants
meants s [] = Few
meants s (x ∷ xs) = And (meant s x) (meants s xs)

abbrev pub form : Sense → Flat → Meant
form s (flat.Int k) = Number k
form s (flat.Con c xs) = Built c (meants s xs)
form s (flat.Part f xs) = Lacks f (meants s xs)
form s (flat.Call f xs) = CallOf f (meants s xs)
form s (flat.Apply x xs) = ApplyOf (meant s x) (meants s xs)
form s (flat.Prim op x y) = PrimOf op (meant s x) (meant s y)

-- in a group each of its locals is a member of it
abbrev pub with_members : Sense → List Bound → Sense → List Bound → Sense
with_members around whole s [] = s
with_members around whole s (b ∷ group) =
    with_members around whole (with_meant s b.local (Member around whole b.flat)) group

abbrev pub in_group : Sense → List Bound → Sense
in_group s group = with_members s group s group

abbrev pub is_built : ℕ → Meant → Bool
is_built c (Built d ms) = d == c
is_built c m = false

abbrev pub parts_of : Meant → Meants
parts_of (Built d ms) = ms
parts_of m = Few

abbrev pub is_number : ℤ → Meant → Bool
is_number k (Number j) = same_number k j
is_number k m = false

-- of a value: it is no number, it takes no argument, it is no list
abbrev pub NoNumber : Meant → Type 0
NoNumber (Number k) = ⊥
NoNumber m = Unit {0}

abbrev pub NoFunction : Meant → Type 0
NoFunction (Lacks f ms) = ⊥
NoFunction m = Unit {0}

abbrev pub NoList : (nil cons : ℕ) → Meant → Type 0
NoList n c (Built d Few) = d ≢ n
NoList n c (Built d (And head (And tail Few))) = d ≢ c
NoList n c m = Unit {0}

module _ (p : Program) where
  mutual
    -- what is meant has a value
    pub data Means : Meant → Meant → Type 0 where
      ANumber : {k : ℤ} → Means (Number k) (Number k)
      AConstructor : {c : ℕ} {ms : Meants} → Means (Built c ms) (Built c ms)
      AFunction : {f : ℕ} {ms : Meants} → Means (Lacks f ms) (Lacks f ms)
      OfCall : {f : ℕ} {ms : Meants} {v : Meant} (g : Function)
          → slice_get p.funs f ≡ Some g → Evaluates (nth ms) g.body v → Means (CallOf f ms) v
      OfGlobal : {f : ℕ} {v : Meant} (g : Function)
          → slice_get p.funs f ≡ Some g → Evaluates (nth Few) g.body v → Means (GlobalOf f) v
      OfApply : {m u v : Meant} {ms : Meants} → Means m u → Takes u ms v
          → Means (ApplyOf m ms) v
      OfPrim : {op : PrimOp} {m n : Meant} {i j : ℤ} → Means m (Number i) → Means n (Number j)
          → Means (PrimOf op m n) (Number (primitive_result op i j))
      NoByte : Means (Rest []) (Built (nil p) Few)
      Byte : {k : ℕ} {rest : List ℕ}
          → Means (Rest (k ∷ rest)) (Built (cons p) (And (Number (pos k)) (And (Rest rest) Few)))
      OfMember : {s : Sense} {group : List Bound} {f : Flat} {v : Meant}
          → Means (form (in_group s group) f) v → Means (Member s group f) v

    -- a value takes arguments, one at a time
    pub data Takes : Meant → Meants → Meant → Type 0 where
      Nothing : {v : Meant} → Takes v Few v
      Waits : {f : ℕ} {ms ns : Meants} {n v : Meant} → suc (count ms) < params p f
          → Takes (Lacks f (and_last ms n)) ns v → Takes (Lacks f ms) (And n ns) v
      Enters : {f : ℕ} {ms ns : Meants} {n u v : Meant} → params p f ≤ suc (count ms)
          → Means (CallOf f (and_last ms n)) u → Takes u ns v → Takes (Lacks f ms) (And n ns) v

    -- an expression has a value
    pub data Evaluates : Sense → Term → Meant → Type 0 where
      OfForm : {s : Sense} {f : Flat} {v : Meant} → Means (form s f) v → Evaluates s (App f) v
      OfLet : {s : Sense} {group : List Bound} {body : Term} {v : Meant}
          → Evaluates (in_group s group) body v → Evaluates s (Let group body) v
      OfCase : {s : Sense} {tested : Term} {branches : Branches} {u v : Meant}
          → Evaluates s tested u → Selects s branches u v → Evaluates s (Case tested branches) v

    -- the first branch that accepts a value gives one
    pub data Selects : Sense → Branches → (tested given : Meant) → Type 0 where
      OfCon : {s : Sense} {c : ℕ} {xs : List ℕ} {body : Term} {rest : Branches} {u v : Meant}
          → is_built c u ≡ true → Evaluates (with_meants s xs (parts_of u)) body v
          → Selects s (OnCon c xs body rest) u v
      OfInt : {s : Sense} {k : ℤ} {body : Term} {rest : Branches} {u v : Meant}
          → is_number k u ≡ true → Evaluates s body v → Selects s (OnInt k body rest) u v
      OfAny : {s : Sense} {body : Term} {rest : Branches} {u v : Meant}
          → Evaluates s body v → Selects s (OnAny None body rest) u v
      OfNamed : {s : Sense} {x : ℕ} {body : Term} {rest : Branches} {u v : Meant}
          → Evaluates (with_meant s x u) body v → Selects s (OnAny (Some x) body rest) u v
      PastCon : {s : Sense} {c : ℕ} {xs : List ℕ} {body : Term} {rest : Branches} {u v : Meant}
          → is_built c u ≡ false → Selects s rest u v → Selects s (OnCon c xs body rest) u v
      PastInt : {s : Sense} {k : ℤ} {body : Term} {rest : Branches} {u v : Meant}
          → is_number k u ≡ false → Selects s rest u v → Selects s (OnInt k body rest) u v

  -- ---- a value is met that nothing accepts

  mutual
    pub data MeantSticks : Meant → Type 0 where
      InCall : {f : ℕ} {ms : Meants} (g : Function) → slice_get p.funs f ≡ Some g
          → EvaluationSticks (nth ms) g.body → MeantSticks (CallOf f ms)
      InGlobal : {f : ℕ} (g : Function) → slice_get p.funs f ≡ Some g
          → EvaluationSticks (nth Few) g.body → MeantSticks (GlobalOf f)
      AtHead : {m : Meant} {ms : Meants} → MeantSticks m → MeantSticks (ApplyOf m ms)
      AtArguments : {m u : Meant} {ms : Meants} → Means m u → TakingSticks u ms
          → MeantSticks (ApplyOf m ms)
      AtFirst : {op : PrimOp} {m n : Meant} → MeantSticks m → MeantSticks (PrimOf op m n)
      FirstIsNone : {op : PrimOp} {m n u : Meant} → Means m u → NoNumber u
          → MeantSticks (PrimOf op m n)
      AtSecond : {op : PrimOp} {m n : Meant} {i : ℤ} → Means m (Number i) → MeantSticks n
          → MeantSticks (PrimOf op m n)
      SecondIsNone : {op : PrimOp} {m n v : Meant} {i : ℤ} → Means m (Number i) → Means n v
          → NoNumber v → MeantSticks (PrimOf op m n)
      InMember : {s : Sense} {group : List Bound} {f : Flat}
          → MeantSticks (form (in_group s group) f) → MeantSticks (Member s group f)

    pub data TakingSticks : Meant → Meants → Type 0 where
      TakesNone : {u n : Meant} {ns : Meants} → NoFunction u → TakingSticks u (And n ns)
      Waiting : {f : ℕ} {ms ns : Meants} {n : Meant} → suc (count ms) < params p f
          → TakingSticks (Lacks f (and_last ms n)) ns → TakingSticks (Lacks f ms) (And n ns)
      Entering : {f : ℕ} {ms ns : Meants} {n : Meant} → params p f ≤ suc (count ms)
          → MeantSticks (CallOf f (and_last ms n)) → TakingSticks (Lacks f ms) (And n ns)
      Later : {f : ℕ} {ms ns : Meants} {n u : Meant} → params p f ≤ suc (count ms)
          → Means (CallOf f (and_last ms n)) u → TakingSticks u ns
          → TakingSticks (Lacks f ms) (And n ns)

    pub data EvaluationSticks : Sense → Term → Type 0 where
      InForm : {s : Sense} {f : Flat} → MeantSticks (form s f) → EvaluationSticks s (App f)
      InLet : {s : Sense} {group : List Bound} {body : Term}
          → EvaluationSticks (in_group s group) body → EvaluationSticks s (Let group body)
      AtTested : {s : Sense} {tested : Term} {branches : Branches}
          → EvaluationSticks s tested → EvaluationSticks s (Case tested branches)
      AtBranches : {s : Sense} {tested : Term} {branches : Branches} {u : Meant}
          → Evaluates s tested u → SelectionSticks s branches u
          → EvaluationSticks s (Case tested branches)

    pub data SelectionSticks : Sense → Branches → Meant → Type 0 where
      NoneLeft : {s : Sense} {u : Meant} → SelectionSticks s NoMore u
      InCon : {s : Sense} {c : ℕ} {xs : List ℕ} {body : Term} {rest : Branches} {u : Meant}
          → is_built c u ≡ true → EvaluationSticks (with_meants s xs (parts_of u)) body
          → SelectionSticks s (OnCon c xs body rest) u
      InInt : {s : Sense} {k : ℤ} {body : Term} {rest : Branches} {u : Meant}
          → is_number k u ≡ true → EvaluationSticks s body
          → SelectionSticks s (OnInt k body rest) u
      InAny : {s : Sense} {body : Term} {rest : Branches} {u : Meant}
          → EvaluationSticks s body → SelectionSticks s (OnAny None body rest) u
      InNamed : {s : Sense} {x : ℕ} {body : Term} {rest : Branches} {u : Meant}
          → EvaluationSticks (with_meant s x u) body
          → SelectionSticks s (OnAny (Some x) body rest) u
      AfterCon : {s : Sense} {c : ℕ} {xs : List ℕ} {body : Term} {rest : Branches} {u : Meant}
          → is_built c u ≡ false → SelectionSticks s rest u
          → SelectionSticks s (OnCon c xs body rest) u
      AfterInt : {s : Sense} {k : ℤ} {body : Term} {rest : Branches} {u : Meant}
          → is_number k u ≡ false → SelectionSticks s rest u
          → SelectionSticks s (OnInt k body rest) u

  -- a list puts out these bytes, and ends, meets what nothing accepts, or goes on behind them
  pub data Prints : Meant → List ℕ → PrintingEnd → Type 0 where
    Behind : {m : Meant} → Prints m [] Going
    AtNil : {m : Meant} → Means m (Built (nil p) Few) → Prints m [] Done
    NotAList : {m u : Meant} → Means m u → NoList (nil p) (cons p) u → Prints m [] Unaccepted
    ListSticks : {m : Meant} → MeantSticks m → Prints m [] Unaccepted
    Puts : {m head tail : Meant} {k : ℤ} {out : List ℕ} {end : PrintingEnd}
        → Means m (Built (cons p) (And head (And tail Few))) → Means head (Number k)
        → Prints tail out end → Prints m (low_byte k ∷ out) end
    NotAByte : {m head tail u : Meant} → Means m (Built (cons p) (And head (And tail Few)))
        → Means head u → NoNumber u → Prints m [] Unaccepted
    ByteSticks : {m head tail : Meant} → Means m (Built (cons p) (And head (And tail Few)))
        → MeantSticks head → Prints m [] Unaccepted

  -- so does the program on this input
  pub data ProgramPrints : (i out : List ℕ) → PrintingEnd → Type 0 where
    OfItself : {i out : List ℕ} {end : PrintingEnd} → params p p.main ≡ 0
        → Prints (GlobalOf p.main) out end → ProgramPrints i out end
    OfInput : {i out : List ℕ} {end : PrintingEnd} → params p p.main ≢ 0
        → Prints (CallOf p.main (And (Rest i) Few)) out end → ProgramPrints i out end
