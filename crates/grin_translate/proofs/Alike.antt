-- A heap of bindings and a heap of cells that are alike: a name is a place, and a binding has its
-- node.
--
-- The heap of bindings and the heap of cells are alike: a name is a place, and the node there is
-- that of its binding. By induction on an expression its block does what the evaluator does, in
-- the same units. The procedures of thunks and the printing loop do what the evaluator does there.
use Rattle.std.proofs.Common.{◌≡◌, ℕ, zero, suc, ◌+◌, ◌-◌, ◌≤◌, ◌<◌, List, [], ◌∷◌, ◌++◌, map, length, Some, slice_get, slice_set, refl, ap, arith, length-append}
use Rattle.std.proofs.lemmas.List.{length-set}
use Rattle.arity_check.specs.Program.{Program}
use Rattle.core_meaning.specs.Heap.{Value, Int, Con, Part, Delayed, Call, Apply, Prim, Global, Input, Binding, Known, Waiting, Heap}
use Rattle.core_meaning.specs.Evaluation as core
use Rattle.core_meaning.specs.Evaluation.{State, Gives, NoAlternative, OutOfBound, and_then, append, update, params, globals}
use Rattle.grin_meaning.specs.Values.{Datum, number, cell, Node, node, HeapCell, World, Env, Answer, gives, stops, no_alternative, out_of_units, then_do}
use Rattle.grin_meaning.specs.Values as grin
use Rattle.grin_meaning.specs.Run.{with_state_seen, with_node, with_cells}
use Rattle.grin_translate.specs.declared.tags.Delay.{Delay}
use Rattle.grin_translate.specs.declared.tags.Delay.TheVariants.{Calls, Applies, Operates, Reads}
use Rattle.grin_translate.specs.declared.tags.Kind.{Kind}
use Rattle.grin_translate.specs.declared.tags.Kind.TheVariants.{Number, Constructor, Waits, Lacks}
use Rattle.grin_translate.specs.Tags.{delays, tag}
use Rattle.grin_translate.specs.WellFormed.{AllOf, HasFields, HasParams}
use Rattle.grin_translate.proofs.Places.{Has}

module _ (p : Program) where
  -- ---- the node of a binding

  abbrev pub value_kind : Value → Kind
  value_kind (Int k) = Number
  value_kind (Con c xs) = Constructor c
  value_kind (Part f xs) = Lacks f (params p f - length xs)

  abbrev pub value_fields : Value → List Datum
  value_fields (Int k) = number k ∷ []
  value_fields (Con c xs) = map cell xs
  value_fields (Part f xs) = map cell xs

  abbrev pub value_node : Value → Node
  value_node v = record { tag = (tag p (value_kind v)).0; fields = value_fields v }

  abbrev pub delay_of : Delayed → Delay
  delay_of (Call f xs) = Calls f
  delay_of (Apply a bs) = Applies (length bs)
  delay_of (Prim op a b) = Operates op
  delay_of (Global f) = Calls f
  delay_of Input = Reads

  abbrev pub args_of : Delayed → List Datum
  args_of (Call f xs) = map cell xs
  args_of (Apply a bs) = cell a ∷ map cell bs
  args_of (Prim op a b) = cell a ∷ cell b ∷ []
  args_of (Global f) = []
  args_of Input = []

  abbrev pub binding_node : Binding → Node
  binding_node (Known v) = value_node v
  binding_node (Waiting t) = record { tag = (tag p (Waits (delay_of t))).0; fields = args_of t }

  -- ---- bindings whose names are below n, with as many as there are fields and parameters

  abbrev pub Names : ℕ → List ℕ → Type 0
  Names n xs = AllOf (λ x. x < n) xs

  abbrev pub IsValue : ℕ → Value → Type 0
  IsValue n (Int k) = Unit {0}
  IsValue n (Con c xs) = HasFields p c (length xs) × Names n xs
  IsValue n (Part f xs) = HasParams p f (λ k. length xs < k) × Names n xs

  abbrev pub IsDelayed : ℕ → Delayed → Type 0
  IsDelayed n (Call f xs) = HasParams p f (λ k. k ≡ length xs) × Names n xs
  IsDelayed n (Apply a bs) = Has (Applies (length bs)) (delays p) × (a < n) × Names n bs
  IsDelayed n (Prim op a b) = Has (Operates op) (delays p) × (a < n) × (b < n)
  IsDelayed n (Global f) = HasParams p f (λ k. k ≡ 0)
  IsDelayed n Input = Has Reads (delays p)

  abbrev pub IsBinding : ℕ → Binding → Type 0
  IsBinding n (Known v) = IsValue n v
  IsBinding n (Waiting t) = IsDelayed n t

  pub names_grow : (n m : ℕ) → n ≤ m → (xs : List ℕ) → Names n xs → Names m xs
  names_grow n m le [] h = tt
  names_grow n m le (x ∷ xs) h = (omega (arith, le, h.0), names_grow n m le xs h.1)

  pub value_grows : (n m : ℕ) → n ≤ m → (v : Value) → IsValue n v → IsValue m v
  value_grows n m le (Int k) h = tt
  value_grows n m le (Con c xs) h = (h.0, names_grow n m le xs h.1)
  value_grows n m le (Part f xs) h = (h.0, names_grow n m le xs h.1)

  pub binding_grows : (n m : ℕ) → n ≤ m → (b : Binding) → IsBinding n b → IsBinding m b
  binding_grows n m le (Known v) h = value_grows n m le v h
  binding_grows n m le (Waiting (Call f xs)) h = (h.0, names_grow n m le xs h.1)
  binding_grows n m le (Waiting (Apply a bs)) h =
      (h.0, omega (arith, le, h.1), names_grow n m le bs h.2)
  binding_grows n m le (Waiting (Prim op a b)) h =
      (h.0, omega (arith, le, h.1), omega (arith, le, h.2))
  binding_grows n m le (Waiting (Global f)) h = h
  binding_grows n m le (Waiting Input) h = h

  -- ---- heaps

  abbrev pub Heaps : ℕ → Heap → List HeapCell → Type 0
  Heaps n [] [] = Unit {0}
  Heaps n [] (c ∷ cs) = ⊥
  Heaps n (b ∷ h) [] = ⊥
  Heaps n (b ∷ h) (c ∷ cs) = (c.node ≡ binding_node b) × IsBinding n b × Heaps n h cs

  pub heaps_grow : (n m : ℕ) → n ≤ m → (h : Heap) (cs : List HeapCell) → Heaps n h cs → Heaps m h cs
  heaps_grow n m le [] [] a = tt
  heaps_grow n m le [] (c ∷ cs) a = absurd a
  heaps_grow n m le (b ∷ h) [] a = absurd a
  heaps_grow n m le (b ∷ h) (c ∷ cs) a =
      (a.0, binding_grows n m le b a.1, heaps_grow n m le h cs a.2)

  pub heaps_long : (n : ℕ) (h : Heap) (cs : List HeapCell) → Heaps n h cs → length cs ≡ length h
  heaps_long n [] [] a = refl
  heaps_long n [] (c ∷ cs) a = absurd a
  heaps_long n (b ∷ h) [] a = absurd a
  heaps_long n (b ∷ h) (c ∷ cs) a = ap suc (heaps_long n h cs a.2)

  pub record At (n : ℕ) (h : Heap) (cs : List HeapCell) (a : ℕ) : Type 0 where
    pub binding : Binding
    pub place : HeapCell
    pub is_binding : slice_get h a ≡ Some binding
    pub is_place : slice_get cs a ≡ Some place
    pub same : place.node ≡ binding_node binding
    pub good : IsBinding n binding

  pub heaps_at : (n : ℕ) (h : Heap) (cs : List HeapCell) (a : ℕ) → Heaps n h cs → a < length h
      → At n h cs a
  heaps_at n [] cs a s lt = absurd (omega (arith, lt))
  heaps_at n (b ∷ h) [] a s lt = absurd s
  heaps_at n (b ∷ h) (c ∷ cs) zero s lt = record
      { binding = b; place = c; is_binding = refl; is_place = refl; same = s.0; good = s.1 }
  heaps_at n (b ∷ h) (c ∷ cs) (suc a) s lt =
      let i = heaps_at n h cs a s.2 (omega (arith, lt)) in
      record {
        binding = i.binding;
        place = i.place;
        is_binding = i.is_binding;
        is_place
            = i.is_place;
        same = i.same;
        good = i.good;
      }

  pub heaps_set : (n : ℕ) (h : Heap) (cs : List HeapCell) (a : ℕ) (b : Binding) (c : HeapCell)
      → Heaps n h cs → c.node ≡ binding_node b → IsBinding n b
      → Heaps n (slice_set h a b) (slice_set cs a c)
  heaps_set n [] [] a b c s e g = tt
  heaps_set n [] (x ∷ cs) a b c s e g = absurd s
  heaps_set n (y ∷ h) [] a b c s e g = absurd s
  heaps_set n (y ∷ h) (x ∷ cs) zero b c s e g = (e, g, s.2)
  heaps_set n (y ∷ h) (x ∷ cs) (suc a) b c s e g = (s.0, s.1, heaps_set n h cs a b c s.2 e g)

  pub heaps_append : (n : ℕ) (h : Heap) (cs : List HeapCell) (h' : Heap) (cs' : List HeapCell)
      → Heaps n h cs → Heaps n h' cs' → Heaps n (h ++ h') (cs ++ cs')
  heaps_append n [] [] h' cs' s t = t
  heaps_append n [] (c ∷ cs) h' cs' s t = absurd s
  heaps_append n (b ∷ h) [] h' cs' s t = absurd s
  heaps_append n (b ∷ h) (c ∷ cs) h' cs' s t = (s.0, s.1, heaps_append n h cs h' cs' s.2 t)

  -- the functions without parameters have a binding each
  abbrev pub shared : ℕ
  shared = length (globals p p.funs 0)

  -- a state of evaluation and one of a run, with this output
  pub record Alike (out : List ℕ) (s : State) (w : World) : Type 0 where
    pub heaps : Heaps (length s.heap) s.heap w.cells
    pub room : shared ≤ length s.heap
    pub left : w.left ≡ s.left
    pub depth : w.depth ≡ s.depth
    pub input : w.input ≡ s.input
    pub used : w.used ≡ s.used
    pub written : w.out ≡ out

  pub alike_passing : (out : List ℕ) (s : State) (w : World) (env : Env) → Alike out s w
      → Alike out s (with_state_seen env w)
  alike_passing out s w env a = record {
    heaps = a.heaps;
    room = a.room;
    left = a.left;
    depth = a.depth;
    input = a.input;
    used
        = a.used;
    written = a.written;
  }

  pub alike_append : (out : List ℕ) (s : State) (w : World) (h : Heap) (cs : List HeapCell)
      → Alike out s w → Heaps (length s.heap + length h) h cs
      → Alike out (append s h) (with_cells cs w)
  alike_append out s w h cs a g = record {
    heaps = rw length-append
        (heaps_append (length s.heap + length h) s.heap w.cells h cs
        (heaps_grow (length s.heap) (length s.heap + length h) (omega arith) s.heap w.cells a.heaps)
        g);
    room = omega (arith, a.room, length-append s.heap h);
    left = a.left;
    depth = a.depth;
    input = a.input;
    used = a.used;
    written = a.written;
  }

  pub alike_update : (out : List ℕ) (s : State) (w : World) (a : ℕ) (v : Value) (c : HeapCell)
      → Alike out s w → IsValue (length s.heap) v → Alike out (update s a v)
      (with_node a (value_node v) c w)
  alike_update out s w a v c al g = record {
    heaps = rw (length-set s.heap a (Known v))
        (heaps_set (length s.heap) s.heap w.cells a (Known v)
        (record { site = c.site; node = value_node v }) al.heaps refl g);
    room = omega (arith, al.room, length-set s.heap a (Known v));
    left = al.left;
    depth = al.depth;
    input = al.input;
    used = al.used;
    written = al.written;
  }

  -- ---- answers

  -- a run gives the node of the value that evaluation gives, or ends as it does; n bindings were
  -- there before
  pub data Match (n : ℕ) (out : List ℕ) : core.Answer → Answer → Type 0 where
    both_give : {v : Value} {s : State} {w : World} → n ≤ length s.heap → IsValue (length s.heap) v
        → Alike out s w → Match n out (Gives v s) (gives (node (value_node v)) w)
    none_accepts : {s : State} {w : World} → Alike out s w
        → Match n out (NoAlternative s) (stops no_alternative w)
    both_go : {s : State} {w : World} → Alike out s w
        → Match n out (OutOfBound s) (stops out_of_units w)

  pub match_then : {n : ℕ} {out : List ℕ} {a : core.Answer} {a' : Answer}
      (k : Value → State → core.Answer) (k' : grin.Value → World → Answer) → Match n out a a'
      → ((v : Value) (s : State) (w : World) → n ≤ length s.heap → IsValue (length s.heap) v
      → Alike out s w → Match n out (k v s) (k' (node (value_node v)) w))
      → Match n out (and_then a k) (then_do a' k')
  match_then k k' (both_give {v} {s} {w} le g al) h = h v s w le g al
  match_then k k' (none_accepts al) h = none_accepts al
  match_then k k' (both_go al) h = both_go al

  pub match_less : {n m : ℕ} {out : List ℕ} {a : core.Answer} {a' : Answer} → n ≤ m
      → Match m out a a' → Match n out a a'
  match_less le (both_give le' g al) = both_give (omega (arith, le, le')) g al
  match_less le (none_accepts al) = none_accepts al
  match_less le (both_go al) = both_go al
