-- The printing loop of a well typed program never ends for want of an alternative.
use Rattle.std.proofs.Common.{◌≡◌, ◌≢◌, ℕ, zero, suc, ◌+◌, Bool, true, false, cond, nat_eq, List, [], ◌∷◌, ◌++◌, take, length, Some, slice_get, refl, sym, ap, ◌∙◌, subst, arith, eqb-true, inl, inr}
use Rattle.std.specs.Prelude.{◌⊎◌, ◌==◌, if◌then◌else◌}
use Rattle.std.specs.List.{count_by}
use Rattle.std.proofs.lemmas.Bool.{eq-eqb}
use Rattle.seq.proofs.Lists.{some_is, none_is_some}
use Rattle.arity_check.specs.Program.{Program, Function}
use Rattle.core_types.specs.Typing.{Typed, Arrow}
use Rattle.core_types.specs.Typing as types
use Rattle.numbers.specs.Numbers.{low_byte}
use Rattle.core_meaning.specs.Heap.{Value, Int, Con, Part, Call, Global, Input, Waiting, Heap}
use Rattle.core_meaning.specs.Evaluation.{State, Answer, Gives, NoAlternative, OutOfBound, append, nil, cons, global, globals, params, params_of, start, within}
use Rattle.core_meaning.specs.ByNeed as by_need
use Rattle.core_meaning.specs.Printing.{PrintedRun, Unaccepted, on_value, on_list, on_byte, print, printed}
use Rattle.core_meaning.proofs.Shared.{count_more}
use Rattle.type_meaning.specs.Judgement.{Instance, instance, IsNamed, IsTyped}
use Rattle.type_meaning.specs.Heaps.{HeapTypes, KeepsNameTypes, NameHasType, NamesHaveTypes}
use Rattle.type_meaning.proofs.Types.{name_grows, name_itself}
use Rattle.type_meaning.proofs.Sound as sound

module _ (ConHas FunHas : ℕ → List Typed → Typed → Type 0) (p : Program) (integers : Typed)
    (typed : IsTyped ConHas FunHas p integers) where
  abbrev Goes : PrintedRun → Type 0
  Goes r = r.end ≢ Unaccepted

  abbrev Sound : HeapTypes → Heap → Type 0
  Sound = sound.Sound ConHas FunHas p integers typed

  abbrev ValueHas : HeapTypes → Value → Typed → Type 0
  ValueHas = sound.ValueHas ConHas FunHas p integers typed

  abbrev AnswerHas : HeapTypes → Typed → Answer → Type 0
  AnswerHas = sound.AnswerHas ConHas FunHas p integers typed

  abbrev BindingsHave : HeapTypes → Heap → List Typed → Type 0
  BindingsHave = sound.BindingsHave ConHas FunHas p integers typed

  value_goes : (H : HeapTypes) (t : Typed) (a : Answer) (out : List ℕ)
      (go : Value → State → PrintedRun) → AnswerHas H t a
      → ((v : Value) (s : State) (H' : HeapTypes) → KeepsNameTypes H H' → Sound H' s.heap
      → ValueHas H' v t → Goes (go v s)) → Goes (on_value a out go)
  value_goes H t (Gives v s) out go (H', g, ok, h) f = f v s H' g ok h
  value_goes H t (NoAlternative s) out go h f = absurd h
  value_goes H t (OutOfBound s) out go h f = λ e. absurd cc

  named : IsNamed integers
  named = typed.con_named (nil p) [] integers typed.nil_has

  test_goes : (b : Bool) (x y : PrintedRun) → b ≡ true → Goes x
      → Goes (elim b as (λ _. PrintedRun) [ true ↦ x | false ↦ y ])
  test_goes true x y e h = h
  test_goes false x y e h = absurd cc

  done_goes : (out : List ℕ) (s : State) (d : ℕ) → d ≡ nil p
      → Goes (by_need.stops out (if d == nil p then by_need.Done else Unaccepted) s)
  done_goes out s d e = by_test (nat_eq d (nil p)) (eq-eqb d (nil p) e)
    where
      by_test : (b : Bool) → b ≡ true → Goes (by_need.stops out (cond b by_need.Done Unaccepted) s)
      by_test true e = λ z. absurd cc
      by_test false e = absurd cc

  list_goes : (H : HeapTypes) (v : Value) (out : List ℕ) (s : State) (go : ℕ → ℕ → PrintedRun)
      → ValueHas H v integers
      → ((h t : ℕ) → NameHasType H h types.Int → NameHasType H t integers → Goes (go h t))
      → Goes (on_list (nil p) (cons p) v out s go)
  list_goes H (Int k) out s go h f = absurd (subst IsNamed h named)
  list_goes H (Part g xs) out s go (ts, u, us, r, fun, e, n) f = absurd (subst IsNamed e named)
  list_goes H (Con d xs) out s go (ts, con, n) f = by_con (typed.list_has d ts con)
    where
      ends : (ts : List Typed) (xs : List ℕ) → d ≡ nil p → ts ≡ [] → NamesHaveTypes H xs ts
          → Goes (on_list (nil p) (cons p) (Con d xs) out s go)
      ends [] [] e q n = done_goes out s d e
      ends [] (x ∷ xs) e q n = absurd n
      ends (t ∷ ts) xs e q n = absurd cc

      goes_on : (xs : List ℕ) → d ≡ cons p → NamesHaveTypes H xs (types.Int ∷ integers ∷ [])
          → Goes (on_list (nil p) (cons p) (Con d xs) out s go)
      goes_on [] e n = absurd n
      goes_on (h ∷ []) e n = absurd n.1
      goes_on (h ∷ t ∷ []) e n = test_goes (nat_eq d (cons p)) (go h t) _ (eq-eqb d (cons p) e)
          (f h t n.0 n.1.0)
      goes_on (h ∷ t ∷ x ∷ xs) e n = absurd n.1.1

      by_con : (d ≡ nil p) ⊎ (d ≡ cons p) → Goes (on_list (nil p) (cons p) (Con d xs) out s go)
      by_con (inl e) = ends ts xs e
          (typed.con_fields (nil p) ts [] integers (subst (λ c. ConHas c ts integers) e con)
          typed.nil_has) n
      by_con (inr e) = goes_on xs e
          (subst (λ ts. NamesHaveTypes H xs ts)
          (typed.con_fields (cons p) ts (types.Int ∷ integers ∷ []) integers
          (subst (λ c. ConHas c ts integers) e con) typed.cons_has) n)

  byte_goes : (H : HeapTypes) (v : Value) (out : List ℕ) (s : State) (go : ℕ → PrintedRun)
      → ValueHas H v types.Int → ((b : ℕ) → Goes (go b)) → Goes (on_byte v out s go)
  byte_goes H (Int k) out s go h f = f (low_byte k)
  byte_goes H (Con c xs) out s go h f = absurd (typed.con_named c h.0 types.Int h.1)
  byte_goes H (Part g xs) out s go (ts, u, us, r, fun, e, n) f = absurd cc

  printing : (n a : ℕ) (out : List ℕ) (s : State) (H : HeapTypes) → Sound H s.heap
      → NameHasType H a integers → Goes (print p n a out s)
  printing zero a out s H ok h = λ e. absurd cc
  printing (suc n) a out s H ok h =
      value_goes H integers _ out _
      (sound.spending ConHas FunHas p integers typed s.left 0 s H integers _
      (λ u e. sound.forcing ConHas FunHas p integers typed (within p n)
      (sound.sound_within ConHas FunHas p integers typed n) a 1 u H integers
      (subst (λ heap. Sound H heap) (sym e) ok) h))
      (λ v t H' g ok i. list_goes H' v out t _ i (λ x tail hx ht.
      value_goes H' types.Int _ out _
      (sound.forcing ConHas FunHas p integers typed (within p n)
      (sound.sound_within ConHas FunHas p integers typed n) x 1 t H' types.Int ok hx)
      (λ v u H'' g ok i. byte_goes H'' v out u _ i
      (λ byte. printing n tail (out ++ byte ∷ []) u H'' ok
      (name_grows H' H'' tail integers g ht)))))

  -- ---- the heap at the start

  -- the function k from here on, where it has no parameter, is in a heap of these types
  abbrev Begins : ℕ → List Typed → ℕ → Type 0
  Begins k ts n = (g : Typed) × (slice_get ts n ≡ Some g)
      × ((t : Typed) → FunHas k [] t → (ρ : Instance) × (t ≡ instance ρ g))

  record Beginning (k : ℕ) (gs : List Function) : Type 0 where
    types : List Typed
    bindings : (H : HeapTypes) → BindingsHave H (globals p gs k) types
    at : (j : ℕ) (fun : Function) → slice_get gs j ≡ Some fun → fun.params ≡ 0
        → Begins (k + j) types (count_by (λ g. nat_eq g.params 0) (take j gs))

  beginning : (gs : List Function) (k : ℕ) →
      ((j : ℕ) (g : Function) → slice_get gs j ≡ Some g → slice_get p.funs (k + j) ≡ Some g)
      → Beginning k gs
  beginning [] k at = record { types = []; bindings = λ H. tt; at = λ j fun e z. none_is_some e }
  beginning (g ∷ gs) k at =
      by_test (nat_eq g.params 0) refl
      (beginning gs (suc k)
      (λ j h e. let s : k + suc j ≡ suc k + j = omega arith
      in subst (λ n. slice_get p.funs n ≡ Some h) s (at (suc j) h e)))
    where
      z : k + 0 ≡ k
      z = omega arith

      here : slice_get p.funs k ≡ Some g
      here = subst (λ n. slice_get p.funs n ≡ Some g) z (at 0 g refl)

      first : (b : Bool) → cond b 1 0 + 0 ≡ cond b 1 0
      first true = refl
      first false = refl

      by_test : (b : Bool) → nat_eq g.params 0 ≡ b → Beginning (suc k) gs → Beginning k (g ∷ gs)
      by_test true e rest = record {
        types = h.0 ∷ rest.types;
        bindings = λ H. subst
            (λ b. BindingsHave H (cond b (Waiting (Global k) ∷ []) [] ++ globals p gs (suc k))
            (h.0 ∷ rest.types)) (sym e) (h.1, rest.bindings H);
        at = found;
      }
        where
          h : (t : Typed) × FunHas k [] t ×
              ((u : Typed) → FunHas k [] u → (ρ : Instance) × (u ≡ instance ρ t))
          h = typed.general k g here (eqb-true g.params 0 e)

          found : (j : ℕ) (fun : Function) → slice_get (g ∷ gs) j ≡ Some fun → fun.params ≡ 0
              → Begins (k + j) (h.0 ∷ rest.types)
              (count_by (λ g. nat_eq g.params 0) (take j (g ∷ gs)))
          found zero fun q n = subst (λ k. Begins k (h.0 ∷ rest.types) 0) (sym z) (h.0, refl, h.2)
          found (suc j) fun q n =
              let s : suc k + j ≡ k + suc j = omega arith in
              let i = rest.at j fun q n in
              let c : ℕ = count_by (λ g. nat_eq g.params 0) (take j gs) in
              let q : 1 + c ≡ suc c = omega arith in
              rw (count_more g (take j gs), e)
              (subst (λ n. Begins (k + suc j) (h.0 ∷ rest.types) n) (sym q)
              (subst (λ k. Begins k (h.0 ∷ rest.types) (suc c)) s (i.0, i.1, i.2)))
      by_test false e rest = record {
        types = rest.types;
        bindings = λ H. subst
            (λ b. BindingsHave H (cond b (Waiting (Global k) ∷ []) [] ++ globals p gs (suc k))
            rest.types) (sym e) (rest.bindings H);
        at = found;
      }
        where
          found : (j : ℕ) (fun : Function) → slice_get (g ∷ gs) j ≡ Some fun → fun.params ≡ 0
              → Begins (k + j) rest.types (count_by (λ g. nat_eq g.params 0) (take j (g ∷ gs)))
          found zero fun q n =
              let same : g ≡ fun = some_is q in
              let t : true ≡ false = sym (eq-eqb g.params 0 (ap (λ g. g.params) same ∙ n)) ∙ e
              in absurd cc
          found (suc j) fun q n =
              let s : suc k + j ≡ k + suc j = omega arith in
              let i = rest.at j fun q n in
              let c : ℕ = count_by (λ g. nat_eq g.params 0) (take j gs) in
              let q : 0 + c ≡ c = omega arith in
              rw (count_more g (take j gs), e)
              (subst (λ n. Begins (k + suc j) rest.types n) (sym q)
              (subst (λ k. Begins k rest.types c) s i))

  start_types : Beginning 0 p.funs
  start_types = beginning p.funs 0
      (λ j g e. let z : 0 + j ≡ j = omega arith in subst (λ k. slice_get p.funs k ≡ Some g) (sym z)
      e)

  global_has : (f : ℕ) (t : Typed) → FunHas f [] t → NameHasType start_types.types (global p f) t
  global_has f t h =
      let b = typed.bodies f [] t h in
      let z : 0 + f ≡ f = omega arith in
      let i = start_types.at f b.function b.is (sym b.params) in
      let j = i.2 t (subst (λ f. FunHas f [] t) (sym z) h) in
      record { general = i.0; is = i.1; ρ = j.0; by = j.1 }

  start_sound : Sound start_types.types (globals p p.funs 0)
  start_sound = record { bindings = start_types.bindings start_types.types; globals = global_has }

  main_params : (ts : List Typed) → FunHas p.main ts integers → params p p.main ≡ length ts
  main_params ts h = let b = typed.bodies p.main ts integers h
      in ap (params_of p) b.is ∙ sym b.params

  pub well_typed_goes : (i : List ℕ) (n : ℕ) → (printed p i n).end ≢ Unaccepted
  well_typed_goes i n = by_test (params p p.main == 0) refl typed.main_has n
    where
      by_test : (b : Bool) → (params p p.main == 0) ≡ b → FunHas p.main [] integers
          ⊎ FunHas p.main (integers ∷ []) integers → (n : ℕ)
          → Goes (elim b as (λ _. PrintedRun) [
            | true ↦ by_need.print 0 NoAlternative p n (global p p.main) [] (start p i n)
            | false
                ↦ by_need.printed_from_input 0 NoAlternative p i n
          ])
      by_test true e (inl h) n = printing n (global p p.main) [] (start p i n) start_types.types
          start_sound (global_has p.main integers h)
      by_test true e (inr h) n =
          let z : params p p.main ≡ 0 = eqb-true (params p p.main) 0 e in
          let o : params p p.main ≡ 1 = main_params (integers ∷ []) h in
          absurd (omega (arith, z, o))
      by_test false e (inl h) n = let t : true ≡ false
          = sym (eq-eqb (params p p.main) 0 (main_params [] h)) ∙ e in absurd cc
      by_test false e (inr h) zero = λ q. absurd cc
      by_test false e (inr h) (suc n) =
          let H : HeapTypes = start_types.types in
          let heap : Heap = globals p p.funs 0 in
          let m : ℕ = length heap in
          let two : List Typed = integers ∷ integers ∷ [] in
          let z : m + 0 ≡ m = omega arith in
          let o : m + 1 ≡ suc m = omega arith in
          let behind : (j : ℕ) → slice_get two j ≡ Some integers
          → slice_get (H ++ two) (m + j) ≡ Some integers
          = λ j q. sound.behind ConHas FunHas p integers typed (within p 0)
          (sound.sound_within ConHas FunHas p integers typed 0) H two heap j integers
          start_sound q in
          let input : NameHasType (H ++ two) m integers
          = name_itself (H ++ two) m integers
          (subst (λ n. slice_get (H ++ two) n ≡ Some integers) z (behind 0 refl)) in
          let main : NameHasType (H ++ two) (suc m) integers
          = name_itself (H ++ two) (suc m) integers
          (subst (λ n. slice_get (H ++ two) n ≡ Some integers) o (behind 1 refl)) in
          printing n (suc m) []
          (append (start p i n) (Waiting Input ∷ Waiting (Call p.main (m ∷ [])) ∷ []))
          (H ++ two)
          (sound.sound_append ConHas FunHas p integers typed (within p 0)
          (sound.sound_within ConHas FunHas p integers typed 0) H two heap
          (Waiting Input ∷ Waiting (Call p.main (m ∷ [])) ∷ []) start_sound
          (refl, ((integers ∷ [], h, (input, tt)), tt))) main
