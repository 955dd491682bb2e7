-- The printing procedure does what the printing loop does, and so does the start.
use Rattle.std.proofs.Common.{◌≡◌, ◌≢◌, ℕ, zero, suc, ◌+◌, ◌≤◌, ◌<◌, max, Bool, true, false, cond, not, nat_eq, List, [], ◌∷◌, ◌++◌, map, length, Some, None, slice_get, refl, sym, ap, ◌∙◌, subst, arith, eqb-true, length-append}
use Rattle.std.specs.Prelude.{codes}
use Rattle.std.proofs.lemmas.Bool.{eq-eqb}
use Rattle.seq.proofs.Order.{eq_false}
use Rattle.seq.proofs.Truth.{not_both}
use Rattle.numbers.specs.Numbers.{low_byte}
use Rattle.arity_check.specs.Program.{Program, Function}
use Rattle.core_meaning.specs.Heap.{Value, Int, Con, Part, Waiting, Call, Input, Global, Heap}
use Rattle.core_meaning.specs.Evaluation as core'
use Rattle.core_meaning.specs.Evaluation.{State, append, force, nil, cons, spend, spend_of, params, global, globals, within, start}
use Rattle.core_meaning.specs.Printing as printing
use Rattle.core_meaning.specs.Printing.{PrintedRun, Done, Unaccepted, Going, on_value, on_list, on_byte, print, printed, printed_from_input}
use Rattle.grin_meaning.specs.Values.{fits, fits_not, fields_fit, cell, node, words, World, Env, with_vars, one_each, need, then_do, gives, stops, no_alternative, out_of_units}
use Rattle.grin_meaning.specs.Values as grin
use Rattle.grin_meaning.specs.Run.{choose, act, code, arms, calls, run, with_state_seen, spent, written, start_world}
use Rattle.grin_meaning.specs.Run as run'
use Rattle.grin_meaning.specs.Keeps.{end_of, world_of}
use Rattle.grin_translate.specs.declared.tags.Delay.{Delay}
use Rattle.grin_translate.specs.declared.tags.Delay.TheVariants.{Reads}
use Rattle.grin_translate.specs.declared.tags.Kind.TheVariants.{Number, Constructor, Waits}
use Rattle.grin_translate.specs.declared.tags.Delay.TheVariants.{Calls as CallsOf}
use Rattle.grin_translate.specs.Tags.{delays, tag, takes_input}
use Rattle.grin_translate.specs.Blocks.{local, temp, on_number, else_fail}
use Rattle.grin_translate.specs.Translation.{tr, procedure, delayed_procs, span, print_procs, print_body, start_body, rest, global_cells}
use Rattle.grin_translate.specs.Translation as translation
use Rattle.grin_translate.specs.WellFormed.{WellFormed, HasFields}
use Rattle.grin_translate.specs.Same.{TranslationPreservesRuns, grin_end_of}
use Rattle.grin_translate.proofs.Found.{has_number, has_constructor, has_reads, tags_tell}
use Rattle.grin_translate.proofs.Alike.{value_kind, value_node, IsValue, Heaps, heaps_long, Alike, alike_passing, alike_append, Match, both_give, none_accepts, both_go}
use Rattle.grin_translate.proofs.Forcing.{kind_there, value_made, delayed_made, force_match, params_are}
use Rattle.core_meaning.proofs.Shared.{global_below}
use Rattle.grin_translate.proofs.Expressions.{same_fields}
use Rattle.grin_translate.proofs.Called.{alike_spent, calls_match}

-- what is put out, and how a run answers
pub record Agrees (r : PrintedRun) (a : grin.Answer) : Type 0 where
  pub out : (world_of a).out ≡ r.out
  pub end : end_of a ≡ grin_end_of r.end
  pub used : (world_of a).used ≡ r.used
  pub cells : length (world_of a).cells ≡ r.cells
  pub depth : (world_of a).depth ≡ r.depth

agrees_else : (b : Bool) (x y : PrintedRun) (a : grin.Answer) → b ≡ false → Agrees y a
    → Agrees (elim b [ true ↦ x | false ↦ y ]) a
agrees_else true x y a e h = not_both true refl e
agrees_else false x y a e h = h

agrees_if : (b : Bool) (x y : PrintedRun) (a : grin.Answer) → b ≡ true → Agrees x a
    → Agrees (elim b [ true ↦ x | false ↦ y ]) a
agrees_if true x y a e h = h
agrees_if false x y a e h = not_both false e refl

module _ (p : Program) where
  agrees_done : (out : List ℕ) (s : State) (w : World) (v : grin.Value) → Alike p out s w
      → Agrees (printing.stops out Done s) (gives v w)
  agrees_done out s w v al = record {
    out = al.written;
    end = refl;
    used = al.used;
    cells
        = heaps_long p (length s.heap) s.heap w.cells al.heaps;
    depth = al.depth;
  }

  agrees_unaccepted : (out : List ℕ) (s : State) (w : World) → Alike p out s w
      → Agrees (printing.stops out Unaccepted s) (stops no_alternative w)
  agrees_unaccepted out s w al = record {
    out = al.written;
    end = refl;
    used = al.used;
    cells
        = heaps_long p (length s.heap) s.heap w.cells al.heaps;
    depth = al.depth;
  }

  agrees_going : (out : List ℕ) (s : State) (w : World) → Alike p out s w
      → Agrees (printing.stops out Going s) (stops out_of_units w)
  agrees_going out s w al = record {
    out = al.written;
    end = refl;
    used = al.used;
    cells
        = heaps_long p (length s.heap) s.heap w.cells al.heaps;
    depth = al.depth;
  }

  agrees_then : {n : ℕ} {out : List ℕ} {a : core'.Answer} {a' : grin.Answer}
      (go : Value → State → PrintedRun) (k : grin.Value → World → grin.Answer) → Match p n out a a'
      → ((v : Value) (s : State) (w : World) → n ≤ length s.heap → IsValue p (length s.heap) v
      → Alike p out s w → Agrees (go v s) (k (node (value_node p v)) w))
      → Agrees (on_value a out go) (then_do a' k)
  agrees_then go k (both_give {v} {s} {w} le g al) h = h v s w le g al
  agrees_then {out} go k (none_accepts {s} {w} al) h = agrees_unaccepted out s w al
  agrees_then {out} go k (both_go {s} {w} al) h = agrees_going out s w al

  -- ---- where the last procedures stand

  length-delayed_procs : (base : ℕ) (ds : List Delay) → length (delayed_procs p base ds) ≡ length ds
  length-delayed_procs base [] = refl
  length-delayed_procs base (d ∷ ds) = ap suc (length-delayed_procs (base + span p d) ds)

  at_end : {A : Type 0} (xs : List A) (ys : List A)
      → slice_get (xs ++ ys) (length xs) ≡ slice_get ys 0
  at_end [] ys = refl
  at_end (x ∷ xs) ys = at_end xs ys

  after_end : {A : Type 0} (xs : List A) (ys : List A)
      → slice_get (xs ++ ys) (suc (length xs)) ≡ slice_get ys 1
  after_end [] ys = refl
  after_end (x ∷ xs) ys = after_end xs ys

  print_found : slice_get (tr p).procs (translation.print p).0 ≡ Some
      (procedure p (rest p) (codes "@print") 1 (print_body p (rest p)))
  print_found = ap (slice_get (tr p).procs) (sym (length-delayed_procs (length p.funs) (delays p)))
      ∙ at_end (delayed_procs p (length p.funs) (delays p)) (print_procs p)

  start_found : takes_input p ≡ true → slice_get (tr p).procs (suc (length (delays p))) ≡ Some
      (procedure p (rest p + 10) (codes "@start") 0 (start_body p (rest p + 10)))
  start_found e =
      ap (λ k. slice_get (tr p).procs (suc k))
      (sym (length-delayed_procs (length p.funs) (delays p))) ∙ after_end
      (delayed_procs p (length p.funs) (delays p)) (print_procs p)
      ∙ ap (λ b. slice_get
      (procedure p (rest p) (codes "@print") 1 (print_body p (rest p)) ∷ cond b
      (procedure p (rest p + 10) (codes "@start") 0 (start_body p (rest p + 10)) ∷ []) []) 1) e

  module _ (ok : WellFormed p) where
    -- goes on with the tail, once the head has a value
    head_match : (b n : ℕ) (genv : Env) (u out : List ℕ) (tl : ℕ) (v : Value) (s : State)
        (w : World) → Alike p out s w → IsValue p (length s.heap) v
        → genv (temp p b 3).0 ≡ Some (node (value_node p v))
        → genv (temp p b 2).0 ≡ Some (words (cell tl ∷ []))
        → ((out : List ℕ) (w : World) → Alike p out s w
        → Agrees (print p n tl out s)
        (calls (tr p) n (translation.print p).0 (cell tl ∷ []) 0 w))
        → Agrees (on_byte v out s (λ byte. print p n tl (out ++ byte ∷ []) s))
        (code (tr p) (calls (tr p) n) genv 0
        (on_number p b (temp p b 3) (temp p b 4) (translation.write_block p b)) w)
    unfolding act
    head_match b n genv u out tl (Int k) s w al g at tail h =
        let ne : (temp p b 2).0 ≢ (temp p b 4).0 = λ e. omega (arith, e) in
        rw (
          at,
          tags_tell p Number Number (has_number p) (has_number p),
          eq-eqb (temp p b 4).0 (temp p b 4).0 refl,
          eq_false (temp p b 2).0 (temp p b 4).0 ne,
          tail,
        )
        (h (out ++ low_byte k ∷ []) _
        (record {
          heaps = al.heaps;
          room = al.room;
          left = al.left;
          depth = al.depth;
          input
              = al.input;
          used = al.used;
          written = ap (λ xs. xs ++ low_byte k ∷ []) al.written;
        }))
    head_match b n genv u out tl (Con x xs) s w al g at tail h
        = rw (
          at,
          tags_tell p (Constructor x) Number (kind_there p (length s.heap) (Con x xs) g)
              (has_number p),
        ) (agrees_unaccepted out s _ (alike_passing p out s w genv al))
    head_match b n genv u out tl (Part f xs) s w al g at tail h
        = rw (
          at,
          tags_tell p (value_kind p (Part f xs)) Number
              (kind_there p (length s.heap) (Part f xs) g) (has_number p),
        )
        (agrees_unaccepted out s _ (alike_passing p out s w genv al))

    -- what follows the value of the list
    abbrev Go : ℕ → List ℕ → Value → State → PrintedRun
    Go n out v s = on_list (nil p) (cons p) v out s
        (λ h tl. on_value (force p (within p n) h 1 s) out
        (λ w s. on_byte w out s (λ byte. print p n tl (out ++ byte ∷ []) s)))

    Next : ℕ → Type 0
    Next n = (a : ℕ) (out : List ℕ) (s : State) (w : World) → Alike p out s w → a < length s.heap
        → Agrees (print p n a out s) (calls (tr p) n (translation.print p).0 (cell a ∷ []) 0 w)

    -- a list of a head and a tail
    pair_match : (b n : ℕ) (genv : Env) (out : List ℕ) (hd tl : ℕ) (s : State) (w : World)
        → Alike p out s w → hd < length s.heap → tl < length s.heap
        → genv (temp p b 1).0 ≡ Some (words (cell hd ∷ []))
        → genv (temp p b 2).0 ≡ Some (words (cell tl ∷ [])) → Next n
        → Agrees (on_value (force p (within p n) hd 1 s) out
        (λ w s. on_byte w out s (λ byte. print p n tl (out ++ byte ∷ []) s)))
        (code (tr p) (calls (tr p) n) genv 0 (translation.pair_block p b) w)
    unfolding act Next
    pair_match b n genv out hd tl s w al lt lt' at at' next =
        rw at (agrees_then (λ w s. on_byte w out s (λ byte. print p n tl (out ++ byte ∷ []) s)) _
        (force_match p (within p n) (calls (tr p) n) (calls_match p ok n) hd 1 out s w al lt)
        (λ v s' w' le g al'.
        let genv' : Env = with_vars (((temp p b 3).0, node (value_node p v)) ∷ []) genv in
        let itself : genv' (temp p b 3).0 ≡ Some (node (value_node p v))
        = rw (eq-eqb (temp p b 3).0 (temp p b 3).0 refl) refl in
        let ne : (temp p b 2).0 ≢ (temp p b 3).0 = λ e. omega (arith, e) in
        let other : genv' (temp p b 2).0 ≡ Some (words (cell tl ∷ []))
        = rw (eq_false (temp p b 2).0 (temp p b 3).0 ne) at' in
        head_match b n genv' [] out tl v s' (with_state_seen genv' w')
        (alike_passing p out s' w' genv' al') g itself other
        (λ out w al. next tl out s' w al (omega (arith, le, lt')))))

    fields_as : (x k n : ℕ) (xs : List ℕ) (s : State) → IsValue p (length s.heap) (Con x xs)
        → nat_eq x k ≡ true → HasFields p k n → length xs ≡ n
    fields_as x k n xs s g e h = same_fields p k (length xs) n
        (subst (λ z. HasFields p z (length xs)) (eqb-true x k e) g.0) h

    -- the branches of a constructor, where it is told from Nil and Cons
    abbrev Chosen : ℕ → ℕ → Env → List ℕ → Value → Bool → Bool → World → grin.Answer
    Chosen b n genv xs v is_nil is_cons w =
        choose (cond is_nil (fits []) fits_not) w
        (λ bs. code (tr p) (calls (tr p) n) (with_vars bs genv) 0 (translation.nil_block p b)
        (with_state_seen (with_vars bs genv) w))
        (choose (cond is_cons (fields_fit (temp p b 1 ∷ temp p b 2 ∷ []) (map cell xs)) fits_not) w
        (λ bs. code (tr p) (calls (tr p) n) (with_vars bs genv) 0 (translation.pair_block p b)
        (with_state_seen (with_vars bs genv) w))
        (arms (tr p) (calls (tr p) n) genv 0 (node (value_node p v)) else_fail w))

    cons_match : (b n : ℕ) (genv : Env) (out : List ℕ) (x : ℕ) (xs : List ℕ) (s : State) (w : World)
        → Alike p out s w → IsValue p (length s.heap) (Con x xs) → (is_nil is_cons : Bool)
        → nat_eq x (nil p) ≡ is_nil → nat_eq x (cons p) ≡ is_cons → Next n
        → Agrees (Go n out (Con x xs) s) (Chosen b n genv xs (Con x xs) is_nil is_cons w)
    unfolding act
    cons_match b n genv out x [] s w al g true is_cons e f next
        = rw (e, value_made p 0 (Con (nil p) []) (ok.nil_fields, tt))
        (agrees_done out s _ _ (alike_passing p out s w genv al))
    cons_match b n genv out x [] s w al g false true e f next
        = absurd (let q = fields_as x (cons p) 2 [] s g f ok.cons_fields in omega (arith, q))
    cons_match b n genv out x [] s w al g false false e f next
        = rw e (agrees_unaccepted out s _ (alike_passing p out s w genv al))
    cons_match b n genv out x (h ∷ []) s w al g true is_cons e f next
        = absurd (let q = fields_as x (nil p) 0 (h ∷ []) s g e ok.nil_fields in omega (arith, q))
    cons_match b n genv out x (h ∷ []) s w al g false true e f next
        = absurd (let q = fields_as x (cons p) 2 (h ∷ []) s g f ok.cons_fields in omega (arith, q))
    cons_match b n genv out x (h ∷ []) s w al g false false e f next
        = agrees_unaccepted out s _ (alike_passing p out s w genv al)
    cons_match b n genv out x (h ∷ tl ∷ []) s w al g true is_cons e f next
        = absurd (let q = fields_as x (nil p) 0 (h ∷ tl ∷ []) s g e ok.nil_fields
        in omega (arith, q))
    cons_match b n genv out x (h ∷ tl ∷ []) s w al g false true e f next =
        let genv' : Env = with_vars
        (((temp p b 1).0, words (cell h ∷ [])) ∷ (((temp p b 2).0, words (cell tl ∷ [])) ∷ []))
        genv in
        let ne : (temp p b 1).0 ≢ (temp p b 2).0 = λ e. omega (arith, e) in
        let at : genv' (temp p b 1).0 ≡ Some (words (cell h ∷ []))
        = rw (
          eq_false (temp p b 1).0 (temp p b 2).0 ne,
          eq-eqb (temp p b 1).0 (temp p b 1).0 refl,
        ) refl in
        let at' : genv' (temp p b 2).0 ≡ Some (words (cell tl ∷ []))
        = rw (eq-eqb (temp p b 2).0 (temp p b 2).0 refl) refl in
        agrees_if (nat_eq x (cons p)) _ _ _ f
        (pair_match b n genv' out h tl s (with_state_seen genv' w)
        (alike_passing p out s w genv' al) g.1.0 g.1.1.0 at at' next)
    cons_match b n genv out x (h ∷ tl ∷ []) s w al g false false e f next
        = agrees_else (nat_eq x (cons p)) _ _ _ f
        (agrees_unaccepted out s _ (alike_passing p out s w genv al))
    cons_match b n genv out x (h ∷ tl ∷ u ∷ ys) s w al g true is_cons e f next
        = absurd (let q = fields_as x (nil p) 0 (h ∷ tl ∷ u ∷ ys) s g e ok.nil_fields
        in omega (arith, q))
    cons_match b n genv out x (h ∷ tl ∷ u ∷ ys) s w al g false true e f next
        = absurd (let q = fields_as x (cons p) 2 (h ∷ tl ∷ u ∷ ys) s g f ok.cons_fields
        in omega (arith, q))
    cons_match b n genv out x (h ∷ tl ∷ u ∷ ys) s w al g false false e f next
        = agrees_unaccepted out s _ (alike_passing p out s w genv al)

    list_match : (b n : ℕ) (genv : Env) (out : List ℕ) (v : Value) (s : State) (w : World)
        → Alike p out s w → IsValue p (length s.heap) v
        → genv (temp p b 0).0 ≡ Some (node (value_node p v)) → Next n
        → Agrees (Go n out v s) (code (tr p) (calls (tr p) n) genv 0 (translation.list_block p b) w)
    unfolding act
    list_match b n genv out (Int k) s w al g at next =
        rw (
          at,
          tags_tell p Number (Constructor (nil p)) (has_number p)
              (has_constructor p (nil p) 0 ok.nil_fields),
          tags_tell p Number (Constructor (cons p)) (has_number p)
              (has_constructor p (cons p) 2 ok.cons_fields),
        )
        (agrees_unaccepted out s _ (alike_passing p out s w genv al))
    list_match b n genv out (Part f xs) s w al g at next =
        rw (
          at,
          tags_tell p (value_kind p (Part f xs)) (Constructor (nil p))
              (kind_there p (length s.heap) (Part f xs) g)
              (has_constructor p (nil p) 0 ok.nil_fields),
          tags_tell p (value_kind p (Part f xs)) (Constructor (cons p))
              (kind_there p (length s.heap) (Part f xs) g)
              (has_constructor p (cons p) 2 ok.cons_fields),
        )
        (agrees_unaccepted out s _ (alike_passing p out s w genv al))
    list_match b n genv out (Con x xs) s w al g at next =
        rw (
          at,
          tags_tell p (Constructor x) (Constructor (nil p))
              (kind_there p (length s.heap) (Con x xs) g) (has_constructor p (nil p) 0 ok.nil_fields),
          tags_tell p (Constructor x) (Constructor (cons p))
              (kind_there p (length s.heap) (Con x xs) g)
              (has_constructor p (cons p) 2 ok.cons_fields),
        )
        (cons_match b n genv out x xs s w al g (nat_eq x (nil p)) (nat_eq x (cons p)) refl refl
        next)

    -- one turn of the loop, once the units that are left are known
    turn : (n l a : ℕ) (out : List ℕ) (s : State) (w : World) → Alike p out s w → a < length s.heap
        → Next n
        → Agrees (on_value (spend_of l 0 s (force p (within p n) a 1)) out (Go n out))
        (run'.spend l w
        (λ m. need (slice_get (tr p).procs (translation.print p).0) w
        (λ q. need (one_each q.params (cell a ∷ [])) w
        (λ bs. code (tr p) (calls (tr p) n) (with_vars bs (λ y. None)) 0 q.body
        (with_state_seen (with_vars bs (λ y. None)) (spent (translation.print p).0 0 m w))))))
    unfolding act
    turn n zero a out s w al lt next = agrees_going out s w al
    turn n (suc m) a out s w al lt next =
        let b : ℕ = rest p in
        let s1 : State = record s { left = m; depth = max s.depth 0 } in
        let genv : Env = with_vars (((local p b 0).0, words (cell a ∷ [])) ∷ []) (λ y. None) in
        let w1 : World = with_state_seen genv (spent (translation.print p).0 0 m w) in
        let al1 : Alike p out s1 w1 = alike_passing p out s1 (spent (translation.print p).0 0 m w)
        genv (alike_spent p out s w (translation.print p).0 0 m al) in
        rw (print_found, eq-eqb (local p b 0).0 (local p b 0).0 refl)
        (agrees_then (Go n out) _
        (force_match p (within p n) (calls (tr p) n) (calls_match p ok n) a 1 out s1 w1 al1 lt)
        (λ v s' w' le g al'.
        let genv' : Env = with_vars (((temp p b 0).0, node (value_node p v)) ∷ []) genv in
        let itself : genv' (temp p b 0).0 ≡ Some (node (value_node p v))
        = rw (eq-eqb (temp p b 0).0 (temp p b 0).0 refl) refl in
        list_match b n genv' out v s' (with_state_seen genv' w')
        (alike_passing p out s' w' genv' al') g itself next))

    print_match : (n : ℕ) → Next n
    unfolding calls Next
    print_match zero = λ a out s w al lt. agrees_going out s w al
    print_match (suc n) = λ a out s w al lt.
        subst (λ l. Agrees (print p (suc n) a out s)
        (run'.spend l w
        (λ m. need (slice_get (tr p).procs (translation.print p).0) w
        (λ q. need (one_each q.params (cell a ∷ [])) w
        (λ bs. code (tr p) (calls (tr p) n) (with_vars bs (λ y. None)) 0 q.body
        (with_state_seen (with_vars bs (λ y. None)) (spent (translation.print p).0 0 m w)))))))
        (sym al.left)
        (turn n s.left a out s w al lt (print_match n))

  -- ---- the start

  heaps_start : (gs : List Function) (f n : ℕ) →
      ((i : ℕ) (g : Function) → slice_get gs i ≡ Some g → slice_get p.funs (f + i) ≡ Some g)
      → Heaps p n (globals p gs f)
      (map (λ c. record { site = c.site.0; node = record { tag = c.tag.0; fields = [] } })
      (global_cells p gs f))
  heaps_start [] f n h = tt
  heaps_start (g ∷ gs) f n h =
      let z : f + 0 ≡ f = omega arith in
      by_test (nat_eq g.params 0) refl (subst (λ k. slice_get p.funs k ≡ Some g) z (h 0 g refl))
      (heaps_start gs (suc f) n
      (λ i x e. let q : f + suc i ≡ suc f + i = omega arith
      in subst (λ k. slice_get p.funs k ≡ Some x) q (h (suc i) x e)))
    where
      by_test : (b : Bool) → nat_eq g.params 0 ≡ b → slice_get p.funs f ≡ Some g
          → Heaps p n (globals p gs (suc f))
          (map (λ c. record { site = c.site.0; node = record { tag = c.tag.0; fields = [] } })
          (global_cells p gs (suc f)))
          → Heaps p n (cond b (Waiting (Global f) ∷ []) [] ++ globals p gs (suc f))
          (map (λ c. record { site = c.site.0; node = record { tag = c.tag.0; fields = [] } })
          (cond b (record
          { name = g.name; site = record { 0 = f }; tag = tag p (Waits (CallsOf f)) } ∷ []) []
          ++ global_cells p gs (suc f)))
      by_test true e is k = (refl, (g, is, eqb-true g.params 0 e), k)
      by_test false e is k = k

  alike_start : (i : List ℕ) (n : ℕ) → Alike p [] (start p i n) (start_world (tr p) i n)
  alike_start i n = record {
    heaps = heaps_start p.funs 0 (length (globals p p.funs 0))
        (λ j g e. let z : 0 + j ≡ j = omega arith in rw z e);
    room = omega arith;
    left = refl;
    depth = refl;
    input = refl;
    used = refl;
    written = refl;
  }

  module _ (ok : WellFormed p) where
    main_params : params p p.main ≡ ok.main.0.params
    main_params = params_are p p.main ok.main.0 ok.main.1

    -- the start's store, and then the printing loop
    started : (b n : ℕ) (i : List ℕ) (w : World) → takes_input p ≡ true → params p p.main ≡ 1
        → Alike p [] (start p i n) w → Agrees (printed_from_input p i (suc n))
        (code (tr p) (calls (tr p) n) (λ y. None) 0 (start_body p b) w)
    unfolding act Next
    started b n i w reads one al =
        let s : State = start p i n in
        let a : ℕ = length s.heap in
        let more : Heap = Waiting Input ∷ Waiting (Call p.main (a ∷ [])) ∷ [] in
        let s' : State = append s more in
        let long : length s'.heap ≡ suc (suc a) = omega (arith, length-append s.heap more) in
        let apart : (local p b 0).0 ≢ (local p b 1).0 = λ e. omega (arith, e) in
        let is_one : ok.main.0.params ≡ 1 = sym main_params ∙ one in
        rw (
          heaps_long p (length s.heap) s.heap w.cells al.heaps,
          delayed_made p 0 Input (has_reads p reads),
          eq_false (local p b 0).0 (local p b 1).0 apart,
          eq-eqb (local p b 0).0 (local p b 0).0 refl,
          delayed_made p (suc a) (Call p.main (a ∷ []))
              ((ok.main.0, ok.main.1, is_one), (omega arith, tt)),
          eq-eqb (local p b 1).0 (local p b 1).0 refl,
        )
        (print_match ok n (suc a) [] s' _
        (alike_passing p [] s' _ _
        (alike_append p [] s w more
        (record {
          site = (local p b 0).0;
          node = record
              { tag = (tag p (Waits Reads)).0; fields = [] };
        } ∷
        (record {
          site = (local p b 1).0;
          node = record
              { tag = (tag p (Waits (CallsOf p.main))).0; fields = cell a ∷ [] };
        } ∷ [])) al
        (refl, has_reads p reads, (refl, ((ok.main.0, ok.main.1, is_one), (omega arith, tt)), tt))))
        (omega (arith, long)))

    from_input : (n : ℕ) (i : List ℕ) → takes_input p ≡ true → params p p.main ≡ 1
        → Agrees (printed_from_input p i n)
        (calls (tr p) n (suc (length (delays p))) [] 0 (start_world (tr p) i n))
    unfolding calls
    from_input zero i reads one = agrees_going [] (start p i 0) (start_world (tr p) i 0)
        (alike_start i 0)
    from_input (suc n) i reads one =
        rw (start_found reads)
        (started (rest p + 10) n i _ reads one
        (alike_passing p [] (start p i n) _ _
        (alike_spent p [] (start p i (suc n)) (start_world (tr p) i (suc n))
        (suc (length (delays p))) 0 n (alike_start i (suc n)))))

    takes_input_is : takes_input p ≡ not (nat_eq (params p p.main) 0)
    unfolding takes_input
    takes_input_is = refl

    -- the run, where it is known whether main takes the input
    abbrev Runs : Bool → List ℕ → ℕ → grin.Answer
    Runs b i n = calls (tr p) n (cond b (suc (length (delays p))) (translation.print p).0)
        (run'.start_words (cond b None (Some (global p p.main)))) 0 (start_world (tr p) i n)

    run_is : (b : Bool) → takes_input p ≡ b → (i : List ℕ) (n : ℕ) → run (tr p) i n ≡ Runs b i n
    unfolding run
    run_is b e i n = ap
        (λ b. calls (tr p) n
        (cond b (record { 0 = suc (length (delays p)) }) (translation.print p)).0
        (run'.start_words (cond b None (Some (global p p.main)))) 0 (start_world (tr p) i n)) e ∙
        by_case b
      where
        by_case : (b : Bool) → calls (tr p) n
            (cond b (record { 0 = suc (length (delays p)) }) (translation.print p)).0
            (run'.start_words (cond b None (Some (global p p.main)))) 0 (start_world (tr p) i n) ≡
            Runs b i n
        by_case true = refl
        by_case false = refl

    run_match : (b : Bool) → nat_eq (params p p.main) 0 ≡ b → (i : List ℕ) (n : ℕ)
        → Agrees (elim b
        [ true ↦ print p n (global p p.main) [] (start p i n) | false ↦ printed_from_input p i n ])
        (Runs (not b) i n)
    unfolding Next
    run_match true e i n =
        let none : params p p.main ≡ 0 = eqb-true (params p p.main) 0 e in
        print_match ok n (global p p.main) [] (start p i n) (start_world (tr p) i n)
        (alike_start i n) (global_below p p.main (ok.main.0, ok.main.1, sym main_params ∙ none))
    run_match false e i n =
        let some : params p p.main ≢ 0 = λ z. not_both _ (eq-eqb (params p p.main) 0 z) e in
        let one : params p p.main ≡ 1 = omega (arith, some, ok.main.2, main_params) in
        from_input n i (takes_input_is ∙ ap not e) one

    agrees : (i : List ℕ) (n : ℕ) → Agrees (printed p i n) (run (tr p) i n)
    agrees i n = subst (Agrees (printed p i n))
        (sym (run_is (not (nat_eq (params p p.main) 0)) takes_input_is i n))
        (run_match (nat_eq (params p p.main) 0) refl i n)

pub translation_does_as : TranslationPreservesRuns
translation_does_as p ok i n =
    let a : Agrees (printed p i n) (run (tr p) i n) = agrees p ok i n in
    record {
      same_out = a.out;
      same_end = a.end;
      same_used = a.used;
      no_more_cells = omega (arith, a.cells);
      no_deeper = omega (arith, a.depth);
    }
