-- The steps that an evaluation by need makes in the heap: a name for every value, and the next
-- byte.
use Rattle.std.proofs.Common.{◌≡◌, ◌≢◌, ℕ, zero, suc, ◌+◌, ◌<◌, Bool, true, false, List, [], ◌∷◌, ◌++◌, length, Some, refl, ap, sym, ◌∙◌, subst, arith, eqb-true, inl, inr, slice_get, length-append}
use Rattle.std.specs.Prelude.{◌⊎◌, ◌==◌, ℤ, pos, if◌then◌else◌}
use Rattle.std.proofs.lemmas.Bool.{eq-eqb}
use Rattle.std.proofs.lemmas.List.{length-set}
use Rattle.std.proofs.lemmas.Option.{slice_get_within, same_Some}
use Rattle.arity_check.specs.Program.{Program}
use Rattle.core_meaning.specs.Heap.{Value, Int, Con, Delayed, Prim, Input, Binding, Known, Waiting, Heap, Env, with_local, with_locals}
use Rattle.core_meaning.specs.Evaluation.{is_con, is_int, fields_of, cons}
use Rattle.core_meaning.specs.WellFormed.{InLocals, HasFields, WellFormed}
use Rattle.natural_semantics.specs.World.{World, extended, updated, after_byte}
use Rattle.natural_semantics.specs.ByName.{Meant, Number, Built, Rest, Meants, Few, And, Sense, with_meant, with_meants, is_built, parts_of, is_number, Means, ANumber, Byte}
use Rattle.natural_semantics.proofs.by_name.Related.{get_set, get_other, Rel, Each, NoneLeft, Both, Same, SameNumber, SameCon, SamePart, Delays, DelaysInput, same_more, delays_more, value_means, Fits, Grows}
use Rattle.natural_semantics.proofs.by_name.Named.{get_append, value_in, delayed_in, input_is, input_rest, delays_of_others, Knows}

-- ---- branches

module _ (p : Program) where
  pub with_fields : (R : Rel) (env : Env) (s : Sense) (S : ℕ → Type 0) → Knows p R S env s
      → (ys xs : List ℕ) (ms : Meants) → Each R ys ms → length ys ≡ length xs
      → (x : ℕ) → S x ⊎ InLocals xs x → R (with_locals env xs ys x) (with_meants s xs ms x)
  with_fields R env s S e ys [] ms h l x (inl i) = e x i
  with_fields R env s S e ys [] ms h l x (inr i) = absurd i
  with_fields R env s S e [] (x ∷ xs) ms h l y i = absurd (omega (arith, l))
  with_fields R env s S e (a ∷ ys) (x ∷ xs) ms (Both {m = m} {ms = ns} r h) l y i =
      with_fields R (with_local env x a) (with_meant s x m) (λ z. S z ⊎ (z ≡ x))
      (λ z j. one z j (z == x) refl) ys xs ns h (omega (arith, l)) y (moved i)
    where
      one : (z : ℕ) → S z ⊎ (z ≡ x) → (b : Bool) → (z == x) ≡ b
          → R (if z == x then a else env z) (if z == x then m else s z)
      one z j true q = subst (λ b. R (if b then a else env z) (if b then m else s z)) (sym q) r
      one z (inl j) false q =
          subst (λ b. R (if b then a else env z) (if b then m else s z)) (sym q) (e z j)
      one z (inr j) false q = absurd (let w : true ≡ false = sym (eq-eqb z x j) ∙ q in cc)

      moved : S y ⊎ ((y ≡ x) ⊎ InLocals xs y) → (S y ⊎ (y ≡ x)) ⊎ InLocals xs y
      moved (inl j) = inl (inl j)
      moved (inr (inl j)) = inl (inr j)
      moved (inr (inr j)) = inr j

  pub same_con : (R : Rel) (c : ℕ) (v : Value) (u : Meant) → Same p R v u
      → is_con c v ≡ is_built c u
  same_con R c v u SameNumber = refl
  same_con R c v u (SameCon f e) = refl
  same_con R c v u (SamePart f e) = refl

  pub same_int : (R : Rel) (k : ℤ) (v : Value) (u : Meant) → Same p R v u
      → is_int k v ≡ is_number k u
  same_int R k v u SameNumber = refl
  same_int R k v u (SameCon f e) = refl
  same_int R k v u (SamePart f e) = refl

  -- the fields of a constructor that a branch accepts
  pub fields_known : (R : Rel) (c : ℕ) (xs : List ℕ) (v : Value) (u : Meant) → Same p R v u
      → is_con c v ≡ true → HasFields p c (length xs)
      → Each R (fields_of v) (parts_of u) × (length (fields_of v) ≡ length xs)
  fields_known R c xs v u SameNumber i h = absurd cc
  fields_known R c xs v u (SamePart f e) i h = absurd cc
  fields_known R c xs v u (SameCon {c = d} {xs = ys} f e) i h =
      let same : d ≡ c = eqb-true d c i in
      let con : f.0 ≡ h.0 = same_Some f.0 h.0
      (sym f.1 ∙ ap (λ n. slice_get p.cons n) same ∙ h.1) in
      (e, sym f.2 ∙ ap (λ con. con.fields) con ∙ h.2)

  -- ---- a name for every value

  module _ (w : World) (R : Rel) (fits : Fits p R w) (v : Value) where
    abbrev pub valued : Rel
    valued a m = R a m ⊎ ((a ≡ length w.heap) × Same p R v m)

    valued_old : (a : ℕ) (m : Meant) → a < length w.heap → valued a m → R a m
    valued_old a m lt (inl r) = r
    valued_old a m lt (inr h) = let q = h.0 in absurd (omega (arith, lt, q))

    valued_there : (a : ℕ) (m : Meant) → valued a m → a < length (w.heap ++ Known v ∷ [])
    valued_there a m (inl r) =
        let e = length-append w.heap (Known v ∷ []) in
        let lt = fits.there a m r in omega (arith, e, lt)
    valued_there a m (inr h) =
        let e = length-append w.heap (Known v ∷ []) in let q = h.0 in omega (arith, e, q)

    valued_up : (x : Value) (u : Meant) → Same p R x u → Same p valued x u
    valued_up x u s = same_more p R valued (λ b n q. inl q) x u s

    last_is : (k : ℕ) (b : Binding) → slice_get (Known v ∷ []) k ≡ Some b → Known v ≡ b
    last_is zero b q = same_Some (Known v) b q
    last_is (suc zero) b q = absurd cc
    last_is (suc (suc k)) b q = absurd cc

    valued_known : (a : ℕ) (m : Meant) (x : Value) → valued a m
        → (slice_get w.heap a ≡ Some (Known x)) ⊎ ((k : ℕ) × ((a ≡ length w.heap + k)
        × (slice_get (Known v ∷ []) k ≡ Some (Known x))))
        → (u : Meant) × (Means p m u × Same p valued x u)
    valued_known a m x (inl r) (inl e) =
        let f = fits.known a m x r e in (f.0, (f.1.0, valued_up x f.0 f.1.1))
    valued_known a m x (inl r) (inr e) =
        let lt = fits.there a m r in let q = e.1.0 in absurd (omega (arith, lt, q))
    valued_known a m x (inr h) (inl e) =
        let lt = slice_get_within w.heap a (Known x) e in
        let q = h.0 in absurd (omega (arith, lt, q))
    valued_known a m x (inr h) (inr e) =
        let is : v ≡ x = ap (value_in x) (last_is e.0 (Known x) e.1.1) in
        (m, (value_means p R v m h.1, subst (λ y. Same p valued y m) is (valued_up v m h.1)))

    valued_still : (a : ℕ) (t : Delayed)
        → (slice_get w.heap a ≡ Some (Waiting t)) ⊎ ((k : ℕ) × ((a ≡ length w.heap + k)
        × (slice_get (Known v ∷ []) k ≡ Some (Waiting t))))
        → slice_get w.heap a ≡ Some (Waiting t)
    valued_still a t (inl e) = e
    valued_still a t (inr e) =
        let z : Known v ≡ Waiting t = last_is e.0 (Waiting t) e.1.1 in cc

    valued_waits : (a : ℕ) (m : Meant) (t : Delayed) → valued a m
        → slice_get w.heap a ≡ Some (Waiting t) → Delays p valued w.input t m
    valued_waits a m t (inl r) e =
        delays_more p R valued (λ b n q. inl q) w.input t m (fits.waits a m t r e)
    valued_waits a m t (inr h) e =
        let lt = slice_get_within w.heap a (Waiting t) e in
        let q = h.0 in absurd (omega (arith, lt, q))

    pub value_grows : Grows p R w valued (extended w (Known v ∷ []))
    value_grows = record {
      more = λ a m r. inl r;
      old = valued_old;
      longer = let e = length-append w.heap (Known v ∷ []) in omega (arith, e);
      fits = record {
        there = valued_there;
        known = λ a m x r e.
            valued_known a m x r (get_append w.heap (Known v ∷ []) a (Known x) e);
        waits = λ a m t r e.
            valued_waits a m t r
            (valued_still a t (get_append w.heap (Known v ∷ []) a (Waiting t) e));
        shared = λ f c. inl (fits.shared f c);
        one_input = λ a b e f. fits.one_input a b
            (valued_still a Input (get_append w.heap (Known v ∷ []) a (Waiting Input) e))
            (valued_still b Input (get_append w.heap (Known v ∷ []) b (Waiting Input) f));
      };
    }

  -- ---- the next byte

  module _ (ok : WellFormed p) (w : World) (R : Rel) (fits : Fits p R w) (a k : ℕ) (rest : List ℕ)
      (i : w.input ≡ k ∷ rest) (here : slice_get w.heap a ≡ Some (Waiting Input)) where
    abbrev given : Value
    given = Con (cons p) (length w.heap ∷ (suc (length w.heap) ∷ []))

    abbrev two : Heap
    two = Known (Int (pos k)) ∷ (Waiting Input ∷ [])

    abbrev read : World
    read = updated (after_byte w k rest) a given

    abbrev pub byted : Rel
    byted b m = R b m ⊎ (((b ≡ length w.heap) × (Number (pos k) ≡ m))
        ⊎ ((b ≡ suc (length w.heap)) × (Rest rest ≡ m)))

    data Cell (b : ℕ) (x : Binding) : Type 0 where
      ItsValue : b ≡ a → Known given ≡ x → Cell b x
      OldOne : b ≢ a → slice_get w.heap b ≡ Some x → Cell b x
      TheByte : b ≡ length w.heap → Known (Int (pos k)) ≡ x → Cell b x
      TheRest : b ≡ suc (length w.heap) → Waiting Input ≡ x → Cell b x

    a_there : a < length w.heap
    a_there = slice_get_within w.heap a (Waiting Input) here

    a_in_all : a < length (w.heap ++ two)
    a_in_all = let e = length-append w.heap two in let lt = a_there in omega (arith, e, lt)

    new_cell : (b : ℕ) (x : Binding) (j : ℕ) → b ≡ length w.heap + j
        → slice_get two j ≡ Some x → Cell b x
    new_cell b x zero q e = TheByte (omega (arith, q)) (same_Some (Known (Int (pos k))) x e)
    new_cell b x (suc zero) q e = TheRest (omega (arith, q)) (same_Some (Waiting Input) x e)
    new_cell b x (suc (suc zero)) q e = absurd cc
    new_cell b x (suc (suc (suc j))) q e = absurd cc

    other_cell : (b : ℕ) (x : Binding) → b ≢ a
        → (slice_get w.heap b ≡ Some x)
        ⊎ ((j : ℕ) × ((b ≡ length w.heap + j) × (slice_get two j ≡ Some x))) → Cell b x
    other_cell b x n (inl e) = OldOne n e
    other_cell b x n (inr e) = new_cell b x e.0 e.1.0 e.1.1

    cell : (b : ℕ) (x : Binding) → slice_get read.heap b ≡ Some x → (l : Bool) → (b == a) ≡ l
        → Cell b x
    cell b x e true q =
        let same : b ≡ a = eqb-true b a q in
        ItsValue same (same_Some (Known given) x
        (sym (get_set (w.heap ++ two) a (Known given) a_in_all)
        ∙ ap (λ n. slice_get read.heap n) (sym same) ∙ e))
    cell b x e false q =
        let n : b ≢ a = λ s. let z : true ≡ false = sym (eq-eqb b a s) ∙ q in cc in
        other_cell b x n (get_append w.heap two b x
        (sym (get_other (w.heap ++ two) a b (Known given) n) ∙ e))

    byted_up : (x : Value) (u : Meant) → Same p R x u → Same p byted x u
    byted_up x u s = same_more p R byted (λ b n q. inl q) x u s

    byted_old : (b : ℕ) (m : Meant) → b < length w.heap → byted b m → R b m
    byted_old b m lt (inl r) = r
    byted_old b m lt (inr (inl h)) = let q = h.0 in absurd (omega (arith, lt, q))
    byted_old b m lt (inr (inr h)) = let q = h.0 in absurd (omega (arith, lt, q))

    longer_by_two : length read.heap ≡ length w.heap + 2
    longer_by_two =
        length-set (w.heap ++ two) a (Known given) ∙ length-append w.heap two

    byted_there : (b : ℕ) (m : Meant) → byted b m → b < length read.heap
    byted_there b m (inl r) =
        let e = longer_by_two in let lt = fits.there b m r in omega (arith, e, lt)
    byted_there b m (inr (inl h)) = let e = longer_by_two in let q = h.0 in omega (arith, e, q)
    byted_there b m (inr (inr h)) = let e = longer_by_two in let q = h.0 in omega (arith, e, q)

    -- the list of the bytes, by name
    abbrev byte_list : Meant
    byte_list = Built (cons p) (And (Number (pos k)) (And (Rest rest) Few))

    read_means : (m : Meant) → R a m → Means p m
        byte_list
    read_means m r =
        subst (λ n. Means p n byte_list)
        (input_rest p w.input m (input_is p R w.input Input m (fits.waits a m Input r here) refl))
        (subst (λ j. Means p (Rest j) byte_list)
        (sym i) Byte)

    read_same : Same p byted given byte_list
    read_same = SameCon ok.cons_fields
        (Both (inr (inl (refl, refl))) (Both (inr (inr (refl, refl))) NoneLeft))

    byted_known : (b : ℕ) (m : Meant) (x : Value) → byted b m → Cell b (Known x)
        → (u : Meant) × (Means p m u × Same p byted x u)
    byted_known b m x r (ItsValue q e) =
        let lt = a_there in
        let r' : R b m = byted_old b m (omega (arith, lt, q)) r in (
          byte_list,
          (
            read_means m (subst (λ n. R n m) q r'),
            subst (λ y. Same p byted y byte_list)
                (ap (value_in x) e) read_same,
          ),
        )
    byted_known b m x r (OldOne n e) =
        let lt = slice_get_within w.heap b (Known x) e in
        let f = fits.known b m x (byted_old b m lt r) e in (f.0, (f.1.0, byted_up x f.0 f.1.1))
    byted_known b m x (inl r) (TheByte q e) =
        let lt = fits.there b m r in absurd (omega (arith, lt, q))
    byted_known b m x (inr (inl h)) (TheByte q e) =
        subst (λ n. (u : Meant) × (Means p n u × Same p byted x u)) h.1 (
          Number (pos k),
          (
            ANumber,
            subst (λ y. Same p byted y (Number (pos k))) (ap (value_in x) e) SameNumber,
          ),
        )
    byted_known b m x (inr (inr h)) (TheByte q e) =
        let q' = h.0 in absurd (omega (arith, q, q'))
    byted_known b m x r (TheRest q e) = absurd cc

    byted_waits : (b : ℕ) (m : Meant) (t : Delayed) → byted b m → Cell b (Waiting t)
        → Delays p byted rest t m
    byted_waits b m t r (ItsValue q e) = absurd cc
    byted_waits b m t r (OldOne n e) =
        let lt = slice_get_within w.heap b (Waiting t) e in
        delays_of_others p byted w.input rest t m
        (λ s. n (fits.one_input b a (subst (λ y. slice_get w.heap b ≡ Some (Waiting y)) s e) here))
        (delays_more p R byted (λ c o q. inl q) w.input t m
        (fits.waits b m t (byted_old b m lt r) e))
    byted_waits b m t r (TheByte q e) = absurd cc
    byted_waits b m t (inl r) (TheRest q e) =
        let lt = fits.there b m r in absurd (omega (arith, lt, q))
    byted_waits b m t (inr (inl h)) (TheRest q e) =
        let q' = h.0 in absurd (omega (arith, q, q'))
    byted_waits b m t (inr (inr h)) (TheRest q e) =
        subst (λ y. Delays p byted rest y m) (ap (delayed_in t) e)
        (subst (λ n. Delays p byted rest Input n) h.1 DelaysInput)

    rest_is_input : (b : ℕ) → Cell b (Waiting Input) → b ≡ suc (length w.heap)
    rest_is_input b (ItsValue q e) = absurd cc
    rest_is_input b (OldOne n e) = absurd (n (fits.one_input b a e here))
    rest_is_input b (TheByte q e) = absurd cc
    rest_is_input b (TheRest q e) = q

    pub byte_grows : Grows p R w byted read
    byte_grows = record {
      more = λ b m r. inl r;
      old = byted_old;
      longer = let e = longer_by_two in omega (arith, e);
      fits = record {
        there = byted_there;
        known = λ b m x r e. byted_known b m x r (cell b (Known x) e (b == a) refl);
        waits = λ b m t r e. byted_waits b m t r (cell b (Waiting t) e (b == a) refl);
        shared = λ f c. inl (fits.shared f c);
        one_input = λ b c e f.
            rest_is_input b (cell b (Waiting Input) e (b == a) refl)
            ∙ sym (rest_is_input c (cell c (Waiting Input) f (c == a) refl));
      };
    }

    pub read_gives : (m : Meant) → R a m
        → (u : Meant) × (Means p m u × Same p byted given u)
    read_gives m r = (byte_list, (read_means m r, read_same))
