-- An ascending list without repeats is known by its members.
use Rattle.std.proofs.Common.{◌≡◌, ◌≢◌, ℕ, ◌<◌, ◌≤◌, suc, Bool, true, false, cond, List, [], ◌∷◌, refl, sym, ◌∙◌, subst, inl, inr, ⊎_elim, arith}
use Rattle.std.specs.Prelude.{◌⊎◌, nat_eq, nat_lt}
use Rattle.std.specs.List.Sorted.{IsStrictlyIncreasing}
use Rattle.seq.specs.Lists.{In, here, there}
use Rattle.seq.proofs.Member.{none_in, cons_in}
use Rattle.seq.proofs.Order.{eq_from, differs_from, lt_from, le_from}
use Rattle.seq.proofs.Those.{Ascends, ascends}
use Rattle.flow_listing.specs.Ascending.{inserted_ascending, ascending}

-- ---- members

pub put_has : (x n : ℕ) (ms : List ℕ) → (x ≡ n) ⊎ In x ms → In x (inserted_ascending n ms)
put_has x n [] (inl e) = subst (λ m. In x (m ∷ [])) e here
put_has x n [] (inr h) = none_in h
put_has x n (m ∷ ms) h = go (nat_lt n m) (nat_eq n m) refl (λ k. put_has x n ms k)
  where
    go : (b c : Bool) → nat_eq n m ≡ c → ((x ≡ n) ⊎ In x ms → In x (inserted_ascending n ms))
        → In x (cond b (n ∷ m ∷ ms) (cond c (m ∷ ms) (m ∷ inserted_ascending n ms)))
    go true c q later = ⊎_elim (λ e. subst (λ k. In x (k ∷ m ∷ ms)) e here) (λ i. there i) h
    go false true q later = ⊎_elim (λ e. subst (λ k. In x (k ∷ ms)) (e ∙ eq_from n m q) here)
        (λ i. i) h
    go false false q later = ⊎_elim (λ e. there (later (inl e)))
        (λ i. ⊎_elim (λ e. subst (λ k. In x (k ∷ inserted_ascending n ms)) e here)
        (λ j. there (later (inr j))) (cons_in m ms i)) h

pub put_only : (x n : ℕ) (ms : List ℕ) → In x (inserted_ascending n ms) → (x ≡ n) ⊎ In x ms
put_only x n [] h = cons_in n [] h
put_only x n (m ∷ ms) h = go (nat_lt n m) (nat_eq n m) (λ k. put_only x n ms k) h
  where
    go : (b c : Bool) → (In x (inserted_ascending n ms) → (x ≡ n) ⊎ In x ms)
        → In x (cond b (n ∷ m ∷ ms) (cond c (m ∷ ms) (m ∷ inserted_ascending n ms))) → (x ≡ n)
        ⊎ In x (m ∷ ms)
    go true c later i = cons_in n (m ∷ ms) i
    go false true later i = inr i
    go false false later i = ⊎_elim (λ e. inr (subst (λ k. In x (k ∷ ms)) e here))
        (λ j. ⊎_elim (λ e. inl e) (λ k. inr (there k)) (later j))
        (cons_in m (inserted_ascending n ms) i)

pub has : (x : ℕ) (ns : List ℕ) → In x ns → In x (ascending ns)
has x [] h = none_in h
has x (n ∷ ns) h = put_has x n (ascending ns)
    (⊎_elim (λ e. inl e) (λ i. inr (has x ns i)) (cons_in n ns h))

pub only : (x : ℕ) (ns : List ℕ) → In x (ascending ns) → In x ns
only x [] h = none_in h
only x (n ∷ ns) h = ⊎_elim (λ e. subst (λ k. In x (k ∷ ns)) e here) (λ i. there (only x ns i))
    (put_only x n (ascending ns) h)

-- ---- order

above : (n m : ℕ) → m ≤ n → n ≢ m → suc m ≤ n
above n m ge ne = grind (arith, ge, ne)

just_above : (n m : ℕ) → n < m → suc n ≤ m
just_above n m lt = omega (arith, lt)

pub put_ascends : (i n : ℕ) (ms : List ℕ) → i ≤ n → Ascends i ms
    → Ascends i (inserted_ascending n ms)
put_ascends i n [] le a = (le, tt)
put_ascends i n (m ∷ ms) le a = go (nat_lt n m) refl (nat_eq n m) refl
    (λ l. put_ascends (suc m) n ms l a.1)
  where
    go : (b : Bool) → nat_lt n m ≡ b → (c : Bool) → nat_eq n m ≡ c
        → (suc m ≤ n → Ascends (suc m) (inserted_ascending n ms))
        → Ascends i (cond b (n ∷ m ∷ ms) (cond c (m ∷ ms) (m ∷ inserted_ascending n ms)))
    go true p c q later = (le, (just_above n m (lt_from n m p), a.1))
    go false p true q later = a
    go false p false q later = (a.0, later (above n m (le_from n m p) (differs_from n m q)))

pub ascending_ascends : (ns : List ℕ) → Ascends 0 (ascending ns)
ascending_ascends [] = tt
ascending_ascends (n ∷ ns) = put_ascends 0 n (ascending ns) (omega arith) (ascending_ascends ns)

at_least : (i : ℕ) (ts : List ℕ) (t : ℕ) → Ascends i ts → In t ts → i ≤ t
at_least i [] t a h = none_in h
at_least i (x ∷ ts) t a here = a.0
at_least i (x ∷ ts) t a (there h) = let le : suc x ≤ t = at_least (suc x) ts t a.1 h
    in omega (arith, a.0)

-- two with the same members
pub same_list : (i : ℕ) (xs ys : List ℕ) → Ascends i xs → Ascends i ys
    → ((n : ℕ) → In n xs → In n ys) → ((n : ℕ) → In n ys → In n xs) → xs ≡ ys
same_list i [] [] a b to from = refl
same_list i [] (y ∷ ys) a b to from = none_in (from y here)
same_list i (x ∷ xs) [] a b to from = none_in (to x here)
same_list i (x ∷ xs) (y ∷ ys) a b to from =
    let e : x ≡ y = first (cons_in y ys (to x here)) (cons_in x xs (from y here)) in
    let b' : Ascends (suc x) ys = subst (λ k. Ascends (suc k) ys) (sym e) b.1 in
    (λ j. e j ∷ same_list (suc x) xs ys a.1 b'
    (λ n h. later n x ys (at_least (suc x) xs n a.1 h)
    (subst (λ k. In n (k ∷ ys)) (sym e) (to n (there h))))
    (λ n h. later n x xs (at_least (suc x) ys n b' h) (from n (there h))) j)
  where
    first : (x ≡ y) ⊎ In x ys → (y ≡ x) ⊎ In y xs → x ≡ y
    first (inl e) r = e
    first (inr h) (inl e) = sym e
    first (inr h) (inr k) = let p : suc y ≤ x = at_least (suc y) ys x b.1 h in let q : suc x ≤ y
        = at_least (suc x) xs y a.1 k in absurd (omega arith)

    later : (n x : ℕ) (zs : List ℕ) → suc x ≤ n → In n (x ∷ zs) → In n zs
    later n x zs le h = ⊎_elim (λ e. absurd (omega (arith, e, le))) (λ i. i) (cons_in x zs h)

pub is_ascending : (ns xs : List ℕ) → IsStrictlyIncreasing ns → ((n : ℕ) → In n ns → In n xs)
    → ((n : ℕ) → In n xs → In n ns) → ns ≡ ascending xs
is_ascending ns xs o to from = same_list 0 ns (ascending xs) (ascends ns o) (ascending_ascends xs)
    (λ n h. has n xs (to n h)) (λ n h. from n (only n xs h))
