-- The order of moves, and the set of those still to be done.
use Rattle.std.proofs.Common.{◌≡◌, ◌≢◌, ℕ, ◌+◌, ◌<◌, Bool, true, false, cond, List, [], ◌∷◌, ◌++◌, length, drop, get_or, refl, sym, ap, ◌∙◌, subst, ◌⊎◌, inl, inr, arith, rules, append_assoc, length-append, drop-cons, add-one, Option, None, Some, Bor, MatchOption}
use Rattle.std.proofs.lemmas.Bool.Decides.{nat_tests}
use Rattle.std.proofs.lemmas.Grind.{common_steps}
use Rattle.std.specs.Prelude.{◌||◌, ◌&&◌, not}
use Rattle.std.specs.declared.cmp.Ordering.{Ordering}
use Rattle.std.specs.declared.cmp.Ordering.TheVariants.{Less, Equal, Greater}
use Rattle.std.specs.declared.ops.Bound.TheVariants.{Included}
use Rattle.std.specs.Ordering.{is_eq, is_le, is_lt, ordering_then, match_ordering}
use Rattle.std.specs.List.{filter}
use Rattle.std.specs.Option.{option_copied}
use Rattle.std.specs.BTreeMap.{is_at}
use Rattle.std.specs.BTreeMap.Range.{range_contains}
use Rattle.std.specs.BTreeSet.{insert_key}
use Rattle.std.specs.Set.{remove_key}
use Rattle.parallel_move.specs.contracts.SpotOrd.TheImpl as spots
use Rattle.parallel_move.specs.contracts.MoveOrd.TheImpl as moves_by
use Rattle.parallel_move.specs.declared.Spot.{Spot}
use Rattle.parallel_move.specs.declared.Spot.TheVariants.{Reg, Slot, Scratch}
use Rattle.parallel_move.specs.declared.Move.{Move}
use Rattle.parallel_move.specs.Moves.{same, source_spot, is_target, is_source, DistinctTargets, NoScratch, AllMoveEnds, IsReordered, IsMoveRemoved}
use Rattle.parallel_move.proofs.Origins.{same_true, same_itself, decide}
use Rattle.parallel_move.proofs.Snoc.{distinct_front, ends_middle, ends_again}
use Rattle.parallel_move.proofs.Paths.{no_target_append, both_targets, distinct_end, origin_end, clean_middle, append_nil}

abbrev spot_order : Spot → Spot → Ordering
spot_order = spots.cmp-value.it

abbrev move_order : Move → Move → Ordering
move_order = moves_by.cmp-value.it

compares : (a b : Spot) → is_eq (spot_order a b) ≡ same a b
compares (Reg r) (Reg q) = search rules
compares (Reg r) (Slot k) = refl
compares (Reg r) Scratch = refl
compares (Slot k) (Reg r) = refl
compares (Slot k) (Slot j) = search rules
compares (Slot k) Scratch = refl
compares Scratch (Reg r) = refl
compares Scratch (Slot k) = refl
compares Scratch Scratch = refl

lowest : (t : Spot) → is_le (spot_order (Reg 0) t) ≡ true
lowest (Reg r) = grind (arith, nat_tests)
lowest (Slot k) = refl
lowest Scratch = refl

highest : (t : Spot) → is_lt (spot_order Scratch t) ≡ false
highest (Reg r) = refl
highest (Slot k) = refl
highest Scratch = refl

within : (o p q : Ordering) → is_le p ≡ true → is_lt q ≡ false
    → (is_le (ordering_then o p) && not (is_lt (ordering_then o q))) ≡ is_eq o
within Less p q a b = refl
within Equal p q a b = ap (λ x. x && not (is_lt q)) a ∙ ap (λ x. true && not x) b
within Greater p q a b = refl

-- whether a move comes from a spot, by the order
abbrev comes_from : Spot → Move → Bool
comes_from x = range_contains move_order (Included (record { from = x; to = Reg 0 }))
    (Included (record { from = x; to = Scratch }))

comes : (x : Spot) (m : Move) → comes_from x m ≡ same x m.from
comes x m = within (spot_order x m.from) (spot_order (Reg 0) m.to) (spot_order Scratch m.to)
    (lowest m.to) (highest m.to) ∙ compares x m.from

both_equal : (o p : Ordering) → is_eq (ordering_then o p) ≡ true → (is_eq o ≡ true)
    × (is_eq p ≡ true)
both_equal Less p e = cc
both_equal Equal p e = (refl, e)
both_equal Greater p e = cc

equal_both : (o p : Ordering) → is_eq o ≡ true → is_eq p ≡ true → is_eq (ordering_then o p) ≡ true
equal_both Less p e f = cc
equal_both Equal p e f = f
equal_both Greater p e f = cc

equal_moves : (m n : Move) → is_eq (move_order m n) ≡ true → m ≡ n
equal_moves m n e =
    let parts = both_equal (spot_order m.from n.from) (spot_order m.to n.to) e in
    let f : m.from ≡ n.from = same_true m.from n.from (sym (compares m.from n.from) ∙ parts.0) in
    let t : m.to ≡ n.to = same_true m.to n.to (sym (compares m.to n.to) ∙ parts.1) in
    λ i. record { from = f i; to = t i }

equal_itself : (m : Move) → is_eq (move_order m m) ≡ true
equal_itself m = equal_both (spot_order m.from m.from) (spot_order m.to m.to)
    (compares m.from m.from ∙ same_itself m.from) (compares m.to m.to ∙ same_itself m.to)

-- the search for a move from a spot
first_is : (m r : Move) (ms rest : List Move) → m ∷ ms ≡ r ∷ rest → m ≡ r
first_is m r ms rest e = cc

none_from : (x : Spot) (ms : List Move) → filter (comes_from x) ms ≡ [] → is_source x ms ≡ false
none_from x [] e = refl
none_from x (m ∷ ms) e =
    let chosen = filter (comes_from x) ms in
    elim (decide (comes_from x m)) [
      | inl t ↦ let wrong : m ∷ chosen ≡ [] = ap (λ b. cond b (m ∷ chosen) chosen) (sym t) ∙ e in cc
      | inr f ↦ ap (λ b. b || is_source x ms) (sym (comes x m) ∙ f) ∙ none_from x ms
          (ap (λ b. cond b (m ∷ chosen) chosen) (sym f) ∙ e)
    ]

one_from : (x : Spot) (ms : List Move) (r : Move) (rest : List Move)
    → filter (comes_from x) ms ≡ r ∷ rest → IsMoveRemoved x r ms
    (remove_key (is_at (move_order r)) ms)
one_from x [] r rest e = cc
one_from x (m ∷ ms) r rest e =
    let chosen = filter (comes_from x) ms in
    let others = remove_key (is_at (move_order r)) ms in
    elim (decide (comes_from x m)) [
      | inl t ↦
          let is : m ≡ r = first_is m r chosen rest
          (ap (λ b. cond b (m ∷ chosen) chosen) (sym t) ∙ e) in
          let found : is_eq (move_order r m) ≡ true
          = ap (λ n. is_eq (move_order r n)) is ∙ equal_itself r in (
            [],
            ms,
            ap (λ n. n ∷ ms) is,
            ap (λ b. cond b ms (m ∷ others)) found,
            ap (λ n. same x n.from) (sym is) ∙ sym (comes x m) ∙ t,
          )
      | inr f ↦
          let later : IsMoveRemoved x r ms others = one_from x ms r rest
          (ap (λ b. cond b (m ∷ chosen) chosen) (sym f) ∙ e) in
          elim (decide (is_eq (move_order r m))) [
            | inl q ↦ (
              [],
              ms,
              ap (λ n. n ∷ ms) (sym (equal_moves r m q)),
              ap (λ b. cond b ms (m ∷ others)) q,
              later.4,
            )
            | inr n ↦ (
              m ∷ later.0,
              later.1,
              ap (λ l. m ∷ l) later.2,
              ap (λ b. cond b ms (m ∷ others)) n ∙ ap (λ l. m ∷ l) later.3,
              later.4,
            )
          ]
    ]

pub none_found : (x : Spot) (ms r : List Move) → r ≡ filter (comes_from x) ms → r ≡ []
    → is_source x ms ≡ false
none_found x ms r e n = none_from x ms (sym e ∙ n)

one_found : (x : Spot) (ms r : List Move) (m : Move) (rest after : List Move)
    → r ≡ filter (comes_from x) ms → r ≡ m ∷ rest → after ≡ remove_key (is_at (move_order m)) ms
    → IsMoveRemoved x m ms after
one_found x ms r m rest after e n a = subst (IsMoveRemoved x m ms) (sym a)
    (one_from x ms m rest (sym e ∙ n))

pub next_found : (lo hi : Move) (x : Spot) (ms r rest after : List Move) (n : Option (Bor Move))
    (m : Move) → lo ≡ record { from = x; to = Reg 0 } → hi ≡ record { from = x; to = Scratch }
    → r ≡ filter (range_contains move_order (Included lo) (Included hi)) ms
    → MatchOption n ((r ≡ []) × (rest ≡ [])) (λ y. r ≡ y.now ∷ rest) → Some m ≡ option_copied n
    → after ≡ remove_key (is_at (move_order m)) ms → IsMoveRemoved x m ms after
next_found lo hi x ms r rest after None m l h e s c a = cc
next_found lo hi x ms r rest after (Some y) m l h e s c a =
    let is : m ≡ y.now = cc in
    let bounds : r ≡ filter (comes_from x) ms = e ∙ ap
    (λ b. filter (range_contains move_order (Included b) (Included hi)) ms) l ∙ ap
    (λ b. filter
    (range_contains move_order (Included (record { from = x; to = Reg 0 })) (Included b)) ms) h
    in
    one_found x ms r m rest after bounds (s ∙ ap (λ q. q ∷ rest) (sym is)) a

-- the moves put in order one after another
abbrev Fresh : Move → (before after : List Move) → Type 0
Fresh m before after = (a b : List Move) × (before ≡ a ++ b) × (after ≡ a ++ m ∷ b)

abbrev There : Move → List Move → Type 0
There m before = (a b : List Move) × (before ≡ a ++ m ∷ b)

three : (o : Ordering) → (o ≡ Less) ⊎ ((o ≡ Equal) ⊎ (o ≡ Greater))
three Less = inl refl
three Equal = inr (inl refl)
three Greater = inr (inr refl)

inserted : (m : Move) (p : List Move) → Fresh m p (insert_key move_order p m) ⊎ There m p
inserted m [] = inl ([], [], refl, refl)
inserted m (x ∷ p) =
    let on = insert_key move_order p m in
    elim (three (move_order m x)) [
      | inl e ↦ inl ([], x ∷ p, refl, ap (λ o. match_ordering o (m ∷ x ∷ p) (x ∷ p) (x ∷ on)) e)
      | inr (inl e) ↦ inr ([], p, ap (λ n. n ∷ p) (sym (equal_moves m x (ap is_eq e))))
      | inr (inr e) ↦ elim (inserted m p) [
        | inl t ↦ inl (
          x ∷ t.0,
          t.1,
          ap (λ l. x ∷ l) t.2,
          ap
              (λ o. match_ordering o (m ∷ x ∷ p) (x ∷ p) (x ∷ on)) e ∙ ap (λ l. x ∷ l) t.3,
        )
        | inr t ↦ inr (x ∷ t.0, t.1, ap (λ l. x ∷ l) t.2)
      ]
    ]

distinct_middle : (a b : List Move) (m : Move) → DistinctTargets ((a ++ b) ++ m ∷ [])
    → DistinctTargets (a ++ m ∷ b)
distinct_middle [] b m d = let f = distinct_front b m d in (f.1, f.0)
distinct_middle (n ∷ a) b m d =
    let last = no_target_append n.to (a ++ b) (m ∷ []) d.0 in
    let parts = no_target_append n.to a b last.0 in (
      both_targets n.to a (m ∷ b) parts.0 (both_targets n.to (m ∷ []) b last.1 parts.1),
      distinct_middle a b m d.1,
    )

clean_again : (a b : List Move) (m : Move) → NoScratch (a ++ b) → m.to ≢ Scratch → m.from ≢ Scratch
    → NoScratch (a ++ m ∷ b)
clean_again [] b m n t f = (t, f, n)
clean_again (k ∷ a) b m n t f = (n.0, n.1, clean_again a b m n.2 t f)

fresh : (moves a b rest : List Move) (m : Move) → IsReordered moves ((a ++ b) ++ m ∷ rest)
    → IsReordered moves ((a ++ m ∷ b) ++ rest)
fresh moves a b rest m o =
    let d = distinct_end (a ++ b) rest m o.0 in
    let joined : (a ++ b) ++ rest ≡ a ++ (b ++ rest) = append_assoc a b rest in
    let new : (a ++ m ∷ b) ++ rest ≡ a ++ m ∷ (b ++ rest) = append_assoc a (m ∷ b) rest in
    let c = clean_middle (a ++ b) rest m o.1 in
    let apart = subst (λ l. is_target m.to l ≡ false) joined d.1 in
    subst (IsReordered moves) (sym new) (
      distinct_middle a (b ++ rest) m (subst (λ l. DistinctTargets (l ++ m ∷ [])) joined d.0),
      clean_again a (b ++ rest) m (subst NoScratch joined c.0) c.1.0 c.1.1,
      (λ s. origin_end a (b ++ rest) m s apart ∙ ap (λ l. source_spot (l ++ m ∷ []) s) (sym joined)
          ∙ sym (origin_end (a ++ b) rest m s d.1) ∙ o.2 s),
      omega (
        arith,
        o.3,
        length-append a (m ∷ (b ++ rest)),
        length-append b rest,
        length-append (a ++ b) (m ∷ rest),
        length-append a b,
      ),
      (record {
        stays = λ ok k h.
            let parts = ends_middle ok (a ++ b) rest m (o.4.stays ok k h) in
            ends_again ok a (b ++ rest) m (subst (AllMoveEnds ok) joined parts.0) parts.1;
      }),
    )

twice : (a b rest : List Move) (m : Move) → DistinctTargets ((a ++ m ∷ b) ++ m ∷ rest) → ⊥
twice a b rest m d =
    let end = distinct_end (a ++ m ∷ b) rest m d in
    let parts = no_target_append m.to (a ++ m ∷ b) rest end.1 in
    let inner = no_target_append m.to a (m ∷ b) parts.0 in
    let wrong : true ≡ false = ap (λ c. c || is_target m.to b) (sym (same_itself m.to)) ∙ inner.1 in
    cc

put : (moves p after rest : List Move) (m : Move) → IsReordered moves (p ++ m ∷ rest)
    → Fresh m p after ⊎ There m p → IsReordered moves (after ++ rest)
put moves p after rest m o (inl t) = subst (λ l. IsReordered moves (l ++ rest)) (sym t.3)
    (fresh moves t.0 t.1 rest m (subst (λ l. IsReordered moves (l ++ m ∷ rest)) t.2 o))
put moves p after rest m o (inr t) = absurd
    (twice t.0 t.1 rest m (subst (λ l. DistinctTargets (l ++ m ∷ rest)) t.2 o.0))

pub none_yet : (moves p : List Move) → p ≡ [] → DistinctTargets moves → NoScratch moves
    → IsReordered moves (p ++ drop 0 moves)
none_yet moves p e d n = subst (λ l. IsReordered moves (l ++ moves)) (sym e)
    (d, n, (λ s. refl), refl, record { stays = λ ok k h. h })

pub one_more : (moves p after : List Move) (i : ℕ) (d : Move) → i < length moves
    → IsReordered moves (p ++ drop i moves) → after ≡ insert_key move_order p (get_or moves i d)
    → IsReordered moves (after ++ drop (i + 1) moves)
one_more moves p after i d h o e =
    let m = get_or moves i d in
    let front : drop i moves ≡ m ∷ drop (i + 1) moves = rw (add-one, drop-cons moves i d) refl in
    put moves p after (drop (i + 1) moves) m (subst (λ l. IsReordered moves (p ++ l)) front o)
    (subst (λ l. Fresh m p l ⊎ There m p) (sym e) (inserted m p))

pub all_there : (moves p : List Move) (i : ℕ) → i ≡ length moves
    → IsReordered moves (p ++ drop i moves) → IsReordered moves p
all_there moves p i e o =
    let none : drop i moves ≡ [] = grind (arith, common_steps) in
    subst (IsReordered moves) (append_nil p) (subst (λ l. IsReordered moves (p ++ l)) none o)
