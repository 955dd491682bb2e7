-- What several passes keep, one after another.
use Rattle.std.proofs.Common.{◌≡◌, ℕ, ◌+◌, ◌≤◌, Bool, true, false, cond, nat_eq, List, [], ◌∷◌, refl, sym, ◌∙◌, subst, arith, IfOk, Result, Ok, Err}
use Rattle.grin_syntax.specs.Binders.{procs_sites}
use Rattle.grin_syntax.specs.Formed.{AllOf}
use Rattle.grin_syntax.specs.Tree.{Program}
use Rattle.grin_meaning.specs.Values.{HeapCell}
use Rattle.grin_meaning.specs.Run.{run}
use Rattle.grin_meaning.specs.Keeps.{world_of}
use Rattle.flow_system.specs.Tables.{tables}
use Rattle.flow_system.specs.System.{system}
use Rattle.flow_system.specs.Solution.{Solution, IsLeast}
use Rattle.pass_ground.proofs.Vectors.{stays_again}
use Rattle.case_simplify.specs.Simplified.{Simplified}
use Rattle.copy_prop.specs.Copied.{Copied}
use Rattle.pass_flat.specs.Flattened.{Flattened}
use Rattle.pass_known.specs.KnownWords.{KnownWords, ToldWords}
use Rattle.pass_narrow.specs.NarrowBy.{NarrowBy}
use Rattle.pass_cells.specs.Unknown.{RefetchesNothing}
use Rattle.pass_order.specs.Ordered.{Ordered}
use Rattle.dead_store.specs.Kept.{kept}
use Rattle.dead_store.specs.Unread.{AgreeWhereFetched, UnreadUpdatesRemovedBy}
use Rattle.dead_store.specs.Stored.{DeadStoresRemovedBy}
use Rattle.dead_store.proofs.Unique.{all_in}
use Rattle.seq.specs.Lists.{times}
use Rattle.seq.proofs.Order.{eq_from}
use Rattle.grin_opt.specs.Several.{Composed, MadeByPasses, Tidied, LiteralsThenTidied, KnownWordsThenTidied, AfterKnownWords, AfterOwnCells, UnreadBy, AfterDeadStores}

one_then : (S T : Program → Program → Type 0) (g k h : Program) → MadeByPasses S g k
    → MadeByPasses T k h → MadeByPasses (Composed S T) g h
one_then S T g k h s t = record {
  stays = stays_again g k h s.stays t.stays;
  no_more_open = omega (arith, s.no_more_open, t.no_more_open);
  by = record { between = k; first = s.by; second = t.by };
}

flattened : (k m : Program) → Flattened k m → MadeByPasses Flattened k m
flattened k m shape = record
    { stays = shape.stays; no_more_open = omega (arith, shape.same_open); by = shape }

pub of_simple : (g k m h : Program) → MadeByPasses Simplified g k → Flattened k m
    → MadeByPasses Copied m h → MadeByPasses Tidied g h
of_simple g k m h simple shape lean =
    one_then Simplified (Composed Flattened Copied) g k h simple
    (one_then Flattened Copied k m h (flattened k m shape) lean)

pub of_told_words : (g k h : Program) → ToldWords g k → MadeByPasses Tidied k h
    → MadeByPasses LiteralsThenTidied g h
of_told_words g k h shape tidy = one_then ToldWords Tidied g k h
    (record { stays = shape.stays; no_more_open = shape.no_more_open; by = shape }) tidy

pub of_known_words : (g k h : Program) → KnownWords g k → MadeByPasses Tidied k h
    → MadeByPasses KnownWordsThenTidied g h
of_known_words g k h shape tidy = one_then KnownWords Tidied g k h
    (record { stays = shape.by.stays; no_more_open = shape.by.no_more_open; by = shape }) tidy

pub of_both : (g k h : Program) → MadeByPasses LiteralsThenTidied g k
    → MadeByPasses KnownWordsThenTidied k h → AfterKnownWords g h
of_both g k h once again = one_then LiteralsThenTidied KnownWordsThenTidied g k h once again

pub of_own_cells : (g k m h : Program) → RefetchesNothing g k → MadeByPasses Tidied k m
    → Ordered m h → AfterOwnCells g h
of_own_cells g k m h shape tidy last =
    one_then RefetchesNothing (Composed Tidied Ordered) g k h
    (record { stays = shape.stays; no_more_open = omega (arith, shape.same_open); by = shape })
    (one_then Tidied Ordered k m h tidy
    (record { stays = last.stays; no_more_open = last.no_more_open; by = last }))

without_dead : (A : Solution) (k m : Program) → DeadStoresRemovedBy A k m
    → MadeByPasses (DeadStoresRemovedBy A) k m
without_dead A k m shape = record {
  stays = record {
    of_vectors = shape.of_vectors;
    outside = shape.outside;
    narrow = shape.narrow;
    by_words
        = λ words. shape.by_words;
  };
  no_more_open = shape.no_more_open;
  by = shape;
}

-- what holds of each of the second ones holds of the first ones, which are no more
in_times : (P : ℕ → Type 0) (xs : List ℕ) → AllOf P xs → (y : ℕ) → 1 ≤ times y xs → P y
in_times P [] h y lt = absurd (omega (arith, lt))
in_times P (x ∷ xs) h y lt = go (nat_eq y x) refl lt (λ lt. in_times P xs h.1 y lt)
  where
    go : (b : Bool) → nat_eq y x ≡ b → 1 ≤ cond b 1 0 + times y xs → (1 ≤ times y xs → P y) → P y
    go true e lt again = subst P (sym (eq_from y x e)) h.0
    go false e lt again = again (let k : 1 ≤ 0 + times y xs = lt in omega (arith, k))

all_fewer : (P : ℕ → Type 0) (xs ys : List ℕ) → ((y : ℕ) → times y ys ≤ times y xs) → AllOf P xs
    → AllOf P ys
all_fewer P xs ys fewer h = all_in P ys
    (λ y lt. in_times P xs h y (let f : times y ys ≤ times y xs = fewer y in omega (arith, f, lt)))

module _ (g k r m h : Program) (A : Solution) (narrow : NarrowBy A g k)
    (read : UnreadUpdatesRemovedBy A k r) (stored : DeadStoresRemovedBy A r m) where
  abbrev Rest : Program → Program → Type 0
  Rest = Composed (DeadStoresRemovedBy A) Copied

  heaps_kept : Copied m h → (i : List ℕ) (n : ℕ) → (c : List HeapCell)
      × AgreeWhereFetched read.fetched (world_of (run g i n)).cells c
      × ((world_of (run h i n)).cells ≡ kept stored.left_by.stays c)
  heaps_kept copied i n = (
    (world_of (run r i n)).cells,
    subst (λ c. AgreeWhereFetched read.fetched c (world_of (run r i n)).cells) (narrow.heaps i n)
        (read.heaps i n),
    copied.heaps i n ∙ stored.heaps i n,
  )

  pub of_dead_stores : IsLeast (tables g) (system g) A → MadeByPasses Copied m h
      → AfterDeadStores g h
  of_dead_stores least lean =
      let first : MadeByPasses (NarrowBy A) g k = record
      { stays = narrow.stays; no_more_open = omega (arith, narrow.same_open); by = narrow } in
      let second : MadeByPasses (UnreadUpdatesRemovedBy A) k r
      = record { stays = read.stays; no_more_open = read.no_more_open; by = read } in
      let last : MadeByPasses Rest r h = one_then (DeadStoresRemovedBy A) Copied r m h
      (without_dead A r m stored) lean in
      let both : MadeByPasses (Composed (UnreadUpdatesRemovedBy A) Rest) k h
      = one_then (UnreadUpdatesRemovedBy A) Rest k r h second last in
      let all : MadeByPasses (UnreadBy A) g h = one_then (NarrowBy A)
      (Composed (UnreadUpdatesRemovedBy A) Rest) g k h first both in
      record {
        stays = all.stays;
        no_more_open = all.no_more_open;
        by = record {
          solution = A;
          least = least;
          by = record {
            between = k;
            first = narrow;
            second
                = record {
                  between = r;
                  first = read;
                  second
                      = record { between = m; first = stored; second = lean.by };
                };
          };
          fetched = read.fetched;
          stays = stored.left_by.stays;
          are_fetched = read.decided;
          are_staying = stored.left_by.decided;
          all_stay = all_fewer (λ s. stored.left_by.stays s ≡ true) (procs_sites m.procs)
              (procs_sites h.procs) lean.by.no_new_stores stored.all_stay;
          heaps = heaps_kept lean.by;
        };
      }

pub both_ok : {T E : Type 0} (P Q R : T → Type 0) (r : Result T E)
    → ((t : T) → P t → Q t → R t) → IfOk r P → IfOk r Q → IfOk r R
both_ok P Q R (Ok t) f p q = f t p q
both_ok P Q R (Err e) f p q = tt
