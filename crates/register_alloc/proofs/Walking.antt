-- What a walk does between two points of a procedure.
use Rattle.std.proofs.Common.{◌≡◌, ℕ, suc, ◌+◌, ◌≤◌, true, List, [], ◌∷◌, ◌++◌, length, length-append, Option, Some, slice_get, slice_index_or, refl, sym, ap, ◌∙◌, subst, arith}
use Rattle.parallel_move.specs.declared.Spot.{Spot}
use Rattle.low_code.specs.Tree.{Code, call, join, give, tail, choose, fail, Arms, arm}
use Rattle.low_code.specs.Formed.{uses, arms_uses, used_by_tests, used_by_all}
use Rattle.low_code.specs.declared.program.LowTest.{LowTest}
use Rattle.low_code.specs.declared.program.Operand.{Operand}
use Rattle.register_alloc.specs.Live.{EachBinding}
use Rattle.register_alloc.specs.Fits.{Ascending}
use Rattle.variable_uses.specs.Uses.{AreUses}
use Rattle.register_alloc.specs.Inner.{sizes_of, arms_sizes}
use Rattle.variable_uses.specs.Stands.{ListSegmentAt}
use Rattle.register_alloc.specs.Holders.{AreStillUsed, AreMarkedForJoin, AreDisjoint, Holding, Keeps, Good, Giving, PlacesAgree, KeepsGivenPlaces, SlotsAreNumbered}
use Rattle.register_alloc.specs.Point.{AfterCall, points, arms_points, RecordsLiveRegisters, RecordsAllLive, NoBoundIsUsedLater, Before, Walked, Onward, Bound, SameGiven, SameText, SamePlaces, EntersInner, Grows}
use Rattle.register_alloc.specs.declared.holders.Holder.{Holder}
use Rattle.register_alloc.specs.declared.registers.CallSite.{CallSite}
use Rattle.register_alloc.specs.declared.registers.Registers.{Registers}
use Rattle.register_alloc.specs.declared.registers.Text.{Text}
use Rattle.variable_uses.proofs.Standing.{stands_first, stands_rest, stands_head}
use Rattle.register_alloc.proofs.Keeping.{still_keeps, entering_holds, holding_less, given_holds}
use Rattle.register_alloc.proofs.Walked.{grouped, nothing_more}
use Rattle.seq.specs.Lists.{is_among}
use Rattle.seq.proofs.Counted.{among_left, among_right}

-- ---- notes of calls

notes_append : (place : ℕ → Spot) (ks ls : List CallSite) (ps qs : List AfterCall)
    → RecordsAllLive place ks ps → RecordsAllLive place ls qs
    → RecordsAllLive place (ks ++ ls) (ps ++ qs)
notes_append place [] ls [] qs a b = b
notes_append place [] ls (p ∷ ps) qs a b = absurd a
notes_append place (k ∷ ks) ls [] qs a b = absurd a
notes_append place (k ∷ ks) ls (p ∷ ps) qs a b = (a.0, notes_append place ks ls ps qs a.1 b)

agrees_before : (place : ℕ → Spot) (old new : Registers)
    → KeepsGivenPlaces old.given.items new.given.items → PlacesAgree place new.given.items
    → PlacesAgree place old.given.items
agrees_before place old new e a k g there = a k g (e k g there)

pub agrees_old : (place : ℕ → Spot) (old new : Registers) → Grows old new
    → PlacesAgree place new.given.items → PlacesAgree place old.given.items
agrees_old place old new g a = agrees_before place old new g.extends a

pub grows_same : (old new : Registers) → SamePlaces old new → Grows old new
grows_same old new s = record {
  extends = λ k g e. subst (λ gs. slice_get gs k ≡ Some g) (sym s.given) e;
  slots = let e = s.slots in omega (arith, e);
  numbered = λ n. subst (λ gs. SlotsAreNumbered gs new.slots) (sym s.given)
      (subst (λ m. SlotsAreNumbered old.given.items m) (sym s.slots) n);
}

pub grows_on : (old mid new : Registers) → Grows old mid → Grows mid new → Grows old new
grows_on old mid new a b = record {
  extends = λ k g e. b.extends k g (a.extends k g e);
  slots = let x = a.slots in let y = b.slots in omega (arith, x, y);
  numbered = λ n. b.numbered (a.numbered n);
}

pub grows_not : (old : Registers) → Grows old old
grows_not old = record { extends = λ k g e. e; slots = omega arith; numbered = λ n. n }

pub same_places : (old new : Registers) → SameGiven old new → SamePlaces old new
same_places old new s = record { slots = s.slots; given = s.given }

module _ (place : ℕ → Spot) (text : Text) (later : List ℕ) where
  -- ---- from one point to the next

  pub passed : (scope : List ℕ) (w c : Code) (us : List ℕ) (old new : Registers)
      (held : List (Option Holder)) (end : ℕ) → uses w ≡ us ++ uses c → sizes_of w ≡ sizes_of c
      → new.at ≡ old.at + length us → SameGiven old new
      → Before place text later scope w old held end
      → Before place text later scope c new held end
  passed scope w c us old new held end is sizes at same b = record {
    used = b.used;
    are = b.are;
    uses_stand = subst (λ n. ListSegmentAt b.used n (uses c)) (sym at)
        (stands_rest b.used old.at us (uses c)
        (subst (ListSegmentAt b.used old.at) is b.uses_stand));
    ends = let e = b.ends in let n : length (uses w) ≡ length us + length (uses c)
        = ap length is ∙ length-append us (uses c) in omega (arith, e, n, at);
    sizes_stand = subst (λ n. ListSegmentAt text.sizes.items n (sizes_of c)) (sym same.block)
        (subst (ListSegmentAt text.sizes.items old.block) sizes b.sizes_stand);
    holding = holding_less place scope w c later old.slots new.slots held
        (λ y m. subst (λ l. is_among y l ≡ true) (sym is) (among_right y us (uses c) m))
        (let e = same.slots in omega (arith, e)) b.holding;
  }

  -- nothing but the state's slots changed, or the places
  pub before_same : (scope : List ℕ) (c : Code) (old new : Registers) (held : List (Option Holder))
      (end : ℕ) → SameText old new → old.slots ≤ new.slots
      → Before place text later scope c old held end → Before place text later scope c new held end
  before_same scope c old new held end same le b = record {
    used = b.used;
    are = b.are;
    uses_stand = subst (λ n. ListSegmentAt b.used n (uses c)) (sym same.at) b.uses_stand;
    ends = let e = b.ends in let a = same.at in omega (arith, e, a);
    sizes_stand = subst (λ n. ListSegmentAt text.sizes.items n (sizes_of c)) (sym same.block)
        b.sizes_stand;
    holding = holding_less place scope c c later old.slots new.slots held (λ y m. m) le b.holding;
  }

  pub pruned : (scope : List ℕ) (c : Code) (s : Registers) (held live : List (Option Holder))
      (end : ℕ) → Before place text later scope c s held end
      → ((used : List ℕ) → AreUses used text.uses → AreStillUsed used s.at end held live)
      → Keeps place scope c later [] s.slots live
  pruned scope c s held live end b still =
      still_keeps place scope c later s.slots b.used s.at held live b.uses_stand b.holding
      (subst (λ n. AreStillUsed b.used s.at n held live) b.ends (still b.used b.are))

  pub bound : (scope xs : List ℕ) (c : Code) (s t : Registers) (held held' : List (Option Holder))
      (end : ℕ) → Before place text later scope c s held end → SameText s t
      → Giving place scope c later xs t.slots held' → Bound place text later scope xs c t held' end
  bound scope xs c s t held held' end b same g = record {
    before = record {
      used = b.used;
      are = b.are;
      uses_stand = subst (λ n. ListSegmentAt b.used n (uses c)) (sym same.at) b.uses_stand;
      ends = let e = b.ends in let a = same.at in omega (arith, e, a);
      sizes_stand = subst (λ n. ListSegmentAt text.sizes.items n (sizes_of c)) (sym same.block)
          b.sizes_stand;
      holding = given_holds place scope c later xs t.slots held' g.keeps;
    };
    good = g.good;
  }

  -- ---- what is done one after another

  pub onward_on : (scope : List ℕ) (a b c : Code) (r s t : Registers)
      (held held' : List (Option Holder)) (end : ℕ) → Onward place text later scope a b r s held end
      → ((now : List ℕ) → NoBoundIsUsedLater now b later → Before place text later now b s held end
      → Onward place text later now b c s t held' end)
      → Onward place text later scope a c r t held' end
  onward_on scope a b c r s t held held' end f g =
      let n = g f.now f.none_later f.before in
      record {
        now = n.now;
        before = n.before;
        none_later = n.none_later;
        each = λ e. f.each (n.each e);
        block = let x = f.block in let y = n.block in omega (arith, x, y);
        more = f.more ++ n.more;
        calls = n.calls ∙ ap (λ l. l ++ n.more) f.calls ∙ sym (grouped r.calls.items f.more n.more);
        notes = λ rest e. subst (λ l. RecordsAllLive place l (points scope a later))
            (grouped f.more n.more rest) (f.notes (n.more ++ rest) (n.notes rest e));
      }

  pub onward_not : (scope : List ℕ) (c : Code) (s : Registers) (held : List (Option Holder))
      (end : ℕ) → NoBoundIsUsedLater scope c later → Before place text later scope c s held end
      → Onward place text later scope c c s s held end
  onward_not scope c s held end none b = record {
    now = scope;
    before = b;
    none_later = none;
    each = λ e. e;
    block = refl;
    more = [];
    calls = nothing_more s.calls.items;
    notes = λ rest e. e;
  }

  pub walked_on : (scope : List ℕ) (a b : Code) (r s t : Registers) (held : List (Option Holder))
      (end : ℕ) → Onward place text later scope a b r s held end
      → ((now : List ℕ) → NoBoundIsUsedLater now b later → Before place text later now b s held end
      → Walked place text later now b s t end)
      → Walked place text later scope a r t end
  walked_on scope a b r s t held end f g =
      let n = g f.now f.none_later f.before in
      record {
        each = f.each n.each;
        ends = n.ends;
        block = let x = f.block in let y = n.block in omega (arith, x, y);
        more = f.more ++ n.more;
        calls = n.calls ∙ ap (λ l. l ++ n.more) f.calls ∙ sym (grouped r.calls.items f.more n.more);
        notes = f.notes n.more n.notes;
      }

  -- ---- a statement that binds variables, and does nothing else

  pub plain_goes : (scope xs : List ℕ) (w c : Code) (us : List ℕ) (r s t : Registers)
      (held held' : List (Option Holder)) (end : ℕ)
      → uses w ≡ us ++ uses c → sizes_of w ≡ sizes_of c
      → (NoBoundIsUsedLater scope w later → AreDisjoint xs later
      × NoBoundIsUsedLater (xs ++ scope) c later)
      → (Good place scope xs c later → EachBinding (Good place) (xs ++ scope) c later
      → EachBinding (Good place) scope w later)
      → points scope w later ≡ points (xs ++ scope) c later
      → s.at ≡ r.at + length us → SameGiven r s
      → (AreDisjoint xs later → Before place text later scope c s held end
      → Bound place text later scope xs c t held' end) → t.block ≡ s.block
      → t.calls.items ≡ s.calls.items
      → NoBoundIsUsedLater scope w later → Before place text later scope w r held end
      → Onward place text later scope w c r t held' end
  plain_goes scope xs w c us r s t held held' end is sizes none each pts at same binds block calls
      none_later b =
      let n = none none_later in
      let d = binds n.0 (passed scope w c us r s held end is sizes at same b) in
      record {
        now = xs ++ scope;
        before = d.before;
        none_later = n.1;
        each = λ e. each d.good e;
        block = ap (λ m. m + length (sizes_of c)) (block ∙ same.block) ∙ ap
            (λ l. r.block + length l) (sym sizes);
        more = [];
        calls = calls ∙ same.calls ∙ nothing_more r.calls.items;
        notes = λ rest e. subst (RecordsAllLive place rest) (sym pts) e;
      }

  -- a statement that binds nothing
  pub still_goes : (scope : List ℕ) (w c : Code) (us : List ℕ) (r s : Registers)
      (held : List (Option Holder)) (end : ℕ)
      → uses w ≡ us ++ uses c → sizes_of w ≡ sizes_of c
      → (NoBoundIsUsedLater scope w later → NoBoundIsUsedLater scope c later)
      → (EachBinding (Good place) scope c later → EachBinding (Good place) scope w later)
      → points scope w later ≡ points scope c later
      → s.at ≡ r.at + length us → SameGiven r s
      → NoBoundIsUsedLater scope w later → Before place text later scope w r held end
      → Onward place text later scope w c r s held end
  still_goes scope w c us r s held end is sizes none each pts at same none_later b = record {
    now = scope;
    before = passed scope w c us r s held end is sizes at same b;
    none_later = none none_later;
    each = each;
    block = ap (λ m. m + length (sizes_of c)) same.block ∙ ap (λ l. r.block + length l) (sym sizes);
    more = [];
    calls = same.calls ∙ nothing_more r.calls.items;
    notes = λ rest e. subst (RecordsAllLive place rest) (sym pts) e;
  }

  -- a call
  pub call_goes : (scope xs : List ℕ) (f site : ℕ) (ops : List Operand) (c : Code)
      (r s t : Registers) (held held' : List (Option Holder)) (end : ℕ)
      → s.at ≡ r.at + length (used_by_all ops) → SameGiven r s
      → (AreDisjoint xs later → Before place text later scope c s held end
      → Bound place text later scope xs c t held' end)
      → (Before place text later scope c s held end
      → (k : CallSite) ×
      ((t.calls.items ≡ s.calls.items ++ (k ∷ []))
      × RecordsLiveRegisters place k
      (record { site = site; proc = f; scope = scope; rest = c; later = later })))
      → t.block ≡ s.block
      → NoBoundIsUsedLater scope (call f site ops xs c) later
      → Before place text later scope (call f site ops xs c) r held end
      → Onward place text later scope (call f site ops xs c) c r t held' end
  call_goes scope xs f site ops c r s t held held' end at same binds notes block none_later b =
      let here = passed scope (call f site ops xs c) c (used_by_all ops) r s held end refl refl at
      same b in
      let d = binds none_later.0 here in
      let k = notes here in
      record {
        now = xs ++ scope;
        before = d.before;
        none_later = none_later.1;
        each = λ e. (d.good, e);
        block = ap (λ m. m + length (sizes_of c)) (block ∙ same.block);
        more = k.0 ∷ [];
        calls = k.1.0 ∙ ap (λ l. l ++ (k.0 ∷ [])) same.calls;
        notes = λ rest e. (k.1.1, e);
      }

  -- ---- inner blocks

  -- the point at the head of a block that is entered
  pub enters : (scope after : List ℕ) (w b : Code) (later' : List ℕ) (rest : List ℕ)
      (r s : Registers) (held inner : List (Option Holder)) (end inner_end : ℕ)
      → uses w ≡ uses b ++ after → sizes_of w ≡ length (uses b) ∷ (sizes_of b ++ rest)
      → EntersInner text r s inner_end
      → (inner_end ≡ r.at + length (uses b) → Holding place scope b later' s.slots inner)
      → Before place text later scope w r held end
      → Before place text later' scope b s inner inner_end
  enters scope after w b later' rest r s held inner end inner_end is sizes e hold p =
      let sized : ListSegmentAt text.sizes.items r.block (length (uses b) ∷ (sizes_of b ++ rest))
      = subst (ListSegmentAt text.sizes.items r.block) sizes p.sizes_stand in
      let size : slice_index_or text.sizes.items r.block 0 ≡ length (uses b)
      = stands_head text.sizes.items r.block (length (uses b)) (sizes_of b ++ rest) sized in
      let ends : inner_end ≡ r.at + length (uses b) = e.ends ∙ ap (λ n. r.at + n) size in
      let next : r.block + 1 ≡ s.block = let k = e.block in omega (arith, k) in
      record {
        used = p.used;
        are = p.are;
        uses_stand = subst (λ n. ListSegmentAt p.used n (uses b)) (sym e.at)
            (stands_first p.used r.at (uses b) after
            (subst (ListSegmentAt p.used r.at) is p.uses_stand));
        ends = ends ∙ ap (λ n. n + length (uses b)) (sym e.at);
        sizes_stand = stands_first text.sizes.items s.block (sizes_of b) rest
            (subst (λ n. ListSegmentAt text.sizes.items n (sizes_of b ++ rest)) next
            (stands_rest text.sizes.items r.block (length (uses b) ∷ []) (sizes_of b ++ rest)
            sized));
        holding = hold ends;
      }

  -- the point after that block
  pub leaves : (scope : List ℕ) (w b c : Code) (later' : List ℕ) (rest : List ℕ) (r s t : Registers)
      (held : List (Option Holder)) (end inner_end : ℕ)
      → uses w ≡ uses b ++ uses c → sizes_of w ≡ length (uses b) ∷ (sizes_of b ++ sizes_of c)
      → EntersInner text r s inner_end → Walked place text later' scope b s t inner_end
      → r.slots ≤ t.slots
      → Before place text later scope w r held end → Before place text later scope c t held end
  leaves scope w b c later' rest r s t held end inner_end is sizes e walked le p =
      let sized : ListSegmentAt text.sizes.items r.block
      (length (uses b) ∷ (sizes_of b ++ sizes_of c))
      = subst (ListSegmentAt text.sizes.items r.block) sizes p.sizes_stand in
      let size : slice_index_or text.sizes.items r.block 0 ≡ length (uses b)
      = stands_head text.sizes.items r.block (length (uses b)) (sizes_of b ++ sizes_of c) sized
      in
      let at : r.at + length (uses b) ≡ t.at = sym (e.ends ∙ ap (λ n. r.at + n) size) ∙ walked.ends
      in
      let many : length (uses w) ≡ length (uses b) + length (uses c)
      = ap length is ∙ length-append (uses b) (uses c) in
      let block : r.block + 1 + length (sizes_of b) ≡ t.block = let k = e.block in let l
      = walked.block in omega (arith, k, l) in
      record {
        used = p.used;
        are = p.are;
        uses_stand = subst (λ n. ListSegmentAt p.used n (uses c)) at
            (stands_rest p.used r.at (uses b) (uses c)
            (subst (ListSegmentAt p.used r.at) is p.uses_stand));
        ends = let k = p.ends in omega (arith, k, many, at);
        sizes_stand = subst (λ n. ListSegmentAt text.sizes.items n (sizes_of c)) block
            (stands_rest text.sizes.items (r.block + 1) (sizes_of b) (sizes_of c)
            (stands_rest text.sizes.items r.block (length (uses b) ∷ [])
            (sizes_of b ++ sizes_of c) sized));
        holding = holding_less place scope w c later r.slots t.slots held
            (λ y m. subst (λ l. is_among y l ≡ true) (sym is) (among_right y (uses b) (uses c) m))
            le p.holding;
      }

  -- a join
  pub join_goes : (scope xs : List ℕ) (b c : Code) (r s t u : Registers)
      (held inner held' : List (Option Holder)) (end inner_end : ℕ)
      → EntersInner text r s inner_end
      → ((used : List ℕ) → AreUses used text.uses → AreMarkedForJoin used inner_end end held inner)
      → (NoBoundIsUsedLater scope b (uses c ++ later)
      → Before place text (uses c ++ later) scope b s inner inner_end
      → Walked place text (uses c ++ later) scope b s t inner_end)
      → s.slots ≤ t.slots
      → (AreDisjoint xs later → Before place text later scope c t held end
      → Bound place text later scope xs c u held' end) → u.block ≡ t.block
      → u.calls.items ≡ t.calls.items
      → NoBoundIsUsedLater scope (join xs b c) later
      → Before place text later scope (join xs b c) r held end
      → Onward place text later scope (join xs b c) c r u held' end
  join_goes scope xs b c r s t u held inner held' end inner_end e enter walks le binds block calls
      none_later p =
      let same : r.slots ≡ s.slots = sym e.stays.slots in
      let walked = walks none_later.0
      (enters scope (uses c) (join xs b c) b (uses c ++ later) (sizes_of c) r s held inner end
      inner_end refl refl e hold p) in
      let after = leaves scope (join xs b c) b c (uses c ++ later) (sizes_of c) r s t held end
      inner_end refl refl e walked (omega (arith, same, le)) p in
      let d = binds none_later.1.0 after in
      record {
        now = xs ++ scope;
        before = d.before;
        none_later = none_later.1.1;
        each = λ k. (walked.each, (d.good, k));
        block =
            let k = e.block in
            let l = walked.block in
            let n : length (length (uses b) ∷ (sizes_of b ++ sizes_of c)) ≡ suc
            (length (sizes_of b) + length (sizes_of c))
            = ap suc (length-append (sizes_of b) (sizes_of c)) in
            omega (arith, block, k, l, n);
        more = walked.more;
        calls = calls ∙ walked.calls ∙ ap (λ l. l ++ walked.more) e.calls;
        notes = λ rest k. notes_append place walked.more rest (points scope b (uses c ++ later))
            (points (xs ++ scope) c later) walked.notes k;
      }
    where
      hold : inner_end ≡ r.at + length (uses b) → Holding place scope b (uses c ++ later) s.slots
          inner
      hold ends =
          let rest : ListSegmentAt p.used (r.at + length (uses b)) (uses c)
          = stands_rest p.used r.at (uses b) (uses c) p.uses_stand in
          let at_end : end ≡ inner_end + length (uses c) = let k = p.ends in let m
          = length-append (uses b) (uses c) in omega (arith, k, m, ends) in
          subst (λ n. Holding place scope b (uses c ++ later) n inner) (sym e.stays.slots)
          (entering_holds place scope (join xs b c) b c later r.slots p.used inner_end held inner
          refl (subst (λ n. ListSegmentAt p.used n (uses c)) (sym ends) rest) p.holding
          (subst (λ n. AreMarkedForJoin p.used inner_end n held inner) at_end (enter p.used p.are)))

  -- an arm
  pub arm_goes : (scope : List ℕ) (ts : List LowTest) (b : Code) (rest : Arms) (r s t u : Registers)
      (held : List (Option Holder)) (end inner_end : ℕ)
      → s.at ≡ r.at + length (used_by_tests ts) → SameGiven r s → EntersInner text s t inner_end
      → (NoBoundIsUsedLater scope b later → Before place text later scope b t held inner_end
      → Walked place text later scope b t u inner_end)
      → t.slots ≤ u.slots
      → NoBoundIsUsedLater scope (choose (arm ts b rest)) later
      → Before place text later scope (choose (arm ts b rest)) r held end
      → Onward place text later scope (choose (arm ts b rest)) (choose rest) r u held end
  arm_goes scope ts b rest r s t u held end inner_end at same e walks le none_later p =
      let tested = passed' in
      let slots : s.slots ≡ t.slots = sym e.stays.slots in
      let walked = walks none_later.0
      (enters scope (arms_uses rest) (choose (arm [] b rest)) b later (arms_sizes rest) s t held
      held end inner_end refl refl e (λ ends. hold) passed') in
      let after = leaves scope (choose (arm [] b rest)) b (choose rest) later (arms_sizes rest) s t
      u held end inner_end refl refl e walked (omega (arith, slots, le)) passed' in
      record {
        now = scope;
        before = after;
        none_later = none_later.1;
        each = λ k. (walked.each, k);
        block =
            let k = e.block in
            let l = walked.block in
            let m = same.block in
            let n : length (length (uses b) ∷ (sizes_of b ++ arms_sizes rest)) ≡ suc
            (length (sizes_of b) + length (arms_sizes rest))
            = ap suc (length-append (sizes_of b) (arms_sizes rest)) in
            omega (arith, k, l, m, n);
        more = walked.more;
        calls = walked.calls ∙ ap (λ l. l ++ walked.more) (e.calls ∙ same.calls);
        notes = λ more k. notes_append place walked.more more (points scope b later)
            (arms_points scope rest later) walked.notes k;
      }
    where
      passed' : Before place text later scope (choose (arm [] b rest)) s held end
      passed' = passed scope (choose (arm ts b rest)) (choose (arm [] b rest)) (used_by_tests ts) r
          s held end refl refl at same p

      hold : Holding place scope b later t.slots held
      hold = holding_less place scope (choose (arm [] b rest)) b later s.slots t.slots held
          (λ y m. among_left y (uses b) (arms_uses rest) m)
          (let k = e.stays.slots in omega (arith, k)) passed'.holding

  -- ---- the end of a block

  pub give_walks : (scope : List ℕ) (ops : List Operand) (r s : Registers)
      (held : List (Option Holder)) (end : ℕ) → s.at ≡ r.at + length (used_by_all ops)
      → SameGiven r s
      → Before place text later scope (give ops) r held end
      → Walked place text later scope (give ops) r s end
  give_walks scope ops r s held end at same b = record {
    each = tt;
    ends = b.ends ∙ sym at;
    block = let k = same.block in omega (arith, k);
    more = [];
    calls = same.calls ∙ nothing_more r.calls.items;
    notes = tt;
  }

  pub fail_walks : (scope : List ℕ) (r : Registers) (held : List (Option Holder)) (end : ℕ)
      → Before place text later scope fail r held end → Walked place text later scope fail r r end
  fail_walks scope r held end b = record {
    each = tt;
    ends = let k = b.ends in omega (arith, k);
    block = omega arith;
    more = [];
    calls = nothing_more r.calls.items;
    notes = tt;
  }

  pub tail_walks : (scope : List ℕ) (f site : ℕ) (ops : List Operand) (r s t : Registers)
      (held : List (Option Holder)) (end : ℕ) → s.at ≡ r.at + length (used_by_all ops)
      → SameGiven r s
      → ((k : CallSite) ×
      ((t.calls.items ≡ s.calls.items ++ (k ∷ []))
      × ((k.site ≡ site) × ((k.proc ≡ f) × (k.live ≡ []))))) → SameText s t
      → Before place text later scope (tail f site ops) r held end
      → Walked place text later scope (tail f site ops) r t end
  tail_walks scope f site ops r s t held end at same k text' b = record {
    each = tt;
    ends = b.ends ∙ sym at ∙ sym text'.at;
    block = let m = same.block in let n = text'.block in omega (arith, m, n);
    more = k.0 ∷ [];
    calls = k.1.0 ∙ ap (λ l. l ++ (k.0 ∷ [])) same.calls;
    notes = (
      record {
        site = k.1.1.0;
        proc = k.1.1.1.0;
        ascending = subst Ascending (sym k.1.1.1.1) tt;
        small = λ q m. let z : is_among q [] ≡ true = subst (λ l. is_among q l ≡ true) k.1.1.1.1 m
            in cc;
        live = λ q. (
          λ m. let z : is_among q [] ≡ true = subst (λ l. is_among q l ≡ true) k.1.1.1.1 m in cc,
          λ y. let z : is_among y.0 [] ≡ true = y.1.0.0 in cc,
        );
      },
      tt,
    );
  }

pub given_on : (a b c : Registers) → SameGiven a b → SameGiven b c → SameGiven a c
given_on a b c x y = record {
  block = y.block ∙ x.block;
  slots = y.slots ∙ x.slots;
  given = y.given ∙ x.given;
  calls
      = y.calls ∙ x.calls;
}
