-- Statements and arms, one after another, and each by its form.
use Rattle.std.proofs.Common.{◌≡◌, ℕ, zero, suc, ◌+◌, ◌≤◌, List, [], ◌∷◌, ◌++◌, map, drop, length, length-append, Option, Some, slice_get, refl, sym, ap, ◌∙◌, subst, arith}
use Rattle.low_code.specs.declared.program.LowStmt.{LowStmt}
use Rattle.low_code.specs.declared.program.LowArm.{LowArm}
use Rattle.low_code.specs.declared.program.Operand.{Operand}
use Rattle.low_code.specs.declared.program.PrimOp.{PrimOp}
use Rattle.low_code.specs.declared.program.LowTest.{LowTest}
use Rattle.low_code.specs.Tree.{Code, set, prim, load, save, take, put, get, call, join, give, tail, choose, fail, Arms, otherwise, arm, code_of, before_of, arm_of, all_before, arms_before}
use Rattle.low_code.specs.Formed.{uses, binds, arms_binds, used_by, used_by_all, used_by_tests}
use Rattle.low_code.proofs.TreeOf.{arm_of-parts}
use Rattle.register_alloc.specs.Holders.{variables_of}
use Rattle.variable_uses.specs.Uses.{AreUses}
use Rattle.register_alloc.specs.Holders.{AreMarkedForJoin}
use Rattle.register_alloc.specs.Point.{SameGiven, SameText, SamePlaces, EntersInner, Grows, AddsPlaces, Binds, WalksCall, Walks, WalksToRest, WalksStatement, WalksArm, WalksBlock}
use Rattle.register_alloc.specs.declared.holders.Holder.{Holder}
use Rattle.register_alloc.specs.declared.registers.CallSite.{CallSite}
use Rattle.register_alloc.specs.declared.registers.Registers.{Registers}
use Rattle.register_alloc.specs.declared.registers.Text.{Text}
use Rattle.register_alloc.proofs.Walked.{StmtsLeft, stmts_next, ArmsLeft, arms_next, block_whole, nothing_more}
use Rattle.register_alloc.proofs.Walking.{agrees_old, grows_on, grows_same, grows_not, same_places, given_on, onward_on, onward_not, walked_on, plain_goes, still_goes, call_goes, join_goes, arm_goes, give_walks, fail_walks, tail_walks}

-- what was done of statements, and of arms
pub record StmtsDone (text : Text) (end : ℕ) (ss : List LowStmt) (k : ℕ) (old : Registers)
    (held : List (Option Holder)) (now : Registers) (held' : List (Option Holder)) : Type 0 where
  pub grows : Grows old now
  pub variables : StmtsLeft binds (variables_of old.given.items) (variables_of now.given.items) ss k
  pub onward : (c : Code) → WalksToRest text (all_before (map before_of ss) c)
      (all_before (map before_of (drop k ss)) c) end old held now held'

pub record ArmsDone (text : Text) (as' : List LowArm) (k : ℕ) (old : Registers)
    (held : List (Option Holder)) (now : Registers) : Type 0 where
  pub grows : Grows old now
  pub variables : ArmsLeft binds arms_binds (variables_of old.given.items)
      (variables_of now.given.items) as' k
  pub onward : (c : Code) (end : ℕ) → WalksToRest text (choose (arms_before (map arm_of as') c))
      (choose (arms_before (map arm_of (drop k as')) c)) end old held now held

module _ (text : Text) (end : ℕ) where
  abbrev Held' : Type 0
  Held' = List (Option Holder)

  -- ---- one after another

  pub goes_on : (a b c : Code) (r s t : Registers) (h0 h1 h2 : Held') → Grows s t
      → WalksToRest text a b end r h0 s h1 → WalksToRest text b c end s h1 t h2
      → WalksToRest text a c end r h0 t h2
  goes_on a b c r s t h0 h1 h2 g f k place agrees later scope fresh p =
      onward_on place text later scope a b c r s t h1 h2 end
      (f place (agrees_old place s t g agrees) later scope fresh p)
      (λ now n q. k place agrees later now n q)

  pub goes_not : (c : Code) (s : Registers) (h : Held') → WalksToRest text c c end s h s h
  goes_not c s h place agrees later scope fresh p = onward_not place text later scope c s h end
      fresh p

  pub walks_on : (a b : Code) (r s t : Registers) (h0 h1 : Held') → Grows s t
      → WalksToRest text a b end r h0 s h1 → Walks text b end s h1 t → Walks text a end r h0 t
  walks_on a b r s t h0 h1 g f k place agrees later scope fresh p =
      walked_on place text later scope a b r s t h1 end
      (f place (agrees_old place s t g agrees) later scope fresh p)
      (λ now n q. k place agrees later now n q)

  next_stmt : (ss : List LowStmt) (k : ℕ) (s : LowStmt) (c : Code) → slice_get ss k ≡ Some s
      → all_before (map before_of (drop k ss)) c ≡ before_of s
      (all_before (map before_of (drop (suc k) ss)) c)
  next_stmt [] k s c e = cc
  next_stmt (x ∷ ss) zero s c e = let q : x ≡ s = cc
      in ap (λ y. before_of y (all_before (map before_of ss) c)) q
  next_stmt (x ∷ ss) (suc k) s c e = next_stmt ss k s c e

  pub stmts_onward : (ss : List LowStmt) (k : ℕ) (s : LowStmt) (r m t : Registers)
      (h0 h1 h2 : Held') → slice_get ss k ≡ Some s → Grows m t
      → ((c : Code) → WalksToRest text (before_of s c) c end m h1 t h2)
      → ((c : Code) → WalksToRest text (all_before (map before_of ss) c)
      (all_before (map before_of (drop k ss)) c) end r h0 m h1)
      → (c : Code) → WalksToRest text (all_before (map before_of ss) c)
      (all_before (map before_of (drop (k + 1) ss)) c) end r h0 t h2
  stmts_onward ss k s r m t h0 h1 h2 there g one left c =
      let n : suc k ≡ k + 1 = omega arith in
      let rest = all_before (map before_of (drop (suc k) ss)) c in
      subst (λ j. WalksToRest text (all_before (map before_of ss) c)
      (all_before (map before_of (drop j ss)) c) end r h0 t h2) n
      (goes_on (all_before (map before_of ss) c) (before_of s rest) rest r m t h0 h1 h2 g
      (subst (λ w. WalksToRest text (all_before (map before_of ss) c) w end r h0 m h1)
      (next_stmt ss k s c there) (left c)) (one rest))

  none_left : {B : Type 0} (xs : List B) (j : ℕ) → length xs ≤ j → drop j xs ≡ []
  none_left [] zero h = refl
  none_left [] (suc j) h = refl
  none_left (x ∷ xs) zero h = absurd (omega arith)
  none_left (x ∷ xs) (suc j) h = none_left xs j (omega arith)

  pub block_walks : (ss : List LowStmt) (k : ℕ) (e : Code) (r m t : Registers) (h0 h1 : Held')
      → length ss ≤ k → Grows m t
      → ((c : Code) → WalksToRest text (all_before (map before_of ss) c)
      (all_before (map before_of (drop k ss)) c) end r h0 m h1)
      → Walks text e end m h1 t → Walks text (all_before (map before_of ss) e) end r h0 t
  block_walks ss k e r m t h0 h1 past g left last =
      walks_on (all_before (map before_of ss) e) e r m t h0 h1 g
      (subst (λ xs. WalksToRest text (all_before (map before_of ss) e)
      (all_before (map before_of xs) e) end r h0 m h1) (none_left ss k past) (left e)) last

  -- ---- arms

  next_arm : (as' : List LowArm) (k : ℕ) (a : LowArm) (c : Code) → slice_get as' k ≡ Some a
      → arms_before (map arm_of (drop k as')) c ≡ arm a.tests (code_of a.block)
      (arms_before (map arm_of (drop (suc k) as')) c)
  next_arm [] k a c e = cc
  next_arm (x ∷ as') zero a c e =
      let q : x ≡ a = cc in
      let rest = arms_before (map arm_of as') c in
      ap (λ y. arm (arm_of y).0 (arm_of y).1 rest) q ∙ ap (λ p. arm p.0 p.1 rest) (arm_of-parts a)
  next_arm (x ∷ as') (suc k) a c e = next_arm as' k a c e

  pub arm_goes_on : (ts : List LowTest) (b : Code) (rest : Arms) (r s t u : Registers) (h : Held')
      (inner_end : ℕ)
      → s.at ≡ r.at + length (used_by_tests ts) → SameGiven r s → EntersInner text s t inner_end
      → Walks text b inner_end t h u → Grows t u
      → WalksToRest text (choose (arm ts b rest)) (choose rest) end r h u h
  arm_goes_on ts b rest r s t u h inner_end at same e walks g place agrees later scope fresh p =
      arm_goes place text later scope ts b rest r s t u h end inner_end at same e
      (λ n q. walks place agrees later scope n q) g.slots fresh p

  pub arms_onward : (as' : List LowArm) (k : ℕ) (a : LowArm) (r m t : Registers) (h : Held')
      → slice_get as' k ≡ Some a → Grows m t
      → ((rest : Arms) → WalksToRest text (choose (arm a.tests (code_of a.block) rest))
      (choose rest) end m h t h)
      → (c : Code) → WalksToRest text (choose (arms_before (map arm_of as') c))
      (choose (arms_before (map arm_of (drop k as')) c)) end r h m h
      → WalksToRest text (choose (arms_before (map arm_of as') c))
      (choose (arms_before (map arm_of (drop (k + 1) as')) c)) end r h t h
  arms_onward as' k a r m t h there g one c left =
      let n : suc k ≡ k + 1 = omega arith in
      let whole = choose (arms_before (map arm_of as') c) in
      let rest = arms_before (map arm_of (drop (suc k) as')) c in
      subst (λ j. WalksToRest text whole (choose (arms_before (map arm_of (drop j as')) c)) end r h
      t h) n
      (goes_on whole (choose (arm a.tests (code_of a.block) rest)) (choose rest) r m t h h h g
      (subst (λ w. WalksToRest text whole (choose w) end r h m h) (next_arm as' k a c there) left)
      (one rest))

  pub arms_done : (as' : List LowArm) (k : ℕ) (c : Code) (r m : Registers) (h : Held')
      → length as' ≤ k
      → WalksToRest text (choose (arms_before (map arm_of as') c))
      (choose (arms_before (map arm_of (drop k as')) c)) end r h m h
      → WalksToRest text (choose (arms_before (map arm_of as') c)) (choose (otherwise c)) end r h m
      h
  arms_done as' k c r m h past left = subst
      (λ xs. WalksToRest text (choose (arms_before (map arm_of as') c))
      (choose (arms_before (map arm_of xs) c)) end r h m h) (none_left as' k past) left

  -- what is left of a choice without further arms is its last block
  pub last_arm : (w c : Code) (r m : Registers) (h : Held')
      → WalksToRest text w (choose (otherwise c)) end r h m h → WalksToRest text w c end r h m h
  last_arm w c r m h f place agrees later scope fresh p =
      let n = f place agrees later scope fresh p in
      record {
        now = n.now;
        before = record {
          used = n.before.used;
          are = n.before.are;
          uses_stand = n.before.uses_stand;
          ends = n.before.ends;
          sizes_stand = n.before.sizes_stand;
          holding = record {
            many = n.before.holding.many;
            place_is = n.before.holding.place_is;
            bound = n.before.holding.bound;
            holds = n.before.holding.holds;
            below = n.before.holding.below;
            later_is = n.before.holding.later_is;
          };
        };
        none_later = n.none_later;
        each = n.each;
        block = n.block;
        more = n.more;
        calls = n.calls;
        notes = n.notes;
      }

  -- ---- statements by their forms

  two_uses : (a b : Operand) (r s t : Registers) → s.at ≡ r.at + length (used_by a)
      → t.at ≡ s.at + length (used_by b) → t.at ≡ r.at + length (used_by a ++ used_by b)
  two_uses a b r s t x y = let n = length-append (used_by a) (used_by b) in omega (arith, x, y, n)

  pub set_goes : (x : ℕ) (a : Operand) (c : Code) (r s t : Registers) (h h' : Held')
      → s.at ≡ r.at + length (used_by a) → SameGiven r s → Binds text (x ∷ []) end s h t h'
      → t.block ≡ s.block → t.calls.items ≡ s.calls.items
      → WalksToRest text (set x a c) c end r h t h'
  set_goes x a c r s t h h' at same binds block calls place agrees later scope fresh p =
      plain_goes place text later scope (x ∷ []) (set x a c) c (used_by a) r s t h h' end refl refl
      (λ n. n) (λ g e. (g, e)) refl at same (λ n q. binds place agrees later scope c n q) block
      calls fresh p

  pub load_goes : (x : ℕ) (a : Operand) (i : ℕ) (c : Code) (r s t : Registers) (h h' : Held')
      → s.at ≡ r.at + length (used_by a) → SameGiven r s → Binds text (x ∷ []) end s h t h'
      → t.block ≡ s.block → t.calls.items ≡ s.calls.items
      → WalksToRest text (load x a i c) c end r h t h'
  load_goes x a i c r s t h h' at same binds block calls place agrees later scope fresh p =
      plain_goes place text later scope (x ∷ []) (load x a i c) c (used_by a) r s t h h' end refl
      refl (λ n. n) (λ g e. (g, e)) refl at same (λ n q. binds place agrees later scope c n q)
      block calls fresh p

  regroup : (xs ys zs : List ℕ) → xs ++ (ys ++ zs) ≡ (xs ++ ys) ++ zs
  regroup [] ys zs = refl
  regroup (x ∷ xs) ys zs = ap (λ l. x ∷ l) (regroup xs ys zs)

  pub prim_goes : (f : PrimOp) (x : ℕ) (a b : Operand) (c : Code) (r m s t : Registers)
      (h h' : Held') → m.at ≡ r.at + length (used_by a) → SameGiven r m
      → s.at ≡ m.at + length (used_by b) → SameGiven m s
      → Binds text (x ∷ []) end s h t h' → t.block ≡ s.block → t.calls.items ≡ s.calls.items
      → WalksToRest text (prim f x a b c) c end r h t h'
  prim_goes f x a b c r m s t h h' at same at' same' binds block calls place agrees later scope
      fresh p =
      plain_goes place text later scope (x ∷ []) (prim f x a b c) c (used_by a ++ used_by b) r s t h
      h' end (regroup (used_by a) (used_by b) (uses c)) refl (λ n. n) (λ g e. (g, e)) refl
      (two_uses a b r m s at at')
      (given_on r m s same same') (λ n q. binds place agrees later scope c n q) block calls fresh p

  pub take_goes : (xs : List ℕ) (c : Code) (r t : Registers) (h h' : Held')
      → Binds text xs end r h t h' → t.block ≡ r.block → t.calls.items ≡ r.calls.items
      → WalksToRest text (take xs c) c end r h t h'
  take_goes xs c r t h h' binds block calls place agrees later scope fresh p =
      plain_goes place text later scope xs (take xs c) c [] r r t h h' end refl refl (λ n. n)
      (λ g e. (g, e)) refl (omega arith)
      (record { block = refl; slots = refl; given = refl; calls = refl })
      (λ n q. binds place agrees later scope c n q) block calls fresh p

  pub get_goes : (x : ℕ) (c : Code) (r t : Registers) (h h' : Held')
      → Binds text (x ∷ []) end r h t h' → t.block ≡ r.block → t.calls.items ≡ r.calls.items
      → WalksToRest text (get x c) c end r h t h'
  get_goes x c r t h h' binds block calls place agrees later scope fresh p =
      plain_goes place text later scope (x ∷ []) (get x c) c [] r r t h h' end refl refl (λ n. n)
      (λ g e. (g, e)) refl (omega arith)
      (record { block = refl; slots = refl; given = refl; calls = refl })
      (λ n q. binds place agrees later scope c n q) block calls fresh p

  pub save_goes : (a : Operand) (i : ℕ) (b : Operand) (c : Code) (r m s : Registers) (h : Held')
      → m.at ≡ r.at + length (used_by a) → SameGiven r m → s.at ≡ m.at + length (used_by b)
      → SameGiven m s
      → WalksToRest text (save a i b c) c end r h s h
  save_goes a i b c r m s h at same at' same' place agrees later scope fresh p =
      still_goes place text later scope (save a i b c) c (used_by a ++ used_by b) r s h end
      (regroup (used_by a) (used_by b) (uses c)) refl (λ n. n) (λ e. e) refl
      (two_uses a b r m s at at') (given_on r m s same same') fresh p

  pub put_goes : (a : Operand) (c : Code) (r s : Registers) (h : Held')
      → s.at ≡ r.at + length (used_by a) → SameGiven r s → WalksToRest text (put a c) c end r h s h
  put_goes a c r s h at same place agrees later scope fresh p =
      still_goes place text later scope (put a c) c (used_by a) r s h end refl refl (λ n. n)
      (λ e. e) refl at same fresh p

  pub call_goes_on : (f site : ℕ) (ops : List Operand) (xs : List ℕ) (c : Code) (r s t : Registers)
      (h h' : Held') → s.at ≡ r.at + length (used_by_all ops) → SameGiven r s
      → Binds text xs end s h t h' → WalksCall text site f end s h t → t.block ≡ s.block
      → WalksToRest text (call f site ops xs c) c end r h t h'
  call_goes_on f site ops xs c r s t h h' at same binds notes block place agrees later scope fresh p
      =
      call_goes place text later scope xs f site ops c r s t h h' end at same
      (λ n q. binds place agrees later scope c n q) (λ q. notes place agrees later scope c q)
      block fresh p

  pub join_goes_on : (xs : List ℕ) (b c : Code) (r s t u : Registers) (h inner h' : Held')
      (inner_end : ℕ) → EntersInner text r s inner_end
      → ((used : List ℕ) → AreUses used text.uses → AreMarkedForJoin used inner_end end h inner)
      → Walks text b inner_end s inner t → Grows s t → Grows t u
      → Binds text xs end t h u h' → u.block ≡ t.block → u.calls.items ≡ t.calls.items
      → WalksToRest text (join xs b c) c end r h u h'
  join_goes_on xs b c r s t u h inner h' inner_end e enter walks g g' binds block calls place agrees
      later scope fresh p =
      join_goes place text later scope xs b c r s t u h inner h' end inner_end e enter
      (λ n q. walks place (agrees_old place t u g' agrees) (uses c ++ later) scope n q) g.slots
      (λ n q. binds place agrees later scope c n q) block calls fresh p

  -- ---- ends

  pub give_ends : (ops : List Operand) (r s : Registers) (h : Held')
      → s.at ≡ r.at + length (used_by_all ops) → SameGiven r s → Walks text (give ops) end r h s
  give_ends ops r s h at same place agrees later scope fresh p
      = give_walks place text later scope ops r s h end at same p

  pub fail_ends : (r : Registers) (h : Held') → Walks text fail end r h r
  fail_ends r h place agrees later scope fresh p = fail_walks place text later scope r h end p

  pub tail_ends : (f site : ℕ) (ops : List Operand) (r s t : Registers) (h : Held')
      → s.at ≡ r.at + length (used_by_all ops) → SameGiven r s
      → ((k : CallSite) ×
      ((t.calls.items ≡ s.calls.items ++ (k ∷ []))
      × ((k.site ≡ site) × ((k.proc ≡ f) × (k.live ≡ []))))) → SameText s t
      → Walks text (tail f site ops) end r h t
  tail_ends f site ops r s t h at same k same' place agrees later scope fresh p
      = tail_walks place text later scope f site ops r s t h end at same k same' p

  -- ---- with the variables that are bound

  pub does_by : (f : Code → Code) (xs : List ℕ) (r s t : Registers) (h h' : Held') → SamePlaces r s
      → AddsPlaces xs s t → ((c : Code) → binds (f c) ≡ xs ++ binds c)
      → ((c : Code) → WalksToRest text (f c) c end r h t h')
      → WalksStatement text f end r h t h'
  does_by f xs r s t h h' same adds is onward = record {
    grows = grows_on r s t (grows_same r s same) adds.grows;
    variables = λ c.
        ap (λ l. variables_of r.given.items ++ l) (is c) ∙ regroup (variables_of r.given.items) xs
        (binds c)
        ∙ ap (λ l. l ++ binds c)
        (ap (λ gs. variables_of gs ++ xs) (sym same.given) ∙ sym adds.variables);
    onward = onward;
  }

  pub does_still : (f : Code → Code) (r s : Registers) (h : Held') → SamePlaces r s
      → ((c : Code) → binds (f c) ≡ binds c) → ((c : Code) → WalksToRest text (f c) c end r h s h)
      → WalksStatement text f end r h s h
  does_still f r s h same is onward = record {
    grows = grows_same r s same;
    variables = λ c. ap (λ l. variables_of r.given.items ++ l) (is c) ∙ ap
        (λ gs. variables_of gs ++ binds c) (sym same.given);
    onward = onward;
  }

  pub does_join : (xs : List ℕ) (b : Code) (r s t u : Registers) (h inner h' : Held')
      (inner_end : ℕ) → EntersInner text r s inner_end
      → ((used : List ℕ) → AreUses used text.uses → AreMarkedForJoin used inner_end end h inner)
      → WalksBlock text b inner_end s inner t → AddsPlaces xs t u
      → Binds text xs end t h u h' → u.block ≡ t.block → u.calls.items ≡ t.calls.items
      → WalksStatement text (join xs b) end r h u h'
  does_join xs b r s t u h inner h' inner_end e enter ends adds binds' block calls = record {
    grows = grows_on r s u (grows_same r s e.stays) (grows_on s t u ends.grows adds.grows);
    variables = λ c.
        regroup (variables_of r.given.items) (binds b) (xs ++ binds c)
        ∙ ap (λ l. l ++ (xs ++ binds c))
        (ap (λ gs. variables_of gs ++ binds b) (sym e.stays.given) ∙ sym ends.variables)
        ∙ regroup (variables_of t.given.items) xs (binds c)
        ∙ ap (λ l. l ++ binds c) (sym adds.variables);
    onward = λ c. join_goes_on xs b c r s t u h inner h' inner_end e enter ends.walked ends.grows
        adds.grows binds' block calls;
  }

  pub ends_choice : (as' : List LowArm) (c : Code) (r s t : Registers) (h : Held')
      → WalksStatement text (λ c. choose (arms_before (map arm_of as') c)) end r h s h
      → WalksBlock text c end s h t
      → WalksBlock text (choose (arms_before (map arm_of as') c)) end r h t
  ends_choice as' c r s t h d e = record {
    grows = grows_on r s t d.grows e.grows;
    variables = e.variables ∙ sym (d.variables c);
    walked = walks_on (choose (arms_before (map arm_of as') c)) c r s t h h e.grows (d.onward c)
        e.walked;
  }

  pub ends_give : (ops : List Operand) (r s : Registers) (h : Held')
      → s.at ≡ r.at + length (used_by_all ops) → SameGiven r s
      → WalksBlock text (give ops) end r h s
  ends_give ops r s h at same = record {
    grows = grows_same r s (same_places r s same);
    variables = ap variables_of same.given ∙ nothing_more (variables_of r.given.items);
    walked = give_ends ops r s h at same;
  }

  pub ends_fail : (r : Registers) (h : Held') → WalksBlock text fail end r h r
  ends_fail r h = record {
    grows = grows_not r;
    variables = nothing_more (variables_of r.given.items);
    walked
        = fail_ends r h;
  }

  pub ends_tail : (f site : ℕ) (ops : List Operand) (r s t : Registers) (h : Held')
      → s.at ≡ r.at + length (used_by_all ops) → SameGiven r s
      → ((k : CallSite) ×
      ((t.calls.items ≡ s.calls.items ++ (k ∷ []))
      × ((k.site ≡ site) × ((k.proc ≡ f) × (k.live ≡ []))))) → SameText s t → SamePlaces s t
      → WalksBlock text (tail f site ops) end r h t
  ends_tail f site ops r s t h at same k same' places = record {
    grows = grows_on r s t (grows_same r s (same_places r s same)) (grows_same s t places);
    variables = ap variables_of (places.given ∙ same.given) ∙ nothing_more
        (variables_of r.given.items);
    walked = tail_ends f site ops r s t h at same k same';
  }

  pub does_next : (ss : List LowStmt) (k : ℕ) (s : LowStmt) (r m t : Registers) (h0 h1 h2 : Held')
      → slice_get ss k ≡ Some s → WalksStatement text (before_of s) end m h1 t h2
      → StmtsDone text end ss k r h0 m h1 → StmtsDone text end ss (k + 1) r h0 t h2
  does_next ss k s r m t h0 h1 h2 there d u =
      let n : suc k ≡ k + 1 = omega arith in
      record {
        grows = grows_on r m t u.grows d.grows;
        variables = subst
            (λ j. StmtsLeft binds (variables_of r.given.items) (variables_of t.given.items) ss j) n
            (stmts_next binds (variables_of r.given.items) (variables_of m.given.items)
            (variables_of t.given.items) ss k s there d.variables u.variables);
        onward = stmts_onward ss k s r m t h0 h1 h2 there d.grows d.onward u.onward;
      }

  pub does_nothing : (ss : List LowStmt) (r : Registers) (h : Held')
      → StmtsDone text end ss 0 r h r h
  does_nothing ss r h = record {
    grows = grows_not r;
    variables = λ c. refl;
    onward
        = λ c. goes_not (all_before (map before_of ss) c) r h;
  }

  pub ends_block : (ss : List LowStmt) (k : ℕ) (e : Code) (r m t : Registers) (h0 h1 : Held')
      → length ss ≤ k → StmtsDone text end ss k r h0 m h1 → WalksBlock text e end m h1 t
      → WalksBlock text (all_before (map before_of ss) e) end r h0 t
  ends_block ss k e r m t h0 h1 past u last = record {
    grows = grows_on r m t u.grows last.grows;
    variables = block_whole binds (variables_of r.given.items) (variables_of m.given.items)
        (variables_of t.given.items) ss k e past u.variables last.variables;
    walked = block_walks ss k e r m t h0 h1 past last.grows u.onward last.walked;
  }

  -- ---- arms

  pub no_arm_yet : (as' : List LowArm) (r : Registers) (h : Held') → ArmsDone text as' 0 r h r
  no_arm_yet as' r h = record {
    grows = grows_not r;
    variables = λ c. refl;
    onward
        = λ c e. goes_not' e (choose (arms_before (map arm_of as') c));
  }
    where
      goes_not' : (e : ℕ) (c : Code) → WalksToRest text c c e r h r h
      goes_not' e c place agrees later scope fresh p
          = onward_not place text later scope c r h e fresh p

module _ (text : Text) where
  pub next_arm_done : (as' : List LowArm) (k : ℕ) (a : LowArm) (r m t : Registers)
      (h : List (Option Holder)) → slice_get as' k ≡ Some a
      → WalksArm text a.tests (code_of a.block) m h t → ArmsDone text as' k r h m
      → ArmsDone text as' (k + 1) r h t
  next_arm_done as' k a r m t h there d u =
      let n : suc k ≡ k + 1 = omega arith in
      record {
        grows = grows_on r m t u.grows d.grows;
        variables = subst
            (λ j. ArmsLeft binds arms_binds (variables_of r.given.items)
            (variables_of t.given.items) as' j) n
            (arms_next binds arms_binds (λ ts b rest. refl) (variables_of r.given.items)
            (variables_of m.given.items) (variables_of t.given.items) as' k a there d.variables
            u.variables);
        onward = λ c end. arms_onward text end as' k a r m t h there d.grows
            (λ rest. d.onward rest end) c (u.onward c end);
      }

  pub arms_all_done : (as' : List LowArm) (k : ℕ) (r t : Registers) (h : List (Option Holder))
      → length as' ≤ k → ArmsDone text as' k r h t → (end : ℕ)
      → WalksStatement text (λ c. choose (arms_before (map arm_of as') c)) end r h t h
  arms_all_done as' k r t h past u end = record {
    grows = u.grows;
    variables = λ c. u.variables c ∙ ap
        (λ xs. variables_of t.given.items ++ arms_binds (arms_before (map arm_of xs) c))
        (none_left text end as' k past);
    onward = λ c. last_arm text end (choose (arms_before (map arm_of as') c)) c r t h
        (arms_done text end as' k c r t h past (u.onward c end));
  }

  pub does_arm : (ts : List LowTest) (b : Code) (r s t u : Registers)
      (h copy : List (Option Holder)) (inner_end : ℕ) → s.at ≡ r.at + length (used_by_tests ts)
      → SameGiven r s → EntersInner text s t inner_end
      → copy ≡ h → WalksBlock text b inner_end t copy u → WalksArm text ts b r h u
  does_arm ts b r s t u h copy inner_end at same e is ends = record {
    grows = grows_on r s u (grows_same r s (same_places r s same))
        (grows_on s t u (grows_same s t e.stays) ends.grows);
    variables = ends.variables ∙ ap (λ gs. variables_of gs ++ binds b) (e.stays.given ∙ same.given);
    onward = λ rest end. arm_goes_on text end ts b rest r s t u h inner_end at same e
        (subst (λ l. Walks text b inner_end t l u) is ends.walked) ends.grows;
  }
