-- One statement of a block: where it is placed, and that what the selection writes for it are its
-- items.
use Rattle.std.proofs.Common.{◌≡◌, ℕ, suc, ◌*◌, ◌<◌, List, [], ◌∷◌, ◌++◌, map, length, refl, sym, ap, ◌∙◌, append_assoc, subst}
use Rattle.std.specs.Prelude.{Bool, true, false, if◌then◌else◌}
use Rattle.std.specs.declared.boxed.Box.{Box}
use Rattle.std.specs.declared.alloc.AllocError.{AllocError}
use Rattle.std.proofs.Common.{Result, Ok, Err, OnOk}
use Rattle.std.specs.declared.alloc.Global.{Global}
use Rattle.parallel_move.specs.declared.Spot.{Spot}
use Rattle.low_code.specs.declared.program.PrimOp.{PrimOp}
use Rattle.low_code.specs.declared.program.Operand.{Operand}
use Rattle.low_code.specs.declared.program.LowStmt.{LowStmt}
use Rattle.low_code.specs.declared.program.LowStmt.TheVariants.{Set, Prim, Load, Save, Take, Put, Get, Call, Join}
use Rattle.low_code.specs.declared.program.LowBlock.{LowBlock}
use Rattle.low_code.specs.Tree.{Code, set, prim, load, save, take, put, get, call, join, Program, before_of, code_of}
use Rattle.low_code.proofs.TreeOf.{before_of-Set, before_of-Prim, before_of-Load, before_of-Save, before_of-Take, before_of-Put, before_of-Get, before_of-Call, before_of-Join}
use Rattle.register_alloc.specs.Assignment.{Assignment, place_of, saves_at}
use Rattle.rv32_items.specs.declared.Item.{Item}
use Rattle.rv32_items.specs.declared.Item.TheVariants.{Label}
use Rattle.rv32_select.specs.declared.source.Source.{Source}
use Rattle.rv32_select.specs.declared.source.Continuation.TheVariants.{Follows}
use Rattle.rv32_select.specs.Emit.{plain, set_code, prim_code, load_code, save_code, take_items, put_code, get_code}
use Rattle.rv32_select.specs.IsSelected.{call_items, source, heap_end, heap_full, places, Then, Emits, EmitsDecided}
use Rattle.rv32_select.specs.Decides.{compares, decides_code, decides}
use Rattle.rv32_select.specs.Ranges.{IsSource}
use Rattle.rv32_select.specs.Writable.{HasPlace, HavePlaces, OperandPlaced, TargetsPlaced, CallPlaced, Placed}
use Rattle.rv32_select.specs.Emitting.{link_aside, link_back, Called, Emitted, Before}
use Rattle.rv32_select.proofs.Rounded.{rounded}

-- what is placed in a statement
module _ (l : Program) (a : Assignment) (stmt : LowStmt) where
  abbrev Somewhere : Type 0
  Somewhere = (c : Code) × Placed l a (before_of stmt c)

  here : (f : Code → Code) → before_of stmt ≡ f → Somewhere → (c : Code) × Placed l a (f c)
  here f e h = (h.0, rw (sym e) h.1)

  pub set_placed : (x : ℕ) (b : Operand) → stmt ≡ Set x b → Somewhere → HasPlace l a x
      × OperandPlaced l a b
  set_placed x b e h = let p = here (set x b) (ap before_of e ∙ before_of-Set x b) h
      in (p.1.0, p.1.1)

  pub prim_placed : (f : PrimOp) (x : ℕ) (b d : Operand) → stmt ≡ Prim f x b d → Somewhere
      → HasPlace l a x × (OperandPlaced l a b × OperandPlaced l a d)
  prim_placed f x b d e h = let p = here (prim f x b d) (ap before_of e ∙ before_of-Prim f x b d) h
      in (p.1.0, (p.1.1, p.1.2))

  pub load_placed : (x : ℕ) (b : Operand) (k : ℕ) → stmt ≡ Load x b k → Somewhere → HasPlace l a x
      × OperandPlaced l a b
  load_placed x b k e h = let p = here (load x b k) (ap before_of e ∙ before_of-Load x b k) h
      in (p.1.0, p.1.1)

  pub save_placed : (b : Operand) (k : ℕ) (d : Operand) → stmt ≡ Save b k d → Somewhere
      → OperandPlaced l a b × OperandPlaced l a d
  save_placed b k d e h = let p = here (save b k d) (ap before_of e ∙ before_of-Save b k d) h
      in (p.1.0, p.1.1)

  pub take_placed : (xs : List ℕ) → stmt ≡ Take xs → Somewhere → HavePlaces l a xs
      × (4 * l.width * length xs < 4294967296)
  take_placed xs e h = let p = here (take xs) (ap before_of e ∙ before_of-Take xs) h
      in (p.1.0, p.1.1)

  pub put_placed : (b : Operand) → stmt ≡ Put b → Somewhere → OperandPlaced l a b
  put_placed b e h = let p = here (put b) (ap before_of e ∙ before_of-Put b) h in p.1.0

  pub get_placed : (x : ℕ) → stmt ≡ Get x → Somewhere → HasPlace l a x
  get_placed x e h = let p = here (get x) (ap before_of e ∙ before_of-Get x) h in p.1.0

  pub call_placed : (f site : ℕ) (as' : List Operand) (xs : List ℕ) → stmt ≡ Call f site as' xs
      → Somewhere → CallPlaced l a f site as' xs
  call_placed f site as' xs e h = let p = here (call f site as' xs)
      (ap before_of e ∙ before_of-Call f site as' xs) h in p.1.0

  pub join_placed : (xs : List ℕ) (b : Box LowBlock Global) → stmt ≡ Join xs b → Somewhere
      → TargetsPlaced l a xs × Placed l a (code_of b.value)
  join_placed xs b e h = let p = here (join xs (code_of b.value))
      (ap before_of e ∙ before_of-Join xs b) h in (p.1.0, p.1.1)

-- what is placed in a block that was taken out of a statement or an end
pub joined_placed : (l : Program) (a : Assignment) (s : LowStmt) (xs items : List ℕ)
    (b : Box LowBlock Global) (block : LowBlock) → s ≡ Join xs b → items ≡ xs → block ≡ b.value
    → ((c : Code) × Placed l a (before_of s c)) → TargetsPlaced l a items
    × Placed l a (code_of block)
joined_placed l a s xs items b block is same e h =
    let p = join_placed l a s xs b is h in
    (subst (TargetsPlaced l a) (sym same) p.0, subst (λ c. Placed l a (code_of c)) (sym e) p.1)

pub undecided : (f : PrimOp) (x : ℕ) (c : Code) → decides_code x c ≡ false → decides f x c ≡ false
undecided f x c h = by_test (compares f)
  where
    by_test : (t : Bool) → (if t then decides_code x c else false) ≡ false
    by_test true = h
    by_test false = refl

-- a statement's items
module _ (l : Program) (a : Assignment) (cells stack words saved : ℕ) (framed : Bool)
    (stmt : LowStmt) (old new : List Item) (n : ℕ) where
  abbrev Done : Type 0
  Done = Before l a cells stack words saved framed (before_of stmt) old n new n

  done : (f : Code → Code) → before_of stmt ≡ f → Before l a cells stack words saved framed f old n
      new n → Done
  done f e h = rw e h

  pub set_done : (x : ℕ) (b : Operand) (p : Spot) (s : Source) → stmt ≡ Set x b → p ≡ place_of a x
      → (s ≡ source l a b) × IsSource s → new ≡ old ++ plain (set_code p s) → Done
  set_done x b p s e at from is = done (set x b) (ap before_of e ∙ before_of-Set x b) (record {
    items = plain (set_code (place_of a x) (source l a b));
    is = is ∙ (λ i. old ++ plain (set_code (at i) (from.0 i)));
    placed = λ c h. h.2;
    no_choice = λ y c. refl;
    before_choice = λ c h. refl;
    emits = λ to way c k rest free h. (rest, refl, h);
  })

  pub prim_done : (f : PrimOp) (x : ℕ) (b d : Operand) (p : Spot) (s t : Source)
      → stmt ≡ Prim f x b d → p ≡ place_of a x → (s ≡ source l a b) × IsSource s
      → (t ≡ source l a d) × IsSource t → new ≡ old ++ plain (prim_code f p s t) → Done
  prim_done f x b d p s t e at from and is = done (prim f x b d)
      (ap before_of e ∙ before_of-Prim f x b d) (record {
        items = plain (prim_code f (place_of a x) (source l a b) (source l a d));
        is = is ∙ (λ i. old ++ plain (prim_code f (at i) (from.0 i) (and.0 i)));
        placed = λ c h. h.3;
        no_choice = λ y c. refl;
        before_choice = λ c h. undecided f x c (h x);
        emits = λ to way c k rest free h.
            let code = plain (prim_code f (place_of a x) (source l a b) (source l a d)) in
            subst (λ r. elim r as (λ y. Type 0) [
              | true ↦ EmitsDecided l a cells stack words saved framed f (source l a b)
                  (source l a d)
                  to way c n k (code ++ rest)
              | false ↦ Then code
                  (Emits l a cells stack words saved framed to way c n k) (code ++ rest)
            ]) (sym free)
            (rest, refl, h);
      })

  pub load_done : (x : ℕ) (b : Operand) (k : ℕ) (p : Spot) (s : Source) → stmt ≡ Load x b k
      → p ≡ place_of a x → (s ≡ source l a b) × IsSource s → new ≡ old ++ plain (load_code p s k)
      → Done
  load_done x b k p s e at from is = done (load x b k) (ap before_of e ∙ before_of-Load x b k)
      (record {
        items = plain (load_code (place_of a x) (source l a b) k);
        is = is ∙ (λ i. old ++ plain (load_code (at i) (from.0 i) k));
        placed = λ c h. h.2;
        no_choice = λ y c. refl;
        before_choice = λ c h. refl;
        emits = λ to way c k rest free h. (rest, refl, h);
      })

  pub save_done : (b : Operand) (k : ℕ) (d : Operand) (s t : Source) → stmt ≡ Save b k d
      → (s ≡ source l a b) × IsSource s → (t ≡ source l a d) × IsSource t → new ≡ old
      ++ plain (save_code s k t) → Done
  save_done b k d s t e from and is = done (save b k d) (ap before_of e ∙ before_of-Save b k d)
      (record {
        items = plain (save_code (source l a b) k (source l a d));
        is = is ∙ (λ i. old ++ plain (save_code (from.0 i) k (and.0 i)));
        placed = λ c h. h.2;
        no_choice = λ y c. refl;
        before_choice = λ c h. refl;
        emits = λ to way c k rest free h. (rest, refl, h);
      })

  pub take_done : (xs : List ℕ) → stmt ≡ Take xs → new ≡ old
      ++ take_items (4 * l.width) (heap_full l) (map (place_of a) xs) → Done
  take_done xs e is = done (take xs) (ap before_of e ∙ before_of-Take xs) (record {
    items = take_items (4 * l.width) (heap_full l) (places a xs);
    is = is;
    placed = λ c h. h.2;
    no_choice = λ y c. refl;
    before_choice = λ c h. refl;
    emits = λ to way c k rest free h. (rest, refl, h);
  })

  pub put_done : (b : Operand) (s : Source) (end : ℕ) (c1 c2 : List Item) → stmt ≡ Put b
      → (s ≡ source l a b) × IsSource s → end ≡ heap_end l cells → c1 ≡ old ++ link_aside framed
      → c2 ≡ c1 ++ plain (put_code end s) → new ≡ c2 ++ link_back framed → Done
  put_done b s end c1 c2 e from at one two three =
      let r = rounded framed (plain (put_code (heap_end l cells) (source l a b))) old c1 c2 new one
      (two ∙ (λ i. c1 ++ plain (put_code (at i) (from.0 i)))) three in
      done (put b) (ap before_of e ∙ before_of-Put b)
      (record {
        items = r.items;
        is = r.is;
        placed = λ c h. h.1;
        no_choice
            = λ y c. refl;
        before_choice = λ c h. refl;
        emits
            = λ to way c k rest free h. r.round
            (Emits l a cells stack words saved framed to way c n k) rest h;
      })

  pub get_done : (x : ℕ) (p : Spot) (end : ℕ) (c1 c2 : List Item) → stmt ≡ Get x → p ≡ place_of a x
      → end ≡ heap_end l cells → c1 ≡ old ++ link_aside framed → c2 ≡ c1 ++ plain (get_code end p)
      → new ≡ c2 ++ link_back framed → Done
  get_done x p end c1 c2 e at ends one two three =
      let r = rounded framed (plain (get_code (heap_end l cells) (place_of a x))) old c1 c2 new one
      (two ∙ (λ i. c1 ++ plain (get_code (ends i) (at i)))) three in
      done (get x) (ap before_of e ∙ before_of-Get x)
      (record {
        items = r.items;
        is = r.is;
        placed = λ c h. h.1;
        no_choice
            = λ y c. refl;
        before_choice = λ c h. refl;
        emits
            = λ to way c k rest free h. r.round
            (Emits l a cells stack words saved framed to way c n k) rest h;
      })

  pub call_done : (f site : ℕ) (as' : List Operand) (xs : List ℕ) (c1 c2 : List Item)
      → stmt ≡ Call f site as' xs → c1 ≡ old ++ link_aside framed
      → Called l a saved f site as' xs c1 c2 → new ≡ c2 ++ link_back framed → Done
  call_done f site as' xs c1 c2 e one c three =
      let r = rounded framed (call_items l a saved f as' (saves_at a site) c.arguments c.results)
      old c1 c2 new one c.is three in
      done (call f site as' xs) (ap before_of e ∙ before_of-Call f site as' xs) (record {
        items = r.items;
        is = r.is;
        placed = λ c h. h.1;
        no_choice = λ y c. refl;
        before_choice = λ c h. refl;
        emits = λ to way b k rest free h. (
          c.arguments,
          c.results,
          c.order,
          c.results_order,
          r.round (Emits l a cells stack words saved framed to way b n k) rest h,
        );
      })

pub on_ok : (r : Result (Unit {0}) AllocError) (P Q : Type 0) → (P → Q) → OnOk r P → OnOk r Q
on_ok (Ok t) P Q f h = f h
on_ok (Err t) P Q f h = tt

pub join_done : (l : Program) (a : Assignment) (cells stack words saved : ℕ) (framed : Bool)
    (stmt : LowStmt) (old new : List Item) (n m : ℕ) (xs items : List ℕ) (b : Box LowBlock Global)
    (block : LowBlock) (r : Result (Unit {0}) AllocError) → stmt ≡ Join xs b → items ≡ xs
    → block ≡ b.value
    → OnOk r (Before l a cells stack words saved framed (join items (code_of block)) old n new m)
    → OnOk r (Before l a cells stack words saved framed (before_of stmt) old n new m)
join_done l a cells stack words saved framed stmt old new n m xs items b block (Ok t) e is same h =
    let there : before_of stmt ≡ join items (code_of block)
    = ap before_of e ∙ before_of-Join xs b ∙ (λ i. join (sym is i) (code_of (sym same i))) in
    rw there h
join_done l a cells stack words saved framed stmt old new n m xs items b block (Err t) e is same h
    = tt

pub join_made : (l : Program) (a : Assignment) (cells stack words saved : ℕ) (framed : Bool)
    (c : Code) (xs : List ℕ) (old mid new : List Item) (n label k m : ℕ) (to : List Spot)
    → to ≡ map (place_of a) xs → label ≡ n → k ≡ suc n
    → Emitted l a cells stack words saved framed to (Follows label) c old k mid m → new ≡ mid
    ++ Label label ∷ [] → Before l a cells stack words saved framed (join xs c) old n new m
join_made l a cells stack words saved framed c xs old mid new n label k m to at is next e then' =
    let block : Emits l a cells stack words saved framed (places a xs) (Follows n) c (suc n) m
    e.items = rw (sym next, sym is, sym at) e.emits in
    record {
      items = e.items ++ Label n ∷ [];
      is = then' ∙ ap (λ x. mid ++ Label x ∷ []) is ∙ ap (λ x. x ++ Label n ∷ []) e.is ∙
          append_assoc old e.items (Label n ∷ []);
      placed = λ c h. h.2;
      no_choice = λ y c. refl;
      before_choice = λ c h. refl;
      emits = λ to way b j rest free h. (m, e.items, block, (rest, refl, h));
    }
