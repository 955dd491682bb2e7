-- The labels of a block's own rise.
use Rattle.std.proofs.Common.{ℕ, suc, ◌≤◌, List, Bool, true, false, None, inl, inr, sym, subst, arith}
use Rattle.low_code.specs.declared.program.Operand.{Operand}
use Rattle.parallel_move.specs.declared.Spot.{Spot}
use Rattle.low_code.specs.declared.program.PrimOp.{PrimOp}
use Rattle.low_code.specs.Tree.{Code, set, prim, load, save, take, put, get, call, join, give, tail, choose, fail, Arms, otherwise, arm, Procedure, Program}
use Rattle.low_code.specs.Formed.{variables}
use Rattle.register_alloc.specs.Assignment.{Assignment, place_of, words_at}
use Rattle.register_alloc.specs.Fits.{slots_of}
use Rattle.rv32_items.specs.declared.Item.{Item}
use Rattle.rv32_select.specs.declared.source.Source.{Source}
use Rattle.rv32_select.specs.declared.source.Continuation.{Continuation}
use Rattle.rv32_select.specs.declared.source.Continuation.TheVariants.{Returns, Follows}
use Rattle.rv32_select.specs.Emit.{plain, prim_code, result_spots}
use Rattle.rv32_select.specs.Decides.{decides}
use Rattle.rv32_select.specs.IsSelected.{EmitsEach, Round, Emits, EmitsArms, EmitsLast, EmitsDecided, EmitsDecidedFirst, EmitsDecidedLast, Then, EmitsProcedure, continued_by_jump, places, source, first_arm_goes_last}
use Rattle.rv32_select.specs.Halves.{SearchedArm}
use Rattle.rv32_select.proofs.HalvesFacts.{AllOf, IsUp, halves_up}

-- what follows of both, whichever it is
pub whichever : {A : Type 0} (T F : Type 0) (r : Bool) → (T → A) → (F → A)
    → elim r as (λ x. Type 0) [ true ↦ T | false ↦ F ] → A
whichever T F true f g h = f h
whichever T F false f g h = g h

-- what stands behind a piece that needs x1
pub behind_round : (framed : Bool) (piece : List Item) (Rest : List Item → Type 0)
    (items : List Item) → Round framed piece Rest items → (rest : List Item) × Rest rest
behind_round true piece Rest items h = (h.0, h.2)
behind_round false piece Rest items h = (h.2.2.0, h.2.2.2)

module _ (l : Program) (a : Assignment) (cells stack words saved : ℕ) (framed : Bool) where
  mutual
    pub emits_up : (c : Code) (to : List Spot) (way : Continuation) (n m : ℕ) (items : List Item)
        → Emits l a cells stack words saved framed to way c n m items → n ≤ m
    emits_up (set x b c) to way n m items h = emits_up c to way n m h.0 h.2
    emits_up (prim f x b d c) to way n m items h =
        whichever
        (EmitsDecided l a cells stack words saved framed f (source l a b) (source l a d) to way
        c n m items)
        (Then (plain (prim_code f (place_of a x) (source l a b) (source l a d)))
        (Emits l a cells stack words saved framed to way c n m) items) (decides f x c)
        (λ z. decided_up c f (source l a b) (source l a d) to way n m items z)
        (λ z. emits_up c to way n m z.0 z.2) h
    emits_up (load x b k c) to way n m items h = emits_up c to way n m h.0 h.2
    emits_up (save b k d c) to way n m items h = emits_up c to way n m h.0 h.2
    emits_up (take xs c) to way n m items h = emits_up c to way n m h.0 h.2
    emits_up (put b c) to way n m items h = let r = behind_round framed _
        (Emits l a cells stack words saved framed to way c n m) items h
        in emits_up c to way n m r.0 r.1
    emits_up (get x c) to way n m items h = let r = behind_round framed _
        (Emits l a cells stack words saved framed to way c n m) items h
        in emits_up c to way n m r.0 r.1
    emits_up (call f site os xs c) to way n m items h = let r
        = behind_round framed _ (Emits l a cells stack words saved framed to way c n m) items h.4
        in emits_up c to way n m r.0 r.1
    emits_up (join xs b c) to way n m items h =
        let first = emits_up b (places a xs) (Follows n) (suc n) h.0 h.1 h.2 in
        let second = emits_up c to way h.0 m h.3.0 h.3.2 in
        omega arith
    emits_up (give os) to way n m items h = let e = h.0 in omega arith
    emits_up (tail f site os) to way n m items h = let e = h.0 in omega arith
    emits_up (choose as') to way n m items (inl h) =
        let each = each_up h.0 as' to way h.1 h.2 m h.4 h.6 in
        let up = halves_up n (source l a h.0) 0 None h.1 (suc n) h.2 h.3 h.5 each.0 in
        let more = each.1 in
        omega (arith, up, more)
    emits_up (choose as') to way n m items (inr h) =
        whichever (EmitsLast l a cells stack words saved framed to way as' n m items)
        (EmitsArms l a cells stack words saved framed to way as' n m items)
        (first_arm_goes_last way as')
        (λ z. last_up as' to way n m items z) (λ z. arms_up as' to way n m items z) h
    emits_up fail to way n m items h = let e = h.0 in omega arith

    pub arms_up : (as' : Arms) (to : List Spot) (way : Continuation) (n m : ℕ) (items : List Item)
        → EmitsArms l a cells stack words saved framed to way as' n m items → n ≤ m
    arms_up (otherwise c) to way n m items h = emits_up c to way n m items h
    arms_up (arm ts c as') to way n m items h =
        let first = emits_up c to (continued_by_jump way) (suc n) h.0 h.1 h.2 in
        let second = arms_up as' to way h.0 m h.3.0 h.3.2 in
        omega arith

    pub each_up : (word : Operand) (as' : Arms) (to : List Spot) (way : Continuation)
        (all : List SearchedArm) (k m : ℕ) (rest : List Item)
        → EmitsEach l a cells stack words saved framed word to way as' all k m rest → AllOf IsUp all
        × (k ≤ m)
    each_up word (otherwise c) to way all k m rest h
        = (subst (AllOf IsUp) (sym h.0) tt, emits_up c to way k m rest h.1)
    each_up word (arm ts c as') to way all k m rest h =
        let more = each_up word as' to way h.1 k m rest h.5 in (
          subst (AllOf IsUp) (sym h.2)
              (emits_up c to (continued_by_jump way) h.0.first h.0.next h.0.block h.4, more.0),
          more.1,
        )

    pub last_up : (as' : Arms) (to : List Spot) (way : Continuation) (n m : ℕ) (items : List Item)
        → EmitsLast l a cells stack words saved framed to way as' n m items → n ≤ m
    last_up (otherwise c) to way n m items h = absurd h
    last_up (arm ts c as') to way n m items h =
        let first = arms_up as' to (continued_by_jump way) (suc n) h.2 h.3 h.4 in
        let second = emits_up c to way h.2 m h.5.0 h.5.2 in
        omega arith

    -- a choice that a comparison decides
    pub decided_up : (c : Code) (f : PrimOp) (left right : Source) (to : List Spot)
        (way : Continuation) (n m : ℕ) (items : List Item)
        → EmitsDecided l a cells stack words saved framed f left right to way c n m items → n ≤ m
    decided_up (choose as') f left right to way n m items h =
        whichever
        (EmitsDecidedLast l a cells stack words saved framed f left right to way as' n m items)
        (EmitsDecidedFirst l a cells stack words saved framed f left right to way as' n m items)
        (first_arm_goes_last way as')
        (λ z. decided_last_up as' f left right to way n m items z)
        (λ z. decided_first_up as' f left right to way n m items z) h
    decided_up (set x b c) f left right to way n m items h = absurd h
    decided_up (prim g x b d c) f left right to way n m items h = absurd h
    decided_up (load x b k c) f left right to way n m items h = absurd h
    decided_up (save b k d c) f left right to way n m items h = absurd h
    decided_up (take xs c) f left right to way n m items h = absurd h
    decided_up (put b c) f left right to way n m items h = absurd h
    decided_up (get x c) f left right to way n m items h = absurd h
    decided_up (call g site os xs c) f left right to way n m items h = absurd h
    decided_up (join xs b c) f left right to way n m items h = absurd h
    decided_up (give os) f left right to way n m items h = absurd h
    decided_up (tail g site os) f left right to way n m items h = absurd h
    decided_up fail f left right to way n m items h = absurd h

    pub decided_first_up : (as' : Arms) (f : PrimOp) (left right : Source) (to : List Spot)
        (way : Continuation) (n m : ℕ) (items : List Item)
        → EmitsDecidedFirst l a cells stack words saved framed f left right to way as' n m items
        → n ≤ m
    decided_first_up (otherwise c) f left right to way n m items h = absurd h
    decided_first_up (arm ts c as') f left right to way n m items h =
        let first = emits_up c to (continued_by_jump way) (suc n) h.0 h.1 h.2 in
        let second = arms_up as' to way h.0 m h.3.0 h.3.2 in
        omega arith

    pub decided_last_up : (as' : Arms) (f : PrimOp) (left right : Source) (to : List Spot)
        (way : Continuation) (n m : ℕ) (items : List Item)
        → EmitsDecidedLast l a cells stack words saved framed f left right to way as' n m items
        → n ≤ m
    decided_last_up (otherwise c) f left right to way n m items h = absurd h
    decided_last_up (arm ts c as') f left right to way n m items h =
        let first = arms_up as' to (continued_by_jump way) (suc n) h.0 h.1 h.2 in
        let second = emits_up c to way h.0 m h.3.0 h.3.2 in
        omega arith

pub procedure_up : (l : Program) (a : Assignment) (cells stack f : ℕ) (q : Procedure) (n m : ℕ)
    (items : List Item) → EmitsProcedure l a cells stack f q n m items → n ≤ m
procedure_up l a cells stack f q n m items e =
    emits_up l a cells stack (words_at a f) (slots_of (place_of a) (variables q)) e.framed q.body
    (result_spots 10 q.results) Returns n m e.block e.body
