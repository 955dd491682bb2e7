-- The arms behind the first: whether a test holds, and what holds where a choice goes on behind
-- its arms by a jump.
use Rattle.std.proofs.Common.{◌≡◌, ℕ, List, Bool, true, false, Some, None, refl}
use Rattle.std.specs.Prelude.{Option, nat_eq}
use Rattle.parallel_move.specs.declared.Spot.{Spot}
use Rattle.low_code.specs.Tree.{Procedure, Program}
use Rattle.low_code.specs.Values.{Word, World, and_then}
use Rattle.low_code.specs.Run.{Calls}
use Rattle.register_alloc.specs.Assignment.{Assignment}
use Rattle.rv32_items.specs.declared.Item.{Item}
use Rattle.rv32_items.specs.Course.{Layout, Point}
use Rattle.rv32_select.specs.declared.source.Continuation.{Continuation}
use Rattle.rv32_select.specs.declared.source.Continuation.TheVariants.{Returns, Follows, Jumps}
use Rattle.rv32_select.specs.IsSelected.{continued_by_jump}
use Rattle.rv32_select.proofs.Straight.{Data}
use Rattle.rv32_select.proofs.Relation.{Given}
use Rattle.rv32_select.proofs.PlaceFacts.{ProcedureFine, Setting}
use Rattle.rv32_select.proofs.BlockFacts.{InRegisters, Ready}

pub held_or_not : (r : Option ℕ) (right : ℕ) (b : Bool)
    → and_then r (λ k. elim (nat_eq k right) [ true ↦ Some true | false ↦ Some false ]) ≡ Some b
    → (k : ℕ) × ((r ≡ Some k) × (nat_eq k right ≡ b))
held_or_not None right b e = absurd (cc)
held_or_not (Some k) right b e = (k, (refl, by_same (nat_eq k right) e))
  where
    by_same : (z : Bool) → elim z [ true ↦ Some true | false ↦ Some false ] ≡ Some b → z ≡ b
    by_same true e = cc
    by_same false e = cc

module _ (l : Program) (a : Assignment) (cells stack : ℕ) (lay : Layout) (items : List Item)
    (begins : List ℕ) (s : Setting l a cells stack lay items begins) (calls_n : Calls) (n : ℕ)
    (f : ℕ) (q : Procedure) (pf : ProcedureFine l a f q) (framed : Bool) (j m : ℕ) (outer : List ℕ)
    (d0 : Data) (u : ℕ) where
  pub further_given : (to : List Spot) (way : Continuation) (Must : ℕ → Word → Type 0)
      (vs : List Word) (v : World) (p : Point) (c : List ℕ)
      → Given l a cells stack lay items framed f j pf.slots d0 m outer to (continued_by_jump way)
      Must vs v p c → Given l a cells stack lay items framed f j pf.slots d0 m outer to way Must vs
      v p c
  further_given to Returns Must vs v p c h = h
  further_given to (Follows k) Must vs v p c h = h
  further_given to (Jumps k) Must vs v p c h = h

  pub further_ready : (way : Continuation) (e e' : ℕ) → Ready l a cells stack lay items begins way e
      → Ready l a cells stack lay items begins (continued_by_jump way) e'
  further_ready Returns e e' h = tt
  further_ready (Follows k) e e' h = (e, h)
  further_ready (Jumps k) e e' h = h

  pub further_registers : (way : Continuation) (to : List Spot)
      → InRegisters l a cells stack lay items begins f q framed pf.slots j m outer d0 u n way to
      → InRegisters l a cells stack lay items begins f q framed pf.slots j m outer d0 u n
      (continued_by_jump way) to
  further_registers Returns to h = h
  further_registers (Follows k) to h = tt
  further_registers (Jumps k) to h = tt
