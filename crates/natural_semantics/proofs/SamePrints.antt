-- What the relation of Core derives to be printed that of its moves derives, and the other way
-- round.
use Rattle.std.proofs.Common.{ℕ, suc, List, [], ◌∷◌, length, refl, subst}
use Rattle.arity_check.specs.Program.{Program}
use Rattle.core_meaning.specs.Heap.{Int, Call, Input, Waiting}
use Rattle.core_meaning.specs.Evaluation.{global, globals}
use Rattle.core_meaning.specs.Printing.{PrintingEnd}
use Rattle.natural_semantics.specs.World.{World, extended}
use Rattle.natural_semantics.specs.Prints.{Prints, Behind, AtNil, NoList', ListSticks, Puts, NoByte', ByteSticks, first_world, ProgramPrints, OfItself, OfInput}
use Rattle.natural_semantics.specs.any.Prints as any
use Rattle.natural_semantics.specs.CoreMoves.{core_program}
use Rattle.natural_semantics.proofs.SameRelation.{forces_to, forces_from}
use Rattle.natural_semantics.proofs.SameSticking.{force_sticks_to, force_sticks_from}

module _ (p : Program) where
  prints_to : (w : World) (a : ℕ) (out : List ℕ) (end : PrintingEnd) → Prints p w a out end
      → any.Prints (core_program p) w a out end
  prints_to w a out end Behind = any.Behind
  prints_to w a out end (AtNil {w' = w1} f) = any.AtNil (forces_to p w w1 a _ f)
  prints_to w a out end (NoList' {w' = w1} {v = v} f n) = any.NoList' (forces_to p w w1 a v f) n
  prints_to w a out end (ListSticks x) = any.ListSticks (force_sticks_to p w a x)
  prints_to w a out end
      (Puts {w' = w1} {w'' = w2} {h = h} {t = t} {k = k} {out = more} f g rest) =
      any.Puts (forces_to p w w1 a _ f) (forces_to p w1 w2 h (Int k) g)
      (prints_to w2 t more end rest)
  prints_to w a out end (NoByte' {w' = w1} {w'' = w2} {h = h} {v = v} f g n) =
      any.NoByte' (forces_to p w w1 a _ f) (forces_to p w1 w2 h v g) n
  prints_to w a out end (ByteSticks {w' = w1} {h = h} f x) =
      any.ByteSticks (forces_to p w w1 a _ f) (force_sticks_to p w1 h x)

  prints_from : (w : World) (a : ℕ) (out : List ℕ) (end : PrintingEnd)
      → any.Prints (core_program p) w a out end → Prints p w a out end
  prints_from w a out end any.Behind = Behind
  prints_from w a out end (any.AtNil {w' = w1} f) = AtNil (forces_from p w w1 a _ f)
  prints_from w a out end (any.NoList' {w' = w1} {v = v} f n) =
      NoList' (forces_from p w w1 a v f) n
  prints_from w a out end (any.ListSticks x) = ListSticks (force_sticks_from p w a x)
  prints_from w a out end
      (any.Puts {w' = w1} {w'' = w2} {h = h} {t = t} {k = k} {out = more} f g rest) =
      Puts (forces_from p w w1 a _ f) (forces_from p w1 w2 h (Int k) g)
      (prints_from w2 t more end rest)
  prints_from w a out end (any.NoByte' {w' = w1} {w'' = w2} {h = h} {v = v} f g n) =
      NoByte' (forces_from p w w1 a _ f) (forces_from p w1 w2 h v g) n
  prints_from w a out end (any.ByteSticks {w' = w1} {h = h} f x) =
      ByteSticks (forces_from p w w1 a _ f) (force_sticks_from p w1 h x)

  pub program_to : (i out : List ℕ) (end : PrintingEnd) → ProgramPrints p i out end
      → any.ProgramPrints (core_program p) i out end
  program_to i out end (OfItself e d) =
      any.OfItself e (prints_to (first_world p i) (global p p.main) out end d)
  program_to i out end (OfInput at n e d) =
      any.OfInput n (subst (λ x. any.Prints (core_program p)
      (extended (first_world p i) (Waiting Input ∷ (Waiting (Call p.main (x ∷ [])) ∷ [])))
      (suc x) out end) e (prints_to _ (suc at) out end d))

  pub program_from : (i out : List ℕ) (end : PrintingEnd)
      → any.ProgramPrints (core_program p) i out end → ProgramPrints p i out end
  program_from i out end (any.OfItself e d) =
      OfItself e (prints_from (first_world p i) (global p p.main) out end d)
  program_from i out end (any.OfInput n d) =
      OfInput (length (globals p p.funs 0)) n refl
      (prints_from _ (suc (length (globals p p.funs 0))) out end d)
