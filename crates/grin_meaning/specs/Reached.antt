-- What a run of a program without eval and apply comes to: the calls, blocks, operations and
-- alternatives, each with the variables in scope, the nesting and the state in which it begins. The
-- number m bounds the units that are left.
use Rattle.std.specs.Prelude.{ℕ, suc, ◌≡◌, List, length, Some, None, slice_get}
use Rattle.grin_syntax.specs.declared.program.ProcId.{ProcId}
use Rattle.grin_syntax.specs.declared.program.Cell.{Cell}
use Rattle.grin_syntax.specs.declared.program.Shape.{Shape}
use Rattle.grin_syntax.specs.declared.program.Target.{Target}
use Rattle.grin_syntax.specs.declared.program.Val.{Val}
use Rattle.grin_syntax.specs.declared.program.Word.{Word}
use Rattle.grin_syntax.specs.Tree.{Code, end, store, bind, Act, leaf, call, case, nested, Arms, arm, Procedure, Program}
use Rattle.grin_meaning.specs.Values.{Datum, Value, Env, HeapCell, World, gives, Binding, with_vars, one_each, fits, fits_not, fit_of, words_of, value_of, bindings_of}
use Rattle.grin_meaning.specs.Run.{act, calls, with_state_seen, places, cells_of, with_cells, spent, start_words, start_world}

module _ (p : Program) (i : List ℕ) (n : ℕ) where
  mutual
    -- procedure f is called with these words
    pub data Called : ℕ → ℕ → List Datum → ℕ → World → Type 0 where
      begins : Called n p.start.0 (start_words p.argument) 0 (start_world p i n)
      by_call : {m : ℕ} {env : Env} {d : ℕ} {f : ProcId} {ws : List Word}
          {w : World} {xs : List Datum} → Does m env d (leaf (call f ws)) w
          → words_of p env ws ≡ Some xs → Called m f.0 xs d w

    pub data Runs : ℕ → Env → ℕ → Code → World → Type 0 where
      entered : {m f d u : ℕ} {xs : List Datum} {w : World} {q : Procedure} {bs : List Binding}
          → Called (suc m) f xs d w → w.left ≡ suc u → slice_get p.procs f ≡ Some q
          → one_each q.params xs ≡ Some bs
          → Runs m (with_vars bs (λ y. None)) d q.body
          (with_state_seen (with_vars bs (λ y. None)) (spent f d u w))
      stored : {m : ℕ} {env : Env} {d : ℕ} {cs : List Cell} {b : Code}
          {w : World} {hs : List HeapCell} → Runs m env d (store cs b) w
          → cells_of p (with_vars (places (length w.cells) cs) env) cs ≡ Some hs
          → Runs m (with_vars (places (length w.cells) cs) env) d b
          (with_state_seen (with_vars (places (length w.cells) cs) env) (with_cells hs w))
      bound : {m : ℕ} {env : Env} {d : ℕ} {t : Target} {o : Act} {b : Code}
          {w w' : World} {v : Value} {bs : List Binding} → Runs m env d (bind t o b) w
          → act p (calls p m) env (suc d) o w ≡ gives v w'
          → bindings_of p t v ≡ Some bs
          → Runs m (with_vars bs env) d b (with_state_seen (with_vars bs env) w')
      within : {m : ℕ} {env : Env} {d : ℕ} {b : Code} {w : World}
          → Does m env d (nested b) w → Runs m env d b w
      chosen : {m : ℕ} {env : Env} {d : ℕ} {x : Value} {s : Shape} {b : Code} {as' : Arms}
          {w : World} {bs : List Binding} → Tries m env d x (arm s b as') w → fit_of p s x ≡ fits bs
          → Runs m (with_vars bs env) d b (with_state_seen (with_vars bs env) w)

    pub data Does : ℕ → Env → ℕ → Act → World → Type 0 where
      first : {m : ℕ} {env : Env} {d : ℕ} {t : Target} {o : Act} {b : Code} {w : World}
          → Runs m env d (bind t o b) w → Does m env (suc d) o w
      last : {m : ℕ} {env : Env} {d : ℕ} {o : Act} {w : World}
          → Runs m env d (end o) w → Does m env d o w

    pub data Tries : ℕ → Env → ℕ → Value → Arms → World → Type 0 where
      of_case : {m : ℕ} {env : Env} {d : ℕ} {v : Val} {x : Value} {as' : Arms} {w : World}
          → Does m env d (case v as') w → value_of p env v ≡ Some x → Tries m env d x as' w
      next : {m : ℕ} {env : Env} {d : ℕ} {x : Value} {s : Shape} {b : Code} {as' : Arms} {w : World}
          → Tries m env d x (arm s b as') w → fit_of p s x ≡ fits_not → Tries m env d x as' w
