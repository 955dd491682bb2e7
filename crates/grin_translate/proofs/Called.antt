-- Whatever the bound, the procedures of what is delayed do what evaluation does.
use Rattle.std.proofs.Common.{◌≡◌, ℕ, zero, suc, ◌+◌, max, Bool, true, false, cond, List, [], ◌∷◌, ◌++◌, length, Some, None, slice_get, refl, sym, ap, subst}
use Rattle.seq.proofs.Truth.{not_both}
use mathlib.Core.Logic.{inl, inr}
use Rattle.arity_check.specs.Program.{Program}
use Rattle.core_meaning.specs.Heap.{Delayed}
use Rattle.core_meaning.specs.Evaluation as core'
use Rattle.core_meaning.specs.Evaluation.{State, spend_of, proceed, within}
use Rattle.grin_syntax.specs.Tree.{Procedure}
use Rattle.grin_meaning.specs.Values.{World, need, one_each, with_vars}
use Rattle.grin_meaning.specs.Values as grin
use Rattle.grin_meaning.specs.Run.{code, calls, with_state_seen, spend, spent}
use Rattle.grin_translate.specs.declared.tags.Delay.{Delay}
use Rattle.grin_translate.specs.Tags.{delays, proc, same_thunk_kind, first_index_where, delay_name, delay_params}
use Rattle.grin_translate.specs.Translation.{tr, procedure, delay_body, delayed_procs, print_procs, span}
use Rattle.grin_translate.specs.WellFormed.{WellFormed}
use Rattle.grin_translate.proofs.Places.{Has}
use Rattle.grin_translate.proofs.Found.{delay_sound, delay_itself}
use Rattle.grin_translate.proofs.Alike.{delay_of, args_of, IsDelayed, Alike, Match, both_go}
use Rattle.grin_translate.proofs.Forcing.{CallsMatch, delay_there}
use Rattle.grin_translate.proofs.Entered.{entered}

module _ (p : Program) where
  pub alike_spent : (out : List ℕ) (s : State) (w : World) (f d m : ℕ) → Alike p out s w
      → Alike p out (record s { left = m; depth = max s.depth d }) (spent f d m w)
  alike_spent out s w f d m al = record {
    heaps = al.heaps;
    room = al.room;
    left = refl;
    depth = ap (λ e. max e d) al.depth;
    input
        = al.input;
    used = al.used;
    written = al.written;
  }

  spend_match : (n l d : ℕ) (out : List ℕ) (s : State) (w : World) (go : State → core'.Answer)
      (k : ℕ → grin.Answer) → Alike p out s w
      → ((m : ℕ) → Match p n out (go (record s { left = m; depth = max s.depth d })) (k m))
      → Match p n out (spend_of l d s go) (spend l w k)
  spend_match n zero d out s w go k al h = both_go al
  spend_match n (suc m) d out s w go k al h = h m

  record ProcIn (procs : List Procedure) (place : ℕ) (d : Delay) : Type 0 where
    base : ℕ
    is : slice_get procs place ≡ Some
        (procedure p base (delay_name p d) (delay_params p d) (delay_body p base d))

  proc_in : (ds : List Delay) (base : ℕ) (others : List Procedure) (d : Delay) → Has d ds
      → ProcIn (delayed_procs p base ds ++ others) (first_index_where (same_thunk_kind d) ds) d
  proc_in [] base others d h = absurd h
  proc_in (e ∷ ds) base others d h = at_first (same_thunk_kind d e) refl h
      (proc_in ds (base + span p e) others d)
    where
      at_first : (b : Bool) → same_thunk_kind d e ≡ b → Has d (e ∷ ds)
          → (Has d ds → ProcIn (delayed_procs p (base + span p e) ds ++ others)
          (first_index_where (same_thunk_kind d) ds) d)
          → ProcIn (procedure p base (delay_name p e) (delay_params p e) (delay_body p base e) ∷
          (delayed_procs p (base + span p e) ds ++ others))
          (cond b 0 (suc (first_index_where (same_thunk_kind d) ds))) d
      at_first true q h ih = record {
        base = base;
        is = ap
            (λ x. Some (procedure p base (delay_name p x) (delay_params p x) (delay_body p base x)))
            (sym (delay_sound d e q));
      }
      at_first false q (inl i) ih = not_both (same_thunk_kind d e)
          (subst (λ x. same_thunk_kind d x ≡ true) i (delay_itself d)) q
      at_first false q (inr h) ih = let r = ih h in record { base = r.base; is = r.is }

  proc_found : (d : Delay) → Has d (delays p) → ProcIn (tr p).procs (proc p d).0 d
  proc_found d h = proc_in (delays p) (length p.funs) (print_procs p) d h

  -- a call, once the units that are left are known
  abbrev Called : ℕ → ℕ → Delayed → ℕ → World → grin.Answer
  Called n m t d w =
      let f : ℕ = (proc p (delay_of p t)).0 in
      need (slice_get (tr p).procs f) w
      (λ q. need (one_each q.params (args_of p t)) w
      (λ bs. code (tr p) (calls (tr p) n) (with_vars bs (λ y. None)) d q.body
      (with_state_seen (with_vars bs (λ y. None)) (spent f d m w))))

  called : WellFormed p → (n m : ℕ) → CallsMatch p (within p n) (calls (tr p) n)
      → (t : Delayed) (d : ℕ) (out : List ℕ) (s : State) (w : World) → Alike p out s w
      → IsDelayed p (length s.heap) t
      → Match p (length s.heap) out
      (proceed p (within p n) t d (record s { left = m; depth = max s.depth d }))
      (Called n m t d w)
  called ok n m on t d out s w al g =
      let f : ProcIn (tr p).procs (proc p (delay_of p t)).0 (delay_of p t)
      = proc_found (delay_of p t) (delay_there p (length s.heap) t g) in
      rw f.is (entered p ok (within p n) (calls (tr p) n) on t f.base d out
      (record s { left = m; depth = max s.depth d }) w (spent (proc p (delay_of p t)).0 d m w)
      (alike_spent out s w (proc p (delay_of p t)).0 d m al) g)

  pub calls_match : WellFormed p → (n : ℕ) → CallsMatch p (within p n) (calls (tr p) n)
  unfolding calls
  calls_match ok zero = record { by = λ t d out s w al g. both_go al }
  calls_match ok (suc n) = record {
    by = λ t d out s w al g.
        subst (λ l. Match p (length s.heap) out (within p (suc n) t d s)
        (spend l w (λ m. Called n m t d w))) (sym al.left)
        (spend_match (length s.heap) s.left d out s w (proceed p (within p n) t d) _ al
        (λ m. called ok n m (calls_match ok n) t d out s w al g));
  }
