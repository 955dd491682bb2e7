-- Calls of the lowered program do what calls of a looking run do.
use Rattle.std.proofs.Common.{◌≡◌, inl, inr, ◌≤◌, ◌<◌, ℕ, zero, suc, ◌+◌, ◌*◌, Bool, true, false, cond, List, [], ◌∷◌, ◌++◌, length, Option, Some, None, slice_get, refl, sym, ap, ◌∙◌, subst, arith}
use Rattle.std.specs.Prelude.{max}
use Rattle.std.proofs.lemmas.Bool.{eq-eqb}
use Rattle.std.proofs.lemmas.List.{length-map}
use Rattle.seq.proofs.Order.{more_times, le_or_lt}
use Rattle.seq.proofs.Truth.{and_left}
use Rattle.seq.proofs.Lists.{get_within, all_get}
use Rattle.grin_syntax.specs.Binders.{numbers_of, code_vars, procedure_vars, procs_vars, program_vars}
use Rattle.grin_syntax.specs.Formed.{AllOf}
use Rattle.grin_syntax.specs.Fresh.{past_procs}
use Rattle.grin_syntax.specs.Tree as grin_tree
use Rattle.grin_syntax.specs.declared.program.Tag.{Tag}
use Rattle.grin_syntax.specs.Tree.{Procedure}
use Rattle.grin_syntax.proofs.Unbound.{past_procs_none}
use Rattle.grin_meaning.specs.Values as grin
use Rattle.grin_meaning.specs.Values.{Datum, Value, Binding, with_vars, one_each}
use Rattle.grin_meaning.specs.Run as grin_run
use Rattle.grin_meaning.specs.Run.{calls_by, code_by, require_value_if_checked, with_state_seen, spend}
use Rattle.grin_meaning.specs.Checks.{is_given, not_delayed, plain_number}
use Rattle.grin_meaning.specs.Ready.{EachCode, IsInlined, IsVectorised, most_fields, most_value_fields, inlined_kind, vectorised_kind}
use Rattle.low_code.specs.Tree as low_tree
use Rattle.low_code.specs.Values as low
use Rattle.low_code.specs.Values.{need, no_vars}
use Rattle.low_code.specs.Run as low_run
use Rattle.low_code.specs.Run.{with_result_count}
use Rattle.low_translate.specs.Translation.{results_of, procedure_code, procedure_numbers, procedures_code, program_code}
use Rattle.low_translate.specs.Writes.{code_writes, procs_write, written_width}
use Rattle.low_translate.specs.Lowered.{CodeRanged, CodeGives, EachProcedureReturns}
use Rattle.low_translate.proofs.Images.{images, word_image, words_of_value, fit, length_fit, world_image, InRange, SoundWorld, none_some, some_same}
use Rattle.low_translate.proofs.Operands.{bound, with_vars_bound, agrees_each}
use Rattle.low_translate.proofs.Bindings.{each_many}
use Rattle.low_translate.proofs.ScopedOnce.{Scoped, scoped_rest, scoped_below}
use Rattle.low_translate.proofs.Standings.{Standing}
use Rattle.low_translate.proofs.Matches.{free, Match, missed, fails, ran_out, given, CallsMatch}
use Rattle.low_translate.proofs.Simulates as blocks
use Rattle.seq.specs.Lists.{times}
use Rattle.seq.proofs.Counted.{times_append}

-- ---- the procedures and their translations

-- the variables of one procedure
one_of : (qs : List Procedure) (f : ℕ) (q : Procedure) (x : ℕ) → slice_get qs f ≡ Some q
    → times x (procedure_vars q) ≤ times x (procs_vars qs)
one_of [] f q x e = absurd (none_some e)
one_of (r ∷ qs) zero q x e = let s : times x (procedure_vars r) ≡ times x (procedure_vars q)
    = ap (λ z. times x (procedure_vars z)) (some_same e) in let a
    = times_append x (procedure_vars r) (procs_vars qs) in omega (arith, s, a)
one_of (r ∷ qs) (suc f) q x e = let h = one_of qs f q x e in let a
    = times_append x (procedure_vars r) (procs_vars qs) in omega (arith, h, a)

-- and how many fields it writes
one_writes : (ts : List Tag) (qs : List Procedure) (f : ℕ) (q : Procedure) → slice_get qs f ≡ Some q
    → code_writes ts q.body ≤ procs_write ts qs
one_writes ts [] f q e = absurd (none_some e)
one_writes ts (r ∷ qs) zero q e = let s : code_writes ts r.body ≡ code_writes ts q.body
    = ap (λ z. code_writes ts z.body) (some_same e) in omega (arith, s)
one_writes ts (r ∷ qs) (suc f) q e = let h = one_writes ts qs f q e in omega (arith, h)

scoped_body : (g : grin_tree.Program) → ((x : ℕ) → times x (program_vars g) ≤ 1)
    → (f : ℕ) (q : Procedure) → slice_get g.procs f ≡ Some q
    → Scoped (past_procs g.procs) [] (numbers_of q.params ++ code_vars q.body)
scoped_body g once f q e = record {
  once = λ x. let a = one_of g.procs f q x e in let b = once x in omega (arith, a, b);
  below = λ x lt. elim (le_or_lt (past_procs g.procs) x) [
    | inl le ↦ absurd
        (let z = past_procs_none x g.procs le in let a = one_of g.procs f q x e
        in omega (arith, lt, z, a))
    | inr p ↦ p
  ];
}

-- the translation of procedure f
record Translated (width node : ℕ) (all : List ℕ) (n r : ℕ) (made : Option low_tree.Procedure)
    (q : Procedure) : Type 0 where
  number : ℕ
  past : n ≤ number
  there : made ≡ Some (procedure_code width all number r q)
  gives : CodeGives node all r q.body

translated : (width node : ℕ) (all : List ℕ) (n : ℕ) (rs : List ℕ) (qs : List Procedure) (f : ℕ)
    (q : Procedure) → EachProcedureReturns node all rs qs → slice_get qs f ≡ Some q
    → Translated width node all n (results_of rs f)
    (slice_get (procedures_code width all n rs qs) f) q
translated width node all n [] [] f q h e = absurd (none_some e)
translated width node all n [] (s ∷ qs) f q h e = absurd h
translated width node all n (r ∷ rs) [] f q h e = absurd h
translated width node all n (r ∷ rs) (s ∷ qs) zero q h e
    = record {
      number = n;
      past = omega arith;
      there
          = ap (λ z. Some (procedure_code width all n r z)) (some_same e);
      gives
          = subst (λ z. CodeGives node all r z.body) (some_same e) h.0;
    }
translated width node all n (r ∷ rs) (s ∷ qs) (suc f) q h e =
    let t = translated width node all (n + procedure_numbers width all r s) rs qs f q h.1 e in
    record {
      number = t.number;
      past = let p = t.past in omega (arith, p);
      there = t.there;
      gives
          = t.gives;
    }

-- ---- frames

both_within : (depth d frames k most : ℕ) → frames ≤ (depth + 1) * most → k ≤ suc d * most
    → max frames k ≤ (max depth d + 1) * most
both_within depth d frames k most a b =
    let x = more_times (depth + 1) (max depth d + 1) most (omega arith) in
    let y = more_times (suc d) (max depth d + 1) most (omega arith) in
    omega (arith, a, b, x, y)

module _ (g : grin_tree.Program) (rs : List ℕ) (fw : ℕ → ℕ) (most : ℕ) where
  abbrev first : ℕ
  first = past_procs g.procs

  abbrev width : ℕ
  width = 1 + most_fields g.tags

  abbrev p : low_tree.Program
  p = program_code width (written_width g) rs first g

  abbrev Matches : (P : Value → Type 0) → ℕ → grin.Answer → low.Answer → Type 0
  Matches = Match g p fw most rs first (length-map g.globals (λ c. c.tag.0)) width refl

  -- a procedure gives what its block gives
  given_match : (r : ℕ) (ga : grin.Answer) (la : low.Answer)
      → Matches (λ v. is_given g v ≡ true) r ga la → Matches (λ v. Unit {0}) r
      (require_value_if_checked true (is_given g) ga) (with_result_count r la)
  given_match r _ _ missed = missed
  given_match r _ _ (fails h) = fails h
  given_match r _ _ (ran_out h) = ran_out h
  given_match r _ _ (given {v = v} {w = w} {a = a} sv sw reached) = by (is_given g v) refl
    where
      by : (b : Bool) → is_given g v ≡ b → Matches (λ v. Unit {0}) r
          (cond b (grin.gives v w) (grin.stops grin.missing w)) (with_result_count r a)
      by false e = missed
      by true e =
          let q = reached e in
          let vs : List low.Word = fit r (images (words_of_value v)) in
          let same : with_result_count r a ≡ low.gives vs (world_image width q.frames w) =
          ap (with_result_count r) q.is ∙
          (λ t. cond (eq-eqb (length vs) r (length_fit r (images (words_of_value v))) t)
          (low.gives vs (world_image width q.frames w))
          (low.stops low.missing (world_image width q.frames w))) in
          given sv sw (λ u. record { few = q.few; frames = q.frames; within = q.within; is = same })

  module _ (inlined : IsInlined g) (vectorised : IsVectorised g)
      (ranged : AllOf (λ q. CodeRanged q.body) g.procs)
      (gives : EachProcedureReturns (1 + most_value_fields g.tags) rs rs g.procs)
      (once : (x : ℕ) → times x (program_vars g) ≤ 1)
      (bounded : (f : ℕ) → f < length g.procs → fw f ≤ most) where
    body_piece : (f : ℕ) (q : Procedure) → slice_get g.procs f ≡ Some q → (number : ℕ)
        → first ≤ number → CodeGives (1 + most_value_fields g.tags) rs (results_of rs f) q.body
        → blocks.CodePiece g rs (written_width g) most first
        (record { words = results_of rs f; leaves = true }) (numbers_of q.params ++ []) number
        q.body
    body_piece f q e number past gv = record {
      inlined = all_get (λ q. EachCode inlined_kind q.body) g.procs f q inlined e;
      vectorised = all_get (λ q. EachCode vectorised_kind q.body) g.procs f q vectorised e;
      ranged = all_get (λ q. CodeRanged q.body) g.procs f q ranged e;
      few = one_writes g.tags g.procs f q e;
      gives = λ l. gv;
      scoped = scoped_rest first [] (numbers_of q.params) (code_vars q.body)
          (scoped_body g once f q e);
      past = past;
    }

    leaving : (r d top u : ℕ) → top ≤ suc d * most → u ≤ d * most
        → Standing g rs (written_width g) most (λ v. is_given g v ≡ true)
        (record { words = r; leaves = true }) d top (Some u)
    leaving r d top u le lu = record {
      narrow = λ e. absurd (let z : true ≡ false = e in cc);
      given = λ e v h. and_left (not_delayed g v) (plain_number v) h;
      below = λ e. (u, refl, lu);
      inside = λ e. absurd (let z : true ≡ false = e in cc);
      deeper = le;
    }

    module _ (n : ℕ)
        (calls_match : CallsMatch g p fw most rs first (length-map g.globals (λ c. c.tag.0)) width
        refl (calls_by g true n) (low_run.calls p fw free n)) where
      -- a procedure that is entered
      entered : (f : ℕ) (q : Procedure) (xs : List Datum) (bs : List Binding) (d : ℕ)
          (w : grin.World) (u frames left number : ℕ) → slice_get g.procs f ≡ Some q
          → one_each q.params xs ≡ Some bs → AllOf InRange xs → SoundWorld g w → u ≤ d * most
          → frames ≤ (w.depth + 1) * most
          → first ≤ number → CodeGives (1 + most_value_fields g.tags) rs (results_of rs f) q.body
          → Matches (λ v. Unit {0}) (results_of rs f)
          (require_value_if_checked true (is_given g)
          (code_by g (calls_by g true n) true (with_vars bs (λ y. None)) d q.body
          (with_state_seen (with_vars bs (λ y. None)) (grin_run.spent f d left w))))
          (low_run.body p fw free (low_run.calls p fw free n) f u left
          (procedure_code (written_width g) rs number (results_of rs f) q)
          (bound (numbers_of q.params) (images xs) no_vars) (world_image width frames w))
      entered f q xs bs d w u frames left number eq eb ranged' sound lu wi past gv =
          given_match (results_of rs f) _ _
          (blocks.code_runs g p fw most rs first (length-map g.globals (λ c. c.tag.0)) width
          refl refl (calls_by g true n) (low_run.calls p fw free n) calls_match
          (λ v. is_given g v ≡ true) (record { words = results_of rs f; leaves = true }) d
          (u + fw f) (Some u) (leaving (results_of rs f) d (u + fw f) u deeper lu) number
          (numbers_of q.params ++ []) q.body (body_piece f q eq number past gv)
          (with_vars bs (λ y. None)) (bound (numbers_of q.params) (images xs) no_vars)
          (with_state_seen (with_vars bs (λ y. None)) (grin_run.spent f d left w))
          (max frames (u + fw f)) (record {
            agrees = agrees_each first q.params xs bs [] (λ y. None) no_vars eb ranged'
                (scoped_below first [] (numbers_of q.params) (code_vars q.body)
                (scoped_body g once f q eq)) (λ x v h. absurd (none_some h));
            sound = record { cells = sound.cells; bytes = sound.bytes };
            within = both_within w.depth d frames (u + fw f) most wi deeper;
          }))
        where
          deeper : u + fw f ≤ suc d * most
          deeper = let b = bounded f (get_within g.procs f q eq) in omega (arith, lu, b)

      one_unit_more : CallsMatch g p fw most rs first (length-map g.globals (λ c. c.tag.0)) width
          refl (calls_by g true (suc n)) (low_run.calls p fw free (suc n))
      unfolding calls_by low_run.calls
      one_unit_more f xs d w u frames ranged' sound lu wi = by w.left
        where
          Wanted : grin.Answer → low.Answer → Type 0
          Wanted = Matches (λ v. Unit {0}) (results_of rs f)

          goes : ℕ → Procedure → List Binding → grin.Answer
          goes left q bs = require_value_if_checked true (is_given g)
              (code_by g (calls_by g true n) true (with_vars bs (λ y. None)) d q.body
              (with_state_seen (with_vars bs (λ y. None)) (grin_run.spent f d left w)))

          lows : ℕ → Option low_tree.Procedure → low.Answer
          lows left o = need o (world_image width frames w)
              (λ q. need (low.with_vars q.params (images xs) no_vars) (world_image width frames w)
              (λ env. low_run.body p fw free (low_run.calls p fw free n) f u left q env
              (world_image width frames w)))

          params : (left : ℕ) (q : Procedure) → slice_get g.procs f ≡ Some q
              → (o : Option (List Binding)) → one_each q.params xs ≡ o
              → Wanted (grin.need o w (goes left q)) (lows left (slice_get p.procs f))
          params left q eq None eb = missed
          params left q eq (Some bs) eb =
              let t = translated (written_width g) (1 + most_value_fields g.tags) rs first rs
              g.procs f q gives eq in
              let many : length (images xs) ≡ length (numbers_of q.params)
              = length-map xs word_image ∙ each_many q.params xs bs eb ∙ sym
              (length-map q.params (λ x. x.0)) in
              let path : lows left (slice_get p.procs f) ≡ low_run.body p fw free
              (low_run.calls p fw free n) f u left
              (procedure_code (written_width g) rs t.number (results_of rs f) q)
              (bound (numbers_of q.params) (images xs) no_vars) (world_image width frames w) =
              ap (lows left) t.there ∙
              (λ i. need (with_vars_bound (numbers_of q.params) (images xs) no_vars many i)
              (world_image width frames w)
              (λ env. low_run.body p fw free (low_run.calls p fw free n) f u left
              (procedure_code (written_width g) rs t.number (results_of rs f) q) env
              (world_image width frames w))) in
              subst (Wanted (goes left q bs)) (sym path)
              (entered f q xs bs d w u frames left t.number eq eb ranged' sound lu wi t.past
              t.gives)

          procs : (left : ℕ) (o : Option Procedure) → slice_get g.procs f ≡ o
              → Wanted (grin.need o w (λ q. grin.need (one_each q.params xs) w (goes left q)))
              (lows left (slice_get p.procs f))
          procs left None eq = missed
          procs left (Some q) eq = params left q eq (one_each q.params xs) refl

          by : (left : ℕ) → Wanted
              (spend left w
              (λ u. grin.need (slice_get g.procs f) w
              (λ q. grin.need (one_each q.params xs) w (goes u q))))
              (low_run.spend left (world_image width frames w) (λ u. lows u (slice_get p.procs f)))
          by zero = ran_out wi
          by (suc left) = procs left (slice_get g.procs f) refl

    pub calls_match : (n : ℕ) → CallsMatch g p fw most rs first
        (length-map g.globals (λ c. c.tag.0)) width refl (calls_by g true n)
        (low_run.calls p fw free n)
    unfolding calls_by low_run.calls
    calls_match zero f xs d w u frames ranged' sound lu wi = ran_out wi
    calls_match (suc n) f xs d w u frames ranged' sound lu wi
        = one_unit_more n (calls_match n) f xs d w u frames ranged' sound lu wi
