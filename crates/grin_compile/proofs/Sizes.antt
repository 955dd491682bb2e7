-- Code that is made of a slim stage has few words.
use Rattle.std.proofs.Common.{◌≡◌, ℕ, zero, suc, ◌+◌, ◌*◌, ◌≤◌, Bool, true, false, List, [], ◌∷◌, ◌++◌, map, length, Some, slice_get, refl, sym, ap, ◌∙◌, subst, arith}
use Rattle.std.specs.Prelude.{◌==◌, if◌then◌else◌}
use Rattle.std.proofs.lemmas.List.{length-map, length-append}
use Rattle.arity_check.specs.Program as core
use Rattle.grin_syntax.specs.Tree.{Code, end, store, bind, Act, leaf, unit, fetch, fetch_word, update, eval, apply, call, prim, read, write, case, nested, fail, Procedure, Program}
use Rattle.grin_syntax.specs.SameOutside.{names_of, DifferOnlyInBodies}
use Rattle.grin_meaning.specs.Slim.{Slim}
use Rattle.grin_syntax.specs.Fresh.{past_procs}
use Rattle.flow_system.specs.Solution.{Solution}
use Rattle.grin_rewrite.proofs.CountedText.{as_many}
use Rattle.inline_theory.specs.Evaluations.{eval_rule, eval_inlined}
use Rattle.inline_theory.specs.Applications.{apply_rule, inlined}
use Rattle.inline_theory.specs.Size.{act_size, code_size, procedure_size, total, largest, size, largest_procedure}
use Rattle.stage_names.specs.declared.PassName.{PassName}
use Rattle.grin_opt.proofs.Gives.{gives}
use Rattle.grin_translate.specs.declared.tags.Delay.{Delay}
use Rattle.grin_translate.specs.declared.tags.Delay.TheVariants.{Calls}
use Rattle.grin_translate.specs.declared.tags.Kind.TheVariants.{Waits}
use Rattle.grin_translate.specs.Tags.{tag, delays}
use Rattle.grin_translate.specs.Translation.{global_cells, delayed_procs, print_procs, span, tr}
use Rattle.low_code.specs.Tree as low
use Rattle.low_code.specs.Size.{program_size, calls_of}
use Rattle.low_translate.specs.Lowers.{Lowers, LoweredIsSmall}
use Rattle.grin_compile.specs.Stages.{AreStages}
use Rattle.pass_ground.proofs.Vectors.{outside_again}
use Rattle.seq.specs.Lists.{numbers_from}
use Rattle.seq.proofs.Counted.{length_numbers}

-- ---- the procedures and global cells of a stage

outside_itself : (g : Program) → DifferOnlyInBodies g g
outside_itself g = record {
  same_tags = refl;
  same_globals = refl;
  same_start = refl;
  same_argument = refl;
  same_names
      = refl;
}

pub stages_outside : (p : core.Program) (ks : List PassName) (g : Program) (hs : List Program)
    → AreStages p ks g hs
    → (k : ℕ) (h : Program) → slice_get hs k ≡ Some h → DifferOnlyInBodies g h
stages_outside p [] g [] are k h there = cc
stages_outside p [] g (x ∷ hs) are k h there = absurd are
stages_outside p (a ∷ ks) g [] are k h there = absurd are
stages_outside p (a ∷ ks) g (x ∷ hs) are zero h there = let e : x ≡ h = cc
    in subst (DifferOnlyInBodies g) e (gives a g x are.1.0).outside
stages_outside p (a ∷ ks) g (x ∷ hs) are (suc k) h there =
    outside_again g x h (gives a g x are.1.0).outside (stages_outside p ks x hs are.1.1 k h there)

pub as_many_procs : (g h : Program) → DifferOnlyInBodies g h → length h.procs ≡ length g.procs
as_many_procs g h s = sym (named h.procs) ∙ ap length s.same_names ∙ named g.procs
  where
    named : (qs : List Procedure) → length (names_of qs) ≡ length qs
    named [] = refl
    named (q ∷ qs) = ap suc (named qs)

one_more : {A : Type 0} (b : Bool) (x : A) (rest : List A)
    → length ((if b then x ∷ [] else []) ++ rest) ≤ 1 + length rest
one_more true x rest = omega arith
one_more false x rest = omega arith

pub few_globals : (p : core.Program) (fs : List core.Function) (f : ℕ)
    → length (global_cells p fs f) ≤ length fs
few_globals p [] f = omega arith
few_globals p (g ∷ gs) f =
    let here = one_more (g.params == 0)
    (record { name = g.name; site = record { 0 = f }; tag = tag p (Waits (Calls f)) })
    (global_cells p gs (suc f)) in
    omega (arith, here, few_globals p gs (suc f))

-- ---- sizes

some_act : (o : Act) → 1 ≤ act_size o
unfolding act_size
some_act (leaf (unit v)) = omega arith
some_act (leaf (fetch a)) = omega arith
some_act (leaf (fetch_word a i)) = omega arith
some_act (leaf (update a v)) = omega arith
some_act (leaf (eval a)) = omega arith
some_act (leaf (apply v a)) = omega arith
some_act (leaf (call f ws)) = omega arith
some_act (leaf (prim f a b)) = omega arith
some_act (leaf read) = omega arith
some_act (leaf (write a)) = omega arith
some_act (case v as') = omega arith
some_act (nested b) = omega arith
some_act (leaf fail) = omega arith

some_code : (b : Code) → 1 ≤ code_size b
unfolding code_size
some_code (end o) = some_act o
some_code (store cs b) = omega (arith, some_code b)
some_code (bind t o b) = omega (arith, some_code b)

pub few_procs : (qs : List Procedure) → length qs ≤ total procedure_size qs
few_procs [] = omega arith
few_procs (q ∷ qs) = omega (arith, some_code q.body, few_procs qs)

largest_below : (qs : List Procedure) → largest procedure_size qs ≤ total procedure_size qs
largest_below [] = omega arith
largest_below (q ∷ qs) = omega (arith, largest_below qs)

pub largest_is_small : (g : Program) → largest_procedure g ≤ size g
largest_is_small g = largest_below g.procs

-- ---- functions

delayed_length : (p : core.Program) (base : ℕ) (ds : List Delay)
    → length (delayed_procs p base ds) ≡ length ds
delayed_length p base [] = refl
delayed_length p base (d ∷ ds) = ap suc (delayed_length p (base + span p d) ds)

front_shorter : {A : Type 0} (xs ys : List A) → length xs ≤ length (xs ++ ys)
front_shorter xs ys = omega (arith, length-append xs ys)

function_delays : (p : core.Program) → length p.funs ≤ length (delays p)
unfolding delays
function_delays p =
    let n : length (map Calls (numbers_from 0 (length p.funs))) ≤ length (delays p)
    = front_shorter (map Calls (numbers_from 0 (length p.funs))) _ in
    let m = length-map (numbers_from 0 (length p.funs)) Calls in
    omega (arith, n, m, length_numbers 0 (length p.funs))

-- each function has a procedure, and there is one more
pub functions_inlined : (p : core.Program) (A : Solution)
    → suc (length p.funs) ≤ size (inlined A (tr p))
functions_inlined p A =
    let g = tr p in
    let h = eval_inlined A g in
    let all = length-append (delayed_procs p (length p.funs) (delays p)) (print_procs p) in
    let first = delayed_length p (length p.funs) (delays p) in
    let evals = as_many (eval_rule g A) (past_procs g.procs) g.procs in
    let applies = as_many (apply_rule h A) (past_procs h.procs) h.procs in
    omega (arith, function_delays p, all, first, evals, applies, few_procs (inlined A g).procs)

-- ---- words

pub record FewParts (inlined : Program) (functions : ℕ) (l : low.Program) : Type 0 where
  pub procs : length l.procs ≤ size inlined
  pub globals : length l.globals ≤ functions
  pub light : program_size l ≤ 192 * size inlined
  pub calls : calls_of l ≤ size inlined

pub few_parts : (p : core.Program) (inlined g : Program) (l : low.Program) (most : ℕ)
    → inlined.globals ≡ (tr p).globals
    → DifferOnlyInBodies inlined g → Slim (size inlined) most g → Lowers g l → LoweredIsSmall g l
    → FewParts inlined (length p.funs) l
few_parts p inlined g l most same outside slim lowers small = record {
  procs = omega (arith, lowers.procs, as_many_procs inlined g outside, few_procs inlined.procs);
  globals =
      let n : length l.globals ≡ length g.globals = ap length lowers.globals ∙ length-map g.globals
      _ in
      let m : length g.globals ≡ length (tr p).globals = ap length (outside.same_globals ∙ same) in
      omega (arith, n, m, few_globals p p.funs 0);
  light = omega (arith, small.light, slim.light);
  calls = omega (arith, small.few_calls, slim.few_calls);
}

pub few_words : (procs globals program_size calls size : ℕ) (words items : ℕ) → size ≤ 131072
    → procs ≤ size → globals ≤ 4096
    → program_size ≤ 192 * size → calls ≤ size
    → items ≤ 64 * (procs + globals + 1) + 8 * program_size + 256 * calls → words ≤ items
    → words ≤ 268435456
few_words procs globals program_size calls size words items fits some few light called bound placed
    =
    omega (arith, fits, some, few, light, called, bound, placed)

-- at most 1,920 for each unit of the size
pub few_steps : (procs globals program_size calls size items : ℕ) → procs ≤ size
    → globals + 1 ≤ size → program_size ≤ 192 * size → calls ≤ size
    → items ≤ 64 * (procs + globals + 1) + 8 * program_size + 256 * calls → items ≤ 1920 * size
few_steps procs globals program_size calls size items some few light called bound
    = omega (arith, some, few, light, called, bound)
