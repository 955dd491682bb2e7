-- What is delayed in a program, over the code's list of functions.
use Rattle.std.proofs.Common.{◌≡◌, ℕ, zero, suc, ◌+◌, ◌||◌, List, [], ◌∷◌, ◌++◌, map, filter, length, cond, append_assoc, Some, None, slice_get, refl, sym, ap, ◌∙◌}
use Rattle.std.proofs.lemmas.Option.{same_Some, none-some}
use Rattle.std.proofs.lemmas.List.{length-map}
use Rattle.std.specs.List.{list_any}
use Rattle.arity_check.specs.declared.normal.Checked.{Checked}
use Rattle.arity_check.specs.declared.normal.Fun.{Fun}
use Rattle.arity_check.specs.Program.{program, function, term}
use Rattle.core_meaning.specs.Evaluation.{params}
use Rattle.grin_translate.specs.declared.tags.Delay.{Delay}
use Rattle.grin_translate.specs.declared.tags.Delay.TheVariants.{Calls, Applies, Operates, Reads}
use Rattle.grin_translate.specs.declared.numbering.Numbers.{Numbers}
use Rattle.grin_translate.specs.Numbered.{NumbersMatchProgram, prefix_sums, after, globals_before, global_count, parameter_counts}
use Rattle.grin_translate.specs.Tags.{delays_in, is_delayed, takes_input, delays, operations}
use Rattle.seq.specs.Lists.{numbers_from}

any_of_map : (d : Delay) (fs : List Fun) → list_any (λ f. delays_in d f.body) (map function fs) ≡
    list_any (λ f. delays_in d (term f.body)) fs
any_of_map d [] = refl
any_of_map d (f ∷ fs) = ap (λ b. delays_in d (term f.body) || b) (any_of_map d fs)

pub delayed_in : (p : Checked) (d : Delay) → is_delayed (program p) d ≡ list_any
    (λ f. delays_in d (term f.body)) p.funs
unfolding is_delayed
delayed_in p d = any_of_map d p.funs

pub function_at : (fs : List Fun) (i : ℕ) (f : Fun) → slice_get fs i ≡ Some f
    → slice_get (map function fs) i ≡ Some (function f)
function_at [] i f e = absurd (none-some f e)
function_at (g ∷ fs) zero f e = ap (λ x. Some (function x)) (same_Some g f e)
function_at (g ∷ fs) (suc i) f e = function_at fs i f e

pub no_function_at : (fs : List Fun) (i : ℕ) → slice_get fs i ≡ None
    → slice_get (map function fs) i ≡ None
no_function_at [] i e = refl
no_function_at (g ∷ fs) zero e = absurd (none-some g (sym e))
no_function_at (g ∷ fs) (suc i) e = no_function_at fs i e

pub params-from_get : (p : Checked) (i : ℕ) (f : Fun) → slice_get p.funs i ≡ Some f
    → params (program p) i ≡ f.params
params-from_get p i f e = rw (function_at p.funs i f e) refl

pub params-from_none : (p : Checked) (i : ℕ) → slice_get p.funs i ≡ None → params (program p) i ≡ 0
params-from_none p i e = rw (no_function_at p.funs i e) refl

-- what waits, from its parts
pub delays_made : (p : Checked) (n : ℕ) (called waiting : List Delay) → n ≡ length p.funs
    → called ≡ map Calls (numbers_from 0 n)
    → waiting ≡ called ++ filter (is_delayed (program p))
    (map Applies (numbers_from 0 13) ++ map Operates operations)
    → waiting ++ cond (takes_input (program p)) (Reads ∷ []) [] ≡ delays (program p)
unfolding delays
delays_made p n called waiting e f g =
    let many : n ≡ length (map function p.funs) = e ∙ sym (length-map p.funs function) in
    ap (λ xs. xs ++ cond (takes_input (program p)) (Reads ∷ []) [])
    (g ∙ ap (λ xs. xs ++ filter (is_delayed (program p))
    (map Applies (numbers_from 0 13) ++ map Operates operations))
    (f ∙ ap (λ k. map Calls (numbers_from 0 k)) many))
    ∙ append_assoc (map Calls (numbers_from 0 (length (map function p.funs))))
    (filter (is_delayed (program p))
    (map Applies (numbers_from 0 13) ++ map Operates operations))
    (cond (takes_input (program p)) (Reads ∷ []) [])

params_each_same : (fs : List Fun) → parameter_counts (map function fs) ≡ map (λ f. f.params) fs
params_each_same [] = refl
params_each_same (f ∷ fs) = ap (λ ns. f.params ∷ ns) (params_each_same fs)

pub numbers_made : (p : Checked) (n : Numbers) → n.functions ≡ length p.funs
    → n.constructors ≡ length p.cons → n.delays ≡ delays (program p) → n.waiting ≡ length n.delays
    → n.parts ≡ prefix_sums (1 + n.constructors + n.waiting) (map (λ f. f.params) p.funs)
    → n.tags ≡ after (1 + n.constructors + n.waiting) (map (λ f. f.params) p.funs)
    → n.globals ≡ globals_before 0 (map (λ f. f.params) p.funs)
    → n.shared ≡ global_count 0 (map (λ f. f.params) p.funs) → NumbersMatchProgram (program p) n
numbers_made p n e f g h i j k l =
    let many : n.waiting ≡ length (delays (program p)) = h ∙ ap length g in
    let first : 1 + n.constructors + n.waiting ≡ 1 + length p.cons + length (delays (program p))
    = (λ z. 1 + f z + many z) in
    let same = sym (params_each_same p.funs) in
    record {
      functions = e ∙ sym (length-map p.funs function);
      constructors = f;
      delays = g;
      waiting = many;
      parts = i ∙ (λ z. prefix_sums (first z) (same z));
      tags = j ∙ (λ z. after (first z) (same z));
      globals = k ∙ ap (globals_before 0) same;
      shared = l ∙ ap (global_count 0) same;
    }
