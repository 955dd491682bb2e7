-- What the pieces of a program keep where alternatives change places.
use Rattle.std.proofs.Common.{◌≡◌, ℕ, ◌+◌, Bool, List, ◌++◌, arith}
use Rattle.grin_syntax.specs.declared.program.Shape.{Shape}
use Rattle.grin_syntax.specs.declared.program.Val.{Val}
use Rattle.grin_syntax.specs.declared.program.Word.{Word}
use Rattle.grin_syntax.specs.Tree.{Code, Arms, no_arm, arm}
use Rattle.grin_syntax.specs.Binders.{shape_vars, act_vars, code_vars, arms_vars, act_sites, code_sites, arms_sites}
use Rattle.grin_meaning.specs.Ready.{EachAct, NarrowAct, PieceKind}
use Rattle.grin_meaning.specs.Slim.{act_weight, act_calls, inner_words}
use Rattle.pass_ground.specs.OpenUpdates.{act_update_sum}
use Rattle.seq.specs.Lists.{times}
use Rattle.seq.proofs.Counted.{times_append}
use Rattle.grin_rewrite.proofs.KeptByWords.{Kept, vars_kept, sites_kept, weight_kept, calls_kept, words_kept, updates_kept, Blind, each_kept, results_kept}
use Rattle.grin_rewrite.proofs.FactText.{CasesKeep}
use Rattle.pass_order.specs.Order.{ordering, values_first}
use Rattle.pass_order.proofs.Moved.{Moves, in_order}

abbrev pub unchanged : Unit {0} → Word → Word
unchanged _ a = a

-- two alternatives may change places
abbrev pub Swaps : Kept → Type 0
Swaps q = (s u : Shape) (b c : Code) (as' : Arms)
    → q.arms (arm s b (arm u c as')) (arm u c (arm s b as'))

module _ (q : Kept) (swaps : Swaps q) (delayed : List Bool) where
  same_arms : (as' : Arms) → q.arms as' as'
  same_arms no_arm = q.none_left
  same_arms (arm s b as') = q.more s b b as' as' (q.same_code b) (same_arms as')

  keeps_moved : Moves delayed
  keeps_moved = record {
    arms = q.arms;
    same = same_arms;
    more = λ s b as' bs' h. q.more s b b as' bs' (q.same_code b) h;
    swaps = λ s u b c as' a. swaps s u b c as';
    again = q.again;
  }

  pub cases_keep : CasesKeep (ordering delayed) unchanged q
  unfolding keeps_moved
  cases_keep f v v' as' bs' h k = q.cases v v' as' (values_first delayed bs') h
      (q.again as' bs' (values_first delayed bs') k (in_order delayed keeps_moved bs'))

-- ---- each of the relations

module _ (y : ℕ) where
  vars_of : (s : Shape) (b : Code) (as' : Arms) → times y (arms_vars (arm s b as'))
      ≡ times y (shape_vars s) + (times y (code_vars b) + times y (arms_vars as'))
  unfolding act_vars
  vars_of s b as' =
      let e : times y (shape_vars s ++ (code_vars b ++ arms_vars as')) ≡ times y (shape_vars s)
      + times y (code_vars b ++ arms_vars as')
      = times_append y (shape_vars s) (code_vars b ++ arms_vars as') in
      let f : times y (code_vars b ++ arms_vars as') ≡ times y (code_vars b)
      + times y (arms_vars as') = times_append y (code_vars b) (arms_vars as') in
      omega (arith, e, f)

  pub vars_swap : Swaps (vars_kept y)
  unfolding vars_kept
  vars_swap s u b c as' =
      let e = vars_of s b (arm u c as') in
      let f = vars_of u c as' in
      let k = vars_of u c (arm s b as') in
      let l = vars_of s b as' in
      omega (arith, e, f, k, l)

  sites_of : (s : Shape) (b : Code) (as' : Arms) → times y (arms_sites (arm s b as'))
      ≡ times y (code_sites b) + times y (arms_sites as')
  unfolding act_sites
  sites_of s b as' = times_append y (code_sites b) (arms_sites as')

  pub sites_swap : Swaps (sites_kept y)
  unfolding sites_kept
  sites_swap s u b c as' =
      let e = sites_of s b (arm u c as') in
      let f = sites_of u c as' in
      let k = sites_of u c (arm s b as') in
      let l = sites_of s b as' in
      omega (arith, e, f, k, l)

pub weight_swap : Swaps weight_kept
unfolding weight_kept act_weight
weight_swap s u b c as' = omega arith

pub calls_swap : Swaps calls_kept
unfolding calls_kept act_calls
calls_swap s u b c as' = omega arith

pub words_swap : Swaps words_kept
unfolding words_kept inner_words
words_swap s u b c as' = omega arith

pub updates_swap : (count : Val → ℕ) → Swaps (updates_kept count)
unfolding updates_kept act_update_sum
updates_swap count s u b c as' = omega arith

pub each_swap : (K : PieceKind) (blind : Blind K) → Swaps (each_kept K blind)
unfolding each_kept EachAct
each_swap K blind s u b c as' e = (e.2.0, e.2.1, (e.0, e.1, e.2.2))

pub results_swap : (width most : ℕ) → Swaps (results_kept width most)
unfolding results_kept NarrowAct
results_swap width most s u b c as' e = (e.1.0, (e.0, e.1.1))
