-- What the passes after the inlining take out of a program stays out.
use Rattle.std.proofs.Common.{◌≤◌, arith}
use Rattle.grin_syntax.specs.Tree.{Program}
use Rattle.grin_meaning.specs.Ready.{IsInlined}
use Rattle.pass_ground.specs.OpenUpdates.{updates_with_variable_tag}
use Rattle.stage_names.specs.declared.PassName.{PassName}
use Rattle.fetch_passes.specs.Placed.{HasNoWordFetches}
use Rattle.stage_names.specs.declared.PassName.TheVariants.{Translate, Eval, Apply, Vectorise, Simplify, Update}
use Rattle.grin_opt.specs.Schedule.{IsPass, IsFirstPassInput, before, pass_relation, IsOptimised, itself, by_pass}
use Rattle.grin_opt.specs.Staying.{place, IsStageFrom, ComesOfStage, the_same, by_one_more, ComesOfUpdateStage, WhatIsOutStaysOut}
use Rattle.grin_opt.proofs.Gives.{gives}
use Rattle.grin_opt.proofs.Steps.{of_vectors, by_words}
use Rattle.grin_opt.proofs.WholeFetches.{first_whole, stays_whole}

from_vectors : (k : PassName) → IsStageFrom Vectorise k → IsPass k
from_vectors Translate from = omega (arith, from)
from_vectors Eval from = omega (arith, from)
from_vectors Apply from = omega (arith, from)
from_vectors _ from = tt

stays_inlined : (g h : Program) (k : PassName) → IsFirstPassInput g → IsOptimised g k h
    → IsInlined h
stays_inlined g h k taken itself = taken.1.inlined
stays_inlined g h k taken (by_pass {h = b} o s keeps) = (gives k b h s).of_vectors.ready.inlined

whole_fetches : (g h : Program) (k : PassName) → IsFirstPassInput g → IsStageFrom k Simplify
    → IsOptimised g k h → HasNoWordFetches h
whole_fetches g h k taken up itself = first_whole g taken.2
whole_fetches g h k taken up (by_pass {h = b} o s keeps)
    = stays_whole k b h up s (λ up. whole_fetches g b (before k) taken up o)

before_comes_first : (k : PassName) → place (before k) ≤ place k
before_comes_first Translate = omega arith
before_comes_first k = omega arith

comes_after : (g : Program) (k : PassName) (h : Program) (k' : PassName) → ComesOfStage k g k' h
    → place k ≤ place k'
comes_after g k h k' the_same = omega arith
comes_after g k h k' (by_one_more {h = b} c s) = omega
    (arith, comes_after g k b (before k') c, before_comes_first k')

no_more : (g h : Program) (k : PassName) → ComesOfStage Update g k h
    → updates_with_variable_tag h ≤ updates_with_variable_tag g
no_more g h k the_same = omega arith
no_more g h k (by_one_more {h = b} c s) = omega (
  arith,
  no_more g b (before k) c,
  (gives k b h s).no_more_open
      (more k (comes_after g Update b (before k) c)),
)
  where
    more : (k : PassName) → place Update ≤ place (before k) → place Update ≤ place k
    more k h = omega (arith, h, before_comes_first k)

pass_on : (g b h : Program) (k : PassName) → IsStageFrom Update k
    → (IsStageFrom Update (before k) → ComesOfUpdateStage g (before k) b) → IsOptimised g k h
    → pass_relation k b h
    → ComesOfUpdateStage g k h
pass_on g b h Update from so_far o s = record { updated = h; stage = o; comes = the_same }
pass_on g b h k from so_far o s = let far = so_far (omega (arith, from))
    in record { updated = far.updated; stage = far.stage; comes = by_one_more far.comes s }

comes_of : (g h : Program) (k : PassName) → IsStageFrom Update k → IsOptimised g k h
    → ComesOfUpdateStage g k h
comes_of g h k from itself = absurd (omega (arith, from))
comes_of g h k from (by_pass {h = b} o s keeps) = pass_on g b h k from
    (λ from. comes_of g b (before k) from o) (by_pass o s keeps) s

pub stays_out : WhatIsOutStaysOut
stays_out = record {
  inlined = stays_inlined;
  vectorised = λ g h k from o. (of_vectors g h k (from_vectors k from) o).vectorised;
  whole_fetches = whole_fetches;
  by_words = λ g h k from o. by_words g h k from o;
  from_updates = comes_of;
  updates = no_more;
}
