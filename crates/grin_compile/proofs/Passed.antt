-- The passes after the inlining, one after another, and the stages that they make.
use Rattle.std.proofs.Common.{◌≡◌, ℕ, suc, ◌-◌, ◌≤◌, List, [], ◌∷◌, ◌++◌, length, map, get_or, Some, slice_get, refl, sym, ap, subst, append-nil, arith, rules}
use Rattle.std.proofs.lemmas.Grind.{common_steps}
use Rattle.std.proofs.lemmas.List.FromFn.{fill_by_all}
use Rattle.arity_check.specs.Program as core
use Rattle.grin_syntax.specs.Tree.{Program}
use Rattle.stage_names.specs.declared.PassName.{PassName}
use Rattle.stage_names.specs.declared.PassName.TheVariants.{Apply, Vectorise}
use Rattle.grin_opt.specs.Schedule.{IsOfStage, IsPassResult}
use Rattle.grin_opt.specs.Staying.{place}
use Rattle.grin_compile.specs.Passed.{FollowStage, AreResultsOfPasses, last_program}
use Rattle.grin_compile.specs.Stages.{passes, AreStages}

-- the last of these passes after the one of a stage
abbrev pub last_pass : PassName → List PassName → PassName
last_pass b [] = b
last_pass b (k ∷ ks) = last_pass k ks

pub all_follow : FollowStage Apply passes
all_follow = search rules

pub as_many : (p : core.Program) (ks : List PassName) (g : Program) (hs : List Program)
    → AreStages p ks g hs → length hs ≡ length ks
as_many p [] g [] are = refl
as_many p [] g (h ∷ hs) are = absurd are
as_many p (k ∷ ks) g [] are = absurd are
as_many p (k ∷ ks) g (h ∷ hs) are = ap suc (as_many p ks h hs are.1.1)

-- ---- one pass more

-- The stages hs so far, after g: whatever the rest of the passes make of the last one completes
-- them. That one is of the stage that the next pass takes.
pub record ArePassed (all : List PassName) (g : Program) (rest : List PassName) (hs : List Program)
    : Type 0 where
  pub stage : PassName
  pub is_of : IsOfStage stage (last_program g hs)
  pub follow : FollowStage stage rest
  pub completed : (more : List Program) → AreResultsOfPasses rest (last_program g hs) more
      → AreResultsOfPasses all g (hs ++ more)

last_pushed : (g : Program) (hs : List Program) (h : Program) → last_program g (hs ++ (h ∷ [])) ≡ h
last_pushed g hs h = grind (arith, common_steps)

pushed : (hs : List Program) (h : Program) (more : List Program) → (hs ++ (h ∷ [])) ++ more ≡ hs
    ++ (h ∷ more)
pushed [] h more = refl
pushed (x ∷ hs) h more = ap (λ l. x ∷ l) (pushed hs h more)

pub one_more : (all : List PassName) (g : Program) (k : PassName) (ks : List PassName)
    (hs : List Program) (h : Program) → ArePassed all g (k ∷ ks) hs
    → IsPassResult k (last_program g hs) h → IsOfStage k h → ArePassed all g ks (hs ++ (h ∷ []))
one_more all g k ks hs h so_far made is_of =
    let last = last_pushed g hs h in
    record {
      stage = k;
      is_of = subst (IsOfStage k) (sym last) is_of;
      follow = so_far.follow.1.1;
      completed = λ more are. subst (AreResultsOfPasses all g) (sym (pushed hs h more))
          (so_far.completed (h ∷ more) (made, subst (λ g. AreResultsOfPasses ks g more) last are));
    }

pub all_passed : (all : List PassName) (g : Program) (hs : List Program) → ArePassed all g [] hs
    → AreResultsOfPasses all g hs
all_passed all g hs so_far = subst (AreResultsOfPasses all g) (append-nil hs)
    (so_far.completed [] tt)

-- ---- the last one that is as is asked

-- from this place on there is none
abbrev pub NoneFrom : (Asked : Program → Type 0) (hs : List Program) → ℕ → Type 0
NoneFrom Asked hs end = (k : ℕ) (h : Program) → end ≤ k → slice_get hs k ≡ Some h → Asked h → ⊥

-- no stage that stands at a place is as is asked, and so none from that place on
pub one_less : (Asked : Program → Type 0) (hs : List Program) (at : ℕ) (g : Program)
    → NoneFrom Asked hs (suc at) → slice_get hs at ≡ Some g → (Asked g → ⊥) → NoneFrom Asked hs at
one_less Asked hs at g none there not k h from also asked = grind (arith, none k h)

-- ---- the stages by the places of their passes

pub by_places : (hs : List Program) (d : Program) → length hs ≡ length passes
    → map (λ k. get_or hs (place k - place Vectorise) d) passes ≡ hs
by_places hs d many = sym
    (fill_by_all (λ i. get_or hs i d) hs (length passes) d many (λ k within. refl))
