use Rattle.std.proofs.Common.{◌≡◌, rules, sym, subst}
use Rattle.std.proofs.lemmas.Result.{IfOk-weaker}
use Rattle.grin_syntax.specs.Tree.{program_of}
use Rattle.stage_names.specs.declared.PassName.TheVariants.{Apply, Copy, Update, Unbox}
use Rattle.grin_opt.specs.Schedule.{IsOfStage, IsOptimised, itself}
use Rattle.grin_opt.proofs.Steps.{stage_of, further}
use Rattle.grin_opt.proofs.schedule.+optimise.Goals as goal

pub returns-then-eq : goal.returns-then-eq
returns-then-eq t c =
    let e : c.args.upto ≡ Apply = search rules in
    subst (λ k. IsOptimised (program_of c.args.g) k (program_of c.args.g)) (sym e) itself

pub updated_and_unboxed-requires : goal.updated_and_unboxed-requires
updated_and_unboxed-requires t c = stage_of _ _ Copy c.requires.taken c.in_ok-copied.ensures

pub returns-then-eq-2 : goal.returns-then-eq-2
returns-then-eq-2 t c =
    let e : c.args.upto ≡ Unbox = search rules in
    IfOk-weaker c.updated_and_unboxed.result _ _
    (λ h both. subst (λ k. IsOptimised (program_of c.args.g) k (program_of h)) (sym e)
    (further _ _ _ Unbox (further _ _ _ Update c.in_ok-copied.ensures both.first) both.second))
    c.updated_and_unboxed.ensures

pub after_pass-requires : goal.after_pass-requires
after_pass-requires t c = (
  search rules,
  subst (λ k. IsOfStage k (program_of c.in_ok-given.given)) c.stage_before.ensures
      (stage_of _ _ _ c.requires.taken c.in_ok-given.ensures),
)

pub returns : goal.returns
returns t c =
    let before = subst (λ k. IsOptimised (program_of c.args.g) k (program_of c.in_ok-given.given))
    c.stage_before.ensures c.in_ok-given.ensures in
    IfOk-weaker c.after_pass.result _ _ (λ h made. further _ _ _ _ before made)
    c.after_pass.ensures.made
