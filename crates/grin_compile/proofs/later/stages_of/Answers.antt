use Rattle.std.proofs.Common.{◌≡◌, ◌+◌, [], ◌∷◌, drop, get_or, map, sym, ap, ◌∙◌, subst}
use Rattle.std.proofs.lemmas.List.{drop_more, drop_all, map-append}
use Rattle.grin_syntax.specs.Tree.{program_of}
use Rattle.stage_names.specs.declared.PassName.TheVariants.{Translate}
use Rattle.grin_opt.specs.Schedule.{IsPassResult}
use Rattle.grin_compile.specs.Passed.{last_program}
use Rattle.grin_compile.proofs.Passed.{ArePassed, one_more, all_passed}
use Rattle.grin_compile.proofs.later.stages_of.Goals as goal

pub loop-pass-preserved : goal.loop-pass-preserved
loop-pass-preserved c =
    let all = c.args.passes.now in
    let g = program_of c.args.g.now in
    let k = get_or all c.loop-pass.pass-index Translate in
    let stages = c.loop-pass.stages.items in
    let hs = map program_of stages in
    let h = program_of c.in_ok-stage.stage in
    let so_far = subst (λ ks. ArePassed all g ks hs)
    (drop_more all c.loop-pass.pass-index Translate c.loop-pass-test.true) c.loop-pass.invariant
    in
    let last : program_of c.last_stage.result.now ≡ last_program g hs
    = c.last_stage.ensures ∙ ap (λ l. last_program g (map program_of l))
    c.as_slice.ensures.value in
    let made = subst (λ b. IsPassResult k b h) last c.in_ok-stage.ensures.made in
    let are = ap (map program_of) c.in_ok-push.ensures.items ∙ map-append program_of stages
    (c.in_ok-stage.stage ∷ []) in
    subst (ArePassed all g (drop (c.loop-pass.pass-index + 1) all)) (sym are)
    (one_more all g k _ hs h so_far made c.in_ok-stage.ensures.stage)

pub returns : goal.returns
returns c =
    let all = c.args.passes.now in
    let g = program_of c.args.g.now in
    let hs = map program_of c.loop-pass.stages.items in
    all_passed all g hs
    (subst (λ ks. ArePassed all g ks hs)
    (drop_all c.loop-pass.pass-index all c.loop-pass-test.false) c.loop-pass.invariant)
