use Rattle.std.proofs.Common.{◌≡◌, ◌*◌, IsTrue, nat_eq, ap, ◌∙◌, subst, get_or, arith}
use Rattle.std.proofs.lemmas.Bool.Decides.{nat_tests}
use Rattle.points_to.specs.Held.{In}
use Rattle.points_to.specs.Bits.{Finds, numbers}
use Rattle.points_to.proofs.Blocks.{found}
use Rattle.seq.proofs.Member.{none_in}
use Rattle.points_to.proofs.Numbers.{no_numbers}
use Rattle.points_to.proofs.BlockSets.{has_all}
use Rattle.points_to.proofs.bits.has_at.Goals as goal

is_zero : (x : _) → IsTrue (nat_eq x 0) → x ≡ 0
is_zero x e = grind (arith, nat_tests)

pub returns-in-Ok : goal.returns-in-Ok
returns-in-Ok c = λ t.
    let bs = c.args.blocks.now in
    let b = c.args.block in
    let k = c.in-Ok.place in
    has_all bs b (get_or bs k (0, 0)).1
    (found bs c.requires.ascending b.0 k (subst (Finds bs b.0) c.in-Ok.is c.requires.finds))
    (c.is_within.ensures t)

pub returns-in-Err : goal.returns-in-Err
returns-in-Err c = λ t n h.
    let b = c.args.block in
    none_in (subst (In n) (ap (numbers 64 (b.0 * 64)) (is_zero b.1 t) ∙ no_numbers 64 (b.0 * 64)) h)
