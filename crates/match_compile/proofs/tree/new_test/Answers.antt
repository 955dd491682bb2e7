use Rattle.std.proofs.Common.{◌≡◌, false, Some, sym, ap, subst, ◌∙◌}
use Rattle.std.specs.Prelude.{◌==◌, IfSome}
use Rattle.seq.proofs.Order.{eq_self}
use Rattle.match_compile.specs.Trees.{has_head}
use Rattle.match_compile.specs.RowOf.{pending, first_of}
use Rattle.match_compile.specs.TreeOf.{branches_of}
use Rattle.match_compile.proofs.Knowing.{no_number}
use Rattle.match_compile.proofs.tree.new_test.Goals as goal

pub returns-then-is_new : goal.returns-then-is_new
returns-then-is_new c =
    let first : first_of (pending c.args.way.now.jobs) ≡ Some c.in-Some.test
    = sym c.first.ensures ∙ c.in-Some.is in
    record {
      first = first;
      here = ap (λ q. c.in-Some.test.place == q) (sym c.if-test-place.false) ∙ eq_self
          c.in-Some.test.place;
      fits_in = sym c.fits.ensures ∙ c.if-not-fits.false;
      number = no_number c.in-Some.test.head c.args.branches.now
          (subst (λ o. IfSome o (λ t. has_head t.head (branches_of c.args.branches.now) ≡ false))
          first (c.requires c.if-is_new.true));
    }

pub returns-in-None : goal.returns-in-None
returns-in-None c = record {
  first = sym c.first.ensures ∙ c.in-Some.is;
  here = ap (λ q. c.in-Some.test.place == q) (sym c.if-test-place.false) ∙ eq_self
      c.in-Some.test.place;
  fits_in = sym c.fits.ensures ∙ c.if-not-fits.false;
  number = c.in-None.ensures.number;
}
