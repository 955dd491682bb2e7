use Rattle.std.proofs.Common.{◌≡◌, ◌-◌, ◌<◌, List, true, length, get_or, refl, subst, sym, ap, ◌∙◌, arith}
use Rattle.std.specs.Prelude.{◌==◌, false, IfSome, remove}
use Rattle.std.specs.List.{insert as put_at}
use Rattle.seq.proofs.Results.{ok_follows}
use Rattle.seq.proofs.Order.{eq_self}
use Rattle.core_reader.specs.Tree.{Expr, expr}
use Rattle.match_compile.specs.declared.row.Pending.{Pending}
use Rattle.match_compile.specs.declared.tree.Branch.{Branch}
use Rattle.match_compile.specs.declared.tree.TreeAfterInsertion.{TreeAfterInsertion}
use Rattle.match_compile.specs.Trees.{has_head, fits, insert, max_chained_cases}
use Rattle.match_compile.specs.RowOf.{pending, first_of, rows_of, row_with_field_places, opening}
use Rattle.match_compile.specs.TreeOf.{tree_of, branches_of, left_of, insertion_result, IsNew, is_closed, without_default, with_default, after_branches, branch_for}
use Rattle.match_compile.proofs.Comes.{less_one, at_body, at_tests, closed_stays, open_takes, makes_one, goes_to_one}
use Rattle.match_compile.proofs.Grows.{got}
use Rattle.match_compile.proofs.tree.+insert.Goals as goal

pub insert-returns-in-Body : goal.insert-returns-in-Body
insert-returns-in-Body t c =
    ok_follows _ _ c.not_taken.result (λ g e.
    at_body c.args.room c.args.free (expr c.args.body.value)
    (rows_of c.args.way (expr c.args.body.value)) c.args.tree.value c.in-Body.old
    c.in-Body.taken g
    (sym c.into_inner.ensures ∙ c.in-Body.is) e) c.not_taken.ensures

pub insert_test-new_test-requires : goal.insert_test-new_test-requires
insert_test-new_test-requires t c = λ e.
    subst (λ bs. IfSome (first_of (pending c.args.way.jobs))
    (λ x. has_head x.head (branches_of bs) ≡ false)) (sym c.as_slice.ensures) (c.requires e)

pub insert-returns-in-Tests : goal.insert-returns-in-Tests
insert-returns-in-Tests t c =
    let m : c.saturating_sub-room.result ≡ c.args.room - 1
    = omega (arith, c.saturating_sub-room.ensures) in
    ok_follows _ _ c.insert_test.result (λ g e.
    at_tests c.args.way (expr c.args.body.value) c.args.room c.args.free c.args.tree.value
    c.in-Tests.place c.in-Tests.branches c.saturating_sub-room.result g
    (sym c.into_inner.ensures ∙ c.in-Tests.is) (m ∙ less_one c.args.room) e) c.insert_test.ensures

pub insert_test-returns-in-Some : goal.insert_test-returns-in-Some
insert_test-returns-in-Some t c =
    let new : IsNew c.args.place c.args.branches (pending c.args.way.jobs) c.in-Some.test =
    subst (λ bs. IsNew c.args.place bs (pending c.args.way.jobs) c.in-Some.test) c.as_slice.ensures
    c.in-Some.ensures in
    ok_follows _ _ c.without_default.result
    (λ g e. e ∙ ap (without_default c.args.place) c.in_ok-put.ensures
    ∙ ap (λ q. after_branches c.args.room c.args.place q (rows_of c.args.way))
    (makes_one (expr c.args.body.value) c.args.way.bound (pending c.args.way.jobs) c.args.place
    c.args.free c.args.branches c.in-Some.test
    new.first new.here new.fits_in new.number)) c.without_default.ensures

pub insert_test-returns-then-is_closed : goal.insert_test-returns-then-is_closed
insert_test-returns-then-is_closed t c =
    let bs : List Branch = c.args.branches in
    let closed : is_closed c.args.room (branches_of bs) ≡ true =
    ap (λ xs. is_closed c.args.room (branches_of xs)) (sym c.as_slice-2.ensures) ∙ sym
    c.is_closed.ensures ∙ c.if-is_closed.true in
    ok_follows _ _ c.without_default-then-is_closed.result
    (λ g e. e ∙ ap (without_default c.args.place) c.in_ok-put-2.ensures
    ∙ closed_stays c.args.way (expr c.args.body.value) c.args.room c.args.place (branches_of bs)
    c.args.free _ closed) c.without_default-then-is_closed.ensures

pub insert_test-returns : goal.insert_test-returns
insert_test-returns t c =
    let bs : List Branch = c.args.branches in
    let opens : is_closed c.args.room (branches_of bs) ≡ false =
    ap (λ xs. is_closed c.args.room (branches_of xs)) (sym c.as_slice-2.ensures) ∙ sym
    c.is_closed.ensures ∙ c.if-is_closed.false in
    ok_follows _ _ c.with_default.result (λ g e. e
    ∙ (λ i. with_default c.args.place (c.in_ok-put-3.ensures i) (rows_of (c.in_ok-kept.ensures i)))
    ∙ open_takes c.args.way (expr c.args.body.value) c.args.room c.args.place (branches_of bs)
    c.args.free _ opens) c.with_default.ensures

pub insert_branch-returns-in-None : goal.insert_branch-returns-in-None
insert_branch-returns-in-None t c =
    let here : (c.in-Some.test.place == c.args.place) ≡ true
    = ap (λ q. c.in-Some.test.place == q) (sym c.if-test-place.false) ∙ eq_self
    c.in-Some.test.place in
    let fit : fits c.in-Some.test.head (branches_of c.args.branches) ≡ true
    = ap (λ bs. fits c.in-Some.test.head (branches_of bs)) (sym c.as_slice.ensures) ∙ sym
    c.fits.ensures ∙ c.if-not-fits.false in
    ok_follows _ _ c.new_branch.result (λ put e. e
    ∙ makes_one (expr c.args.body.value) c.args.way.bound (pending c.args.way.jobs) c.args.place
    c.args.free c.args.branches c.in-Some.test (sym c.first.ensures ∙ c.in-Some.is) here fit
    (subst (λ bs. branch_for c.in-Some.test.head bs ≡ length bs) c.as_slice-2.ensures
    c.in-None.ensures.number)) c.new_branch.ensures

pub insert_branch-returns-in_ok-insert-in-Some-branch_for
    : goal.insert_branch-returns-in_ok-insert-in-Some-branch_for
insert_branch-returns-in_ok-insert-in-Some-branch_for t c =
    let way : Pending = c.args.way in
    let body : Expr = expr c.args.body.value in
    let bs : List Branch = c.args.branches in
    let k = c.in-Some-branch_for.k in
    let b : Branch = c.remove-branch.result in
    let g : TreeAfterInsertion = c.in_ok-grown-in-Some-branch_for.grown in
    let x : Branch = record { head = b.head; places = b.places; tree = g.tree } in
    let here : (c.in-Some.test.place == c.args.place) ≡ true
    = ap (λ q. c.in-Some.test.place == q) (sym c.if-test-place.false) ∙ eq_self
    c.in-Some.test.place in
    let fit : fits c.in-Some.test.head (branches_of bs) ≡ true
    = ap (λ bs. fits c.in-Some.test.head (branches_of bs)) (sym c.as_slice.ensures) ∙ sym
    c.fits.ensures ∙ c.if-not-fits.false in
    let number : branch_for c.in-Some.test.head bs ≡ k
    = subst (λ bs. branch_for c.in-Some.test.head bs ≡ k) c.as_slice-2.ensures
    c.in-Some-branch_for.ensures.number in
    let within : k < length bs = subst (λ (bs : List Branch). k < length bs) c.as_slice-2.ensures
    c.in-Some-branch_for.ensures.within in
    let value : b ≡ get_or bs k b = c.remove-branch.ensures.value ∙ ap (λ ys. get_or ys k b)
    c.into_vec-branches.ensures in
    let made : c.from_vec.result ≡ put_at (remove bs k) k x
    = c.from_vec.ensures ∙ c.in_ok-insert-in-Some-branch_for.ensures.items ∙ ap
    (λ ys. put_at ys k x)
    (c.remove-branch.ensures.items ∙ ap (λ ys. remove ys k) c.into_vec-branches.ensures) in
    let row : rows_of c.in_ok-opened-in-Some-branch_for.opened body ≡ row_with_field_places
    (rows_of way body) b.places = ap (λ f. f body)
    (c.in_ok-opened-in-Some-branch_for.ensures ∙ ap (opening way)
    c.as_slice-in-Some-branch_for.ensures) in
    ap (λ bs. ((branches_of bs, g.free), left_of g.left)) made
    ∙ goes_to_one body way.bound (pending way.jobs) c.args.place c.args.free bs c.in-Some.test
    (sym c.first.ensures ∙ c.in-Some.is) here fit k b x g number (got bs k b within value) refl
    refl refl
    (c.in_ok-grown-in-Some-branch_for.ensures ∙ ap
    (λ r. insertion_result (tree_of b.tree.value, c.args.free) body
    (insert max_chained_cases (tree_of b.tree.value) c.args.free r)) row)
