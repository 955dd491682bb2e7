use Rattle.std.proofs.Common.{◌≡◌, ℕ, ◌<◌, List, length, take, subst, ◌∙◌, arith}
use Rattle.lambda_reader.specs.Code.{expr}
use Rattle.lambda_lift.specs.Free.{free}
use Rattle.lambda_lift.specs.Gathered.{program_of_names}
use Rattle.lambda_lift.proofs.Gathers.{not_cut}
use Rattle.lambda_lift.proofs.free.free_names.Goals as goal

all_of : (n : ℕ) (found xs : List ℕ) → found ≡ take n xs → length found < n → found ≡ xs
all_of n found xs e l = e ∙ not_cut n xs (subst (λ ys. length ys < n) e l)

pub returns : goal.returns
returns c = all_of 18446744073709551615 c.in_ok-found.found
    (free (program_of_names c.args.words.now) c.args.scope.now c.args.params.now
    (expr c.args.body.now)) c.in_ok-found.ensures
    (omega (arith, c.len.ensures, c.if-len-ge18446744073709551615.false))
