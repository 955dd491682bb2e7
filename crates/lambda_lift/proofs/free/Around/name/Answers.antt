use Rattle.std.proofs.Common.{◌≡◌, ℕ, Bool, true, false, cond, List, [], ◌∷◌, ◌++◌, sym, ap, ◌∙◌}
use Rattle.std.specs.Prelude.{if◌then◌else◌}
use Rattle.seq.specs.Lists.{is_among}
use Rattle.arity_check.specs.Scope.{Scope}
use Rattle.lambda_lift.specs.Headers.{is_local}
use Rattle.lambda_lift.specs.Gathered.{program_of_names, scope_names, is_new, collected_in_scope}
use Rattle.lambda_lift.proofs.Gathers.{gathered_none, gathered_one}
use Rattle.lambda_lift.proofs.free.Around.name.Goals as goal

module _ (names : List (List ℕ)) (s : Scope) (n : ℕ) (found : List ℕ) (x : ℕ) where
  abbrev after : Bool → List ℕ
  after b = collected_in_scope names s n found (if b then [] else (x ∷ []))

  pub stays : (b : Bool) → b ≡ true → found ≡ after b
  stays b e = sym (ap after e ∙ gathered_none (is_local (program_of_names names) s) n found)

  pub grows : (b new : Bool) (more : List ℕ) → b ≡ false
      → new ≡ is_new (is_local (program_of_names names) s) n found x
      → more ≡ cond new (found ++ x ∷ []) found → more ≡ after b
  grows b new more e f g = g ∙ ap (λ b. cond b (found ++ x ∷ []) found) f ∙ sym
      (ap after e ∙ gathered_one (is_local (program_of_names names) s) n found x)

pub returns-then-is_hidden : goal.returns-then-is_hidden
returns-then-is_hidden c =
    stays c.args.self.now.words.now c.args.self.now.scope.now c.args.self.now.limit c.args.found.now
    c.args.name.0 (is_among c.args.name.0 (scope_names c.args.inside.now))
    (sym c.is_hidden.ensures ∙ c.if-is_hidden.true)

pub returns : goal.returns
returns c =
    grows c.args.self.now.words.now c.args.self.now.scope.now c.args.self.now.limit c.args.found.now
    c.args.name.0 (is_among c.args.name.0 (scope_names c.args.inside.now)) c.is_new-adds.result
    c.add_where.new.found
    (sym c.is_hidden.ensures ∙ c.if-is_hidden.false)
    (c.is_new-adds.ensures ∙ ap
    (λ f. is_new
    (is_local (program_of_names c.args.self.now.words.now) c.args.self.now.scope.now)
    c.args.self.now.limit f c.args.name.0) c.as_slice.ensures) c.in_ok-add_where.ensures
