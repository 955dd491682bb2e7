-- Core among the texts with lambdas and local functions: its trees are those without either.
use Rattle.std.specs.Prelude.{List, [], ◌∷◌}
use Rattle.core_reader.specs.Tree as core
use Rattle.lambda_reader.specs.Tree.{Term, Terms, NoTerms, AndTerm, Group, NoBinds, AndValue, AndFunction, Expr, App, Let, Case, Alts, NoAlts, AndAlt}
use Rattle.lambda_reader.specs.Tree as tree

abbrev mutual
  pub embed_term : core.Term → Term
  embed_term (core.Name n at) = tree.Name n at
  embed_term (core.Con n at) = tree.Con n at
  embed_term (core.Int k at) = tree.Int k at
  embed_term (core.Bracket head args at) = tree.Bracket (embed_term head) (embed_terms args) at

  pub embed_terms : core.Terms → Terms
  embed_terms core.NoTerms = NoTerms
  embed_terms (core.AndTerm a xs) = AndTerm (embed_term a) (embed_terms xs)

abbrev pub group_from_core : List core.Bind → Group
group_from_core [] = NoBinds
group_from_core (b ∷ bs) =
    AndValue b.binder (embed_term b.app.head) (embed_terms b.app.args) (group_from_core bs)

abbrev mutual
  pub embed : core.Expr → Expr
  embed (core.App app) = App (embed_term app.head) (embed_terms app.args)
  embed (core.Let group e) = Let (group_from_core group) (embed e)
  embed (core.Case e alts) = Case (embed e) (embed_alts alts)

  pub embed_alts : core.Alts → Alts
  embed_alts core.NoAlts = NoAlts
  embed_alts (core.AndAlt p e xs) = AndAlt p (embed e) (embed_alts xs)

-- The tree of Core that is embedded so. Of a lambda a name is left, and of a local function
-- nothing: neither is read in Core.
abbrev mutual
  pub plain_term : Term → core.Term
  plain_term (tree.Name n at) = core.Name n at
  plain_term (tree.Con n at) = core.Con n at
  plain_term (tree.Int k at) = core.Int k at
  plain_term (tree.Bracket head args at) = core.Bracket (plain_term head) (plain_terms args) at
  plain_term (tree.Lambda params body at) = core.Name 0 at

  pub plain_terms : Terms → core.Terms
  plain_terms NoTerms = core.NoTerms
  plain_terms (AndTerm a xs) = core.AndTerm (plain_term a) (plain_terms xs)

abbrev pub group_to_core : Group → List core.Bind
group_to_core NoBinds = []
group_to_core (AndValue b head args rest) =
    record { binder = b; app = record { head = plain_term head; args = plain_terms args } }
    ∷ group_to_core rest
group_to_core (AndFunction b params body rest) = group_to_core rest

abbrev mutual
  pub plain : Expr → core.Expr
  plain (App head args) =
      core.App (record { head = plain_term head; args = plain_terms args })
  plain (Let group e) = core.Let (group_to_core group) (plain e)
  plain (Case e alts) = core.Case (plain e) (plain_alts alts)

  pub plain_alts : Alts → core.Alts
  plain_alts NoAlts = core.NoAlts
  plain_alts (AndAlt p e xs) = core.AndAlt p (plain e) (plain_alts xs)
