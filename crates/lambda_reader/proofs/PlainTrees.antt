-- Without lambdas and local functions, what is spelled is Core, and Core is spelled so.
use Rattle.std.proofs.Common.{◌≡◌, ℕ, Bool, true, false, List, [], ◌∷◌, ◌++◌, refl, append_assoc}
use Rattle.core_reader.specs.declared.token.Lexeme.{Lexeme}
use Rattle.core_reader.specs.Tree as core
use Rattle.core_reader.specs.Grammar.{NestingLimit}
use Rattle.core_reader.specs.Grammar as grammar
use Rattle.lambda_reader.specs.Tree.{Term, Terms, NoTerms, AndTerm, Group, NoBinds, AndValue, AndFunction, Expr, App, Let, Case, Alts, NoAlts, AndAlt}
use Rattle.lambda_reader.specs.Tree as tree
use Rattle.lambda_reader.specs.Grammar.{SpellsTerm, SpellsTerms, AfterMember, IsGroup, SpellsGroup, IsNonemptyAlts, AfterAlt, SpellsExpr, SpellsAlts}
use Rattle.lambda_reader.specs.Plain.{embed_term, embed_terms, group_from_core, embed, embed_alts, plain_term, plain_terms, group_to_core, plain, plain_alts}

-- ---- the tree that was embedded

mutual
  plain_embed_term : (a : core.Term) → plain_term (embed_term a) ≡ a
  plain_embed_term (core.Name n at) = refl
  plain_embed_term (core.Con n at) = refl
  plain_embed_term (core.Int k at) = refl
  plain_embed_term (core.Bracket head args at) = λ i. core.Bracket (plain_embed_term head i)
      (plain_embed_terms args i) at

  plain_embed_terms : (xs : core.Terms) → plain_terms (embed_terms xs) ≡ xs
  plain_embed_terms core.NoTerms = refl
  plain_embed_terms (core.AndTerm a xs) = λ i. core.AndTerm (plain_embed_term a i)
      (plain_embed_terms xs i)

plain_embed_group : (bs : List core.Bind) → group_to_core (group_from_core bs) ≡ bs
plain_embed_group [] = refl
plain_embed_group (b ∷ bs) = λ i. record {
  binder = b.binder;
  app = record
      { head = plain_embed_term b.app.head i; args = plain_embed_terms b.app.args i };
} ∷
    plain_embed_group bs i

mutual
  pub plain_embed : (e : core.Expr) → plain (embed e) ≡ e
  plain_embed (core.App app) = λ i. core.App
      (record { head = plain_embed_term app.head i; args = plain_embed_terms app.args i })
  plain_embed (core.Let group e) = λ i. core.Let (plain_embed_group group i) (plain_embed e i)
  plain_embed (core.Case e alts) = λ i. core.Case (plain_embed e i) (plain_embed_alts alts i)

  plain_embed_alts : (xs : core.Alts) → plain_alts (embed_alts xs) ≡ xs
  plain_embed_alts core.NoAlts = refl
  plain_embed_alts (core.AndAlt p e xs) = λ i. core.AndAlt p (plain_embed e i)
      (plain_embed_alts xs i)

module _ (l : NestingLimit) where
  -- ---- Core is spelled so

  mutual
    embedded_term : (lambdas : Bool) (d : ℕ) (a : core.Term) (ts : List Lexeme)
        → grammar.SpellsTerm l d a ts → SpellsTerm lambdas l d (embed_term a) ts
    embedded_term lambdas d (core.Name n at) ts h = h
    embedded_term lambdas d (core.Con n at) ts h = h
    embedded_term lambdas d (core.Int k at) ts h = h
    embedded_term lambdas d (core.Bracket head args at) ts h
        = (
          h.0,
          h.1,
          h.2,
          h.3,
          embedded_term lambdas _ head h.0 h.4,
          embedded_terms lambdas _ args h.1 h.5,
          h.6,
        )

    embedded_terms : (lambdas : Bool) (d : ℕ) (xs : core.Terms) (ts : List Lexeme)
        → grammar.SpellsTerms l d xs ts → SpellsTerms lambdas l d (embed_terms xs) ts
    embedded_terms lambdas d core.NoTerms ts h = h
    embedded_terms lambdas d (core.AndTerm a xs) ts h
        = (h.0, h.1, embedded_term lambdas d a h.0 h.2, embedded_terms lambdas d xs h.1 h.3, h.4)

  embedded_after : (bs : List core.Bind) (ts : List Lexeme) → grammar.AfterBind bs ts
      → AfterMember (group_from_core bs) ts
  embedded_after [] ts h = h
  embedded_after (b ∷ bs) ts h = h

  embedded_some : (bs : List core.Bind) → grammar.IsGroup bs → IsGroup (group_from_core bs)
  embedded_some [] h = h
  embedded_some (b ∷ bs) h = h

  embedded_group : (lambdas : Bool) (d : ℕ) (bs : List core.Bind) (ts : List Lexeme)
      → grammar.SpellsBinds l d bs ts → SpellsGroup lambdas l d (group_from_core bs) ts
  embedded_group lambdas d [] ts h = h
  embedded_group lambdas d (b ∷ bs) ts h =
      let bind = h.3 in
      let app = bind.2 in (
        bind.0,
        app.0,
        app.1,
        h.1,
        h.2,
        embedded_term lambdas d b.app.head app.0 app.2,
        embedded_terms lambdas d b.app.args app.1 app.3,
        embedded_after bs h.1 h.4,
        embedded_group lambdas d bs h.2 h.5,
        simp (h.6, bind.3, app.4, append_assoc),
      )

  embedded_alt : (xs : core.Alts) (ts : List Lexeme) → grammar.AfterAlt xs ts
      → AfterAlt (embed_alts xs) ts
  embedded_alt core.NoAlts ts h = h
  embedded_alt (core.AndAlt p e xs) ts h = h

  embedded_some_alts : (xs : core.Alts) → grammar.IsNonemptyAlts xs → IsNonemptyAlts (embed_alts xs)
  embedded_some_alts core.NoAlts h = h
  embedded_some_alts (core.AndAlt p e xs) h = h

  mutual
    pub embedded : (lambdas : Bool) (d : ℕ) (e : core.Expr) (ts : List Lexeme)
        → grammar.SpellsExpr l d e ts → SpellsExpr lambdas l d (embed e) ts
    embedded lambdas d (core.App app) ts h = (
      h.0,
      h.1,
      embedded_term lambdas d app.head h.0 h.2,
      embedded_terms lambdas d app.args h.1 h.3,
      h.4,
    )
    embedded lambdas d (core.Let group e) ts h = (
      h.0,
      h.1,
      h.2,
      h.3,
      h.4,
      embedded_some group h.5,
      embedded_group lambdas _ group h.2 h.6,
      embedded lambdas _ e h.3 h.7,
      h.8,
    )
    embedded lambdas d (core.Case e alts) ts h = (
      h.0,
      h.1,
      h.2,
      h.3,
      h.4,
      h.5,
      h.6,
      embedded_some_alts alts h.7,
      embedded lambdas _ e h.4 h.8,
      embedded_alts lambdas _ alts h.5 h.9,
      h.10,
    )

    embedded_alts : (lambdas : Bool) (d : ℕ) (xs : core.Alts) (ts : List Lexeme)
        → grammar.SpellsAlts l d xs ts → SpellsAlts lambdas l d (embed_alts xs) ts
    embedded_alts lambdas d core.NoAlts ts h = h
    embedded_alts lambdas d (core.AndAlt p e xs) ts h
        = (
          h.0,
          h.1,
          h.2,
          h.3,
          h.4,
          h.5,
          embedded lambdas d e h.1 h.6,
          embedded_alt xs h.2 h.7,
          embedded_alts lambdas d xs h.3 h.8,
          h.9,
        )

  -- ---- what is spelled without lambdas is Core

  mutual
    plain_is_term : (d : ℕ) (a : Term) (ts : List Lexeme) → SpellsTerm false l d a ts
        → grammar.SpellsTerm l d (plain_term a) ts
    plain_is_term d (tree.Name n at) ts h = h
    plain_is_term d (tree.Con n at) ts h = h
    plain_is_term d (tree.Int k at) ts h = h
    plain_is_term d (tree.Bracket head args at) ts h
        = (h.0, h.1, h.2, h.3, plain_is_term _ head h.0 h.4, plain_is_terms _ args h.1 h.5, h.6)
    plain_is_term d (tree.Lambda params body at) ts h = absurd (let off : false ≡ true = h.4 in cc)

    plain_is_terms : (d : ℕ) (xs : Terms) (ts : List Lexeme) → SpellsTerms false l d xs ts
        → grammar.SpellsTerms l d (plain_terms xs) ts
    plain_is_terms d NoTerms ts h = h
    plain_is_terms d (AndTerm a xs) ts h =
        (h.0, h.1, plain_is_term d a h.0 h.2, plain_is_terms d xs h.1 h.3, h.4)

  plain_is_after : (d : ℕ) (bs : Group) (us ts : List Lexeme) → SpellsGroup false l d bs us
      → AfterMember bs ts → grammar.AfterBind (group_to_core bs) ts
  plain_is_after d NoBinds us ts g h = h
  plain_is_after d (AndValue b head args rest) us ts g h = h
  plain_is_after d (AndFunction b params body rest) us ts g h
      = absurd (let off : false ≡ true = g.4 in cc)

  plain_is_some : (d : ℕ) (bs : Group) (us : List Lexeme) → SpellsGroup false l d bs us → IsGroup bs
      → grammar.IsGroup (group_to_core bs)
  plain_is_some d NoBinds us g h = h
  plain_is_some d (AndValue b head args rest) us g h = h
  plain_is_some d (AndFunction b params body rest) us g h
      = absurd (let off : false ≡ true = g.4 in cc)

  plain_is_group : (d : ℕ) (bs : Group) (ts : List Lexeme) → SpellsGroup false l d bs ts
      → grammar.SpellsBinds l d (group_to_core bs) ts
  plain_is_group d NoBinds ts h = h
  plain_is_group d (AndValue b head args rest) ts h =
      let us : List Lexeme = h.1 ++ h.2 in (
        _,
        h.3,
        h.4,
        (
          h.0,
          us,
          (h.1, h.2, plain_is_term d head h.1 h.5, plain_is_terms d args h.2 h.6, refl),
          refl,
        ),
        plain_is_after d rest h.4 h.3 h.8 h.7,
        plain_is_group d rest h.4 h.8,
        simp (h.9, append_assoc),
      )
  plain_is_group d (AndFunction b params body rest) ts h
      = absurd (let off : false ≡ true = h.4 in cc)

  plain_is_alt : (xs : Alts) (ts : List Lexeme) → AfterAlt xs ts
      → grammar.AfterAlt (plain_alts xs) ts
  plain_is_alt NoAlts ts h = h
  plain_is_alt (AndAlt p e xs) ts h = h

  plain_is_some_alts : (xs : Alts) → IsNonemptyAlts xs → grammar.IsNonemptyAlts (plain_alts xs)
  plain_is_some_alts NoAlts h = h
  plain_is_some_alts (AndAlt p e xs) h = h

  mutual
    pub plain_is : (d : ℕ) (e : Expr) (ts : List Lexeme) → SpellsExpr false l d e ts
        → grammar.SpellsExpr l d (plain e) ts
    plain_is d (App head args) ts h =
        (h.0, h.1, plain_is_term d head h.0 h.2, plain_is_terms d args h.1 h.3, h.4)
    plain_is d (Let group e) ts h = (
      h.0,
      h.1,
      h.2,
      h.3,
      h.4,
      plain_is_some _ group h.2 h.6 h.5,
      plain_is_group _ group h.2 h.6,
      plain_is _ e h.3 h.7,
      h.8,
    )
    plain_is d (Case e alts) ts h = (
      h.0,
      h.1,
      h.2,
      h.3,
      h.4,
      h.5,
      h.6,
      plain_is_some_alts alts h.7,
      plain_is _ e h.4 h.8,
      plain_is_alts _ alts h.5 h.9,
      h.10,
    )

    plain_is_alts : (d : ℕ) (xs : Alts) (ts : List Lexeme) → SpellsAlts false l d xs ts
        → grammar.SpellsAlts l d (plain_alts xs) ts
    plain_is_alts d NoAlts ts h = h
    plain_is_alts d (AndAlt p e xs) ts h = (
      h.0,
      h.1,
      h.2,
      h.3,
      h.4,
      h.5,
      plain_is d e h.1 h.6,
      plain_is_alt xs h.2 h.7,
      plain_is_alts d xs h.3 h.8,
      h.9,
    )
