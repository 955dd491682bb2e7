-- The tree of each part of a text with lambdas, by those of its parts.
use Rattle.std.proofs.Common.{◌≡◌, ℕ, ℤ, List, map, ap, sym, ◌∙◌}
use Rattle.std.specs.declared.boxed.Box.{Box}
use Rattle.std.specs.declared.alloc.Global.{Global}
use Rattle.core_reader.specs.declared.syntax.NameId.{NameId}
use Rattle.core_reader.specs.declared.syntax.Binder.{Binder}
use Rattle.lambda_reader.specs.declared.syntax.Atom.TheFolds.{fold-roll-Atom, fold-roll-Bind, fold-roll-Expr, fold_out-Alt, fold_out-App}
use Rattle.lambda_reader.specs.declared.syntax.Atom.TheVariants as atom
use Rattle.lambda_reader.specs.declared.syntax.Atom.TheOpen as layer
use Rattle.lambda_reader.specs.declared.syntax.App.{App}
use Rattle.lambda_reader.specs.declared.syntax.Bind.TheVariants as bind
use Rattle.lambda_reader.specs.declared.syntax.Expr as code
use Rattle.lambda_reader.specs.declared.syntax.Expr.TheVariants as exprs
use Rattle.lambda_reader.specs.declared.syntax.Alt as code-alt
use Rattle.lambda_reader.specs.Tree.{Term, Group, AndValue, AndFunction, Expr, Let, Case, Alts, AndAlt}
use Rattle.lambda_reader.specs.Tree as tree
use Rattle.lambda_reader.specs.Code.{Application, terms_of, group_of, alts_of, atom_layer, bind_layer, expr_layer, alt_layer, app_layer, term, member, expr, alternative, application}

pub application_of : (a : App) → application a ≡ record
    { head = term a.head; args = terms_of (map term a.args) }
application_of a = fold_out-App Term (Group → Group) Expr (Alts → Alts) Application atom_layer
    bind_layer expr_layer alt_layer app_layer a

pub alternative_of : (a : code-alt.Alt) (rest : Alts)
    → alternative a rest ≡ AndAlt a.pattern (expr a.body) rest
alternative_of a rest = λ i. fold_out-Alt Term (Group → Group) Expr (Alts → Alts) Application
    atom_layer bind_layer expr_layer alt_layer app_layer a i rest

pub term_of-Name : (x : NameId) (at : ℕ) → term (atom.Name x at) ≡ tree.Name x.0 at
term_of-Name x at = ap term (sym (atom.rolls-Name x at)) ∙ fold-roll-Atom Term (Group → Group) Expr
    (Alts → Alts) Application atom_layer bind_layer expr_layer alt_layer app_layer (layer.Name x at)

pub term_of-Con : (x : NameId) (at : ℕ) → term (atom.Con x at) ≡ tree.Con x.0 at
term_of-Con x at = ap term (sym (atom.rolls-Con x at)) ∙ fold-roll-Atom Term (Group → Group) Expr
    (Alts → Alts) Application atom_layer bind_layer expr_layer alt_layer app_layer (layer.Con x at)

pub term_of-Int : (k : ℤ) (at : ℕ) → term (atom.Int k at) ≡ tree.Int k at
term_of-Int k at = ap term (sym (atom.rolls-Int k at)) ∙ fold-roll-Atom Term (Group → Group) Expr
    (Alts → Alts) Application atom_layer bind_layer expr_layer alt_layer app_layer (layer.Int k at)

pub term_of-Bracket : (app : Box App Global) (at : ℕ)
    → term (atom.Bracket app at) ≡ tree.Bracket (application app.value).head
    (application app.value).args at
term_of-Bracket app at = ap term (sym (atom.rolls-Bracket app at)) ∙ fold-roll-Atom Term
    (Group → Group) Expr (Alts → Alts) Application atom_layer bind_layer expr_layer alt_layer
    app_layer (layer.Bracket app at)

pub term_of-Lambda : (params : List Binder) (body : Box code.Expr Global) (at : ℕ)
    → term (atom.Lambda params body at) ≡ tree.Lambda params (expr body.value) at
term_of-Lambda params body at = ap term (sym (atom.rolls-Lambda params body at)) ∙ fold-roll-Atom
    Term (Group → Group) Expr (Alts → Alts) Application atom_layer bind_layer expr_layer alt_layer
    app_layer (layer.Lambda params body at)

pub member_of-Value : (b : Binder) (app : App) (rest : Group)
    → member (bind.Value b app) rest ≡ AndValue b (application app).head (application app).args rest
member_of-Value b app rest = ap (λ m. member m rest) (sym (bind.rolls-Value b app)) ∙
    (λ i. fold-roll-Bind Term (Group → Group) Expr (Alts → Alts) Application atom_layer bind_layer
    expr_layer alt_layer app_layer (layer.Value b app) i rest)

pub member_of-Function : (b : Binder) (params : List Binder) (body : code.Expr) (rest : Group)
    → member (bind.Function b params body) rest ≡ AndFunction b params (expr body) rest
member_of-Function b params body rest = ap (λ m. member m rest)
    (sym (bind.rolls-Function b params body)) ∙
    (λ i. fold-roll-Bind Term (Group → Group) Expr (Alts → Alts) Application atom_layer bind_layer
    expr_layer alt_layer app_layer (layer.Function b params body) i rest)

pub expr_of-App : (a : App) → expr (exprs.App a) ≡ tree.App (application a).head
    (application a).args
expr_of-App a = ap expr (sym (exprs.rolls-App a)) ∙ fold-roll-Expr Term (Group → Group) Expr
    (Alts → Alts) Application atom_layer bind_layer expr_layer alt_layer app_layer (layer.App a)

pub expr_of-Let : (group : List _) (body : Box code.Expr Global)
    → expr (exprs.Let group body) ≡ Let (group_of (map member group)) (expr body.value)
expr_of-Let group body = ap expr (sym (exprs.rolls-Let group body)) ∙ fold-roll-Expr Term
    (Group → Group) Expr (Alts → Alts) Application atom_layer bind_layer expr_layer alt_layer
    app_layer (layer.Let group body)

pub expr_of-Case : (tested : Box code.Expr Global) (alts : List code-alt.Alt)
    → expr (exprs.Case tested alts) ≡ Case (expr tested.value) (alts_of (map alternative alts))
expr_of-Case tested alts = ap expr (sym (exprs.rolls-Case tested alts)) ∙ fold-roll-Expr Term
    (Group → Group) Expr (Alts → Alts) Application atom_layer bind_layer expr_layer alt_layer
    app_layer (layer.Case tested alts)
