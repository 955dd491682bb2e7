-- The tree of a text with lambdas that the code keeps in boxes, one layer at a time.
use Rattle.std.specs.Prelude.{List, [], ◌∷◌, map}
use Rattle.lambda_reader.specs.declared.syntax.Atom.{Atom}
use Rattle.lambda_reader.specs.declared.syntax.Atom.TheFolds.{fold-Atom, fold-Bind, fold-Expr, fold-Alt, fold-App}
use Rattle.lambda_reader.specs.declared.syntax.Atom.TheOpen.{Atom-F, Bind-F, Expr-F, Alt-F, App-F}
use Rattle.lambda_reader.specs.declared.syntax.Atom.TheOpen as layer
use Rattle.lambda_reader.specs.declared.syntax.Bind.{Bind}
use Rattle.lambda_reader.specs.declared.syntax.Expr as code
use Rattle.lambda_reader.specs.declared.syntax.Alt.{Alt}
use Rattle.lambda_reader.specs.declared.syntax.App as code-app
use Rattle.lambda_reader.specs.declared.syntax.Function as code-function
use Rattle.lambda_reader.specs.declared.syntax.Program as code-program
use Rattle.core_reader.specs.Tree.{data_of}
use Rattle.lambda_reader.specs.Tree.{Term, Terms, NoTerms, AndTerm, Group, NoBinds, AndValue, AndFunction, Expr, App, Let, Case, Alts, NoAlts, AndAlt, Function, Program}
use Rattle.lambda_reader.specs.Tree as tree

pub record Application : Type 0 where
  pub head : Term
  pub args : Terms

abbrev pub terms_of : List Term → Terms
terms_of [] = NoTerms
terms_of (t ∷ ts) = AndTerm t (terms_of ts)

-- a member and an alternative are put before others
abbrev pub group_of : List (Group → Group) → Group
group_of [] = NoBinds
group_of (b ∷ bs) = b (group_of bs)

abbrev pub alts_of : List (Alts → Alts) → Alts
alts_of [] = NoAlts
alts_of (a ∷ as') = a (alts_of as')

abbrev pub atom_layer : Atom-F Term (Group → Group) Expr (Alts → Alts) Application → Term
atom_layer (layer.Name name at) = tree.Name name.0 at
atom_layer (layer.Con name at) = tree.Con name.0 at
atom_layer (layer.Int k at) = tree.Int k at
atom_layer (layer.Bracket app at) = tree.Bracket app.value.head app.value.args at
atom_layer (layer.Lambda params body at) = tree.Lambda params body.value at

abbrev pub bind_layer : Bind-F Term (Group → Group) Expr (Alts → Alts) Application
    → Group → Group
bind_layer (layer.Value b app) rest = AndValue b app.head app.args rest
bind_layer (layer.Function b params body) rest = AndFunction b params body rest

abbrev pub expr_layer : Expr-F Term (Group → Group) Expr (Alts → Alts) Application → Expr
expr_layer (layer.App app) = App app.head app.args
expr_layer (layer.Let group body) = Let (group_of group) body.value
expr_layer (layer.Case tested alts) = Case tested.value (alts_of alts)

abbrev pub alt_layer : Alt-F Term (Group → Group) Expr (Alts → Alts) Application
    → Alts → Alts
alt_layer alt rest = AndAlt alt.pattern alt.body rest

abbrev pub app_layer : App-F Term (Group → Group) Expr (Alts → Alts) Application → Application
app_layer app = record { head = app.head; args = terms_of app.args }

abbrev pub term : Atom → Term
term a =
    fold-Atom Term (Group → Group) Expr (Alts → Alts) Application
    atom_layer bind_layer expr_layer alt_layer app_layer a

-- a member, put before others
abbrev pub member : Bind → Group → Group
member b =
    fold-Bind Term (Group → Group) Expr (Alts → Alts) Application
    atom_layer bind_layer expr_layer alt_layer app_layer b

abbrev pub expr : code.Expr → Expr
expr e =
    fold-Expr Term (Group → Group) Expr (Alts → Alts) Application
    atom_layer bind_layer expr_layer alt_layer app_layer e

-- an alternative, put before others
abbrev pub alternative : Alt → Alts → Alts
alternative a =
    fold-Alt Term (Group → Group) Expr (Alts → Alts) Application
    atom_layer bind_layer expr_layer alt_layer app_layer a

abbrev pub application : code-app.App → Application
application a =
    fold-App Term (Group → Group) Expr (Alts → Alts) Application
    atom_layer bind_layer expr_layer alt_layer app_layer a

abbrev pub function : code-function.Function → Function
function f = record { name = f.name.0; at = f.at; params = f.params; body = expr f.body }

abbrev pub program : code-program.Program → Program
program p = record {
  names = p.names;
  constructors = map data_of p.constructors;
  functions = map function p.functions;
}
