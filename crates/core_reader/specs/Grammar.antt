-- Which tokens a program is written with, one clause for each production.
use Rattle.std.specs.Prelude.{◌≡◌, ℕ, suc, pos, Bool, true, false, List, [], ◌∷◌, ◌++◌, nat_lt, ◌⊎◌}
use Rattle.core_reader.specs.declared.syntax.NameId.{NameId}
use Rattle.core_reader.specs.declared.syntax.Binder.{Binder}
use Rattle.core_reader.specs.declared.syntax.Pattern.{Pattern}
use Rattle.core_reader.specs.declared.syntax.Pattern.TheVariants as pattern
use Rattle.core_reader.specs.declared.token.Token.{Token}
use Rattle.core_reader.specs.declared.token.Token.TheVariants as word
use Rattle.core_reader.specs.declared.token.Lexeme.{Lexeme}
use Rattle.core_reader.specs.Tree.{Term, Terms, NoTerms, AndTerm, Application, Bind, Expr, App, Let, Case, Alts, NoAlts, AndAlt, Data, Function}
use Rattle.core_reader.specs.Tree as tree
use Rattle.limits.specs.Limits.{most_open}

-- Whether one more `(`, `let` or `case` may be opened where so many are open.
abbrev pub NestingLimit : Type 0
NestingLimit = ℕ → Bool

abbrev pub unlimited_nesting : NestingLimit
unlimited_nesting depth = true

abbrev pub at_most_200 : NestingLimit
at_most_200 depth = nat_lt depth most_open

-- a token at a place
abbrev pub lexeme : ℕ → Token → Lexeme
lexeme at token = record { at = at; token = token }

-- a token of which the place says nothing
abbrev pub IsSign : Token → List Lexeme → Type 0
IsSign token ts = (at : ℕ) × (ts ≡ lexeme at token ∷ [])

abbrev pub name_id : ℕ → NameId
name_id n = record { 0 = n }

abbrev mutual
  -- The tokens of a head or an argument where so many constructs are open.
  pub SpellsTerm : NestingLimit → ℕ → Term → List Lexeme → Type 0
  SpellsTerm room depth (tree.Name n at) ts = ts ≡ lexeme at (word.Name (name_id n)) ∷ []
  SpellsTerm room depth (tree.Con n at) ts = ts ≡ lexeme at (word.Con (name_id n)) ∷ []
  SpellsTerm room depth (tree.Int k at) ts =
      (minus : Bool) × (ts ≡ lexeme at (word.Number minus k) ∷ [])
  SpellsTerm room depth (tree.Bracket head args at) ts =
      (us vs : List Lexeme) × (end : ℕ) × (room depth ≡ true) × SpellsTerm room (suc depth) head us
      × SpellsTerms room (suc depth) args vs
      × (ts ≡ lexeme at word.Open ∷ (us ++ (vs ++ lexeme end word.Close ∷ [])))

  pub SpellsTerms : NestingLimit → ℕ → Terms → List Lexeme → Type 0
  SpellsTerms room depth NoTerms ts = ts ≡ []
  SpellsTerms room depth (AndTerm a xs) ts =
      (us vs : List Lexeme) × SpellsTerm room depth a us
      × SpellsTerms room depth xs vs × (ts ≡ us ++ vs)

abbrev pub SpellsApp : NestingLimit → ℕ → Application → List Lexeme → Type 0
SpellsApp room depth app ts = SpellsTerms room depth (AndTerm app.head app.args) ts

abbrev pub binders : List Binder → List Lexeme
binders [] = []
binders (b ∷ bs) = lexeme b.at (word.Name b.name) ∷ binders bs

-- a `;` that may be left out
abbrev pub IsOptional : List Lexeme → Type 0
IsOptional ts = (ts ≡ []) ⊎ IsSign word.Semicolon ts

abbrev pub SpellsBind : NestingLimit → ℕ → Bind → List Lexeme → Type 0
SpellsBind room depth b ts =
    (equals : ℕ) × (us : List Lexeme) × SpellsApp room depth b.app us
    × (ts ≡ lexeme b.binder.at (word.Name b.binder.name) ∷ lexeme equals word.Equals ∷ us)

-- Between two bindings stands one `;`, and after the last one may stand.
abbrev pub AfterBind : List Bind → List Lexeme → Type 0
AfterBind [] ts = IsOptional ts
AfterBind (b ∷ bs) ts = IsSign word.Semicolon ts

abbrev pub SpellsBinds : NestingLimit → ℕ → List Bind → List Lexeme → Type 0
SpellsBinds room depth [] ts = ts ≡ []
SpellsBinds room depth (b ∷ bs) ts =
    (us semi vs : List Lexeme) × SpellsBind room depth b us × AfterBind bs semi
    × SpellsBinds room depth bs vs × (ts ≡ us ++ (semi ++ vs))

abbrev pub IsGroup : List Bind → Type 0
IsGroup [] = ⊥
IsGroup (b ∷ bs) = Unit {0}

abbrev pub IsNonemptyAlts : Alts → Type 0
IsNonemptyAlts NoAlts = ⊥
IsNonemptyAlts (AndAlt p e xs) = Unit {0}

abbrev pub AfterAlt : Alts → List Lexeme → Type 0
AfterAlt NoAlts ts = IsOptional ts
AfterAlt (AndAlt p e xs) ts = IsSign word.Semicolon ts

abbrev pub SpellsPattern : Pattern → List Lexeme → Type 0
SpellsPattern (pattern.Con c names) ts = ts ≡ lexeme c.at (word.Con c.name) ∷ binders names
SpellsPattern (pattern.Int k at) ts = (minus : Bool) × (ts ≡ lexeme at (word.Number minus k) ∷ [])
SpellsPattern (pattern.Default x) ts = ts ≡ lexeme x.at (word.Name x.name) ∷ []

abbrev mutual
  pub SpellsExpr : NestingLimit → ℕ → Expr → List Lexeme → Type 0
  SpellsExpr room depth (App app) ts = SpellsApp room depth app ts
  SpellsExpr room depth (Let group e) ts =
      (p q : ℕ) × (us vs : List Lexeme) × (room depth ≡ true) × IsGroup group
      × SpellsBinds room (suc depth) group us × SpellsExpr room (suc depth) e vs
      × (ts ≡ lexeme p word.Let ∷ (us ++ (lexeme q word.In ∷ vs)))
  SpellsExpr room depth (Case e alts) ts =
      (p q r s : ℕ) × (us vs : List Lexeme) × (room depth ≡ true) × IsNonemptyAlts alts
      × SpellsExpr room (suc depth) e us × SpellsAlts room (suc depth) alts vs
      × (ts ≡ lexeme p word.Case ∷ (us
      ++ (lexeme q word.Of ∷ lexeme r word.OpenBrace ∷ (vs ++ lexeme s word.CloseBrace ∷ []))))

  pub SpellsAlts : NestingLimit → ℕ → Alts → List Lexeme → Type 0
  SpellsAlts room depth NoAlts ts = ts ≡ []
  SpellsAlts room depth (AndAlt p e xs) ts =
      (us vs semi ws : List Lexeme) × (arrow : ℕ) × SpellsPattern p us
      × SpellsExpr room depth e vs × AfterAlt xs semi × SpellsAlts room depth xs ws
      × (ts ≡ us ++ (lexeme arrow word.Arrow ∷ (vs ++ (semi ++ ws))))

-- a declaration of a constructor or a function
pub data Decl : Type 0 where
  Declares : Data → Decl
  Defines : Function → Decl

abbrev pub SpellsDecl : NestingLimit → Decl → List Lexeme → Type 0
SpellsDecl room (Declares d) ts =
    (p q r : ℕ)
    × (ts ≡ lexeme p word.Data ∷ lexeme d.at (word.Con (name_id d.name))
    ∷ lexeme q (word.Number false (pos d.fields)) ∷ lexeme r word.Semicolon ∷ [])
SpellsDecl room (Defines f) ts =
    (p q : ℕ) × (us : List Lexeme) × SpellsExpr room 0 f.body us
    × (ts ≡ lexeme f.at (word.Name (name_id f.name))
    ∷ (binders f.params ++ (lexeme p word.Equals ∷ (us ++ lexeme q word.Semicolon ∷ []))))

-- the tokens of declarations, one after the other
abbrev pub SpellsDecls : NestingLimit → List Decl → List Lexeme → Type 0
SpellsDecls room [] ts = ts ≡ []
SpellsDecls room (d ∷ ds) ts =
    (us vs : List Lexeme) × SpellsDecl room d us × SpellsDecls room ds vs × (ts ≡ us ++ vs)

-- the constructors and the functions among declarations, each in text order
abbrev pub constructors_of : List Decl → List Data
constructors_of [] = []
constructors_of (Declares d ∷ ds) = d ∷ constructors_of ds
constructors_of (Defines f ∷ ds) = constructors_of ds

abbrev pub functions_of : List Decl → List Function
functions_of [] = []
functions_of (Declares d ∷ ds) = functions_of ds
functions_of (Defines f ∷ ds) = f ∷ functions_of ds
