-- Which tokens an expression is written with, one clause for each production. Lambdas and local
-- functions may stand in it or not.
use Rattle.std.specs.Prelude.{◌≡◌, ℕ, suc, Bool, true, List, [], ◌∷◌, ◌++◌}
use Rattle.core_reader.specs.declared.syntax.Binder.{Binder}
use Rattle.core_reader.specs.declared.token.Token.TheVariants as word
use Rattle.core_reader.specs.declared.token.Further.TheVariants.{Backslash}
use Rattle.core_reader.specs.declared.token.Lexeme.{Lexeme}
use Rattle.lambda_reader.specs.Tree.{Term, Terms, NoTerms, AndTerm, Group, NoBinds, AndValue, AndFunction, Expr, App, Let, Case, Alts, NoAlts, AndAlt}
use Rattle.lambda_reader.specs.Tree as tree
use Rattle.core_reader.specs.Grammar.{NestingLimit, lexeme, IsSign, name_id, binders, IsOptional, SpellsPattern}

-- A lambda and a local function have a parameter.
abbrev pub HasParameter : List Binder → Type 0
HasParameter [] = ⊥
HasParameter (b ∷ bs) = Unit {0}

-- Between two members of a group stands one `;`, and after the last one may stand.
abbrev pub AfterMember : Group → List Lexeme → Type 0
AfterMember NoBinds ts = IsOptional ts
AfterMember (AndValue b head args rest) ts = IsSign word.Semicolon ts
AfterMember (AndFunction b params body rest) ts = IsSign word.Semicolon ts

abbrev pub IsGroup : Group → Type 0
IsGroup NoBinds = ⊥
IsGroup (AndValue b head args rest) = Unit {0}
IsGroup (AndFunction b params body rest) = Unit {0}

abbrev pub IsNonemptyAlts : Alts → Type 0
IsNonemptyAlts NoAlts = ⊥
IsNonemptyAlts (AndAlt p e xs) = Unit {0}

abbrev pub AfterAlt : Alts → List Lexeme → Type 0
AfterAlt NoAlts ts = IsOptional ts
AfterAlt (AndAlt p e xs) ts = IsSign word.Semicolon ts

-- whether lambdas and local functions may stand
module _ (lambdas : Bool) (room : NestingLimit) where
  abbrev mutual
    -- The tokens of a head or an argument where so many constructs are open.
    pub SpellsTerm : ℕ → Term → List Lexeme → Type 0
    SpellsTerm depth (tree.Name n at) ts = ts ≡ lexeme at (word.Name (name_id n)) ∷ []
    SpellsTerm depth (tree.Con n at) ts = ts ≡ lexeme at (word.Con (name_id n)) ∷ []
    SpellsTerm depth (tree.Int k at) ts =
        (minus : Bool) × (ts ≡ lexeme at (word.Number minus k) ∷ [])
    SpellsTerm depth (tree.Bracket head args at) ts =
        (us vs : List Lexeme) × (end : ℕ) × (room depth ≡ true) × SpellsTerm (suc depth) head us
        × SpellsTerms (suc depth) args vs
        × (ts ≡ lexeme at word.Open ∷ (us ++ (vs ++ lexeme end word.Close ∷ [])))
    SpellsTerm depth (tree.Lambda params body at) ts =
        (start arrow close : ℕ) × (us : List Lexeme) × (lambdas ≡ true) × (room depth ≡ true)
        × HasParameter params × SpellsExpr (suc depth) body us
        × (ts ≡ lexeme start word.Open ∷ lexeme at (word.Further Backslash)
        ∷ (binders params ++ (lexeme arrow word.Arrow ∷ (us ++ lexeme close word.Close ∷ []))))

    pub SpellsTerms : ℕ → Terms → List Lexeme → Type 0
    SpellsTerms depth NoTerms ts = ts ≡ []
    SpellsTerms depth (AndTerm a xs) ts =
        (us vs : List Lexeme) × SpellsTerm depth a us × SpellsTerms depth xs vs × (ts ≡ us ++ vs)

    pub SpellsGroup : ℕ → Group → List Lexeme → Type 0
    SpellsGroup depth NoBinds ts = ts ≡ []
    SpellsGroup depth (AndValue b head args rest) ts =
        (equals : ℕ) × (us vs semi ws : List Lexeme) × SpellsTerm depth head us
        × SpellsTerms depth args vs × AfterMember rest semi × SpellsGroup depth rest ws
        × (ts ≡ lexeme b.at (word.Name b.name) ∷ lexeme equals word.Equals
        ∷ (us ++ (vs ++ (semi ++ ws))))
    SpellsGroup depth (AndFunction b params body rest) ts =
        (equals : ℕ) × (us semi ws : List Lexeme) × (lambdas ≡ true) × HasParameter params
        × SpellsExpr depth body us × AfterMember rest semi × SpellsGroup depth rest ws
        × (ts ≡ lexeme b.at (word.Name b.name)
        ∷ (binders params ++ (lexeme equals word.Equals ∷ (us ++ (semi ++ ws)))))

    pub SpellsExpr : ℕ → Expr → List Lexeme → Type 0
    SpellsExpr depth (App head args) ts =
        (us vs : List Lexeme) × SpellsTerm depth head us × SpellsTerms depth args vs
        × (ts ≡ us ++ vs)
    SpellsExpr depth (Let group e) ts =
        (p q : ℕ) × (us vs : List Lexeme) × (room depth ≡ true) × IsGroup group
        × SpellsGroup (suc depth) group us × SpellsExpr (suc depth) e vs
        × (ts ≡ lexeme p word.Let ∷ (us ++ (lexeme q word.In ∷ vs)))
    SpellsExpr depth (Case e alts) ts =
        (p q r s : ℕ) × (us vs : List Lexeme) × (room depth ≡ true) × IsNonemptyAlts alts
        × SpellsExpr (suc depth) e us × SpellsAlts (suc depth) alts vs
        × (ts ≡ lexeme p word.Case ∷ (us
        ++ (lexeme q word.Of ∷ lexeme r word.OpenBrace ∷ (vs ++ lexeme s word.CloseBrace ∷ []))))

    pub SpellsAlts : ℕ → Alts → List Lexeme → Type 0
    SpellsAlts depth NoAlts ts = ts ≡ []
    SpellsAlts depth (AndAlt p e xs) ts =
        (us vs semi ws : List Lexeme) × (arrow : ℕ) × SpellsPattern p us
        × SpellsExpr depth e vs × AfterAlt xs semi × SpellsAlts depth xs ws
        × (ts ≡ us ++ (lexeme arrow word.Arrow ∷ (vs ++ (semi ++ ws))))
