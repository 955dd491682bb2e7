-- What holds of linking.
use Rattle.std.specs.Prelude.{◌≡◌, ℕ, List, [], ◌∷◌, ◌⊎◌, map, length}
use Rattle.std.specs.List.Sorted.{IsPermutation}
use Rattle.core_reader.specs.declared.dialect.Dialect.TheVariants.{Modules}
use Rattle.core_reader.specs.Grammar.{unlimited_nesting, Decl, SpellsDecls, constructors_of, functions_of}
use Rattle.core_reader.specs.Programs.{IsText}
use Rattle.core_reader.specs.Rules as core
use Rattle.core_reader.specs.TokensOf.{Piece, Reads}
use Rattle.core_reader.specs.Tree.{Program}
use Rattle.core_reader.specs.WordsOf.{said}
use Rattle.core_reader.specs.Readable.{IsReadable}
use Rattle.core_print.specs.Same.{SameProgram}
use Rattle.core_print.specs.Canonical.{canonical}
use Rattle.arity_check.specs.Broken as program
use Rattle.arity_check.specs.Accepted as accepted
use Rattle.arity_check.specs.Normal.{IsNormalForm}
use Rattle.arity_check.specs.Program as normal
use Rattle.core_meaning.specs.Printing.{printed}
use Rattle.core_link.specs.Module.{Module, IsModuleText, BreaksNoReadingRule, SpellsHead, module_header_of, body}
use Rattle.core_link.specs.Rules.{IsUnbroken}
use Rattle.core_link.specs.Union.{IsLinked}

-- The order of the texts is of no account: in another order they break no rule either, and are the
-- same program, with the same canonical text.
abbrev pub TextOrderIsIrrelevant : Type 0
TextOrderIsIrrelevant =
    (texts others : List (List ℕ)) → IsPermutation texts others → IsUnbroken texts
    → IsUnbroken others × ((c d : Program) → IsLinked texts c → IsLinked others d
    → SameProgram c d × (canonical c ≡ canonical d))

-- the rules of names that no linked program breaks
abbrev pub IsRuleOfNames : ℕ → Type 0
IsRuleOfNames k = (k ≡ 11) ⊎ (k ≡ 12) ⊎ (k ≡ 14) ⊎ (k ≡ 19) ⊎ (k ≡ 22)

-- A program that was linked declares each name once, has a `main`, and knows every name in it. It
-- is readable, as each program that linking gives: its names are different texts.
abbrev pub LinkingKeepsNameRules : Type 0
LinkingKeepsNameRules =
    (texts : List (List ℕ)) (c : Program) → IsUnbroken texts → IsLinked texts c → IsReadable c
    → (k at : ℕ) → IsRuleOfNames k → program.Broken c k at → ⊥

-- The text is a header, and behind it these bytes, which are the declarations of the module.
pub record SplitsAtHeader (text rest : List ℕ) (m : Module) : Type 0 where
  pub header : List Piece
  pub behind : List Piece
  pub at : ℕ
  pub header_reads : Reads Modules 0 text header at rest
  pub behind_reads : Reads Modules at rest behind (length text) []
  pub decls : List Decl
  pub constructors : constructors_of decls ≡ m.constructors
  pub functions : functions_of decls ≡ m.functions
  pub head : SpellsHead (module_header_of m) (map (said Modules m.names) header)
  pub spelled : SpellsDecls unlimited_nesting decls (map (said Modules m.names) behind)

-- Behind the header of a text of a module stands a text of Core, which breaks no rule on reading:
-- the module's declarations are the program of that text, but for places and for the numbers of
-- names.
pub record HasProgram (text : List ℕ) (m : Module) : Type 0 where
  pub rest : List ℕ
  pub program : Program
  pub headed : SplitsAtHeader text rest m
  pub read : core.IsUnbroken rest
  pub stands : IsText rest program
  pub same : SameProgram (body m) program

-- So has each text of a module that breaks no rule on reading.
abbrev pub ModuleTextHasProgram : Type 0
ModuleTextHasProgram =
    (text : List ℕ) (m : Module) → BreaksNoReadingRule text
    → IsModuleText text m → HasProgram text m

-- Where the one program breaks no rule, the other breaks none, and puts out the same on each input,
-- within as many units.
abbrev pub KeepsMeaning : Program → Program → Type 0
KeepsMeaning p c =
    accepted.BreaksNoRule p
    → accepted.BreaksNoRule c
    × ((q d : normal.Program) → IsNormalForm p q → IsNormalForm c d
    → (i : List ℕ) (n : ℕ) → printed d i n ≡ printed q i n)

-- One module without imports keeps what its declarations mean: behind the header of its text stands
-- a program, and the linked program does what that does.
abbrev pub SingleModuleKeepsMeaning : Type 0
SingleModuleKeepsMeaning =
    (text : List ℕ) (m : Module) (c : Program)
    → IsUnbroken (text ∷ []) → IsModuleText text m → m.imports ≡ []
    → IsLinked (text ∷ []) c → IsReadable c
    → HasProgram text m
    × ((rest : List ℕ) (p : Program) → SplitsAtHeader text rest m
    → IsText rest p → KeepsMeaning p c)
