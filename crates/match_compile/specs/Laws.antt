-- What the definitions of equations, their rules and their trees say by themselves.
use Rattle.std.specs.Prelude.{◌≡◌, ℕ, ◌+◌, ◌*◌, ◌≤◌, true, ◌||◌, List, [], ◌∷◌, ◌++◌, map, length, Some}
use Rattle.seq.specs.Lists.{sum_of}
use Rattle.core_reader.specs.declared.syntax.Binder.{Binder}
use Rattle.core_reader.specs.Tree.{Expr}
use Rattle.core_reader.specs.Size.{program_size}
use Rattle.core_reader.specs.Readable as program-text
use Rattle.arity_check.specs.Broken as program
use Rattle.arity_check.specs.Program as normal
use Rattle.arity_check.specs.Accepted as check
use Rattle.arity_check.specs.Normal.{IsNormalForm}
use Rattle.core_meaning.specs.Told.{core_program_meaning}
use Rattle.match_compile.specs.Source.{Equation, Source}
use Rattle.match_compile.specs.Grammar.{IsSourceText, BreaksNoReadingRule}
use Rattle.match_compile.specs.Rules.{IsUnbroken, IsFirstBroken}
use Rattle.match_compile.specs.Readable.{IsReadable}
use Rattle.match_compile.specs.Premises.{BreakNoRule, IsCompilable}
use Rattle.match_compile.specs.Sound.{IsSound}
use Rattle.match_compile.specs.Sizes.{source_size, tests, most_equations, functions, is_simple, is_plain}
use Rattle.match_compile.specs.Translated.{translated}
use Rattle.match_compile.specs.Form.{Equations, IsFormOf}
use Rattle.match_compile.specs.ByEquations.{equations_meaning}
use Rattle.match_compile.specs.Within.{Within, SameWithinSameUnits}
use Rattle.match_compile.specs.Decides.{AreServed}
use Rattle.match_compile.specs.Decisions.{decisions_from, DecideAllEquations}
use Rattle.match_compile.specs.OneFunction.{IsOneFunction}
use Rattle.match_compile.specs.Translates.{AreSimple}
use Rattle.match_compile.specs.Trees.{PendingPattern, Row, settled, Tree, IsTree, alone_from, insert}

-- A text stands for the equations of one source at most.
abbrev pub SourceIsUnique : Type 0
SourceIsUnique = (text : List ℕ) (c d : Source) → IsSourceText text c → IsSourceText text d → c ≡ d

-- At most one rule is the first that a text breaks, at one place.
abbrev pub FirstFaultIsUnique : Type 0
FirstFaultIsUnique =
    (text : List ℕ) (k at k' at' : ℕ) → IsFirstBroken text k at → IsFirstBroken text k' at'
    → (k ≡ k') × (at ≡ at')

-- The equations of a text that breaks none of the rules 1 to 5 are readable.
abbrev pub ReadIsReadable : Type 0
ReadIsReadable =
    (text : List ℕ) (c : Source) → BreaksNoReadingRule text → IsSourceText text c → IsReadable c

-- A row that goes into a tree for others makes it a tree for all of them, in their order.
abbrev pub InsertionKeepsTree : Type 0
InsertionKeepsTree =
    (room n : ℕ) (body : Expr) (bound : List (Binder × ℕ)) (jobs : List PendingPattern)
    (rows : List Row) (t : Tree)
    (u : Tree × ℕ) → IsTree rows t → insert room t n (settled body bound jobs) ≡ Some u
    → IsTree (rows ++ settled body bound jobs ∷ []) u.0

-- A row by itself is a tree.
abbrev pub SingleRowIsTree : Type 0
SingleRowIsTree =
    (n : ℕ) (body : Expr) (bound : List (Binder × ℕ)) (jobs : List PendingPattern)
    → IsTree (settled body bound jobs ∷ []) (alone_from n (settled body bound jobs)).0

-- The trees of a function stand for its equations, each for some of them, in their order.
abbrev pub TreesCoverEquations : Type 0
TreesCoverEquations = (k : ℕ) (es : List Equation) → DecideAllEquations k es (decisions_from k es)

-- The program that equations become is no larger than they are, with 16 for each test.
abbrev pub SizeIsBounded : Type 0
SizeIsBounded = (c : Source) → program_size (translated c) ≤ source_size c + 16 * tests c

-- The equations of a text that breaks no rule can be compiled.
abbrev pub UnbrokenIsCompilable : Type 0
UnbrokenIsCompilable =
    (text : List ℕ) (c : Source) → IsSourceText text c → IsUnbroken text → IsCompilable c

-- Where each equation as a function of its own is in a program that breaks no rule, the program
-- that they become breaks no rule but the one on its size.
abbrev pub BreaksSizeAlone : Source → Type 0
BreaksSizeAlone c = IsSound c → (k at : ℕ) → program.Broken (translated c) k at → k ≡ 35

-- so do those that break no rule
abbrev pub SourceBreaksOnlySize : Type 0
SourceBreaksOnlySize = (c : Source) → IsReadable c → BreakNoRule c → BreaksSizeAlone c

-- and those of a text that breaks none
abbrev pub BreaksOnlySize : Type 0
BreaksOnlySize = (text : List ℕ) (c : Source) → IsSourceText text c → IsUnbroken text → BreaksSizeAlone c

-- A function that is simple, or one equation of names alone, becomes one function.
abbrev pub KeepsSimpleWhole : Source → Type 0
KeepsSimpleWhole c =
    (before after : List (List Equation)) (es : List Equation)
    → functions c.equations ≡ before ++ es ∷ after → (is_simple es || is_plain es) ≡ true
    → IsOneFunction c (length before) (sum_of (map length before)) es

abbrev pub SourceKeepsSimpleWhole : Type 0
SourceKeepsSimpleWhole = (c : Source) → IsReadable c → KeepsSimpleWhole c

abbrev pub SimpleStaysOneFunction : Type 0
SimpleStaysOneFunction =
    (text : List ℕ) (c : Source) → IsSourceText text c → IsUnbroken text → KeepsSimpleWhole c

-- Equations have one normal form at most.
abbrev pub FormIsUnique : Type 0
FormIsUnique = (c : Source) (q r : Equations) → IsFormOf c q → IsFormOf c r → q ≡ r

-- A program whose functions serve equations puts out what they do, and needs no more units for one
-- of theirs than the functions that serve one function at most.
abbrev pub ServedWithin : Type 0
ServedWithin =
    (q : Equations) (most : ℕ) (p : normal.Program) → AreServed q most p
    → Within most (equations_meaning q) (core_program_meaning p)

-- Where each function is served by one, they put out the same within the same units.
abbrev pub ServedInStep : Type 0
ServedInStep =
    (q : Equations) (p : normal.Program) → AreServed q 1 p
    → SameWithinSameUnits (equations_meaning q) (core_program_meaning p)

-- Where equations become a program that breaks no rule, they have a normal form, and the program
-- puts out what they do: it needs no more units for one of theirs than the largest function has
-- equations, and the same where each function is simple, or one equation of names alone.
abbrev pub KeepsMeaning : Source → normal.Program → Type 0
KeepsMeaning c p =
    program-text.IsReadable (translated c) → check.BreaksNoRule (translated c)
    → IsNormalForm (translated c) p
    → (q : Equations) × IsFormOf c q
    × Within (most_equations c) (equations_meaning q) (core_program_meaning p)
    × (AreSimple c → SameWithinSameUnits (equations_meaning q) (core_program_meaning p))

-- so it is with equations that break no rule
abbrev pub SourceKeepsMeaning : Type 0
SourceKeepsMeaning = (c : Source) (p : normal.Program) → IsReadable c → BreakNoRule c → KeepsMeaning c p

-- and with those of a text that breaks none
abbrev pub TranslationKeepsMeaning : Type 0
TranslationKeepsMeaning =
    (text : List ℕ) (c : Source) (p : normal.Program) → IsSourceText text c → IsUnbroken text
    → KeepsMeaning c p
