-- The name of a module has letters and digits alone.
use Rattle.std.proofs.Common.{◌≡◌, ℕ, List, [], ◌∷◌, ◌++◌, sym, ap, subst, ◌∙◌, Some}
use Rattle.std.specs.Prelude.{slice_get}
use Rattle.seq.specs.Lists.{or_empty}
use Rattle.core_reader.specs.declared.dialect.Dialect.TheVariants.{Modules}
use Rattle.core_reader.specs.declared.look.TokenKind.TheVariants.{Upper}
use Rattle.core_reader.specs.declared.syntax.NameId.{NameId}
use Rattle.core_reader.specs.declared.token.Token.TheVariants as word
use Rattle.core_reader.specs.declared.token.Lexeme.{Lexeme}
use Rattle.core_reader.specs.Grammar.{unlimited_nesting, lexeme, name_id}
use Rattle.core_reader.specs.TokensOf.{Piece, kind_of}
use Rattle.core_reader.specs.WordsOf.{said, said_by, number_in}
use Rattle.core_link.specs.Module.{Module, IsModule, IsModuleText, name_of}
use Rattle.core_link.specs.Joinable.{IsPlain}
use Rattle.core_link.proofs.Plainly.{second_name, con_is}

second_same : (a b c d : Lexeme) (us vs : List Lexeme) → a ∷ b ∷ us ≡ c ∷ d ∷ vs → b ≡ d
second_same a b c d us vs e = cc

con_same : (a b : NameId) → word.Con a ≡ word.Con b → a ≡ b
con_same a b e = cc

plain_by : (m : Module) (pieces : List Piece) → IsModule unlimited_nesting m pieces
    → IsPlain (name_of m)
plain_by m [] h = absurd h.named
plain_by m (k ∷ []) h = absurd h.named
plain_by m (k ∷ c ∷ ps) h =
    let s = h.spelled.spelled in
    let head = s.2 in
    let tokens = s.4 ∙ ap (λ u. u ++ s.1) head.6 in
    let second = second_same _ (said Modules m.names c) _ (lexeme m.name.at (word.Con m.name.name))
    _ _ tokens in
    let token : said_by Modules m.names c.bytes (kind_of Modules c.bytes) ≡ word.Con m.name.name
    = ap (λ (x : Lexeme). x.token) second in
    let upper : kind_of Modules c.bytes ≡ Some Upper = con_is m.names c m.name.name token in
    let number : name_id (number_in m.names c.bytes) ≡ m.name.name
    = con_same (name_id (number_in m.names c.bytes)) m.name.name
    (sym (ap (said_by Modules m.names c.bytes) upper) ∙ token) in
    let at : slice_get m.names (number_in m.names c.bytes) ≡ Some c.bytes
    = subst (λ v. slice_get v (number_in v c.bytes) ≡ Some c.bytes) (sym h.spelled.names)
    (second_name k c ps upper) in
    let text : name_of m ≡ c.bytes = ap (λ (n : NameId). or_empty (slice_get m.names n.0))
    (sym number) ∙ ap or_empty at in
    subst IsPlain (sym text) h.named

pub plain_name : (text : List ℕ) (m : Module) → IsModuleText text m → IsPlain (name_of m)
plain_name text m t = plain_by m t.pieces t.program
