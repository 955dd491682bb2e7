-- The equations of a text that breaks no rule are what laws and `compile_source` ask for.
use Rattle.std.proofs.Common.{ℕ, List}
use Rattle.match_compile.specs.Source.{Source}
use Rattle.match_compile.specs.Grammar.{IsSourceText}
use Rattle.match_compile.specs.Rules.{IsUnbroken, OfSource, ReservedMatch}
use Rattle.match_compile.specs.Premises.{BreakNoRule}
use Rattle.match_compile.specs.Laws.{UnbrokenIsCompilable}
use Rattle.match_compile.proofs.NewNames.{text_has_none}
use Rattle.match_compile.proofs.ReadableSources.{text_readable}

text_unbroken : (text : List ℕ) (c : Source) → IsSourceText text c → IsUnbroken text → BreakNoRule c
text_unbroken text c is unbroken k at h = unbroken.sound k at (OfSource c is h)

pub text_compilable : UnbrokenIsCompilable
text_compilable text c is unbroken = record {
  readable = text_readable text c unbroken.read is;
  unbroken = text_unbroken text c is unbroken;
  no_new_name = text_has_none text c is (λ at h. unbroken.sound 74 at (ReservedMatch h));
}
