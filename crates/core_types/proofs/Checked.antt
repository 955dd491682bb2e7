-- What the rules that a program breaks say of its text and of the program without its types.
use Rattle.std.proofs.Common.{◌≡◌, ℕ, List, Result, Ok, Err, None, refl, subst, sym}
use Rattle.std.specs.Prelude.{IfOk, IfErr, OnOk}
use Rattle.core_reader.specs.declared.refusal.ReadRefusal.{ReadRefusal}
use Rattle.core_reader.specs.declared.refusal.ReadRefusal.TheVariants as unread
use Rattle.core_reader.specs.declared.syntax.Core.{Core}
use Rattle.core_reader.specs.Tree.{Program}
use Rattle.core_reader.specs.Readable.{IsReadable}
use Rattle.core_reader.proofs.OnlyOne.{one_thing}
use Rattle.arity_check.specs.Accepted as core
use Rattle.core_types.specs.declared.refusal.TypeFault.{TypeFault}
use Rattle.core_types.specs.declared.refusal.TypeFault.TheVariants as fault
use Rattle.core_types.specs.declared.refusal.TypeRefusal.{TypeRefusal}
use Rattle.core_types.specs.declared.refusal.TypeRefusal.TheVariants as refusal
use Rattle.core_types.specs.Source.{Source, erased}
use Rattle.core_types.specs.Text.{IsSourceText, BreaksNoReadingRule, IsReadCause}
use Rattle.core_types.specs.Rules.{IsUnbroken, InCore}
use Rattle.core_types.specs.Refused.{NamesFirstBrokenRule, TextBreaksNoRule, IsCause, IsSourceCause, IsTypedAs, IsTypedSource, IsRefusal, IsSourceRefusal, Unread, Untyped, unread_fault, mismatch_in}
use Rattle.core_types.proofs.SourceReading.{source_reads}

-- a text breaks no rule where its one program breaks none
pub text_unbroken : (text : List ℕ) (s : Source) → IsSourceText text s → BreaksNoReadingRule text
    → IsUnbroken s → TextBreaksNoRule text
text_unbroken text s is read none =
    (read, λ s' is'. subst IsUnbroken (one_thing source_reads text s s' is is') none)

pub core_unbroken : (s : Source) (p : Program) → p ≡ erased s → IsUnbroken s → core.BreaksNoRule p
core_unbroken s p e none = subst core.BreaksNoRule (sym e) (λ k at b. none k at (InCore b))

pub unread_caused : (text : List ℕ) (r : ReadRefusal) → IsReadCause text r
    → IsCause text (unread_fault r)
unread_caused text (unread.BadByte at) h = Unread h
unread_caused text (unread.Syntax at) h = Unread h
unread_caused text (unread.NumberRange at) h = Unread h
unread_caused text (unread.TooDeep at) h = Unread h
unread_caused text unread.TextTooLong h = Unread h
unread_caused text (unread.Memory e) h = tt

-- a fault that a reading names is no mismatch
pub unread_fits : (r : ReadRefusal) → mismatch_in (unread_fault r) ≡ None
unread_fits (unread.BadByte at) = refl
unread_fits (unread.Syntax at) = refl
unread_fits (unread.NumberRange at) = refl
unread_fits (unread.TooDeep at) = refl
unread_fits unread.TextTooLong = refl
unread_fits (unread.Memory e) = refl

pub source_caused : (s : Source) (f : TypeFault) → NamesFirstBrokenRule s f → IsSourceCause s f
source_caused s (fault.Unread r) h = h
source_caused s (fault.Unchecked r) h = h
source_caused s (fault.DuplicateType at) h = h
source_caused s (fault.UnknownType at) h = h
source_caused s (fault.Mismatch at) h = h
source_caused s (fault.NotExhaustive at) h = h
source_caused s (fault.BadSignature at) h = h
source_caused s fault.ListType h = h
source_caused s (fault.Memory e) h = tt

pub untyped_caused : (text : List ℕ) (s : Source) (f : TypeFault) → BreaksNoReadingRule text
    → IsSourceText text s → IsSourceCause s f → IsCause text f
untyped_caused text s (fault.Unread r) read is h = Untyped read s is h
untyped_caused text s (fault.Unchecked r) read is h = Untyped read s is h
untyped_caused text s (fault.DuplicateType at) read is h = Untyped read s is h
untyped_caused text s (fault.UnknownType at) read is h = Untyped read s is h
untyped_caused text s (fault.Mismatch at) read is h = Untyped read s is h
untyped_caused text s (fault.NotExhaustive at) read is h = Untyped read s is h
untyped_caused text s (fault.BadSignature at) read is h = Untyped read s is h
untyped_caused text s fault.ListType read is h = Untyped read s is h
untyped_caused text s (fault.Memory e) read is h = tt

-- ---- what is answered for the program of a text says what is answered for the text

module _ (text : List ℕ) (s : Source) (is : IsSourceText text s) (read : BreaksNoReadingRule text)
  where
    pub typed_text : {E : Type 0} → IsReadable (erased s) → (r : Result Core E)
        → IfOk r (IsTypedSource s) → IfOk r (IsTypedAs text)
    typed_text readable (Ok t) h = record {
      source = s;
      is_text = is;
      core = h.core;
      readable = readable;
      solution
          = h.solution;
      solves = h.solves;
    }
    typed_text readable (Err e) h = tt

    pub unbroken_text : {T E : Type 0} (r : Result T E) → OnOk r (IsUnbroken s)
        → OnOk r (TextBreaksNoRule text)
    unbroken_text (Ok x) h = text_unbroken text s is read h
    unbroken_text (Err e) h = tt

    pub caused_text : {T : Type 0} (r : Result T TypeFault) → IfErr r (IsSourceCause s)
        → IfErr r (IsCause text)
    caused_text (Ok x) h = tt
    caused_text (Err f) h = untyped_caused text s f read is h

    pub refused_text : {T : Type 0} (r : Result T TypeRefusal) → IfErr r (IsSourceRefusal s)
        → IfErr r (IsRefusal text)
    refused_text (Ok x) h = tt
    refused_text (Err (refusal.Mismatch at left right names)) h =
        (Untyped read s is h.0, (s, is, h.1, h.2))
    refused_text (Err (refusal.Fault f)) h = (untyped_caused text s f read is h.0, h.1)
