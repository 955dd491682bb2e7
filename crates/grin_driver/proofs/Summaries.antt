-- The summary of a generated text.
use Rattle.std.proofs.Common.{◌≡◌, ℕ, List, ◌++◌, length, sym, ap, ◌∙◌, append_assoc, codes, decimal}
use Rattle.std.proofs.lemmas.List.{length-map}
use Rattle.core_reader.specs.Size.{program_size}
use Rattle.arity_check.specs.Program.{function, program}
use Rattle.grin_io.specs.Changes.{SinkChange}
use Rattle.text_commands.specs.declared.accept.Accepted.{Accepted}
use mathlib.Core.Logic.{inl, inr}
use Rattle.text_commands.specs.declared.status.Status.{Status}
use Rattle.text_commands.specs.declared.status.Status.TheVariants.{Done, Refused, OutOfMemory, WriteFault}
use Rattle.text_commands.specs.Text.{IsAcceptedAs, IsAcceptFailure}
use Rattle.grin_driver.specs.Outcome.{IsBuildFailure}
use Rattle.grin_driver.specs.Generating.{summary, IsDefaultImageOf, IsOutput, IsUndone, IsSummary, IsGenerateFailure, Generates}
use Rattle.seq.specs.Lists.{sum_of}

-- the summary, put together of named numbers
pub summary_is : (bytes functions size output sum : ℕ)
    (first second third fourth fifth whole : List ℕ) → first ≡ codes "text " ++ decimal bytes
    → second ≡ first ++ (codes " functions " ++ decimal functions) → third ≡ second
    ++ (codes " size " ++ decimal size)
    → fourth ≡ third ++ (codes " output " ++ decimal output) → fifth ≡ fourth
    ++ (codes " sum " ++ decimal sum) → whole ≡ fifth ++ codes "\n"
    → whole ≡ summary bytes functions size output sum
unfolding summary
summary_is bytes functions size output sum first second third fourth fifth whole e f g h i j =
    joined (codes "text ") (decimal bytes) (codes " functions ") (decimal functions)
    (codes " size ") (decimal size) (codes " output ") (decimal output)
    (codes " sum ") (decimal sum) (codes "\n") first second third fourth fifth whole e f g h i j
  where
    joined : (a x b y c z d u k v n first second third fourth fifth whole : List ℕ) → first ≡ a ++ x
        → second ≡ first ++ (b ++ y) → third ≡ second ++ (c ++ z)
        → fourth ≡ third ++ (d ++ u) → fifth ≡ fourth ++ (k ++ v) → whole ≡ fifth ++ n
        → whole ≡ a ++ (x ++ (b ++ (y ++ (c ++ (z ++ (d ++ (u ++ (k ++ (v ++ n)))))))))
    joined a x b y c z d u k v n first second third fourth fifth whole e f g h i j
        = simp (j, i, h, g, f, e, append_assoc)

-- the summary of an accepted text from which an image was made
pub summary_from : (text file bytes out : List ℕ) (kept : Accepted)
    (accepted : IsAcceptedAs text kept) (from : IsDefaultImageOf text file)
    → from.source ≡ accepted.source → from.program ≡ program kept.program → IsOutput from out
    → bytes ≡ summary (length text) (length kept.program.funs) kept.size (length out) (sum_of out)
    → IsSummary text bytes
summary_from text file bytes out kept accepted from source_is program_is output is = record {
  file = file;
  from = from;
  out = out;
  is_output = output;
  is_summary =
      is ∙ ap (λ (n : ℕ). summary (length text) n kept.size (length out) (sum_of out))
      (sym (ap (λ q. length q.funs) program_is ∙ length-map kept.program.funs function))
      ∙ ap (λ (n : ℕ). summary (length text) (length from.program.funs) n (length out) (sum_of out))
      (accepted.size ∙ sym (ap program_size source_is));
}

-- ---- why there is none

pub unmade_is_unsummed : (text : List ℕ) (status : Status) → IsBuildFailure text status
    → IsGenerateFailure text status
unmade_is_unsummed text (Refused k at) h = inl h
unmade_is_unsummed text OutOfMemory h = h
unmade_is_unsummed text _ h = absurd h

pub unaccepted_is_unsummed : (text : List ℕ) (status : Status) → IsAcceptFailure text status
    → IsGenerateFailure text status
unaccepted_is_unsummed text (Refused k at) h = inl (inl h)
unaccepted_is_unsummed text OutOfMemory h = h
unaccepted_is_unsummed text _ h = absurd h

pub undone_is_unsummed : (text file : List ℕ) (from : IsDefaultImageOf text file) (status : Status)
    → IsUndone from status → IsGenerateFailure text status
undone_is_unsummed text file from (Refused k at) h = inr (file, (from, h))
undone_is_unsummed text file from OutOfMemory h = tt
undone_is_unsummed text file from status h = (file, (from, h))

-- nothing was put where there is none
pub unsummed_is_generated : {K : Type 0} (o : SinkChange K) (text : List ℕ) (status : Status)
    → IsGenerateFailure text status → o.new ≡ o.old → Generates o text status
unsummed_is_generated o text Done h same = absurd h.1.1
unsummed_is_generated o text WriteFault h same = absurd h.1.1
unsummed_is_generated o text status h same = (h, same)
