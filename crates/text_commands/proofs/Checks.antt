-- What a sink took of the line of a text that was checked.
use Rattle.std.proofs.Common.{◌≡◌, ℕ, ◌<◌, List, ◌++◌, length, map, sym, subst, append_assoc, codes, decimal}
use Rattle.std.proofs.lemmas.List.{length-map}
use Rattle.arity_check.specs.Program.{function, program}
use Rattle.grin_io.specs.Changes.{SinkChange}
use Rattle.text_commands.specs.declared.accept.Accepted.{Accepted}
use Rattle.text_commands.specs.declared.status.Status.{Status}
use Rattle.text_commands.specs.declared.status.Status.TheVariants.{Done, Refused, OutOfMemory, WriteFault}
use Rattle.text_commands.specs.Text.{IsAcceptedAs}
use Rattle.text_commands.specs.Checking.{summary, HoldsOfSummary, IsCheckOutcome}
use Rattle.text_commands.proofs.Texts.{refused_long, accepted_short}

-- the line of a program, put together of named numbers
pub line_is : (functions constructors size : ℕ) (first second third whole : List ℕ)
    → first ≡ codes "ok functions " ++ decimal functions
    → second ≡ first ++ (codes " constructors " ++ decimal constructors) → third ≡ second
    ++ (codes " size " ++ decimal size) → whole ≡ third ++ codes "\n"
    → whole ≡ summary functions constructors size
unfolding summary
line_is functions constructors size first second third whole e f g h =
    joined (codes "ok functions ") (decimal functions) (codes " constructors ")
    (decimal constructors) (codes " size ") (decimal size) (codes "\n") first second third whole
    e f g h
  where
    joined : (a x b y c z d first second third whole : List ℕ) → first ≡ a ++ x → second ≡ first
        ++ (b ++ y) → third ≡ second ++ (c ++ z) → whole ≡ third ++ d
        → whole ≡ a ++ (x ++ (b ++ (y ++ (c ++ (z ++ d)))))
    joined a x b y c z d first second third whole e f g h = simp (h, g, f, e, append_assoc)

-- what holds of the line that was put holds of the line of the text
pub of_summary : (text : List ℕ) (kept : Accepted) (Holds : List ℕ → Type 0)
    → IsAcceptedAs text kept
    → Holds (summary (length kept.program.funs) (length kept.program.cons) kept.size)
    → HoldsOfSummary text Holds
of_summary text kept Holds h holds =
    let functions = subst (λ n. Holds (summary n (length kept.program.cons) kept.size))
    (sym (length-map kept.program.funs function)) holds in
    let size = subst
    (λ n. Holds
    (summary (length (map function kept.program.funs)) (length kept.program.cons) n)) h.size
    functions in
    (h.source, (program kept.program, h.accepted, size))

-- ---- texts that are too long

module _ {K : Type 0} (o : SinkChange K) where
  pub checks_long : (front text : List ℕ) → 1048576 < length front → 1048576 < length text
      → (status : Status)
      → IsCheckOutcome o front status → IsCheckOutcome o text status
  checks_long front text short long (Refused k at) h
      = (refused_long front text short long k at h.0, h.1)
  checks_long front text short long OutOfMemory h = h
  checks_long front text short long Done h = accepted_short front h.0 h.1.0 short h.1.1
  checks_long front text short long WriteFault h = accepted_short front h.0 h.1.0 short h.1.1
  checks_long front text short long _ h = absurd h
