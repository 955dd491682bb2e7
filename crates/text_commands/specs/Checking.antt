-- What each status says of a text that is checked.
use Rattle.std.specs.Prelude.{◌≡◌, ℕ, List, [], ◌∷◌, ◌++◌, length, codes, decimal}
use Rattle.core_reader.specs.Tree as tree
use Rattle.core_reader.specs.Size.{program_size}
use Rattle.arity_check.specs.Program.{Program}
use Rattle.grin_io.specs.Changes.{SinkChange, TookExactly, PutFailed}
use Rattle.text_commands.specs.declared.status.Status.{Status}
use Rattle.text_commands.specs.declared.status.Status.TheVariants.{Done, Refused, OutOfMemory, WriteFault}
use Rattle.text_commands.specs.Text.{IsRefusedBy, IsAccepted}

-- the line of a program with so many functions and constructors, and of this size
unfoldable pub summary : (functions constructors size : ℕ) → List ℕ
summary functions constructors size =
    codes "ok functions " ++ (decimal functions ++ (codes " constructors "
    ++ (decimal constructors ++ (codes " size " ++ (decimal size ++ codes "\n")))))

-- The text breaks no rule, and this holds of the line of its program: the numbers are those of the
-- normal form and the size is that of the text.
abbrev pub HoldsOfSummary : (text : List ℕ) → (List ℕ → Type 0) → Type 0
HoldsOfSummary text Holds =
    (source : tree.Program) × ((program : Program) × IsAccepted text source program
    × Holds (summary (length program.funs) (length program.cons) (program_size source)))

-- The status of a text, and what became of the sink: one put of its program's line, and none at a
-- refusal or for want of memory.
abbrev pub IsCheckOutcome : {K : Type 0} → SinkChange K → (text : List ℕ) → Status → Type 0
IsCheckOutcome o text Done = HoldsOfSummary text (λ line. TookExactly o (line ∷ []))
IsCheckOutcome o text WriteFault = HoldsOfSummary text (λ line. PutFailed o (line ∷ []))
IsCheckOutcome o text (Refused rule number) = IsRefusedBy text rule number × (o.new ≡ o.old)
IsCheckOutcome o text OutOfMemory = o.new ≡ o.old
IsCheckOutcome o text _ = ⊥
