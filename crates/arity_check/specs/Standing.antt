-- Where heads stand in an application, and the applications in its brackets.
use Rattle.std.specs.Prelude.{◌≡◌, ℕ, ◌+◌}
use Rattle.core_reader.specs.Tree.{Term, Terms, Name, Con, Int, Bracket, NoTerms, AndTerm, Application}

abbrev pub count : Terms → ℕ
count NoTerms = 0
count (AndTerm a as') = count as' + 1

abbrev pub place : Term → ℕ
place (Name x at) = at
place (Con c at) = at
place (Int k at) = at
place (Bracket head args at) = at

-- a is one of these
pub data IsTermAmong (a : Term) : Terms → Type 0 where
  First : {as' : Terms} → IsTermAmong a (AndTerm a as')
  Later : {b : Term} {as' : Terms} → IsTermAmong a as' → IsTermAmong a (AndTerm b as')

-- the head h stands with k arguments in the application of a term to arguments. A bracket round a
-- lone head is that head, and a bracket without arguments is the application in it
pub data HeadIsApplied : Term → Terms → (h : Term) (k : ℕ) → Type 0 where
  AsName : {x at : ℕ} {args : Terms} → HeadIsApplied (Name x at) args (Name x at) (count args)
  AsCon : {c at : ℕ} {args : Terms} → HeadIsApplied (Con c at) args (Con c at) (count args)
  LoneHead : {head h : Term} {args : Terms} {at k : ℕ} → HeadIsApplied head args h k
      → HeadIsApplied (Bracket head NoTerms at) args h k
  LoneBracket : {head a h : Term} {as' : Terms} {at k : ℕ} → HeadIsApplied head (AndTerm a as') h k
      → HeadIsApplied (Bracket head (AndTerm a as') at) NoTerms h k
  InHead : {head a b h : Term} {as' bs : Terms} {at k : ℕ} → HeadIsApplied head (AndTerm a as') h k
      → HeadIsApplied (Bracket head (AndTerm a as') at) (AndTerm b bs) h k
  InArgument : {head a h : Term} {args : Terms} {k : ℕ} → IsTermAmong a args
      → HeadIsApplied a NoTerms h k → HeadIsApplied head args h k

-- an application and those in its brackets
pub data Contains : Application → Application → Type 0 where
  Whole : {app : Application} → Contains app app
  InItsHead : {app inner : Application} {head : Term} {args : Terms} {at : ℕ}
      → app.head ≡ Bracket head args at → Contains (record { head = head; args = args }) inner
      → Contains app inner
  InItsArgs : {app inner : Application} {head : Term} {args : Terms} {at : ℕ}
      → IsTermAmong (Bracket head args at) app.args
      → Contains (record { head = head; args = args }) inner
      → Contains app inner
