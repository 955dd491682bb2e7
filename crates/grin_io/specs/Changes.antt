-- What became of a sink, a source or a shelf over some calls.
use Rattle.std.specs.Prelude.{◌≡◌, ℕ, ◌<◌, ◌≤◌, Bool, true, false, List, [], ◌∷◌, ◌++◌, take, Option, Some, None, Result, IfErr}
use Rattle.std.specs.List.{concat, FoldsTo}
use Rattle.grin_io.specs.Causes.{CountGrew}
use Rattle.grin_io.specs.Content.{Files}
use Rattle.grin_io.specs.declared.outside.Fault.{Fault}
use Rattle.grin_io.specs.declared.outside.Fault.TheVariants.{Read, Write}

-- of the content that an object tells, if it does
abbrev pub KnownContent : {A : Type 0} → Option A → (A → Type 0) → Type 0
KnownContent {A} content P = (told : A) → content ≡ Some told → P told

-- a sink before and after the calls: all that its kind says of a put, the bytes that it tells, and
-- its count of faults
pub record SinkChange (K : Type 0) : Type 1 where
  pub gives : K → List ℕ → Bool → K → Type 0
  pub taken : K → Option (List ℕ)
  pub faults : K → ℕ
  pub old : K
  pub new : K

abbrev pub sink_change : {K : Type 0} → (K → List ℕ → Bool → K → Type 0)
    → (K → Option (List ℕ)) → (K → ℕ) → (old new : K) → SinkChange K
sink_change gives taken faults old new =
    record { gives = gives; taken = taken; faults = faults; old = old; new = new }

-- a source before and after the calls: all that its kind says of a read, the bytes that it tells to
-- be left, whether its end was met, and its count of faults
pub record SourceChange (I : Type 0) : Type 1 where
  pub gives : I → ℕ → Option (List ℕ) → I → Type 0
  pub left : I → Option (List ℕ)
  pub is_over : I → Type 0
  pub faults : I → ℕ
  pub old : I
  pub new : I

abbrev pub source_change : {I : Type 0} → (I → ℕ → Option (List ℕ) → I → Type 0)
    → (I → Option (List ℕ)) → (I → Type 0) → (I → ℕ) → (old new : I) → SourceChange I
source_change gives left is_over faults old new =
    record { gives = gives; left = left; is_over = is_over; faults = faults; old = old; new = new }

-- a shelf before and after the calls: the files that it tells, and its count of faults
pub record ShelfChange (F : Type 0) : Type 0 where
  pub content : F → Option Files
  pub faults : F → ℕ
  pub old : F
  pub new : F

abbrev pub shelf_change : {F : Type 0} → (F → Option Files) → (F → ℕ)
    → (old new : F) → ShelfChange F
shelf_change content faults old new =
    record { content = content; faults = faults; old = old; new = new }

-- ---- sinks

-- by puts of these pieces, one after the other, each of which it took whole, a sink went from one
-- state to another
abbrev pub PutsPieces : {K : Type 0} → (K → List ℕ → Bool → K → Type 0)
    → K → List (List ℕ) → K → Type 0
PutsPieces gives from pieces to = FoldsTo (λ k piece next. gives k piece true next) from pieces to

-- a sink took just these pieces, by a put of each
pub record TookExactly {K : Type 0} (o : SinkChange K) (pieces : List (List ℕ)) : Type 0 where
  pub content : KnownContent (o.taken o.old) (λ before.
      o.taken o.new ≡ Some (before ++ concat pieces))
  pub puts : PutsPieces o.gives o.old pieces o.new

-- pieces that were due were put, from the first one on, and nothing else
pub record PutSomePieces {K : Type 0} (o : SinkChange K) (due : List (List ℕ)) : Type 0 where
  pub front : List (List ℕ)
  pub rest : List (List ℕ)
  pub due_is : front ++ rest ≡ due
  pub took : TookExactly o front

-- behind such pieces the put of the next one failed, which was the last call: of that piece some
-- bytes were taken, from its front on
pub record PutFailed {K : Type 0} (o : SinkChange K) (due : List (List ℕ)) : Type 0 where
  pub front : List (List ℕ)
  pub piece : List ℕ
  pub rest : List (List ℕ)
  pub last : K
  pub due_is : front ++ (piece ∷ rest) ≡ due
  pub puts : PutsPieces o.gives o.old front last
  pub refused : o.gives last piece false o.new
  pub part : KnownContent (o.taken o.old) (λ before.
      (k : ℕ) × (o.taken o.new ≡ Some (before ++ (concat front ++ take k piece))))
  pub rose : CountGrew (o.faults o.old) (o.faults o.new)

-- what was asked of the sink, by the fault that ended a run
abbrev pub SinkAtFault : {K : Type 0} → Fault → SinkChange K → (due : List (List ℕ)) → Type 0
SinkAtFault Read o due = PutSomePieces o due
SinkAtFault Write o due = PutFailed o due

-- ---- sources

-- By reads of one byte each, one after the other, a source went from this state to another: they
-- gave these bytes, and then its end was met or not. Behind the end no read gives a byte.
pub data ReadBytes {I : Type 0} (gives : I → ℕ → Option (List ℕ) → I → Type 0) (from : I)
    : (given : List ℕ) → (ended : Bool) → (to : I) → Type 0 where
  no_read : ReadBytes gives from [] false from
  next_byte : {before given : List ℕ} {byte : ℕ} {last to : I}
      → ReadBytes gives from before false last
      → gives last 1 (Some (byte ∷ [])) to → byte < 256 → given ≡ before ++ (byte ∷ [])
      → ReadBytes gives from given false to
  at_end : {given : List ℕ} {ended : Bool} {last to : I} → ReadBytes gives from given ended last
      → gives last 1 (Some []) to → ReadBytes gives from given true to

-- an input whose first bytes are these, and of which there are no others where its end was met
pub record BeginsWith (given : List ℕ) (ended : Bool) (input : List ℕ) : Type 0 where
  pub rest : List ℕ
  pub is_input : input ≡ given ++ rest
  pub whole : ended ≡ true → rest ≡ []

-- a source gave just these bytes, by a read of each, and its end was met by a read or not
pub record ReadExactly {I : Type 0} (i : SourceChange I) (given : List ℕ) (ended : Bool)
    : Type 0 where
  pub reads : ReadBytes i.gives i.old given ended i.new
  pub content : KnownContent (i.left i.old) (λ before.
      (input : BeginsWith given ended before) × (i.left i.new ≡ Some input.rest))
  pub over : ended ≡ true → i.is_over i.new
  pub stays : i.is_over i.old → (given ≡ []) × i.is_over i.new

-- behind such bytes a read failed, which was the last call
pub record ReadFailed {I : Type 0} (i : SourceChange I) (given : List ℕ) (ended : Bool)
    : Type 0 where
  pub last : I
  pub gave : ReadExactly (source_change i.gives i.left i.is_over i.faults i.old last) given ended
  pub refused : i.gives last 1 None i.new

-- what a source gave, by the fault that ended a run
abbrev pub SourceAtFault : {I : Type 0} → Fault → SourceChange I → (given : List ℕ) → (ended : Bool)
    → Type 0
SourceAtFault Read i given ended = ReadFailed i given ended
SourceAtFault Write i given ended = ReadExactly i given ended

-- ---- faults

-- the count of the object that a fault names rose
abbrev pub FaultWasCounted : {I K : Type 0} → Fault → SourceChange I → SinkChange K → Type 0
FaultWasCounted Read i o = CountGrew (i.faults i.old) (i.faults i.new)
FaultWasCounted Write i o = CountGrew (o.faults o.old) (o.faults o.new)

-- the counts of a source and a sink never fall, and a fault is answered only where that object's
-- count rose
pub record FaultCountsAreSound {T I K : Type 0} (result : Result T Fault)
    (i : SourceChange I) (o : SinkChange K)
    : Type 0 where
  pub input_later : i.faults i.old ≤ i.faults i.new
  pub out_later : o.faults o.old ≤ o.faults o.new
  pub raised : IfErr result (λ fault. FaultWasCounted fault i o)
