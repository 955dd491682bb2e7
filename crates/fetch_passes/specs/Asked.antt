-- What is asked of what is noted of a procedure: whether a variable is used outside the
-- alternatives of the case on a tag.
use Rattle.std.specs.Prelude.{◌≡◌, ℕ, ◌+◌, Bool, false, cond, nat_eq, ◌||◌, List, ◌++◌, length, Option, Some, None}
use Rattle.grin_syntax.specs.declared.program.VarId.{VarId}
use Rattle.grin_syntax.specs.Tree.{Code, Act}
use Rattle.seq.specs.Lists.{is_among}
use Rattle.variable_uses.specs.Stands.{ListSegmentAt}
use Rattle.fetch_passes.specs.Windows.{is_case_on_tag, owns, act_outside, outside}
use Rattle.fetch_passes.specs.Notes.{Trace, joined_traces, with_own_size, act_trace, code_trace, Here}
pub use Rattle.fetch_passes.specs.declared.notes.Span.{Span}
pub use Rattle.fetch_passes.specs.declared.windows.Window.{Window}

-- the rest of a block begins at a place and ends at a position
pub record SpanCoversBlock (n : Trace) (s : Span) (c : Code) : Type 0 where
  pub here : Here n s.place (code_trace c)
  pub ends : s.end ≡ s.place.at + length (code_trace c).used

-- the span of what follows the first piece
abbrev pub Follows : Trace → (s next : Span) → Type 0
Follows n s next =
    (whole c : Code) (t : Trace) → code_trace whole ≡ joined_traces (with_own_size t) (code_trace c)
    → SpanCoversBlock n s whole → SpanCoversBlock n next c

abbrev pub is_var : ℕ → Option VarId → Bool
is_var x None = false
is_var x (Some y) = nat_eq y.0 x

-- a window on a block: by it is answered whether a variable is used there outside the alternatives
pub record IsWindow (n : Trace) (t : ℕ) (c : Code) (w : Window) : Type 0 where
  pub before : List ℕ
  pub after : List ℕ
  pub all : List ℕ
  pub to_case : ListSegmentAt n.used w.from before
  pub case_at : w.case ≡ w.from + length before
  pub from_case : ListSegmentAt n.used w.after after
  pub case_end : w.end ≡ w.after + length after
  pub whole : ListSegmentAt n.used w.from all
  pub whole_end : w.end ≡ w.from + length all
  pub owned : w.owned ≡ owns t c
  pub outside : (x : ℕ) → outside t x c
      ≡ cond w.owned (is_among x before || ((nat_eq t x || is_var x w.tested) || is_among x after))
      (is_among x all)

-- of a block, fetches were passed, up to what is left
pub record FetchesSkipped (n : Trace) (t : ℕ) (whole : Code) (s now : Span) (left : Code)
    : Type 0 where
  pub before : List ℕ
  pub at : now.place.at ≡ s.place.at + length before
  pub spans : SpanCoversBlock n s whole
  pub left_spans : SpanCoversBlock n now left
  pub used : (code_trace whole).used ≡ before ++ (code_trace left).used
  pub owns : owns t whole ≡ owns t left
  pub outside : (x : ℕ) → outside t x whole ≡ (is_among x before || outside t x left)

-- a block begins with an operation that is no fetch, or is one, and goes on with what r says
pub record BeginsWithAct (t : ℕ) (o : Act) (c : Code) (r : Trace) : Type 0 where
  pub trace : code_trace c ≡ joined_traces (with_own_size (act_trace o)) r
  pub owns : owns t c ≡ is_case_on_tag t o
  pub outside : (x : ℕ) → outside t x c ≡ (act_outside t x o || is_among x r.used)
