-- Sinks in memory with room for 4,096 bytes and no planned failure.
use Rattle.std.proofs.Common.{◌≡◌, ℕ, ◌+◌, ◌-◌, ◌<◌, ◌≤◌, min, Bool, true, false, List, [], ◌∷◌, ◌++◌, length, take, Some, refl, sym, ap, ◌∙◌, subst, arith, append_assoc, append-nil}
use Rattle.std.specs.Prelude.{nat_le, cond}
use Rattle.std.specs.List.{concat}
use Rattle.std.proofs.lemmas.Bool.Decides.{nat_tests}
use Rattle.std.proofs.lemmas.List.{length-append, take_all}
use Rattle.std.proofs.lemmas.List.Folds.{concat-append}
use Rattle.grin_io.specs.Memory.{CallSchedule, Store, raised, called, faulted, is_stored, after_put}
use Rattle.grin_io.specs.Changes.{sink_change, PutsPieces, PutFailed}

-- what the sink says of a put
abbrev pub Stores : Store → List ℕ → Bool → Store → Type 0
Stores s piece whole t = (whole ≡ is_stored s piece) × (t ≡ after_put s piece)

abbrev pub calls_of : (made faults : ℕ) → CallSchedule
calls_of made faults = record { planned = []; made = made; faults = faults }

abbrev pub store_of : (taken : List ℕ) (made faults : ℕ) → Store
store_of taken made faults = record { taken = taken; capacity = 4096; calls = calls_of made faults }

-- the sink took these bytes
pub record Holds (s : Store) (bytes : List ℕ) : Type 0 where
  pub made : ℕ
  pub faults : ℕ
  pub is : s ≡ store_of bytes made faults
  pub room : length bytes ≤ 4096

-- ---- one put

stored_is : (taken piece piece' : List ℕ) (made faults : ℕ) (fits : Bool) → fits ≡ true
    → piece' ≡ piece
    → record {
      taken = taken ++ piece';
      capacity = 4096;
      calls
          = cond fits (called (calls_of made faults)) (faulted (called (calls_of made faults)));
    }
    ≡ store_of (taken ++ piece) (raised made) faults
stored_is taken piece piece' made faults fits e f = rw (e, f) refl

put_on : (taken piece : List ℕ) (made faults : ℕ) (t : Store) → length taken ≤ 4096
    → true ≡ nat_le (length piece) (4096 - length taken)
    → t ≡ after_put (store_of taken made faults) piece → Holds t (taken ++ piece)
put_on taken piece made faults t room whole is =
    let fits : length piece ≤ 4096 - length taken = grind (arith, nat_tests) in
    record {
      made = raised made;
      faults = faults;
      is = is ∙ stored_is taken piece (take (min (length piece) (4096 - length taken)) piece) made
          faults (nat_le (length piece) (4096 - length taken)) (sym whole)
          (take_all (min (length piece) (4096 - length taken)) piece (omega (arith, fits)));
      room = omega (arith, length-append taken piece, fits, room);
    }

pub put_whole : (s t : Store) (bytes piece : List ℕ) → Holds s bytes → Stores s piece true t
    → Holds t (bytes ++ piece)
put_whole s t bytes piece h g =
    let g' = subst (λ (s : Store). Stores s piece true t) h.is g
    in put_on bytes piece h.made h.faults t h.room g'.0 g'.1

-- a put that isn't taken whole is past the room
pub put_short : (s t : Store) (bytes piece : List ℕ) → Holds s bytes → Stores s piece false t
    → 4096 < length bytes + length piece
put_short s t bytes piece h g =
    let g' = subst (λ (s : Store). Stores s piece false t) h.is g in
    let short : false ≡ nat_le (length piece) (4096 - length bytes) = g'.0 in
    let room : length bytes ≤ 4096 = h.room in
    grind (arith, nat_tests)

-- ---- puts one after the other

pub puts_hold : (pieces : List (List ℕ)) (s t : Store) (bytes : List ℕ) → Holds s bytes
    → PutsPieces Stores s pieces t → Holds t (bytes ++ concat pieces)
puts_hold [] s t bytes h e = subst (λ b. Holds t b) (sym (append-nil bytes))
    (subst (λ (s : Store). Holds s bytes) e h)
puts_hold (piece ∷ pieces) s t bytes h f =
    let next = puts_hold pieces f.0 t (bytes ++ piece) (put_whole s f.0 bytes piece h f.1) f.2 in
    subst (λ b. Holds t b) (append_assoc bytes piece (concat pieces)) next

-- where a put of those that were due failed, they are more than 4,096 bytes
pub broke_is_long : (old new : Store) (due : List (List ℕ)) → Holds old []
    → PutFailed
    (sink_change Stores (λ (s : Store). Some s.taken) (λ (s : Store). s.calls.faults) old new) due
    → 4096 < length (concat due)
broke_is_long old new due h b =
    let held = puts_hold b.front old b.last [] h b.puts in
    let long : 4096 < length (concat b.front) + length b.piece
    = put_short b.last new (concat b.front) b.piece held b.refused in
    let all : concat due ≡ concat b.front ++ (b.piece ++ concat b.rest)
    = ap concat (sym b.due_is) ∙ concat-append b.front (b.piece ∷ b.rest) in
    let size : length (concat due) ≡ length (concat b.front) + length (b.piece ++ concat b.rest) =
    ap length all ∙ length-append (concat b.front) (b.piece ++ concat b.rest) in
    omega (arith, long, size, length-append b.piece (concat b.rest))
