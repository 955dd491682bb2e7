-- The bytes of a file, piece by piece.
use Rattle.std.proofs.Common.{◌≡◌, ℕ, ◌+◌, ◌-◌, ◌<◌, ◌≤◌, min, Bool, true, false, List, [], ◌++◌, length, take, drop, nat_lt, Option, Some, None, refl, sym, ap, ◌∙◌, subst, arith, length-drop}
use Rattle.std.specs.Prelude.{IfSome, IsSome, unwrap_or}
use Rattle.std.proofs.Math.Seq.{take-add, take-append_seam}
use Rattle.std.proofs.lemmas.List.{length-take, length-take-le, take_all}
use mathlib.Core.Logic.{◌⊎◌, inl, inr}
use Rattle.std.proofs.lemmas.Bool.{ltb-true, ltb-false}
use Rattle.std.proofs.lemmas.Option.{same_Some}
use Rattle.seq.proofs.Order.{le_or_lt}
use Rattle.grin_io.specs.Content.{Files, FillsBuffer, file_named, unread_rest, advanced_place}
use Rattle.grin_io.specs.Changes.{ShelfChange, shelf_change}
use Rattle.text_commands.specs.declared.status.Status.{Status}
use Rattle.text_commands.specs.declared.status.Status.TheVariants.{OutOfMemory, ReadFault}
use Rattle.text_commands.specs.Reading.{IsBehind, Goes, Reading, ReadsOn, IsRead, open_behind, Stay, IsUnread}
use Rattle.text_commands.specs.Operands.{HoldsOfFileBytes}
use Rattle.grin_io.proofs.Changes.{rises}

-- the bytes at a buffer's front
pub piece_is : (rest buffer filled : List ℕ) (k : ℕ) → k ≤ length rest → filled ≡ take k rest
    ++ drop k buffer → take k filled ≡ take k rest
piece_is rest buffer filled k within front =
    let len : length (take k rest) ≡ k = length-take-le k rest within in
    let seam : take (length (take k rest)) (take k rest ++ drop k buffer) ≡ take k rest
    = take-append_seam (take k rest) (drop k buffer) in
    let first : take k (take k rest ++ drop k buffer) ≡ take k rest
    = subst (λ n. take n (take k rest ++ drop k buffer) ≡ take k rest) len seam in
    ap (take k) front ∙ first

-- so many bytes more of a file
pub front_more : (text bytes buffer filled : List ℕ) (k : ℕ) → text ≡ take (length text) bytes
    → k ≤ length (drop (length text) bytes) → filled ≡ take k (drop (length text) bytes)
    ++ drop k buffer
    → text ++ take k filled ≡ take (length text + k) bytes
front_more text bytes buffer filled k front within filled-is =
    let piece : take k filled ≡ take k (drop (length text) bytes)
    = piece_is (drop (length text) bytes) buffer filled k within filled-is in
    ap (λ p. text ++ p) piece ∙ ap (λ t. t ++ take k (drop (length text) bytes)) front ∙ sym
    (take-add (length text) k bytes)

-- the file is open behind as many bytes more
pub behind_more : (named : List (List ℕ × List ℕ)) (file text bytes : List ℕ) (k : ℕ)
    → file_named file named ≡ Some bytes → length text + k ≤ length bytes
    → (text' : List ℕ) → text' ≡ take (length text + k) bytes
    → IsBehind (record { named = named; opened = Some (file, length text + k) }) file text'
behind_more named file text bytes k is within text' text-is =
    let len : length text' ≡ length text + k = ap length text-is ∙ length-take-le (length text + k)
    bytes within in
    record {
      bytes = bytes;
      named = is;
      opened = ap (λ n. Some (file, n)) (sym len);
      front = text-is ∙ ap (λ n. take n bytes) (sym len);
      within = omega (arith, len, within);
    }

-- whether bytes were read
pub goes_more : (named : List (List ℕ × List ℕ)) (opened : Option (List ℕ × ℕ))
    (file text bytes : List ℕ) (k : ℕ) → file_named file named ≡ Some bytes
    → length text + k ≤ length bytes
    → (k ≡ 0 → length bytes ≤ length text)
    → (text' : List ℕ) → text' ≡ take (length text + k) bytes
    → Goes (record { named = named; opened = opened }) file text text' (nat_lt 0 k)
goes_more named opened file text bytes k is within ends text' text-is = go (nat_lt 0 k) refl
  where
    go : (t : Bool) → nat_lt 0 k ≡ t → Goes (record { named = named; opened = opened }) file text
        text' t
    go true e =
        let some : 0 < k = ltb-true 0 k e in
        let len : length text' ≡ length text + k = ap length text-is ∙ length-take-le
        (length text + k) bytes within in
        omega (arith, len, some)
    go false e =
        let none : k ≤ 0 = ltb-false 0 k e in
        let short : length bytes ≤ length text = ends (omega (arith, none)) in
        let all : take (length text + k) bytes ≡ bytes
        = take_all (length text + k) bytes (omega (arith, short)) in
        is ∙ ap Some (sym (text-is ∙ all))

empty_rest : (n : ℕ) (bytes : List ℕ) → drop n bytes ≡ [] → length bytes ≤ n
empty_rest n bytes e =
    let len : length (drop n bytes) ≡ 0 = ap length e in
    let dropped : length (drop n bytes) ≡ length bytes - n = length-drop n bytes in
    omega (arith, len, dropped)

-- a reading of the open file
pub goes_on : (named : List (List ℕ × List ℕ)) (opened : Option (List ℕ × ℕ))
    (file text bytes buffer filled : List ℕ) (k : ℕ) → 0 < length buffer
    → file_named file named ≡ Some bytes → opened ≡ Some (file, length text)
    → text ≡ take (length text) bytes → length text ≤ length bytes
    → FillsBuffer (unread_rest named opened) buffer filled k
    → IsBehind (record { named = named; opened = advanced_place k opened }) file
    (text ++ take k filled)
    × Goes (record { named = named; opened = advanced_place k opened }) file text
    (text ++ take k filled) (nat_lt 0 k)
goes_on named opened file text bytes buffer filled k room is opened-is front short fills' =
    let rest-is : unread_rest named opened ≡ drop (length text) bytes
    = ap (unread_rest named) opened-is ∙ ap (λ o. drop (length text) (unwrap_or o [])) is in
    let fills : FillsBuffer (drop (length text) bytes) buffer filled k
    = subst (λ r. FillsBuffer r buffer filled k) rest-is fills' in
    let more : text ++ take k filled ≡ take (length text + k) bytes
    = front_more text bytes buffer filled k front fills.within fills.front in
    let dropped : length (drop (length text) bytes) ≡ length bytes - length text
    = length-drop (length text) bytes in
    let fits : k ≤ length (drop (length text) bytes) = fills.within in
    let within : length text + k ≤ length bytes = omega (arith, fits, dropped, short) in
    let moved : advanced_place k opened ≡ Some (file, length text + k)
    = ap (advanced_place k) opened-is in (
      subst (λ o. IsBehind (record { named = named; opened = o }) file (text ++ take k filled))
          (sym moved) (behind_more named file text bytes k is within (text ++ take k filled) more),
      goes_more named (advanced_place k opened) file text bytes k is within
          (λ e. empty_rest (length text) bytes ((fills.ends room).0 e)) (text ++ take k filled)
          more,
    )

pub reads_on : (before now : Option Files) (text text' buffer filled : List ℕ) (k : ℕ)
    → 0 < length buffer
    → IfSome before
    (λ old. FillsBuffer (unread_rest old.named old.opened) buffer filled k
    × (now ≡ Some (record { named = old.named; opened = advanced_place k old.opened })))
    → text' ≡ text ++ take k filled → ReadsOn before now text text' (nat_lt 0 k)
reads_on before now text text' buffer filled k room reads text-is = λ old e file behind.
    go old (subst
    (λ b. IfSome b
    (λ old. FillsBuffer (unread_rest old.named old.opened) buffer filled k
    × (now ≡ Some (record { named = old.named; opened = advanced_place k old.opened })))) e
    reads) file behind
  where
    go : (old : Files) → FillsBuffer (unread_rest old.named old.opened) buffer filled k
        × (now ≡ Some (record { named = old.named; opened = advanced_place k old.opened }))
        → (file : List ℕ) → IsBehind old file text
        → (new : Files) × (now ≡ Some new) × (new.named ≡ old.named) × IsBehind new file text'
        × Goes new file text text' (nat_lt 0 k)
    go old r file behind =
        let both = goes_on old.named old.opened file text behind.bytes buffer filled k room
        behind.named behind.opened behind.front behind.within r.0 in
        let new : Files = record { named = old.named; opened = advanced_place k old.opened } in (
          new,
          r.1,
          refl,
          subst (λ t. IsBehind new file t) (sym text-is) both.0,
          subst (λ t. Goes new file text t (nat_lt 0 k)) (sym text-is) both.1,
        )

-- ---- the whole reading

opened_file : (now : Option Files) (file : List ℕ) (old : Files)
    → now ≡ Some (record { named = old.named; opened = Some (file, 0) })
    → (o : Option (List ℕ)) → file_named file old.named ≡ o → IsSome o
    → (new : Files) × (now ≡ Some new) × (new.named ≡ old.named) × IsBehind new file []
opened_file now file old now-is (Some bytes) is some
    = (
      record { named = old.named; opened = Some (file, 0) },
      now-is,
      refl,
      record { bytes = bytes; named = is; opened = refl; front = refl; within = omega arith },
    )
opened_file now file old now-is None is some = let c : false ≡ true = some in absurd cc

pub opened_reading : (before now : Option Files) (file : List ℕ)
    → IfSome before
    (λ old. IsSome (file_named file old.named) ×
    (now ≡ Some (record { named = old.named; opened = Some (file, 0) })))
    → Reading before now file []
opened_reading before now file opens = λ old e.
    let o = subst
    (λ b. IfSome b
    (λ old. IsSome (file_named file old.named) ×
    (now ≡ Some (record { named = old.named; opened = Some (file, 0) })))) e opens in
    opened_file now file old o.1 (file_named file old.named) refl o.0

pub reading_on : (first before now : Option Files) (file text text' : List ℕ) (more : Bool)
    → Reading first before file text → ReadsOn before now text text' more
    → Reading first now file text'
reading_on first before now file text text' more reading on = λ old e.
    let r = reading old e in
    let s = on r.0 r.1 file r.3 in
    (s.0, s.1, s.2 ∙ r.2, s.3)

-- the files, with the one that is open
behind_is : (files new : Files) (file text : List ℕ) → new.named ≡ files.named
    → IsBehind new file text → new ≡ open_behind files file (length text)
behind_is files new file text named behind = λ i. record
    { named = named i; opened = behind.opened i }

module _ {F : Type 0} (content : F → Option Files) (faults : F → ℕ) (old new : F) (most : ℕ)
    (file text : List ℕ) where
  pub read_full : Reading (content old) (content new) file text → length text ≡ most
      → IsRead (shelf_change content faults old new) most file text
  read_full reading full = record {
    front = λ files e.
        let r = reading files e in (
          r.3.bytes,
          subst (λ n. file_named file n ≡ Some r.3.bytes) r.2 r.3.named,
          r.3.front ∙ ap (λ n. take n r.3.bytes) full,
          r.1 ∙ ap Some (behind_is files r.0 file text r.2 r.3),
        );
    short = omega (arith, full);
  }

  pub read_ended : (before : Option Files) (text' : List ℕ) (more : Bool)
      → Reading (content old) before file text' → ReadsOn before (content new) text' text more
      → more ≡ false → length text ≤ most → IsRead (shelf_change content faults old new) most file
      text
  read_ended before text' more reading goes ended short = record {
    front = λ files e.
        let r = reading files e in
        let on : ReadsOn before (content new) text' text false
        = subst (λ b. ReadsOn before (content new) text' text b) ended goes in
        let s = on r.0 r.1 file r.3 in (
          text,
          subst (λ n. file_named file n ≡ Some text) (s.2 ∙ r.2) s.4,
          sym (take_all most text short),
          s.1 ∙ ap Some (behind_is files s.0 file text (s.2 ∙ r.2) s.3),
        );
    short = short;
  }

-- ---- files that stay

pub stay_same : (before now : Option Files) → IfSome before (λ old. now ≡ Some old)
    → Stay before now
stay_same None now h old e = cc
stay_same (Some files) now h old e = let same : files ≡ old = same_Some files old e
    in (files, h, ap (λ f. f.named) same)

pub stay_moved : (before now : Option Files) (opened : Files → Option (List ℕ × ℕ))
    → IfSome before (λ old. now ≡ Some (record { named = old.named; opened = opened old }))
    → Stay before now
stay_moved None now opened h old e = cc
stay_moved (Some files) now opened h old e =
    let same : files ≡ old = same_Some files old e in
    (record { named = files.named; opened = opened files }, h, ap (λ f. f.named) same)

pub stay_behind : (before now : Option Files) (file text : List ℕ) → Reading before now file text
    → Stay before now
stay_behind before now file text reading old e = let r = reading old e in (r.0, r.1, r.2)

stay_join : (first before now : Option Files) → Stay first before → Stay before now → Stay first now
stay_join first before now s t old e =
    let r = s old e in
    let q = t r.0 r.1 in
    (q.0, q.1, q.2 ∙ r.2)

-- files that stayed, and were then not read on
pub unread_on : {F : Type 0} (content : F → Option Files) (faults : F → ℕ) (old mid new : F)
    (status : Status) → Stay (content old) (content mid) → faults old ≤ faults mid
    → IsUnread (shelf_change content faults mid new) status
    → IsUnread (shelf_change content faults old new) status
unread_on content faults old mid new ReadFault stay later h
    = (
      rises (faults old) (faults mid) (faults new) later h.0,
      stay_join (content old) (content mid) (content new) stay h.1,
    )
unread_on content faults old mid new OutOfMemory stay later h
    = stay_join (content old) (content mid) (content new) stay h
unread_on content faults old mid new _ stay later h = absurd h

-- ---- what was read of a file

-- what holds of the bytes that were read holds of the file, if it does so where the file has more
-- than the most that are read
pub of_file : {F : Type 0} (f : ShelfChange F) (most : ℕ) (file front : List ℕ)
    (outcome : List ℕ → Type 0)
    → ((bytes : List ℕ) → length front ≡ most → most < length bytes → outcome front → outcome bytes)
    → IsRead f most file front → outcome front → HoldsOfFileBytes f most file outcome
of_file f most file front outcome longer read h = go (f.content f.old) refl
  where
    by : (bytes : List ℕ) → front ≡ take most bytes → (length bytes ≤ most) ⊎ (most < length bytes)
        → outcome bytes
    by bytes is (inl short) = subst outcome (is ∙ take_all most bytes short) h
    by bytes is (inr long) =
        let within : most ≤ length bytes = omega (arith, long) in
        longer bytes (ap length is ∙ length-take-le most bytes within) long h

    place_is : (bytes : List ℕ) → front ≡ take most bytes → length front ≡ min (length bytes) most
    place_is bytes is = omega (arith, ap length is, length-take most bytes)

    go : (c : Option Files) → f.content f.old ≡ c → HoldsOfFileBytes f most file outcome
    go None is = (front, (λ files e. let c : None ≡ Some files = sym is ∙ e in absurd cc), h)
    go (Some files) is =
        let r = read.front files is in (
          r.0,
          (λ files' e.
              let c : Some files ≡ Some files' = sym is ∙ e in
              let same : files ≡ files' = same_Some files files' c in (
                subst (λ q. file_named file q.named ≡ Some r.0) same r.1,
                r.3 ∙ ap (λ q. Some (open_behind q file (length front))) same ∙ ap
                    (λ n. Some (open_behind files' file n)) (place_is r.0 r.2),
              )),
          by r.0 r.2 (le_or_lt (length r.0) most),
        )
