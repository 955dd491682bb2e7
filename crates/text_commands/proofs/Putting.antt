-- What became of a sink by an output that is put in pieces.
use Rattle.std.proofs.Common.{◌≡◌, ℕ, suc, zero, ◌<◌, ◌≤◌, min, Bool, true, false, List, [], ◌∷◌, ◌++◌, length, take, drop, Option, Some, Ok, Err, refl, sym, subst, arith, append_assoc, append-nil, length-drop}
use Rattle.std.specs.Prelude.{IfSome, Result, OnErr}
use Rattle.std.proofs.lemmas.List.{take-append-drop, length-take}
use Rattle.grin_io.specs.Causes.{CountGrew}
use Rattle.grin_io.specs.Changes.{sink_change, TookExactly, PutFailed}
use Rattle.grin_io.proofs.Changes.{told, took_none, took_one, took_join, broke_off_one, broke_off_join}
use Rattle.text_commands.specs.Putting.{IsCutIntoPieces, no_piece, next_piece, HoldsOfPieces}

pub on_err : {T E P : Type 0} → (result : Result T E) → P → OnErr result P
on_err (Ok x) h = tt
on_err (Err e) h = h

-- a piece in front of the pieces of the rest
cut_more : (piece rest bytes : List ℕ) (pieces : List (List ℕ)) → bytes ≡ piece ++ rest
    → length piece ≡ min 4096 (length bytes) → 0 < length bytes → IsCutIntoPieces 4096 rest pieces
    → IsCutIntoPieces 4096 bytes (piece ∷ pieces)
cut_more piece rest bytes pieces is size some cut =
    subst (λ b. IsCutIntoPieces 4096 b (piece ∷ pieces)) (sym is)
    (next_piece (omega (arith, size, some))
    (subst (λ b. length piece ≡ min 4096 (length b)) is size) cut)

-- all bytes can be cut
cut_within : (n : ℕ) (bytes : List ℕ) → length bytes ≤ n → (pieces : List (List ℕ))
    × IsCutIntoPieces 4096 bytes pieces
cut_within n [] h = ([], no_piece)
cut_within zero (b ∷ bs) h = absurd (omega (arith, h))
cut_within (suc n) (b ∷ bs) h =
    let bytes = b ∷ bs in
    let short : length (drop 4096 bytes) ≤ n = omega (arith, h, length-drop 4096 bytes) in
    let later = cut_within n (drop 4096 bytes) short in (
      take 4096 bytes ∷ later.0,
      cut_more (take 4096 bytes) (drop 4096 bytes) bytes later.0
          (sym (take-append-drop 4096 bytes)) (length-take 4096 bytes) (omega arith) later.1,
    )

module _ {K : Type 0} (gives : K → List ℕ → Bool → K → Type 0) (taken : K → Option (List ℕ))
    (faults : K → ℕ) (old : K) (bytes : List ℕ) where
  -- all but the rest of the bytes were put
  pub record PutSoFar (now : K) (rest : List ℕ) : Type 0 where
    pub front : List (List ℕ)
    pub took : TookExactly (sink_change gives taken faults old now) front
    pub later : faults old ≤ faults now
    pub cut : (pieces : List (List ℕ)) → IsCutIntoPieces 4096 rest pieces
        → IsCutIntoPieces 4096 bytes (front ++ pieces)

  pub nothing_put : PutSoFar old bytes
  nothing_put = record {
    front = [];
    took = took_none gives taken faults old [] refl;
    later = omega arith;
    cut
        = λ pieces c. c;
  }

  -- one more piece of the rest
  module _ (now next : K) (piece rest rest' : List ℕ) (s : PutSoFar now rest)
      (is : rest ≡ piece ++ rest') (size : length piece ≡ min 4096 (length rest))
      (some : 0 < length rest) where
    cut_on : (pieces : List (List ℕ)) → IsCutIntoPieces 4096 rest' pieces
        → IsCutIntoPieces 4096 bytes (s.front ++ (piece ∷ pieces))
    cut_on pieces c = s.cut (piece ∷ pieces) (cut_more piece rest' rest pieces is size some c)

    pub piece_put : gives now piece true next → IfSome (taken now)
        (λ t. taken next ≡ Some (t ++ piece)) → faults now ≤ faults next → PutSoFar next rest'
    piece_put gave took later = record {
      front = s.front ++ (piece ∷ []);
      took = took_join gives taken faults old now next s.front (piece ∷ []) s.took
          (took_one gives taken faults now next piece (piece ∷ []) refl (told _ _ took) gave);
      later = let a = s.later in omega (arith, a, later);
      cut = λ pieces c. subst (λ l. IsCutIntoPieces 4096 bytes l)
          (sym (append_assoc s.front (piece ∷ []) pieces)) (cut_on pieces c);
    }

    pub piece_failed : gives now piece false next → IfSome (taken now)
        (λ t. (k : ℕ) × (taken next ≡ Some (t ++ take k piece)))
        → CountGrew (faults now) (faults next) → HoldsOfPieces bytes
        (PutFailed (sink_change gives taken faults old next))
    piece_failed gave took rose =
        let later = cut_within (length rest') rest' (omega arith) in
        let broke = broke_off_join gives taken faults old now next s.front (piece ∷ []) later.0
        s.later s.took
        (broke_off_one gives taken faults now next piece (piece ∷ []) refl (told _ _ took) gave
        rose) in (
          s.front ++ (piece ∷ later.0),
          cut_on later.0 later.1,
          subst (λ l. PutFailed (sink_change gives taken faults old next) l)
              (append_assoc s.front (piece ∷ []) later.0) broke,
        )

  pub all_put : (now : K) (rest : List ℕ) → PutSoFar now rest → rest ≡ []
      → HoldsOfPieces bytes (TookExactly (sink_change gives taken faults old now))
  all_put now rest s e = (
    s.front,
    subst (λ l. IsCutIntoPieces 4096 bytes l) (append-nil s.front)
        (s.cut [] (subst (λ r. IsCutIntoPieces 4096 r []) (sym e) no_piece)),
    s.took,
  )
