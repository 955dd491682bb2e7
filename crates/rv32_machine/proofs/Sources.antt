-- What a source gave, read by read, and the inputs that begin with it.
use Rattle.std.proofs.Common.{◌≡◌, ℕ, List, [], ◌∷◌, ◌++◌, drop, Bool, true, false, Option, Some, None, append_assoc, append-nil, refl, sym, ap, ◌∙◌}
use Rattle.std.specs.Prelude.{slice_get}
use Rattle.std.proofs.lemmas.List.{append_cancel_left}
use Rattle.grin_io.specs.Changes.{source_change, no_read, next_byte, at_end, BeginsWith, ReadExactly}
use Rattle.rv32_machine.specs.OneByte.{ReadsOneByte}

-- ---- inputs

-- what begins with all these begins with the first of them
pub narrow : (given more : List ℕ) (ended ended' : Bool) (all input : List ℕ) → all ≡ given ++ more
    → (ended ≡ true → (more ≡ []) × (ended' ≡ true)) → BeginsWith all ended' input
    → BeginsWith given ended input
narrow given more ended ended' all input is back b = record {
  rest = more ++ b.rest;
  is_input = b.is_input ∙ ap (λ l. l ++ b.rest) is ∙ append_assoc given more b.rest;
  whole = λ e. let h = back e in ap (λ l. l ++ b.rest) h.0 ∙ b.whole h.1;
}

-- and behind the first of them with the others
pub behind : (given more : List ℕ) (ended' : Bool) (all input left : List ℕ) → all ≡ given ++ more
    → input ≡ given ++ left → BeginsWith all ended' input → BeginsWith more ended' left
behind given more ended' all input left is parts b = record {
  rest = b.rest;
  is_input = append_cancel_left given _ _
      (sym parts ∙ b.is_input ∙ ap (λ l. l ++ b.rest) is ∙ append_assoc given more b.rest);
  whole = b.whole;
}

-- the bytes themselves begin with all of them
pub itself : (given : List ℕ) (ended : Bool) → BeginsWith given ended given
itself given ended = record { rest = []; is_input = sym (append-nil given); whole = λ e. refl }

-- where the end wasn't met, any byte may follow
pub followed : (given : List ℕ) (ended : Bool) (byte : ℕ) → ended ≡ false
    → BeginsWith given ended (given ++ (byte ∷ []))
followed given ended byte going = record
    { rest = byte ∷ []; is_input = refl; whole = λ e. let no : true ≡ false = sym e ∙ going in cc }

-- ---- reads

module _ {I : Type 0} (reads : I → ℕ → Option (List ℕ) → I → Type 0) (left : I → Option (List ℕ))
    (is_over : I → Type 0) (lost : I → ℕ) (start : I) where
  pub gave_none : ReadExactly (source_change reads left is_over lost start start) [] false
  gave_none = record {
    reads = no_read;
    content = λ before is. (record { rest = before; is_input = refl; whole = λ e. cc }, is);
    over = λ e. cc;
    stays = λ over. (refl, over);
  }

  module _ (a b : I) (given : List ℕ) where
    pub gave_byte : (byte : ℕ) → ReadExactly (source_change reads left is_over lost start a) given
        false → ReadsOneByte (source_change reads left is_over lost a b) (Some byte)
        → ReadExactly (source_change reads left is_over lost start b) (given ++ (byte ∷ [])) false
    gave_byte byte g one = record {
      reads = next_byte g.reads one.exactly one.small refl;
      content = λ before is.
          let c = g.content before is in
          let n = one.content c.0.rest c.1 in
          let r = next_is c.0.rest n.0 in (
            record {
              rest = drop 1 c.0.rest;
              is_input
                  = c.0.is_input ∙ ap (λ l. given ++ l) r ∙ sym
                  (append_assoc given (byte ∷ []) (drop 1 c.0.rest));
              whole = λ e. cc;
            },
            n.1,
          );
      over = λ e. cc;
      stays = λ over. let no = (one.over (g.stays over).1).0 in cc;
    }
      where
        next_is : (rest : List ℕ) → Some byte ≡ slice_get rest 0 → rest ≡ (byte ∷ []) ++ drop 1 rest
        next_is [] e = cc
        next_is (x ∷ rest) e = let same : byte ≡ x = cc in ap (λ y. y ∷ rest) (sym same)

    pub gave_end : (ended : Bool) → ReadExactly (source_change reads left is_over lost start a)
        given ended → ReadsOneByte (source_change reads left is_over lost a b) None
        → ReadExactly (source_change reads left is_over lost start b) given true
    gave_end ended g one = record {
      reads = at_end g.reads one.exactly;
      content = λ before is.
          let c = g.content before is in
          let n = one.content c.0.rest c.1 in
          let none = none_left c.0.rest n.0 in (
            record { rest = c.0.rest; is_input = c.0.is_input; whole = λ e. none },
            n.1 ∙ ap Some (ap (λ l. drop 1 l) none ∙ sym none),
          );
      over = λ e. one.met refl;
      stays = λ over. let s = g.stays over in (s.0, (one.over s.1).1);
    }
      where
        none_left : (rest : List ℕ) → None ≡ slice_get rest 0 → rest ≡ []
        none_left [] e = refl
        none_left (x ∷ rest) e = cc
