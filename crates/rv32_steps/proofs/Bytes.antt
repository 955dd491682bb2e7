-- Calls of one byte, which stands in a word of the heap or of the stack.
use Rattle.std.proofs.Common.{◌≡◌, ℕ, ◌+◌, ◌-◌, ◌*◌, ◌%◌, ◌<◌, ◌≤◌, List, [], ◌∷◌, get_or, set, Bool, true, false, inl, inr, refl, sym, ap, ◌∙◌, arith}
use Rattle.std.specs.Prelude.{nat_lt, if◌then◌else◌}
use Rattle.rv32_machine.specs.declared.memory.Right.TheVariants.{Read, Write}
use Rattle.rv32_machine.specs.declared.memory.Access.TheVariants.{At}
use Rattle.rv32_machine.specs.Memory.{Stretch, end_of, access, bytes_at, bytes_of, stored_at, stored_to}
use Rattle.rv32_machine.specs.Arithmetic.{plus}
use Rattle.rv32_machine.specs.Steps.{State, Written, set_reg, write_call, write_from, read_call, asked}
use Rattle.rv32_steps.specs.Leads.{at}
use Rattle.rv32_steps.specs.Data.{Bases, Words, word_segment, memory_of, MemoryIsLaidOut, word_index, IsWordIndex, IsWord, word_at, with_word}
use Rattle.rv32_steps.specs.Laws.{BytesAreWritten, ReadCallsAskForBytes, ReadBytesFillWords}
use Rattle.rv32_steps.proofs.Fetch.{in_second, in_third, no_right, elsewhere}
use Rattle.rv32_steps.proofs.Words.{words_length, read_low_byte, put_byte}
use Rattle.rv32_steps.proofs.Access.{bytes_segment}
use Rattle.rv32_steps.proofs.Straight.{in_heap, in_stack, heap_end, code_end, still_apart}
use Rattle.rv32_steps.proofs.Calls.{dispatch}

module _ (c : Stretch) (b : Bases) (rest : List Stretch) (w : Words) (ok : MemoryIsLaidOut c b w)
  where
    -- the segment and the offset of a word: those of the heap, or those of the stack
    pub record Stands (a : ℕ) : Type 0 where
      pub segment : ℕ
      pub offset : ℕ
      pub reads : access Read (memory_of c b w rest) a 1 ≡ At segment offset
      pub writes : access Write (memory_of c b w rest) a 1 ≡ At segment offset
      pub byte : bytes_at (memory_of c b w rest) segment offset 1 ≡ word_at b w a % 256 ∷ []
      pub store : (byte : ℕ) → word_at b w a ≡ 0 → byte < 256
          → stored_at (memory_of c b w rest) segment offset (bytes_of 1 byte) ≡ memory_of c b
          (with_word b w a byte) rest

    by_heap : (a : ℕ) → IsWordIndex b.heap w.heap a → Stands a
    by_heap a is =
        let k = word_index b.heap a in
        let s = word_segment b.heap w.heap in
        let others = word_segment b.stack w.stack ∷ rest in
        let place = is.0 in
        let lt = is.1 in
        let low = ok.code_below in
        let fits : a + 1 ≤ end_of s = omega (arith, words_length w.heap) in
        let off : a - b.heap ≡ 4 * k = omega arith in
        let here : nat_lt a b.stack ≡ true = in_heap c b w a ok is in
        let choice = λ (t : Bool). if t then get_or w.heap k 0
        else get_or w.stack (word_index b.stack a) 0 in
        record {
          segment = 1;
          offset = 4 * k;
          reads = in_second Read c s others a 1 (elsewhere Read c a (omega arith)) refl (omega arith)
              fits (omega arith) ∙ ap (At 1) off;
          writes = in_second Write c s others a 1 (no_right Write c a ok.fixed) refl (omega arith)
              fits (omega arith) ∙ ap (At 1) off;
          byte = read_low_byte w.heap k lt ∙ ap (λ t. choice t % 256 ∷ []) (sym here);
          store = λ byte none small.
              let zero_word : get_or w.heap k 0 ≡ 0 = ap choice (sym here) ∙ none in
              let in_the_heap : Words = record { heap = set w.heap k byte; stack = w.stack } in
              let in_the_stack : Words = record
              { heap = w.heap; stack = set w.stack (word_index b.stack a) byte } in
              ap (λ bytes. c ∷ bytes_segment b.heap bytes ∷ others)
              (put_byte w.heap k byte lt zero_word small)
              ∙ ap (λ t. memory_of c b (if t then in_the_heap else in_the_stack) rest) (sym here);
        }

    by_stack : (a : ℕ) → IsWordIndex b.stack w.stack a → Stands a
    by_stack a is =
        let k = word_index b.stack a in
        let h = word_segment b.heap w.heap in
        let s = word_segment b.stack w.stack in
        let place = is.0 in
        let lt = is.1 in
        let low = code_end c b w ok in
        let mid = heap_end c b w ok in
        let fits : a + 1 ≤ end_of s = omega (arith, words_length w.stack) in
        let off : a - b.stack ≡ 4 * k = omega arith in
        let here : nat_lt a b.stack ≡ false = in_stack b w a is in
        let choice = λ (t : Bool). if t then get_or w.heap (word_index b.heap a) 0
        else get_or w.stack k 0 in
        record {
          segment = 2;
          offset = 4 * k;
          reads = in_third Read c h s rest a 1 (elsewhere Read c a (omega arith))
              (elsewhere Read h a (omega arith)) refl (omega arith) fits (omega arith) ∙ ap (At 2)
              off;
          writes = in_third Write c h s rest a 1 (no_right Write c a ok.fixed)
              (elsewhere Write h a (omega arith)) refl (omega arith) fits (omega arith) ∙ ap (At 2)
              off;
          byte = read_low_byte w.stack k lt ∙ ap (λ t. choice t % 256 ∷ []) (sym here);
          store = λ byte none small.
              let zero_word : get_or w.stack k 0 ≡ 0 = ap choice (sym here) ∙ none in
              let in_the_heap : Words = record
              { heap = set w.heap (word_index b.heap a) byte; stack = w.stack } in
              let in_the_stack : Words = record { heap = w.heap; stack = set w.stack k byte } in
              ap (λ bytes. c ∷ h ∷ bytes_segment b.stack bytes ∷ rest)
              (put_byte w.stack k byte lt zero_word small)
              ∙ ap (λ t. memory_of c b (if t then in_the_heap else in_the_stack) rest) (sym here);
        }

    pub word_stands : (a : ℕ) → IsWord b w a → Stands a
    word_stands a is = elim is [ inl h ↦ by_heap a h | inr h ↦ by_stack a h ]

pub bytes_are_written : BytesAreWritten
unfolding dispatch
bytes_are_written c b rest regs pc w a ok is r =
    let m = memory_of c b w rest in
    let s : State = at regs pc m in
    let there = word_stands c b rest w ok a is in
    ap (λ x. dispatch s x (regs 10) (regs 11) (regs 12)) r.number_is
    ∙ ap (λ x. write_call s x (regs 11) (regs 12)) r.file_is
    ∙ ap (λ x. write_call s 1 x (regs 12)) r.address_is
    ∙ ap (λ x. write_call s 1 a x) r.len_is
    ∙ ap (write_from s a 1) there.reads
    ∙ ap (λ bytes. Written a 1 bytes (at (set_reg regs 10 1) (plus pc 4) m)) there.byte

pub bytes_are_asked : ReadCallsAskForBytes
unfolding dispatch
bytes_are_asked c b rest regs pc w a ok is r =
    let s : State = at regs pc (memory_of c b w rest) in
    ap (λ x. dispatch s x (regs 10) (regs 11) (regs 12)) r.number_is
    ∙ ap (λ x. read_call s x (regs 11) (regs 12)) r.file_is
    ∙ ap (λ x. read_call s 0 x (regs 12)) r.address_is
    ∙ ap (λ x. read_call s 0 a x) r.len_is
    ∙ ap (asked a) (word_stands c b rest w ok a is).writes

pub bytes_are_taken : ReadBytesFillWords
bytes_are_taken c b rest regs pc w a byte ok is none small address =
    let m = memory_of c b w rest in
    let there = word_stands c b rest w ok a is in (
      ap (λ x. at (set_reg regs 10 1) (plus pc 4)
          (stored_to m (bytes_of 1 byte) (access Write m x 1))) address
          ∙ ap (λ x. at (set_reg regs 10 1) (plus pc 4) (stored_to m (bytes_of 1 byte) x))
          there.writes
          ∙ ap (λ x. at (set_reg regs 10 1) (plus pc 4) x) (there.store byte none small),
      still_apart c b rest w a byte ok (omega arith),
    )
