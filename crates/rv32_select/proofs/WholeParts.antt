-- The items of procedures and of a whole program: the labels that stand there, where the items go,
-- and how many words they take.
use Rattle.std.proofs.Common.{◌≡◌, ℕ, suc, ◌+◌, ◌-◌, ◌*◌, ◌<◌, ◌≤◌, Bool, true, false, List, [], ◌∷◌, ◌++◌, length, Some, None, Option, inl, refl, sym, ap, ◌∙◌, subst, arith, append_assoc}
use Rattle.std.specs.Prelude.{slice_get, nat_eq, if◌then◌else◌}
use Rattle.std.proofs.lemmas.List.{length-map}
use Rattle.std.proofs.lemmas.Bool.Decides.{nat_tests}
use Rattle.rv32_isa.specs.declared.instr.Instr.{Instr}
use Rattle.parallel_move.specs.declared.Spot.{Spot}
use Rattle.low_code.specs.Tree.{Procedure, Program}
use Rattle.low_code.specs.Formed.{calls_in, variables}
use Rattle.low_code.specs.Size.{code_size, sizes, program_size, calls_from, calls_of, FewTests, AllFewTests, AtMostTwoTests}
use Rattle.register_alloc.specs.Assignment.{Assignment, place_of, words_at}
use Rattle.register_alloc.specs.Fits.{slots_of}
use Rattle.rv32_items.specs.declared.Cond.TheVariants.{Ltu}
use Rattle.rv32_items.specs.declared.Item.{Item}
use Rattle.rv32_items.specs.declared.Item.TheVariants.{Branch, Jump}
use Rattle.rv32_items.specs.Placed.{is_instruction, size_of, times}
use Rattle.rv32_select.specs.declared.source.Continuation.TheVariants.{Returns}
use Rattle.rv32_select.specs.Emit.{plain, is_short, load_constant, add_to, number_moves, result_spots, parameters_code, exit_with, room_items, globals_code, start_items, stop_items, link_put, base_register, base_at_entry, base_at_start}
use Rattle.rv32_select.specs.IsSelected.{heap_end, heap_full, step, stack_full, no_alternative, places, sources, argument_spots_of, EmitsProcedure, EmitsProcedures, start_argument, first_call, IsSelected, is_lasting}
use Rattle.limits.specs.Limits.{heap_start, stack_end}
use Rattle.rv32_select.specs.Writable.{ProcedurePlaced, Writable}
use Rattle.rv32_select.proofs.StaticPieces.{piece_append, number_piece, add_piece, parameters_piece, globals_piece, sent_piece, link_piece, piece_more, base_piece, start_base_piece}
use Rattle.rv32_select.proofs.Flowing.{Goes, goes_both, below, below_more, Counts}
use Rattle.rv32_select.proofs.EmittedLabels.{procedure_up}
use Rattle.rv32_select.proofs.Parts.{Part, code_part, part_append, part_more, jump_part, branch_part, room_part}
use Rattle.rv32_select.proofs.EmittedParts.{Outer, block_part}
use Rattle.rv32_machine.specs.Arithmetic.{negated}
use Rattle.rv32_items.proofs.Counted.{size_append, times_append}

-- ---- the first of some instructions

abbrev IsSome : List Instr → Type 0
IsSome [] = ⊥
IsSome (i ∷ is) = Unit {0}

some_if : (b : Bool) (x y : List Instr) → IsSome x → IsSome y → IsSome (if b then x else y)
some_if true x y h k = h
some_if false x y h k = k

some_append : (x y : List Instr) → IsSome x → IsSome (x ++ y)
some_append [] y h = absurd h
some_append (i ∷ x) y h = tt

some_number : (r n : ℕ) → IsSome (load_constant r n)
some_number r n = some_if (is_short n) _ _ tt tt

some_sum : (r q n : ℕ) → IsSome (add_to r q n)
some_sum r q n = some_if (is_short n) _ _ tt (some_append (load_constant 5 n) _ (some_number 5 n))

first_of_code : (code : List Instr) (rest : List Item) → IsSome code
    → is_instruction (slice_get (plain code ++ rest) 0) ≡ true
first_of_code [] rest h = absurd h
first_of_code (i ∷ code) rest h = refl

module _ (l : Program) (a : Assignment) (cells stack : ℕ) where
  abbrev procs : ℕ
  procs = length l.procs

  abbrev pub Far : ℕ → Type 0
  Far = Outer l a cells stack Returns

  -- ---- procedures

  -- items of the procedures from f on, below g, whose own labels are those from n on, below m
  pub record Procedures (f g n m most : ℕ) (Few : Type 0) (items : List Item) : Type 0 where
    pub counts : (k : ℕ) → times k items + below f k + below n k ≡ below g k + below m k
    pub goes : Goes procs Far items
    pub size : Few → size_of items ≤ most

  entry_part : (Few : Type 0) (framed lasting : Bool) (n words base : ℕ) (params : List Spot)
      → Part procs Far n n (9 + 3 * length params) Few
      (plain (add_to 2 2 (negated (4 * words)) ++ base_at_entry lasting base)
      ++ Branch Ltu 2 (base_register lasting) (stack_full l) ∷ plain
      (link_put framed ++ parameters_code 0 params))
  entry_part Few framed lasting n words base params =
      let first = add_to 2 2 (negated (4 * words)) ++ base_at_entry lasting base in
      let behind = link_put framed ++ parameters_code 0 params in
      part_more procs Far Few n n (5 + (3 + suc (3 * length params))) (9 + 3 * length params)
      (plain first ++ Branch Ltu 2 (base_register lasting) (stack_full l) ∷ plain behind)
      (omega arith)
      (part_append procs Far Few n n n 5 (3 + suc (3 * length params)) (plain first)
      (Branch Ltu 2 (base_register lasting) (stack_full l) ∷ plain behind)
      (code_part procs Far Few n 5 first
      (piece_append 3 2 (add_to 2 2 (negated (4 * words))) (base_at_entry lasting base)
      (add_piece 2 2 (negated (4 * words))) (base_piece lasting base)))
      (part_append procs Far Few n n n 3 (suc (3 * length params))
      (Branch Ltu 2 (base_register lasting) (stack_full l) ∷ []) (plain behind)
      (branch_part procs Far Few n Ltu 2 (base_register lasting) (stack_full l) (inl (omega arith)))
      (code_part procs Far Few n (suc (3 * length params)) behind
      (piece_more (1 + 3 * length params) (suc (3 * length params)) behind (omega arith)
      (piece_append 1 (3 * length params) (link_put framed) (parameters_code 0 params)
      (link_piece framed) (parameters_piece 0 params))))))

  procedure_part : (f n m : ℕ) (q : Procedure) (items : List Item) → f < procs → 3 + procs ≤ n
      → ProcedurePlaced l a q → EmitsProcedure l a cells stack f q n m items
      → Procedures f (suc f) n m
      (64 + 8 * (length q.params + code_size q.body) + 256 * length (calls_in q.body))
      (FewTests q.body) items
  procedure_part f n m q items lt le placed e =
      let words = words_at a f in
      let base = stack_end - stack in
      let params = places a q.params in
      let Few = FewTests q.body in
      let count = length-map q.params (place_of a) in
      let first = add_to 2 2 (negated (4 * words)) ++ base_at_entry (is_lasting a) base in
      let behind = Branch Ltu 2 (base_register (is_lasting a)) (stack_full l) ∷ plain
      (link_put e.framed ++ parameters_code 0 params) in
      let block = block_part l a cells stack words (slots_of (place_of a) (variables q)) e.framed
      q.body (result_spots 10 q.results) Returns n m e.block le placed.body e.body in
      let p = part_append procs Far Few n n m (9 + 3 * length params)
      (8 * code_size q.body + 256 * length (calls_in q.body)) (plain first ++ behind) e.block
      (entry_part Few e.framed (is_lasting a) n words base params) block in
      subst (Procedures f (suc f) n m
      (64 + 8 * (length q.params + code_size q.body) + 256 * length (calls_in q.body)) Few)
      (sym e.is) (record {
        counts = λ k. let c = p.counts k in let b = below_more f k
            (times k ((plain first ++ behind) ++ e.block)) in omega arith;
        goes = (
          (λ h. ap (λ is. is_instruction (slice_get is 0))
              (append_assoc (plain first) behind e.block) ∙ first_of_code first (behind ++ e.block)
              (some_append (add_to 2 2 (negated (4 * words))) (base_at_entry (is_lasting a) base)
              (some_sum 2 2 (negated (4 * words))))),
          p.goes,
        );
        size = λ few. let s = p.size few in omega (arith, count, s);
      })

  procedures_part : (qs : List Procedure) (f n m : ℕ) (items : List Item) → f + length qs ≤ procs
      → 3 + procs ≤ n → ((k : ℕ) (q : Procedure) → slice_get qs k ≡ Some q → ProcedurePlaced l a q)
      → EmitsProcedures l a cells stack f qs n m items
      → Procedures f (f + length qs) n m (64 * length qs + 8 * sizes qs + 256 * calls_from qs)
      (AllFewTests qs) items
  procedures_part [] f n m items lt le placed e = record {
    counts = λ k. let is : items ≡ [] = e.1 in let same : m ≡ n = e.0 in let none
        : times k items ≡ 0 = ap (times k) is in let b : below m k ≡ below n k
        = ap (λ j. below j k) same in let z : below (f + 0) k ≡ below f k
        = ap (λ j. below j k) (omega arith) in omega arith;
    goes = subst (Goes procs Far) (sym e.1) tt;
    size = λ few. let is : size_of items ≡ 0 = ap size_of e.1 in omega arith;
  }
  procedures_part (q ∷ qs) f n m items lt le placed e =
      let k = e.0 in
      let first = e.1 in
      let rest = e.2 in
      let emitted = e.3 in
      let up = procedure_up l a cells stack f q n k first emitted in
      let p = procedure_part f n k q first (omega (arith, lt)) le (placed 0 q refl) emitted in
      let r = procedures_part qs (suc f) k m rest (omega (arith, lt)) (omega (arith, le, up))
      (λ j t h. placed (suc j) t h) e.4 in
      subst (Procedures f (f + length (q ∷ qs)) n m
      (64 * length (q ∷ qs) + 8 * sizes (q ∷ qs) + 256 * calls_from (q ∷ qs))
      (AllFewTests (q ∷ qs))) (sym e.5) (record {
        counts = λ j. let c = p.counts j in let d = r.counts j in let b = times_append j first rest
            in let z : below (suc f + length qs) j ≡ below (f + length (q ∷ qs)) j
            = ap (λ i. below i j) (omega arith) in omega arith;
        goes = goes_both procs Far first rest p.goes r.goes;
        size = λ few. let s = p.size few.0 in let t = r.size few.1 in let b = size_append first rest
            in omega (arith, s, t, b);
      })

  -- ---- start-up and stops

  exit_part : (Few : Type 0) (n code : ℕ) → Part procs Far n n 3 Few (exit_with code)
  exit_part Few n code = record
      { counts = λ k. omega arith; goes = (tt, (tt, (tt, tt))); size = λ f. omega arith }

  few_arguments : (arg : Option ℕ) → length (sources l a (start_argument arg)) ≤ 1
  few_arguments None = omega arith
  few_arguments (Some i) = omega arith

  first_call_part : (Few : Type 0) → l.start < procs
      → Part procs Far 0 0 14 Few (first_call l a (stack_end - stack))
  first_call_part Few lt =
      let to = argument_spots_of l a l.start in
      let from = sources l a (start_argument l.argument) in
      let base = base_at_start (is_lasting a) (stack_end - stack) in
      let sent = sent_piece to from in
      let few = few_arguments l.argument in
      let enough = sent.1.1 in
      part_more procs Far Few 0 0 (sent.0 + 2 + (3 + 3)) 14 (first_call l a (stack_end - stack))
      (omega arith)
      (part_append procs Far Few 0 0 0 (sent.0 + 2) 6 (plain (number_moves to from ++ base))
      (Jump 1 l.start ∷ exit_with 0)
      (code_part procs Far Few 0 (sent.0 + 2) (number_moves to from ++ base)
      (piece_append sent.0 2 (number_moves to from) base sent.1.0
      (start_base_piece (is_lasting a) (stack_end - stack))))
      (part_append procs Far Few 0 0 0 3 3 (Jump 1 l.start ∷ []) (exit_with 0)
      (jump_part procs Far Few 0 1 l.start (inl (omega (arith, lt))) (λ e. lt))
      (exit_part Few 0 0)))

  abbrev start : List Item
  start = start_items stack_end heap_start (heap_end l cells) (step l) (heap_full l) l.globals

  start_part : (Few : Type 0) → Part procs Far 0 0 (12 + 4 * length l.globals) Few start
  start_part Few =
      let two = load_constant 2 stack_end in
      let three = load_constant 3 heap_start in
      let four = load_constant 4 (heap_end l cells) in
      let bytes = step l * length l.globals in
      let tags = globals_code (step l) l.globals in
      part_more procs Far Few 0 0 (6 + (6 + 4 * length l.globals)) (12 + 4 * length l.globals) start
      (omega arith)
      (part_append procs Far Few 0 0 0 6 (6 + 4 * length l.globals) (plain (two ++ (three ++ four)))
      (room_items bytes (heap_full l) ++ plain tags)
      (code_part procs Far Few 0 6 (two ++ (three ++ four))
      (piece_append 2 4 two (three ++ four) (number_piece 2 stack_end)
      (piece_append 2 2 three four (number_piece 3 heap_start)
      (number_piece 4 (heap_end l cells)))))
      (part_append procs Far Few 0 0 0 6 (4 * length l.globals) (room_items bytes (heap_full l))
      (plain tags)
      (room_part procs Far Few 0 bytes (heap_full l) (inl (omega arith)))
      (code_part procs Far Few 0 (4 * length l.globals) tags (globals_piece (step l) l.globals))))

  abbrev pub stops : List Item
  stops = stop_items (no_alternative l)

  pub stops_counts : Counts procs (3 + procs) stops
  stops_counts k =
      let two = if nat_eq (2 + procs) k then suc 0 else 0 in
      let one = if nat_eq (1 + procs) k then suc two else two in
      let a = below_more procs k one in
      let b = below_more (1 + procs) k two in
      let c = below_more (2 + procs) k 0 in
      let d : below (suc procs) k ≡ below (1 + procs) k = ap (λ j. below j k) (omega arith) in
      let e : below (suc (1 + procs)) k ≡ below (2 + procs) k = ap (λ j. below j k) (omega arith) in
      let f : below (suc (2 + procs)) k ≡ below (3 + procs) k = ap (λ j. below j k) (omega arith) in
      let is : times k stops ≡ (if nat_eq procs k then suc one else one) = refl in
      omega arith

  stops_part : (Few : Type 0) → Part procs Far procs (3 + procs) 9 Few stops
  stops_part Few = record {
    counts = stops_counts;
    goes = (
      (λ h. absurd (omega arith)),
      (
        tt,
        (
          tt,
          (
            tt,
            (
              (λ h. absurd (omega arith)),
              (tt, (tt, (tt, ((λ h. absurd (omega arith)), (tt, (tt, (tt, tt))))))),
            ),
          ),
        ),
      ),
    );
    size = λ f. omega arith;
  }

  -- ---- all items

  -- items before the stops, the labels that stand, where the items go, and how many words they take
  pub record Whole (items : List Item) : Type 0 where
    pub front : List Item
    pub last : ℕ
    pub is : items ≡ front ++ stops
    pub up : 3 + procs ≤ last
    pub counts : (k : ℕ) → times k items ≡ below last k
    pub goes : Goes procs Far items
    pub first : is_instruction (slice_get items 0) ≡ true
    pub size : AtMostTwoTests l → size_of items ≤ 64 * (procs + length l.globals + 1) + 8 *
        program_size l + 256 * calls_of l

  procedures_up : (qs : List Procedure) (f n m : ℕ) (items : List Item)
      → EmitsProcedures l a cells stack f qs n m items → n ≤ m
  procedures_up [] f n m items e = let same = e.0 in omega arith
  procedures_up (q ∷ qs) f n m items e =
      let up = procedure_up l a cells stack f q n e.0 e.1 e.3 in
      let more = procedures_up qs (suc f) e.0 m e.2 e.4 in
      omega arith

  first_here : (rest : List Item) → is_instruction (slice_get (start ++ rest) 0) ≡ true
  first_here rest = refl

  pub whole : (items : List Item) → Writable l a → IsSelected l a cells stack items → Whole items
  whole items w s =
      let before = start ++ first_call l a (stack_end - stack) in
      let Few = AtMostTwoTests l in
      let p = part_append procs Far Few 0 0 0 (12 + 4 * length l.globals) 14 start
      (first_call l a (stack_end - stack)) (start_part Few) (first_call_part Few w.start) in
      let r = procedures_part l.procs 0 (3 + procs) s.last s.procedures (omega arith) (omega arith)
      w.procedures s.each in
      let t = stops_part Few in
      let up = procedures_up l.procs 0 (3 + procs) s.last s.procedures s.each in
      let is : items ≡ before ++ (s.procedures ++ stops) = s.is in
      record {
        front = before ++ s.procedures;
        last = s.last;
        is = is ∙ sym (append_assoc before s.procedures stops);
        up = up;
        counts = λ k.
            let c = p.counts k in
            let d = r.counts k in
            let e = t.counts k in
            let x = times_append k before (s.procedures ++ stops) in
            let y = times_append k s.procedures stops in
            let z : below (0 + procs) k ≡ below procs k = ap (λ j. below j k) (omega arith) in
            let none : below 0 k ≡ 0 = grind (arith, nat_tests) in
            let same = ap (times k) is in
            omega arith;
        goes = subst (Goes procs Far) (sym is)
            (goes_both procs Far before (s.procedures ++ stops) p.goes
            (goes_both procs Far s.procedures stops r.goes t.goes));
        first = subst (λ is. is_instruction (slice_get is 0) ≡ true)
            (sym (is ∙ append_assoc start (first_call l a (stack_end - stack))
            (s.procedures ++ stops)))
            (first_here (first_call l a (stack_end - stack) ++ (s.procedures ++ stops)));
        size = λ few.
            let c = p.size few in
            let d = r.size few in
            let e = t.size few in
            let x = size_append before (s.procedures ++ stops) in
            let y = size_append s.procedures stops in
            let same = ap size_of is in
            omega arith;
      }
