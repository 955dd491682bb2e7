-- The items of a block: its labels, where they go, and how many words they take.
use Rattle.std.proofs.Common.{◌≡◌, ℕ, suc, ◌+◌, ◌*◌, ◌<◌, ◌≤◌, List, [], ◌∷◌, ◌++◌, length, ◌⊎◌, inl, inr, refl, sym, subst, arith, length-append, append_assoc, Bool, true, false, None, ap}
use Rattle.std.specs.Prelude.{pos}
use Rattle.std.proofs.lemmas.List.{length-map}
use Rattle.rv32_isa.specs.declared.instr.Instr.{Instr}
use Rattle.rv32_isa.specs.declared.instr.Instr.TheVariants.{Jalr}
use Rattle.parallel_move.specs.declared.Spot.{Spot}
use Rattle.parallel_move.specs.declared.Move.{Move}
use Rattle.low_code.specs.declared.program.Operand.{Operand}
use Rattle.low_code.specs.declared.program.LowTest.{LowTest}
use Rattle.low_code.specs.declared.program.PrimOp.{PrimOp}
use Rattle.low_code.specs.Tree.{Code, set, prim, load, save, take, put, get, call, join, give, tail, choose, fail, Arms, otherwise, arm, Program}
use Rattle.low_code.specs.Formed.{calls_in, arms_calls}
use Rattle.low_code.specs.Size.{code_size, arms_size, FewTests, ArmsFewTests}
use Rattle.register_alloc.specs.Assignment.{Assignment, place_of, saves_at}
use Rattle.rv32_items.specs.declared.Cond.TheVariants.{Eq, Ne}
use Rattle.rv32_items.specs.declared.Item.{Item}
use Rattle.rv32_items.specs.declared.Item.TheVariants.{Label, Plain, Jump}
use Rattle.rv32_select.specs.declared.source.Source.{Source}
use Rattle.rv32_select.specs.declared.source.Continuation.{Continuation}
use Rattle.rv32_select.specs.declared.source.Continuation.TheVariants.{Returns, Follows, Jumps}
use Rattle.rv32_select.specs.Emit.{put_link, take_link, plain, moves_code, spot_moves, number_moves, take_items, leave_code, save_moves, restore_moves, prim_code, branch_items, test_items, match_items}
use Rattle.rv32_select.specs.Decides.{decides, tested, condition, other_condition}
use Rattle.rv32_select.specs.IsSelected.{Round, IsOrder, moves_between, heap_end, heap_full, step, no_alternative, source, sources, places, argument_spots_of, result_spots_of, continued_by_jump, way_out, tests_items, call_items, first_arm_goes_last, Then, Emits, EmitsArms, EmitsLast, EmitsDecided, EmitsDecidedFirst, EmitsDecidedLast, EmitsEach}
use Rattle.rv32_select.specs.Writable.{Placed, ArmsPlaced}
use Rattle.rv32_select.proofs.StaticPieces.{Piece, piece_append, piece_more, set_piece, prim_piece, load_word_piece, save_word_piece, put_piece, get_piece, piece_one, leave_piece, save_piece, restore_piece}
use Rattle.rv32_select.proofs.EmittedLabels.{whichever, emits_up, arms_up, each_up}
use Rattle.rv32_select.proofs.Parts.{sent_code, between_code, Part, inside_part, code_part, part_append, part_more, part_then, part_under, jump_part, take_part, compare_part, two_words_part, closed_part, tested_part}
use Rattle.rv32_items.specs.Placed.{size_of}
use Rattle.rv32_select.specs.Halves.{SearchedArm, Halves}
use Rattle.rv32_select.proofs.HalvesFacts.{AllOf, all_map, IsUp, StartsFrom, halves_up, halves_from}
use Rattle.rv32_select.proofs.HalvesParts.{sizes, goes_wider, SoughtPart, halves_part}
use Rattle.rv32_select.proofs.Flowing.{Goes, Counts}

-- the label behind a block
abbrev pub IsWay : Continuation → ℕ → Type 0
IsWay Returns l = ⊥
IsWay (Follows n) l = n ≡ l
IsWay (Jumps n) l = n ≡ l

module _ (l : Program) (a : Assignment) (cells stack : ℕ) where
  abbrev procs : ℕ
  procs = length l.procs

  -- the labels to which a block goes that stand elsewhere: those of procedures and stops, and the
  -- one behind it
  abbrev pub Outer : Continuation → ℕ → Type 0
  Outer way k = (k < 3 + procs) ⊎ IsWay way k

  same_way : (way : Continuation) (k : ℕ) → Outer (continued_by_jump way) k → Outer way k
  same_way Returns k h = h
  same_way (Follows n) k h = h
  same_way (Jumps n) k h = h

  module _ (words saved : ℕ) (framed : Bool) where
    -- the most words that a block's items take
    abbrev most : Code → ℕ
    most c = 8 * code_size c + 256 * length (calls_in c)

    abbrev arms_most : Arms → ℕ
    arms_most as' = 8 * arms_size as' + 256 * length (arms_calls as')

    abbrev Block : (way : Continuation) → Code → (n m : ℕ) → List Item → Type 0
    Block way c n m items = Part procs (Outer way) n m (most c) (FewTests c) items

    abbrev ArmsBlock : (way : Continuation) → Arms → (n m : ℕ) → List Item → Type 0
    ArmsBlock way as' n m items = Part procs (Outer way) n m (arms_most as') (ArmsFewTests as')
        items

    sources_length : (os : List Operand) → length (sources l a os) ≡ length os
    sources_length os = length-map os (source l a)

    places_length : (xs : List ℕ) → length (places a xs) ≡ length xs
    places_length xs = length-map xs (place_of a)

    -- a piece that needs x1, and the block behind it
    rounded_part : (way : Continuation) (here : Bool) (n m j more bound : ℕ) (Few : Type 0)
        (piece items : List Item) (Rest : List Item → Type 0) → j + more + 2 ≤ bound
        → Part procs (Outer way) n n j Few piece → Round here piece Rest items
        → ((rest : List Item) → Rest rest → Part procs (Outer way) n m more Few rest)
        → Part procs (Outer way) n m bound Few items
    rounded_part way true n m j more bound Few piece items Rest le p h behind
        = part_then procs (Outer way) Few n n m j more bound piece h.0 items h.1 (omega arith) p
        (behind h.0 h.2)
    rounded_part way false n m j more bound Few piece items Rest le p h behind =
        let put' = code_part procs (Outer way) Few n 1 put_link (piece_one _ tt) in
        let take' = code_part procs (Outer way) Few n 1 take_link (piece_one _ tt) in
        let last = part_then procs (Outer way) Few n n m 1 more (1 + more) (plain take_link) h.2.2.0
        h.2.0 h.2.2.1 (omega arith) take' (behind h.2.2.0 h.2.2.2) in
        let middle = part_then procs (Outer way) Few n n m j (1 + more) (j + (1 + more)) piece h.2.0
        h.0 h.2.1 (omega arith) p last in
        part_then procs (Outer way) Few n n m 1 (j + (1 + more)) bound (plain put_link) h.0 items
        h.1 (omega arith) put' middle

    call_part : (way : Continuation) (Few : Type 0) (f site : ℕ) (os : List Operand) (xs : List ℕ)
        (arguments results : List Move) (n : ℕ) → f < procs → length (saves_at a site) ≤ 24
        → IsOrder arguments (spot_moves (argument_spots_of l a f) (sources l a os))
        → IsOrder results (moves_between (places a xs) (result_spots_of l f))
        → Part procs (Outer way) n n (147 + 6 * length os + 6 * length xs) Few
        (call_items l a saved f os (saves_at a site) arguments results)
    call_part way Few f site os xs arguments results n lt few order results_order =
        let rs = saves_at a site in
        let to = argument_spots_of l a f in
        let from = sources l a os in
        let e1 = sources_length os in
        let e2 = places_length xs in
        let before = moves_code (save_moves saved rs)
        ++ (moves_code arguments ++ number_moves to from) in
        let behind = moves_code results ++ moves_code (restore_moves saved rs) in
        let p = piece_append (3 * length rs) (6 * length from) (moves_code (save_moves saved rs))
        (moves_code arguments ++ number_moves to from) (save_piece saved rs)
        (sent_code arguments to from order) in
        let q = piece_append (6 * length (places a xs)) (3 * length rs) (moves_code results)
        (moves_code (restore_moves saved rs))
        (between_code results (places a xs) (result_spots_of l f) results_order)
        (restore_piece saved rs) in
        part_more procs (Outer way) Few n n
        (3 * length rs + 6 * length from + (3 + (6 * length (places a xs) + 3 * length rs)))
        (147 + 6 * length os + 6 * length xs) _ (omega (arith, few, e1, e2))
        (part_append procs (Outer way) Few n n n (3 * length rs + 6 * length from)
        (3 + (6 * length (places a xs) + 3 * length rs)) (plain before)
        (Jump 1 f ∷ plain behind)
        (code_part procs (Outer way) Few n _ before p)
        (part_append procs (Outer way) Few n n n 3 (6 * length (places a xs) + 3 * length rs)
        (Jump 1 f ∷ []) (plain behind)
        (jump_part procs (Outer way) Few n 1 f (inl (omega (arith, lt))) (λ e. lt))
        (code_part procs (Outer way) Few n _ behind q)))

    -- a return, or the way to the label behind
    out_part : (way : Continuation) (Few : Type 0) (n : ℕ)
        → Part procs (Outer way) n n 5 Few (way_out framed words way)
    out_part Returns Few n =
        let p = leave_piece framed words in
        let q = code_part procs (Outer Returns) Few n 4 (leave_code framed words) p in
        part_append procs (Outer Returns) Few n n n 4 1 (plain (leave_code framed words))
        (Plain (Jalr 0 1 (pos 0)) ∷ []) q
        (record { counts = λ k. omega arith; goes = (refl, tt); size = λ f. omega arith })
    out_part (Follows k) Few n = record
        { counts = λ j. omega arith; goes = tt; size = λ f. omega arith }
    out_part (Jumps k) Few n =
        part_more procs (Outer (Jumps k)) Few n n 3 5 _ (omega arith)
        (jump_part procs (Outer (Jumps k)) Few n 0 k (inr refl) (λ e. absurd (cc)))

    give_part : (to : List Spot) (way : Continuation) (Few : Type 0) (os : List Operand)
        (steps : List Move) (n : ℕ) → IsOrder steps (spot_moves to (sources l a os))
        → Part procs (Outer way) n n (6 * length os + 5) Few
        (plain (moves_code steps ++ number_moves to (sources l a os))
        ++ way_out framed words way)
    give_part to way Few os steps n order =
        let from = sources l a os in
        let e = sources_length os in
        let p = piece_more (6 * length from) (6 * length os) _ (omega (arith, e))
        (sent_code steps to from order) in
        part_append procs (Outer way) Few n n n (6 * length os) 5
        (plain (moves_code steps ++ number_moves to from)) (way_out framed words way)
        (code_part procs (Outer way) Few n _ _ p) (out_part way Few n)

    tail_part : (way : Continuation) (Few : Type 0) (f : ℕ) (os : List Operand) (steps : List Move)
        (n : ℕ) → f < procs → IsOrder steps (spot_moves (argument_spots_of l a f) (sources l a os))
        → Part procs (Outer way) n n (6 * length os + 7) Few
        (plain (moves_code steps ++
        (number_moves (argument_spots_of l a f) (sources l a os) ++ leave_code framed words))
        ++ Jump 0 f ∷ [])
    tail_part way Few f os steps n lt order =
        let to = argument_spots_of l a f in
        let from = sources l a os in
        let e = sources_length os in
        let sent = sent_code steps to from order in
        let p = piece_append (6 * length from) 4 (moves_code steps ++ number_moves to from)
        (leave_code framed words) sent (leave_piece framed words) in
        let same : (moves_code steps ++ number_moves to from)
        ++ leave_code framed words ≡ moves_code steps
        ++ (number_moves to from ++ leave_code framed words)
        = append_assoc (moves_code steps) (number_moves to from) (leave_code framed words) in
        let q = piece_more (6 * length from + 4) (6 * length os + 4) _ (omega (arith, e))
        (subst (Piece (6 * length from + 4)) same p) in
        part_more procs (Outer way) Few n n (6 * length os + 4 + 3) (6 * length os + 7) _
        (omega arith)
        (part_append procs (Outer way) Few n n n (6 * length os + 4) 3
        (plain (moves_code steps ++ (number_moves to from ++ leave_code framed words)))
        (Jump 0 f ∷ [])
        (code_part procs (Outer way) Few n _ _ q)
        (jump_part procs (Outer way) Few n 0 f (inl (omega (arith, lt))) (λ e. absurd (cc))))

    tests_part : (Few : Type 0) (n next : ℕ) (ts : List LowTest)
        → Part procs (λ k. next ≡ k) n n (8 * length ts) Few (tests_items l a next ts)
    tests_part Few n next [] = record
        { counts = λ k. omega arith; goes = tt; size = λ f. omega arith }
    tests_part Few n next (t ∷ ts) =
        part_more procs (λ k. next ≡ k) Few n n (8 + 8 * length ts) (8 * length (t ∷ ts)) _
        (omega arith)
        (part_append procs (λ k. next ≡ k) Few n n n 8 (8 * length ts)
        (test_items next (source l a t.left) t.right) (tests_items l a next ts)
        (compare_part procs (λ k. next ≡ k) Few Ne n next (source l a t.left) t.right refl)
        (tests_part Few n next ts))

    -- a statement's code, and the block behind it
    coded : (way : Continuation) (n m j more bound : ℕ) (Few : Type 0) (code : List Instr)
        (rest items : List Item) → j + more ≤ bound → Piece j code → items ≡ plain code ++ rest
        → Part procs (Outer way) n m more Few rest
        → Part procs (Outer way) n m bound Few items
    coded way n m j more bound Few code rest items le p e q =
        part_then procs (Outer way) Few n n m j more bound (plain code) rest items e le
        (code_part procs (Outer way) Few n j code p) q

    -- the end of a block
    ended : (way : Continuation) (n m k bound : ℕ) (Few : Type 0) (piece items : List Item) → m ≡ n
        → items ≡ piece → k ≤ bound → Part procs (Outer way) n n k Few piece
        → Part procs (Outer way) n m bound Few items
    ended way n m k bound Few piece items e is le p =
        subst (λ j. Part procs (Outer way) n j bound Few items) (sym e)
        (subst (Part procs (Outer way) n n bound Few) (sym is)
        (part_more procs (Outer way) Few n n k bound piece le p))

    -- a joined block with its label, and the block behind it
    joined : (way : Continuation) (xs : List ℕ) (b c : Code) (n k m : ℕ)
        (block rest items : List Item) → 3 + procs ≤ n → Block (Follows n) b (suc n) k block
        → Block way c k m rest
        → items ≡ (block ++ Label n ∷ []) ++ rest → Block way (join xs b c) n m items
    joined way xs b c n k m block rest items le p q e =
        let Few = FewTests (join xs b c) in
        let both = length-append (calls_in b) (calls_in c) in
        let first = closed_part procs (Outer way) (FewTests b) (Outer (Follows n)) n k (most b)
        block (omega (arith, le)) near p in
        part_then procs (Outer way) Few n k m (most b) (most c) (most (join xs b c))
        (block ++ Label n ∷ []) rest items e (omega (arith, both))
        (part_under procs (Outer way) (FewTests b) Few n k (most b) (block ++ Label n ∷ [])
        (λ f. f.0) first)
        (part_under procs (Outer way) (FewTests c) Few k m (most c) rest (λ f. f.1) q)
      where
        near : (j : ℕ) → Outer (Follows n) j → (n ≡ j) ⊎ Outer way j
        near j (inl lt) = inr (inl lt)
        near j (inr h) = inl h

    -- an arm, and the arms behind it
    chosen : (way : Continuation) (ts : List LowTest) (c : Code) (as' : Arms) (n k m : ℕ)
        (block rest items : List Item) → 3 + procs ≤ n
        → Block (continued_by_jump way) c (suc n) k block → ArmsBlock way as' k m rest
        → items ≡ (tests_items l a n ts ++ (block ++ Label n ∷ [])) ++ rest
        → ArmsBlock way (arm ts c as') n m items
    chosen way ts c as' n k m block rest items le p q e =
        let Few = ArmsFewTests (arm ts c as') in
        let le' : procs ≤ n = omega (arith, le) in
        let tests = tests_items l a n ts in
        let both = length-append (calls_in c) (arms_calls as') in
        let closed = closed_part procs (Outer way) (FewTests c) (Outer (continued_by_jump way)) n k
        (most c) block le' (λ j h. inr (same_way way j h)) p in
        let t = tests_part Few n n ts in
        let two : Part procs (λ j. n ≡ j) n n 16 Few tests
        = record {
          counts = t.counts;
          goes = t.goes;
          size = λ f. let few : length ts ≤ 2 = f.0
              in let s = t.size f in omega (arith, few, s);
        } in
        part_then procs (Outer way) Few n k m (16 + most c) (arms_most as')
        (arms_most (arm ts c as')) (tests ++ (block ++ Label n ∷ [])) rest items e
        (omega (arith, both))
        (tested_part procs (Outer way) Few n k 16 (most c) tests block le' two
        (inside_part procs (suc n) k block (omega (arith, le)) p.counts)
        (part_under procs (Outer way) (FewTests c) Few n k (most c) (block ++ Label n ∷ [])
        (λ f. f.1) closed))
        (part_under procs (Outer way) (ArmsFewTests as') Few k m (arms_most as') rest (λ f. f.2) q)

    -- arms before which a test leaves for a block behind them
    turned : (way : Continuation) (t : LowTest) (c : Code) (as' : Arms) (n k m : ℕ)
        (others rest items : List Item) → 3 + procs ≤ n
        → ArmsBlock (continued_by_jump way) as' (suc n) k others → Block way c k m rest
        → items ≡ (match_items n (source l a t.left) t.right ++ (others ++ Label n ∷ [])) ++ rest
        → ArmsBlock way (arm (t ∷ []) c as') n m items
    turned way t c as' n k m others rest items le p q e =
        let Few = ArmsFewTests (arm (t ∷ []) c as') in
        let le' : procs ≤ n = omega (arith, le) in
        let test = match_items n (source l a t.left) t.right in
        let both = length-append (calls_in c) (arms_calls as') in
        let closed = closed_part procs (Outer way) (ArmsFewTests as')
        (Outer (continued_by_jump way)) n k (arms_most as') others le'
        (λ j h. inr (same_way way j h)) p in
        let one = compare_part procs (λ j. n ≡ j) Few Eq n n (source l a t.left) t.right refl in
        part_then procs (Outer way) Few n k m (8 + arms_most as') (most c)
        (arms_most (arm (t ∷ []) c as')) (test ++ (others ++ Label n ∷ [])) rest items e
        (omega (arith, both))
        (tested_part procs (Outer way) Few n k 8 (arms_most as') test others le' one
        (inside_part procs (suc n) k others (omega (arith, le)) p.counts)
        (part_under procs (Outer way) (ArmsFewTests as') Few n k (arms_most as')
        (others ++ Label n ∷ []) (λ f. f.2) closed))
        (part_under procs (Outer way) (FewTests c) Few k m (most c) rest (λ f. f.1) q)

    -- a branch on two words before a block, and what stands behind that
    decided : (way : Continuation) (Few Inner Behind : Type 0) (n k m most most' : ℕ)
        (test block rest items : List Item) → 3 + procs ≤ n → (Few → Inner) → (Few → Behind)
        → Part procs (λ j. n ≡ j) n n 9 Few test
        → Part procs (Outer (continued_by_jump way)) (suc n) k most Inner block
        → Part procs (Outer way) k m most' Behind rest
        → items ≡ (test ++ (block ++ Label n ∷ [])) ++ rest
        → Part procs (Outer way) n m (9 + most + most') Few items
    decided way Few Inner Behind n k m most most' test block rest items le in_few behind_few t p q e
        =
        let le' : procs ≤ n = omega (arith, le) in
        let closed = closed_part procs (Outer way) Inner (Outer (continued_by_jump way)) n k most
        block le' (λ j h. inr (same_way way j h)) p in
        part_then procs (Outer way) Few n k m (9 + most) most' (9 + most + most')
        (test ++ (block ++ Label n ∷ [])) rest items e (omega arith)
        (tested_part procs (Outer way) Few n k 9 most test block le' t
        (inside_part procs (suc n) k block (omega (arith, le)) p.counts)
        (part_under procs (Outer way) Inner Few n k most (block ++ Label n ∷ []) in_few closed))
        (part_under procs (Outer way) Behind Few k m most' rest behind_few q)

    -- arms with one test each, by the blocks that stand for them; `miss` is the label where no
    -- number is the word
    record EachPart (miss : ℕ) (way : Continuation) (as' : Arms) (all : List SearchedArm) (k m : ℕ)
        (rest : List Item) : Type 0 where
      pub sought : AllOf (SoughtPart procs (λ j. (miss ≡ j) ⊎ Outer way j)) all
      pub counts : Counts k m rest
      pub goes : Goes procs (Outer way) rest
      pub size : ArmsFewTests as' → 16 * length all + sizes all + size_of rest ≤ arms_most as'

    last_each : (miss : ℕ) (way : Continuation) (c : Code) (all : List SearchedArm) (k m : ℕ)
        (rest : List Item) → all ≡ [] → Block way c k m rest
        → EachPart miss way (otherwise c) all k m rest
    last_each miss way c all k m rest e p = record {
      sought = subst (AllOf (SoughtPart procs (λ j. (miss ≡ j) ⊎ Outer way j))) (sym e) tt;
      counts = p.counts;
      goes = p.goes;
      size = λ f. let s = p.size f in let count = ap length e in let words = ap sizes e
          in omega (arith, s, count, words);
    }

    one_each : (miss : ℕ) (way : Continuation) (ts : List LowTest) (c : Code) (as' : Arms)
        (s : SearchedArm) (all others : List SearchedArm) (k m : ℕ) (rest : List Item)
        → all ≡ s ∷ others → Block (continued_by_jump way) c s.first s.next s.block
        → EachPart miss way as' others k m rest → EachPart miss way (arm ts c as') all k m rest
    one_each miss way ts c as' s all others k m rest e p more = record {
      sought = subst (AllOf (SoughtPart procs (λ j. (miss ≡ j) ⊎ Outer way j))) (sym e) (
        (
          p.counts,
          goes_wider procs (λ j. (miss ≡ j) ⊎ Outer way j)
              (Outer (continued_by_jump way)) (λ j h. inr (same_way way j h)) s.block p.goes,
        ),
        more.sought,
      );
      counts = more.counts;
      goes = more.goes;
      size = λ f.
          let one = p.size f.1 in
          let rest' = more.size f.2 in
          let both = length-append (calls_in c) (arms_calls as') in
          let count = ap length e in
          let words = ap sizes e in
          omega (arith, one, rest', both, count, words);
    }

    by_halves : (way : Continuation) (word : Operand) (as' : Arms) (all : List SearchedArm)
        (n k m : ℕ) (search rest items : List Item) → 3 + procs ≤ n → AllOf IsUp all
        → Halves n (source l a word) 0 None all (suc n) k search → EachPart n way as' all k m rest
        → items ≡ (search ++ Label n ∷ []) ++ rest → ArmsBlock way as' n m items
    by_halves way word as' all n k m search rest items le ups h each e =
        let le' : procs ≤ n = omega (arith, le) in
        let found = halves_part procs (λ j. (n ≡ j) ⊎ Outer way j) n (source l a word) (inl refl) 0
        None all (suc n) k search h (omega (arith, le)) ups each.sought in
        let few = found.1.0 in
        let closed = closed_part procs (Outer way) (Unit {0}) (λ j. (n ≡ j) ⊎ Outer way j) n k
        found.0 search le' (λ j z. z) found.1.1 in
        let last : Part procs (Outer way) k m (size_of rest) (Unit {0}) rest
        = record { counts = each.counts; goes = each.goes; size = λ f. omega arith } in
        let whole = part_then procs (Outer way) (Unit {0}) n k m found.0 (size_of rest)
        (found.0 + size_of rest) (search ++ Label n ∷ []) rest items e (omega arith) closed last
        in
        record {
          counts = whole.counts;
          goes = whole.goes;
          size = λ f. let s = whole.size tt
              in let bound = each.size f in omega (arith, s, few, bound);
        }

    mutual
      pub block_part : (c : Code) (to : List Spot) (way : Continuation) (n m : ℕ)
          (items : List Item) → 3 + procs ≤ n → Placed l a c
          → Emits l a cells stack words saved framed to way c n m items → Block way c n m items
      block_part (set x b c) to way n m items le p h =
          coded way n m 6 (most c) (most (set x b c)) (FewTests c) _ h.0 items (omega arith)
          (set_piece (place_of a x) (source l a b)) h.1 (block_part c to way n m h.0 le p.2 h.2)
      block_part (prim f x b d c) to way n m items le p h =
          whichever
          (EmitsDecided l a cells stack words saved framed f (source l a b) (source l a d) to
          way c n m items)
          (Then (plain (prim_code f (place_of a x) (source l a b) (source l a d)))
          (Emits l a cells stack words saved framed to way c n m) items) (decides f x c)
          (λ z. part_more procs (Outer way) (FewTests c) n m (9 + most c) (most (prim f x b d c))
          items (omega arith)
          (decided_part c f (source l a b) (source l a d) to way n m items le p.3 z))
          (λ z. coded way n m 11 (most c) (most (prim f x b d c)) (FewTests c) _ z.0 items
          (omega arith) (prim_piece f (place_of a x) (source l a b) (source l a d)) z.1
          (block_part c to way n m z.0 le p.3 z.2))
          h
      block_part (load x b k c) to way n m items le p h =
          coded way n m 7 (most c) (most (load x b k c)) (FewTests c) _ h.0 items (omega arith)
          (load_word_piece (place_of a x) (source l a b) k) h.1
          (block_part c to way n m h.0 le p.2 h.2)
      block_part (save b k d c) to way n m items le p h =
          coded way n m 7 (most c) (most (save b k d c)) (FewTests c) _ h.0 items (omega arith)
          (save_word_piece (source l a b) k (source l a d)) h.1
          (block_part c to way n m h.0 le p.2 h.2)
      block_part (take xs c) to way n m items le p h =
          let e = places_length xs in
          part_then procs (Outer way) (FewTests c) n n m (7 + 6 * length (places a xs)) (most c)
          (most (take xs c)) (take_items (step l) (heap_full l) (places a xs)) h.0 items h.1
          (omega (arith, e))
          (take_part procs (Outer way) (FewTests c) n (step l) (heap_full l) (places a xs)
          (inl (omega arith)))
          (block_part c to way n m h.0 le p.2 h.2)
      block_part (put b c) to way n m items le p h =
          rounded_part way framed n m 21 (most c) (most (put b c)) (FewTests c) _ items
          (Emits l a cells stack words saved framed to way c n m) (omega arith)
          (code_part procs (Outer way) (FewTests c) n 21 _
          (put_piece (heap_end l cells) (source l a b))) h
          (λ rest r. block_part c to way n m rest le p.1 r)
      block_part (get x c) to way n m items le p h =
          rounded_part way framed n m 27 (most c) (most (get x c)) (FewTests c) _ items
          (Emits l a cells stack words saved framed to way c n m) (omega arith)
          (code_part procs (Outer way) (FewTests c) n 27 _
          (get_piece (heap_end l cells) (place_of a x))) h
          (λ rest r. block_part c to way n m rest le p.1 r)
      block_part (call f site os xs c) to way n m items le p h =
          let called = p.0 in
          rounded_part way framed n m (147 + 6 * length os + 6 * length xs) (most c)
          (most (call f site os xs c)) (FewTests c)
          (call_items l a saved f os (saves_at a site) h.0 h.1) items
          (Emits l a cells stack words saved framed to way c n m) (omega arith)
          (call_part way (FewTests c) f site os xs h.0 h.1 n called.0 called.3 h.2 h.3) h.4
          (λ rest r. block_part c to way n m rest le p.1 r)
      block_part (join xs b c) to way n m items le p h =
          let up = emits_up l a cells stack words saved framed b (places a xs) (Follows n) (suc n)
          h.0 h.1 h.2 in
          let first = block_part b (places a xs) (Follows n) (suc n) h.0 h.1 (omega (arith, le)) p.1
          h.2 in
          let rest = block_part c to way h.0 m h.3.0 (omega (arith, le, up)) p.2 h.3.2 in
          joined way xs b c n h.0 m h.1 h.3.0 items le first rest h.3.1
      block_part (give os) to way n m items le p h =
          let e = h.0 in
          ended way n m (6 * length os + 5) (most (give os)) (FewTests (give os)) _ items e h.3
          (omega arith) (give_part to way (FewTests (give os)) os h.1 n h.2)
      block_part (tail f site os) to way n m items le p h =
          let e = h.0 in
          ended way n m (6 * length os + 7) (most (tail f site os)) (FewTests (tail f site os)) _
          items e h.3 (omega arith)
          (tail_part way (FewTests (tail f site os)) f os h.1 n p.0 h.2)
      block_part (choose as') to way n m items le p (inl h) =
          let each = each_up l a cells stack words saved framed h.0 as' to way h.1 h.2 m h.4 h.6 in
          let up = halves_up n (source l a h.0) 0 None h.1 (suc n) h.2 h.3 h.5 each.0 in
          let from = all_map (StartsFrom (suc n)) (StartsFrom (3 + procs)) h.1
          (λ s z. let above : suc n ≤ s.first = z in omega (arith, le, above))
          (halves_from n (source l a h.0) 0 None h.1 (suc n) h.2 h.3 h.5 each.0) in
          let parts = each_part n h.0 as' to way h.1 h.2 m h.4 from (omega (arith, le, up)) p h.6 in
          part_more procs (Outer way) (ArmsFewTests as') n m (arms_most as') (most (choose as'))
          items (omega arith)
          (by_halves way h.0 as' h.1 n h.2 m h.3 h.4 items le each.0 h.5 parts h.7)
      block_part (choose as') to way n m items le p (inr h) =
          let part : ArmsBlock way as' n m items = whichever
          (EmitsLast l a cells stack words saved framed to way as' n m items)
          (EmitsArms l a cells stack words saved framed to way as' n m items)
          (first_arm_goes_last way as')
          (λ z. last_part as' to way n m items le p z) (λ z. arms_part as' to way n m items le p z)
          h in
          part_more procs (Outer way) (ArmsFewTests as') n m (arms_most as') (most (choose as'))
          items (omega arith) part
      block_part fail to way n m items le p h =
          ended way n m 3 (most fail) (FewTests fail) _ items h.0 h.1 (omega arith)
          (jump_part procs (Outer way) (FewTests fail) n 5 (no_alternative l)
          (inl (omega arith)) (λ e. absurd (cc)))

      pub arms_part : (as' : Arms) (to : List Spot) (way : Continuation) (n m : ℕ)
          (items : List Item) → 3 + procs ≤ n → ArmsPlaced l a as'
          → EmitsArms l a cells stack words saved framed to way as' n m items
          → ArmsBlock way as' n m items
      arms_part (otherwise c) to way n m items le p h = block_part c to way n m items le p h
      arms_part (arm ts c as') to way n m items le p h =
          let up = emits_up l a cells stack words saved framed c to (continued_by_jump way) (suc n)
          h.0 h.1 h.2 in
          let first = block_part c to (continued_by_jump way) (suc n) h.0 h.1 (omega (arith, le))
          p.1 h.2 in
          let rest = arms_part as' to way h.0 m h.3.0 (omega (arith, le, up)) p.2 h.3.2 in
          chosen way ts c as' n h.0 m h.1 h.3.0 items le first rest h.3.1

      each_part : (miss : ℕ) (word : Operand) (as' : Arms) (to : List Spot) (way : Continuation)
          (all : List SearchedArm) (k m : ℕ) (rest : List Item) → AllOf (StartsFrom (3 + procs)) all
          → 3 + procs ≤ k → ArmsPlaced l a as'
          → EmitsEach l a cells stack words saved framed word to way as' all k m rest
          → EachPart miss way as' all k m rest
      each_part miss word (otherwise c) to way all k m rest from le p h
          = last_each miss way c all k m rest h.0 (block_part c to way k m rest le p h.1)
      each_part miss word (arm ts c as') to way all k m rest from le p h =
          let from' = subst (AllOf (StartsFrom (3 + procs))) h.2 from in
          one_each miss way ts c as' h.0 all h.1 k m rest h.2
          (block_part c to (continued_by_jump way) h.0.first h.0.next h.0.block from'.0 p.1 h.4)
          (each_part miss word as' to way h.1 k m rest from'.1 le p.2 h.5)

      pub last_part : (as' : Arms) (to : List Spot) (way : Continuation) (n m : ℕ)
          (items : List Item) → 3 + procs ≤ n → ArmsPlaced l a as'
          → EmitsLast l a cells stack words saved framed to way as' n m items
          → ArmsBlock way as' n m items
      last_part (otherwise c) to way n m items le p h = absurd h
      last_part (arm ts c as') to way n m items le p h =
          let up = arms_up l a cells stack words saved framed as' to (continued_by_jump way) (suc n)
          h.2 h.3 h.4 in
          let first = arms_part as' to (continued_by_jump way) (suc n) h.2 h.3 (omega (arith, le))
          p.2 h.4 in
          let rest = block_part c to way h.2 m h.5.0 (omega (arith, le, up)) p.1 h.5.2 in
          subst (λ x. ArmsBlock way (arm x c as') n m items) (sym h.1)
          (turned way h.0 c as' n h.2 m h.3 h.5.0 items le first rest h.5.1)

      decided_part : (c : Code) (f : PrimOp) (left right : Source) (to : List Spot)
          (way : Continuation) (n m : ℕ) (items : List Item) → 3 + procs ≤ n → Placed l a c
          → EmitsDecided l a cells stack words saved framed f left right to way c n m items
          → Part procs (Outer way) n m (9 + most c) (FewTests c) items
      decided_part (choose as') f left right to way n m items le p h =
          part_more procs (Outer way) (ArmsFewTests as') n m (9 + arms_most as')
          (9 + most (choose as')) items (omega arith)
          (whichever
          (EmitsDecidedLast l a cells stack words saved framed f left right to way as' n m
          items) (EmitsDecidedFirst l a cells stack words saved framed f left right to way as' n
          m items) (first_arm_goes_last way as')
          (λ z. decided_last_part as' f left right to way n m items le p z)
          (λ z. decided_first_part as' f left right to way n m items le p z) h)
      decided_part (set x b c) f left right to way n m items le p h = absurd h
      decided_part (prim g x b d c) f left right to way n m items le p h = absurd h
      decided_part (load x b k c) f left right to way n m items le p h = absurd h
      decided_part (save b k d c) f left right to way n m items le p h = absurd h
      decided_part (take xs c) f left right to way n m items le p h = absurd h
      decided_part (put b c) f left right to way n m items le p h = absurd h
      decided_part (get x c) f left right to way n m items le p h = absurd h
      decided_part (call g site os xs c) f left right to way n m items le p h = absurd h
      decided_part (join xs b c) f left right to way n m items le p h = absurd h
      decided_part (give os) f left right to way n m items le p h = absurd h
      decided_part (tail g site os) f left right to way n m items le p h = absurd h
      decided_part fail f left right to way n m items le p h = absurd h

      decided_first_part : (as' : Arms) (f : PrimOp) (left right : Source) (to : List Spot)
          (way : Continuation) (n m : ℕ) (items : List Item) → 3 + procs ≤ n → ArmsPlaced l a as'
          → EmitsDecidedFirst l a cells stack words saved framed f left right to way as' n m items
          → Part procs (Outer way) n m (9 + arms_most as') (ArmsFewTests as') items
      decided_first_part (otherwise c) f left right to way n m items le p h = absurd h
      decided_first_part (arm ts c as') f left right to way n m items le p h =
          let Few = ArmsFewTests (arm ts c as') in
          let up = emits_up l a cells stack words saved framed c to (continued_by_jump way) (suc n)
          h.0 h.1 h.2 in
          let both = length-append (calls_in c) (arms_calls as') in
          let one = two_words_part procs (λ j. n ≡ j) Few (other_condition f (tested ts)) n n left
          right refl in
          part_more procs (Outer way) Few n m (9 + most c + arms_most as')
          (9 + arms_most (arm ts c as')) items (omega (arith, both))
          (decided way Few (FewTests c) (ArmsFewTests as') n h.0 m (most c) (arms_most as')
          (branch_items (other_condition f (tested ts)) n left right) h.1 h.3.0 items le
          (λ x. x.1) (λ x. x.2) one
          (block_part c to (continued_by_jump way) (suc n) h.0 h.1 (omega (arith, le)) p.1 h.2)
          (arms_part as' to way h.0 m h.3.0 (omega (arith, le, up)) p.2 h.3.2) h.3.1)

      decided_last_part : (as' : Arms) (f : PrimOp) (left right : Source) (to : List Spot)
          (way : Continuation) (n m : ℕ) (items : List Item) → 3 + procs ≤ n → ArmsPlaced l a as'
          → EmitsDecidedLast l a cells stack words saved framed f left right to way as' n m items
          → Part procs (Outer way) n m (9 + arms_most as') (ArmsFewTests as') items
      decided_last_part (otherwise c) f left right to way n m items le p h = absurd h
      decided_last_part (arm ts c as') f left right to way n m items le p h =
          let Few = ArmsFewTests (arm ts c as') in
          let up = arms_up l a cells stack words saved framed as' to (continued_by_jump way) (suc n)
          h.0 h.1 h.2 in
          let both = length-append (calls_in c) (arms_calls as') in
          let one = two_words_part procs (λ j. n ≡ j) Few (condition f (tested ts)) n n left right
          refl in
          part_more procs (Outer way) Few n m (9 + arms_most as' + most c)
          (9 + arms_most (arm ts c as')) items (omega (arith, both))
          (decided way Few (ArmsFewTests as') (FewTests c) n h.0 m (arms_most as') (most c)
          (branch_items (condition f (tested ts)) n left right) h.1 h.3.0 items le (λ x. x.2)
          (λ x. x.1) one
          (arms_part as' to (continued_by_jump way) (suc n) h.0 h.1 (omega (arith, le)) p.2 h.2)
          (block_part c to way h.0 m h.3.0 (omega (arith, le, up)) p.1 h.3.2) h.3.1)
