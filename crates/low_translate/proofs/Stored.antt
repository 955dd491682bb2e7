-- New cells, and cells that are written over.
use Rattle.std.proofs.Common.{◌≡◌, ◌≤◌, ℕ, zero, suc, ◌+◌, Bool, true, cond, List, [], ◌∷◌, ◌++◌, map, length, take, replicate, Option, Some, None, slice_get, refl, sym, ap, ◌∙◌, subst, arith, append-nil, append_assoc, length-append}
use Rattle.std.specs.Prelude.{nat_eq, max, slice_set}
use Rattle.std.proofs.lemmas.Bool.{eq-eqb}
use Rattle.std.proofs.lemmas.List.{length-map, length-take, length-replicate}
use Rattle.seq.proofs.Truth.{and_left, and_right}
use Rattle.grin_syntax.specs.declared.program.Cell as C
use Rattle.grin_syntax.specs.declared.program.Tag.{Tag}
use Rattle.grin_syntax.specs.declared.program.TagId.{TagId}
use Rattle.grin_syntax.specs.declared.program.Word as W
use Rattle.grin_syntax.specs.declared.program.Word.TheVariants as word
use Rattle.grin_syntax.specs.declared.program.Val as V
use Rattle.grin_syntax.specs.declared.program.Val.TheVariants as val
use Rattle.grin_syntax.specs.Binders.{cell_vars}
use Rattle.grin_syntax.specs.Formed.{AllOf}
use Rattle.grin_syntax.specs.Tree as grin_tree
use Rattle.grin_meaning.specs.Values as grin
use Rattle.grin_meaning.specs.Values.{Datum, number, tag, cell, Node, Value, node, words, words_of, as_node, node_of, value_of, HeapCell}
use Rattle.grin_meaning.specs.Run.{cells_of}
use Rattle.grin_meaning.specs.Checks.{fills, all_fill}
use Rattle.grin_meaning.specs.Ready.{NoNodeVar, most_fields}
use Rattle.low_code.specs.declared.program.Operand.{Operand}
use Rattle.low_code.specs.declared.program.Operand.TheVariants.{Var}
use Rattle.low_code.specs.Tree as low_tree
use Rattle.low_code.specs.Tree.{Code}
use Rattle.low_code.specs.Values as low
use Rattle.low_code.specs.Values.{Word, Env, World, Room, need, and_then, with_vars, with_var}
use Rattle.low_code.specs.Run.{Calls, operand, operands, code, places, with_cells, empty_cell, within_limit}
use Rattle.low_translate.specs.Translation.{operands_of, padded_to_width, take_if_any, store_all, save_all}
use Rattle.low_translate.specs.Lowered.{ValRanged}
use Rattle.low_translate.specs.Writes.{cut, fields_in, cells_write, procs_write, written_width}
use Rattle.low_translate.proofs.Images.{word_image, images, words_of_value, fit, length_fit, zeros, cell_image, SoundNode, SoundCell, node_fits, cell_narrow, none_some, some_same}
use Rattle.low_translate.proofs.Operands.{bound, with_vars_bound, Agrees, value_is, fitted_are}
use Rattle.low_translate.proofs.Parts.{words_many}
use Rattle.low_translate.proofs.Pieces.{over_front, over_like, saves_run, bound_other}
use Rattle.low_translate.proofs.Fills.{all_zeros, fills_run}
use Rattle.low_translate.proofs.Deciding.{Stands, itself, its_words, stands, stands_sound, same_cell, filled_value}
use Rattle.seq.specs.Lists.{times}

-- the first operands
operands_front : (p : low_tree.Program) (fw : ℕ → ℕ) (env : Env) (k : ℕ) (as' : List Operand)
    (ws : List Word) → operands p fw env as' ≡ Some ws
    → operands p fw env (take k as') ≡ Some (take k ws)
operands_front p fw env zero [] ws h = ap (λ l. Some (take 0 l)) (some_same h)
operands_front p fw env zero (a ∷ as') ws h = ap Some (sym (none ws))
  where
    none : (ws : List Word) → take 0 ws ≡ []
    none [] = refl
    none (w ∷ ws) = refl
operands_front p fw env (suc k) [] ws h = ap (λ l. Some (take (suc k) l)) (some_same h)
operands_front p fw env (suc k) (a ∷ as') ws h = go (operand p fw env a) refl
    (operands p fw env as') refl h (λ bs qs. operands_front p fw env k as' bs qs)
  where
    go : (o : Option Word) → operand p fw env a ≡ o → (os : Option (List Word))
        → operands p fw env as' ≡ os → and_then o (λ b. and_then os (λ bs. Some (b ∷ bs))) ≡ Some ws
        → ((bs : List Word) → operands p fw env as' ≡ Some bs
        → operands p fw env (take k as') ≡ Some (take k bs))
        → operands p fw env (a ∷ take k as') ≡ Some (take (suc k) ws)
    go None q os qs m rec = absurd (none_some m)
    go (Some b) q None qs m rec = absurd (none_some m)
    go (Some b) q (Some bs) qs m rec =
        (λ i. and_then (q i) (λ b. and_then (rec bs qs i) (λ bs. Some (b ∷ bs)))) ∙ ap
        (λ l. Some (take (suc k) l)) (some_same m)

operands_many : (p : low_tree.Program) (fw : ℕ → ℕ) (env : Env) (as' : List Operand)
    (ws : List Word) → operands p fw env as' ≡ Some ws → length ws ≡ length as'
operands_many p fw env [] ws h = ap length (sym (some_same h))
operands_many p fw env (a ∷ as') ws h = go (operand p fw env a) (operands p fw env as') refl h
    (λ l q. operands_many p fw env as' l q)
  where
    go : (o : Option Word) (os : Option (List Word)) → operands p fw env as' ≡ os
        → and_then o (λ b. and_then os (λ bs. Some (b ∷ bs))) ≡ Some ws
        → ((l : List Word) → operands p fw env as' ≡ Some l → length l ≡ length as')
        → length ws ≡ suc (length as')
    go None os q m rec = absurd (none_some m)
    go (Some b) None q m rec = absurd (none_some m)
    go (Some b) (Some l) q m rec = ap length (sym (some_same m)) ∙ ap suc (rec l q)

-- a node has no more fields than are written of its value
stands_tag : (g : grin_tree.Program) (t : ℕ) (ds : List Datum) (n : Node)
    → Stands g (words (tag t ∷ ds)) n → n.tag ≡ t
stands_tag g t ds _ (its_words q le) = refl

vector_tag : (g : grin_tree.Program) (env : grin.Env) (t : TagId) (ws : List W.Word) (n : Node)
    → node_of g env (val.Vector (word.TagWord t ∷ ws)) ≡ Some n → n.tag ≡ t.0
vector_tag g env t ws n h = go (words_of g env ws) h
  where
    go : (o : Option (List Datum)) → grin.and_then
        (grin.and_then (grin.and_then o (λ ds. Some (tag t.0 ∷ ds))) (λ ds. Some (words ds)))
        (as_node g) ≡ Some n → n.tag ≡ t.0
    go None m = absurd (none_some m)
    go (Some ds) m = stands_tag g t.0 ds n (stands g (words (tag t.0 ∷ ds)) n m)

cut_few : (g : grin_tree.Program) (t : ℕ) (n : Node) (k : ℕ) → n.tag ≡ t → SoundNode g n
    → length n.fields ≤ k → length n.fields ≤ cut (slice_get g.tags t) k
cut_few g t n k e s le = go (slice_get g.tags t) refl
  where
    go : (o : Option Tag) → slice_get g.tags t ≡ o → length n.fields ≤ cut o k
    go None q = le
    go (Some i) q =
        let m : i.fields ≡ s.count = some_same
        (sym (ap (λ o. grin.and_then o (λ i. Some i.fields)) q) ∙ ap (grin.fields_of g) (sym e)
        ∙ s.has) in
        let f = s.few in
        omega (arith, le, f, m)

node_written : (g : grin_tree.Program) (env : grin.Env) (v : V.Val) (n : Node)
    → node_of g env v ≡ Some n → SoundNode g n → NoNodeVar v
    → 1 + length n.fields ≤ length (operands_of v) → length n.fields ≤ fields_in g.tags v
node_written g env (val.NodeVar x) n h s nn le = absurd nn
node_written g env (val.Node t ws) n h s nn le = let m = words_many ws in omega (arith, m, le)
node_written g env (val.One w) n h s nn le = omega (arith, le)
node_written g env (val.Vector []) n h s nn le = let m = words_many [] in omega (arith, m, le)
node_written g env (val.Vector (word.TagWord t ∷ ws)) n h s nn le = let m
    = words_many (word.TagWord t ∷ ws) in cut_few g t.0 n (length ws) (vector_tag g env t ws n h) s
    (omega (arith, m, le))
node_written g env (val.Vector (word.Lit k ∷ ws)) n h s nn le = let m = words_many (word.Lit k ∷ ws)
    in omega (arith, m, le)
node_written g env (val.Vector (word.Var x ∷ ws)) n h s nn le = let m = words_many (word.Var x ∷ ws)
    in omega (arith, m, le)
node_written g env (val.Vector (word.Global i ∷ ws)) n h s nn le = let m
    = words_many (word.Global i ∷ ws) in omega (arith, m, le)

stands_few : (g : grin_tree.Program) (x : Value) (n : Node) → Stands g x n
    → 1 + length n.fields ≤ length (words_of_value x)
stands_few g _ _ itself = omega arith
stands_few g _ _ (its_words {k = k} {ds = ds} q le) = let m = length-take k ds in omega (arith, m)

-- cells from a on, one for each variable
abbrev pub Placed : Env → ℕ → List C.Cell → Type 0
Placed env a [] = Unit {0}
Placed env a (c ∷ cs) = (env c.var.0 ≡ Some (low.cell a)) × Placed env (suc a) cs

pub placed : (cs : List C.Cell) (a : ℕ) (env : Env) → ((x : ℕ) → times x (cell_vars cs) ≤ 1)
    → Placed (bound (cell_vars cs) (places a (cell_vars cs)) env) a cs
placed [] a env once = tt
placed (c ∷ cs) a env once = (
  bound_other (cell_vars cs) (places (suc a) (cell_vars cs)) (with_var c.var.0 (low.cell a) env)
      c.var.0 (apart (nat_eq c.var.0 c.var.0) refl) ∙ ap
      (λ b. cond b (Some (low.cell a)) (env c.var.0)) (eq_here c.var.0),
  placed cs (suc a) (with_var c.var.0 (low.cell a) env) (λ x. let h = once x in omega (arith, h)),
)
  where
    eq_here : (x : ℕ) → nat_eq x x ≡ true
    eq_here x = eq-eqb x x refl

    apart : (b : Bool) → nat_eq c.var.0 c.var.0 ≡ b → times c.var.0 (cell_vars cs) ≡ 0
    apart b e = let h : cond true 1 0 + times c.var.0 (cell_vars cs) ≤ 1
        = subst (λ b. cond b 1 0 + times c.var.0 (cell_vars cs) ≤ 1) (eq_here c.var.0)
        (once c.var.0) in omega (arith, h)

pub places_many : (a : ℕ) (xs : List ℕ) → length (places a xs) ≡ length xs
places_many a [] = refl
places_many a (x ∷ xs) = ap suc (places_many (suc a) xs)

at_end : {A : Type 0} (pre : List A) (x : A) (rest : List A)
    → slice_get (pre ++ (x ∷ rest)) (length pre) ≡ Some x
at_end [] x rest = refl
at_end (y ∷ pre) x rest = at_end pre x rest

set_end : {A : Type 0} (pre : List A) (x y : A) (rest : List A)
    → slice_set (pre ++ (x ∷ rest)) (length pre) y ≡ pre ++ (y ∷ rest)
set_end [] x y rest = refl
set_end (z ∷ pre) x y rest = ap (λ l. z ∷ l) (set_end pre x y rest)

module _ (g : grin_tree.Program) (p : low_tree.Program) (fw : ℕ → ℕ)
    (same_globals : length p.globals ≡ length g.globals) (width : ℕ)
    (wide : width ≡ 1 + most_fields g.tags) (room : Room) (calls : Calls) (top : ℕ)
    (under : Option ℕ) where
  abbrev runs : Env → Code → World → low.Answer
  runs env c w = code p fw room calls env top under c w

  -- the words of a value that stands for a node are those of its cell
  pub record Noded (first : ℕ) (scope : List ℕ) (env : grin.Env) (e : Env) (v : V.Val) (n : Node)
      : Type 0 where
    pub value : Value
    pub words : operands p fw e (operands_of v) ≡ Some (images (words_of_value value))
    pub same : fit width (images (words_of_value value)) ≡ cell_image width n
    pub sound : SoundCell g n

  pub node_is : (first : ℕ) (scope : List ℕ) (env : grin.Env) (e : Env) → Agrees first scope env e
      → (v : V.Val) (n : Node) → node_of g env v ≡ Some n → fills g env v ≡ true → NoNodeVar v
      → ValRanged v → fields_in g.tags v ≤ procs_write g.tags g.procs → Noded first scope env e v n
  node_is first scope env e a v n h f nn r most = go (value_of g env v) refl h
    where
      go : (o : Option Value) → value_of g env v ≡ o → grin.and_then o (as_node g) ≡ Some n
          → Noded first scope env e v n
      go None q m = absurd (none_some m)
      go (Some x) q m =
          let u = value_is g p fw same_globals first scope env e a v x q nn r in
          let s = stands g x n m in
          let sn = stands_sound g x n s u.sound in
          let many = operands_many p fw e (operands_of v) _ u.words.are in
          let own = stands_few g x n s in
          let same = length-map (words_of_value x) word_image in
          let fits = node_fits g n sn in
          let own_many = length-map n.fields word_image in
          let at_most = node_written g env v n (ap (λ o. grin.and_then o (as_node g)) q ∙ m) sn nn
          (omega (arith, many, own, same)) in
          record {
            value = x;
            words = u.words.are;
            same = same_cell g width x n s (λ ds k. filled_value g env v x nn q f ds k n m);
            sound = record { sound = sn; narrow = omega (arith, at_most, most, fits, own_many) };
          }

  -- the nodes of new cells
  pub stores_run : (first : ℕ) (scope : List ℕ) (env : grin.Env) (e : Env)
      → Agrees first scope env e → (cs : List C.Cell) (hs : List HeapCell) (pre : List (List Word))
      (c : Code) (w : World)
      → cells_of g env cs ≡ Some hs → all_fill g env cs ≡ true → AllOf (λ c. NoNodeVar c.val) cs
      → AllOf (λ c. ValRanged c.val) cs → Placed e (length pre) cs
      → cells_write g.tags cs ≤ procs_write g.tags g.procs
      → (runs e (store_all (written_width g) cs c)
      (record w { cells = pre ++ replicate (length cs) (zeros width) }) ≡ runs e c
      (record w { cells = pre ++ map (λ h. cell_image width h.node) hs }))
      × AllOf (λ h. SoundCell g h.node) hs
  stores_run first scope env e a [] hs pre c w h f nn r pl most
      = subst (λ l.
      (runs e c (record w { cells = pre ++ [] }) ≡ runs e c
      (record w { cells = pre ++ map (λ h. cell_image width h.node) l }))
      × AllOf (λ h. SoundCell g h.node) l) (some_same h) (refl, tt)
  stores_run first scope env e a (k ∷ cs) hs pre c w h f nn r pl most
      = go (node_of g env k.val) refl (cells_of g env cs) refl h
      (λ l next qs t pl'. stores_run first scope env e a cs l next c w qs t nn.1 r.1 pl'
      (let m : max (fields_in g.tags k.val) (cells_write g.tags cs) ≤ procs_write g.tags g.procs
      = most in omega (arith, m)))
    where
      go : (o : Option Node) → node_of g env k.val ≡ o → (os : Option (List HeapCell))
          → cells_of g env cs ≡ os → grin.and_then
          (grin.and_then o (λ n. Some (record { site = k.site.0; node = n })))
          (λ b. grin.and_then os (λ bs. Some (b ∷ bs))) ≡ Some hs
          → ((l : List HeapCell) (next : List (List Word)) → cells_of g env cs ≡ Some l
          → all_fill g env cs ≡ true → Placed e (length next) cs
          → (runs e (store_all (written_width g) cs c)
          (record w { cells = next ++ replicate (length cs) (zeros width) }) ≡ runs e c
          (record w { cells = next ++ map (λ h. cell_image width h.node) l }))
          × AllOf (λ h. SoundCell g h.node) l)
          → (runs e (store_all (written_width g) (k ∷ cs) c)
          (record w { cells = pre ++ replicate (suc (length cs)) (zeros width) }) ≡ runs e c
          (record w { cells = pre ++ map (λ h. cell_image width h.node) hs }))
          × AllOf (λ h. SoundCell g h.node) hs
      go None q os qs m rec = absurd (none_some m)
      go (Some n) q None qs m rec = absurd (none_some m)
      go (Some n) q (Some l) qs m rec =
          let d = node_is first scope env e a k.val n q
          (and_left (fills g env k.val) (all_fill g env cs) f) nn.0 r.0
          (let m : max (fields_in g.tags k.val) (cells_write g.tags cs) ≤ procs_write g.tags
          g.procs = most in omega (arith, m)) in
          let ws : List Word = images (words_of_value d.value) in
          let img : List Word = cell_image width n in
          let next : List (List Word) = pre ++ img ∷ [] in
          let one : length next ≡ suc (length pre) = length-append pre (img ∷ []) ∙ omega arith in
          let rest = rec l next qs (and_right (fills g env k.val) (all_fill g env cs) f)
          (subst (λ j. Placed e j cs) (sym one) pl.1) in
          let is : hs ≡ record { site = k.site.0; node = n } ∷ l = sym (some_same m) in
          let step : runs e (store_all (written_width g) (k ∷ cs) c)
          (record w { cells = pre ++ (zeros width ∷ replicate (length cs) (zeros width)) }) ≡
          runs e (store_all (written_width g) cs c)
          (record w { cells = next ++ replicate (length cs) (zeros width) }) =
          fills_run p fw room calls top under (Var k.var.0) 0
          (take (written_width g) (operands_of k.val)) (take (written_width g) ws) (length pre)
          (zeros width) e (store_all (written_width g) cs c)
          (record w { cells = pre ++ (zeros width ∷ replicate (length cs) (zeros width)) })
          pl.0 (operands_front p fw e (written_width g) (operands_of k.val) ws d.words)
          (at_end pre (zeros width) _)
          (omega (
            arith,
            wide,
            length-take (written_width g) ws,
            length-replicate width (low.number 0),
          )) (all_zeros width)
          ∙ (λ i. runs e (store_all (written_width g) cs c)
          (record w {
            cells = slice_set (pre ++ (zeros width ∷ replicate (length cs) (zeros width)))
                (length pre)
                (over_front (written_width g) width ws (images (tag n.tag ∷ n.fields))
                (omega (arith, wide)) (cell_narrow g n d.sound) d.same i);
          }))
          ∙ (λ i. runs e (store_all (written_width g) cs c)
          (record w {
            cells =
                (set_end pre (zeros width) img (replicate (length cs) (zeros width)) ∙ sym
                (append_assoc pre (img ∷ []) (replicate (length cs) (zeros width)))) i;
          })) in (
            step ∙ rest.0 ∙
                (λ i. runs e c
                (record w {
                  cells =
                      (append_assoc pre (img ∷ []) (map (λ h. cell_image width h.node) l) ∙ ap
                      (λ z. pre ++ map (λ h. cell_image width h.node) z) (sym is)) i;
                })),
            subst (AllOf (λ h. SoundCell g h.node)) (sym is) (d.sound, rest.1),
          )

  -- a cell that is written over
  pub update_run : (first : ℕ) (scope : List ℕ) (env : grin.Env) (e : Env)
      → Agrees first scope env e → (b : Operand) (v : V.Val) (i : ℕ) (n : Node) (us : List Word)
      (c : Code) (w : World)
      → operand p fw e b ≡ Some (low.cell i) → slice_get w.cells i ≡ Some (fit width us)
      → length us ≤ written_width g → node_of g env v ≡ Some n → fills g env v ≡ true
      → NoNodeVar v → ValRanged v → fields_in g.tags v ≤ procs_write g.tags g.procs
      → (runs e (save_all b 0 (padded_to_width (written_width g) (operands_of v)) c) w ≡ runs e c
      (record w { cells = slice_set w.cells i (cell_image width n) })) × SoundCell g n
  update_run first scope env e a b v i n us c w hb hc hl hn f nn r most =
      let d = node_is first scope env e a v n hn f nn r most in
      let ws : List Word = images (words_of_value d.value) in (
        saves_run p fw room calls top under b 0 (padded_to_width (written_width g) (operands_of v))
            (fit (written_width g) ws) i (fit width us) e c w hb
            (fitted_are g p fw same_globals (written_width g) e (operands_of v) ws d.words) hc
            (omega (arith, wide, length_fit (written_width g) ws, length_fit width us))
            ∙ (λ t. runs e c
            (record w {
              cells = slice_set w.cells i
                  (over_like (written_width g) width ws (images (tag n.tag ∷ n.fields)) us
                  (omega (arith, wide)) (cell_narrow g n d.sound) hl d.same t);
            })),
        d.sound,
      )

  -- new cells, if any, where no limit is said
  pub taken_run : (xs : List ℕ) (env : Env) (c : Code) (w : World) → room.cells ≡ None
      → runs env (take_if_any xs c) w ≡ runs (bound xs (places (length w.cells) xs) env) c
      (with_cells (replicate (length xs) (empty_cell p fw)) w)
  unfolding code
  taken_run [] env c w nn = λ i. runs env c (record w { cells = sym (append-nil w.cells) i })
  taken_run (x ∷ xs) env c w nn =
      (λ i. within_limit (nn i) (length w.cells + length (x ∷ xs)) (low.stops low.heap_full w)
      (need (with_vars (x ∷ xs) (places (length w.cells) (x ∷ xs)) env) w
      (λ env'. runs env' c (with_cells (replicate (length (x ∷ xs)) (empty_cell p fw)) w))))
      ∙ (λ i. need
      (with_vars_bound (x ∷ xs) (places (length w.cells) (x ∷ xs)) env
      (places_many (length w.cells) (x ∷ xs)) i) w
      (λ env'. runs env' c (with_cells (replicate (length (x ∷ xs)) (empty_cell p fw)) w)))
