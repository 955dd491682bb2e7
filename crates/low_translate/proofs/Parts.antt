-- What the statements that move words bind, call and weigh.
use Rattle.std.proofs.Common.{◌≡◌, ◌≤◌, ℕ, zero, suc, ◌+◌, ◌*◌, Bool, true, false, List, [], ◌∷◌, ◌++◌, length, take, refl, ap, ◌∙◌, arith}
use Rattle.std.specs.Prelude.{nat_lt}
use Rattle.grin_syntax.specs.declared.program.Cell as C
use Rattle.grin_syntax.specs.declared.program.Word as W
use Rattle.grin_syntax.specs.declared.program.Val as V
use Rattle.grin_syntax.specs.declared.program.Val.TheVariants as val
use Rattle.grin_meaning.specs.Slim.{val_weight, cells_weight}
use Rattle.low_code.specs.declared.program.Operand.{Operand}
use Rattle.low_code.specs.declared.program.Operand.TheVariants.{Var, Num}
use Rattle.low_code.specs.Tree.{Code, set, load, save}
use Rattle.low_code.specs.Formed.{binds, calls_in}
use Rattle.low_code.specs.Size.{code_size}
use Rattle.low_translate.specs.Translation.{operands_of, operands_of_words, set_all, to_first, load_word, load_all, save_all, is_number, fill_word, fills, take_if_any, store_all}

-- ---- the variables that they bind

pub sets_binds : (xs : List ℕ) (as' : List Operand) (c : Code) → binds (set_all xs as' c) ≡ xs
    ++ binds c
sets_binds [] as' c = refl
sets_binds (x ∷ xs) [] c = ap (λ l. x ∷ l) (sets_binds xs [] c)
sets_binds (x ∷ xs) (a ∷ as') c = ap (λ l. x ∷ l) (sets_binds xs as' c)

pub word_binds : (width x : ℕ) (a : Operand) (i : ℕ) (c : Code)
    → binds (load_word width x a i c) ≡ x ∷ binds c
word_binds width x a i c = by (nat_lt i width)
  where
    by : (b : Bool) → binds (elim b [ true ↦ load x a i c | false ↦ set x (Num 0) c ]) ≡ x ∷ binds c
    by true = refl
    by false = refl

pub loads_binds : (width : ℕ) (xs : List ℕ) (a : Operand) (i : ℕ) (c : Code)
    → binds (load_all width xs a i c) ≡ xs ++ binds c
loads_binds width [] a i c = refl
loads_binds width (x ∷ xs) a i c = word_binds width x a i (load_all width xs a (suc i) c) ∙ ap
    (λ l. x ∷ l) (loads_binds width xs a (suc i) c)

pub first_binds : (xs : List ℕ) (e : ℕ → Code → Code) (c : Code)
    → ((x : ℕ) (b : Code) → binds (e x b) ≡ x ∷ binds b) → binds (to_first xs e c) ≡ xs ++ binds c
first_binds [] e c h = refl
first_binds (x ∷ xs) e c h = h x (set_all xs [] c) ∙ ap (λ l. x ∷ l) (sets_binds xs [] c)

fill_binds : (a : Operand) (i : ℕ) (b : Operand) (c : Code) → binds (fill_word a i b c) ≡ binds c
fill_binds a i b c = by (is_number b 0)
  where
    by : (t : Bool) → binds (elim t [ true ↦ c | false ↦ save a i b c ]) ≡ binds c
    by true = refl
    by false = refl

fills_binds : (a : Operand) (i : ℕ) (bs : List Operand) (c : Code)
    → binds (fills a i bs c) ≡ binds c
fills_binds a i [] c = refl
fills_binds a i (b ∷ bs) c = fill_binds a i b (fills a (suc i) bs c) ∙ fills_binds a (suc i) bs c

pub saves_binds : (a : Operand) (i : ℕ) (bs : List Operand) (c : Code)
    → binds (save_all a i bs c) ≡ binds c
saves_binds a i [] c = refl
saves_binds a i (b ∷ bs) c = saves_binds a (suc i) bs c

pub taken_binds : (xs : List ℕ) (c : Code) → binds (take_if_any xs c) ≡ xs ++ binds c
taken_binds [] c = refl
taken_binds (x ∷ xs) c = refl

pub stores_binds : (width : ℕ) (cs : List C.Cell) (c : Code)
    → binds (store_all width cs c) ≡ binds c
stores_binds width [] c = refl
stores_binds width (x ∷ cs) c = fills_binds (Var x.var.0) 0 (take width (operands_of x.val))
    (store_all width cs c) ∙ stores_binds width cs c

-- ---- no calls

pub sets_calls : (xs : List ℕ) (as' : List Operand) (c : Code)
    → calls_in (set_all xs as' c) ≡ calls_in c
sets_calls [] as' c = refl
sets_calls (x ∷ xs) [] c = sets_calls xs [] c
sets_calls (x ∷ xs) (a ∷ as') c = sets_calls xs as' c

pub word_calls : (width x : ℕ) (a : Operand) (i : ℕ) (c : Code)
    → calls_in (load_word width x a i c) ≡ calls_in c
word_calls width x a i c = by (nat_lt i width)
  where
    by : (b : Bool) → calls_in (elim b [ true ↦ load x a i c | false ↦ set x (Num 0) c ]) ≡ calls_in
        c
    by true = refl
    by false = refl

pub loads_calls : (width : ℕ) (xs : List ℕ) (a : Operand) (i : ℕ) (c : Code)
    → calls_in (load_all width xs a i c) ≡ calls_in c
loads_calls width [] a i c = refl
loads_calls width (x ∷ xs) a i c = word_calls width x a i (load_all width xs a (suc i) c) ∙
    loads_calls width xs a (suc i) c

pub first_calls : (xs : List ℕ) (e : ℕ → Code → Code) (c : Code)
    → ((x : ℕ) (b : Code) → calls_in (e x b) ≡ calls_in b) → calls_in (to_first xs e c) ≡ calls_in c
first_calls [] e c h = refl
first_calls (x ∷ xs) e c h = h x (set_all xs [] c) ∙ sets_calls xs [] c

fill_calls : (a : Operand) (i : ℕ) (b : Operand) (c : Code)
    → calls_in (fill_word a i b c) ≡ calls_in c
fill_calls a i b c = by (is_number b 0)
  where
    by : (t : Bool) → calls_in (elim t [ true ↦ c | false ↦ save a i b c ]) ≡ calls_in c
    by true = refl
    by false = refl

fills_calls : (a : Operand) (i : ℕ) (bs : List Operand) (c : Code)
    → calls_in (fills a i bs c) ≡ calls_in c
fills_calls a i [] c = refl
fills_calls a i (b ∷ bs) c = fill_calls a i b (fills a (suc i) bs c) ∙ fills_calls a (suc i) bs c

pub saves_calls : (a : Operand) (i : ℕ) (bs : List Operand) (c : Code)
    → calls_in (save_all a i bs c) ≡ calls_in c
saves_calls a i [] c = refl
saves_calls a i (b ∷ bs) c = saves_calls a (suc i) bs c

pub taken_calls : (xs : List ℕ) (c : Code) → calls_in (take_if_any xs c) ≡ calls_in c
taken_calls [] c = refl
taken_calls (x ∷ xs) c = refl

pub stores_calls : (width : ℕ) (cs : List C.Cell) (c : Code)
    → calls_in (store_all width cs c) ≡ calls_in c
stores_calls width [] c = refl
stores_calls width (x ∷ cs) c = fills_calls (Var x.var.0) 0 (take width (operands_of x.val))
    (store_all width cs c) ∙ stores_calls width cs c

-- ---- their size

pub sets_size : (xs : List ℕ) (as' : List Operand) (c : Code)
    → code_size (set_all xs as' c) ≡ 3 * length xs + code_size c
sets_size [] as' c = omega arith
sets_size (x ∷ xs) [] c = let h = sets_size xs [] c in omega (arith, h)
sets_size (x ∷ xs) (a ∷ as') c = let h = sets_size xs as' c in omega (arith, h)

pub word_size : (width x : ℕ) (a : Operand) (i : ℕ) (c : Code)
    → code_size (load_word width x a i c) ≡ 3 + code_size c
word_size width x a i c = by (nat_lt i width)
  where
    by : (b : Bool) → code_size (elim b [ true ↦ load x a i c | false ↦ set x (Num 0) c ]) ≡ 3 +
        code_size c
    by true = refl
    by false = refl

pub loads_size : (width : ℕ) (xs : List ℕ) (a : Operand) (i : ℕ) (c : Code)
    → code_size (load_all width xs a i c) ≡ 3 * length xs + code_size c
loads_size width [] a i c = omega arith
loads_size width (x ∷ xs) a i c = let h = loads_size width xs a (suc i) c in let k
    = word_size width x a i (load_all width xs a (suc i) c) in omega (arith, h, k)

pub first_size : (k : ℕ) (xs : List ℕ) (e : ℕ → Code → Code) (c : Code)
    → ((x : ℕ) (b : Code) → code_size (e x b) ≡ k + code_size b)
    → code_size (to_first xs e c) ≤ k + 3 * length xs + code_size c
first_size k [] e c h = omega arith
first_size k (x ∷ xs) e c h = let a = h x (set_all xs [] c) in let b = sets_size xs [] c
    in omega (arith, a, b)

pub saves_size : (a : Operand) (i : ℕ) (bs : List Operand) (c : Code)
    → code_size (save_all a i bs c) ≡ 3 * length bs + code_size c
saves_size a i [] c = omega arith
saves_size a i (b ∷ bs) c = let h = saves_size a (suc i) bs c in omega (arith, h)

fill_size : (a : Operand) (i : ℕ) (b : Operand) (c : Code)
    → code_size (fill_word a i b c) ≤ 3 + code_size c
fill_size a i b c = by (is_number b 0)
  where
    by : (t : Bool) → code_size (elim t [ true ↦ c | false ↦ save a i b c ]) ≤ 3 + code_size c
    by true = omega arith
    by false = omega arith

fills_size : (a : Operand) (i : ℕ) (bs : List Operand) (c : Code)
    → code_size (fills a i bs c) ≤ 3 * length bs + code_size c
fills_size a i [] c = omega arith
fills_size a i (b ∷ bs) c = let h = fills_size a (suc i) bs c in let k
    = fill_size a i b (fills a (suc i) bs c) in omega (arith, h, k)

pub taken_size : (xs : List ℕ) (c : Code) → code_size (take_if_any xs c) ≤ 2 * length xs + code_size
    c
taken_size [] c = omega arith
taken_size (x ∷ xs) c = omega arith

pub words_many : (ws : List W.Word) → length (operands_of_words ws) ≡ length ws
words_many [] = refl
words_many (w ∷ ws) = ap suc (words_many ws)

front_few : (k : ℕ) (xs : List Operand) → length (take k xs) ≤ length xs
front_few zero [] = omega arith
front_few zero (x ∷ xs) = omega arith
front_few (suc k) [] = omega arith
front_few (suc k) (x ∷ xs) = let h = front_few k xs in omega (arith, h)

taken_few : (k : ℕ) (xs : List Operand) → length (take k xs) ≤ k
taken_few zero [] = omega arith
taken_few zero (x ∷ xs) = omega arith
taken_few (suc k) [] = omega arith
taken_few (suc k) (x ∷ xs) = let h = taken_few k xs in omega (arith, h)

-- the words of a value that are written into a cell
pub written_few : (width : ℕ) (v : V.Val) → width ≤ 14
    → length (take width (operands_of v)) ≤ val_weight v
written_few width (val.NodeVar x) le = let h = front_few width [] in omega (arith, h)
written_few width (val.Node t ws) le = let h = taken_few width (operands_of (val.Node t ws))
    in omega (arith, h, le)
written_few width (val.Vector ws) le = let h = front_few width (operands_of_words ws) in let k
    = words_many ws in omega (arith, h, k)
written_few width (val.One w) le = front_few width (operands_of (val.One w))

pub stores_size : (width : ℕ) (cs : List C.Cell) (c : Code) → width ≤ 14
    → code_size (store_all width cs c) + 2 * length cs ≤ 4 * cells_weight cs + code_size c
stores_size width [] c le = omega arith
stores_size width (x ∷ cs) c le =
    let h = stores_size width cs c le in
    let k = fills_size (Var x.var.0) 0 (take width (operands_of x.val)) (store_all width cs c) in
    let m = written_few width x.val le in
    omega (arith, h, k, m)
